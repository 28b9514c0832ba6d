-- The lines of a sheet, in bytes.
use Rattle.std.specs.Prelude.{◌≡◌, ℕ, zero, suc, ◌%◌, cond, List, [], ◌∷◌, ◌++◌, Some, None, codes, decimal, string_bytes, Option, String, ◌==◌}
use Rattle.std.specs.declared.alloc.Global.{Global}

-- a text has these bytes behind what it was
abbrev pub Adds : List ℕ → String Global → String Global → Type 0
Adds bytes old new = string_bytes new ≡ string_bytes old ++ bytes

-- the end of a line
abbrev pub newline : List ℕ
newline = 10 ∷ []

-- the first line of a run: `word` says how it ended
abbrev pub first_line : ℕ → List ℕ → ℕ → ℕ → List ℕ
first_line home word passes scans =
    codes "home " ++ (decimal home ++ (codes " " ++ (word ++ (codes " passes " ++ (decimal passes ++ (codes " scans " ++ (decimal scans ++ newline)))))))

-- a value, or `-` where it is missing
abbrev pub or_dash : {A : Type 0} → (A → List ℕ) → Option A → List ℕ
or_dash shown None = codes "-"
or_dash shown (Some a) = shown a

-- an exchange: its number, its label, and the trunk by which a call arrives
abbrev pub exchange_line : {L : Type 0} → (L → List ℕ) → ℕ → Option L → Option ℕ → List ℕ
exchange_line printed x label arrival =
    decimal x ++ (codes " " ++ (or_dash printed label ++ (codes " " ++ (or_dash decimal arrival ++ newline))))

-- a blank line follows every tenth of the exchange lines
abbrev pub after_tenth : ℕ → List ℕ
after_tenth x = cond (x % 10 == 9) newline []

-- the lines of the exchanges below k
abbrev pub exchange_lines : {L : Type 0} → (L → List ℕ) → (ℕ → Option L) → (ℕ → Option ℕ) → ℕ → List ℕ
exchange_lines printed label_of arrival_of zero = []
exchange_lines printed label_of arrival_of (suc x) =
    exchange_lines printed label_of arrival_of x ++ (exchange_line printed x (label_of x) (arrival_of x) ++ after_tenth x)

-- numbers, each after a space
abbrev pub each_spaced : List ℕ → List ℕ
each_spaced [] = []
each_spaced (t ∷ ts) = codes " " ++ (decimal t ++ each_spaced ts)

-- numbers with single spaces between them
abbrev pub spaced : List ℕ → List ℕ
spaced [] = []
spaced (t ∷ ts) = decimal t ++ each_spaced ts

-- the line of a loop
abbrev pub trunk_line : List ℕ → List ℕ
trunk_line ts = spaced ts ++ newline

-- a fault: its layer, its number and the offset of its place
abbrev pub fault_line : ℕ → ℕ → ℕ → List ℕ
fault_line layer number at =
    codes "fault " ++ (decimal layer ++ (codes " " ++ (decimal number ++ (codes " at " ++ (decimal at ++ newline)))))
