-- A network as a run is shown it: exchanges, trunks, and the open trunks in the order of the exchanges that they leave.
use Rattle.std.specs.Prelude.{◌≡◌, ℕ, ◌+◌, ◌<◌, ◌≤◌, List, length, slice_index_or, slice_range}
use Rattle.routing.specs.declared.Trunk.{Trunk}
use Rattle.routing.specs.Rules.{trunk, leaving}

-- each of these trunks leads from one of n exchanges to one
abbrev pub Ends : ℕ → List Trunk → Type 0
Ends n ts = ((t : ℕ) → t < length ts → (trunk ts t).from < n) × ((t : ℕ) → t < length ts → (trunk ts t).to < n)

-- where the part of v in the list begins
abbrev pub part_start : (starts : List ℕ) → ℕ → ℕ
part_start starts v = slice_index_or starts v 0

-- and where it ends: where the next begins, or with the list
abbrev pub part_end : (starts listed : List ℕ) → ℕ → ℕ
part_end starts listed v = slice_index_or starts (v + 1) (length listed)

-- each of n exchanges has a part of the list
abbrev pub Parted : ℕ → (starts listed : List ℕ) → Type 0
Parted n starts listed =
    (length starts ≡ n)
    × ((v : ℕ) → v < n → part_start starts v ≤ part_end starts listed v)
    × ((v : ℕ) → v < n → part_end starts listed v ≤ length listed)

-- the part of each exchange has the open trunks that leave it
abbrev pub Leads : ℕ → List Trunk → (starts listed : List ℕ) → Type 0
Leads n ts starts listed = (v : ℕ) → v < n → slice_range listed (part_start starts v) (part_end starts listed v) ≡ leaving ts v

-- the list has a label for each of n exchanges and a length for each trunk
abbrev pub Fits : {L : Type 0} → ℕ → List Trunk → List L → Type 0
Fits n ts ls = n + length ts ≤ length ls
