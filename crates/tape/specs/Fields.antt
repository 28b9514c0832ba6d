-- Fields of a tape: a number in some bytes, the highest byte first.
use Rattle.std.specs.Prelude.{◌≡◌, ℕ, zero, suc, ◌+◌, ◌*◌, ◌/◌, ◌%◌, ◌<◌, List, [], ◌∷◌, ◌++◌, length, take, drop, fold, slice_index}

-- the number that these bytes write
abbrev pub number : List ℕ → ℕ
number bs = fold (λ a b. a * 256 + b) 0 bs

-- x in k bytes
abbrev pub bytes_of : ℕ → ℕ → List ℕ
bytes_of zero x = []
bytes_of (suc k) x = bytes_of k (x / 256) ++ (x % 256 ∷ [])

-- each of the list is a byte
abbrev pub Bytes : List ℕ → Type 0
Bytes bs = (i : ℕ) → slice_index bs i < 256

-- x stands in the two bytes at a place
pub record Pair (bs : List ℕ) (at x : ℕ) : Type 0 where
  pub value : x ≡ number (take 2 (drop at bs))
  pub back : bytes_of 2 x ≡ take 2 (drop at bs)

-- the list with ys written over it from the place i on
abbrev pub put : List ℕ → ℕ → List ℕ → List ℕ
put xs i ys = take i xs ++ (ys ++ drop (i + length ys) xs)
