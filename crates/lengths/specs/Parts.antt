-- Pairs that are compared by the first part and, where that is level, by the second, keep the laws of a length if their parts do.
use Rattle.std.specs.Prelude.{◌≡◌, ℕ, max, Bool, true, false, not, ◌&&◌, ◌||◌, ◌⊎◌, refl}
use Rattle.std.proofs.Common.{subst, ap₂, inl, inr, ⊎_elim, arith}
use Rattle.std.proofs.Math.Logic.{⊎_swap}
use Rattle.std.proofs.lemmas.Bool.{cases_Bool, both_ways, false≢true}
use Rattle.routing.specs.Kind.{Laws}

-- part by part
abbrev pub each : {V W : Type 0} → (V → V → V) → (W → W → W) → V × W → V × W → V × W
each f g a b = (f a.0 b.0, g a.1 b.1)

-- a's first part is not above b's and, where it is not below either, a's second part is not above b's
abbrev pub first_then : {V W : Type 0} → (V → V → Bool) → (W → W → Bool) → V × W → V × W → Bool
first_then p q a b = p a.0 b.0 && (not (p b.0 a.0) || q a.1 b.1)

-- the larger of two extents
abbrev pub larger : {V W : Type 0} → (V → ℕ) → (W → ℕ) → V × W → ℕ
larger e f a = max (e a.0) (f a.1)

-- what such a test says, in two facts
both_of : (x y z : Bool) → (x && (not y || z)) ≡ true → (x ≡ true) × (y ≡ true → z ≡ true)
both_of true true z h = (refl, λ level. h)
both_of true false z h = (refl, λ level. absurd (false≢true level))
both_of false y z h = absurd (false≢true h)

-- and back
of_both : (x y z : Bool) → (x ≡ true) × (y ≡ true → z ≡ true) → (x && (not y || z)) ≡ true
of_both true true z h = h.1 refl
of_both true false z h = refl
of_both false y z h = h.0

-- pairs are equal where their parts are
pub paired : {V W : Type 0} {v v' : V} {w w' : W} → v ≡ v' → w ≡ w' → ◌≡◌ {A = V × W} (v, w) (v', w')
paired e d = ap₂ (λ v w. (v, w)) e d

-- where the sum is not below d, what was added is not below zero
not_lowered : {V : Type 0} {zero : V} {sum : V → V → V} {p : V → V → Bool} {extent : V → ℕ} → Laws V zero sum p extent → (c d : V) → p d (sum d c) ≡ true → p zero c ≡ true
not_lowered {zero = zero} {sum} {p} laws c d h =
    ⊎_elim (λ k. k) (λ k. absurd (both_ways (p d (sum d c)) (laws.lowers c d k) h)) (cases_Bool (p zero c))

-- two kinds of values; what is added on both sides does not decide between two of the first
module _ {V W : Type 0} {zero : V} {none : W} {sum : V → V → V} {join : W → W → W} {p : V → V → Bool} {q : W → W → Bool} {e : V → ℕ} {f : W → ℕ} (first : Laws V zero sum p e) (second : Laws W none join q f) (cancel_left : (a b c : V) → p (sum a c) (sum b c) ≡ true → p a b ≡ true) (cancel_right : (a b c : V) → p (sum c a) (sum c b) ≡ true → p a b ≡ true) where
  -- the test
  abbrev pair_not_above : V × W → V × W → Bool
  pair_not_above = first_then p q

  -- not above by the first part and, where that is level, by the second
  abbrev Both : V × W → V × W → Type 0
  Both a b = (p a.0 b.0 ≡ true) × (p b.0 a.0 ≡ true → q a.1 b.1 ≡ true)

  -- the test passes only then
  parts : (a b : V × W) → pair_not_above a b ≡ true → Both a b
  parts a b = both_of (p a.0 b.0) (p b.0 a.0) (q a.1 b.1)

  -- and it passes then
  joined : (a b : V × W) → Both a b → pair_not_above a b ≡ true
  joined a b = of_both (p a.0 b.0) (p b.0 a.0) (q a.1 b.1)

  -- where the first parts are in order, the pairs are in one order or the other
  one_way : (a b : V × W) → p a.0 b.0 ≡ true → (pair_not_above a b ≡ true) ⊎ (pair_not_above b a ≡ true)
  one_way a b h =
      ⊎_elim
      (λ back. ⊎_elim (λ k. inl (joined a b (h, λ _. k))) (λ k. inr (joined b a (back, λ _. k))) (second.total a.1 b.1))
      (λ away. inl (joined a b (h, λ back. absurd (both_ways (p b.0 a.0) away back))))
      (cases_Bool (p b.0 a.0))

  -- so any two pairs are
  total : (a b : V × W) → (pair_not_above a b ≡ true) ⊎ (pair_not_above b a ≡ true)
  total a b = ⊎_elim (one_way a b) (λ h. ⊎_swap (one_way b a h)) (first.total a.0 b.0)

  -- the order passes on
  trans : (a b c : V × W) → Both a b → Both b c → Both a c
  trans a b c h k = (
    first.trans a.0 b.0 c.0 h.0 k.0,
    λ back.
        second.trans a.1 b.1 c.1
        (h.1 (first.trans b.0 c.0 a.0 k.0 back))
        (k.1 (first.trans c.0 a.0 b.0 back h.0)),
  )

  -- two pairs that are level are equal
  antisym : (a b : V × W) → Both a b → Both b a → a ≡ b
  antisym a b h k =
      paired (first.antisym a.0 b.0 h.0 k.0) (second.antisym a.1 b.1 (h.1 k.0) (k.1 h.0))

  -- a step that keeps the order of both parts, and does not make first parts level
  kept : (a b c d : V × W) → (p a.0 b.0 ≡ true → p c.0 d.0 ≡ true) → (p d.0 c.0 ≡ true → p b.0 a.0 ≡ true) → (q a.1 b.1 ≡ true → q c.1 d.1 ≡ true) → pair_not_above a b ≡ true → pair_not_above c d ≡ true
  kept a b c d there back last h =
      let k = parts a b h in joined c d (there k.0, λ level. last (k.1 (back level)))

  -- to add what is not above zero does not raise
  not_raised : (c d : V) → p c zero ≡ true → p (sum d c) d ≡ true
  not_raised c d h = subst (λ v. p (sum d c) v ≡ true) (first.zero_right d) (first.mono_right c zero d h)

  -- where a sum is not below d, the pair that was added is not below zero
  not_below_zero : (c d : V × W) → pair_not_above d (each sum join d c) ≡ true → pair_not_above (zero, none) c ≡ true
  not_below_zero c d =
      kept d (each sum join d c) (zero, none) c (not_lowered first c.0 d.0) (not_raised c.0 d.0) (not_lowered second c.1 d.1)

  -- so to add a pair below zero lowers
  lowers : (c d : V × W) → pair_not_above (zero, none) c ≡ false → pair_not_above d (each sum join d c) ≡ false
  lowers c d h =
      ⊎_elim (λ k. absurd (both_ways (pair_not_above (zero, none) c) h (not_below_zero c d k))) (λ k. k) (cases_Bool (pair_not_above d (each sum join d c)))

  -- the laws
  pub pairs : Laws (V × W) (zero, none) (each sum join) (first_then p q) (larger e f)
  pairs = record {
    total = total;
    trans = λ a b c h k. joined a c (trans a b c (parts a b h) (parts b c k));
    antisym = λ a b h k. antisym a b (parts a b h) (parts b a k);
    assoc = λ a b c. paired (first.assoc a.0 b.0 c.0) (second.assoc a.1 b.1 c.1);
    zero_left = λ a. paired (first.zero_left a.0) (second.zero_left a.1);
    zero_right = λ a. paired (first.zero_right a.0) (second.zero_right a.1);
    mono_left = λ a b c. kept a b (each sum join a c) (each sum join b c) (first.mono_left a.0 b.0 c.0) (cancel_left b.0 a.0 c.0) (second.mono_left a.1 b.1 c.1);
    mono_right = λ a b c. kept a b (each sum join c a) (each sum join c b) (first.mono_right a.0 b.0 c.0) (cancel_right b.0 a.0 c.0) (second.mono_right a.1 b.1 c.1);
    lowers = lowers;
    extent_zero = omega (arith, first.extent_zero, second.extent_zero);
    extent_sum = λ a b. omega (arith, first.extent_sum a.0 b.0, second.extent_sum a.1 b.1);
  }
