-- The whole numbers, with an extent by any limit, keep the laws of a length.
use Rattle.std.specs.Prelude.{◌≡◌, ℕ, ◌+◌, ◌*◌, ◌^◌, ◌<◌, ◌≤◌, true, ◌↔◌, ℤ, pos, ◌+ℤ◌, neg_ℤ, ◌≤ℤ◌, int_le, unsigned_abs}
use Rattle.std.proofs.Common.{sym, inl, inr, ⊎_elim, arith}
use Rattle.std.specs.Int.{int_wrap, w64}
use Rattle.std.proofs.lemmas.Int.{ints, int_wrap_fits}
use Rattle.std.proofs.lemmas.Bool.{cases_Bool}
use Rattle.routing.specs.Kind.{Laws}
use Rattle.lengths.specs.Limits.{rounded_up}
use Rattle.lengths.specs.Rounding as rounding

-- what is added to both on the right does not decide between them
pub cancel_left : (a b c : ℤ) → int_le (a +ℤ c) (b +ℤ c) ≡ true → int_le a b ≡ true
cancel_left a b c h = sym (omega (arith, ints))

-- nor what is added on the left
pub cancel_right : (a b c : ℤ) → int_le (c +ℤ a) (c +ℤ b) ≡ true → int_le a b ≡ true
cancel_right a b c h = sym (omega (arith, ints))

-- a sum is no further from zero than its parts together
size_sum : (a b : ℤ) → unsigned_abs (a +ℤ b) ≤ unsigned_abs a + unsigned_abs b
size_sum a b = omega (arith, ints)

module _ (limit : ℕ) (some : 0 < limit) where
  -- and so its extent is no larger
  extent_sum : (a b : ℤ) → rounded_up (unsigned_abs (a +ℤ b)) limit ≤ rounded_up (unsigned_abs a) limit + rounded_up (unsigned_abs b) limit
  extent_sum a b =
      let nearer = rounding.monotone limit some (unsigned_abs (a +ℤ b)) (unsigned_abs a + unsigned_abs b) (size_sum a b) in
      let apart = rounding.subadditive limit some (unsigned_abs a) (unsigned_abs b) in omega arith

  -- the laws
  pub whole : Laws ℤ (pos 0) ◌+ℤ◌ int_le (λ z. rounded_up (unsigned_abs z) limit)
  whole = record {
    total = λ a b. ⊎_elim inl (λ h. inr (sym (omega (arith, ints)))) (cases_Bool (int_le a b));
    trans = λ a b c h k. sym (omega (arith, ints));
    antisym = λ a b h k. omega (arith, ints);
    assoc = λ a b c. omega (arith, ints);
    zero_left = λ a. omega (arith, ints);
    zero_right = λ a. omega (arith, ints);
    mono_left = λ a b c h. sym (omega (arith, ints));
    mono_right = λ a b c h. sym (omega (arith, ints));
    lowers = λ c d h. sym (omega (arith, ints));
    extent_zero = rounding.of_none limit some;
    extent_sum = extent_sum;
  }

  -- a sum of two numbers of small extent fits the 64 bits that hold it
  pub exact : 65536 * limit < 2 ^ 63 → (a b : ℤ) → rounded_up (unsigned_abs a) limit + rounded_up (unsigned_abs b) limit ≤ 65536 → int_wrap w64 (a +ℤ b) ≡ a +ℤ b
  exact room a b small =
      let bound = rounding.together limit some (unsigned_abs a) (unsigned_abs b) 65536 small in
      int_wrap_fits w64 (a +ℤ b) (omega (arith, ints, size_sum a b))

  -- an extent of at most 1 is one within the limit, on either side of zero
  pub within : (z : ℤ) → (rounded_up (unsigned_abs z) limit ≤ 1) ↔ ((neg_ℤ (pos limit) ≤ℤ z) × (z ≤ℤ pos limit))
  within z =
      let near = rounding.one_covers limit some (unsigned_abs z) in
      (λ h. let size = near.0 h in omega (arith, ints), λ h. near.1 (omega (arith, ints)))
