-- The natural numbers, with an extent by any limit, keep the laws of a length.
use Rattle.std.specs.Prelude.{◌≡◌, ℕ, ◌+◌, ◌*◌, ◌%◌, ◌^◌, ◌<◌, ◌≤◌, nat_le}
use Rattle.std.proofs.Common.{inl, inr, ⊎_elim, arith, mod-eq_of_lt}
use Rattle.std.proofs.lemmas.Bool.{le-leb, leb-true, leb-false, cases_lt}
use Rattle.routing.specs.Kind.{Laws}
use Rattle.lengths.specs.Limits.{rounded_up}
use Rattle.lengths.specs.Rounding as rounding

module _ (limit : ℕ) (some : 0 < limit) where
  -- the laws; no number is below zero
  pub natural : Laws ℕ 0 ◌+◌ nat_le (λ n. rounded_up n limit)
  natural = record {
    total = λ a b. ⊎_elim (λ h. inl (le-leb a b (omega arith))) (λ h. inr (le-leb b a h)) (cases_lt a b);
    trans = λ a b c h k. le-leb a c (omega (arith, leb-true a b h, leb-true b c k));
    antisym = λ a b h k. omega (arith, leb-true a b h, leb-true b a k);
    assoc = λ a b c. omega arith;
    zero_left = λ a. omega arith;
    zero_right = λ a. omega arith;
    mono_left = λ a b c h. le-leb (a + c) (b + c) (omega (arith, leb-true a b h));
    mono_right = λ a b c h. le-leb (c + a) (c + b) (omega (arith, leb-true a b h));
    lowers = λ c d h. absurd (omega (arith, leb-false 0 c h));
    extent_zero = rounding.of_none limit some;
    extent_sum = rounding.subadditive limit some;
  }

  -- a sum of two numbers of small extent fits the 64 bits that hold it
  pub exact : 65536 * limit < 2 ^ 64 → (a b : ℕ) → rounded_up a limit + rounded_up b limit ≤ 65536 → (a + b) % 2 ^ 64 ≡ a + b
  exact room a b small =
      let bound = rounding.together limit some a b 65536 small in
      mod-eq_of_lt (omega arith)
