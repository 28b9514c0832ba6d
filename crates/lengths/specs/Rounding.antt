-- A size divided by any limit and rounded up: the least count of limits that covers the size. The first two say so, and the rest follows.
use Rattle.std.specs.Prelude.{◌≡◌, ℕ, suc, ◌+◌, ◌-◌, ◌*◌, ◌<◌, ◌≤◌, ◌↔◌}
use Rattle.std.proofs.Common.{arith, div-lt_iff_lt-mul, add-mul, suc-mul, mul-le-mul_right}
use Rattle.lengths.specs.Limits.{rounded_up}

module _ (limit : ℕ) (some : 0 < limit) where
  -- so many limits, or more, cover the size
  pub covered : (size count : ℕ) → rounded_up size limit ≤ count → size ≤ count * limit
  covered size count h =
      let below : rounded_up size limit < suc count = omega arith in
      let wide = (div-lt_iff_lt-mul some).0 below in omega (arith, suc-mul count limit)

  -- no count that covers the size is less
  pub covers : (size count : ℕ) → size ≤ count * limit → rounded_up size limit ≤ count
  covers size count h =
      let wide : size + (limit - 1) < suc count * limit = omega (arith, suc-mul count limit) in
      let below = (div-lt_iff_lt-mul some).1 wide in omega arith

  -- no size takes no limit
  pub of_none : rounded_up 0 limit ≡ 0
  of_none = omega (arith, covers 0 0 (omega arith))

  -- a larger size takes no fewer
  pub monotone : (a b : ℕ) → a ≤ b → rounded_up a limit ≤ rounded_up b limit
  monotone a b h =
      covers a (rounded_up b limit) (omega (arith, covered b (rounded_up b limit) (omega arith)))

  -- what covers two sizes apart covers them together
  pub together : (a b count : ℕ) → rounded_up a limit + rounded_up b limit ≤ count → a + b ≤ count * limit
  together a b count h =
      let m = rounded_up a limit in
      let n = rounded_up b limit in
      omega (arith, covered a m (omega arith), covered b n (omega arith), add-mul m n limit, mul-le-mul_right limit h)

  -- two sizes take no more together than apart
  pub subadditive : (a b : ℕ) → rounded_up (a + b) limit ≤ rounded_up a limit + rounded_up b limit
  subadditive a b =
      let apart = rounded_up a limit + rounded_up b limit in covers (a + b) apart (together a b apart (omega arith))

  -- one is enough exactly up to the limit
  pub one_covers : (size : ℕ) → (rounded_up size limit ≤ 1) ↔ (size ≤ limit)
  one_covers size = (λ h. omega (arith, covered size 1 h), λ h. covers size 1 (omega arith))
