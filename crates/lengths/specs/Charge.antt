-- A kind of length whose values are the whole numbers, counted in mills.
use Rattle.std.specs.Prelude.{◌≡◌, ◌+◌, ◌≤◌, ◌↔◌, ℤ, pos, ◌+ℤ◌, int_le, refl}
use Rattle.std.proofs.Common.{lit<}
use Rattle.std.specs.Int.{int_wrap, w64}
use Rattle.routing.specs.Kind.{Kind, Laws}
use Rattle.lengths.specs.declared.charge.Charge.{Charge}
use Rattle.lengths.specs.ChargeLaws as laws
use Rattle.lengths.specs.Limits.{most_mills, charge_extent, ChargeWithin}

-- charges keep the laws of a length
pub charge_laws : Laws ℤ (pos 0) ◌+ℤ◌ int_le charge_extent
charge_laws = laws.whole most_mills (lit< tt)

-- the sum of two small charges does not wrap
pub charge_exact : (a b : ℤ) → charge_extent a + charge_extent b ≤ 65536 → int_wrap w64 (a +ℤ b) ≡ a +ℤ b
charge_exact = laws.exact most_mills (lit< tt) (lit< tt)

-- a charge may be laid exactly when its extent is at most 1
pub charge_within : (z : ℤ) → (charge_extent z ≤ 1) ↔ ChargeWithin z
charge_within = laws.within most_mills (lit< tt)

-- charges, whose sums wrap at 64 bits
abbrev pub charge : Kind Charge
charge = record {
  Value = ℤ;
  value = λ c. c.mills;
  zero = pos 0;
  sum = ◌+ℤ◌;
  not_above = int_le;
  extent = charge_extent;
  laws = charge_laws;
  none = record { mills = pos 0 };
  none_is = refl;
  add = λ a b. record { mills = int_wrap w64 (a.mills +ℤ b.mills) };
  add_exact = λ a b. charge_exact a.mills b.mills;
}
