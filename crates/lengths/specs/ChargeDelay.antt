-- A kind of length with a charge, counted in mills, and then a delay, counted in milliseconds.
use Rattle.std.specs.Prelude.{ℕ, ◌+◌, ◌%◌, ◌^◌, ◌≤◌, ◌↔◌, ℤ, pos, ◌+ℤ◌, int_le, nat_le, refl}
use Rattle.std.proofs.Common.{arith, lit<}
use Rattle.std.specs.Int.{int_wrap, w64}
use Rattle.routing.specs.Kind.{Kind}
use Rattle.lengths.specs.declared.charge_delay.ChargeDelay.{ChargeDelay}
use Rattle.lengths.specs.Charge.{charge_laws, charge_exact, charge_within}
use Rattle.lengths.specs.ChargeLaws.{cancel_left, cancel_right}
use Rattle.lengths.specs.DelayLaws as delays
use Rattle.lengths.specs.Limits.{most_delay, charge_extent, delay_extent, ChargeWithin, DelayWithin}
use Rattle.lengths.specs.Parts.{each, first_then, larger, paired, pairs}
use Rattle.lengths.specs.Rounding.{one_covers}

-- a charge with a delay may be laid exactly when their extent is at most 1
pub charge_delay_within : (v : ℤ × ℕ) → (larger charge_extent delay_extent v ≤ 1) ↔ (ChargeWithin v.0 × DelayWithin v.1)
charge_delay_within v =
    let charge = charge_within v.0 in
    let delay = one_covers most_delay (lit< tt) v.1 in
    (λ h. (charge.0 (omega arith), delay.0 (omega arith)), λ h. omega (arith, charge.1 h.0, delay.1 h.1))

-- a charge and a delay, whose sums wrap at 64 bits, compared by the charge first
abbrev pub charge_delay : Kind ChargeDelay
charge_delay = record {
  Value = ℤ × ℕ;
  value = λ c. (c.mills, c.delay);
  zero = (pos 0, 0);
  sum = each ◌+ℤ◌ ◌+◌;
  not_above = first_then int_le nat_le;
  extent = larger charge_extent delay_extent;
  laws = pairs charge_laws (delays.natural most_delay (lit< tt)) cancel_left cancel_right;
  none = record { mills = pos 0; delay = 0 };
  none_is = refl;
  add = λ a b. record { mills = int_wrap w64 (a.mills +ℤ b.mills); delay = (a.delay + b.delay) % 2 ^ 64 };
  add_exact = λ a b small. paired (charge_exact a.mills b.mills (omega arith)) (delays.exact most_delay (lit< tt) (lit< tt) a.delay b.delay (omega arith));
}
