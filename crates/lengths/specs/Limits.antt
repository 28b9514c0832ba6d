-- How large a charge or a delay may be where it is laid, and how many such limits cover one.
use Rattle.std.specs.Prelude.{ℕ, ◌+◌, ◌-◌, ◌/◌, ◌≤◌, ℤ, pos, neg_ℤ, ◌≤ℤ◌, unsigned_abs}

-- the largest charge that may be laid, in mills, on either side of zero
abbrev pub most_mills : ℕ
most_mills = 1_000_000

-- the largest delay that may be laid, in milliseconds
abbrev pub most_delay : ℕ
most_delay = 1_000

-- size divided by limit, rounded up
abbrev pub rounded_up : ℕ → ℕ → ℕ
rounded_up size limit = (size + (limit - 1)) / limit

-- how many of the largest charges reach as far from zero as z
abbrev pub charge_extent : ℤ → ℕ
charge_extent z = rounded_up (unsigned_abs z) most_mills

-- how many of the largest delays last as long as d
abbrev pub delay_extent : ℕ → ℕ
delay_extent d = rounded_up d most_delay

-- z is a charge that may be laid
abbrev pub ChargeWithin : ℤ → Type 0
ChargeWithin z = (neg_ℤ (pos most_mills) ≤ℤ z) × (z ≤ℤ pos most_mills)

-- d is a delay that may be laid
abbrev pub DelayWithin : ℕ → Type 0
DelayWithin d = d ≤ most_delay
