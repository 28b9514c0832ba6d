-- What the bytes of a length mean, by its kind.
use Rattle.std.specs.Prelude.{ℕ, ◌%◌, ◌^◌, cond, List, take, drop, ℤ, pos, ◌+ℤ◌, neg_ℤ, nat_lt}
use Rattle.lengths.specs.declared.charge.Charge.{Charge}
use Rattle.lengths.specs.declared.charge_delay.ChargeDelay.{ChargeDelay}
use Rattle.tape.specs.Fields.{number}

-- the number of 32 bits that is x in two's complement
abbrev pub signed_32 : ℕ → ℤ
signed_32 x = cond (nat_lt x (2 ^ 31)) (pos x) (pos x +ℤ neg_ℤ (pos (2 ^ 32)))

-- mills, from four bytes; of more the last four count
abbrev pub mills_in : List ℕ → ℤ
mills_in bs = signed_32 (number bs % 2 ^ 32)

-- a charge is its mills
abbrev pub charge_in : List ℕ → Charge
charge_in bs = record { mills = mills_in bs }

-- four bytes of mills, then a delay of two
abbrev pub charge_delay_in : List ℕ → ChargeDelay
charge_delay_in bs = record { mills = mills_in (take 4 bs); delay = number (drop 4 bs) % 2 ^ 16 }
