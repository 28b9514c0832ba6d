-- A length as text, in bytes.
use Rattle.std.specs.Prelude.{ℕ, List, ◌++◌, codes, decimal}
use Rattle.std.specs.Fmt.{signed_decimal}
use Rattle.lengths.specs.declared.charge.Charge.{Charge}
use Rattle.lengths.specs.declared.charge_delay.ChargeDelay.{ChargeDelay}
use Rattle.lengths.specs.Charge.{charge}
use Rattle.lengths.specs.ChargeDelay.{charge_delay}

-- a charge is shown as its mills
abbrev pub charge_shown : Charge → List ℕ
charge_shown c = signed_decimal (charge.value c)

-- a charge with delay as both, with a stroke between them
abbrev pub charge_delay_shown : ChargeDelay → List ℕ
charge_delay_shown c = signed_decimal (charge_delay.value c).0 ++ (codes "/" ++ decimal (charge_delay.value c).1)
