-- The bits of two numbers, added as they wrap, are the bits of the wrapped sum.
use Rattle.std.proofs.Common.{rules}
use Rattle.std.proofs.lemmas.Int.{wraps}
use Rattle.lengths.proofs.charge_delay.ChargeDelayLength.add.Goals as goal

pub returns : goal.returns
returns c = search (rules, wraps)
