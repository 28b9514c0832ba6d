use Rattle.samples.proofs.Computed.{samples}
use Rattle.samples.proofs.worked.worked_examples.Goals as goal

pub returns : goal.returns
returns c = samples
