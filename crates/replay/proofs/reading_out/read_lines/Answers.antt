use Rattle.std.proofs.Common.{◌∙◌, arith}
use Rattle.book.specs.State.{state_of}
use Rattle.replay.proofs.Fillings.{filled_set, told_or}
use Rattle.replay.proofs.reading_out.read_lines.Goals as goal

pub loop-x-preserved : goal.loop-x-preserved
loop-x-preserved g c =
    filled_set g.L.Length.kind (state_of c.args.book.now c.args.lengths.now) c.args.lines.now c.loop-x.x c.loop-x.lines _ c.loop-x.invariant (omega arith)
    (λ o is. c.unwrap_or-line.ensures ∙ told_or c.charge.result _ o c.charge.ensures.is is) (λ o is. c.unwrap_or-line-in-loop-x.ensures ∙ told_or c.arrival.result _ o c.arrival.ensures.is is)
