use Rattle.std.proofs.Common.{append_assoc}
use Rattle.std.proofs.lemmas.List.{take_more}
use Rattle.printing.proofs.Texts.{spaced_more}
use Rattle.printing.proofs.lines.print_spaced.Goals as goal

pub loop-t-preserved : goal.loop-t-preserved
loop-t-preserved c =
    let e₁ = c.in_ok-write.ensures.bytes in
    let inv = c.loop-t.invariant in
    let more = take_more c.args.numbers.now c.loop-t.t-index 0 c.loop-t-test.true in
    simp (more, spaced_more, e₁, inv, append_assoc)
