use Rattle.running.proofs.Turns.{Turning}
use Rattle.running.proofs.Work.take_turns.Given as goal

abbrev pub invariant-loop-v : goal.invariant-loop-v
invariant-loop-v g l = Turning g.L.Length.kind l.net.n l.net.trunks.now l.answered l.initial.self l.initial.lengths l.v-index l.self l.lengths
