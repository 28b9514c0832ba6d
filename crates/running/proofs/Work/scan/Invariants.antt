use Rattle.std.proofs.Common.{drop}
use Rattle.running.proofs.Scans.{Going}
use Rattle.running.proofs.Work.scan.Given as goal

abbrev pub invariant-loop-t : goal.invariant-loop-t
invariant-loop-t g l = Going g.L.Length.kind l.net.n l.net.trunks.now l.v l.initial.self l.initial.lengths (drop l.t-index l.t-items) l.self l.lengths
