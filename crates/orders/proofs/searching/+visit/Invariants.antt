use Rattle.std.proofs.Common.{drop}
use Rattle.running.specs.View.{run_in}
use Rattle.orders.specs.Marks.{unmarked}
use Rattle.orders.proofs.Visits.{Going}
use Rattle.orders.proofs.searching.+visit.Given as goal

abbrev pub decreases-visit : goal.decreases-visit
decreases-visit g l = unmarked l.marks.now

abbrev pub invariant-loop-t : goal.invariant-loop-t
invariant-loop-t g l = Going g.L.Length.kind l.view.net.n l.view.net.trunks.now (run_in l.view) l.v l.initial.marks l.initial.list (drop l.t-index l.t-items) l.marks l.list
