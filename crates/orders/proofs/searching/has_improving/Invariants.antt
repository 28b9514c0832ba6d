use Rattle.std.proofs.Common.{◌≡◌, drop}
use Rattle.routing.specs.Lists.{any}
use Rattle.routing.specs.Rules.{improving}
use Rattle.routing.specs.Orders.{has_improving}
use Rattle.running.specs.View.{run_in}
use Rattle.orders.proofs.searching.has_improving.Given as goal

abbrev pub invariant-loop-t : goal.invariant-loop-t
invariant-loop-t g l =
    has_improving g.L.Length.kind l.view.net.n l.view.net.trunks.now (run_in l.view) l.v
    ≡ any (improving g.L.Length.kind l.view.net.n l.view.net.trunks.now (run_in l.view) l.v) (drop l.t-index l.t-items)
