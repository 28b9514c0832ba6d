use Rattle.std.proofs.Common.{◌≡◌, ◌-◌, ◌<◌}
use Rattle.routing.specs.Lists.{has}
use Rattle.routing.specs.Rules.{back}
use Rattle.running.specs.Table.{seen_all}
use Rattle.running.proofs.way.Way.meets.Given as goal

abbrev pub invariant-loop : goal.invariant-loop
invariant-loop l =
    (l.x < l.self.net.n)
    × (has l.w (back l.self.net.n l.self.net.trunks.now (seen_all l.self.table.now) l.v) ≡ has l.w (back (l.self.net.n - l.counter) l.self.net.trunks.now (seen_all l.self.table.now) l.x))
