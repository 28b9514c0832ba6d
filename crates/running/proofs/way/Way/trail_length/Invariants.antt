use Rattle.std.proofs.Common.{◌≡◌, ◌+◌, ◌-◌, ◌<◌, length}
use Rattle.running.specs.Table.{seen_all}
use Rattle.running.specs.Trails.{trail}
use Rattle.running.proofs.way.Way.trail_length.Given as goal

abbrev pub invariant-loop-count : goal.invariant-loop-count
invariant-loop-count l =
    (l.at < l.self.net.n)
    × (length (trail l.self.net.n l.self.net.trunks.now (seen_all l.self.table.now) l.stop l.x) ≡ l.count + length (trail (l.self.net.n - l.count) l.self.net.trunks.now (seen_all l.self.table.now) l.stop l.at))
