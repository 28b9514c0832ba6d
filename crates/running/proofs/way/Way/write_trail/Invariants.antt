use Rattle.std.proofs.Common.{◌≡◌, ℕ, ◌<◌, length, Option}
use Rattle.running.specs.Table.{seen_all}
use Rattle.running.specs.Trails.{trail}
use Rattle.running.proofs.Trailing.{Left}
use Rattle.running.proofs.way.Way.write_trail.Given as goal

abbrev pub invariant-loop-i : goal.invariant-loop-i
invariant-loop-i l =
    (l.at < l.self.net.n)
    × ((stop : Option ℕ) → length l.initial.into ≡ length (trail l.self.net.n l.self.net.trunks.now (seen_all l.self.table.now) stop l.x)
    → Left l.self.net.n l.self.net.trunks.now (seen_all l.self.table.now) stop l.x l.initial.into l.i l.at l.into)
