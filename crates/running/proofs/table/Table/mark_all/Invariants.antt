use Rattle.std.proofs.Common.{◌≡◌, vec_len, vec_capacity}
use Rattle.running.specs.Table.{dues, seen_all}
use Rattle.running.proofs.Marking.{GivenFirst}
use Rattle.running.proofs.table.Table.mark_all.Given as goal

abbrev pub invariant-loop-v : goal.invariant-loop-v
invariant-loop-v l =
    (seen_all l.self ≡ seen_all l.initial.self)
    × GivenFirst (dues l.initial.self) l.list l.due l.v-index (dues l.self)
    × (vec_len l.self.entries ≡ vec_len l.initial.self.entries)
    × (vec_capacity l.self.entries ≡ vec_capacity l.initial.self.entries)
