use Rattle.std.specs.Slice.Iter.{iter_rest}
use Rattle.std.specs.Iterator.Adapters.{rev_source}
use Rattle.orders.proofs.Searches.{Taking}
use Rattle.orders.proofs.topological_order.TopologicalScanOrder.answer.Given as goal

abbrev pub invariant-loop-v : goal.invariant-loop-v
invariant-loop-v g l =
    (goal.iterator-loop-v g).can_next l.v-iterator × (goal.iterator-loop-v g).is_finite l.v-iterator
    × Taking g.L.Length.kind l.view.net.n l.view.net.trunks.now l.view.work.now l.view.lengths.now l.initial.list (iter_rest (rev_source l.v-iterator)) l.marks l.list
