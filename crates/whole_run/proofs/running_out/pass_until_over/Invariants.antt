use Rattle.std.proofs.Common.{◌≡◌, length}
use Rattle.book.specs.Orders.{ByOrder}
use Rattle.book.specs.State.{Owed, state_of}
use Rattle.whole_run.specs.Whole.{Passes}
use Rattle.whole_run.proofs.running_out.pass_until_over.Given as goal

abbrev pub invariant-loop : goal.invariant-loop
invariant-loop g l =
    Owed l.ticket l.book (length l.initial.lengths)
    × (l.book.n ≡ l.initial.book.n)
    × Passes g.L.Length.kind (ByOrder g.L.Length.kind g.O.ScanOrder.answers l.initial.book.n) (state_of l.initial.book l.initial.lengths) l.counter (state_of l.book l.lengths)
