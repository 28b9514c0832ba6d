use Rattle.std.proofs.Common.{◌≡◌, map, length, take, drop}
use Rattle.book.specs.Orders.{ByOrder}
use Rattle.book.specs.State.{state_of}
use Rattle.replay.specs.Making.{Bears, SameName, answer_of, call_of}
use Rattle.replay.specs.Replaying.{MakesAll}
use Rattle.replay.proofs.replaying.make_all.Given as goal

abbrev pub invariant-loop-i : goal.invariant-loop-i
invariant-loop-i g l =
    Bears l.held l.book (length l.initial.lengths)
    × SameName l.initial.book l.book
    × MakesAll g.L.Length.kind (ByOrder g.L.Length.kind g.O.ScanOrder.answers l.initial.book.n) (state_of l.initial.book l.initial.lengths)
    (map (call_of l.initial.book.number) (take l.i l.calls)) (map answer_of (take l.i l.answers)) (state_of l.book l.lengths)
    × (drop l.i l.answers ≡ drop l.i l.initial.answers)
