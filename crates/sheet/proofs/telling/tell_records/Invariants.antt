use Rattle.std.proofs.Common.{◌+◌, ◌-◌, [], length, replicate, string_bytes}
use Rattle.book.specs.State.{state_of}
use Rattle.sheet.specs.Told.{form_of, told_from}
use Rattle.sheet.proofs.Resting.{Rest}
use Rattle.sheet.proofs.telling.tell_records.Given as goal

abbrev pub invariant-loop-at : goal.invariant-loop-at
invariant-loop-at g l =
    Rest (form_of g.L.Length.kind g.L.Length.WIDTH g.L.TapeLength.meant g.L.Printed.printed) 0 l.n (replicate (l.n + 4096) g.L.Length.kind.none) l.tape
    (told_from (form_of g.L.Length.kind g.L.Length.WIDTH g.L.TapeLength.meant g.L.Printed.printed) (length l.tape) l.tape 4 (state_of l.initial.book l.initial.lengths) []) (string_bytes l.initial.out)
    (state_of l.book l.lengths) (string_bytes l.out) l.at

abbrev pub decreases-loop-at : goal.decreases-loop-at
decreases-loop-at g l = length l.tape - l.at
