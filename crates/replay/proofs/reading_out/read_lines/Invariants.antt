use Rattle.book.specs.State.{state_of}
use Rattle.replay.specs.Reading.{Filled}
use Rattle.replay.proofs.reading_out.read_lines.Given as goal

abbrev pub invariant-loop-x : goal.invariant-loop-x
invariant-loop-x g l = Filled g.L.Length.kind l.x (state_of l.book l.lengths) l.initial.lines l.lines
