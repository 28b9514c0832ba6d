use Rattle.std.proofs.Common.{take}
use Rattle.printing.specs.Lines.{Adds, each_spaced}
use Rattle.printing.proofs.lines.print_spaced.Given as goal

abbrev pub invariant-loop-t : goal.invariant-loop-t
invariant-loop-t l = Adds (each_spaced (take l.t-index l.numbers)) l.initial.out l.out
