use Rattle.printing.specs.Lines.{Adds}
use Rattle.blocks.specs.Listing.{exchanges_read, listed}
use Rattle.blocks.proofs.listing.Listing.print_exchanges.Given as goal

abbrev pub invariant-loop-x : goal.invariant-loop-x
invariant-loop-x g l = Adds (exchanges_read g.L.Length.kind g.L.Printed.printed (listed l.self) l.x) l.initial.out l.out
