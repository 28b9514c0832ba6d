use Rattle.std.proofs.Common.{append_assoc}
use Rattle.std.proofs.lemmas.Result.{on_ok_weaker}
use Rattle.printing.specs.Lines.{Adds}
use Rattle.blocks.specs.Listing.{exchanges_read, listed}
use Rattle.blocks.proofs.listing.Listing.print_block.Goals as goal

pub returns-in_ok-print_first-in-Settled : goal.returns-in_ok-print_first-in-Settled
returns-in_ok-print_first-in-Settled g c =
    let ended = c.in-Settled.is in
    let first = c.in_ok-print_first-in-Settled.ensures in
    on_ok_weaker c.print_exchanges.result
    (λ (lines : Adds (exchanges_read g.L.Length.kind g.L.Printed.printed (listed c.args.self.now) c.args.self.now.n) c.print_first.new.out c.print_exchanges.new.out). simp (ended, lines, first, append_assoc))
    c.print_exchanges.ensures
