use Rattle.std.proofs.Common.{add-one, append_assoc}
use Rattle.routing.specs.Readings.{charge, arrival}
use Rattle.blocks.specs.Listing.{listed}
use Rattle.blocks.proofs.Listed.{valued_as}
use Rattle.blocks.proofs.listing.Listing.print_exchanges.Goals as goal

pub loop-x-preserved : goal.loop-x-preserved
loop-x-preserved g c =
    let s = listed c.args.self.now in
    let x = c.loop-x.x in
    let next = add-one x in
    let so_far = c.loop-x.invariant in
    let line = c.in_ok-print_exchange.ensures in
    let blank = c.in_ok-print_blank.ensures in
    let label = valued_as c.charge.result (charge g.L.Length.kind s x) c.charge.ensures.is _ c.unwrap_or-label.ensures in
    let arriving = valued_as c.arrival.result (arrival s x) c.arrival.ensures.is _ c.unwrap_or-arrival.ensures in
    simp (next, blank, line, so_far, label, arriving, append_assoc)
