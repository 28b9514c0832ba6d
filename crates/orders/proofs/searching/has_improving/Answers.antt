use Rattle.running.proofs.Indexes.{leaving_at}
use Rattle.orders.proofs.searching.has_improving.Goals as goal

pub improves-requires : goal.improves-requires
improves-requires g c = (c.requires, leaving_at c.args.view.now.net.trunks.now c.args.v c.leaving-t-items.result.now c.loop-t.t-index c.leaving-t-items.ensures c.loop-t-test.true)
