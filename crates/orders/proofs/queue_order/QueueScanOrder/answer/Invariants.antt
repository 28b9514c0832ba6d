use Rattle.std.proofs.Common.{◌≡◌, take, vec_items, vec_capacity}
use Rattle.orders.proofs.queue_order.QueueScanOrder.answer.Given as goal

abbrev pub invariant-loop-v : goal.invariant-loop-v
invariant-loop-v g l = (vec_items l.list ≡ take l.v-index (vec_items l.view.work.now.waiting)) × (vec_capacity l.list ≡ vec_capacity l.initial.list)
