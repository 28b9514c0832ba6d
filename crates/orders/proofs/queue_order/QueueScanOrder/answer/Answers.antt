use Rattle.std.proofs.Common.{◌≡◌, ℕ, ◌<◌, ◌≤◌, List, length, vec_items, ap, ◌∙◌, arith}
use Rattle.std.proofs.lemmas.List.{length-take-le}
use Rattle.running.proofs.Moves.{few_wait}
use Rattle.orders.proofs.queue_order.QueueScanOrder.answer.Goals as goal

pub push_reserved-requires : goal.push_reserved-requires
push_reserved-requires g c =
    let ws : List ℕ = vec_items c.args.view.now.work.now.waiting in
    let few : length ws ≤ c.args.view.now.net.n = few_wait c.args.view.now.net.n (length c.args.view.now.net.trunks.now) c.args.view.now.work.now.table c.args.view.now.work.now.waiting c.args.view.now.sound in
    let here : c.loop-v.v-index < length ws = rw c.deref-v-items.ensures.value at c.loop-v-test.true in
    let long : length (vec_items c.loop-v.list) ≡ c.loop-v.v-index = ap length c.loop-v.invariant.0 ∙ length-take-le c.loop-v.v-index ws (omega arith) in
    omega (arith, c.loop-v.list.ok.0, c.loop-v.invariant.1, c.requires.1)
