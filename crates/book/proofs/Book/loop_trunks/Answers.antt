use Rattle.std.proofs.Common.{◌++◌, length, drop, Some, ap, ◌∙◌}
use Rattle.std.proofs.lemmas.Result.{err_from_is_err_and}
use Rattle.routing.specs.Rules.{trunk}
use Rattle.book.proofs.ReadCalls.{way_back, loop_denied, loop_short, loop_written}
use Rattle.book.proofs.Book.loop_trunks.Goals as goal

pub returns-in_err-v : goal.returns-in_err-v
returns-in_err-v g c =
    let p = err_from_is_err_and c.from_residual.result c.from_residual.ensures.1 in
    rw (p.1, p.2) (loop_denied g.L.Length.kind c.args.self.now c.args.lengths.now c.args.into.now c.in_err-v.field-0.0 c.in_err-v.ensures.refuses)

pub returns-then-into-count : goal.returns-then-into-count
returns-then-into-count g c =
    let may = c.in_ok-v.ensures in
    loop_short g.L.Length.kind c.args.self.now c.args.lengths.now c.args.into.now may.refuses c.in_ok-v.v c.in_ok-v.t may.names c.trail_length-count.result
    (c.trail_length-count.ensures ∙ ap length (way_back g.L.Length.kind c.args.self.now c.args.lengths.now c.way-way.result c.way-way.ensures.size c.way-way.ensures.trunks c.way-way.ensures.table c.in_ok-v.v c.in_ok-v.t)) c.if-into-count.true

pub returns : goal.returns
returns g c =
    let K = g.L.Length.kind in
    let b = c.args.self.now in
    let e = c.way-way.ensures in
    let may = c.in_ok-v.ensures in
    let trails = way_back K b c.args.lengths.now c.way-way.result e.size e.trunks e.table c.in_ok-v.v c.in_ok-v.t in
    loop_written K b c.args.lengths.now c.args.into.now may.refuses c.in_ok-v.v c.in_ok-v.t may.names c.trail_length-count.result
    (c.trail_length-count.ensures ∙ ap length trails) _ c.if-into-count.false
    (c.write_at_front.ensures (Some (trunk c.way-way.result.net.trunks.now c.in_ok-v.t).to) c.trail_length-count.ensures ∙ ap (λ us. us ++ drop c.trail_length-count.result c.args.into.now) trails)
