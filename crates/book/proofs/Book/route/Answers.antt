use Rattle.std.proofs.Common.{◌<◌, ◌++◌, length, drop, None, vec_len, ap, ◌∙◌, arith}
use Rattle.std.proofs.lemmas.Result.{err_from_is_err_and}
use Rattle.running.proofs.Tables.{read_seen}
use Rattle.book.proofs.ReadCalls.{runs, below, way_trail, route_denied, route_unreached, route_short, route_written}
use Rattle.book.proofs.Book.route.Goals as goal

pub returns-in_err-may_read : goal.returns-in_err-may_read
returns-in_err-may_read g c =
    let p = err_from_is_err_and c.from_residual.result c.from_residual.ensures.1 in
    rw (p.1, p.2) (route_denied g.L.Length.kind c.args.self.now c.args.lengths.now c.args.x c.args.into.now c.in_err-may_read.field-0.0 c.in_err-may_read.ensures)

pub returns-then-not-index : goal.returns-then-not-index
returns-then-not-index g c =
    let K = g.L.Length.kind in
    let b = c.args.self.now in
    let ok = c.in_ok-may_read.ensures in
    let inside : c.args.x < vec_len b.work.table.entries = omega (arith, below K b c.args.lengths.now c.args.x ok, (b.seated (runs K b c.args.lengths.now c.args.x ok)).2) in
    route_unreached K b c.args.lengths.now c.args.x c.args.into.now ok (ap (λ z. z.reached) (read_seen b.work.table c.args.x c.index.result.now inside c.index.ensures) ∙ c.if-not-index.true)

pub returns-then-into-count : goal.returns-then-into-count
returns-then-into-count g c =
    let K = g.L.Length.kind in
    let b = c.args.self.now in
    let e = c.way-way.ensures in
    let ok = c.in_ok-may_read.ensures in
    let inside : c.args.x < vec_len b.work.table.entries = omega (arith, below K b c.args.lengths.now c.args.x ok, (b.seated (runs K b c.args.lengths.now c.args.x ok)).2) in
    route_short K b c.args.lengths.now c.args.x c.args.into.now ok (ap (λ z. z.reached) (read_seen b.work.table c.args.x c.index.result.now inside c.index.ensures) ∙ c.if-not-index.false) c.trail_length-count.result
    (c.trail_length-count.ensures ∙ ap length (way_trail K b c.args.lengths.now c.way-way.result e.size e.trunks e.table None c.args.x)) c.if-into-count.true

pub returns : goal.returns
returns g c =
    let K = g.L.Length.kind in
    let b = c.args.self.now in
    let e = c.way-way.ensures in
    let ok = c.in_ok-may_read.ensures in
    let inside : c.args.x < vec_len b.work.table.entries = omega (arith, below K b c.args.lengths.now c.args.x ok, (b.seated (runs K b c.args.lengths.now c.args.x ok)).2) in
    let trails = way_trail K b c.args.lengths.now c.way-way.result e.size e.trunks e.table None c.args.x in
    route_written K b c.args.lengths.now c.args.x c.args.into.now ok (ap (λ z. z.reached) (read_seen b.work.table c.args.x c.index.result.now inside c.index.ensures) ∙ c.if-not-index.false) c.trail_length-count.result
    (c.trail_length-count.ensures ∙ ap length trails) _ c.if-into-count.false
    (c.write_at_front.ensures None c.trail_length-count.ensures ∙ ap (λ us. us ++ drop c.trail_length-count.result c.args.into.now) trails)
