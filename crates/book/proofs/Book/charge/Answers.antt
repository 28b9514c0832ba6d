use Rattle.std.proofs.Common.{◌<◌, vec_len, ap, ◌∙◌, arith}
use Rattle.std.proofs.lemmas.List.{get_or_read}
use Rattle.std.proofs.lemmas.Result.{err_from_is_err_and}
use Rattle.running.proofs.Tables.{read_seen}
use Rattle.book.specs.Refusal.{number_of}
use Rattle.book.proofs.ReadCalls.{runs, below, room, charge_denied, charge_some, charge_none}
use Rattle.book.proofs.Book.charge.Goals as goal

pub returns-in_err-may_read : goal.returns-in_err-may_read
returns-in_err-may_read g c =
    let p = err_from_is_err_and c.from_residual.result c.from_residual.ensures.1 in
    rw (p.1, p.2) (charge_denied g.L.Length.kind c.args.self.now c.args.lengths.now c.args.x (number_of c.in_err-may_read.field-0.0) c.in_err-may_read.ensures)

pub returns-then-index : goal.returns-then-index
returns-then-index g c =
    let K = g.L.Length.kind in
    let b = c.args.self.now in
    let ok = c.in_ok-may_read.ensures in
    let inside : c.args.x < vec_len b.work.table.entries = omega (arith, below K b c.args.lengths.now c.args.x ok, (b.seated (runs K b c.args.lengths.now c.args.x ok)).2) in
    charge_some K b c.args.lengths.now c.args.x ok c.index-lengths-x.result
    (ap (λ z. z.reached) (read_seen b.work.table c.args.x c.index.result.now inside c.index.ensures) ∙ c.if-index.true)
    (get_or_read c.args.lengths.now c.args.x c.index-lengths-x.result (omega (arith, below K b c.args.lengths.now c.args.x ok, room K b c.args.lengths.now c.args.x ok)) c.index-lengths-x.is _)

pub returns-else-index : goal.returns-else-index
returns-else-index g c =
    let K = g.L.Length.kind in
    let b = c.args.self.now in
    let ok = c.in_ok-may_read.ensures in
    let inside : c.args.x < vec_len b.work.table.entries = omega (arith, below K b c.args.lengths.now c.args.x ok, (b.seated (runs K b c.args.lengths.now c.args.x ok)).2) in
    charge_none K b c.args.lengths.now c.args.x ok (ap (λ z. z.reached) (read_seen b.work.table c.args.x c.index.result.now inside c.index.ensures) ∙ c.if-index.false)
