use Rattle.std.proofs.Common.{◌<◌, vec_len, sym, ap, arith}
use Rattle.std.proofs.lemmas.Result.{err_from_is_err_and}
use Rattle.running.proofs.Tables.{read_seen}
use Rattle.book.specs.Refusal.{number_of}
use Rattle.book.proofs.ReadCalls.{runs, below, arrival_denied, arrival_told}
use Rattle.book.proofs.Book.arrival.Goals as goal

pub returns-in_err-may_read : goal.returns-in_err-may_read
returns-in_err-may_read g c =
    let p = err_from_is_err_and c.from_residual.result c.from_residual.ensures.1 in
    rw (p.1, p.2) (arrival_denied g.L.Length.kind c.args.self.now c.args.lengths.now c.args.x (number_of c.in_err-may_read.field-0.0) c.in_err-may_read.ensures)

pub returns : goal.returns
returns g c =
    let K = g.L.Length.kind in
    let b = c.args.self.now in
    let ok = c.in_ok-may_read.ensures in
    let inside : c.args.x < vec_len b.work.table.entries = omega (arith, below K b c.args.lengths.now c.args.x ok, (b.seated (runs K b c.args.lengths.now c.args.x ok)).2) in
    arrival_told K b c.args.lengths.now c.args.x ok c.index.result.now.arriving (sym (ap (λ z. z.arriving) (read_seen b.work.table c.args.x c.index.result.now inside c.index.ensures)))
