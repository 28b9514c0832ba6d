use Rattle.std.proofs.Common.{true, refl}
use Rattle.std.proofs.lemmas.Result.{err_from_is_err_and}
use Rattle.std.proofs.lemmas.Bool.{both_ways}
use Rattle.book.specs.Refusal.{number_of}
use Rattle.book.proofs.Calls.{switch_refused, switched_so, known_trunk}
use Rattle.book.proofs.Book.set_barred.Goals as goal

pub returns-in_err-may_bar : goal.returns-in_err-may_bar
returns-in_err-may_bar g c =
    let p = err_from_is_err_and c.from_residual.result c.from_residual.ensures.1 in
    rw (p.1, p.2) (record {
      serves = switch_refused g.L.Length.kind c.args.self.now c.args.lengths.now c.args.barred c.args.t (number_of c.in_err-may_bar.field-0.0) c.in_err-may_bar.ensures;
      refused = λ _. refl;
    })

pub returns : goal.returns
returns g c =
    let b = c.args.self.now in
    record {
      serves = switched_so g.L.Length.kind b c.args.lengths.now c.args.barred c.args.t c.index_mut.result.now (known_trunk g.L.Length.kind b c.args.lengths.now c.args.t c.in_ok-may_bar.ensures) c.index_mut.ensures.value c.in_ok-may_bar.ensures;
      refused = λ e. absurd (both_ways true e refl);
    }
