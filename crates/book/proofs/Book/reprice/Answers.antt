use Rattle.std.proofs.Common.{true, refl}
use Rattle.std.proofs.lemmas.Result.{err_from_is_err_and}
use Rattle.book.specs.Refusal.{number_of}
use Rattle.book.proofs.Calls.{refused_so, repriced_so}
use Rattle.book.proofs.Book.reprice.Goals as goal
use Rattle.std.proofs.lemmas.Bool.{both_ways}
use Rattle.routing.specs.Calls.{reprice}

pub returns-in_err-may_reprice : goal.returns-in_err-may_reprice
returns-in_err-may_reprice g c =
    let p = err_from_is_err_and c.from_residual.result c.from_residual.ensures.1 in
    rw (p.1, p.2) (record {
      serves = refused_so g.L.Length.kind c.args.self.now c.args.lengths.now (reprice c.args.t c.args.length) (number_of c.in_err-may_reprice.field-0.0) c.in_err-may_reprice.ensures;
      refused = λ _. refl;
    })

pub returns : goal.returns
returns g c = record {
  serves = repriced_so g.L.Length.kind c.args.self.now c.args.lengths.now c.args.t c.args.length c.in_ok-may_reprice.ensures;
  refused = λ e. absurd (both_ways true e refl);
}
