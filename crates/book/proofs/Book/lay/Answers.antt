use Rattle.std.proofs.Common.{true, vec_items, vec_len, refl, arith}
use Rattle.std.proofs.lemmas.Result.{err_from_is_err_and}
use Rattle.std.proofs.lemmas.Bool.{both_ways}
use Rattle.routing.specs.Calls.{lay}
use Rattle.routing.specs.History.{edit, laid}
use Rattle.book.specs.Refusal.{number_of}
use Rattle.book.proofs.Calls.{refused_so, may_do, laid_so}
use Rattle.book.proofs.Keeps.{whole_idle, laid_push, rests_push, names_push}
use Rattle.book.proofs.Book.lay.Goals as goal

pub returns-in_err-may_lay : goal.returns-in_err-may_lay
returns-in_err-may_lay g c =
    let p = err_from_is_err_and c.from_residual.result c.from_residual.ensures.1 in
    rw (p.1, p.2) (record {
      serves = refused_so g.L.Length.kind c.args.self.now c.args.lengths.now (lay c.args.from c.args.to c.args.length) (number_of c.in_err-may_lay.field-0.0) c.in_err-may_lay.ensures;
      refused = λ _. refl;
    })

pub invariant_of-self : goal.invariant_of-self
invariant_of-self g c =
    let b = c.args.self.now in
    let e = c.push_reserved.ensures in
    let ts = c.push_reserved.new.self in
    let ok = may_do g.L.Length.kind b c.args.lengths.now (lay c.args.from c.args.to c.args.length) (edit (laid c.args.from c.args.to c.args.length)) c.in_ok-may_lay.ensures refl in
    whole_idle b.n ts b.index b.work b.list (omega (arith, e.capacity, b.roomy.0), b.roomy.1, b.roomy.2, b.roomy.3) b.spare
    (laid_push b.n b.trunks ts _ e.items e.len ok.2.0 ok.2.1 (omega (arith, ok.2.4, b.trunks.ok.0)) b.laid) (rests_push (vec_len b.trunks) (vec_len ts) b.work e.len b.rests) b.tells (names_push b.n b.trunks ts b.work e.len b.names)

pub returns : goal.returns
returns g c = record {
  serves = laid_so g.L.Length.kind c.args.self.now c.args.lengths.now c.args.from c.args.to c.args.length c.len-t.result (vec_items c.push_reserved.new.self) c.in_ok-may_lay.ensures c.len-t.ensures c.push_reserved.ensures.items;
  refused = λ e. absurd (both_ways true e refl);
}
