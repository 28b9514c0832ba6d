use Rattle.std.proofs.Common.{true, vec_len, refl, ap, arith}
use Rattle.std.proofs.lemmas.Result.{err_from_is_err_and}
use Rattle.std.proofs.lemmas.Bool.{both_ways}
use Rattle.routing.specs.Rules.{Run, is_loop}
use Rattle.routing.specs.Calls.{begin}
use Rattle.routing.specs.History.{step, began}
use Rattle.book.specs.Refusal.{number_of}
use Rattle.book.proofs.Calls.{refused_so, may_do}
use Rattle.book.proofs.Keeps.{rests_from, tells_from, names_calm}
use Rattle.book.proofs.RunCalls.{begun_so}
use Rattle.book.proofs.Book.begin.Goals as goal

pub returns-in_err-may_begin : goal.returns-in_err-may_begin
returns-in_err-may_begin g c =
    let p = err_from_is_err_and c.from_residual.result c.from_residual.ensures.1 in
    rw (p.1, p.2) (record {
      serves = refused_so g.L.Length.kind c.args.self.now c.args.lengths.now (begin c.args.home) (number_of c.in_err-may_begin.field-0.0) c.in_err-may_begin.ensures;
      ticket = tt;
      owed = tt;
      refused = λ _. refl;
    })

pub invariant_of-self : goal.invariant_of-self
invariant_of-self g c =
    let b = c.args.self.now in
    let home = c.args.home in
    let ix = c.renew.new.index in
    let w = c.begin.new.self in
    let ok = may_do g.L.Length.kind b c.args.lengths.now (begin home) (step (began home)) c.in_ok-may_begin.ensures refl in
    let sound = c.begin.ensures.sound (vec_len b.trunks) in
    let room = c.begin.ensures.room in
    let caps = c.renew.ensures.cap in
    record {
      roomy = (b.roomy.0, omega (arith, caps.0, b.roomy.1), omega (arith, caps.1, b.roomy.2), omega (arith, room.0, b.roomy.3));
      spare = (omega (arith, room.1, b.spare.0), b.spare.1);
      laid = b.laid;
      seated = λ _. (ok.0.0, ok.0.1, sound.entries);
      indexed = λ _. (c.renew.ensures.parted, rw c.deref.ensures.value at c.renew.ensures.leads);
      rests = rests_from b.n (vec_len b.trunks) w sound;
      tells = tells_from b.n w (λ _. c.begin.ensures.marked);
      names = names_calm b.n b.trunks w (ap (λ (r : Run g.row.L.Denot). is_loop r.verdict) c.begin.ensures.does);
    }

pub returns : goal.returns
returns g c =
    let b = c.args.self.now in
    let ok = may_do g.L.Length.kind b c.args.lengths.now (begin c.args.home) (step (began c.args.home)) c.in_ok-may_begin.ensures refl in
    record {
      serves = begun_so g.L.Length.kind c.args.self.now c.args.lengths.now c.args.home c.begin.new.self c.begin.new.lengths c.in_ok-may_begin.ensures c.begin.ensures.does;
      ticket = refl;
      owed = record { some = ok.0.0; few = ok.0.1; room = omega (arith, ok.0.2, b.trunks.ok.0); open_run = refl; bears = refl };
      refused = λ e. absurd (both_ways true e refl);
    }
