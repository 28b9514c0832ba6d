use Rattle.std.proofs.Common.{◌≡◌, true, length, vec_items, vec_len, sym, refl, ap, ◌∙◌, arith}
use Rattle.std.proofs.lemmas.Result.{err_from_is_err_and}
use Rattle.std.proofs.lemmas.Bool.{both_ways}
use Rattle.running.specs.Work.{SoundOver, run_of}
use Rattle.book.specs.Answers.{shows}
use Rattle.book.specs.Held.{has_run, Names}
use Rattle.book.specs.Refusal.{number_of}
use Rattle.book.proofs.Keeps.{rests_from, tells_from}
use Rattle.book.proofs.RunCalls.{open_has_run, open_for_pass, names_passed, pass_refused, passed_so}
use Rattle.book.proofs.Book.pass.Goals as goal

pub returns-in_err-may_pass : goal.returns-in_err-may_pass
returns-in_err-may_pass g c =
    let p = err_from_is_err_and c.from_residual.result c.from_residual.ensures.1 in
    rw (p.1, p.2) (record {
      serves = pass_refused g.L.Length.kind c.args.self.now c.args.lengths.now g.O.ScanOrder.answers c.args.ticket.now.number (number_of c.in_err-may_pass.field-0.0) c.in_err-may_pass.ensures;
      owed = λ t o. o;
      refused = λ _. refl;
    })

pub invariant_of-self : goal.invariant_of-self
invariant_of-self g c =
    let b = c.args.self.now in
    let w = c.pass.new.self in
    let none = c.in_ok-may_pass.ensures in
    let runs : has_run b.phase ≡ true = open_has_run b.phase (run_of b.work c.args.lengths.now) (open_for_pass g.L.Length.kind b c.args.lengths.now c.args.ticket.now.number none).0 in
    let room = c.pass.ensures.room in
    let size = c.network-net.ensures.0 in
    let trunks : c.network-net.result.trunks.now ≡ vec_items b.trunks = c.network-net.ensures.1 ∙ c.deref.ensures.value in
    let long : length c.network-net.result.trunks.now ≡ vec_len b.trunks = ap length trunks ∙ sym b.trunks.ok.0 in
    let sound : SoundOver b.n (vec_len b.trunks) w = rw (size, long) at c.pass.ensures.sound in
    let means = rw (size, trunks) at c.pass.ensures.rule.1 in
    let does = rw (size, trunks) at c.pass.ensures.does in
    let names : Names b.n b.trunks w =
    names_passed g.L.Length.kind b c.args.lengths.now runs (vec_items b.trunks) refl (vec_items c.pass.new.list) w c.pass.new.lengths means does in
    record {
      roomy = (b.roomy.0, b.roomy.1, b.roomy.2, omega (arith, room.1.0, b.roomy.3));
      spare = (omega (arith, room.1.1, b.spare.0), omega (arith, room.0, b.spare.1));
      laid = b.laid;
      seated = λ e. ((b.seated runs).0, (b.seated runs).1, sound.entries);
      indexed = b.indexed;
      rests = rests_from b.n (vec_len b.trunks) w sound;
      tells = tells_from b.n w (rw size at c.pass.ensures.marked);
      names = names;
    }

pub returns : goal.returns
returns g c =
    let b = c.args.self.now in
    let size = c.network-net.ensures.0 in
    let trunks : c.network-net.result.trunks.now ≡ vec_items b.trunks = c.network-net.ensures.1 ∙ c.deref.ensures.value in
    record {
      serves = passed_so g.L.Length.kind b c.args.lengths.now g.O.ScanOrder.answers c.args.ticket.now.number (vec_items c.pass.new.list) c.pass.new.self c.pass.new.lengths (shows c.progress.result) c.in_ok-may_pass.ensures
          (record { rule = rw (size, trunks) at c.pass.ensures.rule.0; means = rw (size, trunks) at c.pass.ensures.rule.1 })
          (rw (size, trunks) at c.pass.ensures.does) c.progress.ensures;
      owed = λ t o. record { some = o.some; few = o.few; room = o.room; open_run = o.open_run; bears = o.bears };
      refused = λ e. absurd (both_ways true e refl);
    }
