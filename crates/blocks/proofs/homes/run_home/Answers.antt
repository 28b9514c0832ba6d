use Rattle.std.proofs.Common.{Err, sym, ap, ◌∙◌}
use Rattle.std.proofs.lemmas.Result.{err_from_is_err_and}
use Rattle.book.specs.declared.refusal.Refusal.{Refusal}
use Rattle.book.specs.State.{state_of}
use Rattle.blocks.specs.Homes.{ending_of}
use Rattle.blocks.proofs.Homing.{promised_home}
use Rattle.blocks.proofs.homes.run_home.Goals as goal

pub returns-in_err-run_whole : goal.returns-in_err-run_whole
returns-in_err-run_whole g c =
    let e = err_from_is_err_and c.from_residual.result c.from_residual.ensures.1 in
    let p = promised_home g.L.Length.kind (state_of c.args.book.now c.args.lengths.now) c.args.home c.run_whole.result c.from_residual.result (state_of c.run_whole.new.book c.run_whole.new.lengths) c.run_whole.ensures.whole
    (e.1 ∙ ap (λ (k : Refusal). Err k) e.2 ∙ sym (ap ending_of c.in_err-run_whole.was)) in
    record { whole = p.whole; homes = p.homes }

pub returns : goal.returns
returns g c =
    let p = promised_home g.L.Length.kind (state_of c.args.book.now c.args.lengths.now) c.args.home c.run_whole.result c.ok_or.result (state_of c.run_whole.new.book c.run_whole.new.lengths) c.run_whole.ensures.whole
    (c.ok_or.ensures.value ∙ sym (ap ending_of c.in_ok-run_whole.was)) in
    record { whole = p.whole; homes = p.homes }
