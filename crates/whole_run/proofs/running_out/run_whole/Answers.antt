use Rattle.std.proofs.lemmas.Result.{err_from_is_err_and}
use Rattle.book.specs.State.{state_of}
use Rattle.whole_run.proofs.Histories.{refused_whole, made_whole}
use Rattle.whole_run.proofs.running_out.run_whole.Goals as goal

pub returns-in_err-ticket : goal.returns-in_err-ticket
returns-in_err-ticket g c =
    let p = refused_whole g.L.Length.kind g.O.ScanOrder.answers (state_of c.args.book.now c.args.lengths.now) c.args.home c.in_err-ticket.field-0.0 (state_of c.begin.new.self c.begin.new.lengths) c.in_err-ticket.ensures.serves.does in
    let e = err_from_is_err_and c.from_residual.result c.from_residual.ensures.1 in
    rw (e.1, e.2) (record { whole = p.whole; ends = p.ends })

pub returns : goal.returns
returns g c =
    let p = made_whole g.L.Length.kind g.O.ScanOrder.answers (state_of c.args.book.now c.args.lengths.now) c.args.home
    (state_of c.begin.new.self c.begin.new.lengths) (state_of c.pass_until_over.new.book c.pass_until_over.new.lengths) c.close.result
    (state_of c.close.new.book c.pass_until_over.new.lengths) c.in_ok-ticket.ensures.serves.does c.pass_until_over.ensures.passes c.close.ensures in
    record { whole = p.whole; ends = p.ends }
