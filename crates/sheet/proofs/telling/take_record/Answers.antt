use Rattle.std.proofs.Common.{Err, sym, refl, ap, ◌∙◌}
use Rattle.std.proofs.lemmas.Result.{err_from_is_err_and}
use Rattle.tape.specs.declared.faults.RecordFault.{RecordFault}
use Rattle.tape.specs.Reading.{read_as}
use Rattle.sheet.specs.Taking.{Taken}
use Rattle.sheet.proofs.telling.take_record.Goals as goal

pub returns-in_err-placed : goal.returns-in_err-placed
returns-in_err-placed g c = λ number n first h to.
    let e = err_from_is_err_and c.from_residual.result c.from_residual.ensures.1 in
    Taken.unread (sym c.read_record.ensures.reads ∙ ap read_as c.in_err-placed.was) (e.1 ∙ ap (λ (f : RecordFault). Err f) e.2) refl

pub returns-in_err-ran : goal.returns-in_err-ran
returns-in_err-ran g c = λ number n first h to.
    let e = err_from_is_err_and c.from_residual-in_err-ran.result c.from_residual-in_err-ran.ensures.1 in
    Taken.turned_away (sym c.read_record.ensures.reads ∙ ap read_as c.in_ok-placed.was) (rw c.in_err-ran.was at (c.apply.ensures number n first h to)) (e.1 ∙ ap (λ (f : RecordFault). Err f) e.2)

pub returns : goal.returns
returns g c = λ number n first h to.
    let within = c.in_ok-placed.ensures.within in
    Taken.applies (sym c.read_record.ensures.reads ∙ ap read_as c.in_ok-placed.was) (rw c.in_ok-ran.was at (c.apply.ensures number n first h to)) refl within.0 within.1
