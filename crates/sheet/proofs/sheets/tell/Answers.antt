use Rattle.std.proofs.Common.{string_bytes, ◌∙◌}
use Rattle.std.proofs.lemmas.Result.{on_ok_weaker}
use Rattle.sheet.specs.Told.{form_of}
use Rattle.sheet.proofs.Starting.{is_new, tells_fit, tells_misfit}
use Rattle.sheet.proofs.sheets.tell.Goals as goal

pub returns-in-Err : goal.returns-in-Err
returns-in-Err g c =
    let F = form_of g.L.Length.kind g.L.Length.WIDTH g.L.TapeLength.meant g.L.Printed.printed in
    on_ok_weaker c.print_fault_at.result
    (tells_misfit F c.args.n c.args.tape.now (string_bytes c.args.out.now) (c.deref.ensures.value ∙ c.in_ok-lengths.ensures) c.in-Err.ensures.fitness)
    (rw c.into.ensures at c.print_fault_at.ensures)

pub tell_records-requires : goal.tell_records-requires
tell_records-requires g c =
    let F = form_of g.L.Length.kind g.L.Length.WIDTH g.L.TapeLength.meant g.L.Printed.printed in
    let new = c.new-book.ensures in
    is_new F c.args.n c.new-book.result _ new.number.0 new.number.1 new.empty.0 new.empty.1 (c.deref_mut.ensures.value ∙ c.in_ok-lengths.ensures)

pub returns : goal.returns
returns g c =
    let F = form_of g.L.Length.kind g.L.Length.WIDTH g.L.TapeLength.meant g.L.Printed.printed in
    let new = c.new-book.ensures in
    let made = is_new F c.args.n c.new-book.result _ new.number.0 new.number.1 new.empty.0 new.empty.1 (c.deref_mut.ensures.value ∙ c.in_ok-lengths.ensures) in
    on_ok_weaker c.tell_records.result (tells_fit F c.args.n c.args.tape.now (string_bytes c.args.out.now) _ c.in_default.ensures.fitness made) c.tell_records.ensures
