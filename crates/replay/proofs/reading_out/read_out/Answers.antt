use Rattle.std.proofs.Common.{ℕ, Some, refl, ap, ◌∙◌}
use Rattle.routing.specs.Readings.{denied}
use Rattle.book.specs.declared.refusal.Refusal.{Refusal}
use Rattle.book.specs.Refusal.{number_of}
use Rattle.book.specs.State.{state_of}
use Rattle.replay.specs.declared.Read.TheVariants.{Loop}
use Rattle.replay.specs.Reading.{ReadsOut}
use Rattle.replay.proofs.Fillings.{filled_front, wrote_ok, wrote_err, settled_only}
use Rattle.replay.proofs.reading_out.read_out.Goals as goal

pub returns-in-Ok : goal.returns-in-Ok
returns-in-Ok g c =
    let w = wrote_ok c.in-Ok.count c.in-Ok.is c.loop_trunks.ensures.wrote in
    ReadsOut.a_loop {cs = w.0} w.1 (ap (λ (k : ℕ). Some (Loop k)) w.2) w.3 refl

pub returns-in-RunIsSettled : goal.returns-in-RunIsSettled
returns-in-RunIsSettled g c =
    let w = wrote_err c.in-Err.refusal c.in-Err.is c.loop_trunks.ensures.wrote in
    let s = state_of c.args.book.now c.args.lengths.now in
    ReadsOut.a_sheet (w.0 ∙ ap (λ (k : Refusal). denied (number_of k)) c.in-RunIsSettled.is) refl w.1 (filled_front g.L.Length.kind s c.args.lines.now c.args.n c.read_lines.new.lines c.requires.1 c.read_lines.ensures)

pub returns-in_default : goal.returns-in_default
returns-in_default g c =
    let w = wrote_err c.in-Err.refusal c.in-Err.is c.loop_trunks.ensures.wrote in
    ReadsOut.nothing {k = number_of c.in-Err.refusal} w.0 (settled_only c.in-Err.refusal c.in_default.not-RunIsSettled) refl w.1 refl
