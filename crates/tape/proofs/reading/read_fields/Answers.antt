use Rattle.std.proofs.Common.{sym, refl, ap, ◌∙◌, arith}
use Rattle.std.proofs.lemmas.Result.{err_from_is_err_and}
use Rattle.std.proofs.lemmas.Bool.{le-ltb}
use Rattle.tape.specs.declared.faults.RecordFault.TheVariants.{Content}
use Rattle.tape.specs.Fields.{Pair}
use Rattle.tape.specs.Format.{legal_state}
use Rattle.tape.specs.Reading.{map_of, state_of}
use Rattle.tape.proofs.FormatLaws.{lay_room, reprice_room, bar_room, home_room, lay_read, reprice_read, bar_read, home_read}
use Rattle.tape.proofs.RecordLaws.{state_legal}
use Rattle.tape.proofs.reading.read_fields.Goals as goal

pub read_pair-requires : goal.read_pair-requires
read_pair-requires g c = omega (arith, lay_room _ _ _ c.requires.map c.requires.whole (ap map_of c.in-Lay.is))

pub read_pair-requires-in-Lay : goal.read_pair-requires-in-Lay
read_pair-requires-in-Lay g c = omega (arith, lay_room _ _ _ c.requires.map c.requires.whole (ap map_of c.in-Lay.is))

pub length_at-requires : goal.length_at-requires
length_at-requires g c = lay_room _ _ _ c.requires.map c.requires.whole (ap map_of c.in-Lay.is)

pub read_pair-requires-in-Reprice : goal.read_pair-requires-in-Reprice
read_pair-requires-in-Reprice g c = omega (arith, reprice_room _ _ _ c.requires.map c.requires.whole (ap map_of c.in-Reprice.is))

pub length_at-requires-in-Reprice : goal.length_at-requires-in-Reprice
length_at-requires-in-Reprice g c = reprice_room _ _ _ c.requires.map c.requires.whole (ap map_of c.in-Reprice.is)

pub read_pair-requires-in-Bar : goal.read_pair-requires-in-Bar
read_pair-requires-in-Bar g c = omega (arith, bar_room _ _ _ c.requires.map c.requires.whole (ap map_of c.in-Bar.is))

pub read_pair-requires-in-Bar-2 : goal.read_pair-requires-in-Bar-2
read_pair-requires-in-Bar-2 g c = bar_room _ _ _ c.requires.map c.requires.whole (ap map_of c.in-Bar.is)

pub read_pair-requires-in-Home : goal.read_pair-requires-in-Home
read_pair-requires-in-Home g c = home_room _ _ _ c.requires.map c.requires.whole (ap map_of c.in-Home.is)

pub returns-in-Lay : goal.returns-in-Lay
returns-in-Lay g c =
    let f = lay_read _ _ _ c.requires.map c.requires.whole _ _ _ (ap map_of c.in-Lay.is) c.read_pair.ensures c.read_pair-in-Lay.ensures c.length_at.ensures in
    record { reads = (f.item, refl); same = f.same }

pub returns-in-Reprice : goal.returns-in-Reprice
returns-in-Reprice g c =
    let f = reprice_read _ _ _ c.requires.map c.requires.whole _ _ (ap map_of c.in-Reprice.is) c.read_pair-in-Reprice.ensures c.length_at-in-Reprice.ensures in
    record { reads = (f.item, refl); same = f.same }

pub returns-in_err-try_from-in-Bar : goal.returns-in_err-try_from-in-Bar
returns-in_err-try_from-in-Bar g c =
    let p = err_from_is_err_and c.from_residual.result c.from_residual.ensures.1 in
    let h = c.in_err-try_from-in-Bar.ensures in
    let f = bar_read _ _ _ c.requires.map c.requires.whole _ _ (ap map_of c.in-Bar.is) c.read_pair-in-Bar.ensures c.read_pair-in-Bar-2.ensures in
    rw p.1 (record { reads = (p.2 ∙ ap Content h.0, sym (ap legal_state f.item) ∙ le-ltb _ 2 h.1); same = tt })

pub returns-in_ok-try_from-in-Bar : goal.returns-in_ok-try_from-in-Bar
returns-in_ok-try_from-in-Bar g c =
    let h = c.in_ok-try_from-in-Bar.ensures in
    let q : Pair c.args.bytes.now 3 (state_of c.in_ok-try_from-in-Bar.field-0) = rw h at c.read_pair-in-Bar-2.ensures in
    let f = bar_read _ _ _ c.requires.map c.requires.whole _ _ (ap map_of c.in-Bar.is) c.read_pair-in-Bar.ensures q in
    record { reads = (f.item, state_legal c.in_ok-try_from-in-Bar.field-0); same = f.same }

pub returns-in-Home : goal.returns-in-Home
returns-in-Home g c =
    let f = home_read _ _ _ c.requires.map c.requires.whole _ (ap map_of c.in-Home.is) c.read_pair-in-Home.ensures in
    record { reads = (f.item, refl); same = f.same }
