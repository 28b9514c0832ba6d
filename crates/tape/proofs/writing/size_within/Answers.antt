use Rattle.std.proofs.Common.{sym, ◌∙◌, ⊎_elim}
use Rattle.tape.specs.Reading.{item_of}
use Rattle.tape.proofs.WriteLaws.{wide_refused, long_refused, room_counted}
use Rattle.tape.proofs.writing.size_within.Goals as goal

pub returns-then-not-is_of_width : goal.returns-then-not-is_of_width
returns-then-not-is_of_width g c =
    let width = c.is_of_width.ensures in
    ⊎_elim
    (λ p. wide_refused g.L.Length.WIDTH (item_of c.args.item) c.args.room (sym width ∙ p))
    (λ p. long_refused g.L.Length.WIDTH (item_of c.args.item) c.args.room c.map.result c.size_of-size.result (c.map.ensures ∙ c.shape.ensures) c.size_of-size.ensures (sym width ∙ p.0) p.1)
    c.then-not-is_of_width.either

pub returns : goal.returns
returns g c =
    room_counted g.L.Length.WIDTH (item_of c.args.item) c.args.room c.map.result c.size_of-size.result (c.map.ensures ∙ c.shape.ensures) c.size_of-size.ensures (sym c.is_of_width.ensures ∙ c.if-not-is_of_width.false) c.if-room-size.false c.requires
