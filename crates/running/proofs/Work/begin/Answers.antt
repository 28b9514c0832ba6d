use Rattle.std.proofs.Common.{◌≡◌, ℕ, true, false, [], ◌∷◌, ◌++◌, set, replicate, vec_items, ap, ◌∙◌, arith}
use Rattle.std.specs.Vec.{with_item}
use Rattle.routing.specs.Rules.{unreached}
use Rattle.running.specs.declared.table.Table.{Table}
use Rattle.running.specs.Table.{seen, seen_all, dues}
use Rattle.running.proofs.Homes.{blank, is_blank, home_entry, at_home, map_home, marks_home, holds_home, begun_is}
use Rattle.running.proofs.Work.begin.Goals as goal

pub returns : goal.returns
returns g c =
    let n : ℕ = c.args.n in
    let home : ℕ = c.args.home in
    let filled : vec_items c.refill.new.items ≡ replicate n blank = c.refill.ensures.items ∙ ap (replicate n) (let d = c.default.ensures in is_blank c.default.result d.0 d.1.0 d.1.1) in
    let table : Table = record { entries = with_item c.refill.new.items home home_entry } in
    let es : seen_all table ≡ set (replicate n unreached) home at_home = map_home seen n home (vec_items c.refill.new.items) filled in
    let ds : dues table ≡ set (replicate n false) home true = map_home (λ e. e.due) n home (vec_items c.refill.new.items) filled in
    let ws : vec_items c.push_reserved.new.self ≡ home ∷ [] = c.push_reserved.ensures.items ∙ ap (λ xs. xs ++ (home ∷ [])) c.clear.ensures.items in
    record {
      sound = λ m. holds_home n home c.requires.home.0 m table c.push_reserved.new.self c.refill.ensures.len es ds ws (omega (arith, c.push_reserved.ensures.capacity, c.clear.ensures.capacity, c.requires.room.1));
      marked = rw (ds, ws) (marks_home n home c.requires.home.0);
      room = (c.refill.ensures.cap, c.push_reserved.ensures.capacity ∙ c.clear.ensures.capacity);
      does = begun_is g.L.Length.kind n home c.args.lengths.now c.zero.result (seen_all table) (vec_items c.push_reserved.new.self) c.zero.ensures es ws;
    }
