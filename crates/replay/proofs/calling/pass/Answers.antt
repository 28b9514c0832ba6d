use Rattle.std.proofs.Common.{◌≡◌, length, refl, sym, subst, rules}
use Rattle.routing.specs.Calls.{Answer, do_pass}
use Rattle.book.specs.Answers.{answer_by, shows}
use Rattle.book.specs.Orders.{ByOrder}
use Rattle.book.specs.State.{state_of}
use Rattle.replay.specs.Making.{Makes, answer_of}
use Rattle.replay.proofs.Makings.{held_owed, mapped, shown_own}
use Rattle.replay.proofs.calling.pass.Goals as goal

pub returns-clause-makes : goal.returns-clause-makes
returns-clause-makes g c =
    let K = g.L.Length.kind in
    let b = c.args.book.now in
    let ls = c.args.lengths.now in
    let answered : answer_of c.map.result ≡ answer_by shows c.pass.result = mapped _ shows c.pass.result c.map.result (λ a x p. search rules) c.map.ensures.cases in
    subst (λ (x : Answer). Makes K (ByOrder K g.O.ScanOrder.answers b.n) (state_of b ls) (do_pass b.number) x (state_of c.pass.new.self c.pass.new.lengths)) (sym answered)
    (shown_own {s' = state_of c.pass.new.self c.pass.new.lengths} (length ls) do_pass (held_owed b (length ls) c.requires refl c.in-Some.is) c.pass.ensures.serves.does)
