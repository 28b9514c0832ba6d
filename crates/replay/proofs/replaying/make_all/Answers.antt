use Rattle.std.proofs.Common.{◌≡◌, ℕ, ◌<◌, List, map, length, take, drop, refl, ap, ◌∙◌, subst, arith}
use Rattle.std.proofs.lemmas.List.{take_all}
use Rattle.routing.specs.Calls as rules
use Rattle.book.specs.Orders.{ByOrder}
use Rattle.book.specs.State.{state_of}
use Rattle.replay.specs.Making.{Bears, answer_of, call_of}
use Rattle.replay.specs.Replaying.{MakesAll}
use Rattle.replay.proofs.Lists.{so_on, behind}
use Rattle.replay.proofs.replaying.make_all.Goals as goal

pub loop-i-init : goal.loop-i-init
loop-i-init g c = (c.requires.0, (refl, refl), MakesAll.none, refl)

pub loop-i-preserved : goal.loop-i-preserved
loop-i-preserved g c =
    let b = c.args.book.now in
    let e = c.make.ensures in
    let same = c.loop-i.invariant.1 in
    let inside : c.loop-i.i < length c.loop-i.answers = omega (arith, c.requires.1) in (
      subst (λ (k : ℕ). Bears c.make.new.held c.make.new.book k) c.loop-i.auto.lengths e.bears,
      (e.same.0 ∙ same.0, e.same.1 ∙ same.1),
      so_on g.L.Length.kind g.O.ScanOrder.answers b.number b.n (state_of b c.args.lengths.now) c.args.calls.now c.loop-i.i c.loop-i.answers (state_of c.loop-i.book c.loop-i.lengths)
          (state_of c.make.new.book c.make.new.lengths) c.index-calls-i.result c.make.result c.loop-i.book.number c.loop-i.book.n c.loop-i-test.true inside c.index-calls-i.is same.0 same.1 c.loop-i.invariant.2 e.makes,
      behind c.loop-i.answers c.args.answers.now c.loop-i.i c.make.result c.loop-i.invariant.3,
    )

pub returns : goal.returns
returns g c =
    let b = c.args.book.now in
    let all : c.loop-i.i ≡ length c.args.calls.now = omega arith in
    record {
      makes = subst (λ (ds : List (rules.Call g.row.L.Denot)). MakesAll g.L.Length.kind (ByOrder g.L.Length.kind g.O.ScanOrder.answers b.n) (state_of b c.args.lengths.now) ds
          (map answer_of (take (length c.args.calls.now) c.loop-i.answers)) (state_of c.loop-i.book c.loop-i.lengths))
          (ap (map (call_of b.number)) (take_all (length c.args.calls.now) c.args.calls.now (omega arith)))
          (subst (λ (k : ℕ). MakesAll g.L.Length.kind (ByOrder g.L.Length.kind g.O.ScanOrder.answers b.n) (state_of b c.args.lengths.now) (map (call_of b.number) (take k c.args.calls.now))
          (map answer_of (take k c.loop-i.answers)) (state_of c.loop-i.book c.loop-i.lengths)) all c.loop-i.invariant.2);
      bears = (c.loop-i.invariant.0, c.loop-i.invariant.1);
      kept = subst (λ (k : ℕ). drop k c.loop-i.answers ≡ drop k c.args.answers.now) all c.loop-i.invariant.3;
    }
