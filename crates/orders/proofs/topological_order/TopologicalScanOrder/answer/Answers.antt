use Rattle.std.proofs.Common.{◌≡◌, ◌<◌, false, length, vec_items, sym, ap, ◌∙◌, inl, inr, arith}
use Rattle.std.proofs.lemmas.List.{length-replicate}
use Rattle.std.specs.Slice.Iter.{iter_rest}
use Rattle.std.specs.Iterator.Adapters.{rev_source}
use Rattle.routing.proofs.Topological.{topological_means}
use Rattle.running.specs.View.{run_in}
use Rattle.orders.proofs.Shown.{shown}
use Rattle.orders.proofs.Searches.{no_marks, taking_start, next_inside, taking_skip, taking_visit, taking_end}
use Rattle.orders.proofs.topological_order.TopologicalScanOrder.answer.Given as given
use Rattle.orders.proofs.topological_order.TopologicalScanOrder.answer.Goals as goal
use Rattle.orders.proofs.topological_order.TopologicalScanOrder.answer.Goals.{In-Some, else-not-marks-v-via-then-not-marks-v+else-has_improving, else-not-marks-v-via-else-not-marks-v}

inside : (g : given.Over) (c : In-Some g) → c.in-Some.v.now < c.args.view.now.net.n
inside g c =
    next_inside g.L.Length.kind c.args.view.now.net.n c.args.view.now.net.trunks.now c.args.view.now.work.now c.args.view.now.lengths.now c.args.list.now (iter_rest (rev_source c.loop-v.v-iterator)) c.loop-v.marks c.loop-v.list c.loop-v.invariant.2
    c.in-Some.v.now (iter_rest (rev_source c.next.new.self)) c.in-Some.ensures.steps c.args.view.now.sound

sized : (g : given.Over) (c : In-Some g) → length c.loop-v.marks ≡ c.args.view.now.net.n
sized g c = c.loop-v.auto.marks ∙ ap length (no_marks c.args.view.now.net.n c.args.view.now.net.few) ∙ length-replicate c.args.view.now.net.n false

pub loop-v-init : goal.loop-v-init
loop-v-init g c =
    let all : iter_rest (rev_source c.into_iter-v-iterator.result) ≡ vec_items c.args.view.now.work.now.waiting =
    ap (λ s. iter_rest (rev_source s)) c.into_iter-v-iterator.ensures.into_iter_gives ∙ ap iter_rest c.rev-v-items.ensures.source ∙ c.iter.ensures.rest ∙ c.deref.ensures.value in (
      tt,
      tt,
      rw all (taking_start g.L.Length.kind c.args.view.now.net.n c.args.view.now.net.trunks.now c.args.view.now.work.now c.args.view.now.lengths.now c.args.list.now _ c.requires.0 (no_marks c.args.view.now.net.n c.args.view.now.net.few)),
    )

pub bounds-marks-v : goal.bounds-marks-v
bounds-marks-v g c = let at = (goal.at.bounds-marks-v g c).In-Some in omega (arith, inside g at, sized g at)

pub has_improving-requires : goal.has_improving-requires
has_improving-requires g c = inside g (goal.at.has_improving-requires g c).In-Some

pub visit-requires : goal.visit-requires
visit-requires g c =
    let at = (goal.at.visit-requires g c).In-Some in
    let before = c.loop-v.invariant.2 in
    record {
      sizes = (inside g at, sized g at);
      fresh = c.if-not-marks-v.true;
      room = omega (arith, before.counts, before.cap, c.requires.1);
    }

pub loop-v-preserved-then-has_improving : goal.loop-v-preserved-then-has_improving
loop-v-preserved-then-has_improving g c = (
  tt,
  tt,
  taking_visit g.L.Length.kind c.args.view.now.net.n c.args.view.now.net.trunks.now c.args.view.now.work.now c.args.view.now.lengths.now c.args.list.now (iter_rest (rev_source c.loop-v.v-iterator)) c.loop-v.marks c.loop-v.list c.loop-v.invariant.2
      c.in-Some.v.now (iter_rest (rev_source c.next.new.self)) c.in-Some.ensures.steps (inside g (goal.at.loop-v-preserved-then-has_improving g c).In-Some) c.if-not-marks-v.true (sym c.if-has_improving.ensures)
      c.visit.new.marks c.visit.new.list c.visit.ensures.counts.0 c.visit.ensures.counts.1 c.visit.ensures.cap c.visit.ensures.does,
)

pub loop-v-preserved : goal.loop-v-preserved
loop-v-preserved g c =
    let skips = taking_skip g.L.Length.kind c.args.view.now.net.n c.args.view.now.net.trunks.now c.args.view.now.work.now c.args.view.now.lengths.now c.args.list.now (iter_rest (rev_source c.loop-v.v-iterator)) c.loop-v.marks c.loop-v.list c.loop-v.invariant.2
    c.in-Some.v.now (iter_rest (rev_source c.next.new.self)) c.in-Some.ensures.steps (inside g (goal.at.loop-v-preserved g c).In-Some) in (
      tt,
      tt,
      elim c.else-not-marks-v.branch [
        | else-not-marks-v-via-then-not-marks-v+else-has_improving w ↦ skips (inr (sym w.if-has_improving.ensures))
        | else-not-marks-v-via-else-not-marks-v w ↦ skips (inl w.if-not-marks-v.false)
      ],
    )

pub returns : goal.returns
returns g c =
    let K = g.L.Length.kind in
    let rule = c.reverse.ensures.items ∙ taking_end K c.args.view.now.net.n c.args.view.now.net.trunks.now c.args.view.now.work.now c.args.view.now.lengths.now c.args.list.now (iter_rest (rev_source c.loop-v.v-iterator)) c.loop-v.marks c.loop-v.list c.loop-v.invariant.2 c.in-None.ensures.steps.0 in
    let shows = shown K c.args.view.now.net.n c.args.view.now.net.trunks.now c.args.view.now.work.now c.args.view.now.lengths.now c.args.view.now.sound in
    record {
      rule = rule;
      meaning = rw rule (topological_means K c.args.view.now.net.n c.args.view.now.net.trunks.now (run_in c.args.view.now) shows);
      room = c.reverse.ensures.capacity ∙ c.loop-v.invariant.2.cap;
    }
