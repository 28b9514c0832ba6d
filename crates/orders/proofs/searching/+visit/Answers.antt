use Rattle.std.proofs.Common.{◌≡◌, ℕ, ◌+◌, ◌<◌, List, Bool, true, length, get_or, drop, set, vec_items, sym, ◌∙◌, inl, inr, arith}
use Rattle.std.proofs.lemmas.List.{length-set, drop_more, drop_all}
use Rattle.routing.specs.declared.Trunk.{Trunk}
use Rattle.running.specs.View.{run_in}
use Rattle.running.proofs.Indexes.{leaving_at}
use Rattle.orders.proofs.Visits.{going_skip, going_visit, unmarked_set, visit_done}
use Rattle.orders.proofs.searching.+visit.Goals as goal
use Rattle.orders.proofs.searching.+visit.Goals.{then-not-marks-w+then-follows, else-not-marks-w, else-not-marks-w-via-then-not-marks-w+else-follows, else-not-marks-w-via-else-not-marks-w}

pub bounds-view-t : goal.bounds-view-t
bounds-view-t g t c = leaving_at c.args.view.now.net.trunks.now c.args.v c.leaving-t-items.result.now c.loop-t.t-index c.leaving-t-items.ensures c.loop-t-test.true

pub follows-requires : goal.follows-requires
follows-requires g t c = (c.requires.sizes.0, leaving_at c.args.view.now.net.trunks.now c.args.v c.leaving-t-items.result.now c.loop-t.t-index c.leaving-t-items.ensures c.loop-t-test.true)

pub visit-requires : goal.visit-requires
visit-requires g t c κs within =
    let known = leaving_at c.args.view.now.net.trunks.now c.args.v c.leaving-t-items.result.now c.loop-t.t-index c.leaving-t-items.ensures c.loop-t-test.true in
    let one = unmarked_set c.args.marks.now c.args.v (omega (arith, c.requires.sizes.0, c.requires.sizes.1)) c.requires.fresh in
    let going = c.loop-t.invariant in
    let sized : length c.loop-t.marks ≡ c.args.view.now.net.n = c.loop-t.auto.marks ∙ length-set c.args.marks.now c.args.v true ∙ c.requires.sizes.1 in
    (omega (arith, c.decreases, going.fewer), (within, ((c.args.view.now.net.ends.1 _ known, sized), (c.if-not-marks-w.true, omega (arith, going.counts, going.cap, c.requires.room)))))

pub loop-t-preserved : goal.loop-t-preserved
loop-t-preserved g t c =
    let K = g.L.Length.kind in
    let n : ℕ = c.args.view.now.net.n in
    let ts : List Trunk = c.args.view.now.net.trunks.now in
    let r = run_in c.args.view.now in
    let us : List ℕ = c.leaving-t-items.result.now in
    let i : ℕ = c.loop-t.t-index in
    let marks₀ : List Bool = set c.args.marks.now c.args.v true in
    let split = drop_more us i 0 c.loop-t-test.true in
    let inside = c.args.view.now.net.ends.1 _ (leaving_at ts c.args.v us i c.leaving-t-items.ensures c.loop-t-test.true) in
    let skips = going_skip K n ts r c.args.v marks₀ c.args.list.now (drop i us) c.loop-t.marks c.loop-t.list c.loop-t.invariant (get_or us i 0) (drop (i + 1) us) split inside in
    elim c.if-not-marks-w.branch [
      | then-not-marks-w+then-follows w ↦ rw (w.marks-is, w.list-is)
          (going_visit K n ts r c.args.v marks₀ c.args.list.now (drop i us) c.loop-t.marks c.loop-t.list c.loop-t.invariant (get_or us i 0) (drop (i + 1) us) split inside
          w.if-not-marks-w.true (sym w.if-follows.ensures) w.visit.new.marks w.visit.new.list w.visit.ensures.counts.0 w.visit.ensures.counts.1 w.visit.ensures.cap w.visit.ensures.does)
      | else-not-marks-w w ↦ rw (w.marks-is, w.list-is) (elim w.else-not-marks-w.branch [
        | else-not-marks-w-via-then-not-marks-w+else-follows w' ↦ skips (inr (sym w'.if-follows.ensures))
        | else-not-marks-w-via-else-not-marks-w w' ↦ skips (inl w'.if-not-marks-w.false)
      ])
    ]

pub push_reserved-requires : goal.push_reserved-requires
push_reserved-requires g t c =
    let one = unmarked_set c.args.marks.now c.args.v (omega (arith, c.requires.sizes.0, c.requires.sizes.1)) c.requires.fresh in
    omega (arith, c.loop-t.invariant.counts, c.loop-t.invariant.cap, c.requires.room)

pub returns : goal.returns
returns g t c =
    let going = c.loop-t.invariant in
    let marked : c.args.v < length c.args.marks.now = omega (arith, c.requires.sizes.0, c.requires.sizes.1) in
    let one = unmarked_set c.args.marks.now c.args.v marked c.requires.fresh in
    record {
      counts = (omega (arith, going.fewer), omega (arith, going.counts, c.push_reserved.ensures.len));
      cap = c.push_reserved.ensures.capacity ∙ going.cap;
      does = visit_done g.L.Length.kind c.args.view.now.net.n c.args.view.now.net.trunks.now (run_in c.args.view.now) c.args.v c.args.marks.now c.args.list.now marked c.requires.fresh
          (drop c.loop-t.t-index c.leaving-t-items.result.now) c.loop-t.marks c.loop-t.list going (drop_all c.loop-t.t-index c.leaving-t-items.result.now c.loop-t-test.false) (vec_items c.push_reserved.new.self) c.push_reserved.ensures.items;
    }
