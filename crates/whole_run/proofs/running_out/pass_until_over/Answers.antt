use Rattle.std.proofs.Common.{ℕ, ◌<◌, length, sym, refl, ◌∙◌, subst, arith}
use Rattle.book.specs.Answers.{answer_by, shows}
use Rattle.book.specs.State.{Owed, state_of}
use Rattle.whole_run.specs.Whole.{Passes}
use Rattle.whole_run.proofs.Passing.{on, out, owed_here, same_then}
use Rattle.whole_run.proofs.running_out.pass_until_over.Goals as goal

pub loop-init : goal.loop-init
loop-init g c = (c.requires, refl, Passes.none)

pub loop-preserved : goal.loop-preserved
loop-preserved g c =
    let K = g.L.Length.kind in
    let answers = g.O.ScanOrder.answers in
    let b = c.loop.book in
    let ls = c.loop.lengths in
    let t = c.args.ticket.now in
    let n = c.args.book.now.n in
    let size = length c.args.lengths.now in
    let s' = state_of c.pass.new.self c.pass.new.lengths in
    let inv = c.loop.invariant in
    let does = c.pass.ensures.serves.does in (
      subst (λ (k : ℕ). Owed t c.pass.new.self k) c.loop.auto.lengths (c.pass.ensures.owed t (owed_here K answers n size b ls t inv.1 c.loop.auto.lengths inv.0)),
      same_then K answers n size b ls t inv.1 c.loop.auto.lengths inv.0 (answer_by shows c.pass.result) s' does,
      on K answers n size b ls t inv.1 c.loop.auto.lengths inv.0 (state_of c.args.book.now c.args.lengths.now) c.loop.counter inv.2 s' c.pass.result (sym c.goes_on.ensures ∙ c.if-not-goes_on.false) does,
    )

pub returns-then-not-goes_on-clause-passes : goal.returns-then-not-goes_on-clause-passes
returns-then-not-goes_on-clause-passes g c =
    let K = g.L.Length.kind in
    let answers = g.O.ScanOrder.answers in
    let b = c.loop.book in
    let ls = c.loop.lengths in
    let t = c.args.ticket.now in
    let n = c.args.book.now.n in
    let size = length c.args.lengths.now in
    let s' = state_of c.pass.new.self c.pass.new.lengths in
    let inv = c.loop.invariant in
    let few : c.loop.counter < 256 = omega arith in
    out K answers n size b ls t inv.1 c.loop.auto.lengths inv.0 (state_of c.args.book.now c.args.lengths.now) c.loop.counter inv.2 s' c.pass.result (sym c.goes_on.ensures ∙ c.if-not-goes_on.true) c.pass.ensures.serves.does few
