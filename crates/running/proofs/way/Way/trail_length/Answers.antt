use Rattle.std.proofs.Common.{◌≡◌, ℕ, List, false, ◌+◌, ◌-◌, length, sym, ap, ◌∙◌, arith}
use Rattle.std.proofs.lemmas.List.{length_push}
use Rattle.running.specs.Table.{seen_all}
use Rattle.routing.specs.declared.Trunk.{Trunk}
use Rattle.routing.specs.Rules.{Entry, trunk}
use Rattle.running.specs.Trails.{stops, trail}
use Rattle.running.proofs.Trailing.{stops_is, trail_stop, trail_none, trail_on}
use Rattle.running.proofs.way.Way.trail_length.Goals as goal

pub returns-then-eq : goal.returns-then-eq
returns-then-eq c =
    let none = ap length (trail_stop c.args.self.net.trunks.now (seen_all c.args.self.table.now) c.args.stop (c.args.self.net.n - c.loop-count.count) c.loop-count.at (sym (stops_is c.args.stop c.loop-count.at) ∙ sym c.if-eq.ensures)) in
    omega (arith, c.loop-count.invariant.1)

pub returns-in-None : goal.returns-in-None
returns-in-None c =
    let none = ap length (trail_none c.args.self.net.trunks.now (seen_all c.args.self.table.now) c.args.stop (c.args.self.net.n - c.loop-count.count) c.loop-count.at c.in-None.ensures) in
    omega (arith, c.loop-count.invariant.1)

pub loop-count-preserved : goal.loop-count-preserved
loop-count-preserved c =
    let k : ℕ = c.args.self.net.n - (c.loop-count.count + 1) in
    let t : ℕ = c.in-Some.field-0-0 in
    let ts : List Trunk = c.args.self.net.trunks.now in
    let es : List Entry = seen_all c.args.self.table.now in
    let goes : stops c.args.stop c.loop-count.at ≡ false = sym (stops_is c.args.stop c.loop-count.at) ∙ sym c.if-eq.ensures in
    let one_more = ap length (trail_on ts es c.args.stop c.args.self.net.n c.loop-count.count c.loop-count.at t c.loop-count-test.true goes c.in-Some.ensures.0)
    ∙ length_push (trail k ts es c.args.stop (trunk ts t).from) t
    ∙ ap (λ (v : ℕ). length (trail k ts es c.args.stop v) + 1) (sym c.in-Some.ensures.1) in
    (c.in-Some.ensures.2, omega (arith, c.loop-count.invariant.1))
