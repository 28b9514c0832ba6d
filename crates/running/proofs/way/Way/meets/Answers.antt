use Rattle.std.proofs.Common.{ℕ, ◌+◌, ◌-◌, sym, ap, ◌∙◌}
use Rattle.routing.specs.Lists.{has}
use Rattle.routing.specs.Rules.{back}
use Rattle.running.specs.Table.{seen_all}
use Rattle.running.proofs.Backs.{back_here, back_stop, back_on}
use Rattle.running.proofs.way.Way.meets.Goals as goal

pub returns-then-w-x : goal.returns-then-w-x
returns-then-w-x c = sym (c.loop.invariant.1 ∙ back_here c.args.self.net.trunks.now (seen_all c.args.self.table.now) c.args.w c.loop.x (c.args.self.net.n - c.loop.counter) c.if-w-x.true)

pub returns-in_default : goal.returns-in_default
returns-in_default c = sym (c.loop.invariant.1 ∙ back_stop c.args.self.net.trunks.now (seen_all c.args.self.table.now) c.args.w c.loop.x (c.args.self.net.n - c.loop.counter) c.if-w-x.false c.in_default.ensures)

pub loop-preserved : goal.loop-preserved
loop-preserved c = (
  c.in-Some.ensures.2,
  c.loop.invariant.1
      ∙ back_on c.args.self.net.trunks.now (seen_all c.args.self.table.now) c.args.w c.loop.x c.args.self.net.n c.loop.counter c.in-Some.field-0-0 c.loop-test.true c.if-w-x.false c.in-Some.ensures.0
      ∙ ap (λ (v : ℕ). has c.args.w (back (c.args.self.net.n - (c.loop.counter + 1)) c.args.self.net.trunks.now (seen_all c.args.self.table.now) v)) (sym c.in-Some.ensures.1),
)
