use Rattle.std.proofs.Common.{◌≡◌, get_or, Some, ap, ◌∙◌, arith}
use Rattle.routing.specs.Rules.{unreached}
use Rattle.running.specs.Table.{seen_all}
use Rattle.running.proofs.Tables.{read_seen}
use Rattle.running.proofs.way.Way.step.Goals as goal
use Rattle.running.proofs.way.Way.step.Goals.{In_ok-t}

arriving : (c : In_ok-t) → (get_or (seen_all c.args.self.table.now) c.args.x unreached).arriving ≡ Some c.in_ok-t.t
arriving c = ap (λ z. z.arriving) (read_seen c.args.self.table.now c.args.x c.index.result.now (omega (arith, c.args.self.seated)) c.index.ensures) ∙ c.in_ok-t.was

pub bounds-self-t : goal.bounds-self-t
bounds-self-t c = c.args.self.arrivals c.args.x c.in_ok-t.t (arriving c)
