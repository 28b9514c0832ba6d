use Rattle.std.proofs.Common.{◌≡◌, ℕ, ◌+◌, ◌-◌, List, subst, set, sym, arith}
use Rattle.routing.specs.declared.Trunk.{Trunk}
use Rattle.routing.specs.Rules.{Entry}
use Rattle.running.specs.Table.{seen_all}
use Rattle.running.proofs.Trailing.{Left, left_on, never_none}
use Rattle.running.proofs.way.Way.write_trail.Goals as goal

pub loop-i-preserved-in-Some : goal.loop-i-preserved-in-Some
loop-i-preserved-in-Some c =
    let n : ℕ = c.args.self.net.n in
    let ts : List Trunk = c.args.self.net.trunks.now in
    let es : List Entry = seen_all c.args.self.table.now in
    let i : ℕ = c.loop-i.i - 1 in
    let next : c.loop-i.i ≡ i + 1 = omega arith in (
      c.in-Some.ensures.2,
      λ stop long.
          subst (λ (v : ℕ). Left n ts es stop c.args.x c.args.into.now i v (set c.loop-i.into i c.in-Some.t)) (sym c.in-Some.ensures.1)
          (left_on n ts es stop c.args.x c.args.into.now long i c.loop-i.at c.loop-i.into
          (subst (λ (k : ℕ). Left n ts es stop c.args.x c.args.into.now k c.loop-i.at c.loop-i.into) next (c.loop-i.invariant.1 stop long))
          c.in-Some.t c.in-Some.ensures.0 (rw c.in-Some.ensures.1 at c.in-Some.ensures.2)),
    )

pub loop-i-preserved : goal.loop-i-preserved
loop-i-preserved c =
    let n : ℕ = c.args.self.net.n in
    let ts : List Trunk = c.args.self.net.trunks.now in
    let es : List Entry = seen_all c.args.self.table.now in
    let i : ℕ = c.loop-i.i - 1 in
    let next : c.loop-i.i ≡ i + 1 = omega arith in (
      c.loop-i.invariant.0,
      λ stop long.
          absurd (never_none n ts es stop c.args.x c.args.into.now long i c.loop-i.at c.loop-i.into
          (subst (λ (k : ℕ). Left n ts es stop c.args.x c.args.into.now k c.loop-i.at c.loop-i.into) next (c.loop-i.invariant.1 stop long)) c.in_default.ensures),
    )
