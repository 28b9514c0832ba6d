use Rattle.std.proofs.Common.{refl, arith}
use Rattle.std.proofs.lemmas.Result.{on_ok_weaker}
use Rattle.sheet.specs.Told.{form_of}
use Rattle.sheet.proofs.Resting.{made_new, rest_at_first, tells_fault_at, tells_more, tells_over}
use Rattle.sheet.proofs.telling.tell_records.Goals as goal

pub loop-at-init : goal.loop-at-init
loop-at-init g c =
    let F = form_of g.L.Length.kind g.L.Length.WIDTH g.L.TapeLength.meant g.L.Printed.printed in
    rest_at_first F 0 c.args.n _ _ _ _ _ (made_new F 0 c.args.n _ _ c.requires) refl

pub returns-in-Err : goal.returns-in-Err
returns-in-Err g c =
    let rest = c.loop-at.invariant in
    on_ok_weaker c.print_fault_at.result (tells_fault_at _ _ _ _ _ _ _ rest c.in-Err.fault c.loop-at-test.true (c.in-Err.ensures _ _ _ rest.changes rest.made)) c.print_fault_at.ensures

pub loop-at-smaller : goal.loop-at-smaller
loop-at-smaller g c =
    let rest = c.loop-at.invariant in
    let more = tells_more _ _ _ _ _ _ _ rest c.in-Ok.ran c.in-Ok.end c.loop-at-test.true (c.in-Ok.ensures _ _ _ rest.changes rest.made) c.in_ok-print_run-in-Ok.ensures in
    omega (arith, more.1, c.loop-at-test.true)

pub loop-at-preserved : goal.loop-at-preserved
loop-at-preserved g c =
    let rest = c.loop-at.invariant in
    (tells_more _ _ _ _ _ _ _ rest c.in-Ok.ran c.in-Ok.end c.loop-at-test.true (c.in-Ok.ensures _ _ _ rest.changes rest.made) c.in_ok-print_run-in-Ok.ensures).0

pub returns : goal.returns
returns g c = tells_over _ _ _ _ _ _ _ c.loop-at.invariant c.loop-at-test.false
