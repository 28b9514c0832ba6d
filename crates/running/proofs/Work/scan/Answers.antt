use Rattle.std.proofs.Common.{◌+◌, drop, sym, arith}
use Rattle.std.proofs.lemmas.List.{drop_more}
use Rattle.running.proofs.Indexes.{leaving_at}
use Rattle.running.proofs.Scans.{going_on, going_over}
use Rattle.running.proofs.Work.scan.Goals as goal

pub returns-then-found_loop : goal.returns-then-found_loop
returns-then-found_loop g c = record {
  sound = c.loop-t.invariant.sound;
  room = c.loop-t.invariant.room;
  does = going_over g.L.Length.kind c.args.net.n c.args.net.trunks.now c.args.v _ c.args.lengths.now (drop c.loop-t.t-index c.leaving-t-items.result.now) c.loop-t.self c.loop-t.lengths c.loop-t.invariant (sym c.if-found_loop.ensures);
}

pub try_trunk-requires : goal.try_trunk-requires
try_trunk-requires g c = record {
  sizes = (c.requires.inside, leaving_at c.args.net.trunks.now c.args.v c.leaving-t-items.result.now c.loop-t.t-index c.leaving-t-items.ensures c.loop-t-test.true);
  fits = omega (arith, c.requires.fits, c.loop-t.auto.lengths);
  sound = c.loop-t.invariant.sound;
}

pub loop-t-preserved : goal.loop-t-preserved
loop-t-preserved g c =
    going_on g.L.Length.kind c.args.net.n c.args.net.trunks.now c.args.v _ c.args.lengths.now (drop c.loop-t.t-index c.leaving-t-items.result.now) c.loop-t.self c.loop-t.lengths c.loop-t.invariant
    _ (drop (c.loop-t.t-index + 1) c.leaving-t-items.result.now) (drop_more c.leaving-t-items.result.now c.loop-t.t-index 0 c.loop-t-test.true)
    c.try_trunk.new.self c.try_trunk.new.lengths (sym c.if-found_loop.ensures) c.try_trunk.ensures.sound c.try_trunk.ensures.room c.try_trunk.ensures.does
