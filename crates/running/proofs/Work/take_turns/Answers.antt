use Rattle.std.proofs.Common.{◌<◌, get_or, sym, arith}
use Rattle.std.proofs.lemmas.Bool.{both_ways}
use Rattle.routing.specs.Rules.{is_loop}
use Rattle.running.proofs.Turns.{has_at, turning_over, turning_on, placed_sound}
use Rattle.running.proofs.Work.take_turns.Goals as goal

pub returns-then-found_loop : goal.returns-then-found_loop
returns-then-found_loop g c = record {
  sound = c.loop-v.invariant.sound;
  room = c.loop-v.invariant.room;
  marked = λ goes. absurd (both_ways (is_loop c.loop-v.self.verdict) goes (sym c.if-found_loop.ensures));
  does = turning_over g.L.Length.kind c.args.net.n c.args.net.trunks.now c.args.answered.now c.args.self.now c.args.lengths.now c.loop-v.v-index c.loop-v.self c.loop-v.lengths c.loop-v.invariant (sym c.if-found_loop.ensures);
}

pub mark-requires : goal.mark-requires
mark-requires g c =
    let inside : get_or c.args.answered.now c.loop-v.v-index 0 < c.args.net.n = c.requires.once.1 _ (has_at c.args.answered.now c.loop-v.v-index c.loop-v-test.true) in
    omega (arith, c.loop-v.invariant.sound.entries)

pub scan-requires : goal.scan-requires
scan-requires g c = record {
  inside = c.requires.once.1 _ (has_at c.args.answered.now c.loop-v.v-index c.loop-v-test.true);
  fits = omega (arith, c.requires.fits);
  sound = placed_sound g.L.Length.kind c.args.net.n c.args.net.trunks.now c.args.answered.now c.args.self.now c.args.lengths.now c.loop-v.v-index c.loop-v.self c.loop-v.lengths c.loop-v.invariant c.loop-v-test.true c.requires.once.0
      c.mark.new.self c.mark.ensures.seen c.mark.ensures.dues c.mark.ensures.size.0 c.mark.ensures.size.1;
}

pub loop-v-preserved : goal.loop-v-preserved
loop-v-preserved g c =
    turning_on g.L.Length.kind c.args.net.n c.args.net.trunks.now c.args.answered.now c.args.self.now c.args.lengths.now c.loop-v.v-index c.loop-v.self c.loop-v.lengths c.loop-v.invariant c.loop-v-test.true c.requires.once.0
    c.mark.new.self c.mark.ensures.seen c.mark.ensures.dues c.mark.ensures.size.0 c.mark.ensures.size.1
    (c.requires.once.1 _ (has_at c.args.answered.now c.loop-v.v-index c.loop-v-test.true)) (sym c.if-found_loop.ensures) c.scan.new.self c.scan.new.lengths c.scan.ensures.sound c.scan.ensures.room c.scan.ensures.does
