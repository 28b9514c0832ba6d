use Rattle.std.proofs.Common.{◌≡◌, ℕ, true, false, length, vec_items, sym, refl}
use Rattle.std.proofs.lemmas.Bool.{not-true, not-false}
use Rattle.routing.specs.Rules.{trunk}
use Rattle.running.specs.Table.{is_due}
use Rattle.running.proofs.Moves.{room_left}
use Rattle.running.proofs.Steps.{joins_sound, joins_marked, joins_waiting, stays_sound, stays_marked, stays_waiting, moved_run}
use Rattle.running.proofs.Work.try_trunk.Goals as goal

pub push_reserved-requires : goal.push_reserved-requires
push_reserved-requires g c =
    let head : ℕ = (trunk c.args.net.trunks.now c.args.t).to in
    let free : is_due c.args.self.now.table head ≡ false = not-true (is_due c.args.self.now.table head) (sym c.if-arrive.ensures.joins) in
    room_left c.args.net.n (length c.args.net.trunks.now) c.args.self.now.table c.args.self.now.waiting c.requires.sound head (c.args.net.ends.1 c.args.t c.requires.sizes.1) free

pub returns-then-arrive : goal.returns-then-arrive
returns-then-arrive g c =
    let head : ℕ = (trunk c.args.net.trunks.now c.args.t).to in
    let e = c.arrive.ensures in
    let free : is_due c.args.self.now.table head ≡ false = not-true (is_due c.args.self.now.table head) (sym c.if-arrive.ensures.joins) in
    let known = c.requires.sizes.1 in
    let ws = c.push_reserved.new.self in
    let items = c.push_reserved.ensures.items in
    record {
      sound = joins_sound c.args.net.n c.args.net.trunks.now c.args.self.now c.args.t c.requires.sound known (c.args.net.ends.1 c.args.t known) c.arrive.new.self e.seen e.dues e.size.0 ws items free c.push_reserved.ensures.capacity;
      room = (e.size.1, c.push_reserved.ensures.capacity);
      does = λ later h. (
        joins_marked c.args.net.n c.args.net.trunks.now c.args.self.now c.args.t c.requires.sound known (c.args.net.ends.1 c.args.t known) c.arrive.new.self e.seen e.dues e.size.0 ws items free later h,
        moved_run c.args.net.n c.args.net.trunks.now c.args.self.now c.args.t c.requires.sound known (c.args.net.ends.1 c.args.t known) c.arrive.new.self e.seen e.dues e.size.0 g.L.Length.kind c.args.lengths.now c.args.v c.in-Some.sum (vec_items ws) later
            c.in-Some.ensures (sym c.if-meets.ensures)
            (joins_waiting c.args.net.n c.args.net.trunks.now c.args.self.now c.args.t c.requires.sound known (c.args.net.ends.1 c.args.t known) c.arrive.new.self e.seen e.dues e.size.0 ws items free later h),
      );
    }

pub returns-else-arrive : goal.returns-else-arrive
returns-else-arrive g c =
    let head : ℕ = (trunk c.args.net.trunks.now c.args.t).to in
    let e = c.arrive.ensures in
    let busy : is_due c.args.self.now.table head ≡ true = not-false (is_due c.args.self.now.table head) (sym c.if-arrive.ensures.joins) in
    let known = c.requires.sizes.1 in
    record {
      sound = stays_sound c.args.net.n c.args.net.trunks.now c.args.self.now c.args.t c.requires.sound known (c.args.net.ends.1 c.args.t known) c.arrive.new.self e.seen e.dues e.size.0;
      room = (e.size.1, refl);
      does = λ later h. (
        stays_marked c.args.net.n c.args.net.trunks.now c.args.self.now c.args.t c.requires.sound known (c.args.net.ends.1 c.args.t known) c.arrive.new.self e.seen e.dues e.size.0 busy later h,
        moved_run c.args.net.n c.args.net.trunks.now c.args.self.now c.args.t c.requires.sound known (c.args.net.ends.1 c.args.t known) c.arrive.new.self e.seen e.dues e.size.0 g.L.Length.kind c.args.lengths.now c.args.v c.in-Some.sum (vec_items c.args.self.now.waiting) later
            c.in-Some.ensures (sym c.if-meets.ensures)
            (stays_waiting c.args.net.n c.args.net.trunks.now c.args.self.now c.args.t c.requires.sound known (c.args.net.ends.1 c.args.t known) c.arrive.new.self e.seen e.dues e.size.0 busy later h),
      );
    }
