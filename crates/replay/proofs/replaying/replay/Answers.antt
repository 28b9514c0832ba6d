use Rattle.std.proofs.Common.{ℕ, map, length, take, sym, ◌∙◌, subst, arith, rules}
use Rattle.book.specs.State.{state_of}
use Rattle.replay.specs.Making.{Bears, answer_of}
use Rattle.replay.proofs.Promised.{made_on_new, replays_so}
use Rattle.replay.proofs.replaying.replay.Goals as goal

pub returns : goal.returns
returns g c =
    let K = g.L.Length.kind in
    let rule = g.O.ScanOrder.answers in
    let b = c.new-book.result in
    let new = c.new-book.ensures in
    let many : ℕ = length c.args.calls.now in
    let last = c.make_all-ticket.new.lengths in
    let makes = made_on_new K c.args.number c.args.n c.args.lengths.now rule b new.number.0 new.number.1 new.empty.0 new.empty.1 c.args.calls.now
    (map answer_of (take many c.make_all-ticket.new.answers)) (state_of c.make_all-ticket.new.book last) c.make_all-ticket.ensures.makes in
    let all = replays_so K c.args.number c.args.n c.args.lengths.now rule c.args.calls.now (take many c.make_all-ticket.new.answers)
    (record { book = c.make_all-ticket.new.book; ticket = c.make_all-ticket.result; read = c.read_out-read.result }) last c.min.result c.args.lines.now c.read_out-read.new.lines
    c.args.looped.now c.read_out-read.new.looped makes (subst (λ (k : ℕ). Bears c.make_all-ticket.result c.make_all-ticket.new.book k) (sym c.make_all-ticket.auto.lengths) c.make_all-ticket.ensures.bears.0) c.if-looped-n.false
    (λ few. c.min.ensures ∙ omega arith) c.read_out-read.ensures in
    record {
      when = search rules;
      refused = tt;
      replays = all.0;
      leaves = (c.make_all-ticket.ensures.kept, all.1);
    }
