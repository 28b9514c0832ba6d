use Rattle.routing.specs.Orders.{Meaning}
use Rattle.book.specs.State.{state_of}
use Rattle.whole_run.proofs.Ending.{finished_out}
use Rattle.whole_run.proofs.running_out.close.Goals as goal

pub returns-in-Ok : goal.returns-in-Ok
returns-in-Ok g c =
    let K = g.L.Length.kind in
    let b = c.args.book.now in
    finished_out K (Meaning K b.n) b c.args.lengths.now c.args.ticket c.requires (state_of c.finish.new.self c.args.lengths.now) c.in-Ok.ending c.in-Ok.ensures.serves.does
