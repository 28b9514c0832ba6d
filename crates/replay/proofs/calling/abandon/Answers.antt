use Rattle.std.proofs.Common.{length}
use Rattle.routing.specs.Calls.{abandon}
use Rattle.replay.proofs.Makings.{held_owed, shown_own}
use Rattle.replay.proofs.calling.abandon.Goals as goal

pub returns-in-Ok-clause-makes : goal.returns-in-Ok-clause-makes
returns-in-Ok-clause-makes g c =
    let size = length c.args.lengths.now in
    shown_own size abandon (held_owed c.args.book.now size c.requires c.take.ensures.value c.in-Some.is) c.in-Ok.ensures.serves.does
