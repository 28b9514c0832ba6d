use Rattle.std.proofs.lemmas.Result.{err_from_is_err_and}
use Rattle.replay.specs.Making.{Makes}
use Rattle.replay.proofs.calling.begin.Goals as goal

pub returns-in_err-ticket-clause-makes : goal.returns-in_err-ticket-clause-makes
returns-in_err-ticket-clause-makes g c =
    let e = err_from_is_err_and c.from_residual.result c.from_residual.ensures.1 in
    rw (e.1, e.2) (Makes.does c.in_err-ticket.ensures.serves.does)

pub returns-clause-makes : goal.returns-clause-makes
returns-clause-makes g c = Makes.does c.in_ok-ticket.ensures.serves.does
