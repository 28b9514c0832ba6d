use Rattle.std.proofs.Common.{true, refl}
use Rattle.std.proofs.lemmas.Bool.{both_ways}
use Rattle.routing.specs.Calls.{abandon}
use Rattle.book.specs.Refusal.{number_of}
use Rattle.book.proofs.Calls.{refused_so}
use Rattle.book.proofs.RunCalls.{abandoned_so, owed_taken}
use Rattle.book.proofs.Book.abandon.Goals as goal

pub returns-in-Err : goal.returns-in-Err
returns-in-Err g c = record {
  serves = refused_so g.L.Length.kind c.args.self.now c.args.lengths.now (abandon c.args.ticket.number) (number_of c.in-Err.refusal) c.in-Err.ensures;
  ticket = refl;
  takes = λ o. absurd (owed_taken g.L.Length.kind c.args.self.now c.args.lengths.now c.args.ticket o (number_of c.in-Err.refusal) c.in-Err.ensures);
  refused = λ _. refl;
}

pub returns-in-Ok : goal.returns-in-Ok
returns-in-Ok g c = record {
  serves = abandoned_so g.L.Length.kind c.args.self.now c.args.lengths.now c.args.ticket.number c.in-Ok.ensures;
  ticket = tt;
  takes = λ _. refl;
  refused = λ e. absurd (both_ways true e refl);
}
