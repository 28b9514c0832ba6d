use Rattle.std.proofs.Common.{true, refl}
use Rattle.std.proofs.lemmas.Bool.{both_ways}
use Rattle.routing.specs.Calls.{finish}
use Rattle.book.specs.Answers.{shows_end}
use Rattle.book.specs.Refusal.{number_of}
use Rattle.book.proofs.Calls.{refused_so}
use Rattle.book.proofs.RunCalls.{finished_so}
use Rattle.book.proofs.Book.finish.Goals as goal

pub returns-in-Err : goal.returns-in-Err
returns-in-Err g c = record {
  serves = refused_so g.L.Length.kind c.args.self.now c.args.lengths.now (finish c.args.ticket.number) (number_of c.in-Err.refusal) c.in-Err.ensures.refuses;
  ticket = refl;
  refused = λ _. refl;
}

pub returns-in-Ok : goal.returns-in-Ok
returns-in-Ok g c = record {
  serves = finished_so g.L.Length.kind c.args.self.now c.args.lengths.now c.args.ticket.number (shows_end c.in-Ok.ending) c.finished-self.result c.in-Ok.ensures.refuses c.finished-self.ensures c.in-Ok.ensures.shows;
  ticket = tt;
  refused = λ e. absurd (both_ways true e refl);
}
