-- The end of an open run, whose ticket is owed.
use Rattle.std.proofs.Common.{◌≡◌, ℕ, List, length, Some, None, refl, ap, ◌∙◌, subst}
use Rattle.routing.specs.declared.Trunk.{Trunk}
use Rattle.routing.specs.Kind.{Kind}
use Rattle.routing.specs.Rules.{Run}
use Rattle.routing.specs.History.{State}
use Rattle.routing.specs.Calls.{finish, refusal}
use Rattle.routing.specs.Does.{Does, applied}
use Rattle.book.specs.declared.Book.{Book}
use Rattle.book.specs.declared.Ticket.{Ticket}
use Rattle.book.specs.declared.outcome.Ending.{Ending}
use Rattle.book.specs.Answers.{shows_end}
use Rattle.book.specs.State.{Owed, state_of}
use Rattle.replay.proofs.Makings.{never_ended}
use Rattle.whole_run.specs.Whole.{RunsOut}

module _ {L : Type 0} (K : Kind L) (R : List Trunk → Run L → List ℕ → Type 0) (b : Book) (ls : List L) (t : Ticket) (owed : Owed t b (length ls)) (s' : State L) where
  abbrev s : State L
  s = state_of b ls

  pub finished_out : (e : Ending) → Does K R s (finish t.number) (shows_end e) s' → RunsOut K s (Some e) s'
  finished_out e (Does.refuses {k = k} why answer same) = absurd (never_ended e k answer)
  finished_out e (Does.accepts x none is becomes answer) =
      RunsOut.finishes (subst (λ (j : ℕ). refusal K s (finish j) ≡ None) owed.bears none) refl (becomes ∙ ap (λ y. applied K y s) is) answer
