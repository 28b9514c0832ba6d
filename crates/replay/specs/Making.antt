-- One call of a list, as the rules see it, and the ticket that is held between two calls.
use Rattle.std.specs.Prelude.{◌≡◌, ℕ, true, false, List, Some, None, Option, Result}
use Rattle.routing.specs.declared.Trunk.{Trunk}
use Rattle.routing.specs.Kind.{Kind}
use Rattle.routing.specs.Rules.{Run}
use Rattle.routing.specs.History.{State}
use Rattle.routing.specs.Refusals.{is_running}
use Rattle.routing.specs.Calls.{lay, reprice, bar, unbar, begin, do_pass, finish, abandon, skipped, numbered, done, needs_ticket}
use Rattle.routing.specs.Calls as rules
use Rattle.routing.specs.Does.{Does}
use Rattle.book.specs.declared.Book.{Book}
use Rattle.book.specs.declared.Ticket.{Ticket}
use Rattle.book.specs.declared.refusal.Refusal.{Refusal}
use Rattle.book.specs.Answers.{answer_by, shows, shows_end}
use Rattle.book.specs.State.{Owed, runs}
use Rattle.replay.specs.declared.Call.{Call}
use Rattle.replay.specs.declared.Call.TheVariants.{Lay, Reprice, Bar, Unbar, Begin, Pass, Finish, Abandon}
use Rattle.replay.specs.declared.Answer.{Answer}
use Rattle.replay.specs.declared.Answer.TheVariants.{Skipped, Laid, Done, Passed, Finished}

-- a call on the book of this number; a ticket that is held bears it
abbrev pub call_of : {L : Type 0} → ℕ → Call L → rules.Call L
call_of number (Lay from to length) = lay from to length
call_of number (Reprice t length) = reprice t length
call_of number (Bar t) = bar t
call_of number (Unbar t) = unbar t
call_of number (Begin home) = begin home
call_of number Pass = do_pass number
call_of number Finish = finish number
call_of number Abandon = abandon number

-- what an accepted call answered, without the types of the code
abbrev pub accepted_of : Answer → rules.Answer
accepted_of Skipped = skipped
accepted_of (Laid t) = numbered t
accepted_of Done = done
accepted_of (Passed p) = shows p
accepted_of (Finished e) = shows_end e

-- what a call was answered
abbrev pub answer_of : Result Answer Refusal → rules.Answer
answer_of r = answer_by accepted_of r

-- a ticket is held just while a run is open; it is the run's own, and over a length list of this size it can be given back
abbrev pub Bears : Option Ticket → Book → ℕ → Type 0
Bears None b size = runs b.phase ≡ false
Bears (Some t) b size = Owed t b size

-- the call c turns s into s' and is answered x, or it is skipped for want of a ticket
pub data Makes {L : Type 0} (K : Kind L) (OrderAnswers : List Trunk → Run L → List ℕ → Type 0) (s : State L) (c : rules.Call L) (x : rules.Answer) (s' : State L) : Type 0 where
  skips : needs_ticket c ≡ true → is_running s.phase ≡ false → x ≡ skipped → s' ≡ s → Makes K OrderAnswers s c x s'
  does : Does K OrderAnswers s c x s' → Makes K OrderAnswers s c x s'

-- a book of the same number and size
abbrev pub SameName : Book → Book → Type 0
SameName b b' = (b'.number ≡ b.number) × (b'.n ≡ b.n)
