-- What the calls of the code answer, as the rules see it.
use Rattle.std.specs.Prelude.{ℕ, Bool, true, false, Some, None, Ok, Err, Option, Result}
use Rattle.routing.specs.Calls.{Answer, refused, shown, says_working, says_settled, says_loop}
use Rattle.routing.specs.Readings.{Reading, told, denied}
use Rattle.book.specs.declared.refusal.Refusal.{Refusal}
use Rattle.book.specs.declared.refusal.Refusal.TheVariants.{BadSize, ShortList}
use Rattle.book.specs.declared.refusal.Refused.{Refused}
use Rattle.book.specs.declared.outcome.Progress.{Progress}
use Rattle.book.specs.declared.outcome.Progress.TheVariants as progress
use Rattle.book.specs.declared.outcome.Ending.{Ending}
use Rattle.book.specs.declared.outcome.Ending.TheVariants as ending
use Rattle.book.specs.Refusal.{number_of}

-- the refusal that a check found, if any
abbrev pub refusal_in : {A : Type 0} → Result A Refusal → Option ℕ
refusal_in (Ok a) = None
refusal_in (Err k) = Some (number_of k)

-- an answer, where a is what the call answers when it is accepted
abbrev pub answer_by : {A : Type 0} → (A → Answer) → Result A Refusal → Answer
answer_by f (Ok a) = f a
answer_by f (Err k) = refused (number_of k)

-- the same, where the refused call hands something back
abbrev pub answer_back : {A T : Type 0} → (A → Answer) → Result A (Refused T) → Answer
answer_back f (Ok a) = f a
answer_back f (Err k) = refused (number_of k.refusal)

-- how a pass shows the run
abbrev pub shows : Progress → Answer
shows (progress.Working p s) = shown says_working p s
shows (progress.Settled p s) = shown says_settled p s
shows (progress.Loop p s) = shown says_loop p s

-- how a finish shows it
abbrev pub shows_end : Ending → Answer
shows_end (ending.Settled p s) = shown says_settled p s
shows_end (ending.Loop p s) = shown says_loop p s

-- whether a book can be made: not of a bad size, nor with a list that is too short
abbrev pub fitness : (bad short : Bool) → Result (Unit {0}) Refusal
fitness true short = Err BadSize
fitness false true = Err ShortList
fitness false false = Ok tt

-- what a reading of the code answers
abbrev pub reading_of : {A : Type 0} → Result A Refusal → Reading A
reading_of (Ok a) = told a
reading_of (Err k) = denied (number_of k)

-- a result whose value is not looked at
abbrev pub unit_of : {A : Type 0} → Result A Refusal → Result (Unit {0}) Refusal
unit_of (Ok a) = Ok tt
unit_of (Err k) = Err k
