-- What a whole run does to a book.
use Rattle.std.specs.Prelude.{◌≡◌, ℕ, suc, ◌≤◌, Bool, true, false, ◌⊎◌, List, Some, None, Ok, Err, Option, Result, ◌≢◌}
use Rattle.routing.specs.declared.Trunk.{Trunk}
use Rattle.routing.specs.Kind.{Kind}
use Rattle.routing.specs.Rules.{Run}
use Rattle.routing.specs.Orders.{Meaning}
use Rattle.routing.specs.History.{Event, History, State, count, tariff_of, began, finished, abandoned, stepped, after, Accepted}
use Rattle.routing.specs.Refusals.{is_working}
use Rattle.routing.specs.Calls.{abandon, begin, do_pass, finish, refusal, Becomes, ShownBy}
use Rattle.routing.specs.Does.{applied}
use Rattle.routing.specs.Promise.{Right}
use Rattle.book.specs.declared.outcome.Ending.{Ending}
use Rattle.book.specs.declared.outcome.Progress.{Progress}
use Rattle.book.specs.declared.outcome.Progress.TheVariants.{Working, Settled, Loop}
use Rattle.book.specs.declared.refusal.Refusal.{Refusal}
use Rattle.book.specs.Refusal.{number_of}
use Rattle.book.specs.Answers.{shows_end}

-- what a pass answered says that the run works
abbrev pub still_works : Result Progress Refusal → Bool
still_works (Ok (Working p s)) = true
still_works (Ok (Settled p s)) = false
still_works (Ok (Loop p s)) = false
still_works (Err k) = false

module _ {L : Type 0} (K : Kind L) (OrderAnswers : List Trunk → Run L → List ℕ → Type 0) where
  -- so many passes, each accepted, turn s into the last book
  pub data Passes (s : State L) : ℕ → State L → Type 0 where
    none : Passes s 0 s
    more : {k : ℕ} {q q' : State L} {e : Event L} → Passes s k q → refusal K q (do_pass q.number) ≡ None → Becomes OrderAnswers q (do_pass q.number) e → q' ≡ applied K e q → Passes s (suc k) q'

  -- passes until the run is over, or 256 of them
  pub record PassedOut (s q : State L) : Type 0 where
    pub count : ℕ
    pub passes : Passes s count q
    pub few : count ≤ 256
    pub enough : (is_working q.phase ≡ false) ⊎ (count ≡ 256)

-- the open run of q ends: it is over and stands now, or it still works and is given up, and nothing is answered
pub data RunsOut {L : Type 0} (K : Kind L) (q : State L) (r : Option Ending) (s' : State L) : Type 0 where
  finishes : {e : Ending} → refusal K q (finish q.number) ≡ None → r ≡ Some e → s' ≡ stepped K finished q → ShownBy s'.phase (shows_end e) → RunsOut K q r s'
  gives_up : is_working q.phase ≡ true → refusal K q (abandon q.number) ≡ None → r ≡ None → s' ≡ stepped K abandoned q → RunsOut K q r s'

-- a whole run from home: refused as its begin is, nothing changes; else begun, passed out and ended
pub data Whole {L : Type 0} (K : Kind L) (OrderAnswers : List Trunk → Run L → List ℕ → Type 0) (s : State L) (home : ℕ) (r : Result (Option Ending) Refusal) (s' : State L) : Type 0 where
  refuses : {k : Refusal} → refusal K s (begin home) ≡ Some (number_of k) → r ≡ Err k → s' ≡ s → Whole K OrderAnswers s home r s'
  runs : {q : State L} {e : Option Ending} → refusal K s (begin home) ≡ None → PassedOut K OrderAnswers (stepped K (began home) s) q → RunsOut K q e s' → r ≡ Ok e → Whole K OrderAnswers s home r s'

-- accepted calls made the book s', over the same trunks as those of h, and what stands then is right
pub record Carried {L : Type 0} (K : Kind L) (number n : ℕ) (first : List L) (OrderAnswers : List Trunk → Run L → List ℕ → Type 0) (h : History L) (s' : State L) : Type 0 where
  pub history : History L
  pub accepted : Accepted K number n first OrderAnswers history
  pub made : s' ≡ after K number n first history
  pub same_tariff : tariff_of history ≡ tariff_of h
  pub same_count : count history ≡ count h
  pub right : Right K n history s'

-- of a book that accepted calls made, a run is not given up
abbrev pub EndsRight : {L : Type 0} → Kind L → State L → Result (Option Ending) Refusal → State L → Type 0
EndsRight {L} K s r s' =
    (number n : ℕ) (first : List L) (h : History L) → Accepted K number n first (Meaning K n) h → s ≡ after K number n first h
    → (r ≢ Ok None) × Carried K number n first (Meaning K n) h s'
