-- What a reading writes into the caller's list.
use Rattle.std.specs.Prelude.{◌≡◌, ℕ, List, ◌++◌, length, drop, Ok, Err, Result}
use Rattle.routing.specs.Kind.{Kind}
use Rattle.routing.specs.History.{State}
use Rattle.routing.specs.Promise.{ReadsRightly}
use Rattle.routing.specs.Readings.{Reading, told, denied}
use Rattle.book.specs.declared.refusal.Refusal.{Refusal}
use Rattle.book.specs.Refusal.{number_of}

-- refused, the list is as it was; else the trunks that were read stand at its front, their count is answered, and the rest is as it was
pub data Wrote (reading : Reading (List ℕ)) (before after : List ℕ) (r : Result ℕ Refusal) : Type 0 where
  refuses : {k : Refusal} → reading ≡ denied (number_of k) → r ≡ Err k → after ≡ before → Wrote reading before after r
  writes : {ts : List ℕ} → reading ≡ told ts → r ≡ Ok (length ts) → after ≡ ts ++ drop (length ts) before → Wrote reading before after r

-- what a reading of s into a list promises
pub record WritesSo {L : Type 0} (K : Kind L) (s : State L) (reading : Reading (List ℕ)) (before after : List ℕ) (r : Result ℕ Refusal) : Type 0 where
  pub wrote : Wrote reading before after r
  pub right : ReadsRightly K s
