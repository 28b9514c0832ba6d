-- What a call does to any book, and what it does to a book that accepted calls made.
use Rattle.std.specs.Prelude.{◌≡◌, ℕ, List, ◌∷◌, length, Some, None}
use Rattle.routing.specs.Kind.{Kind}
use Rattle.routing.specs.Rules.{Trunk, Run}
use Rattle.routing.specs.Orders.{Meaning}
use Rattle.routing.specs.History.{Event, edit, step, History, count, State, edited, stepped, after, Accepted}
use Rattle.routing.specs.Calls.{Call, Answer, refused, refusal, Answers, Becomes}
use Rattle.routing.specs.Promise.{Right}

-- the book after an event
abbrev pub applied : {L : Type 0} → Kind L → Event L → State L → State L
applied K (edit e) s = edited e s
applied K (step e) s = stepped K e s

-- the call c on the book s is answered x and leaves the book s': refused by the first refusal that applies, nothing changes
pub data Does {L : Type 0} (K : Kind L) (OrderAnswers : List Trunk → Run L → List ℕ → Type 0) (s : State L) (c : Call L) (x : Answer) (s' : State L) : Type 0 where
  refuses : {k : ℕ} → refusal K s c ≡ Some k → x ≡ refused k → s' ≡ s → Does K OrderAnswers s c x s'
  accepts : (e : Event L) → refusal K s c ≡ None → Becomes OrderAnswers s c e → s' ≡ applied K e s → Answers (length s.trunks) c s' x → Does K OrderAnswers s c x s'

-- after the accepted calls h: refused, the book is still made of h; accepted, of h with the call's event in front, and what it then is is right
pub data CarriesOn {L : Type 0} (K : Kind L) (number n : ℕ) (first : List L) (h : History L) (c : Call L) (x : Answer) (s' : State L) : Type 0 where
  refuses : {k : ℕ} → refusal K (after K number n first h) c ≡ Some k → x ≡ refused k → s' ≡ after K number n first h → CarriesOn K number n first h c x s'
  accepts : (e : Event L) → refusal K (after K number n first h) c ≡ None → Becomes (Meaning K n) (after K number n first h) c e → Answers (count h) c s' x
      → s' ≡ after K number n first (e ∷ h) → Accepted K number n first (Meaning K n) (e ∷ h) → Right K n (e ∷ h) s' → CarriesOn K number n first h c x s'

-- a call that turns s into s' carries on every history that made s
abbrev pub KeepsHistory : {L : Type 0} → Kind L → State L → Call L → Answer → State L → Type 0
KeepsHistory {L} K s c x s' =
    (number n : ℕ) (first : List L) (h : History L) → Accepted K number n first (Meaning K n) h → s ≡ after K number n first h → CarriesOn K number n first h c x s'

-- what every call promises of s, the book before it, and s', the book after it
pub record Serves {L : Type 0} (K : Kind L) (OrderAnswers : List Trunk → Run L → List ℕ → Type 0) (s : State L) (c : Call L) (x : Answer) (s' : State L) : Type 0 where
  pub does : Does K OrderAnswers s c x s'
  pub keeps : KeepsHistory K s c x s'
