-- One call and the ticket that is held, before it and after it.
use Rattle.std.proofs.Common.{◌≡◌, ℕ, Bool, true, false, List, [], Some, Ok, Err, Option, Result, sym, refl, ap, ◌∙◌, subst, arith}
use Rattle.std.proofs.lemmas.Bool.{both_ways}
use Rattle.std.specs.Result.{IsOkAnd, MatchResult}
use Rattle.routing.specs.declared.Trunk.{Trunk}
use Rattle.routing.specs.Kind.{Kind}
use Rattle.routing.specs.Rules.{Run}
use Rattle.routing.specs.History.{State, Event, edit, step}
use Rattle.routing.specs.Calls.{Call, lay, reprice, bar, unbar, begin, do_pass, finish, abandon, Answer, refused, numbered, done, Becomes}
use Rattle.routing.specs.Does.{Does, applied}
use Rattle.routing.proofs.Histories.{same_edit, same_step}
use Rattle.book.specs.declared.Book.{Book}
use Rattle.book.specs.declared.Ticket.{Ticket}
use Rattle.book.specs.declared.outcome.Ending.{Ending}
use Rattle.book.specs.declared.refusal.Refusal.{Refusal}
use Rattle.book.specs.Answers.{answer_by, shows_end}
use Rattle.book.specs.State.{Owed}
use Rattle.replay.specs.declared.Answer.{Answer as CodeAnswer}
use Rattle.replay.specs.Making.{Bears, Makes, accepted_of, answer_of}

-- answers that are no refusals
pub never_done : (k : ℕ) → done ≡ refused k → ⊥
never_done k e = let z : ◌≡◌ {A = ℕ} 0 1 = cc in omega arith

pub never_numbered : (t k : ℕ) → numbered t ≡ refused k → ⊥
never_numbered t k e = let z : ◌≡◌ {A = ℕ} 0 1 = cc in omega arith

-- a call whose answer is made of what the book answered
pub mapped : {A : Type 0} (P : A → CodeAnswer → Type 0) (f : A → Answer) (r : Result A Refusal) (r' : Result CodeAnswer Refusal) → ((a : A) (x : CodeAnswer) → P a x → accepted_of x ≡ f a)
    → MatchResult r (λ a. IsOkAnd r' (P a)) (λ e. r' ≡ Err e) → answer_of r' ≡ answer_by f r
mapped P f (Ok a) (Ok x) so p = so a x p
mapped P f (Ok a) (Err k) so p = absurd p
mapped P f (Err k) r' so is = ap answer_of is

pub never_ended : (p : Ending) (k : ℕ) → shows_end p ≡ refused k → ⊥
never_ended (Ending.Settled a b) k e = let z : ◌≡◌ {A = ℕ} 0 1 = cc in omega arith
never_ended (Ending.Loop a b) k e = let z : ◌≡◌ {A = ℕ} 0 1 = cc in omega arith

-- a call other than a pass asks no order
abbrev is_pass : {L : Type 0} → Call L → Bool
is_pass (lay a b l) = false
is_pass (reprice t l) = false
is_pass (bar t) = false
is_pass (unbar t) = false
is_pass (begin x) = false
is_pass (do_pass k) = true
is_pass (finish k) = false
is_pass (abandon k) = false

becomes_any : {L : Type 0} (R S : List Trunk → Run L → List ℕ → Type 0) (s : State L) (c : Call L) (e : Event L) → is_pass c ≡ false → Becomes R s c e → Becomes S s c e
becomes_any R S s (lay a b l) e other is = is
becomes_any R S s (reprice t l) e other is = is
becomes_any R S s (bar t) e other is = is
becomes_any R S s (unbar t) e other is = is
becomes_any R S s (begin x) e other is = is
becomes_any R S s (do_pass k) e other is = absurd (both_ways true other refl)
becomes_any R S s (finish k) e other is = is
becomes_any R S s (abandon k) e other is = is

module _ {L : Type 0} (K : Kind L) where
  pub does_any : (R S : List Trunk → Run L → List ℕ → Type 0) (s : State L) (c : Call L) (x : Answer) (s' : State L) → is_pass c ≡ false → Does K R s c x s' → Does K S s c x s'
  does_any R S s c x s' other (Does.refuses why answer same) = Does.refuses why answer same
  does_any R S s c x s' other (Does.accepts e none is becomes answer) = Does.accepts e none (becomes_any R S s c e other is) becomes answer

  pub makes_any : (R S : List Trunk → Run L → List ℕ → Type 0) (s : State L) (c : Call L) (x : Answer) (s' : State L) → is_pass c ≡ false → Makes K R s c x s' → Makes K S s c x s'
  makes_any R S s c x s' other (Makes.skips needs shut answer same) = Makes.skips needs shut answer same
  makes_any R S s c x s' other (Makes.does d) = Makes.does (does_any R S s c x s' other d)

  -- an event keeps the number and the size
  applied_name : (e : Event L) (s : State L) → ((applied K e s).number ≡ s.number) × ((applied K e s).size ≡ s.size)
  applied_name (edit e) s = same_edit K 0 0 [] e s
  applied_name (step e) s = same_step K 0 0 [] e s.number s.size s.trunks s.lengths s.phase

  pub makes_name : (R : List Trunk → Run L → List ℕ → Type 0) (s : State L) (c : Call L) (x : Answer) (s' : State L) → Makes K R s c x s' → (s'.number ≡ s.number) × (s'.size ≡ s.size)
  makes_name R s c x s' (Makes.skips needs shut answer same) = (ap (λ (q : State L). q.number) same, ap (λ (q : State L). q.size) same)
  makes_name R s c x s' (Makes.does (Does.refuses why answer same)) = (ap (λ (q : State L). q.number) same, ap (λ (q : State L). q.size) same)
  makes_name R s c x s' (Makes.does (Does.accepts e none is becomes answer)) =
      let q = applied_name e s in
      (ap (λ (q : State L). q.number) becomes ∙ q.0, ap (λ (q : State L). q.size) becomes ∙ q.1)

module _ {L : Type 0} {K : Kind L} {R S : List Trunk → Run L → List ℕ → Type 0} {s s' : State L} {c₀ : Call L} {x : Answer} where
  -- a call other than a pass, by the name that the list of calls has for it
  pub asks_none : {c : Call L} → c ≡ c₀ → is_pass c₀ ≡ false → Makes K R s c₀ x s' → Makes K S s c x s'
  asks_none same other m = subst (λ (q : Call L). Makes K S s q x s') (sym same) (makes_any K R S s c₀ x s' other m)

  -- an edit, whose answer is made of what the book answered
  pub edit_made : {c : Call L} {x₀ : Answer} → c ≡ c₀ → x ≡ x₀ → is_pass c₀ ≡ false → Does K R s c₀ x₀ s' → Makes K S s c x s'
  edit_made same answered other d = asks_none same other (Makes.does (subst (λ (y : Answer). Does K R s c₀ y s') (sym answered) d))

-- a call that shows the ticket of the run
pub shown_own : {L : Type 0} {K : Kind L} {R : List Trunk → Run L → List ℕ → Type 0} {s s' : State L} {x : Answer} {b : Book} {t : Ticket} (size : ℕ) (c : ℕ → Call L) → Owed t b size → Does K R s (c t.number) x s' → Makes K R s (c b.number) x s'
shown_own {K = K} {R = R} {s = s} {s' = s'} {x = x} size c owed d = Makes.does (subst (λ (k : ℕ). Does K R s (c k) x s') owed.bears d)

-- the ticket that is held is owed
pub held_owed : {held held' : Option Ticket} {t : Ticket} (b : Book) (size : ℕ) → Bears held b size → held' ≡ held → held' ≡ Some t → Owed t b size
held_owed b size bears same is = subst (λ (h : Option Ticket). Bears h b size) (sym same ∙ is) bears
