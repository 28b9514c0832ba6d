-- One pass more of an open run, whose ticket is owed.
use Rattle.std.proofs.Common.{◌≡◌, ℕ, suc, ◌+◌, ◌<◌, Bool, true, false, not, List, length, Some, None, Ok, Err, Result, sym, refl, ap, ◌∙◌, subst, inl, add-one, arith}
use Rattle.std.proofs.lemmas.Bool.{both_ways}
use Rattle.routing.specs.declared.Trunk.{Trunk}
use Rattle.routing.specs.declared.Verdict.{Verdict}
use Rattle.routing.specs.Kind.{Kind}
use Rattle.routing.specs.Rules.{Run}
use Rattle.routing.specs.History.{State, Phase, idle, running, standing}
use Rattle.routing.specs.Refusals.{is_working, works}
use Rattle.routing.specs.Calls.{Answer, do_pass, refused, shown, said, Said, says_working, says_settled, says_loop, refusals, refusal, ShownBy}
use Rattle.routing.specs.Does.{Does}
use Rattle.routing.proofs.Refused.{of_none}
use Rattle.book.specs.declared.Book.{Book}
use Rattle.book.specs.declared.Ticket.{Ticket}
use Rattle.book.specs.declared.outcome.Progress.{Progress}
use Rattle.book.specs.declared.outcome.Progress.TheVariants.{Working, Settled, Loop}
use Rattle.book.specs.declared.refusal.Refusal.{Refusal}
use Rattle.book.specs.Answers.{answer_by, shows}
use Rattle.book.specs.Orders.{ByOrder}
use Rattle.book.specs.Refusal.{number_of}
use Rattle.book.specs.State.{Owed, state_of}
use Rattle.book.proofs.RunCalls.{owed_passes}
use Rattle.replay.specs.Making.{Makes}
use Rattle.replay.proofs.Makings.{makes_name}
use Rattle.whole_run.specs.Whole.{Passes, PassedOut, still_works}

-- a run that is said to be settled or a loop works no more
over_said : (v : Verdict) (p s p' s' : ℕ) (x : Said) → (x ≡ says_working → ⊥) → shown x p s ≡ shown (said v) p' s' → works v ≡ false
over_said Verdict.Working p s p' s' x other e = absurd (other cc)
over_said Verdict.Settled p s p' s' x other e = refl
over_said (Verdict.Looped v t) p s p' s' x other e = refl

pub over_shown : {L : Type 0} (ph : Phase L) (p s : ℕ) (x : Said) → (x ≡ says_working → ⊥) → ShownBy ph (shown x p s) → is_working ph ≡ false
over_shown idle p s x other e = absurd e
over_shown (running home r) p s x other e = over_said r.verdict p s r.passes r.scans x other e
over_shown (standing home r) p s x other e = refl

never_refused : (x : Said) (p s k : ℕ) → shown x p s ≡ refused k → ⊥
never_refused x p s k e = let z : ◌≡◌ {A = ℕ} 0 1 = cc in omega arith

-- no run is shown by a refusal
pub not_shown : {L : Type 0} (p : Phase L) (k : ℕ) → ShownBy p (refused k) → ⊥
not_shown idle k e = e
not_shown (running home r) k e = never_refused (said r.verdict) r.passes r.scans k (sym e)
not_shown (standing home r) k e = never_refused (said r.verdict) r.passes r.scans k (sym e)

settled_not : says_settled ≡ says_working → ⊥
settled_not e = let z : ◌≡◌ {A = ℕ} 0 1 = cc in omega arith

loop_not : says_loop ≡ says_working → ⊥
loop_not e = let z : ◌≡◌ {A = ℕ} 0 1 = cc in omega arith

-- the book b of a run over n exchanges, in the order that `answers`; the length list has this size
module _ {L : Type 0} (K : Kind L) (answers : ℕ → List Trunk → Run L → List ℕ → Type 0) (n size : ℕ) (b : Book) (ls : List L) (t : Ticket)
    (same_n : b.n ≡ n) (same_size : length ls ≡ size) (owed : Owed t b size) where
  abbrev s : State L
  s = state_of b ls

  abbrev R : List Trunk → Run L → List ℕ → Type 0
  R = ByOrder K answers n

  pub owed_here : Owed t b (length ls)
  owed_here = subst (λ (k : ℕ). Owed t b k) (sym same_size) owed

  -- a pass is refused only where the run is over
  refused_over : (k : ℕ) → refusal K s (do_pass t.number) ≡ Some k → is_working s.phase ≡ false
  refused_over k why = go (is_working s.phase) refl
    where
      go : (w : Bool) → is_working s.phase ≡ w → is_working s.phase ≡ false
      go false e = e
      go true e =
          let q = owed_passes K b ls t owed_here in
          let none : refusal K s (do_pass t.number) ≡ None = of_none (refusals K s (do_pass t.number)) (q.0, (q.1.0, (q.1.1.0, (q.1.1.1.0, (ap not e, tt))))) in
          let z : ◌≡◌ {A = ℕ} 0 1 = cc in
          absurd (omega arith)

  -- what a pass of the book does, said for n
  does_for : (x : Answer) (s' : State L) → Does K (ByOrder K answers b.n) s (do_pass t.number) x s' → Does K R s (do_pass t.number) x s'
  does_for x s' d = subst (λ (k : ℕ). Does K (ByOrder K answers k) s (do_pass t.number) x s') same_n d

  pub same_then : (x : Answer) (s' : State L) → Does K (ByOrder K answers b.n) s (do_pass t.number) x s' → s'.size ≡ n
  same_then x s' d = (makes_name K R s (do_pass t.number) x s' (Makes.does (does_for x s' d))).1 ∙ same_n

  module _ (s₀ : State L) (k : ℕ) (so_far : Passes K R s₀ k s) (s' : State L) where
    -- the pass was made
    made : (x : Answer) → ((j : ℕ) → x ≡ refused j → ⊥) → Does K R s (do_pass t.number) x s' → Passes K R s₀ (suc k) s' × ShownBy s'.phase x
    made x other (Does.refuses {k = j} why answer same) = absurd (other j answer)
    made x other (Does.accepts e none is becomes answer) =
        (Passes.more so_far (subst (λ (j : ℕ). refusal K s (do_pass j) ≡ None) owed.bears none) is becomes, answer)

    goes_on : (r : Result Progress Refusal) → still_works r ≡ true → Does K R s (do_pass t.number) (answer_by shows r) s' → Passes K R s₀ (suc k) s'
    goes_on (Ok (Working p q)) e d = (made (shown says_working p q) (never_refused says_working p q) d).0
    goes_on (Ok (Settled p q)) e d = absurd (both_ways false refl e)
    goes_on (Ok (Loop p q)) e d = absurd (both_ways false refl e)
    goes_on (Err j) e d = absurd (both_ways false refl e)

    pub on : (r : Result Progress Refusal) → still_works r ≡ true → Does K (ByOrder K answers b.n) s (do_pass t.number) (answer_by shows r) s' → Passes K R s₀ (k + 1) s'
    on r e d = subst (λ (j : ℕ). Passes K R s₀ j s') (sym (add-one k)) (goes_on r e (does_for (answer_by shows r) s' d))

    -- the run is over
    ended : (x : Said) (p q : ℕ) → (x ≡ says_working → ⊥) → Does K R s (do_pass t.number) (shown x p q) s' → k < 256 → PassedOut K R s₀ s'
    ended x p q other d few =
        let m = made (shown x p q) (never_refused x p q) d in
        record { count = suc k; passes = m.0; few = few; enough = inl (over_shown s'.phase p q x other m.1) }

    stopped : (j : ℕ) → Does K R s (do_pass t.number) (refused j) s' → k < 256 → PassedOut K R s₀ s'
    stopped j (Does.refuses {k = i} why answer same) few =
        subst (λ (q : State L). PassedOut K R s₀ q) (sym same) (record { count = k; passes = so_far; few = omega arith; enough = inl (refused_over i why) })
    stopped j (Does.accepts e none is becomes answer) few = absurd (not_shown s'.phase j answer)

    out_by : (r : Result Progress Refusal) → still_works r ≡ false → Does K R s (do_pass t.number) (answer_by shows r) s' → k < 256 → PassedOut K R s₀ s'
    out_by (Ok (Working p q)) e d few = absurd (both_ways true e refl)
    out_by (Ok (Settled p q)) e d few = ended says_settled p q settled_not d few
    out_by (Ok (Loop p q)) e d few = ended says_loop p q loop_not d few
    out_by (Err j) e d few = stopped (number_of j) d few

    pub out : (r : Result Progress Refusal) → still_works r ≡ false → Does K (ByOrder K answers b.n) s (do_pass t.number) (answer_by shows r) s' → k < 256 → PassedOut K R s₀ s'
    out r e d few = out_by r e (does_for (answer_by shows r) s' d) few
