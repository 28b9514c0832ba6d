-- A whole run of a book that accepted calls made.
use Rattle.std.proofs.Common.{◌≡◌, ℕ, suc, ◌<◌, ◌≤◌, true, false, eqb, ltb, List, ◌∷◌, Some, None, Ok, Err, Option, Result, sym, refl, ap, ◌∙◌, subst, ⊎_elim, arith}
use Rattle.std.proofs.lemmas.Bool.{both_ways, cases_lt, ltb-false, not-false, or_parts}
use Rattle.routing.specs.declared.Trunk.{Trunk}
use Rattle.routing.specs.declared.Verdict.{Verdict}
use Rattle.routing.specs.Kind.{Kind}
use Rattle.routing.specs.Rules.{Run}
use Rattle.routing.specs.Orders.{Meaning, Showable}
use Rattle.routing.specs.History.{Event, step, began, pass, finished, History, State, Phase, idle, running, standing, count, tariff_of, after, stepped, passes_since, Accepted}
use Rattle.routing.specs.Refusals.{is_working, works}
use Rattle.routing.specs.Calls.{begin, do_pass, done, finish, refused, refusals, refusal, Becomes}
use Rattle.routing.specs.Does.{Does, applied}
use Rattle.routing.specs.Promise.{Right, RightAt}
use Rattle.routing.proofs.Histories.{same_book}
use Rattle.routing.proofs.Playing.{accepted_more}
use Rattle.routing.proofs.Refused.{none_of}
use Rattle.routing.proofs.Main.{promise}
use Rattle.book.specs.declared.outcome.Ending.{Ending}
use Rattle.book.specs.declared.refusal.Refusal.{Refusal}
use Rattle.book.specs.Orders.{ByOrder}
use Rattle.book.specs.Refusal.{number_of}
use Rattle.replay.proofs.Makings.{never_done}
use Rattle.whole_run.specs.Whole.{Carried, EndsRight, Passes, PassedOut, RunsOut, Whole}

module _ {L : Type 0} (K : Kind L) (n : ℕ) where
  -- a run that works has not made a pass for each exchange
  not_yet : (h : History L) (ts : List Trunk) (p : Phase L) → RightAt K n h ts p → is_working p ≡ true → passes_since h ≡ n → ⊥
  not_yet h ts idle right w all = both_ways false refl w
  not_yet h ts (running home r) right w all = right.ends_by all (go r.verdict w)
    where
      go : (v : Verdict) → works v ≡ true → v ≡ Verdict.Working
      go Verdict.Working e = refl
      go Verdict.Settled e = absurd (both_ways false refl e)
      go (Verdict.Looped v t) e = absurd (both_ways false refl e)
  not_yet h ts (standing home r) right w all = both_ways false refl w

  -- S is what the histories know of the order's answers, and R what the passes know
  module _ (number : ℕ) (first : List L) (S : List Trunk → Run L → List ℕ → Type 0) (means : (ts : List Trunk) (r : Run L) (a : List ℕ) → Showable K n ts r → S ts r a → Meaning K n ts r a)
      (R : List Trunk → Run L → List ℕ → Type 0) (so : (ts : List Trunk) (r : Run L) (a : List ℕ) → R ts r a → S ts r a) where
    -- the book that h makes
    abbrev book : History L → State L
    book h = after K number n first h

    -- what is known after k passes since a begin that h was before
    pub record Since (h : History L) (k : ℕ) (q : State L) : Type 0 where
      pub history : History L
      pub accepted : Accepted K number n first S history
      pub made : q ≡ book history
      pub passes : passes_since history ≡ k
      pub same_tariff : tariff_of history ≡ tariff_of h
      pub same_count : count history ≡ count h
      pub few : k ≤ n
      pub early : is_working q.phase ≡ true → k < n

    is_right : (h : History L) → Accepted K number n first S h → Right K n h (book h)
    is_right h ok = promise K number n first S means h ok

    -- a run that works and has made k passes, where k is not above n, has not made n
    still_early : (h : History L) → Accepted K number n first S h → (k : ℕ) → passes_since h ≡ k → k ≤ n → is_working (book h).phase ≡ true → k < n
    still_early h ok k count few w = ⊎_elim (λ low. low) (λ high. absurd (not_yet h (book h).trunks (book h).phase (is_right h ok) w (omega arith))) (cases_lt k n)

    pub since_begun : (h : History L) → Accepted K number n first S h → (home : ℕ) → refusal K (book h) (begin home) ≡ None → Since h 0 (stepped K (began home) (book h))
    since_begun h ok home none =
        let ok' : Accepted K number n first S (step (began home) ∷ h) = accepted_more K S number n first h (begin home) (step (began home)) none refl ok in
        record {
          history = step (began home) ∷ h;
          accepted = ok';
          made = refl;
          passes = refl;
          same_tariff = refl;
          same_count = refl;
          few = omega arith;
          early = λ w. still_early (step (began home) ∷ h) ok' 0 refl (omega arith) w;
        }

    -- one pass more
    more : {h₀ : History L} {k : ℕ} {q q' : State L} {e : Event L} → Since h₀ k q → refusal K q (do_pass q.number) ≡ None → Becomes R q (do_pass q.number) e → q' ≡ applied K e q → Since h₀ (suc k) q'
    more {h₀} {k} {q} {q'} {e} at none is becomes =
        let h = at.history in
        let none' : refusal K (book h) (do_pass (book h).number) ≡ None = subst (λ (s : State L). refusal K s (do_pass s.number) ≡ None) at.made none in
        let is' : Becomes R (book h) (do_pass (book h).number) e = subst (λ (s : State L). Becomes R s (do_pass s.number) e) at.made is in
        let a = is'.2 in
        let by : Becomes S (book h) (do_pass (book h).number) (step (pass a)) = (is'.0, is'.1, a, is'.3, so (book h).trunks is'.1 a is'.4, refl) in
        let ok' : Accepted K number n first S (step (pass a) ∷ h) = accepted_more K S number n first h (do_pass (book h).number) (step (pass a)) none' by at.accepted in
        let works : is_working q.phase ≡ true = not-false (is_working q.phase) (none_of (refusals K q (do_pass q.number)) none).1.1.1.1.0 in
        let made' : q' ≡ book (step (pass a) ∷ h) = becomes ∙ ap (λ x. applied K x q) is'.5 ∙ ap (applied K (step (pass a))) at.made in
        let count' : passes_since (step (pass a) ∷ h) ≡ suc k = ap suc at.passes in
        record {
          history = step (pass a) ∷ h;
          accepted = ok';
          made = made';
          passes = count';
          same_tariff = at.same_tariff;
          same_count = at.same_count;
          few = at.early works;
          early = λ w. still_early (step (pass a) ∷ h) ok' (suc k) count' (at.early works) (sym (ap (λ (s : State L). is_working s.phase) made') ∙ w);
        }

    pub since : {h : History L} {s : State L} {k : ℕ} {q : State L} → Since h 0 s → Passes K R s k q → Since h k q
    since at Passes.none = at
    since at (Passes.more so_far none is becomes) = more (since at so_far) none is becomes

    -- a finish carries on
    pub carried : (h : History L) (k : ℕ) (q : State L) → Since h k q → refusal K q (finish q.number) ≡ None → (s' : State L) → s' ≡ stepped K finished q → Carried K number n first S h s'
    carried h k q at none s' becomes =
        let h' : History L = step finished ∷ at.history in
        let none' : refusal K (book at.history) (finish (book at.history).number) ≡ None = subst (λ (s : State L). refusal K s (finish s.number) ≡ None) at.made none in
        let ok' : Accepted K number n first S h' = accepted_more K S number n first at.history (finish (book at.history).number) (step finished) none' refl at.accepted in
        let made : s' ≡ book h' = becomes ∙ ap (stepped K finished) at.made in
        record {
          history = h';
          accepted = ok';
          made = made;
          same_tariff = at.same_tariff;
          same_count = at.same_count;
          right = subst (Right K n h') (sym made) (is_right h' ok');
        }

    -- no run of the book that h makes is given up
    pub not_given_up : (h : History L) → Accepted K number n first S h → (home : ℕ) → refusal K (book h) (begin home) ≡ None → (q : State L) → PassedOut K R (stepped K (began home) (book h)) q → is_working q.phase ≡ true → ⊥
    not_given_up h ok home none q out works =
        let at : Since h out.count q = since (since_begun h ok home none) out.passes in
        let few : out.count < n = at.early works in
        let size : ltb 256 (book h).size ≡ false = (or_parts (eqb (book h).size 0) (ltb 256 (book h).size) (none_of (refusals K (book h) (begin home)) none).0).1 in
        let fits : (book h).size ≤ 256 = ltb-false 256 (book h).size size in
        let same : (book h).size ≡ n = (same_book K n number first h).1 in
        ⊎_elim (λ over. both_ways (is_working q.phase) over works) (λ all. omega arith) out.enough

    -- a whole run of the book that h makes: it is not given up, and leaves an accepted history
    whole_of : (h : History L) → Accepted K number n first S h → (home : ℕ) (r : Result (Option Ending) Refusal) (s' : State L) → Whole K R (book h) home r s'
        → (r ≡ Ok None → ⊥) × Carried K number n first S h s'
    whole_of h ok home r s' (Whole.refuses why is same) = (
      λ e. let z : ◌≡◌ {A = ℕ} 0 1 = cc in omega arith,
      record { history = h; accepted = ok; made = same; same_tariff = refl; same_count = refl; right = subst (Right K n h) (sym same) (is_right h ok) },
    )
    whole_of h ok home r s' (Whole.runs {q = q} none out (RunsOut.finishes {e = e} none_too ended becomes shown) is) = (
      λ e. let z : ◌≡◌ {A = ℕ} 0 1 = cc in omega arith,
      carried h out.count q (since (since_begun h ok home none) out.passes) none_too s' becomes,
    )
    whole_of h ok home r s' (Whole.runs {q = q} none out (RunsOut.gives_up works none_too ended becomes) is) = absurd (not_given_up h ok home none q out works)

-- a whole run in an order that keeps its meaning ends right
pub ends_right : {L : Type 0} (K : Kind L) (R : List Trunk → Run L → List ℕ → Type 0) (s : State L) → ((ts : List Trunk) (r : Run L) (a : List ℕ) → R ts r a → Meaning K s.size ts r a)
    → (home : ℕ) (r : Result (Option Ending) Refusal) (s' : State L) → Whole K R s home r s' → EndsRight K s r s'
ends_right K R s means home r s' w number n first h ok made =
    let size : s.size ≡ n = ap (λ q. q.size) made ∙ (same_book K n number first h).1 in
    whole_of K n number first (Meaning K n) (λ ts r a _ m. m) R (λ ts r a x. subst (λ (k : ℕ). Meaning K k ts r a) size (means ts r a x)) h ok home r s'
    (subst (λ q. Whole K R q home r s') made w)

-- what a whole run promises, of a begin that was refused and of one that was accepted
module _ {L : Type 0} (K : Kind L) (answers : ℕ → List Trunk → Run L → List ℕ → Type 0) (s : State L) (home : ℕ) where
  abbrev By : List Trunk → Run L → List ℕ → Type 0
  By = ByOrder K answers s.size

  pub record Promised (r : Result (Option Ending) Refusal) (s' : State L) : Type 0 where
    pub whole : Whole K By s home r s'
    pub ends : EndsRight K s r s'

  promised : (r : Result (Option Ending) Refusal) (s' : State L) → Whole K By s home r s' → Promised r s'
  promised r s' w = record { whole = w; ends = ends_right K By s (λ ts q a m. m.means) home r s' w }

  pub refused_whole : (k : Refusal) (s' : State L) → Does K (Meaning K s.size) s (begin home) (refused (number_of k)) s' → Promised (Err k) s'
  refused_whole k s' (Does.refuses {k = j} why answer same) =
      promised (Err k) s' (Whole.refuses (why ∙ ap Some (sym (same_number answer))) refl same)
    where
      same_number : {i : ℕ} → refused (number_of k) ≡ refused i → number_of k ≡ i
      same_number e = cc
  refused_whole k s' (Does.accepts e none is becomes answer) = absurd (let z : ◌≡◌ {A = ℕ} 0 1 = cc in omega arith)

  pub made_whole : (s₁ q : State L) (e : Option Ending) (s' : State L) → Does K (Meaning K s.size) s (begin home) done s₁ → PassedOut K (ByOrder K answers s₁.size) s₁ q → RunsOut K q e s' → Promised (Ok e) s'
  made_whole s₁ q e s' (Does.refuses {k = j} why answer same) out ends = absurd (never_done j answer)
  made_whole s₁ q e s' (Does.accepts x none is becomes answer) out ends =
      let begun : s₁ ≡ stepped K (began home) s = becomes ∙ ap (λ y. applied K y s) is in
      promised (Ok e) s' (Whole.runs none (subst (λ p. PassedOut K (ByOrder K answers p.size) p q) begun out) ends refl)
