-- A pass names no loop but of its own exchanges and trunks.
use Rattle.std.proofs.Common.{◌≡◌, ℕ, ◌<◌, true, ltb, List, [], ◌∷◌, length, refl}
use Rattle.std.proofs.lemmas.Bool.{and_from, lt-ltb, cond_both}
use Rattle.routing.specs.declared.Trunk.{Trunk}
use Rattle.routing.specs.declared.Verdict.TheVariants.{Working, Settled}
use Rattle.routing.specs.Kind.{Kind}
use Rattle.routing.specs.Lists.{has}
use Rattle.routing.specs.Rules.{Run, trunk, back, is_loop, improving, none_left, leaving, moved, tried, tried_all, scanned, turns, passed}
use Rattle.routing.proofs.Facts.{has_leaving}
use Rattle.routing.proofs.Lists.{has_here, has_there}
use Rattle.running.specs.Work.{names_inside}

module _ {L : Type 0} (K : Kind L) (n : ℕ) (ts : List Trunk) where
  abbrev Inside : Run L → Type 0
  Inside r = names_inside n (length ts) r.verdict ≡ true

  tried_inside : (later : List ℕ) (v t : ℕ) (r : Run L) → v < n → t < length ts → Inside r → Inside (tried K n ts later v t r)
  tried_inside later v t r low known is =
      cond_both (improving K n ts r v t) _ r Inside
      (λ _. cond_both (has (trunk ts t).to (back n ts r.entries v)) _ (moved K n ts later v t r) Inside (λ _. and_from (ltb v n) (ltb t (length ts)) (lt-ltb v n low) (lt-ltb t (length ts) known)) (λ _. is))
      (λ _. is)

  all_inside : (later : List ℕ) (v : ℕ) (us : List ℕ) (r : Run L) → v < n → ((t : ℕ) → has t us ≡ true → t < length ts) → Inside r → Inside (tried_all K n ts later v us r)
  all_inside later v [] r low known is = is
  all_inside later v (u ∷ us) r low known is =
      cond_both (is_loop r.verdict) r _ Inside (λ _. is)
      (λ _. all_inside later v us (tried K n ts later v u r) low (λ t h. known t (has_there t u us h)) (tried_inside later v u r low (known u (has_here u u us refl)) is))

  turns_inside : (a : List ℕ) (r : Run L) → ((v : ℕ) → has v a ≡ true → v < n) → Inside r → Inside (turns K n ts a r)
  turns_inside [] r low is = is
  turns_inside (v ∷ later) r low is =
      cond_both (is_loop r.verdict) r _ Inside (λ _. is)
      (λ _. turns_inside later (scanned K n ts later v r) (λ x h. low x (has_there x v later h)) (all_inside later v (leaving ts v) _ (low v (has_here v v later refl)) (λ t h. (has_leaving ts v t h).inside) is))

  pub passed_inside : (a : List ℕ) (r : Run L) → ((v : ℕ) → has v a ≡ true → v < n) → Inside r → Inside (passed K n ts a r)
  passed_inside a r low is =
      let q : Run L = turns K n ts a (record { lengths = r.lengths; entries = r.entries; waiting = []; passes = _; scans = r.scans; verdict = r.verdict }) in
      let turned : Inside q = turns_inside a _ low is in
      cond_both (is_loop q.verdict) q _ Inside (λ _. turned)
      (λ _. cond_both (none_left q.waiting) Settled Working (λ e. names_inside n (length ts) e ≡ true) (λ _. refl) (λ _. refl))
