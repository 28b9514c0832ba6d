-- The way back, one step at a time. Assumes nothing.
use Rattle.std.proofs.Common.{◌≡◌, ℕ, zero, suc, ◌+◌, ◌-◌, ◌<◌, true, false, ◌||◌, eqb, List, [], get_or, Some, None, Option, refl, ap, ◌∙◌, arith}
use Rattle.std.proofs.lemmas.Bool.{eq-eqb, ne_eqb, or_left, or_from}
use Rattle.routing.specs.Lists.{has}
use Rattle.routing.specs.declared.Trunk.{Trunk}
use Rattle.routing.specs.Rules.{Entry}
use Rattle.routing.specs.Rules.{back, trunk, unreached}

module _ (ts : List Trunk) (es : List Entry) (w x : ℕ) where
  -- what follows x on the way back
  abbrev onward : ℕ → Option ℕ → List ℕ
  onward k o = elim o [ None ↦ [] | Some t ↦ back k ts es (trunk ts t).from ]

  pub back_here : (k : ℕ) → w ≡ x → has w (back k ts es x) ≡ true
  back_here zero e = or_left (eqb w x) false (eq-eqb w x e)
  back_here (suc k) e = or_left (eqb w x) (has w (onward k (get_or es x unreached).arriving)) (eq-eqb w x e)

  pub back_stop : (k : ℕ) → (w ≡ x → ⊥) → (get_or es x unreached).arriving ≡ None → has w (back k ts es x) ≡ false
  back_stop zero ne e = or_from (eqb w x) false (ne_eqb w x ne) refl
  back_stop (suc k) ne e =
      or_from (eqb w x) (has w (onward k (get_or es x unreached).arriving)) (ne_eqb w x ne) (ap (λ o. has w (onward k o)) e)

  pub back_on : (k i t : ℕ) → i < k → (w ≡ x → ⊥) → (get_or es x unreached).arriving ≡ Some t
      → has w (back (k - i) ts es x) ≡ has w (back (k - (i + 1)) ts es (trunk ts t).from)
  back_on k i t l ne e =
      let more : k - i ≡ suc (k - (i + 1)) = omega arith in
      ap (λ j. has w (back j ts es x)) more
      ∙ ap (λ b. b || has w (onward (k - (i + 1)) (get_or es x unreached).arriving)) (ne_eqb w x ne)
      ∙ ap (λ o. has w (onward (k - (i + 1)) o)) e
