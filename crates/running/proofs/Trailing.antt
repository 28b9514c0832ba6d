-- The way back, counted and then written from its far end.
use Rattle.std.specs.Option.{option_eq}
use Rattle.std.proofs.Common.{◌≡◌, eqb, ℕ, zero, suc, ◌+◌, ◌-◌, ◌<◌, ◌≤◌, Bool, true, false, cond, ◌⊎◌, List, [], ◌∷◌, ◌++◌, length, get_or, take, drop, set, Some, None, Option, sym, refl, ap, ◌∙◌, subst, inl, inr, arith}
use Rattle.std.proofs.lemmas.List.{length-take-le, take_more, drop_more, append_assoc, same_from_push, set_at, set-append_left}
use Rattle.std.proofs.lemmas.Bool.{cases_Bool, cond-true, cond-false}
use Rattle.routing.specs.declared.Trunk.{Trunk}
use Rattle.routing.specs.Rules.{Entry, unreached, trunk}
use Rattle.running.specs.Trails.{stops, trail}

-- a test of whether the way back ends at x
pub stops_is : (stop : Option ℕ) (x : ℕ) → option_eq eqb (Some x) stop ≡ stops stop x
stops_is None x = refl
stops_is (Some w) x = refl

module _ (ts : List Trunk) (es : List Entry) (stop : Option ℕ) where
  -- what an exchange at which the way back goes on adds to the trail
  abbrev onward : ℕ → Option ℕ → List ℕ
  onward k o = elim o [ None ↦ [] | Some t ↦ trail k ts es stop (trunk ts t).from ++ (t ∷ []) ]

  pub trail_stop : (k x : ℕ) → stops stop x ≡ true → trail k ts es stop x ≡ []
  trail_stop zero x e = refl
  trail_stop (suc k) x e = cond-true (stops stop x) [] _ e

  pub trail_none : (k x : ℕ) → (get_or es x unreached).arriving ≡ None → trail k ts es stop x ≡ []
  trail_none zero x e = refl
  trail_none (suc k) x e = ap (λ (o : Option ℕ). cond (stops stop x) [] (onward k o)) e ∙ both (stops stop x)
    where
      both : (b : Bool) → ◌≡◌ {A = List ℕ} (cond b [] []) []
      both true = refl
      both false = refl

  pub trail_on : (k i x t : ℕ) → i < k → stops stop x ≡ false → (get_or es x unreached).arriving ≡ Some t
      → trail (k - i) ts es stop x ≡ trail (k - (i + 1)) ts es stop (trunk ts t).from ++ (t ∷ [])
  trail_on k i x t l goes e =
      let more : k - i ≡ suc (k - (i + 1)) = omega arith in
      ap (λ j. trail j ts es stop x) more ∙ cond-false (stops stop x) [] _ goes ∙ ap (λ (o : Option ℕ). onward (k - (i + 1)) o) e

  -- a trail of one trunk or more: its last is the arriving trunk
  pub record EndedBy (k x : ℕ) (t : ℕ) : Type 0 where
    pub arrives : (get_or es x unreached).arriving ≡ Some t
    pub split : trail k ts es stop x ≡ trail (k - 1) ts es stop (trunk ts t).from ++ (t ∷ [])

  -- an exchange that some trunk of a trail leads to
  pub trail_ends : (k x : ℕ) → 0 < length (trail k ts es stop x) → (t : ℕ) × EndedBy k x t
  trail_ends zero x l = absurd (omega arith)
  trail_ends (suc k) x l = go (cases_Bool (stops stop x)) (get_or es x unreached).arriving refl
    where
      go : (stops stop x ≡ true) ⊎ (stops stop x ≡ false) → (o : Option ℕ) → (get_or es x unreached).arriving ≡ o → (t : ℕ) × EndedBy (suc k) x t
      go (inl e) o is = let none : length (trail (suc k) ts es stop x) ≡ 0 = ap length (trail_stop (suc k) x e) in absurd (omega arith)
      go (inr e) None is = let none : length (trail (suc k) ts es stop x) ≡ 0 = ap length (trail_none (suc k) x is) in absurd (omega arith)
      go (inr e) (Some t) is =
          let low : suc k - 1 ≡ k = omega arith in
          (t, record { arrives = is; split = cond-false (stops stop x) [] _ e ∙ ap (λ (o : Option ℕ). onward k o) is ∙ ap (λ (j : ℕ). trail j ts es stop (trunk ts t).from ++ (t ∷ [])) (sym low) })

module _ (n : ℕ) (ts : List Trunk) (es : List Entry) (stop : Option ℕ) (x : ℕ) (before : List ℕ) where
  abbrev full : List ℕ
  full = trail n ts es stop x

  -- all but the first i trunks are written, and the trail of `at` are those i
  pub record Left (i at : ℕ) (now_is : List ℕ) : Type 0 where
    pub inside : at < n
    pub within : i ≤ length full
    pub rest : take i full ≡ trail (n - (length full - i)) ts es stop at
    pub wrote : now_is ≡ take i before ++ drop i full

  module _ (long : length before ≡ length full) where
    -- i is one above the place written next
    module _ (i at : ℕ) (now_is : List ℕ) (left : Left (i + 1) at now_is) where
      ends : (t : ℕ) × EndedBy ts es stop (n - (length full - (i + 1))) at t
      ends =
          let all : length (take (i + 1) full) ≡ i + 1 = length-take-le (i + 1) full left.within in
          let same : length (take (i + 1) full) ≡ length (trail (n - (length full - (i + 1))) ts es stop at) = ap length left.rest in
          trail_ends ts es stop (n - (length full - (i + 1))) at (omega arith)

      pub never_none : (get_or es at unreached).arriving ≡ None → ⊥
      never_none e =
          let k : ◌≡◌ {A = Option ℕ} None (Some ends.0) = sym e ∙ ends.1.arrives in
          let z : ◌≡◌ {A = ℕ} 0 1 = cc in
          omega arith

      pub left_on : (t : ℕ) → (get_or es at unreached).arriving ≡ Some t → (trunk ts t).from < n → Left i (trunk ts t).from (set now_is i t)
      left_on t e low =
          let k : ◌≡◌ {A = Option ℕ} (Some ends.0) (Some t) = sym ends.1.arrives ∙ e in
          let same : ends.0 ≡ t = cc in
          let h : EndedBy ts es stop (n - (length full - (i + 1))) at t = subst (λ (u : ℕ). EndedBy ts es stop (n - (length full - (i + 1))) at u) same ends.1 in
          let here : i < length full = omega (arith, left.within) in
          let parts = same_from_push (take i full) (trail (n - (length full - (i + 1)) - 1) ts es stop (trunk ts t).from) (get_or full i 0) t (sym (take_more full i 0 here) ∙ left.rest ∙ h.split) in
          let less : n - (length full - (i + 1)) - 1 ≡ n - (length full - i) = omega arith in
          let long_take : length (take (i + 1) before) ≡ i + 1 = length-take-le (i + 1) before (omega arith) in
          record {
            inside = low;
            within = omega arith;
            rest = parts.0 ∙ ap (λ (k : ℕ). trail k ts es stop (trunk ts t).from) less;
            wrote =
                ap (λ (ys : List ℕ). set ys i t) left.wrote
                ∙ set-append_left (take (i + 1) before) (drop (i + 1) full) i t (omega arith)
                ∙ ap (λ (ys : List ℕ). ys ++ drop (i + 1) full) (front_set i t (omega arith))
                ∙ append_assoc (take i before) (t ∷ []) (drop (i + 1) full)
                ∙ ap (λ (ys : List ℕ). take i before ++ ys) (ap (λ (u : ℕ). u ∷ drop (i + 1) full) (sym parts.1) ∙ sym (drop_more full i 0 here));
          }
        where
          front_set : (i t : ℕ) → i < length before → set (take (i + 1) before) i t ≡ take i before ++ (t ∷ [])
          front_set i t l =
              ap (λ (ys : List ℕ). set ys i t) (take_more before i 0 l)
              ∙ set_at (take i before) (get_or before i 0) [] t i (length-take-le i before (omega arith))
