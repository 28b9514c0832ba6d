-- Marks given to a list, one by one.
use Rattle.routing.specs.Lists.{has}
use Rattle.std.proofs.Common.{◌≡◌, ℕ, ◌+◌, ◌<◌, Bool, false, cond, List, [], ◌∷◌, ◌++◌, length, get_or, take, set, sym, ap, ◌∙◌, ⊎_elim}
use Rattle.std.proofs.lemmas.List.{take_more, get_or-set_same, get_or-set_other}
use Rattle.std.proofs.lemmas.Bool.{cond-true, cases_eq}
use Rattle.running.proofs.Moves.{has_push_same, has_push_other}

module _ (ds₀ : List Bool) (xs : List ℕ) (mark : Bool) where
  -- the first i of xs have the mark
  abbrev pub GivenFirst : ℕ → List Bool → Type 0
  GivenFirst i ds = (x : ℕ) → get_or ds x false ≡ cond (has x (take i xs)) mark (get_or ds₀ x false)

  pub given_more : (ds : List Bool) (i : ℕ) → i < length xs → get_or xs i 0 < length ds → GivenFirst i ds → GivenFirst (i + 1) (set ds (get_or xs i 0) mark)
  given_more ds i l inside before x =
      let v : ℕ = get_or xs i 0 in
      let old : Bool = get_or ds₀ x false in
      rw (take_more xs i 0 l)
      (⊎_elim
      (λ same. rw same (get_or-set_same ds v mark false inside ∙ sym (cond-true (has v (take i xs ++ (v ∷ []))) mark (get_or ds₀ v false) (has_push_same v (take i xs)))))
      (λ other. get_or-set_other ds v x mark false other ∙ before x ∙ ap (λ b. cond b mark old) (sym (has_push_other x v (take i xs) other)))
      (cases_eq x v))
