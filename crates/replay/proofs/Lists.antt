-- Calls made and answers written, one by one.
use Rattle.std.proofs.Common.{◌≡◌, ℕ, ◌+◌, ◌<◌, List, [], ◌∷◌, ◌++◌, map, length, get_or, take, drop, set, Result, sym, ap, ◌∙◌, subst, arith}
use Rattle.std.proofs.lemmas.List.{take_more_set, map_more, map_push, drop-drop, drop-set-lt}
use Rattle.routing.specs.declared.Trunk.{Trunk}
use Rattle.routing.specs.Kind.{Kind}
use Rattle.routing.specs.Rules.{Run}
use Rattle.routing.specs.History.{State}
use Rattle.routing.specs.Calls as rules
use Rattle.book.specs.declared.refusal.Refusal.{Refusal}
use Rattle.book.specs.Orders.{ByOrder}
use Rattle.replay.specs.declared.Call.{Call}
use Rattle.replay.specs.declared.Answer.{Answer}
use Rattle.replay.specs.Making.{Makes, answer_of, call_of}
use Rattle.replay.specs.Replaying.{MakesAll}

module _ {L : Type 0} (K : Kind L) (rule : ℕ → List Trunk → Run L → List ℕ → Type 0) (number n : ℕ) (s : State L) (calls : List (Call L)) where
  -- the first i calls were made
  abbrev pub SoFar : ℕ → List (Result Answer Refusal) → State L → Type 0
  SoFar i xs s₁ = MakesAll K (ByOrder K rule n) s (map (call_of number) (take i calls)) (map answer_of (take i xs)) s₁

  -- the next call was made on a book whose number and size are said to be k and m
  pub so_on : (i : ℕ) (xs : List (Result Answer Refusal)) (s₁ s₂ : State L) (call : Call L) (x : Result Answer Refusal) (k m : ℕ) → i < length calls → i < length xs → call ≡ get_or calls i call → k ≡ number → m ≡ n
      → SoFar i xs s₁ → Makes K (ByOrder K rule m) s₁ (call_of k call) (answer_of x) s₂ → SoFar (i + 1) (set xs i x) s₂
  so_on i xs s₁ s₂ call x k m below inside is ek em before makes =
      let made : Makes K (ByOrder K rule n) s₁ (call_of number call) (answer_of x) s₂ =
      subst (λ (j : ℕ). Makes K (ByOrder K rule j) s₁ (call_of number call) (answer_of x) s₂) em (subst (λ (j : ℕ). Makes K (ByOrder K rule m) s₁ (call_of j call) (answer_of x) s₂) ek makes) in
      let cs : map (call_of number) (take (i + 1) calls) ≡ map (call_of number) (take i calls) ++ (call_of number call ∷ []) =
      map_more (call_of number) calls i call below ∙ ap (λ (d : Call L). map (call_of number) (take i calls) ++ (call_of number d ∷ [])) (sym is) in
      let ys : map answer_of (take (i + 1) (set xs i x)) ≡ map answer_of (take i xs) ++ (answer_of x ∷ []) =
      ap (map answer_of) (take_more_set xs i x inside) ∙ map_push answer_of (take i xs) x in
      subst (λ (ds : List (rules.Call L)). MakesAll K (ByOrder K rule n) s ds (map answer_of (take (i + 1) (set xs i x))) s₂) (sym cs)
      (subst (λ (zs : List rules.Answer). MakesAll K (ByOrder K rule n) s (map (call_of number) (take i calls) ++ (call_of number call ∷ [])) zs s₂) (sym ys) (MakesAll.more before made))

-- what stands behind a place that is written
pub behind : (xs ys : List (Result Answer Refusal)) (i : ℕ) (x : Result Answer Refusal) → drop i xs ≡ drop i ys → drop (i + 1) (set xs i x) ≡ drop (i + 1) ys
behind xs ys i x e = drop-set-lt (i + 1) xs i x (omega arith) ∙ sym (drop-drop 1 i xs) ∙ ap (drop 1) e ∙ drop-drop 1 i ys
