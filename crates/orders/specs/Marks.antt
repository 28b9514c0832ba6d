-- The marks and the list of a search as the code holds them.
use Rattle.std.specs.Prelude.{◌≡◌, ℕ, suc, ◌<◌, ◌≤◌, Bool, true, false, List, [], ◌∷◌, reverse, slice_index_or}
use Rattle.routing.specs.declared.Trunk.{Trunk}
use Rattle.routing.specs.Kind.{Kind}
use Rattle.routing.specs.Lists.{has}
use Rattle.routing.specs.Rules.{Run}
use Rattle.routing.specs.Orders.{Search, visit}

-- how many have no mark
abbrev pub unmarked : List Bool → ℕ
unmarked [] = 0
unmarked (true ∷ ms) = unmarked ms
unmarked (false ∷ ms) = suc (unmarked ms)

module _ {L : Type 0} (K : Kind L) (n : ℕ) (ts : List Trunk) where
  -- the marks are on those that the search s has seen, and its list is held from its end
  pub record Stands (marks : List Bool) (items : List ℕ) (s : Search K n ts) : Type 0 where
    pub marked : (x : ℕ) → x < n → slice_index_or marks x false ≡ has x s.seen
    pub listed : items ≡ reverse s.list

  -- a visit of v leads from these marks and this list to those, whatever search they stand for; it is as deep as there are exchanges with no mark, at most
  abbrev pub Visits : Run L → ℕ → (marks : List Bool) (items : List ℕ) (marks' : List Bool) (items' : List ℕ) → Type 0
  Visits r v marks items marks' items' = (k : ℕ) (s : Search K n ts) → unmarked marks ≤ k → Stands marks items s → Stands marks' items' (visit K n ts k r v s)
