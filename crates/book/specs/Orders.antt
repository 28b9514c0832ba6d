-- What an order answered: its rule gives the list, which keeps an order's meaning.
use Rattle.std.specs.Prelude.{ℕ, List}
use Rattle.routing.specs.declared.Trunk.{Trunk}
use Rattle.routing.specs.Kind.{Kind}
use Rattle.routing.specs.Rules.{Run}
use Rattle.routing.specs.Orders.{Meaning}

-- over n exchanges; `answers` is the order's rule
pub record ByOrder {L : Type 0} (K : Kind L) (answers : ℕ → List Trunk → Run L → List ℕ → Type 0) (n : ℕ) (ts : List Trunk) (r : Run L) (a : List ℕ) : Type 0 where
  pub rule : answers n ts r a
  pub means : Meaning K n ts r a
