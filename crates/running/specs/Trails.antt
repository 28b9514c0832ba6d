-- The trunks met on the way back from an exchange, turned round.
use Rattle.std.specs.Prelude.{◌≡◌, ◌<◌, ℕ, zero, suc, Bool, false, cond, List, [], ◌∷◌, ◌++◌, Some, None, Option, ◌==◌, slice_index_or}
use Rattle.routing.specs.declared.Trunk.{Trunk}
use Rattle.routing.specs.Rules.{Entry, unreached, trunk}

-- no trunk arrives at x
abbrev pub StopsAt : List Entry → ℕ → Type 0
StopsAt es x = (slice_index_or es x unreached).arriving ≡ None

-- trunk t arrives at x, and leaves v, which is one of n exchanges
abbrev pub Arrives : ℕ → List Trunk → List Entry → (x t v : ℕ) → Type 0
Arrives n ts es x t v = ((slice_index_or es x unreached).arriving ≡ Some t) × (v ≡ (trunk ts t).from) × (v < n)

-- the way back ends at x
abbrev pub stops : Option ℕ → ℕ → Bool
stops None x = false
stops (Some w) x = x == w

-- along arriving trunks to x, from the exchange at which the way back stops or from where none arrives; at most k trunks
abbrev pub trail : ℕ → List Trunk → List Entry → Option ℕ → ℕ → List ℕ
trail zero ts es stop x = []
trail (suc k) ts es stop x =
    cond (stops stop x) [] (elim (slice_index_or es x unreached).arriving [ None ↦ [] | Some t ↦ trail k ts es stop (trunk ts t).from ++ (t ∷ []) ])
