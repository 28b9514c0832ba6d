-- Who is reached is one of the exchanges.
use Rattle.std.proofs.Common.{◌≡◌, ℕ, ◌<◌, true, List, length, get_or, ap, ⊎_elim}
use Rattle.std.proofs.lemmas.List.{get_or_past}
use Rattle.std.proofs.lemmas.Bool.{both_ways, cases_lt}
use Rattle.routing.specs.Rules.{Entry, unreached}

pub reached_below : (es : List Entry) (x : ℕ) → (get_or es x unreached).reached ≡ true → x < length es
reached_below es x e =
    ⊎_elim (λ l. l) (λ past. absurd (both_ways (get_or es x unreached).reached (ap (λ z. z.reached) (get_or_past es x unreached past)) e)) (cases_lt x (length es))
