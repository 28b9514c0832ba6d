-- What a whole list of calls on a new book comes to.
use Rattle.std.specs.Prelude.{◌≡◌, ℕ, ◌<◌, ◌≤◌, List, [], ◌∷◌, ◌++◌, map, length, get_or, take, drop, Some, None, Option, Result, ◌≢◌, slice_index_or}
use Rattle.routing.specs.declared.Trunk.{Trunk}
use Rattle.routing.specs.declared.Verdict.TheVariants.{Settled as settled}
use Rattle.routing.specs.Kind.{Kind}
use Rattle.routing.specs.Walks.{Tariff, Cheapest, Unbounded, Named}
use Rattle.routing.specs.Rules.{Run}
use Rattle.routing.specs.History.{History, State, standing, tariff_of, after}
use Rattle.routing.specs.Calls.{Plays}
use Rattle.routing.specs.Calls as rules
use Rattle.routing.specs.Readings.{told, charge, arrival, loop}
use Rattle.routing.specs.Promise.{Right}
use Rattle.book.specs.declared.refusal.Refusal.{Refusal}
use Rattle.book.specs.Orders.{ByOrder}
use Rattle.book.specs.State.{state_of}
use Rattle.replay.specs.declared.Read.{Read}
use Rattle.replay.specs.declared.Read.TheVariants.{Sheet, Loop}
use Rattle.replay.specs.declared.Call.{Call}
use Rattle.replay.specs.declared.Answer.{Answer}
use Rattle.replay.specs.declared.Line.{Line}
use Rattle.replay.specs.declared.Replayed.{Replayed}
use Rattle.replay.specs.Making.{Bears, Makes, answer_of, call_of}
use Rattle.replay.specs.Reading.{blank}

-- these calls, one after the other, turn s into the last book; xs are their answers
pub data MakesAll {L : Type 0} (K : Kind L) (OrderAnswers : List Trunk → Run L → List ℕ → Type 0) (s : State L) : List (rules.Call L) → List rules.Answer → State L → Type 0 where
  none : MakesAll K OrderAnswers s [] [] s
  more : {cs : List (rules.Call L)} {xs : List rules.Answer} {s₁ s₂ : State L} {c : rules.Call L} {x : rules.Answer}
      → MakesAll K OrderAnswers s cs xs s₁ → Makes K OrderAnswers s₁ c x s₂ → MakesAll K OrderAnswers s (cs ++ (c ∷ [])) (xs ++ (x ∷ [])) s₂

-- what the lists say of the tariff T, which has n exchanges, when the calls have made the book s
pub data Tells {L : Type 0} (K : Kind L) (n : ℕ) (T : Tariff L) (s : State L) (read : Option Read) (lines : List (Line L)) (looped : List ℕ) : Type 0 where
  -- no run is finished
  nothing : ((home : ℕ) (r : Run L) → s.phase ≢ standing home r) → read ≡ None → Tells K n T s read lines looped
  -- a settled run: the readings, place by place, are the cheapest charges with their own walks
  sheet : {home : ℕ} {r : Run L} → s.phase ≡ standing home r → r.verdict ≡ settled → read ≡ Some Sheet
      → ((x : ℕ) → x < n → charge K s x ≡ told (slice_index_or lines x blank).charge) → ((x : ℕ) → x < n → arrival s x ≡ told (slice_index_or lines x blank).arrival)
      → Cheapest K T n home (λ x. (get_or lines x blank).charge) (λ x. (get_or lines x blank).arrival) → Tells K n T s read lines looped
  -- a loop: its trunks are a closed walk below zero that home reaches
  a_loop : {home : ℕ} {r : Run L} {cs : List ℕ} (room : ℕ) → s.phase ≡ standing home r → read ≡ Some (Loop (length cs)) → loop s room ≡ told cs → take (length cs) looped ≡ cs
      → Named K T home cs → Unbounded K T home → Tells K n T s read lines looped

-- only the first n lines may differ
abbrev pub SameFrom : {L : Type 0} → ℕ → List (Line L) → List (Line L) → Type 0
SameFrom n before after = (length after ≡ length before) × ((x : ℕ) → n ≤ x → slice_index_or after x blank ≡ slice_index_or before x blank)

-- what is not read is as it was
abbrev pub Leaves : {L : Type 0} → ℕ → Option Read → List (Line L) → List (Line L) → List ℕ → List ℕ → Type 0
Leaves n None lines lines' looped looped' = (lines' ≡ lines) × (looped' ≡ looped)
Leaves n (Some Sheet) lines lines' looped looped' = SameFrom n lines lines' × (looped' ≡ looped)
Leaves n (Some (Loop k)) lines lines' looped looped' = (lines' ≡ lines) × (drop k looped' ≡ drop k looped)

-- a refused list of calls has written nothing
pub record Unchanged {L : Type 0} (ls ls' : List L) (xs xs' : List (Result Answer Refusal)) (lines lines' : List (Line L)) (looped looped' : List ℕ) : Type 0 where
  pub lengths : ls' ≡ ls
  pub answers : xs' ≡ xs
  pub same_lines : lines' ≡ lines
  pub same_looped : looped' ≡ looped

-- the whole promise: some history of accepted calls is what the given calls and the written answers play to; it makes the book and the length
-- list, which are right in words of walks over the history's tariff, and the lists tell so
pub record Replays {L : Type 0} (K : Kind L) (answers : ℕ → List Trunk → Run L → List ℕ → Type 0) (number n : ℕ) (first last : List L) (cs : List (Call L)) (xs : List (Result Answer Refusal))
    (r : Replayed) (lines : List (Line L)) (looped : List ℕ) : Type 0 where
  pub history : History L
  pub plays : Plays K number n first (ByOrder K answers n) [] (map (call_of number) cs) (map answer_of xs) history
  pub made : state_of r.book last ≡ after K number n first history
  pub ticket : Bears r.ticket r.book (length last)
  pub right : Right K n history (state_of r.book last)
  pub tells : Tells K n (tariff_of history) (state_of r.book last) r.read lines looped
