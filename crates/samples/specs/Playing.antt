-- A list of calls on a new book, worked out by the rules.
use Rattle.std.specs.Prelude.{ℕ, zero, suc, ◌+◌, List, [], ◌∷◌, ◌++◌, replicate, Some, None, fold}
use Rattle.routing.specs.declared.Trunk.{Trunk}
use Rattle.routing.specs.Kind.{Kind}
use Rattle.routing.specs.Rules.{Run}
use Rattle.routing.specs.History.{State, Phase, idle, running, standing, laid, repriced, barred, unbarred, began, pass, finished, abandoned, edited, stepped}
use Rattle.routing.specs.Calls.{Call, lay, reprice, bar, unbar, begin, do_pass, finish, abandon, Answer, done, shown, said, refusal}

-- how a run stands; `done` where there is none
abbrev pub stands : {L : Type 0} → Phase L → Answer
stands idle = done
stands (running home r) = done
stands (standing home r) = shown (said r.verdict) r.passes r.scans

module _ {L : Type 0} (K : Kind L) (order : ℕ → List Trunk → Run L → List ℕ) where
  -- what the order answers in this phase
  abbrev pub answered : State L → Phase L → List ℕ
  answered s idle = []
  answered s (running home r) = order s.size s.trunks r
  answered s (standing home r) = []

  -- the book after an accepted call
  abbrev pub accepted : State L → Call L → State L
  accepted s (lay a b l) = edited (laid a b l) s
  accepted s (reprice t l) = edited (repriced t l) s
  accepted s (bar t) = edited (barred t) s
  accepted s (unbar t) = edited (unbarred t) s
  accepted s (begin x) = stepped K (began x) s
  accepted s (do_pass b) = stepped K (pass (answered s s.phase)) s
  accepted s (finish b) = stepped K finished s
  accepted s (abandon b) = stepped K abandoned s

  -- the book after a call; a refused one changes nothing
  abbrev pub called : State L → Call L → State L
  called s c = elim (refusal K s c) [ Some k ↦ s | None ↦ accepted s c ]

  -- the book of number 1 with n exchanges and places for m trunks, after these calls
  abbrev pub played : ℕ → ℕ → List (Call L) → State L
  played n m cs = fold called (record { number = 1; size = n; trunks = []; lengths = replicate (n + m) K.none; phase = idle }) cs

-- k passes
abbrev pub passes : {L : Type 0} → ℕ → List (Call L)
passes zero = []
passes (suc k) = do_pass 1 ∷ passes k

-- a tariff, and a run from home with a pass for each of n exchanges; one that is over refuses the others
abbrev pub run_of : {L : Type 0} → ℕ → ℕ → List (Call L) → List (Call L)
run_of n home lays = lays ++ (begin home ∷ (passes n ++ (finish 1 ∷ [])))
