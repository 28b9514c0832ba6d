-- What the calls promise, from the checks that they made and the fields that they wrote.
use Rattle.std.proofs.Common.{◌≡◌, ℕ, ◌+◌, ◌<◌, Bool, true, false, cond, List, [], ◌∷◌, ◌++◌, length, get_or, set, Some, None, vec_items, vec_len, sym, refl, ap, ◌∙◌, arith}
use Rattle.std.proofs.lemmas.List.{get_or_read}
use Rattle.routing.specs.declared.Trunk.{Trunk}
use Rattle.routing.specs.Kind.{Kind}
use Rattle.routing.specs.Rules.{Run, no_trunk}
use Rattle.routing.specs.Orders.{Meaning}
use Rattle.routing.specs.History.{State, Event, edit, laid, repriced, barred, unbarred, idle, bar_to}
use Rattle.routing.specs.Calls.{Call, lay, reprice, bar, unbar, refused, numbered, done, refusals, refusal, Becomes}
use Rattle.routing.specs.Does.{Serves}
use Rattle.routing.proofs.Does.{serves_refused, serves_accepted}
use Rattle.routing.proofs.Playing.{May, may}
use Rattle.routing.proofs.Refused.{none_of}
use Rattle.book.specs.declared.Book.{Book}
use Rattle.book.specs.State.{state_of}

module _ {L : Type 0} (K : Kind L) (b : Book) (ls : List L) where
  abbrev s : State L
  s = state_of b ls

  -- any order that keeps its meaning; these calls ask none
  abbrev R : List Trunk → Run L → List ℕ → Type 0
  R = Meaning K b.n

  pub refused_so : (c : Call L) (k : ℕ) → Some k ≡ refusal K s c → Serves K R s c (refused k) s
  refused_so c k why = serves_refused K R s (λ ts r a m. m) c k why

  -- what an accepted call may count on
  pub may_do : (c : Call L) (e : Event L) → None ≡ refusal K s c → Becomes R s c e → May K R e s
  may_do c e none is = may K R s c e (none_of (refusals K s c) (sym none)) is

  -- the book with other trunks and lengths, and no run
  abbrev changed_to : List Trunk → List L → State L
  changed_to ts ls' = record { number = b.number; size = b.n; trunks = ts; lengths = ls'; phase = idle }

  pub laid_so : (from to : ℕ) (l : L) (t : ℕ) (ts : List Trunk) → None ≡ refusal K s (lay from to l) → t ≡ vec_len b.trunks → ts ≡ vec_items b.trunks ++ (record { from = from; to = to; barred = false } ∷ [])
      → Serves K R s (lay from to l) (numbered t) (changed_to ts (set ls (b.n + t) l))
  laid_so from to l t ts none at items =
      let many : t ≡ length (vec_items b.trunks) = at ∙ b.trunks.ok.0 in
      serves_accepted K R s (λ ts r a m. m) (lay from to l) (numbered t) (changed_to ts (set ls (b.n + t) l)) (edit (laid from to l)) none refl
      (ap (λ (xs : List Trunk). changed_to xs (set ls (b.n + t) l)) items ∙ ap (λ (k : ℕ). changed_to (vec_items b.trunks ++ (record { from = from; to = to; barred = false } ∷ [])) (set ls (b.n + k) l)) many)
      (ap (λ (k : ℕ). numbered k) many)

  pub repriced_so : (t : ℕ) (l : L) → None ≡ refusal K s (reprice t l) → Serves K R s (reprice t l) done (changed_to (vec_items b.trunks) (set ls (b.n + t) l))
  repriced_so t l none = serves_accepted K R s (λ ts r a m. m) (reprice t l) done (changed_to (vec_items b.trunks) (set ls (b.n + t) l)) (edit (repriced t l)) none refl refl refl

  -- a trunk that was read and is written with another state
  bar_to_is : (x : Bool) (t : ℕ) (old : Trunk) → t < vec_len b.trunks → old ≡ get_or (vec_items b.trunks) t old
      → set (vec_items b.trunks) t (record { from = old.from; to = old.to; barred = x }) ≡ bar_to x (vec_items b.trunks) t
  bar_to_is x t old low is =
      ap (λ (a : Trunk). set (vec_items b.trunks) t (record { from = a.from; to = a.to; barred = x }))
      (get_or_read (vec_items b.trunks) t old (omega (arith, b.trunks.ok.0)) is no_trunk)

  -- closed or opened: an accepted call has a trunk that is laid
  pub known_trunk : (t : ℕ) → None ≡ refusal K s (bar t) → t < vec_len b.trunks
  known_trunk t none = let ok = may_do (bar t) (edit (barred t)) none refl in omega (arith, ok.2, b.trunks.ok.0)

  abbrev switch : Bool → ℕ → Call L
  switch x t = cond x (bar t) (unbar t)

  pub switch_refused : (x : Bool) (t : ℕ) (k : ℕ) → Some k ≡ refusal K s (bar t) → Serves K R s (switch x t) (refused k) s
  switch_refused true t k why = refused_so (bar t) k why
  switch_refused false t k why = refused_so (unbar t) k why

  pub switched_so : (x : Bool) (t : ℕ) (old : Trunk) → t < vec_len b.trunks → old ≡ get_or (vec_items b.trunks) t old → None ≡ refusal K s (bar t)
      → Serves K R s (switch x t) done (changed_to (set (vec_items b.trunks) t (record { from = old.from; to = old.to; barred = x })) ls)
  switched_so true t old low is none = serves_accepted K R s (λ ts r a m. m) (bar t) done _ (edit (barred t)) none refl (ap (λ (xs : List Trunk). changed_to xs ls) (bar_to_is true t old low is)) refl
  switched_so false t old low is none = serves_accepted K R s (λ ts r a m. m) (unbar t) done _ (edit (unbarred t)) none refl (ap (λ (xs : List Trunk). changed_to xs ls) (bar_to_is false t old low is)) refl
