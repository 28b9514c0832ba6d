-- What the calls of a run promise, from the checks that they made and the steps that they took.
use Rattle.std.proofs.Common.{◌≡◌, ℕ, ◌+◌, ◌<◌, true, false, not, ◌||◌, eqb, ltb, List, [], length, Some, None, vec_items, vec_len, Option, sym, refl, ap, ◌∙◌, subst, arith}
use Rattle.std.proofs.lemmas.Bool.{both_ways, not-false, not_from_true, or_from, ne_eqb, eq-eqb, le-ltb}
use Rattle.std.proofs.lemmas.List.{length-map}
use Rattle.routing.specs.declared.Trunk.{Trunk}
use Rattle.routing.specs.Kind.{Kind}
use Rattle.routing.specs.Lists.{has}
use Rattle.routing.specs.Rules.{Run, begun, passed}
use Rattle.routing.specs.Orders.{Meaning}
use Rattle.routing.specs.History.{State, step, began, pass, finished, abandoned, running}
use Rattle.routing.specs.Refusals.{is_running, is_working}
use Rattle.routing.specs.Calls.{Answer, begin, do_pass, finish, abandon, refused, done, shown, said, refusals, refusal, Answers}
use Rattle.routing.specs.Does.{Serves, applied}
use Rattle.routing.proofs.Does.{serves_refused, serves_accepted}
use Rattle.routing.proofs.Refused.{NoneOf, none_of, of_none}
use Rattle.running.specs.declared.Work.{Work}
use Rattle.running.specs.Table.{seen, seen_all}
use Rattle.running.specs.Work.{run_of, names_inside}
use Rattle.running.proofs.Begins.{reached_below}
use Rattle.running.proofs.Naming.{passed_inside}
use Rattle.book.specs.declared.Phase.{Phase}
use Rattle.book.specs.declared.Phase.TheVariants.{Idle, Running, Standing}
use Rattle.book.specs.declared.Book.{Book}
use Rattle.book.specs.Held.{has_run, Names}
use Rattle.book.specs.Orders.{ByOrder}
use Rattle.book.specs.declared.Ticket.{Ticket}
use Rattle.book.specs.State.{Owed, phase_of, runs, state_of, stood}

module _ {L : Type 0} where
  -- the home of an open run
  home_of : (p : Phase) (r : Run L) → is_running (phase_of p r) ≡ true → (home : ℕ) × (p ≡ Running home)
  home_of Idle r e = absurd (both_ways false refl e)
  home_of (Running home) r e = (home, refl)
  home_of (Standing home) r e = absurd (both_ways false refl e)

  runs_is : (p : Phase) (r : Run L) → is_running (phase_of p r) ≡ runs p
  runs_is Idle r = refl
  runs_is (Running home) r = refl
  runs_is (Standing home) r = refl

  pub open_has_run : (p : Phase) (r : Run L) → is_running (phase_of p r) ≡ true → has_run p ≡ true
  open_has_run p r e = ap has_run (home_of p r e).1

module _ {L : Type 0} (K : Kind L) (b : Book) (ls : List L) where
  abbrev s : State L
  s = state_of b ls

  -- the book with another run, in phase p
  abbrev with_run : Phase → Work → List L → State L
  with_run p w ls' = record { number = b.number; size = b.n; trunks = vec_items b.trunks; lengths = ls'; phase = phase_of p (run_of w ls') }

  pub begun_so : (home : ℕ) (w : Work) (ls' : List L) → None ≡ refusal K s (begin home) → run_of w ls' ≡ begun K b.n [] home ls
      → Serves K (Meaning K b.n) s (begin home) done (with_run (Running home) w ls')
  begun_so home w ls' none does =
      serves_accepted K (Meaning K b.n) s (λ ts r a m. m) (begin home) done (with_run (Running home) w ls') (step (began home)) none refl
      (ap (λ (r : Run L). record { number = b.number; size = b.n; trunks = vec_items b.trunks; lengths = r.lengths; phase = running home r }) does) refl

  -- a run is open where a ticket was accepted
  pub open_for_pass : (k : ℕ) → None ≡ refusal K s (do_pass k) → (is_running s.phase ≡ true) × (is_working s.phase ≡ true)
  open_for_pass k none = let q = none_of (refusals K s (do_pass k)) (sym none) in (not-false (is_running s.phase) q.1.1.1.0, not-false (is_working s.phase) q.1.1.1.1.0)

  -- a pass over trunks that are the book's names no loop but of the book
  pub names_passed : has_run b.phase ≡ true → (ts : List Trunk) → ts ≡ vec_items b.trunks → (a : List ℕ) (w : Work) (ls' : List L) → Meaning K b.n ts (run_of b.work ls) a
      → run_of w ls' ≡ passed K b.n ts a (run_of b.work ls) → Names b.n b.trunks w
  names_passed runs ts same a w ls' means does =
      let own = b.trunks.ok.0 in
      let long : length ts ≡ vec_len b.trunks = ap length same ∙ sym own in
      let low : (v : ℕ) → has v a ≡ true → v < b.n =
      λ v h. let l = reached_below (seen_all b.work.table) v (means.are_reached v h) in
      omega (arith, length-map (vec_items b.work.table.entries) seen, b.work.table.entries.ok.0, (b.seated runs).2) in
      subst (λ (m : ℕ). names_inside b.n m w.verdict ≡ true) long
      (ap (λ (r : Run L). names_inside b.n (length ts) r.verdict) does
      ∙ passed_inside K b.n ts a (run_of b.work ls) low (subst (λ (m : ℕ). names_inside b.n m b.work.verdict ≡ true) (sym long) b.names))

  open_for_finish : (k : ℕ) → None ≡ refusal K s (finish k) → is_running s.phase ≡ true
  open_for_finish k none = let q = none_of (refusals K s (finish k)) (sym none) in not-false (is_running s.phase) q.1.1.1.0

  module _ (answers : ℕ → List Trunk → Run L → List ℕ → Type 0) (k : ℕ) where
    abbrev R : List Trunk → Run L → List ℕ → Type 0
    R = ByOrder K answers b.n

    pub pass_refused : (j : ℕ) → Some j ≡ refusal K s (do_pass k) → Serves K R s (do_pass k) (refused j) s
    pass_refused j why = serves_refused K R s (λ ts r a m. m.means) (do_pass k) j why

    -- with the phase given apart
    passed_at : (p : Phase) (home : ℕ) → p ≡ Running home → (a : List ℕ) (w : Work) (ls' : List L) → run_of w ls' ≡ passed K b.n (vec_items b.trunks) a (run_of b.work ls)
        → with_run p w ls' ≡ applied K (step (pass a)) (with_run p b.work ls)
    passed_at p home e a w ls' does =
        subst (λ (q : Phase). with_run q w ls' ≡ applied K (step (pass a)) (with_run q b.work ls)) (sym e)
        (ap (λ (r : Run L). record { number = b.number; size = b.n; trunks = vec_items b.trunks; lengths = r.lengths; phase = running home r }) does)

    shown_at : (p : Phase) (home : ℕ) → p ≡ Running home → (w : Work) (ls' : List L) (x : Answer) → x ≡ shown (said w.verdict) w.passes w.scans
        → Answers (length (vec_items b.trunks)) (do_pass k) (with_run p w ls') x
    shown_at p home e w ls' x is = subst (λ (q : Phase). Answers (length (vec_items b.trunks)) (do_pass k) (with_run q w ls') x) (sym e) is

    pub passed_so : (a : List ℕ) (w : Work) (ls' : List L) (x : Answer) → None ≡ refusal K s (do_pass k)
        → R (vec_items b.trunks) (run_of b.work ls) a
        → run_of w ls' ≡ passed K b.n (vec_items b.trunks) a (run_of b.work ls)
        → x ≡ shown (said w.verdict) w.passes w.scans
        → Serves K R s (do_pass k) x (with_run b.phase w ls')
    passed_so a w ls' x none told does is =
        let (home, e) = home_of b.phase (run_of b.work ls) (open_for_pass k none).0 in
        serves_accepted K R s (λ ts r a m. m.means) (do_pass k) x (with_run b.phase w ls') (step (pass a)) none
        (home, run_of b.work ls, a, ap (λ (p : Phase). phase_of p (run_of b.work ls)) e, told, refl)
        (passed_at b.phase home e a w ls' does) (shown_at b.phase home e w ls' x is)

  finished_at : (p : Phase) (home : ℕ) → p ≡ Running home → with_run (stood p) b.work ls ≡ applied K (step finished) (with_run p b.work ls)
  finished_at p home e = subst (λ (q : Phase). with_run (stood q) b.work ls ≡ applied K (step finished) (with_run q b.work ls)) (sym e) refl

  pub finished_so : (k : ℕ) (x : Answer) (p' : Phase) → None ≡ refusal K s (finish k) → p' ≡ stood b.phase → x ≡ shown (said b.work.verdict) b.work.passes b.work.scans
      → Serves K (Meaning K b.n) s (finish k) x (with_run p' b.work ls)
  finished_so k x p' none stands is =
      let (home, e) = home_of b.phase (run_of b.work ls) (open_for_finish k none) in
      serves_accepted K (Meaning K b.n) s (λ ts r a m. m) (finish k) x (with_run p' b.work ls) (step finished) none refl
      (ap (λ (p : Phase). with_run p b.work ls) stands ∙ finished_at b.phase home e)
      (subst (λ (p : Phase). Answers (length (vec_items b.trunks)) (finish k) (with_run p b.work ls) x) (sym (stands ∙ ap stood e)) is)

  pub abandoned_so : (k : ℕ) → None ≡ refusal K s (abandon k) → Serves K (Meaning K b.n) s (abandon k) done (with_run Idle b.work ls)
  abandoned_so k none = serves_accepted K (Meaning K b.n) s (λ ts r a m. m) (abandon k) done (with_run Idle b.work ls) (step abandoned) none refl refl refl

  -- the four tests of a ticket that is owed
  pub owed_passes : (t : Ticket) → Owed t b (length ls) → NoneOf (refusals K s (abandon t.number))
  owed_passes t o =
      let own = b.trunks.ok.0 in
      let sized : (eqb b.n 0 || ltb 256 b.n) ≡ false = or_from (eqb b.n 0) (ltb 256 b.n) (ne_eqb b.n 0 (λ e. omega (arith, o.some))) (le-ltb 256 b.n o.few) in
      let room : ltb (length ls) (b.n + length (vec_items b.trunks)) ≡ false = le-ltb (length ls) (b.n + length (vec_items b.trunks)) (omega (arith, o.room)) in
      let named : not (eqb t.number b.number) ≡ false = not_from_true (eqb t.number b.number) (eq-eqb t.number b.number o.bears) in
      let opened : not (is_running s.phase) ≡ false = not_from_true (is_running s.phase) (runs_is b.phase (run_of b.work ls) ∙ o.open_run) in
      (sized, (room, (named, (opened, tt))))

  -- a ticket that is owed is not refused by an abandon
  pub owed_taken : (t : Ticket) → Owed t b (length ls) → (k : ℕ) → Some k ≡ refusal K s (abandon t.number) → ⊥
  owed_taken t o k why =
      let none : refusal K s (abandon t.number) ≡ None = of_none (refusals K s (abandon t.number)) (owed_passes t o) in
      let z : ◌≡◌ {A = Option ℕ} (Some k) None = why ∙ none in
      let y : ◌≡◌ {A = ℕ} 0 1 = cc in
      omega arith
