-- The turns of an answered list, one by one.
use Rattle.std.proofs.Common.{◌≡◌, ℕ, zero, suc, ◌+◌, ◌<◌, Bool, true, false, ◌||◌, List, [], ◌∷◌, length, get_or, drop, set, vec_items, vec_len, vec_capacity, sym, refl, ap, ◌∙◌, subst, ⊎_elim, le_of_suc-le-suc, not-suc-le-zero, arith}
use Rattle.std.proofs.lemmas.List.{drop_more, get_or-set_same, get_or-set_other, length-map}
use Rattle.std.proofs.lemmas.Bool.{cond-true, cond-false, both_ways, cases_eq, or_from, ne_eqb}
use Rattle.routing.specs.Lists.{Once, has}
use Rattle.routing.specs.declared.Trunk.{Trunk}
use Rattle.routing.specs.Kind.{Kind}
use Rattle.routing.specs.Rules.{Run, Entry, unreached, is_loop, scanned, turns}
use Rattle.routing.proofs.Lists.{has_here, has_there}
use Rattle.running.specs.declared.table.Table.{Table}
use Rattle.running.specs.declared.Work.{Work}
use Rattle.running.specs.Table.{dues, seen_all}
use Rattle.running.specs.Work.{Sound, Marked, Marks, Arrivals, SameRoom, run_of}
use Rattle.running.proofs.Rooms.{room_then}

-- the first to come has its turn
pub marks_first : (n : ℕ) (ds : List Bool) (ws later : List ℕ) (v : ℕ) → v < length ds → has v later ≡ false → Marks n ds ws (v ∷ later) → Marks n (set ds v false) ws later
marks_first n ds ws later v inside new m = record {
  due = λ x l.
      ⊎_elim
      (λ same.
      let waits : has v ws ≡ false = m.apart v (has_here v v later refl) in
      rw same (get_or-set_same ds v false false inside ∙ sym (or_from (has v ws) (has v later) waits new)))
      (λ other. get_or-set_other ds v x false false other ∙ m.due x l ∙ ap (λ b. has x ws || (b || has x later)) (ne_eqb x v other))
      (cases_eq x v);
  apart = λ x h. m.apart x (has_there x v later h);
}

pub waits_first : (n : ℕ) (ds : List Bool) (ws later : List ℕ) (v : ℕ) → Marks n ds ws (v ∷ later)
    → ((x : ℕ) → has x ws ≡ true → get_or ds x false ≡ true) → (x : ℕ) → has x ws ≡ true → get_or (set ds v false) x false ≡ true
waits_first n ds ws later v m before x h =
    ⊎_elim
    (λ same. absurd (both_ways (has v ws) (m.apart v (has_here v v later refl)) (rw same at h)))
    (λ other. get_or-set_other ds v x false false other ∙ before x h)
    (cases_eq x v)

once_drop : (i : ℕ) (xs : List ℕ) → Once xs → Once (drop i xs)
once_drop zero xs o = o
once_drop (suc i) [] o = tt
once_drop (suc i) (x ∷ xs) o = once_drop i xs o.1

pub has_at : (xs : List ℕ) (i : ℕ) → i < length xs → has (get_or xs i 0) xs ≡ true
has_at [] i l = absurd (not-suc-le-zero l)
has_at (x ∷ xs) zero l = has_here x x xs refl
has_at (x ∷ xs) (suc i) l = has_there (get_or xs i 0) x xs (has_at xs i (le_of_suc-le-suc l))

-- w with another table
abbrev pub with_table : Work → Table → Work
with_table w b = record { table = b; waiting = w.waiting; passes = w.passes; scans = w.scans; verdict = w.verdict }

module _ {L : Type 0} (K : Kind L) (n : ℕ) (ts : List Trunk) (answered : List ℕ) where
  -- from w₀ the first i of the answered had their turn, and it came to w
  pub record Turning (w₀ : Work) (ls₀ : List L) (i : ℕ) (w : Work) (ls : List L) : Type 0 where
    pub sound : Sound n ts w
    pub room : SameRoom w₀ w
    pub marked : Marked n w (drop i answered)
    pub run : turns K n ts answered (run_of w₀ ls₀) ≡ turns K n ts (drop i answered) (run_of w ls)

  over_all : (later : List ℕ) (r : Run L) → is_loop r.verdict ≡ true → turns K n ts later r ≡ r
  over_all [] r e = refl
  over_all (v ∷ later) r e = cond-true (is_loop r.verdict) r _ e

  module _ (w₀ : Work) (ls₀ : List L) (i : ℕ) (w : Work) (ls : List L) (before : Turning w₀ ls₀ i w ls) where
    pub turning_over : is_loop w.verdict ≡ true → run_of w ls ≡ turns K n ts answered (run_of w₀ ls₀)
    turning_over e = sym (before.run ∙ over_all (drop i answered) (run_of w ls) e)

    -- the next has its turn: its place is taken off first, which gives the table b
    module _ (l : i < length answered) (once : Once answered) (b : Table) (same : seen_all b ≡ seen_all w.table)
        (off : dues b ≡ set (dues w.table) (get_or answered i 0) false) (len : vec_len b.entries ≡ vec_len w.table.entries) (room : vec_capacity b.entries ≡ vec_capacity w.table.entries) where
      abbrev v : ℕ
      v = get_or answered i 0

      abbrev more : List ℕ
      more = drop (i + 1) answered

      split : drop i answered ≡ v ∷ more
      split = drop_more answered i 0 l

      marked_here : Marked n w (v ∷ more)
      marked_here = subst (λ xs. Marked n w xs) split before.marked

      pub placed_sound : Sound n ts (with_table w b)
      placed_sound = record {
        entries = len ∙ before.sound.entries;
        arrivals = subst (λ es. Arrivals (length ts) es) (sym same) before.sound.arrivals;
        waits = λ x h. ap (λ (ds : List Bool). get_or ds x false) off ∙ waits_first n (dues w.table) (vec_items w.waiting) more v marked_here before.sound.waits x h;
        reached = λ x h. ap (λ (es : List Entry). (get_or es x unreached).reached) same ∙ before.sound.reached x h;
        once = before.sound.once;
        room = before.sound.room;
      }

      placed_marked : v < n → Marked n (with_table w b) more
      placed_marked inside =
          let o : Once (v ∷ more) = subst (λ xs. Once xs) split (once_drop i answered once) in
          let long : v < length (dues w.table) = omega (arith, before.sound.entries, w.table.entries.ok.0, length-map (vec_items w.table.entries) (λ a. a.due)) in
          subst (λ ds. Marks n ds (vec_items w.waiting) more) (sym off) (marks_first n (dues w.table) (vec_items w.waiting) more v long o.0 marked_here)

      pub turning_on : v < n → is_loop w.verdict ≡ false → (w' : Work) (ls' : List L) → Sound n ts w' → SameRoom (with_table w b) w'
          → ((later : List ℕ) → Marked n (with_table w b) later → Marked n w' later × (run_of w' ls' ≡ scanned K n ts later v (run_of (with_table w b) ls)))
          → Turning w₀ ls₀ (i + 1) w' ls'
      turning_on inside goes w' ls' s keeps does =
          let (m, e) = does more (placed_marked inside) in
          let seen_so : run_of (with_table w b) ls ≡ run_of w ls =
          ap (λ (es : List Entry). record { lengths = ls; entries = es; waiting = vec_items w.waiting; passes = w.passes; scans = w.scans; verdict = w.verdict }) same in
          record {
            sound = s;
            room = room_then w₀ w w' before.room (keeps.0 ∙ room, keeps.1);
            marked = m;
            run = before.run ∙ ap (λ xs. turns K n ts xs (run_of w ls)) split ∙ cond-false (is_loop w.verdict) (run_of w ls) _ goes
                ∙ ap (λ r. turns K n ts more (scanned K n ts more v r)) (sym seen_so) ∙ ap (λ r. turns K n ts more r) (sym e);
          }
