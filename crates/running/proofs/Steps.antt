-- A trunk that improves: what holds after its head got a new label and arriving trunk.
use Rattle.std.proofs.Common.{◌≡◌, ℕ, ◌<◌, Bool, true, false, cond, ◌||◌, List, [], ◌∷◌, ◌++◌, length, get_or, set, Some, None, vec_items, vec_len, vec_capacity, Vec, sym, refl, ap, ◌∙◌, subst, arith}
use Rattle.std.proofs.lemmas.List.{length-map, set-get_or}
use Rattle.std.proofs.lemmas.Bool.{cond-true, cond-false, or_parts}
use Rattle.std.specs.declared.alloc.Global.{Global}
use Rattle.routing.specs.declared.Trunk.{Trunk}
use Rattle.routing.specs.Kind.{Kind}
use Rattle.routing.specs.Lists.{has}
use Rattle.routing.specs.Rules.{Run, Entry, unreached, trunk, back, improving, sum_by, tried}
use Rattle.running.specs.declared.table.Table.{Table}
use Rattle.running.specs.declared.Work.{Work}
use Rattle.running.specs.Table.{seen, seen_all, dues, is_due, arrived}
use Rattle.running.specs.Work.{run_of, Arrivals, Holds, Marks, Marked, Sound}
use Rattle.running.proofs.Moves.{arrivals_set, reached_set, reached_push, set_due_kept, waits_push, marked_push, apart_push, once_waiting, tried_moved}

-- an offer that was made
pub offered : {A : Type 0} (b : Bool) (x y : A) → Some x ≡ cond b (Some y) None → (b ≡ true) × (x ≡ y)
offered true x y e = (refl, cc)
offered false x y e = let z : ◌≡◌ {A = ℕ} 0 1 = cc in absurd (omega arith)

module _ (n : ℕ) (ts : List Trunk) (w : Work) (t : ℕ) (s : Sound n ts w) (known : t < length ts) (head_inside : (trunk ts t).to < n) where
  abbrev head : ℕ
  head = (trunk ts t).to

  in_seen : head < length (seen_all w.table)
  in_seen = omega (arith, head_inside, s.entries, w.table.entries.ok.0, length-map (vec_items w.table.entries) seen)

  in_dues : head < length (dues w.table)
  in_dues = omega (arith, head_inside, s.entries, w.table.entries.ok.0, length-map (vec_items w.table.entries) (λ a. a.due))

  module _ (b : Table) (new : seen_all b ≡ set (seen_all w.table) head (arrived t)) (on : dues b ≡ set (dues w.table) head true) (len : vec_len b.entries ≡ vec_len w.table.entries) where
    arrivals_then : Arrivals (length ts) (seen_all b)
    arrivals_then = subst (λ es. Arrivals (length ts) es) (sym new) (arrivals_set (length ts) (seen_all w.table) head t s.arrivals known)

    -- the head joins the waiting list
    module _ (ws : Vec ℕ Global) (items : vec_items ws ≡ vec_items w.waiting ++ (head ∷ [])) (free : is_due w.table head ≡ false) where
      pub joins_sound : vec_capacity ws ≡ vec_capacity w.waiting → Holds n (length ts) b ws
      joins_sound room = record {
        entries = len ∙ s.entries;
        arrivals = arrivals_then;
        waits = λ x h. ap (λ (ds : List Bool). get_or ds x false) on ∙ waits_push (dues w.table) (vec_items w.waiting) head in_dues s.waits x (rw items at h);
        reached = λ x h. ap (λ (es : List Entry). (get_or es x unreached).reached) new ∙ reached_push (seen_all w.table) (vec_items w.waiting) head t in_seen s.reached x (rw items at h);
        once = rw items (once_waiting n (length ts) w.table w.waiting s head free);
        room = omega (arith, s.room);
      }

      pub joins_marked : (later : List ℕ) → Marked n w later → Marks n (dues b) (vec_items ws) later
      joins_marked later h =
          let idle : (has head (vec_items w.waiting) || has head later) ≡ false = sym (h.due head head_inside) ∙ free in
          rw (on, items) (record {
            due = marked_push n (dues w.table) (vec_items w.waiting) later head in_dues h.due;
            apart = apart_push (vec_items w.waiting) later head (or_parts (has head (vec_items w.waiting)) (has head later) idle).1 h.apart;
          })

      pub joins_waiting : (later : List ℕ) → Marked n w later
          → vec_items ws ≡ cond (has head (vec_items w.waiting) || has head later) (vec_items w.waiting) (vec_items w.waiting ++ (head ∷ []))
      joins_waiting later h = items ∙ sym (cond-false (has head (vec_items w.waiting) || has head later) _ _ (sym (h.due head head_inside) ∙ free))

    -- the head is due already
    pub stays_sound : Holds n (length ts) b w.waiting
    stays_sound = record {
      entries = len ∙ s.entries;
      arrivals = arrivals_then;
      waits = λ x h. ap (λ (ds : List Bool). get_or ds x false) on ∙ set_due_kept (dues w.table) head x (s.waits x h);
      reached = λ x h. ap (λ (es : List Entry). (get_or es x unreached).reached) new ∙ reached_set (seen_all w.table) head t x in_seen (s.reached x h);
      once = s.once;
      room = s.room;
    }

    module _ (busy : is_due w.table head ≡ true) where
      pub stays_marked : (later : List ℕ) → Marked n w later → Marks n (dues b) (vec_items w.waiting) later
      stays_marked later h =
          let same : dues b ≡ dues w.table = on ∙ ap (λ x. set (dues w.table) head x) (sym busy) ∙ set-get_or (dues w.table) head false in
          subst (λ ds. Marks n ds (vec_items w.waiting) later) (sym same) h

      pub stays_waiting : (later : List ℕ) → Marked n w later
          → vec_items w.waiting ≡ cond (has head (vec_items w.waiting) || has head later) (vec_items w.waiting) (vec_items w.waiting ++ (head ∷ []))
      stays_waiting later h = sym (cond-true (has head (vec_items w.waiting) || has head later) _ _ (sym (h.due head head_inside) ∙ busy))

    -- the run has moved
    pub moved_run : {L : Type 0} (K : Kind L) (ls : List L) (v : ℕ) (sum : L) (ws : List ℕ) (later : List ℕ)
        → Some sum ≡ cond (improving K n ts (run_of w ls) v t) (Some (sum_by K n ts (run_of w ls) v t)) None
        → has head (back n ts (seen_all w.table) v) ≡ false
        → ws ≡ cond (has head (vec_items w.waiting) || has head later) (vec_items w.waiting) (vec_items w.waiting ++ (head ∷ []))
        → ◌≡◌ {A = Run L} (record { lengths = set ls head sum; entries = seen_all b; waiting = ws; passes = w.passes; scans = w.scans; verdict = w.verdict }) (tried K n ts later v t (run_of w ls))
    moved_run {L} K ls v sum ws later offer free waits =
        let (gain, same) = offered (improving K n ts (run_of w ls) v t) sum (sum_by K n ts (run_of w ls) v t) offer in
        ap (λ (es : List Entry). record { lengths = set ls head sum; entries = es; waiting = ws; passes = w.passes; scans = w.scans; verdict = w.verdict }) new
        ∙ tried_moved K n ts later v t (run_of w ls) sum ws gain free same waits
