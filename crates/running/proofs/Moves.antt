-- What a new label, arriving trunk and mark keep.
use Rattle.std.proofs.Common.{◌≡◌, ℕ, ◌<◌, ◌≤◌, Bool, true, false, cond, ◌||◌, eqb, List, [], ◌∷◌, ◌++◌, length, get_or, set, Some, vec_items, vec_len, vec_capacity, Option, Vec, sym, refl, ap, ◌∙◌, ⊎_elim, arith}
use Rattle.std.proofs.lemmas.List.{get_or-set_same, get_or-set_other, set_past, get_or_past, length-map}
use Rattle.std.proofs.lemmas.Bool.{both_ways, cases_eq, cases_lt, eq-eqb, ne_eqb, or_left, or_right, or_from, cond-true, cond-false}
use Rattle.routing.specs.Lists.{Once, has}
use Rattle.routing.specs.declared.Trunk.{Trunk}
use Rattle.routing.specs.Kind.{Kind}
use Rattle.routing.specs.Rules.{Run, Entry, back, trunk, unreached, improving, moved, tried, sum_by}
use Rattle.routing.proofs.Lists.{has_push, once_push, has_cases, lacks_from}
use Rattle.routing.proofs.Chains.{pigeons}
use Rattle.std.specs.declared.alloc.Global.{Global}
use Rattle.running.specs.declared.table.Table.{Table}
use Rattle.running.specs.Table.{dues, is_due, arrived}
use Rattle.running.specs.Work.{Arrivals, Holds}

pub arrivals_set : (m : ℕ) (es : List Entry) (x t : ℕ) → Arrivals m es → t < m → Arrivals m (set es x (arrived t))
arrivals_set m es x t before below y u e =
    ⊎_elim
    (λ same. ⊎_elim
    (λ inside.
    let at : get_or (set es x (arrived t)) y unreached ≡ arrived t = rw same (get_or-set_same es x (arrived t) unreached inside) in
    let k : ◌≡◌ {A = Option ℕ} (Some t) (Some u) = sym (ap (λ z. z.arriving) at) ∙ e in
    let q : t ≡ u = cc in
    omega arith)
    (λ past. before y u (rw (set_past es x (arrived t) past) at e))
    (cases_lt x (length es)))
    (λ other. before y u (sym (ap (λ z. z.arriving) (get_or-set_other es x y (arrived t) unreached other)) ∙ e))
    (cases_eq y x)

pub reached_set : (es : List Entry) (w t x : ℕ) → w < length es → (get_or es x unreached).reached ≡ true → (get_or (set es w (arrived t)) x unreached).reached ≡ true
reached_set es w t x inside e =
    ⊎_elim
    (λ same. rw same (ap (λ z. z.reached) (get_or-set_same es w (arrived t) unreached inside)))
    (λ other. ap (λ z. z.reached) (get_or-set_other es w x (arrived t) unreached other) ∙ e)
    (cases_eq x w)

pub reached_push : (es : List Entry) (ws : List ℕ) (w t : ℕ) → w < length es → ((x : ℕ) → has x ws ≡ true → (get_or es x unreached).reached ≡ true)
    → (x : ℕ) → has x (ws ++ (w ∷ [])) ≡ true → (get_or (set es w (arrived t)) x unreached).reached ≡ true
reached_push es ws w t inside before x h =
    ⊎_elim
    (λ k. reached_set es w t x inside (before x k))
    (λ same. rw same (ap (λ z. z.reached) (get_or-set_same es w (arrived t) unreached inside)))
    (has_push x ws w h)

-- marks

pub due_below : (ds : List Bool) (x : ℕ) → get_or ds x false ≡ true → x < length ds
due_below ds x e = ⊎_elim (λ l. l) (λ past. absurd (both_ways (get_or ds x false) (get_or_past ds x false past) e)) (cases_lt x (length ds))

pub set_due_kept : (ds : List Bool) (x z : ℕ) → get_or ds z false ≡ true → get_or (set ds x true) z false ≡ true
set_due_kept ds x z e =
    ⊎_elim
    (λ same. let inside : x < length ds = rw same at (due_below ds z e) in rw same (get_or-set_same ds x true false inside))
    (λ other. get_or-set_other ds x z true false other ∙ e)
    (cases_eq z x)

pub waits_push : (ds : List Bool) (ws : List ℕ) (x : ℕ) → x < length ds → ((z : ℕ) → has z ws ≡ true → get_or ds z false ≡ true)
    → (z : ℕ) → has z (ws ++ (x ∷ [])) ≡ true → get_or (set ds x true) z false ≡ true
waits_push ds ws x inside before z h =
    ⊎_elim
    (λ k. set_due_kept ds x z (before z k))
    (λ same. rw same (get_or-set_same ds x true false inside))
    (has_push z ws x h)

pub has_push_other : (z x : ℕ) (ws : List ℕ) → (z ≡ x → ⊥) → has z (ws ++ (x ∷ [])) ≡ has z ws
has_push_other z x [] ne = or_from (eqb z x) false (ne_eqb z x ne) refl
has_push_other z x (y ∷ ws) ne = ap (λ b. eqb z y || b) (has_push_other z x ws ne)

pub has_push_same : (x : ℕ) (ws : List ℕ) → has x (ws ++ (x ∷ [])) ≡ true
has_push_same x [] = or_left (eqb x x) false (eq-eqb x x refl)
has_push_same x (y ∷ ws) = or_right (eqb x y) (has x (ws ++ (x ∷ []))) (has_push_same x ws)

pub marked_push : (n : ℕ) (ds : List Bool) (ws later : List ℕ) (x : ℕ) → x < length ds
    → ((z : ℕ) → z < n → get_or ds z false ≡ (has z ws || has z later))
    → (z : ℕ) → z < n → get_or (set ds x true) z false ≡ (has z (ws ++ (x ∷ [])) || has z later)
marked_push n ds ws later x inside before z l =
    ⊎_elim
    (λ same.
    rw same (get_or-set_same ds x true false inside ∙ sym (or_left (has x (ws ++ (x ∷ []))) (has x later) (has_push_same x ws))))
    (λ other. get_or-set_other ds x z true false other ∙ before z l ∙ ap (λ b. b || has z later) (sym (has_push_other z x ws other)))
    (cases_eq z x)

pub apart_push : (ws later : List ℕ) (x : ℕ) → has x later ≡ false → ((z : ℕ) → has z later ≡ true → has z ws ≡ false)
    → (z : ℕ) → has z later ≡ true → has z (ws ++ (x ∷ [])) ≡ false
apart_push ws later x free before z h =
    ⊎_elim
    (λ same. absurd (both_ways (has x later) free (rw same at h)))
    (λ other. has_push_other z x ws other ∙ before z h)
    (cases_eq z x)

-- at most n exchanges wait
module _ (n m : ℕ) (b : Table) (ws : Vec ℕ Global) (s : Holds n m b ws) where
  pub due_inside : (x : ℕ) → is_due b x ≡ true → x < n
  due_inside x e = let l = due_below (dues b) x e in omega (arith, s.entries, b.entries.ok.0, length-map (vec_items b.entries) (λ a. a.due))

  pub few_wait : length (vec_items ws) ≤ n
  few_wait = pigeons n (vec_items ws) s.once (λ z h. due_inside z (s.waits z h))

  -- an exchange that is not due waits nowhere, and has a place in the waiting list
  waits_nowhere : (x : ℕ) → is_due b x ≡ false → has x (vec_items ws) ≡ false
  waits_nowhere x free = lacks_from x (vec_items ws) (λ h. both_ways (is_due b x) free (s.waits x h))

  pub room_left : (x : ℕ) → x < n → is_due b x ≡ false → vec_len ws < vec_capacity ws
  room_left x below free =
      let few : length (x ∷ vec_items ws) ≤ n =
      pigeons n (x ∷ vec_items ws) (waits_nowhere x free, s.once) (λ z h. ⊎_elim (λ e. omega arith) (λ k. due_inside z (s.waits z k)) (has_cases z x (vec_items ws) h)) in
      omega (arith, s.room, ws.ok.0)

  pub once_waiting : (x : ℕ) → is_due b x ≡ false → Once (vec_items ws ++ (x ∷ []))
  once_waiting x free = once_push (vec_items ws) x s.once (waits_nowhere x free)

-- the run

module _ {L : Type 0} (K : Kind L) (n : ℕ) (ts : List Trunk) (later : List ℕ) (v t : ℕ) (r : Run L) where
  abbrev with_move : L → List ℕ → Run L
  with_move sum ws = record {
    lengths = set r.lengths (trunk ts t).to sum;
    entries = set r.entries (trunk ts t).to (arrived t);
    waiting = ws;
    passes = r.passes;
    scans = r.scans;
    verdict = r.verdict;
  }

  abbrev joins : Bool
  joins = has (trunk ts t).to r.waiting || has (trunk ts t).to later

  pub tried_moved : (sum : L) (ws : List ℕ) → improving K n ts r v t ≡ true → has (trunk ts t).to (back n ts r.entries v) ≡ false
      → sum ≡ sum_by K n ts r v t → ws ≡ cond joins r.waiting (r.waiting ++ ((trunk ts t).to ∷ []))
      → with_move sum ws ≡ tried K n ts later v t r
  tried_moved sum ws gain free e f =
      ap (λ s. with_move s ws) e ∙ ap (λ a. with_move (sum_by K n ts r v t) a) f
      ∙ sym (cond-true (improving K n ts r v t) _ r gain ∙ cond-false (has (trunk ts t).to (back n ts r.entries v)) _ (moved K n ts later v t r) free)
