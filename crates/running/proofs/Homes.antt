-- What holds as a run begins.
use Rattle.std.proofs.Common.{◌≡◌, ℕ, zero, suc, ◌<◌, ◌≤◌, Bool, true, false, eqb, List, [], ◌∷◌, map, get_or, set, replicate, Some, None, vec_items, vec_len, vec_capacity, Option, Vec, sym, refl, ap, ◌∙◌, ⊎_elim, arith}
use Rattle.std.proofs.lemmas.List.{get_or_past, get_or-set_same, get_or-set_other, get_or-replicate, length-replicate, map-set}
use Rattle.std.proofs.lemmas.Bool.{both_ways, cases_lt, cases_eq, or_left, or_from, ne_eqb}
use Rattle.std.specs.declared.alloc.Global.{Global}
use Rattle.routing.specs.Lists.{has}
use Rattle.routing.specs.declared.Verdict.TheVariants.{Working}
use Rattle.routing.specs.Kind.{Kind}
use Rattle.routing.specs.Rules.{Run, unreached, begun}
use Rattle.routing.specs.Rules as rules
use Rattle.routing.proofs.Lists.{has_only, has_here}
use Rattle.running.specs.declared.table.Entry.{Entry}
use Rattle.running.specs.declared.table.Table.{Table}
use Rattle.running.specs.Table.{seen_all, dues}
use Rattle.running.specs.Work.{Holds, Marks}

-- the entries that a run begins with
abbrev pub blank : Entry
blank = record { reached = false; arriving = None; due = false }

pub is_blank : (e : Entry) → e.reached ≡ false → e.arriving ≡ None → e.due ≡ false → e ≡ blank
is_blank e r a d =
    ap (λ (b : Bool). record { reached = b; arriving = e.arriving; due = e.due }) r
    ∙ ap (λ (o : Option ℕ). record { reached = false; arriving = o; due = e.due }) a
    ∙ ap (λ (b : Bool). record { reached = false; arriving = None; due = b }) d

abbrev pub home_entry : Entry
home_entry = record { reached = true; arriving = None; due = true }

abbrev pub at_home : rules.Entry
at_home = record { reached = true; arriving = None }

pub same_all : {X : Type 0} (n x : ℕ) (d : X) → get_or (replicate n d) x d ≡ d
same_all n x d = ⊎_elim (λ l. get_or-replicate n x d d l) (λ past. get_or_past (replicate n d) x d (rw (length-replicate n d) past)) (cases_lt x n)

map_replicate : {X Y : Type 0} (f : X → Y) (n : ℕ) (x : X) → map f (replicate n x) ≡ replicate n (f x)
map_replicate f zero x = refl
map_replicate f (suc n) x = ap (λ xs. f x ∷ xs) (map_replicate f n x)

-- a table in which only home has an entry of its own
pub map_home : {X : Type 0} (f : Entry → X) (n home : ℕ) (es : List Entry) → es ≡ replicate n blank → map f (set es home home_entry) ≡ set (replicate n (f blank)) home (f home_entry)
map_home f n home es e = ap (λ xs. map f (set xs home home_entry)) e ∙ map-set f (replicate n blank) home home_entry ∙ ap (λ xs. set xs home (f home_entry)) (map_replicate f n blank)

module _ (n home : ℕ) (inside : home < n) where
  home_at : {X : Type 0} (d e : X) → get_or (set (replicate n d) home e) home d ≡ e
  home_at d e = get_or-set_same (replicate n d) home e d (rw (length-replicate n d) inside)

  no_arrival : (x : ℕ) → (get_or (set (replicate n unreached) home at_home) x unreached).arriving ≡ None
  no_arrival x =
      ⊎_elim
      (λ same. rw same (ap (λ z. z.arriving) (home_at unreached at_home)))
      (λ other. ap (λ z. z.arriving) (get_or-set_other (replicate n unreached) home x at_home unreached other ∙ same_all n x unreached))
      (cases_eq x home)

  pub marks_home : Marks n (set (replicate n false) home true) (home ∷ []) []
  marks_home = record {
    due = λ x l.
        ⊎_elim
        (λ same. rw same (home_at false true ∙ sym (or_left (has home (home ∷ [])) false (has_here home home [] refl))))
        (λ other.
        get_or-set_other (replicate n false) home x true false other ∙ same_all n x false
        ∙ sym (or_from (has x (home ∷ [])) false (or_from (eqb x home) false (ne_eqb x home other) refl) refl))
        (cases_eq x home);
    apart = λ x h. absurd (both_ways false refl h);
  }

  pub holds_home : (m : ℕ) (b : Table) (ws : Vec ℕ Global) → vec_len b.entries ≡ n
      → seen_all b ≡ set (replicate n unreached) home at_home → dues b ≡ set (replicate n false) home true → vec_items ws ≡ home ∷ []
      → n ≤ vec_capacity ws → Holds n m b ws
  holds_home m b ws le ee ed ew room = record {
    entries = le;
    arrivals = λ x t e.
        let k : ◌≡◌ {A = Option ℕ} None (Some t) = sym (no_arrival x) ∙ (rw ee at e) in
        let z : ◌≡◌ {A = ℕ} 0 1 = cc in
        omega arith;
    waits = λ x h. let same : x ≡ home = has_only x home (rw ew at h) in rw (ed, same) (home_at false true);
    reached = λ x h. let same : x ≡ home = has_only x home (rw ew at h) in rw (ee, same) (ap (λ z. z.reached) (home_at unreached at_home));
    once = rw ew (refl, tt);
    room = room;
  }

abbrev begun_with : {L : Type 0} → List L → List rules.Entry → List ℕ → Run L
begun_with ls es ws = record { lengths = ls; entries = es; waiting = ws; passes = 0; scans = 0; verdict = Working }

pub begun_is : {L : Type 0} (K : Kind L) (n home : ℕ) (ls : List L) (z : L) (es : List rules.Entry) (ws : List ℕ)
    → z ≡ K.none → es ≡ set (replicate n unreached) home at_home → ws ≡ home ∷ [] → begun_with (set ls home z) es ws ≡ begun K n [] home ls
begun_is K n home ls z es ws e f h =
    ap (λ a. begun_with (set ls home a) es ws) e
    ∙ ap (λ a. begun_with (set ls home K.none) a ws) f
    ∙ ap (λ a. begun_with (set ls home K.none) (set (replicate n unreached) home at_home) a) h
