-- A search from those that wait, the last first.
use Rattle.std.proofs.Common.{◌≡◌, ℕ, zero, suc, ◌+◌, ◌-◌, ◌<◌, ◌≤◌, Bool, true, false, not, ◌||◌, ◌⊎◌, List, [], ◌∷◌, ◌++◌, reverse, length, get_or, take, drop, replicate, vec_items, vec_len, vec_capacity, fold, Vec, sym, refl, ap, ◌∙◌, subst, ⊎_elim, arith}
use Rattle.std.specs.declared.alloc.Global.{Global}
use Rattle.std.proofs.lemmas.List.{reverse-append, reverse-reverse, nil_from_length, take-replicate}
use Rattle.std.proofs.lemmas.Bool.{or_left, or_right, or_from, cond-true, cond-false, not_from_true, not_from_false}
use Rattle.routing.specs.declared.Trunk.{Trunk}
use Rattle.routing.specs.Kind.{Kind}
use Rattle.routing.specs.Lists.{has}
use Rattle.routing.specs.Rules.{Run}
use Rattle.routing.specs.Orders.{Search, has_improving, visit, topological}
use Rattle.routing.proofs.Facts.{has_pushed}
use Rattle.routing.proofs.Topological.{tried, empty}
use Rattle.running.specs.declared.Work.{Work}
use Rattle.running.specs.Work.{Sound, run_of}
use Rattle.running.proofs.Homes.{same_all}
use Rattle.running.proofs.Moves.{due_inside, has_push_same}
use Rattle.orders.specs.Marks.{unmarked, Stands, Visits}

pub unmarked_none : (n : ℕ) → unmarked (replicate n false) ≡ n
unmarked_none zero = refl
unmarked_none (suc n) = ap suc (unmarked_none n)

-- the marks at the start, n of 256
pub no_marks : (n : ℕ) → n ≤ 256 → take (n - 0) (drop 0 (replicate 256 false)) ≡ replicate n false
no_marks n few = let same : n - 0 ≡ n = omega arith in rw same (take-replicate n 256 false few)

module _ {L : Type 0} (K : Kind L) (n : ℕ) (ts : List Trunk) (work : Work) (ls : List L) where
  abbrev r : Run L
  r = run_of work ls

  -- the whole search goes on as one that marks and list stand for, with those of `left` to take
  abbrev pub Runs : (left : List ℕ) (marks : List Bool) (list : Vec ℕ Global) → Type 0
  Runs left marks list = (s : Search K n ts) × Stands K n ts marks (vec_items list) s
      × (fold (tried K n ts r n) (empty K n ts r) (reverse r.waiting) ≡ fold (tried K n ts r n) s (reverse left))

  -- those of `left` are still to be taken; the list began as list₀
  pub record Taking (list₀ : Vec ℕ Global) (left : List ℕ) (marks : List Bool) (list : Vec ℕ Global) : Type 0 where
    pub few : unmarked marks ≤ n
    pub counts : vec_len list + unmarked marks ≡ n
    pub cap : vec_capacity list ≡ vec_capacity list₀
    pub waits : (x : ℕ) → has x left ≡ true → has x r.waiting ≡ true
    pub run : Runs left marks list

  pub taking_start : (list : Vec ℕ Global) (marks : List Bool) → vec_items list ≡ [] → marks ≡ replicate n false → Taking list r.waiting marks list
  taking_start list marks none clean =
      let all : unmarked marks ≡ n = ap unmarked clean ∙ unmarked_none n in
      record {
        few = omega arith;
        counts = omega (arith, list.ok.0, ap length none);
        cap = refl;
        waits = λ x h. h;
        run = (empty K n ts r, record { marked = λ x l. ap (λ ms. get_or ms x false) clean ∙ same_all n x false; listed = none }, refl);
      }

  module _ (list₀ : Vec ℕ Global) (left : List ℕ) (marks : List Bool) (list : Vec ℕ Global) (before : Taking list₀ left marks list) where
    -- v is the next
    module _ (v : ℕ) (more : List ℕ) (split : left ≡ more ++ (v ∷ [])) where
      pub next_inside : Sound n ts work → v < n
      next_inside sound =
          let waits : has v r.waiting ≡ true = before.waits v (ap (λ xs. has v xs) split ∙ has_push_same v more) in
          due_inside n (length ts) work.table work.waiting sound v (sound.waits v waits)

      module _ (inside : v < n) where
        abbrev stays : Search K n ts → Bool
        stays a = has v a.seen || not (has_improving K n ts r v)

        run_on : (marks' : List Bool) (list' : Vec ℕ Global)
            → ((a : Search K n ts) → Stands K n ts marks (vec_items list) a → Stands K n ts marks' (vec_items list') (tried K n ts r n a v))
            → Runs more marks' list'
        run_on marks' list' step =
            let (a, sa, e) = before.run in
            let turned : reverse left ≡ v ∷ reverse more = ap reverse split ∙ reverse-append more (v ∷ []) in
            (tried K n ts r n a v, step a sa, e ∙ ap (λ us. fold (tried K n ts r n) a us) turned)

        waits_on : (x : ℕ) → has x more ≡ true → has x r.waiting ≡ true
        waits_on x h = before.waits x (ap (λ xs. has x xs) split ∙ has_pushed x v more h)

        pub taking_skip : (get_or marks v false ≡ true) ⊎ (has_improving K n ts r v ≡ false) → Taking list₀ more marks list
        taking_skip why = record {
          few = before.few;
          counts = before.counts;
          cap = before.cap;
          waits = waits_on;
          run = run_on marks list (λ a sa.
              let on : stays a ≡ true = ⊎_elim
              (λ m. or_left (has v a.seen) (not (has_improving K n ts r v)) (sym (sa.marked v inside) ∙ m))
              (λ f. or_right (has v a.seen) (not (has_improving K n ts r v)) (not_from_false (has_improving K n ts r v) f))
              why in
              subst (λ z. Stands K n ts marks (vec_items list) z) (sym (cond-true (stays a) a (visit K n ts n r v a) on)) sa);
        }

        pub taking_visit : get_or marks v false ≡ false → has_improving K n ts r v ≡ true → (marks' : List Bool) (list' : Vec ℕ Global)
            → unmarked marks' < unmarked marks → vec_len list' + unmarked marks' ≡ vec_len list + unmarked marks → vec_capacity list' ≡ vec_capacity list
            → Visits K n ts r v marks (vec_items list) marks' (vec_items list')
            → Taking list₀ more marks' list'
        taking_visit free improves marks' list' less same room does = record {
          few = omega (arith, before.few);
          counts = same ∙ before.counts;
          cap = room ∙ before.cap;
          waits = waits_on;
          run = run_on marks' list' (λ a sa.
              let goes : stays a ≡ false = or_from (has v a.seen) (not (has_improving K n ts r v)) (sym (sa.marked v inside) ∙ free) (not_from_true (has_improving K n ts r v) improves) in
              subst (λ z. Stands K n ts marks' (vec_items list') z) (sym (cond-false (stays a) a (visit K n ts n r v a) goes)) (does n a before.few sa));
        }

    -- none is left, and the list is turned round
    pub taking_end : length left ≡ 0 → reverse (vec_items list) ≡ topological K n ts r
    taking_end none =
        let (a, sa, e) = before.run in
        let all : fold (tried K n ts r n) (empty K n ts r) (reverse r.waiting) ≡ a = e ∙ ap (λ us. fold (tried K n ts r n) a (reverse us)) (nil_from_length left none) in
        ap reverse sa.listed ∙ reverse-reverse a.list ∙ ap (λ (z : Search K n ts). z.list) (sym all)
