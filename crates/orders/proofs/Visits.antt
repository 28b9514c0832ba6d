-- A visit, trunk by trunk.
use Rattle.std.proofs.Common.{◌≡◌, ℕ, zero, suc, ◌+◌, ◌<◌, ◌≤◌, Bool, true, false, not, ◌&&◌, ◌||◌, ◌⊎◌, List, [], ◌∷◌, ◌++◌, length, get_or, set, vec_items, vec_len, vec_capacity, fold, Vec, sym, refl, ap, ◌∙◌, subst, ⊎_elim, arith}
use mathlib.Core.List.{reverse-cons}
use Rattle.std.specs.declared.alloc.Global.{Global}
use Rattle.std.proofs.lemmas.List.{get_or-set_same, get_or-set_other}
use Rattle.std.proofs.lemmas.Bool.{cases_eq, ne_eqb, and_from, and_left, and_right, cond-true, cond-false, not_from_true, not_from_false}
use Rattle.routing.specs.declared.Trunk.{Trunk}
use Rattle.routing.specs.Kind.{Kind}
use Rattle.routing.specs.Lists.{has}
use Rattle.routing.specs.Rules.{Run, trunk, leaving}
use Rattle.routing.specs.Orders.{Search, follows, visit}
use Rattle.routing.proofs.Lists.{has_here}
use Rattle.routing.proofs.Topological.{along, marked}
use Rattle.orders.specs.Marks.{unmarked, Stands, Visits}

-- a new mark
pub unmarked_set : (ms : List Bool) (x : ℕ) → x < length ms → get_or ms x false ≡ false → suc (unmarked (set ms x true)) ≡ unmarked ms
unmarked_set [] x inside free = absurd (omega arith)
unmarked_set (true ∷ ms) zero inside free = cc
unmarked_set (false ∷ ms) zero inside free = refl
unmarked_set (true ∷ ms) (suc x) inside free = unmarked_set ms x (omega arith) free
unmarked_set (false ∷ ms) (suc x) inside free = ap suc (unmarked_set ms x (omega arith) free)

module _ {L : Type 0} (K : Kind L) (n : ℕ) (ts : List Trunk) (r : Run L) (v : ℕ) where
  -- each search that marks₀ and list₀ stand for goes on as one that marks and list stand for, with the trunks `left` to follow
  abbrev pub Runs : (marks₀ : List Bool) (list₀ : Vec ℕ Global) (left : List ℕ) (marks : List Bool) (list : Vec ℕ Global) → Type 0
  Runs marks₀ list₀ left marks list = (k : ℕ) (s : Search K n ts) → unmarked marks₀ ≤ k → Stands K n ts marks₀ (vec_items list₀) s
      → (a : Search K n ts) × Stands K n ts marks (vec_items list) a × (fold (along K n ts r k v) s (leaving ts v) ≡ fold (along K n ts r k v) a left)

  -- the trunks were followed but those of `left`
  pub record Going (marks₀ : List Bool) (list₀ : Vec ℕ Global) (left : List ℕ) (marks : List Bool) (list : Vec ℕ Global) : Type 0 where
    pub fewer : unmarked marks ≤ unmarked marks₀
    pub counts : vec_len list + unmarked marks ≡ vec_len list₀ + unmarked marks₀
    pub cap : vec_capacity list ≡ vec_capacity list₀
    pub run : Runs marks₀ list₀ left marks list

  pub going_start : (marks : List Bool) (list : Vec ℕ Global) → Going marks list (leaving ts v) marks list
  going_start marks list = record { fewer = omega arith; counts = refl; cap = refl; run = λ k s low st. (s, st, refl) }

  module _ (marks₀ : List Bool) (list₀ : Vec ℕ Global) (left : List ℕ) (marks : List Bool) (list : Vec ℕ Global) (before : Going marks₀ list₀ left marks list) where
    -- t is the first of what is left, and leads to one of the exchanges
    module _ (t : ℕ) (more : List ℕ) (split : left ≡ t ∷ more) (inside : (trunk ts t).to < n) where
      abbrev w : ℕ
      w = (trunk ts t).to

      abbrev goes : Search K n ts → Bool
      goes a = follows K n ts r v t && not (has w a.seen)

      run_on : (marks' : List Bool) (list' : Vec ℕ Global)
          → ((k : ℕ) (a : Search K n ts) → unmarked marks ≤ k → Stands K n ts marks (vec_items list) a → Stands K n ts marks' (vec_items list') (along K n ts r k v a t))
          → Runs marks₀ list₀ more marks' list'
      run_on marks' list' step k s low st =
          let (a, sa, e) = before.run k s low st in
          let less : unmarked marks ≤ unmarked marks₀ = before.fewer in
          (along K n ts r k v a t, step k a (omega arith) sa, e ∙ ap (λ us. fold (along K n ts r k v) a us) split)

      pub going_skip : (get_or marks w false ≡ true) ⊎ (follows K n ts r v t ≡ false) → Going marks₀ list₀ more marks list
      going_skip why = record {
        fewer = before.fewer;
        counts = before.counts;
        cap = before.cap;
        run = run_on marks list (λ k a low sa.
            let stays : goes a ≡ false = ⊎_elim
            (λ m. and_right (follows K n ts r v t) (not (has w a.seen)) (not_from_true (has w a.seen) (sym (sa.marked w inside) ∙ m)))
            (λ f. and_left (follows K n ts r v t) (not (has w a.seen)) f)
            why in
            subst (λ z. Stands K n ts marks (vec_items list) z) (sym (cond-false (goes a) (visit K n ts k r w a) a stays)) sa);
      }

      pub going_visit : get_or marks w false ≡ false → follows K n ts r v t ≡ true → (marks' : List Bool) (list' : Vec ℕ Global)
          → unmarked marks' < unmarked marks → vec_len list' + unmarked marks' ≡ vec_len list + unmarked marks → vec_capacity list' ≡ vec_capacity list
          → Visits K n ts r w marks (vec_items list) marks' (vec_items list')
          → Going marks₀ list₀ more marks' list'
      going_visit free follow marks' list' less same room does = record {
        fewer = omega (arith, before.fewer);
        counts = same ∙ before.counts;
        cap = room ∙ before.cap;
        run = run_on marks' list' (λ k a low sa.
            let on : goes a ≡ true = and_from (follows K n ts r v t) (not (has w a.seen)) follow (not_from_false (has w a.seen) (sym (sa.marked w inside) ∙ free)) in
            subst (λ z. Stands K n ts marks' (vec_items list') z) (sym (cond-true (goes a) (visit K n ts k r w a) a on)) (does k a low sa));
      }

  -- the whole visit
  module _ (marks₀ : List Bool) (list₀ : Vec ℕ Global) (inside : v < length marks₀) (fresh : get_or marks₀ v false ≡ false) where
    stands_marked : (s : Search K n ts) → Stands K n ts marks₀ (vec_items list₀) s → Stands K n ts (set marks₀ v true) (vec_items list₀) (marked K n ts r v s)
    stands_marked s st = record {
      marked = λ x l. ⊎_elim
          (λ same. ap (λ y. get_or (set marks₀ v true) y false) same ∙ get_or-set_same marks₀ v true false inside ∙ sym (has_here x v s.seen same))
          (λ other. get_or-set_other marks₀ v x true false other ∙ st.marked x l ∙ ap (λ b. b || has x s.seen) (sym (ne_eqb x v other)))
          (cases_eq x v);
      listed = st.listed;
    }

    pub visit_done : (left : List ℕ) (marks : List Bool) (list : Vec ℕ Global) → Going (set marks₀ v true) list₀ left marks list → left ≡ []
        → (items : List ℕ) → items ≡ vec_items list ++ (v ∷ [])
        → Visits K n ts r v marks₀ (vec_items list₀) marks items
    visit_done left marks list going none items pushed zero s low st = absurd (omega (arith, unmarked_set marks₀ v inside fresh))
    visit_done left marks list going none items pushed (suc k) s low st =
        let (a, sa, e) = going.run k (marked K n ts r v s) (omega (arith, unmarked_set marks₀ v inside fresh)) (stands_marked s st) in
        let all : fold (along K n ts r k v) (marked K n ts r v s) (leaving ts v) ≡ a = e ∙ ap (λ us. fold (along K n ts r k v) a us) none in
        subst (λ (z : Search K n ts). Stands K n ts marks items (record { seen = z.seen; list = v ∷ z.list })) (sym all) (record {
          marked = sa.marked;
          listed = pushed ∙ ap (λ xs. xs ++ (v ∷ [])) sa.listed ∙ sym (reverse-cons v a.list);
        })
