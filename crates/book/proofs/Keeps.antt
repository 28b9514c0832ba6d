-- From what a book holds to what the steps ask, and back.
use Rattle.std.proofs.Common.{◌≡◌, ℕ, ◌+◌, ◌<◌, ◌≤◌, Bool, true, false, ◌||◌, ltb, [], ◌∷◌, ◌++◌, length, vec_items, vec_len, Vec, refl, ◌∙◌, ⊎_elim, arith}
use Rattle.std.proofs.lemmas.List.{get_or_append_left, get_or_push}
use Rattle.std.proofs.lemmas.Bool.{and_parts, and_from, both_ways, cases_lt, ltb-true, lt-ltb}
use Rattle.std.specs.declared.alloc.Global.{Global}
use Rattle.routing.specs.declared.Trunk.{Trunk}
use Rattle.routing.specs.declared.Verdict.{Verdict}
use Rattle.routing.specs.declared.Verdict.TheVariants.{Working, Settled, Looped}
use Rattle.routing.specs.Lists.{has}
use Rattle.routing.specs.Rules.{is_loop, trunk, no_trunk}
use Rattle.running.specs.declared.index.Index.{Index}
use Rattle.running.specs.declared.Work.{Work}
use Rattle.running.specs.Work.{SoundOver, Marked, names_inside}
use Rattle.book.specs.declared.Phase.{Phase}
use Rattle.book.specs.declared.Phase.TheVariants.{Idle}
use Rattle.book.specs.Held.{Roomy, Spare, Laid, Seated, Indexed, Rests, Tells, Calm, Names}

-- all that a book holds
abbrev pub Whole : Phase → ℕ → Vec Trunk Global → Index → Work → Vec ℕ Global → Type 0
Whole p n ts ix w list =
    record {
      roomy : Roomy ts ix w;
      spare : Spare w list;
      laid : Laid n ts;
      seated : Seated p n w;
      indexed : Indexed p n ts ix;
      rests : Rests (vec_len ts) w;
      tells : Tells n w;
      names : Names n ts w;
    }

-- with no run nothing is asked of the index and the entries
pub whole_idle : (n : ℕ) (ts : Vec Trunk Global) (ix : Index) (w : Work) (list : Vec ℕ Global)
    → Roomy ts ix w → Spare w list → Laid n ts → Rests (vec_len ts) w → Tells n w → Names n ts w → Whole Idle n ts ix w list
whole_idle n ts ix w list roomy spare laid rests tells names = record {
  roomy = roomy;
  spare = spare;
  laid = laid;
  seated = λ e. absurd (both_ways false refl e);
  indexed = λ e. absurd (both_ways false refl e);
  rests = rests;
  tells = tells;
  names = names;
}

-- one trunk more
pub laid_push : (n : ℕ) (ts ts' : Vec Trunk Global) (new : Trunk) → vec_items ts' ≡ vec_items ts ++ (new ∷ []) → vec_len ts' ≡ vec_len ts + 1
    → new.from < n → new.to < n → vec_len ts < 4096 → Laid n ts → Laid n ts'
laid_push n ts ts' new items long from to few l =
    let at : (t : ℕ) → t < length (vec_items ts') → ((trunk (vec_items ts') t).from < n) × ((trunk (vec_items ts') t).to < n) =
    λ t k. rw items
    (⊎_elim
    (λ (old : t < length (vec_items ts)). rw (get_or_append_left (vec_items ts) (new ∷ []) no_trunk t old) (l.0.0 t old, l.0.1 t old))
    (λ (past : length (vec_items ts) ≤ t).
    let e : length (vec_items ts) ≡ t = omega (arith, ts.ok.0, ts'.ok.0) in
    rw (get_or_push (vec_items ts) new no_trunk t e) (from, to))
    (cases_lt t (length (vec_items ts)))) in
    (((λ t k. (at t k).0), (λ t k. (at t k).1)), omega arith)

pub rests_push : (m k : ℕ) (w : Work) → k ≡ m + 1 → Rests m w → Rests k w
rests_push m k w e r = (λ x t h. omega (arith, r.0 x t h), r.1, r.2, r.3)

-- the loop that a verdict names, where there are more trunks, and where there is none
names_more : (n m k : ℕ) (e : Verdict) → k ≡ m + 1 → names_inside n m e ≡ true → names_inside n k e ≡ true
names_more n m k Working up is = refl
names_more n m k Settled up is = refl
names_more n m k (Looped v t) up is =
    let p = and_parts (ltb v n) (ltb t m) is in
    let low : t < m = ltb-true t m p.1 in
    and_from (ltb v n) (ltb t k) p.0 (lt-ltb t k (omega arith))

pub names_push : (n : ℕ) (ts ts' : Vec Trunk Global) (w : Work) → vec_len ts' ≡ vec_len ts + 1 → Names n ts w → Names n ts' w
names_push n ts ts' w up is = names_more n (vec_len ts) (vec_len ts') w.verdict up is

names_none : (n m : ℕ) (e : Verdict) → is_loop e ≡ false → names_inside n m e ≡ true
names_none n m Working free = refl
names_none n m Settled free = refl
names_none n m (Looped v t) free = absurd (both_ways true free refl)

pub names_calm : (n : ℕ) (ts : Vec Trunk Global) (w : Work) → Calm w → Names n ts w
names_calm n ts w free = names_none n (vec_len ts) w.verdict free

or_false : (b : Bool) → (b || false) ≡ b
or_false true = refl
or_false false = refl

-- what a book holds, from what the steps say of its run
pub rests_from : (n m : ℕ) (w : Work) → SoundOver n m w → Rests m w
rests_from n m w s = (s.arrivals, s.waits, s.reached, s.once)

pub tells_from : (n : ℕ) (w : Work) → (is_loop w.verdict ≡ false → Marked n w []) → Tells n w
tells_from n w m goes x l = (m goes).due x l ∙ or_false (has x (vec_items w.waiting))
