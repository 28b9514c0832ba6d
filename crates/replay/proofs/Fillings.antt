-- A lent list, filled line by line, and what was read in the end.
use Rattle.std.proofs.Common.{◌≡◌, ℕ, ◌+◌, ◌-◌, ◌<◌, ◌≤◌, List, ◌++◌, length, get_or, take, drop, set, Ok, Err, Option, Result, refl, ap, ◌∙◌, subst, ⊎_elim, arith}
use Rattle.std.proofs.lemmas.List.{get_or-set_same, get_or-set_other, get_or_append_left, get_or-append_right, get_or-drop, length-append, length-drop, length-set, length-take}
use Rattle.std.proofs.lemmas.Bool.{cases_eq}
use Rattle.std.specs.Result.{result_unwrap_or}
use Rattle.routing.specs.Kind.{Kind}
use Rattle.routing.specs.History.{State}
use Rattle.routing.specs.Readings.{Reading, told, denied, charge, arrival}
use Rattle.book.specs.declared.refusal.Refusal.{Refusal}
use Rattle.book.specs.declared.refusal.Refusal.TheVariants.{BadSize, ShortList, Void, RunOpen, NoSuchExchange, LengthTooGreat, NoPlace, NoSuchTrunk, OtherTicket, NoRunOpen, RunOver, RunNotOver, NoFinishedRun, RunIsLoop, RunIsSettled, Unreached, NoRoom}
use Rattle.book.specs.Answers.{reading_of}
use Rattle.book.specs.Refusal.{number_of}
use Rattle.book.specs.Written.{Wrote}
use Rattle.replay.specs.declared.Line.{Line}
use Rattle.replay.specs.Reading.{Filled, blank}

-- what a reading told is what the call answered
pub told_or : {A : Type 0} {reading : Reading A} (r : Result A Refusal) (d o : A) → reading_of r ≡ reading → reading ≡ told o → result_unwrap_or r d ≡ o
told_or (Ok a) d o reads is = cc
told_or (Err k) d o reads is = let z : ◌≡◌ {A = ℕ} 0 1 = cc in absurd (omega arith)

module _ {L : Type 0} (K : Kind L) (s : State L) (xs : List (Line L)) where
  pub filled_set : (x : ℕ) (ys : List (Line L)) (w : Line L) → Filled K x s xs ys → x < length ys → ((o : Option L) → charge K s x ≡ told o → w.charge ≡ o) → ((o : Option ℕ) → arrival s x ≡ told o → w.arrival ≡ o)
      → Filled K (x + 1) s xs (set ys x w)
  filled_set x ys w before inside charges arrivals = record {
    long = length-set ys x w ∙ before.long;
    charges = λ y o l is.
        ⊎_elim
        (λ (same : y ≡ x). rw same (ap (λ (v : Line L). v.charge) (get_or-set_same ys x w blank inside) ∙ charges o (subst (λ (z : ℕ). charge K s z ≡ told o) same is)))
        (λ (other : y ≡ x → ⊥). ap (λ (v : Line L). v.charge) (get_or-set_other ys x y w blank other) ∙ before.charges y o (omega arith) is)
        (cases_eq y x);
    arrivals = λ y o l is.
        ⊎_elim
        (λ (same : y ≡ x). rw same (ap (λ (v : Line L). v.arrival) (get_or-set_same ys x w blank inside) ∙ arrivals o (subst (λ (z : ℕ). arrival s z ≡ told o) same is)))
        (λ (other : y ≡ x → ⊥). ap (λ (v : Line L). v.arrival) (get_or-set_other ys x y w blank other) ∙ before.arrivals y o (omega arith) is)
        (cases_eq y x);
    kept = λ y l. let other : y ≡ x → ⊥ = λ e. omega arith in get_or-set_other ys x y w blank other ∙ before.kept y (omega arith);
  }

  -- the front of a list, filled and put back
  pub filled_front : (n : ℕ) (ys : List (Line L)) → n ≤ length xs → Filled K (length (take n xs)) s (take n xs) ys → Filled K n s xs (ys ++ drop n xs)
  filled_front n ys inside f =
      let front : length (take n xs) ≡ n = omega (arith, length-take n xs) in
      let long : length ys ≡ n = f.long ∙ front in
      let at : (x : ℕ) → x < n → get_or (ys ++ drop n xs) x blank ≡ get_or ys x blank = λ x low. get_or_append_left ys (drop n xs) blank x (omega arith) in
      record {
        long = omega (arith, length-append ys (drop n xs), length-drop n xs);
        charges = λ x o low is. ap (λ (v : Line L). v.charge) (at x low) ∙ f.charges x o (omega arith) is;
        arrivals = λ x o low is. ap (λ (v : Line L). v.arrival) (at x low) ∙ f.arrivals x o (omega arith) is;
        kept = λ x high. get_or-append_right ys (drop n xs) n x blank long high ∙ get_or-drop n xs (x - n) blank ∙ ap (λ (k : ℕ). get_or xs k blank) (let e : n + (x - n) ≡ x = omega arith in e);
      }

-- only the refusal of a settled run has its number
pub settled_only : (k : Refusal) → (k ≡ RunIsSettled → ⊥) → number_of k ≡ 15 → ⊥
settled_only BadSize other e = omega arith
settled_only ShortList other e = omega arith
settled_only Void other e = omega arith
settled_only RunOpen other e = omega arith
settled_only NoSuchExchange other e = omega arith
settled_only LengthTooGreat other e = omega arith
settled_only NoPlace other e = omega arith
settled_only NoSuchTrunk other e = omega arith
settled_only OtherTicket other e = omega arith
settled_only NoRunOpen other e = omega arith
settled_only RunOver other e = omega arith
settled_only RunNotOver other e = omega arith
settled_only NoFinishedRun other e = omega arith
settled_only RunIsLoop other e = omega arith
settled_only RunIsSettled other e = other refl
settled_only Unreached other e = omega arith
settled_only NoRoom other e = omega arith

-- what was written, by the result
module _ {reading : Reading (List ℕ)} {before after : List ℕ} {r : Result ℕ Refusal} where
  pub wrote_ok : (count : ℕ) → r ≡ Ok count → Wrote reading before after r → (ts : List ℕ) × (reading ≡ told ts) × (count ≡ length ts) × (after ≡ ts ++ drop (length ts) before)
  wrote_ok count e (Wrote.refuses {k = k} why is same) = let z : ◌≡◌ {A = ℕ} 0 1 = cc in absurd (omega arith)
  wrote_ok count e (Wrote.writes {ts = ts} reads is same) = let many : count ≡ length ts = cc in (ts, reads, many, same)

  pub wrote_err : (k : Refusal) → r ≡ Err k → Wrote reading before after r → (reading ≡ denied (number_of k)) × (after ≡ before)
  wrote_err k e (Wrote.refuses {k = j} why is same) = let equal : j ≡ k = cc in (why ∙ ap (λ (i : Refusal). denied (number_of i)) equal, same)
  wrote_err k e (Wrote.writes {ts = ts} reads is same) = let z : ◌≡◌ {A = ℕ} 0 1 = cc in absurd (omega arith)
