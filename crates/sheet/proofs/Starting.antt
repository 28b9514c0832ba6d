-- The book of a tape is new, or cannot be made.
use Rattle.std.proofs.Common.{◌≡◌, ℕ, ◌+◌, ◌≤◌, Bool, true, false, ◌||◌, eqb, ltb, List, [], ◌++◌, length, replicate, Ok, Err, vec_items, sym, refl, ap, ◌∙◌, subst, arith}
use lib.ListN.{length-replicate}
use Rattle.std.proofs.lemmas.Bool.{cond-true, cond-false, le-ltb}
use Rattle.routing.specs.declared.Trunk.{Trunk}
use Rattle.routing.specs.History.{State, Phase}
use Rattle.running.specs.Work.{run_of}
use Rattle.book.specs.declared.Book.{Book}
use Rattle.book.specs.declared.Phase.{Phase as Stage}
use Rattle.book.specs.declared.Phase.TheVariants.{Idle}
use Rattle.book.specs.declared.refusal.Refusal.TheVariants.{BadSize}
use Rattle.book.specs.declared.refusal.Refusal.{Refusal}
use Rattle.book.specs.Answers.{fitness}
use Rattle.book.specs.State.{phase_of, state_of}
use Rattle.tape.specs.declared.faults.RecordFault.TheVariants.{Book as in_book}
use Rattle.tape.specs.Faults.{layer_of, number_of}
use Rattle.printing.specs.Lines.{fault_line}
use Rattle.sheet.specs.Told.{Form, faulty, told_from, told, new_book, text_of, AllRight, TellsAll}

-- no book of so many exchanges
misfit : (bad : Bool) (n size : ℕ) → n ≤ size → (k : Refusal) → Err k ≡ fitness bad (ltb size n) → (bad ≡ true) × (k ≡ BadSize)
misfit true n size room k e = (refl, cc)
misfit false n size room k e = let short : ltb size n ≡ false = le-ltb size n room in let z : ◌≡◌ {A = ℕ} 0 1 = cc in absurd (omega arith)

-- a book can be made
well_fit : (bad : Bool) (short : Bool) → Ok tt ≡ fitness bad short → bad ≡ false
well_fit true short e = let z : ◌≡◌ {A = ℕ} 0 1 = cc in absurd (omega arith)
well_fit false short e = refl

-- a book that was just made
pub is_new : {L : Type 0} (F : Form L) (n : ℕ) (b : Book) (ls : List L) → b.number ≡ 0 → b.n ≡ n → vec_items b.trunks ≡ [] → b.phase ≡ Idle → ls ≡ replicate (n + 4096) F.kind.none → state_of b ls ≡ new_book F n
is_new {L} F n b ls number size trunks phase are =
    ap (λ (k : ℕ). record { number = k; size = b.n; trunks = vec_items b.trunks; lengths = ls; phase = phase_of b.phase (run_of b.work ls) }) number
    ∙ ap (λ (k : ℕ). record { number = 0; size = k; trunks = vec_items b.trunks; lengths = ls; phase = phase_of b.phase (run_of b.work ls) }) size
    ∙ ap (λ (ts : List Trunk). record { number = 0; size = n; trunks = ts; lengths = ls; phase = phase_of b.phase (run_of b.work ls) }) trunks
    ∙ ap (λ (p : Stage). record { number = 0; size = n; trunks = []; lengths = ls; phase = phase_of p (run_of b.work ls) }) phase
    ∙ ap (λ (xs : List L). record { number = 0; size = n; trunks = []; lengths = xs; phase = Phase.idle }) are

module _ {L : Type 0} (F : Form L) (n : ℕ) (tape before : List ℕ) where
  -- n is 0 or over 256
  abbrev bad : Bool
  bad = eqb n 0 || ltb 256 n

  places_enough : (ls : List L) → ls ≡ replicate (n + 4096) F.kind.none → n ≤ length ls
  places_enough ls are = omega (arith, ap length are ∙ length-replicate (n + 4096) F.kind.none)

  pub tells_misfit : {ls : List L} → ls ≡ replicate (n + 4096) F.kind.none → {k : Refusal} → Err k ≡ fitness bad (ltb (length ls) n) → {out : List ℕ} → out ≡ before ++ fault_line (layer_of (in_book k)) (number_of (in_book k)) 0 → TellsAll F n (told F n tape) before out
  tells_misfit {ls} are {k} why printed =
      let m = misfit bad n (length ls) (places_enough ls are) k why in
      let is : told F n tape ≡ faulty 3 1 0 = cond-true bad (faulty 3 1 0) _ m.0 in
      record {
        text = printed ∙ ap (λ (i : Refusal). before ++ fault_line (layer_of (in_book i)) (number_of (in_book i)) 0) m.1 ∙ ap (λ t. before ++ text_of F n t) (sym is);
        right = subst (λ t. AllRight F n t.blocks) (sym is) tt;
      }

  pub tells_fit : (short : Bool) → Ok tt ≡ fitness bad short → {s : State L} → s ≡ new_book F n → {out : List ℕ} → TellsAll F n (told_from F (length tape) tape 4 s []) before out → TellsAll F n (told F n tape) before out
  tells_fit short fits new {out} t =
      let is : told F n tape ≡ told_from F (length tape) tape 4 (new_book F n) [] = cond-false bad (faulty 3 1 0) _ (well_fit bad short fits) in
      subst (λ w. TellsAll F n w before out) (ap (λ q. told_from F (length tape) tape 4 q []) new ∙ sym is) t
