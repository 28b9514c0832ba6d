-- Between two records: what was told so far, and what is left.
use Rattle.std.proofs.Common.{◌≡◌, ℕ, zero, suc, ◌+◌, ◌<◌, ◌≤◌, leb, List, [], ◌∷◌, ◌++◌, length, Some, None, Ok, Err, Option, Result, sym, refl, ap, ◌∙◌, subst, append_assoc, append-nil, arith}
use Rattle.std.proofs.lemmas.Bool.{cond-true, cond-false, le-leb, lt-leb}
use Rattle.routing.specs.History.{History, State, tariff_of, after}
use Rattle.routing.specs.Calls.{refusal}
use Rattle.routing.specs.Promise.{Right}
use Rattle.routing.proofs.Histories.{same_book}
use Rattle.book.specs.declared.outcome.Ending.{Ending}
use Rattle.book.specs.declared.refusal.Refusal.{Refusal}
use Rattle.tape.specs.declared.faults.RecordFault.{RecordFault}
use Rattle.tape.specs.declared.faults.RecordFault.TheVariants.{Book}
use Rattle.tape.specs.Faults.{layer_of, number_of}
use Rattle.tape.specs.Format.{Item, Found, record_at}
use Rattle.blocks.specs.Blocks.{Block, BlockRight, block_lines}
use Rattle.blocks.specs.Homes.{block_of, run_from}
use Rattle.blocks.proofs.Blocked.{home_lines, home_right}
use Rattle.printing.specs.Lines.{fault_line}
use Rattle.blocks.specs.declared.listing.Ran.{Ran}
use Rattle.sheet.specs.Applying.{Applied, MadeBy}
use Rattle.sheet.specs.Taking.{Taken, run_read}
use Rattle.sheet.specs.Told.{Form, Told, silence, faulty, after_blocks, on_record, on_refusal, call_of, noted, taken, blocks_of, told_from, blocks_lines, text_of, AllRight, TellsAll}

module _ {L : Type 0} (F : Form L) where
  -- blocks, one list after another
  lines_append : (n : ℕ) (bs cs : List (Block L)) → blocks_lines F n (bs ++ cs) ≡ blocks_lines F n bs ++ blocks_lines F n cs
  lines_append n [] cs = refl
  lines_append n (b ∷ bs) cs = ap (λ ls. block_lines F.printed n b ++ ls) (lines_append n bs cs) ∙ sym (append_assoc (block_lines F.printed n b) (blocks_lines F n bs) (blocks_lines F n cs))

  right_append : (n : ℕ) (bs cs : List (Block L)) → AllRight F n bs → AllRight F n cs → AllRight F n (bs ++ cs)
  right_append n [] cs p q = q
  right_append n (b ∷ bs) cs p q = (p.0, right_append n bs cs p.1 q)

  after_append : (bs cs : List (Block L)) (t : Told L) → after_blocks bs (after_blocks cs t) ≡ after_blocks (bs ++ cs) t
  after_append bs cs t = ap (λ ds. record { blocks = ds; fault = t.fault }) (sym (append_assoc bs cs t.blocks))

  module _ (number n : ℕ) (first : List L) (tape : List ℕ) (whole : Told L) (before : List ℕ) where
    -- the blocks so far stand behind what was there, each right; what the tape comes to is these and what is left from `at` on
    pub record Rest (s : State L) (out : List ℕ) (at : ℕ) : Type 0 where
      pub changes : History L
      pub made : MadeBy F number n first changes s
      pub fuel : ℕ
      pub enough : length tape ≤ at + fuel
      pub blocks : List (Block L)
      pub right : AllRight F n blocks
      pub is : whole ≡ after_blocks blocks (told_from F fuel tape at s changes)
      pub text : out ≡ before ++ blocks_lines F n blocks

    -- before the first record
    pub rest_at_first : (s : State L) → MadeBy F number n first [] s → whole ≡ told_from F (length tape) tape 4 s [] → Rest s before 4
    rest_at_first s made is = record {
      changes = [];
      made = made;
      fuel = length tape;
      enough = omega arith;
      blocks = [];
      right = tt;
      is = is;
      text = sym (append-nil before);
    }

    -- the tape ends
    over_from : (k at : ℕ) (s : State L) (h : History L) → length tape ≤ at → told_from F k tape at s h ≡ silence
    over_from zero at s h e = refl
    over_from (suc k) at s h e = cond-true (leb (length tape) at) silence _ (le-leb (length tape) at e)

    pub tells_over : {s : State L} {out : List ℕ} {at : ℕ} → Rest s out at → length tape ≤ at → TellsAll F n whole before out
    tells_over {s} {at = at} r e =
        let is : whole ≡ after_blocks r.blocks silence = r.is ∙ ap (after_blocks r.blocks) (over_from r.fuel at s r.changes e) in
        let same : whole ≡ record { blocks = r.blocks; fault = None } = is ∙ ap (λ bs. record { blocks = bs; fault = None }) (append-nil r.blocks) in
        record {
          text = r.text ∙ ap (λ ls. before ++ ls) (sym (append-nil (blocks_lines F n r.blocks))) ∙ ap (λ t. before ++ text_of F n t) (sym same);
          right = subst (λ t. AllRight F n t.blocks) (sym same) r.right;
        }

    -- what a record comes to with what is left after it
    abbrev going : ℕ → ℕ → State L → History L → Found → Told L
    going k at s h p = on_refusal (refusal F.kind s (call_of F p.item)) at (after_blocks (blocks_of F p.item s h) (told_from F k tape p.end (taken F p.item s) (noted F p.item h)))

    -- one record more
    next_from : (k at : ℕ) (s : State L) (h : History L) → at < length tape → told_from F (suc k) tape at s h ≡ on_record (record_at F.width tape at) at (going k at s h)
    next_from k at s h low = cond-false (leb (length tape) at) silence _ (lt-leb (length tape) at low)

    -- a fault ends it
    tells_fault : (s : State L) (out out' : List ℕ) (at : ℕ) (r : Rest s out at) (layer k : ℕ) → told_from F r.fuel tape at s r.changes ≡ faulty layer k at → out' ≡ out ++ fault_line layer k at → TellsAll F n whole before out'
    tells_fault s out out' at r layer k is printed =
        let same : whole ≡ record { blocks = r.blocks; fault = Some (record { layer = layer; number = k; at = at }) } =
        r.is ∙ ap (after_blocks r.blocks) is ∙ ap (λ bs. record { blocks = bs; fault = Some (record { layer = layer; number = k; at = at }) }) (append-nil r.blocks) in
        record {
          text = printed ∙ ap (λ ls. ls ++ fault_line layer k at) r.text ∙ append_assoc before (blocks_lines F n r.blocks) (fault_line layer k at) ∙ ap (λ t. before ++ text_of F n t) (sym same);
          right = subst (λ t. AllRight F n t.blocks) (sym same) r.right;
        }

    -- the run from x that ended so
    abbrev ran : ℕ → Ending → Ran
    ran x e = record { home = x; ending = e }

    no_result : {A B : Type 0} (a : A) (b : B) → ◌≡◌ {A = Result A B} (Ok a) (Err b) → ⊥
    no_result a b e = let z : ◌≡◌ {A = ℕ} 0 1 = cc in omega arith

    same_fault : {A B : Type 0} (f g : B) → ◌≡◌ {A = Result A B} (Err f) (Err g) → f ≡ g
    same_fault f g e = cc

    -- what a record that the book refused comes to
    refused_from : (at : ℕ) (s : State L) (h : History L) (item : Item) (j : Refusal) (s' : State L) (rest : Told L) → Applied F number n first h s item (Err j) s' → on_refusal (refusal F.kind s (call_of F item)) at rest ≡ faulty (layer_of (Book j)) (number_of (Book j)) at
    refused_from at s h item j s' rest (Applied.refuses {k = k} why is same) =
        ap (λ o. on_refusal o at rest) why ∙ ap (λ (i : Refusal). faulty (layer_of (Book i)) (number_of (Book i)) at) (sym (same_fault j k is))
    refused_from at s h item j s' rest (Applied.changes none is becomes lists made) = absurd (no_result None j (sym is))
    refused_from at s h item j s' rest (Applied.runs {x = x} {e = e} which none is becomes told made) = absurd (no_result (Some (ran x e)) j (sym is))

    -- what a fault at a record comes to
    fault_from : (fuel at : ℕ) (s : State L) (h : History L) (s' : State L) (f : RecordFault) → at < length tape → length tape ≤ at + fuel → Taken F number n first h tape at s (Err f) s' → told_from F fuel tape at s h ≡ faulty (layer_of f) (number_of f) at
    fault_from zero at s h s' f low enough t = absurd (omega arith)
    fault_from (suc k) at s h s' f low enough (Taken.unread {f = g} unread is same) =
        next_from k at s h low ∙ ap (λ x. on_record x at (going k at s h)) unread ∙ ap (λ (y : RecordFault). faulty (layer_of y) (number_of y) at) (sym (same_fault f g is))
    fault_from (suc k) at s h s' f low enough (Taken.turned_away {p = p} {k = j} found applied is) =
        next_from k at s h low ∙ ap (λ x. on_record x at (going k at s h)) found ∙ refused_from at s h p.item j s' _ applied ∙ ap (λ (y : RecordFault). faulty (layer_of y) (number_of y) at) (sym (same_fault f (Book j) is))
    fault_from (suc k) at s h s' f low enough (Taken.applies {p = p} {e = e} found applied is past within) = absurd (no_result (e, p.end) f (sym is))

    pub tells_fault_at : {s s' : State L} {out out' : List ℕ} {at : ℕ} (r : Rest s out at) (f : RecordFault) → at < length tape → Taken F number n first r.changes tape at s (Err f) s' → out' ≡ out ++ fault_line (layer_of f) (number_of f) at → TellsAll F n whole before out'
    tells_fault_at {s} {s'} {out} {out'} {at} r f low t printed = tells_fault s out out' at r (layer_of f) (number_of f) (fault_from r.fuel at s r.changes s' f low r.enough t) printed

    -- an accepted record: the book is as the rules say, and its lines are those of its blocks, which are right
    record Took (h : History L) (s : State L) (item : Item) (e : Option Ran) (s' : State L) : Type 0 where
      pub none : refusal F.kind s (call_of F item) ≡ None
      pub becomes : s' ≡ taken F item s
      pub made : MadeBy F number n first (noted F item h) s'
      pub lines : run_read F.kind F.printed s' n e ≡ blocks_lines F n (blocks_of F item s h)
      pub right : AllRight F n (blocks_of F item s h)

    same_run : (d e : Option Ran) → ◌≡◌ {A = Result (Option Ran) Refusal} (Ok d) (Ok e) → d ≡ e
    same_run d e p = cc

    took : (h : History L) (s : State L) → MadeBy F number n first h s → (item : Item) (e : Option Ran) (s' : State L) → Applied F number n first h s item (Ok e) s' → Took h s item e s'
    took h s by item e s' (Applied.refuses {k = k} why is same) = absurd (no_result e k is)
    took h s by item e s' (Applied.changes none is becomes lists made) = record {
      none = none;
      becomes = becomes;
      made = made;
      lines = ap (run_read F.kind F.printed s' n) (same_run e None is) ∙ ap (blocks_lines F n) (sym lists);
      right = subst (AllRight F n) (sym lists) tt;
    }
    took h s by item e s' (Applied.runs {x = x} {e = y} which none is becomes told made) =
        subst (λ (i : Item). Took h s i e s') (sym which) (record {
          none = none;
          becomes = becomes;
          made = made;
          lines = ap (run_read F.kind F.printed s' n) (same_run e (Some (ran x y)) is) ∙ home_lines F.kind F.printed number n first h s s' x made becomes y told ∙ ap (λ (m : ℕ). block_lines F.printed n (block m)) (sym size) ∙ sym (append-nil (block_lines F.printed n (block s.size)));
          right = (subst (λ (m : ℕ). BlockRight F.kind n (block m)) (sym size) (home_right F.kind F.printed number n first h s s' x made becomes), tt);
        })
      where
        size : s.size ≡ n
        size = ap (λ (q : State L). q.size) by.made ∙ (same_book F.kind n number first by.history).1

        block : ℕ → Block L
        block m = block_of F.kind m s.trunks x (run_from F.kind x s) (tariff_of h)

    -- one record more
    go_from : (fuel at : ℕ) (s : State L) (h : History L) → at < length tape → (p : Found) → record_at F.width tape at ≡ Ok p → refusal F.kind s (call_of F p.item) ≡ None → length tape ≤ at + fuel → at < p.end
        → (k : ℕ) × (length tape ≤ p.end + k) × (told_from F fuel tape at s h ≡ after_blocks (blocks_of F p.item s h) (told_from F k tape p.end (taken F p.item s) (noted F p.item h)))
    go_from zero at s h low p found none enough past = absurd (omega arith)
    go_from (suc k) at s h low p found none enough past =
        let rest = after_blocks (blocks_of F p.item s h) (told_from F k tape p.end (taken F p.item s) (noted F p.item h)) in
        (k, omega arith, next_from k at s h low ∙ ap (λ x. on_record x at (going k at s h)) found ∙ ap (λ o. on_refusal o at rest) none)

    same_pair : (d e : Option Ran) (i j : ℕ) → ◌≡◌ {A = Result (Option Ran × ℕ) RecordFault} (Ok (d, i)) (Ok (e, j)) → (d ≡ e) × (i ≡ j)
    same_pair d e i j p = let q : ◌≡◌ {A = Option Ran × ℕ} (d, i) (e, j) = cc in (ap (λ (x : Option Ran × ℕ). x.0) q, ap (λ (x : Option Ran × ℕ). x.1) q)

    pub tells_more : {s s' : State L} {out out' : List ℕ} {at : ℕ} (r : Rest s out at) (e : Option Ran) (end : ℕ) → at < length tape → Taken F number n first r.changes tape at s (Ok (e, end)) s' → out' ≡ out ++ run_read F.kind F.printed s' n e
        → Rest s' out' end × (at < end)
    tells_more {s} {s'} {out} {out'} {at} r e end low (Taken.unread {f = f} unread is same) printed = absurd (no_result (e, end) f is)
    tells_more {s} {s'} {out} {out'} {at} r e end low (Taken.turned_away {p = p} {k = j} found applied is) printed = absurd (no_result (e, end) (Book j) is)
    tells_more {s} {s'} {out} {out'} {at} r e end low (Taken.applies {p = p} {e = d} found applied is past within) printed =
        let same = same_pair e d end p.end is in
        let t : Took r.changes s p.item d s' = took r.changes s r.made p.item d s' applied in
        let bs = blocks_of F p.item s r.changes in
        let g = go_from r.fuel at s r.changes low p found t.none r.enough past in
        let lines : run_read F.kind F.printed s' n e ≡ blocks_lines F n bs = ap (run_read F.kind F.printed s' n) same.0 ∙ t.lines in (
          subst (λ (j : ℕ). Rest s' out' j) (sym same.1) (record {
            changes = noted F p.item r.changes;
            made = t.made;
            fuel = g.0;
            enough = g.1;
            blocks = r.blocks ++ bs;
            right = right_append n r.blocks bs r.right t.right;
            is = r.is ∙ ap (after_blocks r.blocks) g.2 ∙ after_append r.blocks bs _ ∙ ap (λ q. after_blocks (r.blocks ++ bs) (told_from F g.0 tape p.end q (noted F p.item r.changes))) (sym t.becomes);
            text = printed ∙ ap (λ ls. out ++ ls) lines ∙ ap (λ ls. ls ++ blocks_lines F n bs) r.text ∙ append_assoc before (blocks_lines F n r.blocks) (blocks_lines F n bs) ∙ ap (λ ls. before ++ ls) (sym (lines_append n r.blocks bs));
          }),
          omega (arith, same.1),
        )

  -- accepted calls, none of them, made a new book
  pub made_new : (number n : ℕ) (first : List L) (s : State L) → s ≡ after F.kind number n first [] → MadeBy F number n first [] s
  made_new number n first s made = record { history = []; accepted = tt; made = made; same_tariff = refl; same_count = refl; right = subst (Right F.kind n []) (sym made) tt }
