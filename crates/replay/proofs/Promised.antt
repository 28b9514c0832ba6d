-- From calls made one by one to the whole promise.
use Rattle.std.proofs.Common.{◌≡◌, ℕ, suc, ◌+◌, ◌<◌, ◌≤◌, Bool, true, false, cond, not, ◌||◌, eqb, ltb, leb, List, [], ◌∷◌, ◌++◌, map, length, get_or, take, drop, Some, None, vec_items, Option, Result, sym, refl, ap, ◌∙◌, subst, ⊎_elim, arith}
use Rattle.std.proofs.Math.ListN.{get_or-map}
use Rattle.std.proofs.lemmas.List.{take_at, drop_at}
use Rattle.std.proofs.lemmas.Bool.{both_ways, cases_Bool, cond-true, cond-false, not_from_true, not_from_false, le-ltb, lt-leb, or_from, ne_eqb}
use Rattle.routing.specs.declared.Trunk.{Trunk}
use Rattle.routing.specs.declared.Verdict.{Verdict}
use Rattle.routing.specs.declared.Verdict.TheVariants.{Working as working, Settled as settled, Looped as looped}
use Rattle.routing.specs.Kind.{Kind}
use Rattle.routing.specs.Lists.{has}
use Rattle.routing.specs.Walks.{Walk, tail, tails, Cheapest, Unbounded, Named}
use Rattle.routing.specs.Rules.{Run, is_loop}
use Rattle.routing.specs.Orders.{Meaning, Showable}
use Rattle.routing.specs.History.{Event, edit, step, laid, repriced, barred, unbarred, began, pass, finished, abandoned, History, count, tariff_of, State, Phase, idle, running, standing, stepped, after, Fits, Works, Accepted}
use Rattle.routing.specs.Refusals.{first_of, unfit}
use Rattle.routing.specs.Calls.{Call, Answer, Answers, Plays}
use Rattle.routing.specs.Readings.{Reading, told, denied, unless, of_finished, settled_at, no_room, charge_of, arrival_of, loop_of, charge, arrival, loop}
use Rattle.routing.specs.Promise.{IsLooped, Right, RightAt, ReadsRight}
use Rattle.routing.specs.Does.{Does, applied}
use Rattle.routing.proofs.Chains.{pigeons}
use Rattle.routing.proofs.Histories.{Kept, same_book}
use Rattle.routing.proofs.Main.{promise, keeps}
use Rattle.routing.proofs.Lists.{has_cases}
use Rattle.routing.proofs.Playing.{accepted_more}
use Rattle.routing.proofs.Readings.{Allowed, read_on, read_finished, reads_right, tail_is, unless_free, unless_some}
use Rattle.running.specs.Work.{run_of}
use Rattle.book.specs.declared.Phase.{Phase as Stage}
use Rattle.book.specs.declared.Phase.TheVariants.{Idle}
use Rattle.book.specs.declared.Book.{Book}
use Rattle.book.specs.declared.refusal.Refusal.{Refusal}
use Rattle.book.specs.Orders.{ByOrder}
use Rattle.book.specs.State.{phase_of, state_of}
use Rattle.replay.specs.declared.Call.{Call as Code}
use Rattle.replay.specs.declared.Answer.{Answer as CodeAnswer}
use Rattle.replay.specs.declared.Line.{Line}
use Rattle.replay.specs.declared.Replayed.{Replayed}
use Rattle.replay.specs.declared.Read.{Read}
use Rattle.replay.specs.Making.{Bears, Makes, answer_of, call_of}
use Rattle.replay.specs.Reading.{Filled, ReadsOut, blank}
use Rattle.replay.specs.Replaying.{MakesAll, Tells, Leaves, Replays}

module _ {L : Type 0} (K : Kind L) (number n : ℕ) (first : List L) (answers : ℕ → List Trunk → Run L → List ℕ → Type 0) where
  abbrev R : List Trunk → Run L → List ℕ → Type 0
  R = ByOrder K answers n

  means : (ts : List Trunk) (r : Run L) (a : List ℕ) → Showable K n ts r → R ts r a → Meaning K n ts r a
  means ts r a _ m = m.means

  abbrev book : History L → State L
  book h = after K number n first h

  plays_then : {h h' h'' : History L} {cs ds : List (Call L)} {xs ys : List Answer} → Plays K number n first R h cs xs h' → Plays K number n first R h' ds ys h'' → Plays K number n first R h (cs ++ ds) (xs ++ ys) h''
  plays_then Plays.over q = q
  plays_then (Plays.skips needs shut p) q = Plays.skips needs shut (plays_then p q)
  plays_then (Plays.refuses why p) q = Plays.refuses why (plays_then p q)
  plays_then (Plays.accepts none is answer p) q = Plays.accepts none is answer (plays_then p q)

  -- what a list of calls plays to
  pub record Played (cs : List (Call L)) (xs : List Answer) (s : State L) : Type 0 where
    pub history : History L
    pub plays : Plays K number n first R [] cs xs history
    pub made : s ≡ book history
    pub ok : Accepted K number n first R history

  applied_after : (e : Event L) (h : History L) → applied K e (book h) ≡ book (e ∷ h)
  applied_after (edit e) h = refl
  applied_after (step e) h = refl

  -- one call more
  played_one : {cs : List (Call L)} {xs : List Answer} (h : History L) → Plays K number n first R [] cs xs h → Accepted K number n first R h → (c : Call L) (x : Answer) (s : State L) → Makes K R (book h) c x s
      → Played (cs ++ (c ∷ [])) (xs ++ (x ∷ [])) s
  played_one {cs} {xs} h p ok c x s (Makes.skips needs shut answer same) = record {
    history = h;
    plays = subst (λ (y : Answer). Plays K number n first R [] (cs ++ (c ∷ [])) (xs ++ (y ∷ [])) h) (sym answer) (plays_then p (Plays.skips needs shut Plays.over));
    made = same;
    ok = ok;
  }
  played_one {cs} {xs} h p ok c x s (Makes.does (Does.refuses {k = k} why answer same)) = record {
    history = h;
    plays = subst (λ (y : Answer). Plays K number n first R [] (cs ++ (c ∷ [])) (xs ++ (y ∷ [])) h) (sym answer) (plays_then p (Plays.refuses why Plays.over));
    made = same;
    ok = ok;
  }
  played_one h p ok c x s (Makes.does (Does.accepts e none is becomes answer)) =
      let many : length (book h).trunks ≡ count h = (keeps K number n first R means h ok).many in
      let s_is : s ≡ book (e ∷ h) = becomes ∙ applied_after e h in
      record {
        history = e ∷ h;
        plays = plays_then p (Plays.accepts {e = e} none is (subst (λ (q : State L). Answers (count h) c q x) s_is (subst (λ (k : ℕ). Answers k c s x) many answer)) Plays.over);
        made = s_is;
        ok = accepted_more K R number n first h c e none is ok;
      }

  pub played_all : {cs : List (Call L)} {xs : List Answer} {s : State L} → MakesAll K R (book []) cs xs s → Played cs xs s
  played_all MakesAll.none = record { history = []; plays = Plays.over; made = refl; ok = tt }
  played_all (MakesAll.more {s₂ = s₂} {c = c} {x = x} before makes) =
      let p = played_all before in
      played_one p.history p.plays p.ok c x s₂ (subst (λ (q : State L). Makes K R q c x s₂) p.made makes)

  -- a finished run stands on a fit book
  pass_stands : (p : Phase L) (a : List ℕ) (b m : ℕ) (ts : List Trunk) (ls : List L) → Works R ts a p → (home : ℕ) (r : Run L) → (stepped K (pass a) (record { number = b; size = m; trunks = ts; lengths = ls; phase = p })).phase ≡ standing home r → ⊥
  pass_stands idle a b m ts ls w home r e = absurd w
  pass_stands (running home₀ r₀) a b m ts ls w home r e = let z : ◌≡◌ {A = ℕ} 0 1 = cc in omega arith
  pass_stands (standing home₀ r₀) a b m ts ls w home r e = absurd w

  finish_fits : (p : Phase L) (b m : ℕ) (ts : List Trunk) (ls : List L) → Fits (record { number = b; size = m; trunks = ts; lengths = ls; phase = p }) → Fits (stepped K finished (record { number = b; size = m; trunks = ts; lengths = ls; phase = p }))
  finish_fits idle b m ts ls f = f
  finish_fits (running home r) b m ts ls f = f
  finish_fits (standing home r) b m ts ls f = f

  pub standing_fits : (h : History L) → Accepted K number n first R h → (home : ℕ) (r : Run L) → (book h).phase ≡ standing home r → Fits (book h)
  standing_fits [] ok home r e = let z : ◌≡◌ {A = ℕ} 0 1 = cc in absurd (omega arith)
  standing_fits (edit (laid a b l) ∷ h) ok home r e = let z : ◌≡◌ {A = ℕ} 0 1 = cc in absurd (omega arith)
  standing_fits (edit (repriced t l) ∷ h) ok home r e = let z : ◌≡◌ {A = ℕ} 0 1 = cc in absurd (omega arith)
  standing_fits (edit (barred t) ∷ h) ok home r e = let z : ◌≡◌ {A = ℕ} 0 1 = cc in absurd (omega arith)
  standing_fits (edit (unbarred t) ∷ h) ok home r e = let z : ◌≡◌ {A = ℕ} 0 1 = cc in absurd (omega arith)
  standing_fits (step (began x) ∷ h) ok home r e = let z : ◌≡◌ {A = ℕ} 0 1 = cc in absurd (omega arith)
  standing_fits (step (pass a) ∷ h) ok home r e = absurd (pass_stands (book h).phase a (book h).number (book h).size (book h).trunks (book h).lengths ok.1 home r e)
  standing_fits (step finished ∷ h) ok home r e = finish_fits (book h).phase (book h).number (book h).size (book h).trunks (book h).lengths ok.0
  standing_fits (step abandoned ∷ h) ok home r e = let z : ◌≡◌ {A = ℕ} 0 1 = cc in absurd (omega arith)

  -- no refusal of an unfit book applies to a fit one
  fit_free : (s : State L) → Fits s → first_of (unfit s []) ≡ None
  fit_free s f =
      let sized : (eqb s.size 0 || ltb 256 s.size) ≡ false = or_from (eqb s.size 0) (ltb 256 s.size) (ne_eqb s.size 0 (λ e. omega (arith, f.0))) (le-ltb 256 s.size f.1) in
      let room : ltb (length s.lengths) (s.size + length s.trunks) ≡ false = le-ltb (length s.lengths) (s.size + length s.trunks) f.2 in
      cond-false (eqb s.size 0 || ltb 256 s.size) (Some 3) _ sized ∙ cond-false (ltb (length s.lengths) (s.size + length s.trunks)) (Some 2) None room

  -- the finished run of an accepted history
  module _ (h : History L) (ok : Accepted K number n first R h) (home : ℕ) (r : Run L) (stands : (book h).phase ≡ standing home r) where
    abbrev s : State L
    s = book h

    size : s.size ≡ n
    size = (same_book K n number first h).1

    right_at : RightAt K n h s.trunks (standing home r)
    right_at = subst (λ (p : Phase L). RightAt K n h s.trunks p) stands (promise K number n first R means h ok)

    reads : ReadsRight K n (tariff_of h) s home r
    reads = reads_right K number n first R means h ok home r stands

    no_own : Run L → List (Bool × ℕ)
    no_own q = []

    free_run : Allowed s no_own
    unfolding no_own
    free_run = record { home = home; run = r; fit = fit_free s (standing_fits h ok home r stands); stands = stands; free = refl }

    reads_own : {A : Type 0} (own : Run L → List (Bool × ℕ)) (value : Run L → A) → of_finished s own value ≡ unless (own r) (told (value r))
    unfolding free_run
    reads_own own value = read_on s no_own own value free_run

    settled_or_looped : (v : Verdict) → (v ≡ working → ⊥) → is_loop v ≡ false → v ≡ settled
    settled_or_looped working over e = absurd (over refl)
    settled_or_looped settled over e = refl
    settled_or_looped (looped v t) over e = absurd (both_ways true e refl)

    found : (v : Verdict) → is_loop v ≡ true → IsLooped v
    found working e = absurd (both_ways false refl e)
    found settled e = absurd (both_ways false refl e)
    found (looped v t) e = tt

    pub settled_so : is_loop r.verdict ≡ false → r.verdict ≡ settled
    settled_so e = settled_or_looped r.verdict right_at.1.over e

    pub unbounded_so : is_loop r.verdict ≡ true → Unbounded K (tariff_of h) home
    unbounded_so e = right_at.1.unbounded.0 (found r.verdict e)

    -- a loop has at most n trunks
    kept : Kept K n (count h) (tariff_of h) (length first) s.trunks s.lengths
    kept = keeps K number n first R means h ok

    tail_of : (o : Option (ℕ × ℕ)) (x y : ℕ) → o ≡ Some (x, y) → ◌≡◌ {A = ℕ} (elim o [ None ↦ 0 | Some p ↦ p.0 ]) x
    tail_of o x y e = ap (λ (q : Option (ℕ × ℕ)). elim q as (λ _. ℕ) [ None ↦ 0 | Some p ↦ p.0 ]) e

    tail_below : {x y : ℕ} {cs : List ℕ} → Walk (tariff_of h) x cs y → (z : ℕ) → has z (tails (tariff_of h) cs) ≡ true → z < n
    tail_below Walk.stay z e = absurd (both_ways false refl e)
    tail_below (Walk.by {x = x} {y = y} {t = t} {ts = cs} j w) z e =
        let low : x < n = (tail_is K n kept t x y j.runs).1 in
        ⊎_elim
        (λ (same : z ≡ tail (tariff_of h) t). let there : tail (tariff_of h) t ≡ x = tail_of ((tariff_of h).ends t) x y j.runs in omega arith)
        (λ (later : has z (tails (tariff_of h) cs) ≡ true). tail_below w z later)
        (has_cases z (tail (tariff_of h) t) (tails (tariff_of h) cs) e)

    length_tails : (cs : List ℕ) → length (tails (tariff_of h) cs) ≡ length cs
    length_tails [] = refl
    length_tails (c ∷ cs) = ap suc (length_tails cs)

    loop_few : is_loop r.verdict ≡ true → length (loop_of s.size s.trunks r) ≤ n
    loop_few e =
        let named : Named K (tariff_of h) home (loop_of n s.trunks r) = right_at.1.named (found r.verdict e) in
        let few : length (tails (tariff_of h) (loop_of n s.trunks r)) ≤ n = pigeons n (tails (tariff_of h) (loop_of n s.trunks r)) named.apart (tail_below named.closed.round) in
        let same : length (loop_of s.size s.trunks r) ≡ length (loop_of n s.trunks r) = ap (λ (k : ℕ). length (loop_of k s.trunks r)) size in
        omega (arith, length_tails (loop_of n s.trunks r))

    -- the loop reading of this run
    module _ (room : ℕ) where
      abbrev loop_own : Run L → List (Bool × ℕ)
      loop_own q = (not (is_loop q.verdict), 15) ∷ no_room room (loop_of s.size s.trunks q)

      pub loop_settled : is_loop r.verdict ≡ false → loop s room ≡ denied 15
      loop_settled e = reads_own loop_own (λ q. loop_of s.size s.trunks q) ∙ unless_some (loop_own r) _ 15 (cond-true (not (is_loop r.verdict)) (Some 15) _ (not_from_false (is_loop r.verdict) e))

      pub loop_told : is_loop r.verdict ≡ true → n ≤ room → loop s room ≡ told (loop_of s.size s.trunks r)
      loop_told e enough =
          reads_own loop_own (λ q. loop_of s.size s.trunks q)
          ∙ unless_free (loop_own r) _
          (cond-false (not (is_loop r.verdict)) (Some 15) _ (not_from_true (is_loop r.verdict) e)
          ∙ cond-false (ltb room (length (loop_of s.size s.trunks r))) (Some 17) None (le-ltb room (length (loop_of s.size s.trunks r)) (omega (arith, loop_few e))))

    -- the other readings of this run, where it is settled
    module _ (calm : is_loop r.verdict ≡ false) (x : ℕ) (low : x < n) where
      allowed_at : first_of (settled_at s x r []) ≡ None
      allowed_at = cond-false (is_loop r.verdict) (Some 14) _ calm ∙ cond-false (leb s.size x) (Some 5) None (lt-leb s.size x (omega (arith, size)))

      pub charge_told : charge K s x ≡ told (charge_of K s.size s.trunks r x)
      charge_told = reads_own (λ q. settled_at s x q []) (λ q. charge_of K s.size s.trunks q x) ∙ unless_free (settled_at s x r []) _ allowed_at

      pub arrival_told : arrival s x ≡ told (arrival_of r x)
      arrival_told = reads_own (λ q. settled_at s x q []) (λ q. arrival_of q x) ∙ unless_free (settled_at s x r []) _ allowed_at

    -- the charges and the arrivals of the lines, each as a list of its own
    pub tables : (lines : List (Line L)) → ((x : ℕ) → x < n → charge K s x ≡ told (get_or lines x blank).charge) → ((x : ℕ) → x < n → arrival s x ≡ told (get_or lines x blank).arrival)
        → Cheapest K (tariff_of h) n home (λ x. (get_or lines x blank).charge) (λ x. (get_or lines x blank).arrival)
    tables lines are_charges are_arrivals =
        let charges : List (Option L) = map (λ (l : Line L). l.charge) lines in
        let arrivals : List (Option ℕ) = map (λ (l : Line L). l.arrival) lines in
        let charge_at : (x : ℕ) → get_or charges x None ≡ (get_or lines x blank).charge = λ x. get_or-map (λ (l : Line L). l.charge) lines x blank in
        let arrival_at : (x : ℕ) → get_or arrivals x None ≡ (get_or lines x blank).arrival = λ x. get_or-map (λ (l : Line L). l.arrival) lines x blank in
        subst (λ (f : ℕ → Option L). Cheapest K (tariff_of h) n home f (λ x. (get_or lines x blank).arrival)) (λ i x. charge_at x i)
        (subst (λ (f : ℕ → Option ℕ). Cheapest K (tariff_of h) n home (λ x. get_or charges x None) f) (λ i x. arrival_at x i)
        (reads.tables charges arrivals (λ x low. are_charges x low ∙ ap (λ (o : Option L). told o) (sym (charge_at x))) (λ x low. are_arrivals x low ∙ ap (λ (o : Option ℕ). told o) (sym (arrival_at x)))))

    pub loop_names : (room : ℕ) (cs : List ℕ) → loop s room ≡ told cs → Named K (tariff_of h) home cs
    loop_names room cs e = reads.loop_named room cs e

  -- two answers of one reading
  told_not_denied : {A : Type 0} (x : Reading A) (a : A) (k : ℕ) → x ≡ told a → x ≡ denied k → ⊥
  told_not_denied x a k e f = let z : ◌≡◌ {A = ℕ} 0 1 = cc in omega arith

  same_denied : {A : Type 0} (x : Reading A) (j k : ℕ) → x ≡ denied j → x ≡ denied k → j ≡ k
  same_denied x j k e f = cc

  -- only a finished run is refused with 15
  stands_if : (h : History L) (own : Run L → List (Bool × ℕ)) (value : Run L → List ℕ) → of_finished (book h) own value ≡ denied 15 → (home : ℕ) × (r : Run L) × ((book h).phase ≡ standing home r)
  stands_if h own value e = go (book h).phase refl (eqb (book h).size 0 || ltb 256 (book h).size) (ltb (length (book h).lengths) ((book h).size + length (book h).trunks)) e
    where
      go : (p : Phase L) → (book h).phase ≡ p → (b c : Bool)
          → ◌≡◌ {A = Reading (List ℕ)} (elim (cond {A = Option ℕ} b (Some 3) (cond c (Some 2) None)) [ None ↦ (elim p [ idle ↦ denied 13 | running home r ↦ denied 13 | standing home r ↦ unless (own r) (told (value r)) ]) | Some k ↦ denied k ]) (denied 15)
          → (home : ℕ) × (r : Run L) × ((book h).phase ≡ standing home r)
      go p f true c e = let z : ◌≡◌ {A = ℕ} 3 15 = cc in absurd (omega arith)
      go p f false true e = let z : ◌≡◌ {A = ℕ} 2 15 = cc in absurd (omega arith)
      go idle f false false e = let z : ◌≡◌ {A = ℕ} 13 15 = cc in absurd (omega arith)
      go (running home r) f false false e = let z : ◌≡◌ {A = ℕ} 13 15 = cc in absurd (omega arith)
      go (standing home r) f false false e = (home, r, f)

  module _ (h : History L) (ok : Accepted K number n first R h) (read : Option Read) (lines lines' : List (Line L)) (looped looped' : List ℕ) where
    -- the loop reading, taken apart
    abbrev loop_checks : Run L → List (Bool × ℕ)
    loop_checks q = (not (is_loop q.verdict), 15) ∷ no_room (length looped) (loop_of (book h).size (book h).trunks q)

    abbrev loop_value : Run L → List ℕ
    loop_value q = loop_of (book h).size (book h).trunks q

    -- the readings were taken of m exchanges, which are all of them where the book is fit
    pub resized : (m : ℕ) → (n ≤ 256 → m ≡ n) → ReadsOut K m (book h) read lines lines' looped looped' → ReadsOut K n (book h) read lines lines' looped looped'
    resized m sized (ReadsOut.a_loop reads is now_is same) = ReadsOut.a_loop reads is now_is same
    resized m sized (ReadsOut.a_sheet reads is now_is filled) =
        let f = stands_if h loop_checks loop_value reads in
        let few : (book h).size ≤ 256 = (standing_fits h ok f.0 f.1 f.2).1 in
        let long : (book h).size ≡ n = (same_book K n number first h).1 in
        let e : m ≡ n = sized (omega arith) in
        ReadsOut.a_sheet reads is now_is (subst (λ (k : ℕ). Filled K k (book h) lines lines') e filled)
    resized m sized (ReadsOut.nothing reads other is now_is same) = ReadsOut.nothing reads other is now_is same

    pub tells_so : n ≤ length looped → ReadsOut K n (book h) read lines lines' looped looped' → Tells K n (tariff_of h) (book h) read lines' looped'
    tells_so enough (ReadsOut.a_loop {cs = cs} reads is now_is same) =
        let f = read_finished (book h) loop_checks loop_value cs reads in
        let home = f.0 in
        let r = f.1 in
        let stands = f.2 in
        let found_so : is_loop r.verdict ≡ true =
        ⊎_elim (λ e. e) (λ (e : is_loop r.verdict ≡ false). absurd (told_not_denied (loop (book h) (length looped)) cs 15 reads (loop_settled h ok home r stands (length looped) e))) (cases_Bool (is_loop r.verdict)) in
        Tells.a_loop {home = home} {r = r} {cs = cs} (length looped) stands is reads (ap (take (length cs)) now_is ∙ take_at cs (drop (length cs) looped) (length cs) refl)
        (loop_names h ok home r stands (length looped) cs reads) (unbounded_so h ok home r stands found_so)
    tells_so enough (ReadsOut.a_sheet reads is now_is filled) =
        let f = stands_if h loop_checks loop_value reads in
        let home = f.0 in
        let r = f.1 in
        let stands = f.2 in
        let calm : is_loop r.verdict ≡ false =
        ⊎_elim (λ (e : is_loop r.verdict ≡ true). absurd (told_not_denied (loop (book h) (length looped)) _ 15 (loop_told h ok home r stands (length looped) e enough) reads)) (λ e. e) (cases_Bool (is_loop r.verdict)) in
        let cs : (x : ℕ) → x < n → charge K (book h) x ≡ told (get_or lines' x blank).charge =
        λ x low. let t = charge_told h ok home r stands calm x low in t ∙ ap (λ (o : Option L). told o) (sym (filled.charges x _ low t)) in
        let ws : (x : ℕ) → x < n → arrival (book h) x ≡ told (get_or lines' x blank).arrival =
        λ x low. let t = arrival_told h ok home r stands calm x low in t ∙ ap (λ (o : Option ℕ). told o) (sym (filled.arrivals x _ low t)) in
        Tells.sheet {home = home} {r = r} stands (settled_so h ok home r stands calm) is cs ws (tables h ok home r stands lines' cs ws)
    tells_so enough (ReadsOut.nothing {k = k} reads other is now_is same) =
        Tells.nothing
        (λ home r stands.
        ⊎_elim
        (λ (e : is_loop r.verdict ≡ true). told_not_denied (loop (book h) (length looped)) _ k (loop_told h ok home r stands (length looped) e enough) reads)
        (λ (e : is_loop r.verdict ≡ false). other (same_denied (loop (book h) (length looped)) k 15 reads (loop_settled h ok home r stands (length looped) e)))
        (cases_Bool (is_loop r.verdict)))
        is

    pub leaves_so : ReadsOut K n (book h) read lines lines' looped looped' → Leaves n read lines lines' looped looped'
    leaves_so (ReadsOut.a_loop {cs = cs} _ is now_is same) =
        subst (λ (d : Option Read). Leaves n d lines lines' looped looped') (sym is) (same, ap (drop (length cs)) now_is ∙ drop_at cs (drop (length cs) looped) (length cs) refl)
    leaves_so (ReadsOut.a_sheet _ is now_is filled) =
        subst (λ (d : Option Read). Leaves n d lines lines' looped looped') (sym is) ((filled.long, filled.kept), now_is)
    leaves_so (ReadsOut.nothing _ other is now_is same) =
        subst (λ (d : Option Read). Leaves n d lines lines' looped looped') (sym is) (same, now_is)

  -- a new book
  pub new_made : (b : Book) → b.number ≡ number → b.n ≡ n → vec_items b.trunks ≡ [] → b.phase ≡ Idle → state_of b first ≡ book []
  new_made b name size none rests =
      ap (λ (p : Stage). record { number = b.number; size = b.n; trunks = vec_items b.trunks; lengths = first; phase = phase_of p (run_of b.work first) }) rests
      ∙ ap (λ (ts : List Trunk). record { number = b.number; size = b.n; trunks = ts; lengths = first; phase = idle }) none
      ∙ ap (λ (k : ℕ). record { number = k; size = b.n; trunks = []; lengths = first; phase = idle }) name
      ∙ ap (λ (k : ℕ). record { number = number; size = k; trunks = []; lengths = first; phase = idle }) size

  -- the calls that were made on it
  pub made_on_new : (b : Book) → b.number ≡ number → b.n ≡ n → vec_items b.trunks ≡ [] → b.phase ≡ Idle → (cs : List (Code L)) (xs : List Answer) (s : State L)
      → MakesAll K (ByOrder K answers b.n) (state_of b first) (map (call_of b.number) cs) xs s → MakesAll K R (book []) (map (call_of number) cs) xs s
  made_on_new b name size none rests cs xs s m =
      subst (λ (k : ℕ). MakesAll K R (book []) (map (call_of k) cs) xs s) name
      (subst (λ (k : ℕ). MakesAll K (ByOrder K answers k) (book []) (map (call_of b.number) cs) xs s) size
      (subst (λ (q : State L). MakesAll K (ByOrder K answers b.n) q (map (call_of b.number) cs) xs s) (new_made b name size none rests) m))

  -- the whole promise
  pub replays_so : (cs : List (Code L)) (xs : List (Result CodeAnswer Refusal)) (r : Replayed) (last : List L) (m : ℕ) (lines lines' : List (Line L)) (looped looped' : List ℕ)
      → MakesAll K R (book []) (map (call_of number) cs) (map answer_of xs) (state_of r.book last) → Bears r.ticket r.book (length last) → n ≤ length looped → (n ≤ 256 → m ≡ n)
      → ReadsOut K m (state_of r.book last) r.read lines lines' looped looped'
      → Replays K answers number n first last cs xs r lines' looped' × Leaves n r.read lines lines' looped looped'
  replays_so cs xs r last m lines lines' ring ring' makes bears enough same out =
      let p = played_all makes in
      let h = p.history in
      let reads : ReadsOut K n (book h) r.read lines lines' ring ring' =
      resized h p.ok r.read lines lines' ring ring' m same (subst (λ (q : State L). ReadsOut K m q r.read lines lines' ring ring') p.made out) in (
        record {
          history = h;
          plays = p.plays;
          made = p.made;
          ticket = bears;
          right = subst (λ (q : State L). Right K n h q) (sym p.made) (promise K number n first R means h p.ok);
          tells = subst (λ (q : State L). Tells K n (tariff_of h) q r.read lines' ring') (sym p.made) (tells_so h p.ok r.read lines lines' ring ring' enough reads);
        },
        leaves_so h p.ok r.read lines lines' ring ring' reads,
      )
