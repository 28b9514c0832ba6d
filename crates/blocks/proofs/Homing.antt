-- The passes of a home are those of the rule, so its run is the one that the rule gives.
use Rattle.std.proofs.Common.{◌≡◌, ℕ, zero, suc, ◌+◌, ◌-◌, ◌≤◌, true, false, List, None, Ok, Option, Result, sym, refl, ap, ◌∙◌, subst, zero-add, arith}
use Rattle.std.proofs.lemmas.Bool.{both_ways, not-false}
use Rattle.routing.specs.declared.Trunk.{Trunk}
use Rattle.routing.specs.declared.Verdict.{Verdict}
use Rattle.routing.specs.Kind.{Kind}
use Rattle.routing.specs.Rules.{Run, begun, passed}
use Rattle.routing.specs.Orders.{topological}
use Rattle.routing.specs.History.{Event, step, began, pass, finished, History, State, running, turned, stepped, after, Accepted}
use Rattle.routing.specs.Refusals.{is_working, works}
use Rattle.routing.specs.Calls.{begin, do_pass, finish, refusals, refusal, Becomes, ShownBy}
use Rattle.routing.specs.Does.{applied}
use Rattle.routing.specs.Promise.{Right}
use Rattle.routing.proofs.Histories.{same_book}
use Rattle.routing.proofs.Main.{promise}
use Rattle.routing.proofs.Refused.{none_of}
use Rattle.book.specs.declared.outcome.Ending.{Ending}
use Rattle.book.specs.declared.refusal.Refusal.{Refusal}
use Rattle.book.specs.Answers.{shows_end}
use Rattle.whole_run.specs.Whole.{Carried, Passes, RunsOut, Whole}
use Rattle.whole_run.proofs.Histories.{Since, since, since_begun, carried, not_given_up}
use Rattle.blocks.specs.Homes.{Topologically, run_out, run_from, after_home, RunsHome, HomesRight, RunsWhole, ending_of}

module _ {L : Type 0} (K : Kind L) where
  -- one pass more of a run that works
  out_working : (k n : ℕ) (ts : List Trunk) (r : Run L) → works r.verdict ≡ true → run_out K (suc k) n ts r ≡ run_out K k n ts (passed K n ts (topological K n ts r) r)
  out_working k n ts r w = go r.verdict w
    where
      go : (v : Verdict) → works v ≡ true → elim v [ Verdict.Working ↦ run_out K k n ts (passed K n ts (topological K n ts r) r) | Verdict.Settled ↦ r | Verdict.Looped a t ↦ r ] ≡ run_out K k n ts (passed K n ts (topological K n ts r) r)
      go Verdict.Working e = refl
      go Verdict.Settled e = absurd (both_ways false refl e)
      go (Verdict.Looped a t) e = absurd (both_ways false refl e)

  -- a run that is over stays
  out_over : (k n : ℕ) (ts : List Trunk) (r : Run L) → works r.verdict ≡ false → run_out K k n ts r ≡ r
  out_over zero n ts r w = refl
  out_over (suc k) n ts r w = go r.verdict w
    where
      go : (v : Verdict) → works v ≡ false → elim v [ Verdict.Working ↦ run_out K k n ts (passed K n ts (topological K n ts r) r) | Verdict.Settled ↦ r | Verdict.Looped a t ↦ r ] ≡ r
      go Verdict.Working e = absurd (both_ways true e refl)
      go Verdict.Settled e = refl
      go (Verdict.Looped a t) e = refl

  module _ (s : State L) (home : ℕ) where
    -- the book with the open run r
    abbrev at : Run L → State L
    at r = turned s r.lengths (running home r)

    abbrev first_run : Run L
    first_run = begun K s.size s.trunks home s.lengths

    -- after k passes, the run is the one that k passes of the rule make
    record Ran (k : ℕ) (q : State L) : Type 0 where
      pub run : Run L
      pub is : q ≡ at run
      pub out : (m : ℕ) → run_out K (k + m) s.size s.trunks first_run ≡ run_out K m s.size s.trunks run

    same_run : (home' : ℕ) (r r' : Run L) → running home r ≡ running home' r' → r ≡ r'
    same_run home' r r' e = cc

    ran_more : {k : ℕ} {q q' : State L} {e : Event L} → Ran k q → refusal K q (do_pass q.number) ≡ None → Becomes (Topologically K s.size) q (do_pass q.number) e → q' ≡ applied K e q → Ran (suc k) q'
    ran_more {k} {q} {q'} {e} so_far none is becomes =
        let r = so_far.run in
        let working : works r.verdict ≡ true = ap (λ (p : State L). is_working p.phase) (sym so_far.is) ∙ not-false (is_working q.phase) (none_of (refusals K q (do_pass q.number)) none).1.1.1.1.0 in
        let r' = is.1 in
        let a = is.2 in
        let same : r ≡ r' = same_run is.0 r r' (ap (λ (p : State L). p.phase) (sym so_far.is) ∙ is.3) in
        let trunks : q.trunks ≡ s.trunks = ap (λ (p : State L). p.trunks) so_far.is in
        let told : a ≡ topological K s.size s.trunks r = is.4.rule ∙ ap (λ (ts : List Trunk). topological K s.size ts r') trunks ∙ ap (λ (p : Run L). topological K s.size s.trunks p) (sym same) in
        record {
          run = passed K s.size s.trunks (topological K s.size s.trunks r) r;
          is = becomes ∙ ap (λ (x : Event L). applied K x q) is.5 ∙ ap (λ (p : State L). applied K (step (pass a)) p) so_far.is ∙ ap (λ (b : List ℕ). at (passed K s.size s.trunks b r)) told;
          out = λ m. let shift : suc k + m ≡ k + suc m = omega arith in ap (λ (j : ℕ). run_out K j s.size s.trunks first_run) shift ∙ so_far.out (suc m) ∙ out_working m s.size s.trunks r working;
        }

    ran : {k : ℕ} {q : State L} → Passes K (Topologically K s.size) (stepped K (began home) s) k q → Ran k q
    ran Passes.none = record { run = first_run; is = refl; out = λ m. ap (λ (j : ℕ). run_out K j s.size s.trunks first_run) (zero-add m) }
    ran (Passes.more so_far none is becomes) = ran_more (ran so_far) none is becomes

    -- over within a pass for each exchange, it is the whole run
    whole_run : {k : ℕ} {q : State L} → Passes K (Topologically K s.size) (stepped K (began home) s) k q → k ≤ s.size → is_working q.phase ≡ false → q ≡ at (run_from K home s)
    whole_run {k} {q} passes few over =
        let r = ran passes in
        let over' : works r.run.verdict ≡ false = ap (λ (p : State L). is_working p.phase) (sym r.is) ∙ over in
        let parts : s.size ≡ k + (s.size - k) = omega arith in
        let all : run_from K home s ≡ r.run =
        ap (λ (j : ℕ). run_out K j s.size s.trunks first_run) parts ∙ r.out (s.size - k) ∙ out_over (s.size - k) s.size s.trunks r.run over' in
        r.is ∙ ap at (sym all)

    stands_so : {k : ℕ} {q s' : State L} (e : Ending) → refusal K s (begin home) ≡ None → Passes K (Topologically K s.size) (stepped K (began home) s) k q → k ≤ s.size
        → refusal K q (finish q.number) ≡ None → s' ≡ stepped K finished q → ShownBy s'.phase (shows_end e) → RunsHome K s home (Ok e) s'
    stands_so {k} {q} {s'} e none passes few none_too becomes told =
        let over : is_working q.phase ≡ false = (none_of (refusals K q (finish q.number)) none_too).1.1.1.1.0 in
        let stood : s' ≡ after_home K home s = becomes ∙ ap (stepped K finished) (whole_run passes few over) in
        RunsHome.stands none refl stood (subst (λ (p : State L). ShownBy p.phase (shows_end e)) stood told)

  module _ (number n : ℕ) (first : List L) where
    abbrev book : History L → State L
    book h = after K number n first h

    -- the rule, said for n
    for_n : (h : History L) → (book h).size ≡ n → (ts : List Trunk) (r : Run L) (a : List ℕ) → Topologically K (book h).size ts r a → Topologically K n ts r a
    for_n h size ts r a m = subst (λ (k : ℕ). Topologically K k ts r a) size m

    homed : (h : History L) → Accepted K number n first (Topologically K n) h → (book h).size ≡ n → (home : ℕ) (x : Result (Option Ending) Refusal) (s' : State L)
        → Whole K (Topologically K (book h).size) (book h) home x s' → RunsHome K (book h) home (ending_of x) s' × Carried K number n first (Topologically K n) h s'
    homed h ok size home x s' (Whole.refuses {k = k} why is same) = (
      RunsHome.refuses why (ap ending_of is) same,
      record { history = h; accepted = ok; made = same; same_tariff = refl; same_count = refl; right = subst (Right K n h) (sym same) (promise K number n first (Topologically K n) (λ ts r a _ m. m.means) h ok) },
    )
    homed h ok size home x s' (Whole.runs {q = q} none out (RunsOut.finishes {e = e} none_too ended becomes told) is) =
        let at : Since K n number first (Topologically K n) (λ ts r a _ m. m.means) (Topologically K (book h).size) (for_n h size) h out.count q =
        since K n number first (Topologically K n) (λ ts r a _ m. m.means) (Topologically K (book h).size) (for_n h size) (since_begun K n number first (Topologically K n) (λ ts r a _ m. m.means) (Topologically K (book h).size) (for_n h size) h ok home none) out.passes in
        let few : out.count ≤ (book h).size = omega (arith, at.few, size) in (
          subst (λ (y : Result Ending Refusal). RunsHome K (book h) home y s') (sym (ap ending_of is ∙ ap (λ (y : Option Ending). ending_of (Ok y)) ended)) (stands_so (book h) home e none out.passes few none_too becomes told),
          carried K n number first (Topologically K n) (λ ts r a _ m. m.means) (Topologically K (book h).size) (for_n h size) h out.count q at none_too s' becomes,
        )
    homed h ok size home x s' (Whole.runs {q = q} none out (RunsOut.gives_up working none_too ended becomes) is) =
        absurd (not_given_up K n number first (Topologically K n) (λ ts r a _ m. m.means) (Topologically K (book h).size) (for_n h size) h ok home none q out working)

  -- what a home promises, from what its whole run promises
  module _ (s : State L) (home : ℕ) where
    pub record PromisedHome (r : Result Ending Refusal) (s' : State L) : Type 0 where
      pub whole : RunsWhole K s home r s'
      pub homes : HomesRight K s home r s'

    pub promised_home : (x : Result (Option Ending) Refusal) (r : Result Ending Refusal) (s' : State L) → Whole K (Topologically K s.size) s home x s' → r ≡ ending_of x → PromisedHome r s'
    promised_home x r s' w is = record {
      whole = record { ended = x; whole = w; is = is };
      homes = λ number n first h ok made.
          subst (λ (y : Result Ending Refusal). RunsHome K s home y s' × Carried K number n first (Topologically K n) h s') (sym is)
          (subst (λ (p : State L). RunsHome K p home (ending_of x) s' × Carried K number n first (Topologically K n) h s') (sym made)
          (homed number n first h ok (same_book K n number first h).1 home x s' (subst (λ (p : State L). Whole K (Topologically K p.size) p home x s') made w)));
    }
