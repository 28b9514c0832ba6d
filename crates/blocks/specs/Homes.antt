-- The run of a home record: begin, passes in the topological order until the run is over, finish.
use Rattle.std.specs.Prelude.{◌≡◌, ℕ, zero, suc, List, Some, None, Ok, Err, ok_or, Option, Result}
use Rattle.routing.specs.declared.Trunk.{Trunk}
use Rattle.routing.specs.declared.Verdict.TheVariants.{Working as working, Settled as settled, Looped as looped}
use Rattle.routing.specs.Kind.{Kind}
use Rattle.routing.specs.Walks.{Tariff}
use Rattle.routing.specs.Rules.{Run, begun, passed}
use Rattle.routing.specs.Orders.{topological}
use Rattle.routing.specs.History.{History, State, standing, turned, after, Accepted}
use Rattle.routing.specs.Readings.{charge_of, arrival_of, loop_of}
use Rattle.routing.specs.Calls.{begin, refusal, said, shown}
use Rattle.book.specs.declared.outcome.Ending.{Ending}
use Rattle.book.specs.declared.refusal.Refusal.{Refusal}
use Rattle.book.specs.declared.refusal.Refusal.TheVariants.{RunNotOver}
use Rattle.book.specs.Answers.{shows_end}
use Rattle.book.specs.Orders.{ByOrder}
use Rattle.book.specs.Refusal.{number_of}
use Rattle.whole_run.specs.Whole.{Carried, Whole}
use Rattle.blocks.specs.Blocks.{Block}

module _ {L : Type 0} (K : Kind L) where
  -- the topological rule, over n exchanges
  abbrev pub Topologically : ℕ → List Trunk → Run L → List ℕ → Type 0
  Topologically n = ByOrder K (λ m ts r a. a ≡ topological K m ts r) n

  -- passes in the topological order until the run is over, at most k
  abbrev pub run_out : ℕ → ℕ → List Trunk → Run L → Run L
  run_out zero n ts r = r
  run_out (suc k) n ts r =
      elim r.verdict [ working ↦ run_out k n ts (passed K n ts (topological K n ts r) r) | settled ↦ r | looped v t ↦ r ]

  -- the whole run from home of the book s; a pass for each exchange ends it
  abbrev pub run_from : ℕ → State L → Run L
  run_from home s = run_out s.size s.size s.trunks (begun K s.size s.trunks home s.lengths)

  -- the book in which that run stands
  abbrev pub after_home : ℕ → State L → State L
  after_home home s = turned s (run_from home s).lengths (standing home (run_from home s))

  -- the block of the run r, over the trunks of T
  abbrev pub block_of : ℕ → List Trunk → ℕ → Run L → Tariff L → Block L
  block_of n ts home r T = record {
    home = home;
    tariff = T;
    verdict = r.verdict;
    passes = r.passes;
    scans = r.scans;
    charge = charge_of K n ts r;
    arrival = arrival_of r;
    loop = loop_of n ts r;
  }

  -- a home is refused as its begin is, and nothing changes; else its whole run stands, and the ending tells how
  pub data RunsHome (s : State L) (home : ℕ) (r : Result Ending Refusal) (s' : State L) : Type 0 where
    refuses : {k : Refusal} → refusal K s (begin home) ≡ Some (number_of k) → r ≡ Err k → s' ≡ s → RunsHome s home r s'
    stands : {e : Ending} → refusal K s (begin home) ≡ None → r ≡ Ok e → s' ≡ after_home home s
        → shows_end e ≡ shown (said (run_from home s).verdict) (run_from home s).passes (run_from home s).scans → RunsHome s home r s'

  -- of a book that accepted calls made, each pass in the topological order: the home is run so, and the calls go on
  abbrev pub HomesRight : State L → ℕ → Result Ending Refusal → State L → Type 0
  HomesRight s home r s' =
      (number n : ℕ) (first : List L) (h : History L) → Accepted K number n first (Topologically n) h → s ≡ after K number n first h
      → RunsHome s home r s' × Carried K number n first (Topologically n) h s'

-- a run that is given up is answered as one that is not over
abbrev pub ending_of : Result (Option Ending) Refusal → Result Ending Refusal
ending_of (Ok e) = ok_or e RunNotOver
ending_of (Err k) = Err k

-- of any book: a whole run in the topological order
pub record RunsWhole {L : Type 0} (K : Kind L) (s : State L) (home : ℕ) (r : Result Ending Refusal) (s' : State L) : Type 0 where
  pub ended : Result (Option Ending) Refusal
  pub whole : Whole K (Topologically K s.size) s home ended s'
  pub is : r ≡ ending_of ended
