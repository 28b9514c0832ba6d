-- The block of a home on a sheet: what it lists, its lines, and what is right about it.
use Rattle.std.specs.Prelude.{◌≡◌, ℕ, ◌↔◌, List, [], ◌++◌, codes, Option}
use Rattle.routing.specs.declared.Verdict.{Verdict}
use Rattle.routing.specs.declared.Verdict.TheVariants.{Working as working, Settled as settled, Looped as looped}
use Rattle.routing.specs.Kind.{Kind}
use Rattle.routing.specs.Walks.{Tariff, Cheapest, Unbounded, Named}
use Rattle.routing.specs.Promise.{IsLooped}
use Rattle.printing.specs.Lines.{first_line, exchange_lines, trunk_line}

-- a finished run from home over the trunks of a tariff: how it ended, and what can be read of it
pub record Block (L : Type 0) : Type 0 where
  pub home : ℕ
  pub tariff : Tariff L
  pub verdict : Verdict
  pub passes : ℕ
  pub scans : ℕ
  pub charge : ℕ → Option L
  pub arrival : ℕ → Option ℕ
  pub loop : List ℕ

-- of two texts, the first after settled and the second after a loop; a finished run does not work
abbrev pub by_verdict : Verdict → List ℕ → List ℕ → List ℕ
by_verdict working a b = []
by_verdict settled a b = a
by_verdict (looped v t) a b = b

-- its lines, over n exchanges; `printed` is how a length is shown
abbrev pub block_lines : {L : Type 0} → (L → List ℕ) → ℕ → Block L → List ℕ
block_lines printed n b =
    by_verdict b.verdict
    (first_line b.home (codes "settled") b.passes b.scans ++ exchange_lines printed b.charge b.arrival n)
    (first_line b.home (codes "loop") b.passes b.scans ++ trunk_line b.loop)

-- settled, it lists the cheapest charges, each with the arriving trunk of its own walk; a loop, just where a closed walk below zero can be
-- reached, it names one
pub record BlockRight {L : Type 0} (K : Kind L) (n : ℕ) (b : Block L) : Type 0 where
  pub over : b.verdict ≡ working → ⊥
  pub cheapest : b.verdict ≡ settled → Cheapest K b.tariff n b.home b.charge b.arrival
  pub unbounded : IsLooped b.verdict ↔ Unbounded K b.tariff b.home
  pub named : IsLooped b.verdict → Named K b.tariff b.home b.loop
