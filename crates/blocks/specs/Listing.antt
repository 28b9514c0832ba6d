-- The lines that are read off a book, whatever it holds.
use Rattle.std.specs.Prelude.{ℕ, List, [], ◌++◌, None, codes, Option}
use Rattle.routing.specs.Kind.{Kind}
use Rattle.routing.specs.History.{State}
use Rattle.routing.specs.Readings.{Reading, told, denied, charge, arrival}
use Rattle.routing.specs.Readings as readings
use Rattle.book.specs.declared.outcome.Ending.{Ending}
use Rattle.book.specs.declared.outcome.Ending.TheVariants.{Settled, Loop}
use Rattle.book.specs.State.{state_of}
use Rattle.blocks.specs.declared.listing.Listing.{Listing}
use Rattle.printing.specs.Lines.{first_line, exchange_lines, trunk_line}

-- the book that is listed, with its lengths
abbrev pub listed : {L : Type 0} → Listing L → State L
listed b = state_of b.book.now b.lengths.now

-- what was read; a reading that is denied is listed as missing
abbrev pub or_none : {A : Type 0} → Reading (Option A) → Option A
or_none (denied k) = None
or_none (told a) = a

-- the trunks that were read; of a reading that is denied there are none
abbrev pub or_nothing : Reading (List ℕ) → List ℕ
or_nothing (denied k) = []
or_nothing (told ts) = ts

module _ {L : Type 0} (K : Kind L) (printed : L → List ℕ) (s : State L) where
  -- the lines of the exchanges below n
  abbrev pub exchanges_read : ℕ → List ℕ
  exchanges_read n = exchange_lines printed (λ x. or_none (charge K s x)) (λ x. or_none (arrival s x)) n

  -- the line of the loop; none has more than 256 trunks
  abbrev pub loop_read : List ℕ
  loop_read = trunk_line (or_nothing (readings.loop s 256))

  -- the lines of a run from home that ended so, over n exchanges
  abbrev pub block_read : ℕ → ℕ → Ending → List ℕ
  block_read n home (Settled p q) = first_line home (codes "settled") p q ++ exchanges_read n
  block_read n home (Loop p q) = first_line home (codes "loop") p q ++ loop_read
