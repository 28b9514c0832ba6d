-- What taking the record at an offset does, by what the tape comes to from there.
use Rattle.std.specs.Prelude.{◌≡◌, ℕ, ◌<◌, ◌≤◌, List, [], length, Some, None, Ok, Err, Option, Result}
use Rattle.routing.specs.Kind.{Kind}
use Rattle.routing.specs.History.{History, State}
use Rattle.book.specs.declared.refusal.Refusal.{Refusal}
use Rattle.tape.specs.declared.faults.RecordFault.{RecordFault}
use Rattle.tape.specs.declared.faults.RecordFault.TheVariants.{Book}
use Rattle.tape.specs.Format.{Found, record_at}
use Rattle.blocks.specs.Listing.{block_read}
use Rattle.blocks.specs.declared.listing.Ran.{Ran}
use Rattle.sheet.specs.Applying.{Applied, MadeBy}
use Rattle.sheet.specs.Told.{Form}

-- the lines of the run of a home, read off the book; a change of the tariff has none
abbrev pub run_read : {L : Type 0} → Kind L → (L → List ℕ) → State L → ℕ → Option Ran → List ℕ
run_read K printed s n None = []
run_read K printed s n (Some r) = block_read K printed s n r.home r.ending

module _ {L : Type 0} (F : Form L) where
  -- a record that is not one is a fault, and nothing changes; any other is applied
  pub data Taken (number n : ℕ) (first : List L) (h : History L) (tape : List ℕ) (at : ℕ) (s : State L) (r : Result (Option Ran × ℕ) RecordFault) (s' : State L) : Type 0 where
    unread : {f : RecordFault} → record_at F.width tape at ≡ Err f → r ≡ Err f → s' ≡ s → Taken number n first h tape at s r s'
    turned_away : {p : Found} {k : Refusal} → record_at F.width tape at ≡ Ok p → Applied F number n first h s p.item (Err k) s' → r ≡ Err (Book k) → Taken number n first h tape at s r s'
    applies : {p : Found} {e : Option Ran} → record_at F.width tape at ≡ Ok p → Applied F number n first h s p.item (Ok e) s' → r ≡ Ok (e, p.end) → at < p.end → p.end ≤ length tape → Taken number n first h tape at s r s'

  -- of every book that accepted calls made
  abbrev pub Takes : List ℕ → ℕ → State L → Result (Option Ran × ℕ) RecordFault → State L → Type 0
  Takes tape at s r s' = (number n : ℕ) (first : List L) (h : History L) → MadeBy F number n first h s → Taken number n first h tape at s r s'
