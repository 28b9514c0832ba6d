-- The sheet of a tape, for every tape whatever.
use Rattle.std.specs.Prelude.{◌≡◌, ℕ, cond, List, ◌++◌, Ok, Err, Result, ◌==◌}
use Rattle.lengths.specs.declared.charge.Charge.{Charge}
use Rattle.lengths.specs.declared.charge_delay.ChargeDelay.{ChargeDelay}
use Rattle.lengths.specs.Charge.{charge}
use Rattle.lengths.specs.ChargeDelay.{charge_delay}
use Rattle.tape.specs.declared.faults.TapeFault.TheVariants.{CutShort, NoRoom, TooLong}
use Rattle.tape.specs.declared.faults.RecordFault.{RecordFault}
use Rattle.tape.specs.declared.faults.RecordFault.TheVariants.{Tape, Content, Book}
use Rattle.tape.specs.Faults.{layer_of, number_of}
use Rattle.tape.specs.Format.{Start, head_of, most_bytes}
use Rattle.tape.specs.OnTape.{charge_in, charge_delay_in}
use Rattle.lengths.specs.Shown.{charge_shown, charge_delay_shown}
use Rattle.printing.specs.Lines.{fault_line}
use Rattle.sheet.specs.Told.{Form, told, text_of, AllRight}

-- the kinds of a tape: 1, charge, and 2, charge with delay
abbrev pub charge_form : Form Charge
charge_form = record { kind = charge; width = 4; meant = charge_in; printed = charge_shown }

abbrev pub charge_delay_form : Form ChargeDelay
charge_delay_form = record { kind = charge_delay; width = 6; meant = charge_delay_in; printed = charge_delay_shown }

-- where a fault of the head is said to be: a tape that is too long, where it should have ended; any other at its start
abbrev pub head_offset : RecordFault → ℕ
head_offset (Tape CutShort) = 0
head_offset (Tape NoRoom) = 0
head_offset (Tape TooLong) = most_bytes
head_offset (Content f) = 0
head_offset (Book k) = 0

-- the text of the records of a tape, by the number of the kind of their lengths
abbrev pub kind_text : ℕ → ℕ → List ℕ → List ℕ
kind_text kind n tape = cond (kind == 1) (text_of charge_form n (told charge_form n tape)) (text_of charge_delay_form n (told charge_delay_form n tape))

-- every block of such a tape is right: of a settled run it lists the cheapest charges over the trunks that the accepted records before it made,
-- each with the arriving trunk of its own walk; of a loop it names a closed walk below zero
abbrev pub KindRight : ℕ → ℕ → List ℕ → Type 0
KindRight kind n tape =
    (kind ≡ 1 → AllRight charge_form n (told charge_form n tape).blocks) × (kind ≡ 2 → AllRight charge_delay_form n (told charge_delay_form n tape).blocks)

-- the records of a tape are told, by the number of their kind
pub record TellsKind (kind n : ℕ) (tape before after : List ℕ) : Type 0 where
  pub text : after ≡ before ++ kind_text kind n tape
  pub right : KindRight kind n tape

-- by the head: its fault, or what the records come to
abbrev pub sheet_from : Result Start RecordFault → List ℕ → List ℕ
sheet_from (Err f) tape = fault_line (layer_of f) (number_of f) (head_offset f)
sheet_from (Ok start) tape = kind_text start.kind start.exchanges tape

-- the sheet of a tape
abbrev pub sheet_of : List ℕ → List ℕ
sheet_of tape = sheet_from (head_of tape) tape

-- every block on the sheet of a tape is right
abbrev pub SheetRight : List ℕ → Type 0
SheetRight tape = (start : Start) → head_of tape ≡ Ok start → KindRight start.kind start.exchanges tape
