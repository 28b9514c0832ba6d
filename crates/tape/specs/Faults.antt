-- The faults of a tape, by the layer that finds them, and their numbers.
use Rattle.std.specs.Prelude.{ℕ}
use Rattle.book.specs.Refusal.{number_of as refusal_number}
use Rattle.tape.specs.declared.faults.TapeFault.{TapeFault}
use Rattle.tape.specs.declared.faults.TapeFault.TheVariants.{CutShort, NoRoom, TooLong}
use Rattle.tape.specs.declared.faults.ContentFault.{ContentFault}
use Rattle.tape.specs.declared.faults.ContentFault.TheVariants.{UnknownKind, IllegalMap, BadState}
use Rattle.tape.specs.declared.faults.RecordFault.{RecordFault}
use Rattle.tape.specs.declared.faults.RecordFault.TheVariants.{Tape, Content, Book}
use Rattle.tape.specs.declared.faults.Layer.{Layer}
use Rattle.tape.specs.declared.faults.Layer.TheVariants as layers

-- the number of a fault of the tape
abbrev pub tape_number : TapeFault → ℕ
tape_number CutShort = 18
tape_number NoRoom = 22
tape_number TooLong = 23

-- the number of a fault of what a head or a record says
abbrev pub content_number : ContentFault → ℕ
content_number UnknownKind = 19
content_number IllegalMap = 20
content_number BadState = 21

-- 1 the tape, 2 the record, 3 the book
abbrev pub layer_of : RecordFault → ℕ
layer_of (Tape f) = 1
layer_of (Content f) = 2
layer_of (Book k) = 3

-- the number of a layer
abbrev pub layer_number : Layer → ℕ
layer_number layers.Tape = 1
layer_number layers.Record = 2
layer_number layers.Book = 3

-- the number of a fault; each keeps its own
abbrev pub number_of : RecordFault → ℕ
number_of (Tape f) = tape_number f
number_of (Content f) = content_number f
number_of (Book k) = refusal_number k
