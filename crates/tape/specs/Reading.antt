-- What the code reads of a tape, as the format sees it.
use Rattle.std.specs.Prelude.{ℕ, Ok, Err, Result}
use Rattle.tape.specs.declared.faults.RecordFault.{RecordFault}
use Rattle.tape.specs.declared.records.Switch.{Switch}
use Rattle.tape.specs.declared.records.Switch.TheVariants.{Bar as to_bar, Unbar as to_unbar}
use Rattle.tape.specs.declared.records.Record.{Record}
use Rattle.tape.specs.declared.records.Record.TheVariants.{Lay, Reprice, Bar, Home}
use Rattle.tape.specs.declared.records.Placed.{Placed}
use Rattle.tape.specs.declared.heads.LengthKind.{LengthKind}
use Rattle.tape.specs.declared.heads.LengthKind.TheVariants.{Charge, ChargeDelay}
use Rattle.tape.specs.declared.heads.Head.{Head}
use Rattle.tape.specs.declared.shapes.Shape.{Shape}
use Rattle.tape.specs.declared.shapes.Shape.TheVariants.{Lay as lay_shape, Reprice as reprice_shape, Bar as bar_shape, Home as home_shape}
use Rattle.tape.specs.Format.{lay_map, reprice_map, bar_map, home_map, Item, lay, reprice, bar, home, Found, Start}

-- 0 bars, 1 opens
abbrev pub state_of : Switch → ℕ
state_of to_bar = 0
state_of to_unbar = 1

-- a record of the code, whose length is a part of the tape
abbrev pub item_of : Record → Item
item_of (Lay from to length) = lay from to length.now
item_of (Reprice trunk length) = reprice trunk length.now
item_of (Bar trunk switch) = bar trunk (state_of switch)
item_of (Home home_at) = home home_at

-- a record with its place
abbrev pub found_of : Placed → Found
found_of p = record { item = item_of p.record; end = p.end }

-- an answer of the code, as the format gives it
abbrev pub read_as : Result Placed RecordFault → Result Found RecordFault
read_as (Ok p) = Ok (found_of p)
read_as (Err f) = Err f

-- the number of a kind
abbrev pub kind_number : LengthKind → ℕ
kind_number Charge = 1
kind_number ChargeDelay = 2

-- a head, as the format gives it
abbrev pub start_of : Head → Start
start_of h = record { kind = kind_number h.kind; exchanges = h.n }

-- an answer of the code about a head
abbrev pub head_read : Result Head RecordFault → Result Start RecordFault
head_read (Ok h) = Ok (start_of h)
head_read (Err f) = Err f

-- the map of a form
abbrev pub map_of : Shape → ℕ
map_of lay_shape = lay_map
map_of reprice_shape = reprice_map
map_of bar_shape = bar_map
map_of home_shape = home_map
