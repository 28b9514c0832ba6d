-- What the code writes of a tape.
use Rattle.std.specs.Prelude.{ℕ, ◌^◌, ◌<◌, Bool, false, cond, List, ◌++◌, length, drop, Ok, Err, Result, nat_le}
use Rattle.tape.specs.declared.faults.TapeFault.{TapeFault}
use Rattle.tape.specs.declared.faults.TapeFault.TheVariants.{NoRoom}
use Rattle.tape.specs.Fields.{bytes_of}
use Rattle.tape.specs.Format.{Item, lay, reprice, bar, home, lay_map, reprice_map, bar_map, home_map, record_bytes, of_width, Start}

-- ys written over the front of xs, whose other bytes stay
abbrev pub over_front : List ℕ → List ℕ → List ℕ
over_front ys xs = ys ++ drop (length ys) xs

-- the bytes of a head
abbrev pub head_bytes : Start → List ℕ
head_bytes s = bytes_of 2 s.kind ++ bytes_of 2 s.exchanges

-- a record is written if its length is of this width and `room` bytes are enough
abbrev pub has_room : ℕ → Item → ℕ → Bool
has_room width item room = cond (of_width width item) (nat_le (length (record_bytes item)) room) false

-- the answer: how many bytes the record has
abbrev pub count_of : ℕ → Item → ℕ → Result ℕ TapeFault
count_of width item room = cond (has_room width item room) (Ok (length (record_bytes item))) (Err NoRoom)

-- the bytes after the call
abbrev pub bytes_after : ℕ → Item → List ℕ → List ℕ
bytes_after width item into = cond (has_room width item (length into)) (over_front (record_bytes item) into) into

-- the map of a record
abbrev pub item_map : Item → ℕ
item_map (lay a b l) = lay_map
item_map (reprice t l) = reprice_map
item_map (bar t s) = bar_map
item_map (home x) = home_map

-- each number has two bytes, and a state is legal
abbrev pub Short : Item → Type 0
Short (lay a b l) = (a < 2 ^ 16) × (b < 2 ^ 16)
Short (reprice t l) = t < 2 ^ 16
Short (bar t s) = (t < 2 ^ 16) × (s < 2)
Short (home x) = x < 2 ^ 16
