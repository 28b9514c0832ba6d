-- The format of a tape: its head, and a record as a bit map and the fields whose bit stands, lowest bit first.
use Rattle.std.specs.Prelude.{ℕ, ◌+◌, ◌*◌, ◌%◌, ◌^◌, Bool, true, cond, not, List, [], ◌∷◌, ◌++◌, length, take, drop, Ok, Err, Result, ◌==◌, bit_and, count_ones, nat_lt, slice_index}
use Rattle.tape.specs.declared.faults.TapeFault.TheVariants.{CutShort, TooLong}
use Rattle.tape.specs.declared.faults.RecordFault.{RecordFault}
use Rattle.tape.specs.declared.faults.RecordFault.TheVariants.{Tape, Content}
use Rattle.tape.specs.declared.faults.ContentFault.TheVariants.{UnknownKind, IllegalMap, BadState}
use Rattle.tape.specs.Fields.{number, bytes_of}

-- what a record asks for; a length is still in its bytes, and a state of 0 bars and of 1 opens
pub data Item : Type 0 where
  lay : (from to : ℕ) (length : List ℕ) → Item
  reprice : (trunk : ℕ) (length : List ℕ) → Item
  bar : (trunk state : ℕ) → Item
  home : (at : ℕ) → Item

-- the map of a lay, hexadecimal 16: from, to and a length
abbrev pub lay_map : ℕ
lay_map = 22

-- hexadecimal 11: a trunk and a length
abbrev pub reprice_map : ℕ
reprice_map = 17

-- hexadecimal 09: a trunk and a state
abbrev pub bar_map : ℕ
bar_map = 9

-- hexadecimal 02: an exchange
abbrev pub home_map : ℕ
home_map = 2

-- a map that a record may have
abbrev pub is_legal : ℕ → Bool
is_legal m = cond (m == lay_map) true (cond (m == reprice_map) true (cond (m == bar_map) true (m == home_map)))

-- where the field of bit i stands: after the map and two bytes for each standing bit below i
abbrev pub place : ℕ → ℕ → ℕ
place m i = 1 + 2 * count_ones (m % 2 ^ i)

-- how many bytes a record with this map has; a length has `width`
abbrev pub size_of : ℕ → ℕ → ℕ
size_of width m = place m 4 + cond (bit_and m 16 == 16) width 0

-- the two-byte field of bit i in the record bs
abbrev pub field : List ℕ → ℕ → ℕ
field bs i = number (take 2 (drop (place (slice_index bs 0) i) bs))

-- the length in the record bs
abbrev pub length_field : ℕ → List ℕ → List ℕ
length_field width bs = take width (drop (place (slice_index bs 0) 4) bs)

-- bits 0 to 3: trunk number, from, to, state
abbrev pub item_in : ℕ → List ℕ → Item
item_in width bs =
    cond (slice_index bs 0 == lay_map) (lay (field bs 1) (field bs 2) (length_field width bs))
    (cond (slice_index bs 0 == reprice_map) (reprice (field bs 0) (length_field width bs))
    (cond (slice_index bs 0 == bar_map) (bar (field bs 0) (field bs 3)) (home (field bs 1))))

-- a state is 0 or 1
abbrev pub legal_state : Item → Bool
legal_state (lay a b l) = true
legal_state (reprice t l) = true
legal_state (bar t s) = nat_lt s 2
legal_state (home x) = true

-- a record that was read: what it asks for, and where it ends
pub record Found : Type 0 where
  pub item : Item
  pub end : ℕ

-- the record at the front of `bs`, which stand at the offset `at`: first its map, then its size, then its state are looked at
abbrev pub record_in : ℕ → List ℕ → ℕ → Result Found RecordFault
record_in width [] at = Err (Tape CutShort)
record_in width (m ∷ bs) at =
    cond (not (is_legal m)) (Err (Content IllegalMap))
    (cond (nat_lt (length (m ∷ bs)) (size_of width m)) (Err (Tape CutShort))
    (cond (not (legal_state (item_in width (m ∷ bs)))) (Err (Content BadState))
    (Ok (record { item = item_in width (m ∷ bs); end = at + size_of width m }))))

-- the record at an offset of a tape
abbrev pub record_at : ℕ → List ℕ → ℕ → Result Found RecordFault
record_at width tape at = record_in width (drop at tape) at

-- the bytes of a record
abbrev pub record_bytes : Item → List ℕ
record_bytes (lay a b l) = lay_map ∷ (bytes_of 2 a ++ (bytes_of 2 b ++ l))
record_bytes (reprice t l) = reprice_map ∷ (bytes_of 2 t ++ l)
record_bytes (bar t s) = bar_map ∷ (bytes_of 2 t ++ bytes_of 2 s)
record_bytes (home x) = home_map ∷ bytes_of 2 x

-- the length of a record, if it has one, is of this width
abbrev pub of_width : ℕ → Item → Bool
of_width width (lay a b l) = length l == width
of_width width (reprice t l) = length l == width
of_width width (bar t s) = true
of_width width (home x) = true

-- the most bytes that a tape may have
abbrev pub most_bytes : ℕ
most_bytes = 65536

-- what the head says: the kind of length, and how many exchanges
pub record Start : Type 0 where
  pub kind : ℕ
  pub exchanges : ℕ

-- the head of a tape: kind and n, two bytes each; kinds 1 and 2 are known
abbrev pub head_of : List ℕ → Result Start RecordFault
head_of tape =
    let kind : ℕ = number (take 2 tape) in
    cond (nat_lt most_bytes (length tape)) (Err (Tape TooLong))
    (cond (nat_lt (length tape) 4) (Err (Tape CutShort))
    (cond (not (cond (kind == 1) true (kind == 2))) (Err (Content UnknownKind))
    (Ok (record { kind = kind; exchanges = number (take 2 (drop 2 tape)) }))))
