-- Records written over the front of some bytes, and read back.
use Rattle.std.proofs.Common.{◌≡◌, ℕ, ◌+◌, ◌-◌, ◌^◌, ◌<◌, ◌≤◌, min, Bool, true, false, cond, leb, List, length, get_or, drop, Ok, Err, Result, sym, refl, ap, ◌∙◌, arith}
use Rattle.std.proofs.lemmas.List.{length-append, take_at}
use Rattle.std.proofs.lemmas.Bool.{eqb-true, le-leb, lt-leb, le-ltb, lt-ltb}
use Rattle.tape.specs.declared.faults.TapeFault.{TapeFault}
use Rattle.tape.specs.declared.faults.TapeFault.TheVariants.{NoRoom}
use Rattle.tape.specs.Fields.{number, bytes_of}
use Rattle.tape.specs.Format.{Item, lay, reprice, bar, home, is_legal, size_of, item_in, legal_state, record_at, record_bytes, of_width}
use Rattle.tape.specs.Writing.{over_front, has_room, count_of, bytes_after, item_map, Short}
use Rattle.tape.proofs.FieldLaws.{number_bytes_of}
use Rattle.tape.proofs.FormatLaws.{size_lay, size_reprice, size_bar, size_home, item_lay, item_reprice, item_bar, item_home}
use Rattle.tape.proofs.RecordLaws.{judged, record_judged, judged_good, found_same}

-- a size that is computed is that of the bytes
pub record_size : (w : ℕ) (i : Item) → of_width w i ≡ true → size_of w (item_map i) ≡ length (record_bytes i)
record_size w (lay a b l) h = omega (arith, size_lay w, eqb-true (length l) w h)
record_size w (reprice t l) h = omega (arith, size_reprice w, eqb-true (length l) w h)
record_size w (bar t s) h = size_bar w
record_size w (home x) h = size_home w

-- when a record is written; m is its map, and size its size as the code has it
module _ (w : ℕ) (i : Item) (room : ℕ) where
  pub wide_refused : of_width w i ≡ false → Err NoRoom ≡ count_of w i room
  wide_refused h = rw h refl

  module _ (m size : ℕ) (map : m ≡ item_map i) (is : size ≡ min (size_of w m) (2 ^ 64 - 1)) (width : of_width w i ≡ true) where
    capped : size ≡ min (length (record_bytes i)) (2 ^ 64 - 1)
    capped = is ∙ ap (λ n. min n (2 ^ 64 - 1)) (ap (size_of w) map ∙ record_size w i width)

    pub long_refused : room < size → Err NoRoom ≡ count_of w i room
    long_refused lt =
        let t : leb (length (record_bytes i)) room ≡ false = lt-leb (length (record_bytes i)) room (omega (arith, capped)) in
        rw (width, t) refl

    pub room_counted : size ≤ room → room < 2 ^ 63 → Ok size ≡ count_of w i room
    room_counted le small =
        let e : size ≡ length (record_bytes i) = omega (arith, capped) in
        let t : leb (length (record_bytes i)) room ≡ true = le-leb (length (record_bytes i)) room (omega arith) in
        rw (width, t, e) refl

chosen : (b : Bool) (k n : ℕ) → ◌≡◌ {A = Result ℕ TapeFault} (Ok n) (cond b (Ok k) (Err NoRoom)) → (b ≡ true) × (n ≡ k)
chosen true k n e = (refl, cc)
chosen false k n e = let z : ◌≡◌ {A = ℕ} 0 1 = cc in absurd (omega arith)

both : (a b : Bool) → cond a b false ≡ true → (a ≡ true) × (b ≡ true)
both true b e = (refl, e)
both false b e = let z : false ≡ true = e in let y : ◌≡◌ {A = ℕ} 0 1 = cc in absurd (omega arith)

-- what the answer tells
pub record Made (w : ℕ) (i : Item) (room n : ℕ) : Type 0 where
  pub room_is : has_room w i room ≡ true
  pub width : of_width w i ≡ true
  pub count : n ≡ length (record_bytes i)

pub count_made : (w : ℕ) (i : Item) (room n : ℕ) → Ok n ≡ count_of w i room → Made w i room n
count_made w i room n e =
    let p = chosen (has_room w i room) (length (record_bytes i)) n e in
    record { room_is = p.0; width = (both (of_width w i) (leb (length (record_bytes i)) room) p.0).0; count = p.1 }

map_legal : (i : Item) → is_legal (item_map i) ≡ true
map_legal (lay a b l) = refl
map_legal (reprice t l) = refl
map_legal (bar t s) = refl
map_legal (home x) = refl

short_legal : (i : Item) → Short i → legal_state i ≡ true
short_legal (lay a b l) h = refl
short_legal (reprice t l) h = refl
short_legal (bar t s) h = lt-ltb s 2 h.1
short_legal (home x) h = refl

starts : (i : Item) (xs : List ℕ) → get_or (over_front (record_bytes i) xs) 0 0 ≡ item_map i
starts (lay a b l) xs = refl
starts (reprice t l) xs = refl
starts (bar t s) xs = refl
starts (home x) xs = refl

pub has_map : (i : Item) → 0 < length (record_bytes i)
has_map (lay a b l) = omega arith
has_map (reprice t l) = omega arith
has_map (bar t s) = omega arith
has_map (home x) = omega arith

two_back : (x : ℕ) → x < 2 ^ 16 → number (bytes_of 2 x) ≡ x
two_back x h = omega (arith, number_bytes_of 2 x)

same_lay : (a x b y : ℕ) (l z : List ℕ) → a ≡ x → b ≡ y → l ≡ z → lay a b l ≡ lay x y z
same_lay a x b y l z p q r = cc

same_reprice : (a x : ℕ) (l z : List ℕ) → a ≡ x → l ≡ z → reprice a l ≡ reprice x z
same_reprice a x l z p r = cc

same_bar : (a x b y : ℕ) → a ≡ x → b ≡ y → bar a b ≡ bar x y
same_bar a x b y p q = cc

-- the bytes of a record mean it
pub item_back : (w : ℕ) (i : Item) (xs : List ℕ) → of_width w i ≡ true → Short i → item_in w (over_front (record_bytes i) xs) ≡ i
item_back w (lay a b l) xs h s =
    item_lay w (over_front (record_bytes (lay a b l)) xs) refl
    ∙ same_lay _ _ _ _ _ _ (two_back a s.0) (two_back b s.1) (take_at l (drop (length (record_bytes (lay a b l))) xs) w (eqb-true (length l) w h))
item_back w (reprice t l) xs h s =
    item_reprice w (over_front (record_bytes (reprice t l)) xs) refl
    ∙ same_reprice _ _ _ _ (two_back t s) (take_at l (drop (length (record_bytes (reprice t l))) xs) w (eqb-true (length l) w h))
item_back w (bar t s) xs h p =
    item_bar w (over_front (record_bytes (bar t s)) xs) refl ∙ same_bar _ _ _ _ (two_back t p.0) (two_back s (omega (arith, p.1)))
item_back w (home x) xs h s = item_home w (over_front (record_bytes (home x)) xs) refl ∙ ap home (two_back x s)

pub record_back : (w : ℕ) (i : Item) (xs : List ℕ) → of_width w i ≡ true → Short i → record_at w (over_front (record_bytes i) xs) 0 ≡ Ok (record { item = i; end = length (record_bytes i) })
record_back w i xs h s =
    let long : length (record_bytes i) ≤ length (over_front (record_bytes i) xs) = simp length-append (omega arith) in
    let some : 0 < length (over_front (record_bytes i) xs) = omega (arith, has_map i) in
    record_judged w 0 (item_map i) (over_front (record_bytes i) xs) some (starts i xs)
    ∙ ap (judged w 0 (length (over_front (record_bytes i) xs)) (item_map i)) (item_back w i xs h s)
    ∙ judged_good w 0 (length (over_front (record_bytes i) xs)) (item_map i) i (map_legal i) (le-ltb _ (size_of w (item_map i)) (omega (arith, record_size w i h))) (short_legal i s)
    ∙ found_same i i (0 + size_of w (item_map i)) (length (record_bytes i)) refl (omega (arith, record_size w i h))

-- after a record was written
pub wrote : (w : ℕ) (i : Item) (xs bs : List ℕ) (n : ℕ) → Made w i (length xs) n → bs ≡ over_front (record_bytes i) xs → Short i
    → (bs ≡ bytes_after w i xs) × (record_at w bs 0 ≡ Ok (record { item = i; end = n }))
wrote w i xs bs n made e s =
    let back : record_at w bs 0 ≡ Ok (record { item = i; end = length (record_bytes i) }) = rw e (record_back w i xs made.width s) in
    (rw made.room_is e, back ∙ found_same i i (length (record_bytes i)) n refl (sym made.count))
