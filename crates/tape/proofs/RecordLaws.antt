-- What the format makes of a record.
use Rattle.std.proofs.Common.{◌≡◌, ℕ, ◌+◌, ◌<◌, true, false, cond, not, ltb, List, [], ◌∷◌, length, get_or, Ok, Err, Result, refl, ap, arith}
use Rattle.tape.specs.declared.faults.RecordFault.{RecordFault}
use Rattle.tape.specs.declared.faults.RecordFault.TheVariants.{Tape, Content}
use Rattle.tape.specs.declared.faults.ContentFault.TheVariants.{IllegalMap, BadState}
use Rattle.tape.specs.declared.faults.TapeFault.TheVariants.{CutShort}
use Rattle.tape.specs.declared.records.Switch.{Switch}
use Rattle.tape.specs.declared.records.Switch.TheVariants.{Bar as to_bar, Unbar as to_unbar}
use Rattle.tape.specs.declared.shapes.Shape.{Shape}
use Rattle.tape.specs.declared.shapes.Shape.TheVariants.{Lay, Reprice, Bar, Home}
use Rattle.tape.specs.Format.{Item, Found, is_legal, size_of, item_in, legal_state, record_in}
use Rattle.tape.specs.Reading.{map_of, state_of}

pub state_legal : (s : Switch) → ltb (state_of s) 2 ≡ true
state_legal to_bar = refl
state_legal to_unbar = refl

pub shape_legal : (s : Shape) → is_legal (map_of s) ≡ true
shape_legal Lay = refl
shape_legal Reprice = refl
shape_legal Bar = refl
shape_legal Home = refl

pub found_same : (i j : Item) (m n : ℕ) → i ≡ j → m ≡ n → ◌≡◌ {A = Result Found RecordFault} (Ok (record { item = i; end = m })) (Ok (record { item = j; end = n }))
found_same i j m n p q = rw (p, q) refl

-- the three tests of a record: n bytes are there, and its map and item are m and i
abbrev pub judged : ℕ → ℕ → ℕ → ℕ → Item → Result Found RecordFault
judged w at n m i = cond (not (is_legal m)) (Err (Content IllegalMap)) (cond (ltb n (size_of w m)) (Err (Tape CutShort)) (cond (not (legal_state i)) (Err (Content BadState)) (Ok (record { item = i; end = at + size_of w m }))))

pub record_judged : (w at m : ℕ) (bs : List ℕ) → 0 < length bs → get_or bs 0 0 ≡ m → record_in w bs at ≡ judged w at (length bs) m (item_in w bs)
record_judged w at m [] h e = absurd (omega (arith, h))
record_judged w at m (b ∷ bs) h e = ap (λ x. judged w at (length (b ∷ bs)) x (item_in w (b ∷ bs))) e

pub judged_good : (w at n m : ℕ) (i : Item) → is_legal m ≡ true → ltb n (size_of w m) ≡ false → legal_state i ≡ true → judged w at n m i ≡ Ok (record { item = i; end = at + size_of w m })
judged_good w at n m i p q r = rw (p, q, r) refl
