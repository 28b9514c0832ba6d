-- What a tape comes to: the blocks of its homes, and the fault that ends it, if any.
use Rattle.std.specs.Prelude.{◌≡◌, ℕ, zero, suc, ◌+◌, cond, ◌||◌, List, [], ◌∷◌, ◌++◌, length, replicate, Some, None, Ok, Err, Option, Result, ◌==◌, nat_le, nat_lt}
use Rattle.routing.specs.Kind.{Kind}
use Rattle.routing.specs.History.{laid, repriced, barred, unbarred, edit, History, tariff_of, State, idle, edited}
use Rattle.routing.specs.Calls.{Call, refusal}
use Rattle.routing.specs.Calls as calls
use Rattle.tape.specs.declared.faults.RecordFault.{RecordFault}
use Rattle.tape.specs.Faults.{layer_of, number_of}
use Rattle.tape.specs.Format.{Item, lay, reprice, bar, home, Found, record_at}
use Rattle.blocks.specs.Blocks.{Block, BlockRight, block_lines}
use Rattle.blocks.specs.Homes.{after_home, block_of, run_from}
use Rattle.printing.specs.Lines.{fault_line}

-- a fault: the layer that found it, its number, and the offset of its place
pub record Fault : Type 0 where
  pub layer : ℕ
  pub number : ℕ
  pub at : ℕ

-- the blocks that were printed, and the fault that ended the tape
pub record Told (L : Type 0) : Type 0 where
  pub blocks : List (Block L)
  pub fault : Option Fault

-- nothing more
abbrev pub silence : {L : Type 0} → Told L
silence = record { blocks = []; fault = None }

-- a fault ends it
abbrev pub faulty : {L : Type 0} → ℕ → ℕ → ℕ → Told L
faulty layer number at = record { blocks = []; fault = Some (record { layer = layer; number = number; at = at }) }

-- these blocks first
abbrev pub after_blocks : {L : Type 0} → List (Block L) → Told L → Told L
after_blocks bs t = record { blocks = bs ++ t.blocks; fault = t.fault }

-- what a kind of length is on a tape and on a sheet: its width, what its bytes mean, and how it is shown
pub record Form (L : Type 0) : Type 1 where
  pub kind : Kind L
  pub width : ℕ
  pub meant : List ℕ → L
  pub printed : L → List ℕ

-- the form of these four
abbrev pub form_of : {L : Type 0} → Kind L → ℕ → (List ℕ → L) → (L → List ℕ) → Form L
form_of K width meant printed = record { kind = K; width = width; meant = meant; printed = printed }

-- the record there, or its fault
abbrev pub on_record : {L : Type 0} → Result Found RecordFault → ℕ → (Found → Told L) → Told L
on_record (Err f) at go = faulty (layer_of f) (number_of f) at
on_record (Ok p) at go = go p

-- a refusal by the book is a fault of layer 3
abbrev pub on_refusal : {L : Type 0} → Option ℕ → ℕ → Told L → Told L
on_refusal (Some k) at t = faulty 3 k at
on_refusal None at t = t

module _ {L : Type 0} (F : Form L) where
  -- the call that a record makes
  abbrev pub call_of : Item → Call L
  call_of (lay a b l) = calls.lay a b (F.meant l)
  call_of (reprice t l) = calls.reprice t (F.meant l)
  call_of (bar t s) = cond (s == 0) (calls.bar t) (calls.unbar t)
  call_of (home x) = calls.begin x

  -- the accepted changes of the tariff, the newest first, with those of this record in front
  abbrev pub noted : Item → History L → History L
  noted (lay a b l) h = edit (laid a b (F.meant l)) ∷ h
  noted (reprice t l) h = edit (repriced t (F.meant l)) ∷ h
  noted (bar t s) h = edit (cond (s == 0) (barred t) (unbarred t)) ∷ h
  noted (home x) h = h

  -- the book after an accepted record
  abbrev pub taken : Item → State L → State L
  taken (lay a b l) s = edited (laid a b (F.meant l)) s
  taken (reprice t l) s = edited (repriced t (F.meant l)) s
  taken (bar t b) s = edited (cond (b == 0) (barred t) (unbarred t)) s
  taken (home x) s = after_home F.kind x s

  -- a home has a block: its whole run over the trunks that the accepted records made
  abbrev pub blocks_of : Item → State L → History L → List (Block L)
  blocks_of (lay a b l) s h = []
  blocks_of (reprice t l) s h = []
  blocks_of (bar t b) s h = []
  blocks_of (home x) s h = block_of F.kind s.size s.trunks x (run_from F.kind x s) (tariff_of h) ∷ []

  -- the records from the offset `at` on, one after the other, on the book s that the changes h made; k bounds how many, and the bytes that
  -- are left are enough
  abbrev pub told_from : ℕ → List ℕ → ℕ → State L → History L → Told L
  told_from zero tape at s h = silence
  told_from (suc k) tape at s h =
      cond (nat_le (length tape) at) silence
      (on_record (record_at F.width tape at) at
      (λ p. on_refusal (refusal F.kind s (call_of p.item)) at
      (after_blocks (blocks_of p.item s h) (told_from k tape p.end (taken p.item s) (noted p.item h)))))

  -- the book of a tape: number 0, n exchanges, places for 4,096 trunks
  abbrev pub new_book : ℕ → State L
  new_book n = record { number = 0; size = n; trunks = []; lengths = replicate (n + 4096) F.kind.none; phase = idle }

  -- what a tape comes to whose head says n: 1 where no book has so many exchanges, else its records, which follow the four bytes of the head
  abbrev pub told : ℕ → List ℕ → Told L
  told n tape = cond (n == 0 || nat_lt 256 n) (faulty 3 1 0) (told_from (length tape) tape 4 (new_book n) [])

  -- the lines of blocks, over n exchanges
  abbrev pub blocks_lines : ℕ → List (Block L) → List ℕ
  blocks_lines n [] = []
  blocks_lines n (b ∷ bs) = block_lines F.printed n b ++ blocks_lines n bs

  -- and of the fault
  abbrev pub fault_lines : Option Fault → List ℕ
  fault_lines None = []
  fault_lines (Some f) = fault_line f.layer f.number f.at

  -- the text of what a tape comes to
  abbrev pub text_of : ℕ → Told L → List ℕ
  text_of n t = blocks_lines n t.blocks ++ fault_lines t.fault

  -- each block is right
  abbrev pub AllRight : ℕ → List (Block L) → Type 0
  AllRight n [] = Unit {0}
  AllRight n (b ∷ bs) = BlockRight F.kind n b × AllRight n bs

  -- what a tape comes to is told: its text stands behind what was there, and each block is right
  pub record TellsAll (n : ℕ) (t : Told L) (before after : List ℕ) : Type 0 where
    pub text : after ≡ before ++ text_of n t
    pub right : AllRight n t.blocks
