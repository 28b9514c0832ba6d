-- What the record of a tape does to a book that the records before it made.
use Rattle.std.specs.Prelude.{◌≡◌, ℕ, List, [], Some, None, Ok, Err, Option, Result}
use Rattle.routing.specs.History.{History, State}
use Rattle.routing.specs.Calls.{refusal, said, shown}
use Rattle.book.specs.declared.outcome.Ending.{Ending}
use Rattle.book.specs.declared.refusal.Refusal.{Refusal}
use Rattle.book.specs.Answers.{shows_end}
use Rattle.book.specs.Refusal.{number_of}
use Rattle.whole_run.specs.Whole.{Carried}
use Rattle.tape.specs.Format.{Item, home}
use Rattle.blocks.specs.Homes.{Topologically, run_from}
use Rattle.blocks.specs.declared.listing.Ran.{Ran}
use Rattle.sheet.specs.Told.{Form, blocks_of, call_of, noted, taken}

-- what a record answers: the run of a home, or none of a change of the tariff; or the book's refusal
abbrev pub Answered : Type 0
Answered = Result (Option Ran) Refusal

-- a change that the book was asked for
abbrev pub changed_of : {A : Type 0} → Result A Refusal → Answered
changed_of (Ok a) = Ok None
changed_of (Err k) = Err k

-- a run that the book was asked for
abbrev pub ran_of : ℕ → Result Ending Refusal → Answered
ran_of x (Ok e) = Ok (Some (record { home = x; ending = e }))
ran_of x (Err k) = Err k

module _ {L : Type 0} (F : Form L) where
  -- accepted calls made the book s, over the trunks of the changes h, each pass in the topological order
  abbrev pub MadeBy : ℕ → ℕ → List L → History L → State L → Type 0
  MadeBy number n first h s = Carried F.kind number n first (Topologically F.kind n) h s

  -- refused by the book, nothing changes; else the book is as the rules say: a change of the tariff, or a run that stands
  pub data Applied (number n : ℕ) (first : List L) (h : History L) (s : State L) (item : Item) (r : Answered) (s' : State L) : Type 0 where
    refuses : {k : Refusal} → refusal F.kind s (call_of F item) ≡ Some (number_of k) → r ≡ Err k → s' ≡ s → Applied number n first h s item r s'
    changes : refusal F.kind s (call_of F item) ≡ None → r ≡ Ok None → s' ≡ taken F item s → blocks_of F item s h ≡ [] → MadeBy number n first (noted F item h) s' → Applied number n first h s item r s'
    runs : {x : ℕ} {e : Ending} → item ≡ home x → refusal F.kind s (call_of F (home x)) ≡ None → r ≡ Ok (Some (record { home = x; ending = e })) → s' ≡ taken F (home x) s
        → shows_end e ≡ shown (said (run_from F.kind x s).verdict) (run_from F.kind x s).passes (run_from F.kind x s).scans
        → MadeBy number n first h s' → Applied number n first h s item r s'

  -- of every book that accepted calls made
  abbrev pub Applies : State L → Item → Answered → State L → Type 0
  Applies s item r s' = (number n : ℕ) (first : List L) (h : History L) → MadeBy number n first h s → Applied number n first h s item r s'
