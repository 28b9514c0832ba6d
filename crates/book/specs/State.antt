-- The book that the code holds, as the rules see it, with its length list.
use Rattle.std.specs.Prelude.{◌≡◌, ℕ, ◌+◌, ◌<◌, ◌≤◌, Bool, true, false, List, vec_items, vec_len}
use Rattle.routing.specs.Rules.{Run}
use Rattle.routing.specs.History.{State, idle, running, standing}
use Rattle.routing.specs.History as history
use Rattle.running.specs.Work.{run_of}
use Rattle.book.specs.declared.Phase.{Phase}
use Rattle.book.specs.declared.Phase.TheVariants.{Idle, Running, Standing}
use Rattle.book.specs.declared.Book.{Book}
use Rattle.book.specs.declared.Ticket.{Ticket}

-- where the run is
abbrev pub phase_of : {L : Type 0} → Phase → Run L → history.Phase L
phase_of Idle r = idle
phase_of (Running home) r = running home r
phase_of (Standing home) r = standing home r

-- a book with the list ls
abbrev pub state_of : {L : Type 0} → Book → List L → State L
state_of b ls = record {
  number = b.number;
  size = b.n;
  trunks = vec_items b.trunks;
  lengths = ls;
  phase = phase_of b.phase (run_of b.work ls);
}

-- a run is open
abbrev pub runs : Phase → Bool
runs Idle = false
runs (Running home) = true
runs (Standing home) = false

-- the phase after a finish
abbrev pub stood : Phase → Phase
stood Idle = Idle
stood (Running home) = Standing home
stood (Standing home) = Standing home

-- the open run of b gave the ticket t, and b fits a length list of this size: such a ticket can be given back
pub record Owed (t : Ticket) (b : Book) (size : ℕ) : Type 0 where
  pub some : 0 < b.n
  pub few : b.n ≤ 256
  pub room : b.n + vec_len b.trunks ≤ size
  pub open_run : runs b.phase ≡ true
  pub bears : t.number ≡ b.number
