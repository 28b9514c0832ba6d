-- The run as the code holds it, and the run that it stands for.
use Rattle.std.specs.Prelude.{◌≡◌, ℕ, ◌<◌, ◌≤◌, Bool, true, false, ◌&&◌, ◌||◌, List, length, get_or, Some, vec_items, vec_len, vec_capacity, Vec, nat_lt, slice_index_or}
use Rattle.std.specs.declared.alloc.Global.{Global}
use Rattle.routing.specs.declared.Verdict.{Verdict}
use Rattle.routing.specs.declared.Verdict.TheVariants.{Working, Settled, Looped}
use Rattle.routing.specs.Lists.{Once, has}
use Rattle.routing.specs.Rules.{Run, Entry, unreached}
use Rattle.running.specs.declared.table.Table.{Table}
use Rattle.running.specs.declared.Work.{Work}
use Rattle.routing.specs.declared.Trunk.{Trunk}
use Rattle.running.specs.Table.{seen_all, dues, is_due}

-- the run that the code holds, with its labels in ls
abbrev pub run_of : {L : Type 0} → Work → List L → Run L
run_of w ls = record {
  lengths = ls;
  entries = seen_all w.table;
  waiting = vec_items w.waiting;
  passes = w.passes;
  scans = w.scans;
  verdict = w.verdict;
}

-- the trunk that arrives at an exchange is one of m
abbrev pub Arrivals : ℕ → List Entry → Type 0
Arrivals m es = (x t : ℕ) → (get_or es x unreached).arriving ≡ Some t → t < m

-- what holds between any two steps, over n exchanges and m trunks: who waits is marked as due and reached, and waits once
pub record Holds (n m : ℕ) (b : Table) (ws : Vec ℕ Global) : Type 0 where
  pub entries : vec_len b.entries ≡ n
  pub arrivals : Arrivals m (seen_all b)
  pub waits : (x : ℕ) → has x (vec_items ws) ≡ true → is_due b x ≡ true
  pub reached : (x : ℕ) → has x (vec_items ws) ≡ true → (get_or (seen_all b) x unreached).reached ≡ true
  pub once : Once (vec_items ws)
  pub room : n ≤ vec_capacity ws

-- an exchange is marked as due if and only if it waits or its turn is to come, and never both
pub record Marks (n : ℕ) (ds : List Bool) (ws later : List ℕ) : Type 0 where
  pub due : (x : ℕ) → x < n → slice_index_or ds x false ≡ (has x ws || has x later)
  pub apart : (x : ℕ) → has x later ≡ true → has x ws ≡ false

-- what holds of a run; it speaks of some fields alone, so that a change of another leaves it as it is
abbrev pub SoundOver : ℕ → ℕ → Work → Type 0
SoundOver n m w = Holds n m w.table w.waiting

-- the same over n exchanges and these trunks
abbrev pub Sound : ℕ → List Trunk → Work → Type 0
Sound n ts w = SoundOver n (length ts) w

-- the marks of a run, while those of `later` have their turn to come
abbrev pub Marked : ℕ → Work → List ℕ → Type 0
Marked n w later = Marks n (dues w.table) (vec_items w.waiting) later

-- the room taken for entries and for the waiting list is as before
abbrev pub SameRoom : Work → Work → Type 0
SameRoom w w' = (vec_capacity w'.table.entries ≡ vec_capacity w.table.entries) × (vec_capacity w'.waiting ≡ vec_capacity w.waiting)

-- the loop that a verdict names was found at one of n exchanges, by one of m trunks
abbrev pub names_inside : ℕ → ℕ → Verdict → Bool
names_inside n m Working = true
names_inside n m Settled = true
names_inside n m (Looped v t) = nat_lt v n && nat_lt t m
