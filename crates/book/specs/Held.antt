-- What a book holds between two calls, in a form that has one proof at most.
use Rattle.std.specs.Prelude.{◌≡◌, ℕ, ◌<◌, ◌≤◌, Bool, true, false, get_or, vec_items, vec_len, vec_capacity, Vec}
use Rattle.std.specs.declared.alloc.Global.{Global}
use Rattle.routing.specs.declared.Trunk.{Trunk}
use Rattle.routing.specs.Lists.{Once, has}
use Rattle.routing.specs.Rules.{is_loop, unreached}
use Rattle.running.specs.declared.index.Index.{Index}
use Rattle.running.specs.declared.Work.{Work}
use Rattle.running.specs.Network.{Ends, Leads, Parted}
use Rattle.running.specs.Table.{seen_all, is_due}
use Rattle.running.specs.Work.{Arrivals, names_inside}
use Rattle.book.specs.declared.Phase.{Phase}
use Rattle.book.specs.declared.Phase.TheVariants.{Idle, Running, Standing}

-- a run is open, or finished
abbrev pub has_run : Phase → Bool
has_run Idle = false
has_run (Running home) = true
has_run (Standing home) = true

-- room for the most exchanges and trunks that a book may have
abbrev pub Roomy : Vec Trunk Global → Index → Work → Type 0
Roomy ts ix w = (4096 ≤ vec_capacity ts) × (256 ≤ vec_capacity ix.starts) × (4096 ≤ vec_capacity ix.listed) × (256 ≤ vec_capacity w.table.entries)

-- and room for those who wait, and for the list that an order answers
abbrev pub Spare : Work → Vec ℕ Global → Type 0
Spare w list = (256 ≤ vec_capacity w.waiting) × (256 ≤ vec_capacity list)

-- nothing is laid, and no run has begun
abbrev pub Empty : Vec Trunk Global → Work → Type 0
Empty ts w = (vec_len ts ≡ 0) × (vec_len w.table.entries ≡ 0) × (vec_len w.waiting ≡ 0)

-- the trunks, over n exchanges
abbrev pub Laid : ℕ → Vec Trunk Global → Type 0
Laid n ts = Ends n (vec_items ts) × (vec_len ts ≤ 4096)

-- a run has an entry for each exchange
abbrev pub Seated : Phase → ℕ → Work → Type 0
Seated p n w = has_run p ≡ true → (0 < n) × (n ≤ 256) × (vec_len w.table.entries ≡ n)

-- a run has the index of the open trunks
abbrev pub Indexed : Phase → ℕ → Vec Trunk Global → Index → Type 0
Indexed p n ts ix = has_run p ≡ true → Parted n (vec_items ix.starts) (vec_items ix.listed) × Leads n (vec_items ts) (vec_items ix.starts) (vec_items ix.listed)

-- the run between two calls, over m trunks
abbrev pub Rests : ℕ → Work → Type 0
Rests m w =
    Arrivals m (seen_all w.table)
    × ((x : ℕ) → has x (vec_items w.waiting) ≡ true → is_due w.table x ≡ true)
    × ((x : ℕ) → has x (vec_items w.waiting) ≡ true → (get_or (seen_all w.table) x unreached).reached ≡ true)
    × Once (vec_items w.waiting)

-- while the run is not over as a loop, the marks tell who waits
abbrev pub Tells : ℕ → Work → Type 0
Tells n w = is_loop w.verdict ≡ false → (x : ℕ) → x < n → is_due w.table x ≡ has x (vec_items w.waiting)

-- no loop was found
abbrev pub Calm : Work → Type 0
Calm w = is_loop w.verdict ≡ false

-- a loop that was found is one of the book's
abbrev pub Names : ℕ → Vec Trunk Global → Work → Type 0
Names n ts w = names_inside n (vec_len ts) w.verdict ≡ true
