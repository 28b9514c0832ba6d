-- The table of entries as the code holds it, and what the rules see of it.
use Rattle.std.specs.Prelude.{◌≡◌, ℕ, Bool, true, false, List, map, Some, vec_items, vec_len, vec_capacity, slice_index_or}
use Rattle.routing.specs.Rules as rules
use Rattle.running.specs.declared.table.Entry.{Entry}
use Rattle.running.specs.declared.table.Table.{Table}

-- an entry, but for whether the exchange is due
abbrev pub seen : Entry → rules.Entry
seen e = record { reached = e.reached; arriving = e.arriving }

-- all entries as the rules see them
abbrev pub seen_all : Table → List rules.Entry
seen_all b = map seen (vec_items b.entries)

-- of each exchange, whether it is due: it waits, or its turn is to come
abbrev pub dues : Table → List Bool
dues b = map (λ e. e.due) (vec_items b.entries)

-- whether x is due
abbrev pub is_due : Table → ℕ → Bool
is_due b x = slice_index_or (dues b) x false

-- reached by trunk t
abbrev pub arrived : ℕ → rules.Entry
arrived t = record { reached = true; arriving = Some t }

-- as many entries, and room for as many, as before
abbrev pub SameSize : Table → Table → Type 0
SameSize b b' = (vec_len b'.entries ≡ vec_len b.entries) × (vec_capacity b'.entries ≡ vec_capacity b.entries)
