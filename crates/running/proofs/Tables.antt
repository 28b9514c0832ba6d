-- Reads and writes of the table of entries.
use Rattle.std.proofs.Common.{◌≡◌, ℕ, ◌<◌, false, map, get_or, set, vec_items, vec_len, sym, ap, ◌∙◌, arith}
use Rattle.std.proofs.lemmas.List.{get_or-map, map-set, set-get_or}
use Rattle.routing.specs.Rules.{unreached}
use Rattle.running.specs.declared.table.Entry.{Entry}
use Rattle.running.specs.declared.table.Table.{Table}
use Rattle.running.specs.Table.{seen, seen_all, dues, is_due}

-- what a read entry says
module _ (b : Table) (x : ℕ) (e : Entry) (inside : x < vec_len b.entries) (is : e ≡ get_or (vec_items b.entries) x e) where
  pub read_seen : get_or (seen_all b) x unreached ≡ seen e
  read_seen = get_or-map seen (vec_items b.entries) x e unreached (omega (arith, b.entries.ok.0)) ∙ ap seen (sym is)

  pub read_due : is_due b x ≡ e.due
  read_due = get_or-map (λ a. a.due) (vec_items b.entries) x e false (omega (arith, b.entries.ok.0)) ∙ ap (λ a. a.due) (sym is)

  -- an entry that the rules cannot tell from the one before
  pub seen_same : (new : Entry) → seen new ≡ seen e → map seen (set (vec_items b.entries) x new) ≡ seen_all b
  seen_same new same =
      map-set seen (vec_items b.entries) x new
      ∙ ap (λ a. set (seen_all b) x a) (same ∙ sym read_seen)
      ∙ set-get_or (seen_all b) x unreached

-- a new entry
pub seen_set : (b : Table) (x : ℕ) (new : Entry) → map seen (set (vec_items b.entries) x new) ≡ set (seen_all b) x (seen new)
seen_set b x new = map-set seen (vec_items b.entries) x new

pub dues_set : (b : Table) (x : ℕ) (new : Entry) → map (λ a. a.due) (set (vec_items b.entries) x new) ≡ set (dues b) x new.due
dues_set b x new = map-set (λ a. a.due) (vec_items b.entries) x new
