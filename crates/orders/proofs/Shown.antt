-- What an order is shown.
use Rattle.std.proofs.Common.{ℕ, List, vec_items, sym, ◌∙◌}
use Rattle.std.proofs.lemmas.List.{length-map}
use Rattle.routing.specs.Kind.{Kind}
use Rattle.routing.specs.Orders.{Showable}
use Rattle.routing.specs.declared.Trunk.{Trunk}
use Rattle.running.specs.declared.Work.{Work}
use Rattle.running.specs.Table.{seen}
use Rattle.running.specs.Work.{Sound, run_of}

pub shown : {L : Type 0} (K : Kind L) (n : ℕ) (ts : List Trunk) (w : Work) (ls : List L) → Sound n ts w → Showable K n ts (run_of w ls)
shown K n ts w ls s = record {
  waits_once = s.once;
  waits_reached = s.reached;
  sized = length-map (vec_items w.table.entries) seen ∙ sym w.table.entries.ok.0 ∙ s.entries;
}
