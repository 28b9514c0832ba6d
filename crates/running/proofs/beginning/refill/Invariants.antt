use Rattle.std.proofs.Common.{◌≡◌, replicate, vec_items, vec_len, vec_capacity}
use Rattle.running.proofs.beginning.refill.Given as goal

abbrev pub invariant-loop : goal.invariant-loop
invariant-loop g l = (vec_items l.items ≡ replicate l.counter l.x) × (vec_len l.items ≡ l.counter) × (vec_capacity l.items ≡ vec_capacity l.initial.items)
