use Rattle.std.proofs.Common.{◌≡◌, vec_len, vec_capacity}
use Rattle.running.proofs.beginning.resize.Given as goal

abbrev pub invariant-loop : goal.invariant-loop
invariant-loop l = (vec_len l.items ≡ l.counter) × (vec_capacity l.items ≡ vec_capacity l.initial.items)
