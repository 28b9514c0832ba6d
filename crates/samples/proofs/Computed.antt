-- Each example computes.
use Rattle.std.proofs.Common.{refl}
use Rattle.std.specs.Int.{int_wrap}
use Rattle.samples.specs.Samples.{Samples}

pub samples : Samples
unfolding int_wrap
samples = record {
  topological_ends = refl;
  topological_charges = record { at_0 = refl; at_1 = refl; at_2 = refl; at_3 = refl };
  topological_route = refl;
  queue_ends = refl;
  queue_charges = record { at_0 = refl; at_1 = refl; at_2 = refl; at_3 = refl };
  zero_loop_settles = refl;
  loop_found = refl;
  loop_is = refl;
  alone_topological = refl;
  alone_queue = refl;
  round_at_zero = refl;
  round_below = refl;
  round_loop = refl;
  apart_settles = refl;
  apart_1 = refl;
  apart_2 = refl;
  delays_end = refl;
  delays_charge = refl;
  delays_arrival = refl;
  charge_laid = refl;
  charge_too_great = refl;
  credit_laid = refl;
  credit_too_great = refl;
  delay_laid = refl;
  delay_too_great = refl;
}
