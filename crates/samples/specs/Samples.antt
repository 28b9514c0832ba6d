-- Worked examples, each computed from the rules.
use Rattle.std.specs.Prelude.{◌≡◌, ℕ, List, [], ◌∷◌, ℤ, pos, negsuc, neg_ℤ, Some, None}
use Rattle.routing.specs.Orders.{queue, topological}
use Rattle.routing.specs.History.{State}
use Rattle.routing.specs.Calls.{Call, lay, shown, says_settled, says_loop, refusal}
use Rattle.routing.specs.Readings.{told, arrival, route}
use Rattle.routing.specs.Readings as readings
use Rattle.lengths.specs.declared.charge.Charge.{Charge}
use Rattle.lengths.specs.declared.charge_delay.ChargeDelay.{ChargeDelay}
use Rattle.lengths.specs.Charge.{charge}
use Rattle.lengths.specs.ChargeDelay.{charge_delay}
use Rattle.samples.specs.Playing.{played, run_of, stands}

-- a charge of so many mills
abbrev pub mills : ℤ → Charge
mills z = record { mills = z }

-- mills and milliseconds
abbrev pub both : ℤ → ℕ → ChargeDelay
both z d = record { mills = z; delay = d }

-- the trunks of the book P, the last at a length that is given
abbrev pub P : ℤ → List (Call Charge)
P last = lay 0 2 (mills (pos 7)) ∷ (lay 0 1 (mills (pos 4)) ∷ (lay 1 2 (mills (negsuc 1)) ∷ (lay 2 3 (mills (pos 3)) ∷ (lay 3 1 (mills last) ∷ []))))

-- a book of charges with a finished run from 0
abbrev pub by_topological : ℕ → List (Call Charge) → State Charge
by_topological n lays = played charge (topological charge) n 8 (run_of n 0 lays)

abbrev pub by_queue : ℕ → List (Call Charge) → State Charge
by_queue n lays = played charge (queue charge) n 8 (run_of n 0 lays)

-- the same of charges with delay
abbrev pub delays_by_topological : ℕ → List (Call ChargeDelay) → State ChargeDelay
delays_by_topological n lays = played charge_delay (topological charge_delay) n 8 (run_of n 0 lays)

-- its charges at 0 to 3
pub record Charges (s : State Charge) (a b c d : ℤ) : Type 0 where
  pub at_0 : readings.charge charge s 0 ≡ told (Some (mills a))
  pub at_1 : readings.charge charge s 1 ≡ told (Some (mills b))
  pub at_2 : readings.charge charge s 2 ≡ told (Some (mills c))
  pub at_3 : readings.charge charge s 3 ≡ told (Some (mills d))

-- a trunk from 0 to 0
abbrev pub round : ℤ → List (Call Charge)
round z = lay 0 0 (mills z) ∷ []

-- a loop below zero that home does not reach
abbrev pub apart : List (Call Charge)
apart = lay 1 2 (mills (negsuc 4)) ∷ (lay 2 1 (mills (negsuc 4)) ∷ [])

-- two ways of one charge, and other delays
abbrev pub two_ways : List (Call ChargeDelay)
two_ways = lay 0 1 (both (pos 1) 10) ∷ (lay 1 2 (both (pos 1) 10) ∷ (lay 0 2 (both (pos 2) 30) ∷ []))

-- a book with nothing laid
abbrev pub bare : State Charge
bare = played charge (topological charge) 2 8 []

abbrev pub bare_delays : State ChargeDelay
bare_delays = played charge_delay (topological charge_delay) 2 8 []

pub record Samples : Type 0 where
  -- P in the topological order
  pub topological_ends : stands (by_topological 4 (P (pos 0))).phase ≡ shown says_settled 3 3
  pub topological_charges : Charges (by_topological 4 (P (pos 0))) (pos 0) (pos 4) (pos 2) (pos 5)
  pub topological_route : route charge (by_topological 4 (P (pos 0))) 3 3 ≡ told (1 ∷ (2 ∷ (3 ∷ [])))
  -- P in the queue order
  pub queue_ends : stands (by_queue 4 (P (pos 0))).phase ≡ shown says_settled 4 6
  pub queue_charges : Charges (by_queue 4 (P (pos 0))) (pos 0) (pos 4) (pos 2) (pos 5)
  -- P with its last trunk at -1: a loop of length zero, which is none
  pub zero_loop_settles : stands (by_topological 4 (P (negsuc 0))).phase ≡ shown says_settled 3 3
  -- P with its last trunk at -2
  pub loop_found : stands (by_topological 4 (P (negsuc 1))).phase ≡ shown says_loop 3 4
  pub loop_is : readings.loop (by_topological 4 (P (negsuc 1))) 4 ≡ told (2 ∷ (3 ∷ (4 ∷ [])))
  -- one exchange and no trunk
  pub alone_topological : stands (by_topological 1 []).phase ≡ shown says_settled 1 0
  pub alone_queue : stands (by_queue 1 []).phase ≡ shown says_settled 1 1
  -- one exchange with a trunk to itself
  pub round_at_zero : stands (by_topological 1 (round (pos 0))).phase ≡ shown says_settled 1 0
  pub round_below : stands (by_topological 1 (round (negsuc 0))).phase ≡ shown says_loop 1 1
  pub round_loop : readings.loop (by_topological 1 (round (negsuc 0))) 1 ≡ told (0 ∷ [])
  -- a loop below zero that home does not reach
  pub apart_settles : stands (by_topological 3 apart).phase ≡ shown says_settled 1 0
  pub apart_1 : readings.charge charge (by_topological 3 apart) 1 ≡ told None
  pub apart_2 : readings.charge charge (by_topological 3 apart) 2 ≡ told None
  -- charge with delay: the charge counts first, then the delay
  pub delays_end : stands (delays_by_topological 3 two_ways).phase ≡ shown says_settled 2 3
  pub delays_charge : readings.charge charge_delay (delays_by_topological 3 two_ways) 2 ≡ told (Some (both (pos 2) 20))
  pub delays_arrival : arrival (delays_by_topological 3 two_ways) 2 ≡ told (Some 1)
  -- the largest that may be laid, and one more
  pub charge_laid : refusal charge bare (lay 0 1 (mills (pos 1_000_000))) ≡ None
  pub charge_too_great : refusal charge bare (lay 0 1 (mills (pos 1_000_001))) ≡ Some 6
  pub credit_laid : refusal charge bare (lay 0 1 (mills (neg_ℤ (pos 1_000_000)))) ≡ None
  pub credit_too_great : refusal charge bare (lay 0 1 (mills (neg_ℤ (pos 1_000_001)))) ≡ Some 6
  pub delay_laid : refusal charge_delay bare_delays (lay 0 1 (both (pos 0) 1_000)) ≡ None
  pub delay_too_great : refusal charge_delay bare_delays (lay 0 1 (both (pos 0) 1_001)) ≡ Some 6
