-- The run by the rules, over any kind of length: begin, and pass by pass the turns of the exchanges that the order answers.
use Rattle.std.specs.Prelude.{ℕ, zero, suc, ◌+◌, ◌%◌, ◌^◌, Bool, true, false, cond, not, ◌&&◌, ◌||◌, List, [], ◌∷◌, ◌++◌, get_or, replicate, Some, None, Option, ◌==◌, slice_index_or, slice_set}
use Rattle.routing.specs.Lists.{has}
use Rattle.routing.specs.Kind.{Kind}
pub use Rattle.routing.specs.declared.Trunk.{Trunk}
pub use Rattle.routing.specs.declared.Verdict.{Verdict}
-- `looped v t`: t leaves v, improves, and leads to v or to an exchange met on the way back from v
pub use Rattle.routing.specs.declared.Verdict.TheVariants.{Working as working, Settled as settled, Looped as looped}

-- what a run knows of an exchange, but for its label: whether it is reached, and the trunk that it was last reached by
pub record Entry : Type 0 where
  pub reached : Bool
  pub arriving : Option ℕ

-- `lengths` has the label of each exchange, then the length of each trunk; `waiting` the exchanges from which a trunk may improve
pub record Run (L : Type 0) : Type 0 where
  pub lengths : List L
  pub entries : List Entry
  pub waiting : List ℕ
  pub passes : ℕ
  pub scans : ℕ
  pub verdict : Verdict

-- the trunk that is read past the end of a table
abbrev pub no_trunk : Trunk
no_trunk = record { from = 0; to = 0; barred = false }

-- the entry of an exchange that is not reached
abbrev pub unreached : Entry
unreached = record { reached = false; arriving = None }

-- the trunk of number t
abbrev pub trunk : List Trunk → ℕ → Trunk
trunk ts t = slice_index_or ts t no_trunk

-- the open trunks that leave v, lowest number first; the first of ts has number k
abbrev pub leaving_from : ℕ → List Trunk → ℕ → List ℕ
leaving_from k [] v = []
leaving_from k (t ∷ ts) v =
    let rest : List ℕ = leaving_from (suc k) ts v in
    cond (t.from == v && not t.barred) (k ∷ rest) rest

-- the open trunks that leave v, lowest number first
abbrev pub leaving : List Trunk → ℕ → List ℕ
leaving ts v = leaving_from 0 ts v

-- v and the exchanges met on the way back from it along arriving trunks, at most k of these
abbrev pub back : ℕ → List Trunk → List Entry → ℕ → List ℕ
back zero ts es v = v ∷ []
back (suc k) ts es v =
    v ∷ (elim (get_or es v unreached).arriving [ None ↦ [] | Some t ↦ back k ts es (trunk ts t).from ])

-- a loop was found
abbrev pub is_loop : Verdict → Bool
is_loop working = false
is_loop settled = false
is_loop (looped v t) = true

-- the list is empty
abbrev pub none_left : List ℕ → Bool
none_left [] = true
none_left (x ∷ xs) = false

-- one more, in 64 bits
abbrev pub counted : ℕ → ℕ
counted k = (k + 1) % 2 ^ 64

-- over n exchanges and the trunks ts
module _ {L : Type 0} (K : Kind L) (n : ℕ) (ts : List Trunk) where
  -- the label of v
  abbrev pub label : Run L → ℕ → L
  label r v = slice_index_or r.lengths v K.none

  -- the label of v plus the length of t
  abbrev pub sum_by : Run L → ℕ → ℕ → L
  sum_by r v t = K.add (label r v) (slice_index_or r.lengths (n + t) K.none)

  -- v is reached
  abbrev pub is_reached : Run L → ℕ → Bool
  is_reached r v = (get_or r.entries v unreached).reached

  -- t from v leads to an exchange that is not reached, or whose label is above the label of v plus t
  abbrev pub improving : Run L → ℕ → ℕ → Bool
  improving r v t =
      let w : ℕ = (trunk ts t).to in
      not (is_reached r w) || not (K.not_above (K.value (label r w)) (K.value (sum_by r v t)))

  -- where t leads, w, has a new label and arriving trunk; it joins the waiting list unless it is there or its turn is to come
  abbrev pub moved : List ℕ → ℕ → ℕ → Run L → Run L
  moved later v t r =
      let w : ℕ = (trunk ts t).to in
      record {
        lengths = slice_set r.lengths w (sum_by r v t);
        entries = slice_set r.entries w (record { reached = true; arriving = Some t });
        waiting = cond (has w r.waiting || has w later) r.waiting (r.waiting ++ (w ∷ []));
        passes = r.passes;
        scans = r.scans;
        verdict = r.verdict;
      }

  -- the run with another verdict
  abbrev pub ended : Verdict → Run L → Run L
  ended e r = record { lengths = r.lengths; entries = r.entries; waiting = r.waiting; passes = r.passes; scans = r.scans; verdict = e }

  -- one trunk: if it improves, it closes a loop or moves
  abbrev pub tried : List ℕ → ℕ → ℕ → Run L → Run L
  tried later v t r =
      cond (improving r v t)
      (cond (has (trunk ts t).to (back n ts r.entries v)) (ended (looped v t) r) (moved later v t r))
      r

  -- each of these trunks, until a loop is found
  abbrev pub tried_all : List ℕ → ℕ → List ℕ → Run L → Run L
  tried_all later v [] r = r
  tried_all later v (t ∷ more) r = cond (is_loop r.verdict) r (tried_all later v more (tried later v t r))

  -- the turn of v: its open trunks, lowest number first; those of `later` have their turn after it
  abbrev pub scanned : List ℕ → ℕ → Run L → Run L
  scanned later v r =
      tried_all later v (leaving ts v)
      (record { lengths = r.lengths; entries = r.entries; waiting = r.waiting; passes = r.passes; scans = counted r.scans; verdict = r.verdict })

  -- each exchange of the answered list has its turn, until a loop is found
  abbrev pub turns : List ℕ → Run L → Run L
  turns [] r = r
  turns (v ∷ later) r = cond (is_loop r.verdict) r (turns later (scanned later v r))

  -- the end of a pass: with no loop found, the run is settled if none waits
  abbrev pub concluded : Run L → Run L
  concluded r = cond (is_loop r.verdict) r (ended (cond (none_left r.waiting) settled working) r)

  -- one pass over the answered list
  abbrev pub passed : List ℕ → Run L → Run L
  passed answered r =
      concluded (turns answered
      (record { lengths = r.lengths; entries = r.entries; waiting = []; passes = counted r.passes; scans = r.scans; verdict = r.verdict }))

  -- only home is reached, at no length, and waits
  abbrev pub begun : ℕ → List L → Run L
  begun home ls =
      record {
        lengths = slice_set ls home K.none;
        entries = slice_set (replicate n unreached) home (record { reached = true; arriving = None });
        waiting = home ∷ [];
        passes = 0;
        scans = 0;
        verdict = working;
      }
