-- What is read into the lent lists when all calls were made.
use Rattle.std.specs.Prelude.{◌≡◌, ℕ, ◌<◌, ◌≤◌, List, ◌++◌, length, drop, Some, None, Option, ◌≢◌, slice_index_or}
use Rattle.routing.specs.Kind.{Kind}
use Rattle.routing.specs.History.{State}
use Rattle.routing.specs.Readings.{told, denied, charge, arrival, loop}
use Rattle.replay.specs.declared.Line.{Line}
use Rattle.replay.specs.declared.Read.{Read}
use Rattle.replay.specs.declared.Read.TheVariants.{Sheet, Loop}

-- a line that says nothing; what a list has past its end
abbrev pub blank : {L : Type 0} → Line L
blank = record { charge = None; arrival = None }

-- of the first n lines each has what the readings there told, if they were allowed; the others are as they were
pub record Filled {L : Type 0} (K : Kind L) (n : ℕ) (s : State L) (before after : List (Line L)) : Type 0 where
  pub long : length after ≡ length before
  pub charges : (x : ℕ) (o : Option L) → x < n → charge K s x ≡ told o → (slice_index_or after x blank).charge ≡ o
  pub arrivals : (x : ℕ) (o : Option ℕ) → x < n → arrival s x ≡ told o → (slice_index_or after x blank).arrival ≡ o
  pub kept : (x : ℕ) → n ≤ x → slice_index_or after x blank ≡ slice_index_or before x blank

-- a loop, or else (15, the run is settled) each charge and arrival, or else nothing is read of s
pub data ReadsOut {L : Type 0} (K : Kind L) (n : ℕ) (s : State L) (read : Option Read) (lines lines' : List (Line L)) (looped looped' : List ℕ) : Type 0 where
  a_loop : {cs : List ℕ} → loop s (length looped) ≡ told cs → read ≡ Some (Loop (length cs)) → looped' ≡ cs ++ drop (length cs) looped → lines' ≡ lines → ReadsOut K n s read lines lines' looped looped'
  a_sheet : loop s (length looped) ≡ denied 15 → read ≡ Some Sheet → looped' ≡ looped → Filled K n s lines lines' → ReadsOut K n s read lines lines' looped looped'
  nothing : {k : ℕ} → loop s (length looped) ≡ denied k → (k ≢ 15) → read ≡ None → looped' ≡ looped → lines' ≡ lines → ReadsOut K n s read lines lines' looped looped'
