use Rattle.std.proofs.Common.{◌≡◌, ℕ, ◌%◌, ◌^◌, ◌<◌, get_or, take}
use Rattle.tape.specs.Fields.{number}
use Rattle.tape.proofs.fields.read_field.Given as goal

abbrev pub invariant-loop-byte : goal.invariant-loop-byte
invariant-loop-byte l = (l.value ≡ number (take l.byte-index l.bytes) % 2 ^ 64) × ((k : ℕ) → k < l.byte-index → get_or l.bytes k 0 < 256)
