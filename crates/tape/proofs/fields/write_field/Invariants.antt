use Rattle.std.proofs.Common.{◌≡◌, ◌++◌, length, drop}
use Rattle.tape.specs.Fields.{bytes_of}
use Rattle.tape.proofs.fields.write_field.Given as goal

-- what is left to write stands before what was written
abbrev pub invariant-loop-i : goal.invariant-loop-i
invariant-loop-i l = bytes_of l.i l.rest ++ drop l.i l.into ≡ bytes_of (length l.initial.into) l.value
