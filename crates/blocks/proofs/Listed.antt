-- What is read off a book.
use Rattle.std.proofs.Common.{◌≡◌, None, Ok, Err, Option, Result, refl, ap, ◌∙◌}
use Rattle.std.specs.Result.{result_unwrap_or}
use Rattle.routing.specs.Readings.{Reading}
use Rattle.book.specs.declared.refusal.Refusal.{Refusal}
use Rattle.book.specs.Answers.{reading_of}
use Rattle.blocks.specs.Listing.{or_none}

-- a reading of the code, and none where it is refused
valued : {A : Type 0} (r : Result (Option A) Refusal) → result_unwrap_or r None ≡ or_none (reading_of r)
valued (Ok a) = refl
valued (Err k) = refl

pub valued_as : {A : Type 0} (r : Result (Option A) Refusal) (reading : Reading (Option A)) → reading_of r ≡ reading → (v : Option A) → v ≡ result_unwrap_or r None → v ≡ or_none reading
valued_as r reading is v e = e ∙ valued r ∙ ap or_none is
