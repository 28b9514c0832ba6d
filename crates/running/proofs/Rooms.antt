-- The room of the lists stays, step after step.
use Rattle.std.proofs.Common.{refl, ◌∙◌}
use Rattle.running.specs.declared.Work.{Work}
use Rattle.running.specs.Work.{SameRoom}

pub same_room : (w : Work) → SameRoom w w
same_room w = (refl, refl)

pub room_then : (w₀ w₁ w₂ : Work) → SameRoom w₀ w₁ → SameRoom w₁ w₂ → SameRoom w₀ w₂
room_then w₀ w₁ w₂ a b = (b.0 ∙ a.0, b.1 ∙ a.1)
