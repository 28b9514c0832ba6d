-- A turn, trunk by trunk.
use Rattle.std.proofs.Common.{◌≡◌, ℕ, true, false, List, [], ◌∷◌, sym, refl, ap, ◌∙◌}
use Rattle.std.proofs.lemmas.Bool.{cond-true, cond-false}
use Rattle.routing.specs.declared.Trunk.{Trunk}
use Rattle.routing.specs.Kind.{Kind}
use Rattle.routing.specs.Rules.{Run, is_loop, leaving, tried, tried_all}
use Rattle.running.specs.declared.Work.{Work}
use Rattle.running.specs.Work.{Sound, Marked, SameRoom, run_of}
use Rattle.running.proofs.Rooms.{same_room, room_then}

module _ {L : Type 0} (K : Kind L) (n : ℕ) (ts : List Trunk) (v : ℕ) where
  -- once a loop is found, the rest is not tried
  all_over : (later us : List ℕ) (r : Run L) → is_loop r.verdict ≡ true → tried_all K n ts later v us r ≡ r
  all_over later [] r e = refl
  all_over later (u ∷ us) r e = cond-true (is_loop r.verdict) r _ e

  -- from w₀ the trunks were tried but those of `left`, and it came to w
  pub record Going (w₀ : Work) (ls₀ : List L) (left : List ℕ) (w : Work) (ls : List L) : Type 0 where
    pub sound : Sound n ts w
    pub room : SameRoom w₀ w
    pub run : (later : List ℕ) → Marked n w₀ later
        → Marked n w later × (tried_all K n ts later v (leaving ts v) (run_of w₀ ls₀) ≡ tried_all K n ts later v left (run_of w ls))

  pub going_start : (w : Work) (ls : List L) → Sound n ts w → Going w ls (leaving ts v) w ls
  going_start w ls s = record { sound = s; room = same_room w; run = λ later h. (h, refl) }

  module _ (w₀ : Work) (ls₀ : List L) (left : List ℕ) (w : Work) (ls : List L) (before : Going w₀ ls₀ left w ls) where
    -- t is the first of what is left
    pub going_on : (t : ℕ) (more : List ℕ) → left ≡ t ∷ more → (w' : Work) (ls' : List L) → is_loop w.verdict ≡ false
        → Sound n ts w' → SameRoom w w'
        → ((later : List ℕ) → Marked n w later → Marked n w' later × (run_of w' ls' ≡ tried K n ts later v t (run_of w ls)))
        → Going w₀ ls₀ more w' ls'
    going_on t more split w' ls' goes s room does = record {
      sound = s;
      room = room_then w₀ w w' before.room room;
      run = λ later h.
          let (m, e) = before.run later h in
          let (m', e') = does later m in (
            m',
            e ∙ ap (λ us. tried_all K n ts later v us (run_of w ls)) split
                ∙ cond-false (is_loop w.verdict) (run_of w ls) _ goes
                ∙ ap (λ r. tried_all K n ts later v more r) (sym e'),
          );
    }

    abbrev Done : Type 0
    Done = (later : List ℕ) → Marked n w₀ later → Marked n w later × (run_of w ls ≡ tried_all K n ts later v (leaving ts v) (run_of w₀ ls₀))

    pub going_over : is_loop w.verdict ≡ true → Done
    going_over over later h = let (m, e) = before.run later h in (m, sym (e ∙ all_over later left (run_of w ls) over))
