-- The lines that are read off the book of a home are those of its block, and the block is right.
use Rattle.std.proofs.Common.{◌≡◌, ℕ, zero, suc, ◌<◌, ◌≤◌, true, false, List, ◌++◌, codes, Option, sym, refl, ap, ◌∙◌, subst, arith}
use Rattle.routing.specs.declared.Trunk.{Trunk}
use Rattle.routing.specs.declared.Verdict.{Verdict}
use Rattle.routing.specs.Kind.{Kind}
use Rattle.routing.specs.Walks.{Tariff}
use Rattle.routing.specs.Rules.{Run, is_loop}
use Rattle.routing.specs.Orders.{topological}
use Rattle.routing.specs.History.{History, State, Phase, standing, tariff_of, after, Accepted}
use Rattle.routing.specs.Readings.{told, charge, arrival, charge_of, loop_of}
use Rattle.routing.specs.Readings as readings
use Rattle.routing.specs.Calls.{Said, shown, said, says_settled, says_loop}
use Rattle.routing.specs.Promise.{Right, RightAt}
use Rattle.routing.proofs.Histories.{same_book}
use Rattle.book.specs.declared.outcome.Ending.{Ending}
use Rattle.book.specs.declared.outcome.Ending.TheVariants.{Settled, Loop}
use Rattle.book.specs.Answers.{shows_end}
use Rattle.replay.proofs.Promised.{arrival_told, charge_told, loop_told, standing_fits}
use Rattle.whole_run.specs.Whole.{Carried}
use Rattle.printing.specs.Lines.{first_line, exchange_line, exchange_lines, after_tenth, trunk_line}
use Rattle.blocks.specs.Blocks.{Block, BlockRight, block_lines, by_verdict}
use Rattle.blocks.specs.Homes.{Topologically, after_home, block_of, run_from}
use Rattle.blocks.specs.Listing.{block_read, or_none, or_nothing}

-- lines of the same values are the same
same_lines : {L : Type 0} (printed : L → List ℕ) (c c' : ℕ → Option L) (a a' : ℕ → Option ℕ) (n : ℕ) → ((x : ℕ) → x < n → c x ≡ c' x) → ((x : ℕ) → x < n → a x ≡ a' x)
    → exchange_lines printed c a n ≡ exchange_lines printed c' a' n
same_lines printed c c' a a' zero ec ea = refl
same_lines printed c c' a a' (suc x) ec ea =
    ap (λ ls. ls ++ (exchange_line printed x (c x) (a x) ++ after_tenth x)) (same_lines printed c c' a a' x (λ y low. ec y (omega arith)) (λ y low. ea y (omega arith)))
    ∙ ap (λ l. exchange_lines printed c' a' x ++ (exchange_line printed x l (a x) ++ after_tenth x)) (ec x (omega arith))
    ∙ ap (λ t. exchange_lines printed c' a' x ++ (exchange_line printed x (c' x) t ++ after_tenth x)) (ea x (omega arith))

-- the two ways that a run is said to have ended
ended_settled : (v : Verdict) (a b : List ℕ) → says_settled ≡ said v → by_verdict v a b ≡ a
ended_settled Verdict.Working a b e = let z : ◌≡◌ {A = ℕ} 0 1 = cc in absurd (omega arith)
ended_settled Verdict.Settled a b e = refl
ended_settled (Verdict.Looped x t) a b e = let z : ◌≡◌ {A = ℕ} 0 1 = cc in absurd (omega arith)

ended_loop : (v : Verdict) (a b : List ℕ) → says_loop ≡ said v → by_verdict v a b ≡ b
ended_loop Verdict.Working a b e = let z : ◌≡◌ {A = ℕ} 0 1 = cc in absurd (omega arith)
ended_loop Verdict.Settled a b e = let z : ◌≡◌ {A = ℕ} 0 1 = cc in absurd (omega arith)
ended_loop (Verdict.Looped x t) a b e = refl

calm_said : (v : Verdict) → says_settled ≡ said v → is_loop v ≡ false
calm_said Verdict.Working e = refl
calm_said Verdict.Settled e = refl
calm_said (Verdict.Looped x t) e = let z : ◌≡◌ {A = ℕ} 0 1 = cc in absurd (omega arith)

loop_said : (v : Verdict) → says_loop ≡ said v → is_loop v ≡ true
loop_said Verdict.Working e = let z : ◌≡◌ {A = ℕ} 0 1 = cc in absurd (omega arith)
loop_said Verdict.Settled e = let z : ◌≡◌ {A = ℕ} 0 1 = cc in absurd (omega arith)
loop_said (Verdict.Looped x t) e = refl

-- what is shown is the same part by part
same_shown : (x y : Said) (p q p' q' : ℕ) → shown x p q ≡ shown y p' q' → (x ≡ y) × (p ≡ p') × (q ≡ q')
same_shown x y p q p' q' e = (cc, cc, cc)

module _ {L : Type 0} (K : Kind L) (printed : L → List ℕ) (number n : ℕ) (first : List L) (h : History L) (ok : Accepted K number n first (Topologically K n) h) where
  abbrev rule : ℕ → List Trunk → Run L → List ℕ → Type 0
  rule m ts r a = a ≡ topological K m ts r

  abbrev book : State L
  book = after K number n first h

  module _ (home : ℕ) (r : Run L) (stands : book.phase ≡ standing home r) (T : Tariff L) where
    abbrev block : Block L
    block = block_of K n book.trunks home r T

    size : book.size ≡ n
    size = (same_book K n number first h).1

    read_block : (e : Ending) → shows_end e ≡ shown (said r.verdict) r.passes r.scans → block_read K printed book n home e ≡ block_lines printed n block
    read_block (Settled p q) is =
        let s = same_shown says_settled (said r.verdict) p q r.passes r.scans is in
        let calm : is_loop r.verdict ≡ false = calm_said r.verdict s.0 in
        let lines : exchange_lines printed (λ x. or_none (charge K book x)) (λ x. or_none (arrival book x)) n ≡ exchange_lines printed block.charge block.arrival n =
        same_lines printed (λ x. or_none (charge K book x)) block.charge (λ x. or_none (arrival book x)) block.arrival n
        (λ x low. ap or_none (charge_told K number n first rule h ok home r stands calm x low) ∙ ap (λ (m : ℕ). charge_of K m book.trunks r x) size)
        (λ x low. ap or_none (arrival_told K number n first rule h ok home r stands calm x low)) in
        ap (λ (a : ℕ). first_line home (codes "settled") a q ++ exchange_lines printed (λ x. or_none (charge K book x)) (λ x. or_none (arrival book x)) n) s.1
        ∙ ap (λ (a : ℕ). first_line home (codes "settled") r.passes a ++ exchange_lines printed (λ x. or_none (charge K book x)) (λ x. or_none (arrival book x)) n) s.2
        ∙ ap (λ ls. first_line home (codes "settled") r.passes r.scans ++ ls) lines
        ∙ sym (ended_settled r.verdict _ (first_line home (codes "loop") r.passes r.scans ++ trunk_line block.loop) s.0)
    read_block (Loop p q) is =
        let s = same_shown says_loop (said r.verdict) p q r.passes r.scans is in
        let few : book.size ≤ 256 = (standing_fits K number n first rule h ok home r stands).1 in
        let read : readings.loop book 256 ≡ told (loop_of book.size book.trunks r) = loop_told K number n first rule h ok home r stands 256 (loop_said r.verdict s.0) (omega (arith, size)) in
        let line : trunk_line (or_nothing (readings.loop book 256)) ≡ trunk_line block.loop = ap (λ x. trunk_line (or_nothing x)) read ∙ ap (λ (m : ℕ). trunk_line (loop_of m book.trunks r)) size in
        ap (λ (a : ℕ). first_line home (codes "loop") a q ++ trunk_line (or_nothing (readings.loop book 256))) s.1
        ∙ ap (λ (a : ℕ). first_line home (codes "loop") r.passes a ++ trunk_line (or_nothing (readings.loop book 256))) s.2
        ∙ ap (λ ls. first_line home (codes "loop") r.passes r.scans ++ ls) line
        ∙ sym (ended_loop r.verdict (first_line home (codes "settled") r.passes r.scans ++ exchange_lines printed block.charge block.arrival n) _ s.0)

    right_block : Right K n h book → T ≡ tariff_of h → BlockRight K n block
    right_block right same =
        let stood = (subst (λ (p : Phase L). RightAt K n h book.trunks p) stands right).1 in
        subst (λ (U : Tariff L). BlockRight K n (block_of K n book.trunks home r U)) (sym same)
        (record { over = stood.over; cheapest = stood.cheapest; unbounded = stood.unbounded; named = stood.named })

-- the block of a home in the book s, which the accepted calls h' made after it
module _ {L : Type 0} (K : Kind L) (printed : L → List ℕ) (number n : ℕ) (first : List L) (h : History L) (s s' : State L) (home : ℕ) (to : Carried K number n first (Topologically K n) h s') (stood : s' ≡ after_home K home s) where
  abbrev r : Run L
  r = run_from K home s

  stands : (after K number n first to.history).phase ≡ standing home r
  stands = ap (λ (p : State L). p.phase) (sym to.made ∙ stood)

  trunks : (after K number n first to.history).trunks ≡ s.trunks
  trunks = ap (λ (p : State L). p.trunks) (sym to.made ∙ stood)

  pub home_lines : (e : Ending) → shows_end e ≡ shown (said r.verdict) r.passes r.scans → block_read K printed s' n home e ≡ block_lines printed n (block_of K n s.trunks home r (tariff_of h))
  home_lines e is =
      ap (λ (p : State L). block_read K printed p n home e) to.made
      ∙ read_block K printed number n first to.history to.accepted home r stands (tariff_of h) e is
      ∙ ap (λ (ts : List Trunk). block_lines printed n (block_of K n ts home r (tariff_of h))) trunks

  pub home_right : BlockRight K n (block_of K n s.trunks home r (tariff_of h))
  home_right =
      subst (λ (ts : List Trunk). BlockRight K n (block_of K n ts home r (tariff_of h))) trunks
      (right_block K printed number n first to.history to.accepted home r stands (tariff_of h) (subst (Right K n to.history) to.made to.right) (sym to.same_tariff))
