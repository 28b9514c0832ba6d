-- What a record does, from what the call of the book does.
use Rattle.std.proofs.Common.{◌≡◌, ℕ, suc, true, false, cond, eqb, List, [], ◌∷◌, Some, None, Ok, Err, Result, sym, refl, ap, ◌∙◌, subst}
use Rattle.routing.specs.declared.Trunk.{Trunk}
use Rattle.routing.specs.Kind.{Kind}
use Rattle.routing.specs.Walks.{Tariff}
use Rattle.routing.specs.Rules.{Run}
use Rattle.routing.specs.History.{Edit, laid, repriced, barred, unbarred, Event, edit, History, count, tariff_of, State, edited, after, Accepted}
use Rattle.routing.specs.Calls.{Call, Answer, done, numbered, refused, refusal, Becomes}
use Rattle.routing.specs.Calls as calls
use Rattle.routing.specs.Does.{Does, applied}
use Rattle.routing.specs.Promise.{Right}
use Rattle.routing.proofs.Main.{promise}
use Rattle.routing.proofs.Playing.{accepted_more}
use Rattle.book.specs.declared.outcome.Ending.{Ending}
use Rattle.book.specs.declared.refusal.Refusal.{Refusal}
use Rattle.book.specs.Answers.{answer_by}
use Rattle.book.specs.Refusal.{number_of}
use Rattle.replay.proofs.Makings.{never_done, never_numbered}
use Rattle.tape.specs.Format.{Item, lay, reprice, bar, home}
use Rattle.blocks.specs.Homes.{Topologically, RunsHome, HomesRight}
use Rattle.sheet.specs.Applying.{Applied, MadeBy, changed_of, ran_of}
use Rattle.sheet.specs.Told.{Form, blocks_of, call_of, noted, taken}

-- an edit makes the same of two histories of one tariff
same_after : {L : Type 0} (e : Edit L) (H h : History L) → tariff_of H ≡ tariff_of h → count H ≡ count h → (tariff_of (edit e ∷ H) ≡ tariff_of (edit e ∷ h)) × (count (edit e ∷ H) ≡ count (edit e ∷ h))
same_after {L} (laid a b l) H h same many =
    let after_lay : ℕ → Tariff L → Tariff L =
    λ c T. record { ends = λ t. cond (eqb t c) (Some (a, b)) (T.ends t); opened = λ t. cond (eqb t c) true (T.opened t); price = λ t. cond (eqb t c) (Some l) (T.price t) } in
    (ap (λ (c : ℕ). after_lay c (tariff_of H)) many ∙ ap (after_lay (count h)) same, ap suc many)
same_after {L} (repriced u l) H h same many =
    (ap (λ (T : Tariff L). record { ends = T.ends; opened = T.opened; price = λ t. cond (eqb t u) (Some l) (T.price t) }) same, many)
same_after {L} (barred u) H h same many =
    (ap (λ (T : Tariff L). record { ends = T.ends; opened = λ t. cond (eqb t u) false (T.opened t); price = T.price }) same, many)
same_after {L} (unbarred u) H h same many =
    (ap (λ (T : Tariff L). record { ends = T.ends; opened = λ t. cond (eqb t u) true (T.opened t); price = T.price }) same, many)

module _ {L : Type 0} (F : Form L) (number n : ℕ) (first : List L) where
  abbrev K : Kind L
  K = F.kind

  -- an accepted edit carries on
  edit_on : (R : List Trunk → Run L → List ℕ → Type 0) (h : History L) (s : State L) → MadeBy F number n first h s → (c : Call L) (e : Edit L) → refusal K s c ≡ None
      → ((S : List Trunk → Run L → List ℕ → Type 0) (q : State L) → Becomes S q c (edit e)) → (s' : State L) → s' ≡ edited e s → MadeBy F number n first (edit e ∷ h) s'
  edit_on R h s to c e none is s' becomes =
      let H = to.history in
      let S = Topologically K n in
      let none' : refusal K (after K number n first H) c ≡ None = subst (λ (q : State L). refusal K q c ≡ None) to.made none in
      let ok : Accepted K number n first S (edit e ∷ H) = accepted_more K S number n first H c (edit e) none' (is S (after K number n first H)) to.accepted in
      let made : s' ≡ after K number n first (edit e ∷ H) = becomes ∙ ap (edited e) to.made in
      let same = same_after e H h to.same_tariff to.same_count in
      record {
        history = edit e ∷ H;
        accepted = ok;
        made = made;
        same_tariff = same.0;
        same_count = same.1;
        right = subst (Right K n (edit e ∷ H)) (sym made) (promise K number n first S (λ ts r a _ m. m.means) (edit e ∷ H) ok);
      }

  -- a record whose call changes the tariff
  module _ (h : History L) (s : State L) (to : MadeBy F number n first h s) (item : Item) (c : Call L) (e : Edit L) (makes : call_of F item ≡ c) (takes : taken F item s ≡ edited e s) (notes : noted F item h ≡ edit e ∷ h) (lists : blocks_of F item s h ≡ []) where
    pub changed_so : {A : Type 0} (R : List Trunk → Run L → List ℕ → Type 0) (f : A → Answer) → ((a : A) (k : ℕ) → f a ≡ refused k → ⊥) → ((k : ℕ) (s' : State L) (m : ℕ) → calls.Answers m c s' (refused k) → ⊥)
        → ((S : List Trunk → Run L → List ℕ → Type 0) (q : State L) (x : Event L) → Becomes S q c x → x ≡ edit e) → ((S : List Trunk → Run L → List ℕ → Type 0) (q : State L) → Becomes S q c (edit e))
        → (r : Result A Refusal) (s' : State L) → Does K R s c (answer_by f r) s' → Applied F number n first h s item (changed_of r) s'
    changed_so R f never shut only is (Ok a) s' (Does.refuses {k = k} why answer same) = absurd (never a k answer)
    changed_so R f never shut only is (Ok a) s' (Does.accepts x none by becomes answer) =
        let made : s' ≡ edited e s = becomes ∙ ap (λ (y : Event L). applied K y s) (only R s x by) in
        Applied.changes (subst (λ (d : Call L). refusal K s d ≡ None) (sym makes) none) refl (made ∙ sym takes) lists
        (subst (λ (g : History L). MadeBy F number n first g s') (sym notes) (edit_on R h s to c e none is s' made))
    changed_so R f never shut only is (Err j) s' (Does.refuses {k = k} why answer same) =
        Applied.refuses (subst (λ (d : Call L). refusal K s d ≡ Some (number_of j)) (sym makes) (why ∙ ap (λ (i : ℕ). Some i) (sym (same_number answer)))) refl same
      where
        same_number : refused (number_of j) ≡ refused k → number_of j ≡ k
        same_number e = cc
    changed_so R f never shut only is (Err j) s' (Does.accepts x none by becomes answer) = absurd (shut (number_of j) s' _ answer)

  -- the four changes
  module _ {R : List Trunk → Run L → List ℕ → Type 0} {h : History L} {s : State L} (to : MadeBy F number n first h s) {s' : State L} where
    pub lay_so : (a b : ℕ) (l : List ℕ) (r : Result ℕ Refusal) → Does K R s (calls.lay a b (F.meant l)) (answer_by (λ t. numbered t) r) s' → Applied F number n first h s (lay a b l) (changed_of r) s'
    lay_so a b l r d =
        changed_so h s to (lay a b l) (calls.lay a b (F.meant l)) (laid a b (F.meant l)) refl refl refl refl R (λ t. numbered t) (λ t k e. never_numbered t k e) (λ k q m e. never_numbered m k (sym e)) (λ S q x is. is) (λ S q. refl) r s' d

    -- the three that answer nothing but that they are done
    done_so : (item : Item) (c : Call L) (e : Edit L) → call_of F item ≡ c → taken F item s ≡ edited e s → noted F item h ≡ edit e ∷ h → blocks_of F item s h ≡ [] → ((k : ℕ) (q : State L) (m : ℕ) → calls.Answers m c q (refused k) → ⊥)
        → ((S : List Trunk → Run L → List ℕ → Type 0) (q : State L) (x : Event L) → Becomes S q c x → x ≡ edit e) → ((S : List Trunk → Run L → List ℕ → Type 0) (q : State L) → Becomes S q c (edit e))
        → (r : Result (Unit {0}) Refusal) → Does K R s c (answer_by (λ _. done) r) s' → Applied F number n first h s item (changed_of r) s'
    done_so item c e makes takes notes lists shut only is r d = changed_so h s to item c e makes takes notes lists R (λ _. done) (λ _ k e. never_done k e) shut only is r s' d

    pub reprice_so : (t : ℕ) (l : List ℕ) (r : Result (Unit {0}) Refusal) → Does K R s (calls.reprice t (F.meant l)) (answer_by (λ _. done) r) s' → Applied F number n first h s (reprice t l) (changed_of r) s'
    reprice_so t l r d = done_so (reprice t l) (calls.reprice t (F.meant l)) (repriced t (F.meant l)) refl refl refl refl (λ k q m e. never_done k (sym e)) (λ S q x is. is) (λ S q. refl) r d

    pub bar_so : (t : ℕ) (r : Result (Unit {0}) Refusal) → Does K R s (calls.bar t) (answer_by (λ _. done) r) s' → Applied F number n first h s (bar t 0) (changed_of r) s'
    bar_so t r d = done_so (bar t 0) (calls.bar t) (barred t) refl refl refl refl (λ k q m e. never_done k (sym e)) (λ S q x is. is) (λ S q. refl) r d

    pub unbar_so : (t : ℕ) (r : Result (Unit {0}) Refusal) → Does K R s (calls.unbar t) (answer_by (λ _. done) r) s' → Applied F number n first h s (bar t 1) (changed_of r) s'
    unbar_so t r d = done_so (bar t 1) (calls.unbar t) (unbarred t) refl refl refl refl (λ k q m e. never_done k (sym e)) (λ S q x is. is) (λ S q. refl) r d

  -- a home
  pub home_so : {h : History L} {s : State L} → MadeBy F number n first h s → (x : ℕ) (r : Result Ending Refusal) {s' : State L} → HomesRight K s x r s' → Applied F number n first h s (home x) (ran_of x r) s'
  home_so {h} {s} to x r {s'} homes =
      let p = homes number n first to.history to.accepted to.made in
      go p.0 (record {
        history = p.1.history;
        accepted = p.1.accepted;
        made = p.1.made;
        same_tariff = p.1.same_tariff ∙ to.same_tariff;
        same_count = p.1.same_count ∙ to.same_count;
        right = p.1.right;
      })
    where
      go : RunsHome K s x r s' → MadeBy F number n first h s' → Applied F number n first h s (home x) (ran_of x r) s'
      go (RunsHome.refuses why is same) on = Applied.refuses why (ap (ran_of x) is) same
      go (RunsHome.stands none is stood told) on = Applied.runs refl none (ap (ran_of x) is) stood told on
