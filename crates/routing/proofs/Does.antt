-- A call that does what the rules say carries on every history that made its book.
use Rattle.std.proofs.Common.{◌≡◌, ℕ, List, ◌∷◌, length, Some, None, sym, refl, ◌∙◌, subst}
use Rattle.routing.specs.Kind.{Kind}
use Rattle.routing.specs.Rules.{Trunk, Run}
use Rattle.routing.specs.Orders.{Meaning}
use Rattle.routing.specs.History.{Event, edit, step, History, count, State, after, Accepted}
use Rattle.routing.specs.Calls.{Call, lay, reprice, bar, unbar, begin, do_pass, finish, abandon, Answer, refused, refusal, Answers, Becomes}
use Rattle.routing.specs.Promise.{Right}
use Rattle.routing.specs.Does.{Does, CarriesOn, KeepsHistory, Serves, applied}
use Rattle.routing.proofs.Histories.{same_book}
use Rattle.routing.proofs.Playing.{accepted_more}
use Rattle.routing.proofs.Main.{promise, keeps}

module _ {L : Type 0} (K : Kind L) where
  -- another relation between what an order is shown and what it answers
  becomes_by : (R S : List Trunk → Run L → List ℕ → Type 0) → ((ts : List Trunk) (r : Run L) (a : List ℕ) → R ts r a → S ts r a)
      → (s : State L) (c : Call L) (e : Event L) → Becomes R s c e → Becomes S s c e
  becomes_by R S f s (lay a b l) e is = is
  becomes_by R S f s (reprice t l) e is = is
  becomes_by R S f s (bar t) e is = is
  becomes_by R S f s (unbar t) e is = is
  becomes_by R S f s (begin x) e is = is
  becomes_by R S f s (do_pass b) e is = (is.0, is.1, is.2, is.3, f s.trunks is.1 is.2 is.4, is.5)
  becomes_by R S f s (finish b) e is = is
  becomes_by R S f s (abandon b) e is = is

  module _ (number n : ℕ) (first : List L) where
    applied_after : (e : Event L) (h : History L) → applied K e (after K number n first h) ≡ after K number n first (e ∷ h)
    applied_after (edit e) h = refl
    applied_after (step e) h = refl

    carried : (R : List Trunk → Run L → List ℕ → Type 0) (h : History L) (c : Call L) (x : Answer) (s' : State L)
        → ((ts : List Trunk) (r : Run L) (a : List ℕ) → R ts r a → Meaning K (after K number n first h).size ts r a)
        → Accepted K number n first (Meaning K n) h → Does K R (after K number n first h) c x s' → CarriesOn K number n first h c x s'
    carried R h c x s' means ok (Does.refuses first_no answer same) = CarriesOn.refuses first_no answer same
    carried R h c x s' means ok (Does.accepts e none is becomes answer) =
        let size : (after K number n first h).size ≡ n = (same_book K n number first h).1 in
        let told : (ts : List Trunk) (r : Run L) (a : List ℕ) → R ts r a → Meaning K n ts r a = λ ts r a m. subst (λ (k : ℕ). Meaning K k ts r a) size (means ts r a m) in
        let by : Becomes (Meaning K n) (after K number n first h) c e = becomes_by R (Meaning K n) told (after K number n first h) c e is in
        let ok' : Accepted K number n first (Meaning K n) (e ∷ h) = accepted_more K (Meaning K n) number n first h c e none by ok in
        let many : length (after K number n first h).trunks ≡ count h = (keeps K number n first (Meaning K n) (λ ts r a _ m. m) h ok).many in
        let s_is : s' ≡ after K number n first (e ∷ h) = becomes ∙ applied_after e h in
        CarriesOn.accepts e none by (subst (λ (k : ℕ). Answers k c s' x) many answer) s_is ok'
        (subst (λ (s : State L). Right K n (e ∷ h) s) (sym s_is) (promise K number n first (Meaning K n) (λ ts r a _ m. m) (e ∷ h) ok'))

  pub keeps_history : (R : List Trunk → Run L → List ℕ → Type 0) (s : State L) (c : Call L) (x : Answer) (s' : State L)
      → ((ts : List Trunk) (r : Run L) (a : List ℕ) → R ts r a → Meaning K s.size ts r a)
      → Does K R s c x s' → KeepsHistory K s c x s'
  keeps_history R s c x s' means does number n first h ok made =
      carried number n first R h c x s'
      (subst (λ (q : State L). (ts : List Trunk) (r : Run L) (a : List ℕ) → R ts r a → Meaning K q.size ts r a) made means) ok
      (subst (λ (q : State L). Does K R q c x s') made does)

  -- what the order answered keeps the order's meaning
  module _ (R : List Trunk → Run L → List ℕ → Type 0) (s : State L) (means : (ts : List Trunk) (r : Run L) (a : List ℕ) → R ts r a → Meaning K s.size ts r a) (c : Call L) where
    serves : (x : Answer) (s' : State L) → Does K R s c x s' → Serves K R s c x s'
    serves x s' does = record { does = does; keeps = keeps_history R s c x s' means does }

    pub serves_refused : (k : ℕ) → Some k ≡ refusal K s c → Serves K R s c (refused k) s
    serves_refused k why = serves (refused k) s (Does.refuses (sym why) refl refl)

    pub serves_accepted : (x : Answer) (s' : State L) (e : Event L) → None ≡ refusal K s c → Becomes R s c e → s' ≡ applied K e s → Answers (length s.trunks) c s' x → Serves K R s c x s'
    serves_accepted x s' e none is becomes answer = serves x s' (Does.accepts e (sym none) is becomes answer)
