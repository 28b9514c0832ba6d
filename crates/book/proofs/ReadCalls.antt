-- What the readings promise, from the checks that they made and the entries that they read.
use Rattle.std.proofs.Common.{◌≡◌, ℕ, zero, suc, ◌+◌, ◌<◌, ◌≤◌, Bool, true, false, cond, not, ◌&&◌, ◌||◌, eqb, ltb, leb, List, [], ◌∷◌, ◌++◌, length, get_or, drop, set, Some, None, Ok, Err, vec_items, vec_len, Option, sym, refl, ap, ◌∙◌, subst, arith}
use Rattle.std.proofs.lemmas.List.{length_push, drop_more, append_assoc, set_at}
use Rattle.std.proofs.lemmas.Bool.{cond-true, cond-false, not_from_true, not_from_false, leb-false, lt-ltb, le-ltb, ltb-true, ltb-false, and_parts}
use Rattle.routing.specs.declared.Trunk.{Trunk}
use Rattle.routing.specs.declared.Verdict.{Verdict}
use Rattle.routing.specs.declared.Verdict.TheVariants.{Working, Settled, Looped}
use Rattle.routing.specs.Kind.{Kind}
use Rattle.routing.specs.Rules.{Run, trunk, is_loop, label, is_reached}
use Rattle.routing.specs.History.{State, standing}
use Rattle.routing.specs.Promise.{ReadsSo}
use Rattle.routing.specs.Refusals.{first_of}
use Rattle.routing.specs.Readings.{told, denied, unless, of_finished, asked, fine, settled_at, no_room, charge_of, arrival_of, route_of, between, loop_of, charge, arrival, route, loop}
use Rattle.routing.proofs.Readings.{Allowed, allows, read_on, denies, unless_free, unless_some, reads_rightly}
use Rattle.running.specs.declared.way.Way.{Way}
use Rattle.running.specs.declared.table.Table.{Table}
use Rattle.running.specs.Table.{seen_all}
use Rattle.running.specs.Trails.{trail}
use Rattle.running.specs.Work.{run_of, names_inside}
use Rattle.book.specs.declared.Phase.TheVariants.{Idle, Running, Standing}
use Rattle.book.specs.declared.Phase.{Phase as Stage}
use Rattle.book.specs.declared.Book.{Book}
use Rattle.book.specs.declared.refusal.Refusal.{Refusal}
use Rattle.book.specs.declared.refusal.Refusal.TheVariants.{Unreached, NoRoom}
use Rattle.book.specs.Held.{has_run}
use Rattle.book.specs.Refusal.{number_of}
use Rattle.book.specs.State.{phase_of, state_of}
use Rattle.book.specs.Written.{Wrote, WritesSo}

-- the trails of the code are those of the rules
module _ {L : Type 0} (ts : List Trunk) (r : Run L) where
  onward : (o : Option ℕ) (f g : ℕ → List ℕ) → ((x : ℕ) → f x ≡ g x)
      → ◌≡◌ {A = List ℕ} (elim o [ None ↦ [] | Some t ↦ f (trunk ts t).from ++ (t ∷ []) ]) (elim o [ None ↦ [] | Some t ↦ g (trunk ts t).from ++ (t ∷ []) ])
  onward None f g same = refl
  onward (Some t) f g same = ap (λ (us : List ℕ). us ++ (t ∷ [])) (same (trunk ts t).from)

  pub route_trail : (k x : ℕ) → trail k ts r.entries None x ≡ route_of k ts r x
  route_trail zero x = refl
  route_trail (suc k) x = onward (arrival_of r x) (trail k ts r.entries None) (route_of k ts r) (λ y. route_trail k y)

  pub loop_trail : (k w v : ℕ) → trail k ts r.entries (Some w) v ≡ between k ts r w v
  loop_trail zero w v = refl
  loop_trail (suc k) w v = ap (λ (us : List ℕ). cond (eqb v w) [] us) (onward (arrival_of r v) (trail k ts r.entries (Some w)) (between k ts r w) (λ y. loop_trail k w y))

-- more refusals behind some
first_more : (a b : Bool) (i j k : ℕ) (o : Option ℕ) → cond a (Some i) (cond b (Some j) None) ≡ Some k → cond a (Some i) (cond b (Some j) o) ≡ Some k
first_more true b i j k o e = e
first_more false true i j k o e = e
first_more false false i j k o e = let z : ◌≡◌ {A = ℕ} 0 1 = cc in absurd (omega arith)

first_one : (a : Bool) (i k : ℕ) (o : Option ℕ) → cond a (Some i) None ≡ Some k → cond a (Some i) o ≡ Some k
first_one true i k o e = e
first_one false i k o e = let z : ◌≡◌ {A = ℕ} 0 1 = cc in absurd (omega arith)

first_none : (a b : Bool) (i j : ℕ) → cond a (Some i) (cond b (Some j) None) ≡ None → (a ≡ false) × (b ≡ false)
first_none true b i j e = let z : ◌≡◌ {A = ℕ} 0 1 = cc in absurd (omega arith)
first_none false true i j e = let z : ◌≡◌ {A = ℕ} 0 1 = cc in absurd (omega arith)
first_none false false i j e = (refl, refl)

module _ {L : Type 0} (K : Kind L) (b : Book) (ls : List L) where
  abbrev s : State L
  s = state_of b ls

  abbrev r₀ : Run L
  r₀ = run_of b.work ls

  abbrev ts : List Trunk
  ts = vec_items b.trunks

  -- the finished run of the book is the one that it holds
  held : (p : Stage) (home : ℕ) (r : Run L) → phase_of p r₀ ≡ standing home r → (r ≡ r₀) × (has_run p ≡ true)
  held Idle home r e = let z : ◌≡◌ {A = ℕ} 0 1 = cc in absurd (omega arith)
  held (Running h) home r e = let z : ◌≡◌ {A = ℕ} 0 1 = cc in absurd (omega arith)
  held (Standing h) home r e = let same : r₀ ≡ r = cc in (sym same, refl)

  -- a way that shows the book: its trails are those of the run that is held
  pub way_trail : (way : Way) → way.net.n ≡ b.n → way.net.trunks.now ≡ ts → way.table.now ≡ b.work.table → (stop : Option ℕ) (x : ℕ)
      → trail way.net.n way.net.trunks.now (seen_all way.table.now) stop x ≡ trail b.n ts (seen_all b.work.table) stop x
  way_trail way size trunks table stop x =
      ap (λ (k : ℕ). trail k way.net.trunks.now (seen_all way.table.now) stop x) size
      ∙ ap (λ (us : List Trunk). trail b.n us (seen_all way.table.now) stop x) trunks
      ∙ ap (λ (a : Table). trail b.n ts (seen_all a) stop x) table

  -- and the one that leads back from v to the head of trunk t
  pub way_back : (way : Way) → way.net.n ≡ b.n → way.net.trunks.now ≡ ts → way.table.now ≡ b.work.table → (v t : ℕ)
      → trail way.net.n way.net.trunks.now (seen_all way.table.now) (Some (trunk way.net.trunks.now t).to) v ≡ trail b.n ts (seen_all b.work.table) (Some (trunk ts t).to) v
  way_back way size trunks table v t =
      way_trail way size trunks table (Some (trunk way.net.trunks.now t).to) v
      ∙ ap (λ (us : List Trunk). trail b.n ts (seen_all b.work.table) (Some (trunk us t).to) v) trunks

  -- readings at x of a settled run
  module _ (x : ℕ) where
    abbrev own : Run L → List (Bool × ℕ)
    own q = settled_at s x q []

    pub charge_denied : (k : ℕ) → denied k ≡ asked s own → ReadsSo K s (charge K s x) (denied k)
    charge_denied k e = record { is = sym (denies s own own tt (λ q. charge_of K b.n ts q x) k (λ q j h. h) e); right = reads_rightly K s }

    pub arrival_denied : (k : ℕ) → denied k ≡ asked s own → ReadsSo K s (arrival s x) (denied k)
    arrival_denied k e = record { is = sym (denies s own own tt (λ q. arrival_of q x) k (λ q j h. h) e); right = reads_rightly K s }

    module _ (ok : fine ≡ asked s own) where
      may : Allowed s own
      may = allows s own tt ok

      same_run : may.run ≡ r₀
      same_run = (held b.phase may.home may.run may.stands).0

      pub runs : has_run b.phase ≡ true
      runs = (held b.phase may.home may.run may.stands).1

      free : first_of (own r₀) ≡ None
      free = ap (λ (q : Run L). first_of (own q)) (sym same_run) ∙ may.free

      pub below : x < b.n
      below = leb-false b.n x (first_none (is_loop b.work.verdict) (leb b.n x) 14 5 free).1

      pub room : b.n + length ts ≤ length ls
      room = ltb-false (length ls) (b.n + length ts) (first_none (eqb b.n 0 || ltb 256 b.n) (ltb (length ls) (b.n + length ts)) 3 2 may.fit).1

      reads_on : {A : Type 0} (own' : Run L → List (Bool × ℕ)) (value : Run L → A) → of_finished s own' value ≡ unless (own' r₀) (told (value r₀))
      reads_on own' value = read_on s own own' value may ∙ ap (λ (q : Run L). unless (own' q) (told (value q))) same_run

      reads : {A : Type 0} (value : Run L → A) → of_finished s own value ≡ told (value r₀)
      reads value = reads_on own value ∙ unless_free (own r₀) (told (value r₀)) free

      pub charge_some : (l : L) → is_reached K b.n ts r₀ x ≡ true → l ≡ label K b.n ts r₀ x → ReadsSo K s (charge K s x) (told (Some l))
      charge_some l held_so is = record {
        is = ap (λ (v : L). told (Some v)) is ∙ sym (reads (λ q. charge_of K b.n ts q x) ∙ ap (λ (o : Option L). told o) (cond-true (is_reached K b.n ts r₀ x) (Some (label K b.n ts r₀ x)) None held_so));
        right = reads_rightly K s;
      }

      pub charge_none : is_reached K b.n ts r₀ x ≡ false → ReadsSo K s (charge K s x) (told None)
      charge_none not_held = record {
        is = sym (reads (λ q. charge_of K b.n ts q x) ∙ ap (λ (o : Option L). told o) (cond-false (is_reached K b.n ts r₀ x) (Some (label K b.n ts r₀ x)) None not_held));
        right = reads_rightly K s;
      }

      pub arrival_told : (o : Option ℕ) → o ≡ arrival_of r₀ x → ReadsSo K s (arrival s x) (told o)
      arrival_told o is = record { is = ap (λ (p : Option ℕ). told p) is ∙ sym (reads (λ q. arrival_of q x)); right = reads_rightly K s }

    -- the route to x into a list
    module _ (into : List ℕ) where
      abbrev others : Run L → List (Bool × ℕ)
      others q = (not (is_reached K b.n ts q x), 16) ∷ no_room (length into) (route_of b.n ts q x)

      abbrev route_own : Run L → List (Bool × ℕ)
      route_own q = settled_at s x q (others q)

      pub route_denied : (k : Refusal) → denied (number_of k) ≡ asked s own → WritesSo K s (route K s x (length into)) into into (Err k)
      route_denied k e = record {
        wrote = Wrote.refuses {k = k} (denies s own route_own tt (λ q. route_of b.n ts q x) (number_of k) (λ q j h. first_more (is_loop q.verdict) (leb b.n x) 14 5 j (first_of (others q)) h) e) refl refl;
        right = reads_rightly K s;
      }

      module _ (ok : fine ≡ asked s own) where
        rest_of : first_of (route_own r₀) ≡ first_of (others r₀)
        rest_of =
            let f = first_none (is_loop b.work.verdict) (leb b.n x) 14 5 (free ok) in
            cond-false (is_loop b.work.verdict) (Some 14) _ f.0 ∙ cond-false (leb b.n x) (Some 5) _ f.1

        reads_route : route K s x (length into) ≡ unless (route_own r₀) (told (route_of b.n ts r₀ x))
        reads_route = reads_on ok route_own (λ q. route_of b.n ts q x)

        pub route_unreached : is_reached K b.n ts r₀ x ≡ false → WritesSo K s (route K s x (length into)) into into (Err Unreached)
        route_unreached not_held = record {
          wrote = Wrote.refuses {k = Unreached} (reads_route ∙ unless_some (route_own r₀) _ 16 (rest_of ∙ cond-true (not (is_reached K b.n ts r₀ x)) (Some 16) _ (not_from_false (is_reached K b.n ts r₀ x) not_held))) refl refl;
          right = reads_rightly K s;
        }

        module _ (held_so : is_reached K b.n ts r₀ x ≡ true) (count : ℕ) (long : count ≡ length (trail b.n ts (seen_all b.work.table) None x)) where
          counted : count ≡ length (route_of b.n ts r₀ x)
          counted = long ∙ ap length (route_trail ts r₀ b.n x)

          last_of : first_of (route_own r₀) ≡ cond (ltb (length into) (length (route_of b.n ts r₀ x))) (Some 17) None
          last_of = rest_of ∙ cond-false (not (is_reached K b.n ts r₀ x)) (Some 16) _ (not_from_true (is_reached K b.n ts r₀ x) held_so)

          pub route_short : length into < count → WritesSo K s (route K s x (length into)) into into (Err NoRoom)
          route_short less = record {
            wrote = Wrote.refuses {k = NoRoom} (reads_route ∙ unless_some (route_own r₀) _ 17 (last_of ∙ cond-true (ltb (length into) (length (route_of b.n ts r₀ x))) (Some 17) None (lt-ltb (length into) (length (route_of b.n ts r₀ x)) (omega (arith, counted))))) refl refl;
            right = reads_rightly K s;
          }

          pub route_written : (after : List ℕ) → count ≤ length into → after ≡ trail b.n ts (seen_all b.work.table) None x ++ drop count into → WritesSo K s (route K s x (length into)) into after (Ok count)
          route_written after room is = record {
            wrote = Wrote.writes {ts = route_of b.n ts r₀ x}
                (reads_route ∙ unless_free (route_own r₀) _ (last_of ∙ cond-false (ltb (length into) (length (route_of b.n ts r₀ x))) (Some 17) None (le-ltb (length into) (length (route_of b.n ts r₀ x)) (omega (arith, counted)))))
                (ap (λ (k : ℕ). Ok k) counted)
                (is ∙ ap (λ (us : List ℕ). us ++ drop count into) (route_trail ts r₀ b.n x) ∙ ap (λ (k : ℕ). route_of b.n ts r₀ x ++ drop k into) counted);
            right = reads_rightly K s;
          }

  -- the loop into a list
  module _ (into : List ℕ) where
    abbrev loop_only : Run L → List (Bool × ℕ)
    loop_only q = (not (is_loop q.verdict), 15) ∷ []

    abbrev loop_own : Run L → List (Bool × ℕ)
    loop_own q = (not (is_loop q.verdict), 15) ∷ no_room (length into) (loop_of b.n ts q)

    pub loop_denied : (k : Refusal) → denied (number_of k) ≡ asked s loop_only → WritesSo K s (loop s (length into)) into into (Err k)
    loop_denied k e = record {
      wrote = Wrote.refuses {k = k} (denies s loop_only loop_own tt (λ q. loop_of b.n ts q) (number_of k) (λ q j h. first_one (not (is_loop q.verdict)) 15 j (first_of (no_room (length into) (loop_of b.n ts q))) h) e) refl refl;
      right = reads_rightly K s;
    }

    module _ (ok : fine ≡ asked s loop_only) (v t : ℕ) (found : b.work.verdict ≡ Looped v t) where
      may_loop : Allowed s loop_only
      may_loop = allows s loop_only tt ok

      loop_run : may_loop.run ≡ r₀
      loop_run = (held b.phase may_loop.home may_loop.run may_loop.stands).0

      pub loop_runs : has_run b.phase ≡ true
      loop_runs = (held b.phase may_loop.home may_loop.run may_loop.stands).1

      inside : (ltb v b.n && ltb t (vec_len b.trunks)) ≡ true
      inside = subst (λ (e : Verdict). names_inside b.n (vec_len b.trunks) e ≡ true) found b.names

      pub loop_at : v < b.n
      loop_at = ltb-true v b.n (and_parts (ltb v b.n) (ltb t (vec_len b.trunks)) inside).0

      pub loop_by : t < vec_len b.trunks
      loop_by = ltb-true t (vec_len b.trunks) (and_parts (ltb v b.n) (ltb t (vec_len b.trunks)) inside).1

      abbrev back_to : List ℕ
      back_to = trail b.n ts (seen_all b.work.table) (Some (trunk ts t).to) v

      named : loop_of b.n ts r₀ ≡ back_to ++ (t ∷ [])
      named =
          ap (λ (e : Verdict). elim e as (λ _. List ℕ) [ Working ↦ [] | Settled ↦ [] | Looped a u ↦ between b.n ts r₀ (trunk ts u).to a ++ (u ∷ []) ]) found
          ∙ ap (λ (us : List ℕ). us ++ (t ∷ [])) (sym (loop_trail ts r₀ b.n (trunk ts t).to v))

      reads_loop : loop s (length into) ≡ unless (loop_own r₀) (told (loop_of b.n ts r₀))
      reads_loop = read_on s loop_only loop_own (λ q. loop_of b.n ts q) may_loop ∙ ap (λ (q : Run L). unless (loop_own q) (told (loop_of b.n ts q))) loop_run

      module _ (count : ℕ) (long : count ≡ length back_to) where
        counted_loop : length (loop_of b.n ts r₀) ≡ count + 1
        counted_loop = ap length named ∙ length_push back_to t ∙ ap (λ (k : ℕ). k + 1) (sym long)

        last_loop : first_of (loop_own r₀) ≡ cond (ltb (length into) (length (loop_of b.n ts r₀))) (Some 17) None
        last_loop = cond-false (not (is_loop b.work.verdict)) (Some 15) _ (not_from_true (is_loop b.work.verdict) (ap is_loop found))

        pub loop_short : length into ≤ count → WritesSo K s (loop s (length into)) into into (Err NoRoom)
        loop_short less = record {
          wrote = Wrote.refuses {k = NoRoom} (reads_loop ∙ unless_some (loop_own r₀) _ 17 (last_loop ∙ cond-true (ltb (length into) (length (loop_of b.n ts r₀))) (Some 17) None (lt-ltb (length into) (length (loop_of b.n ts r₀)) (omega (arith, counted_loop))))) refl refl;
          right = reads_rightly K s;
        }

        pub loop_written : (mid : List ℕ) → count < length into → mid ≡ back_to ++ drop count into → WritesSo K s (loop s (length into)) into (set mid count t) (Ok (count + 1))
        loop_written mid room is = record {
          wrote = Wrote.writes {ts = loop_of b.n ts r₀}
              (reads_loop ∙ unless_free (loop_own r₀) _ (last_loop ∙ cond-false (ltb (length into) (length (loop_of b.n ts r₀))) (Some 17) None (le-ltb (length into) (length (loop_of b.n ts r₀)) (omega (arith, counted_loop)))))
              (ap (λ (k : ℕ). Ok k) (sym counted_loop))
              (ap (λ (us : List ℕ). set us count t) (is ∙ ap (λ (us : List ℕ). back_to ++ us) (drop_more into count 0 room))
              ∙ set_at back_to (get_or into count 0) (drop (count + 1) into) t count (sym long)
              ∙ sym (append_assoc back_to (t ∷ []) (drop (count + 1) into))
              ∙ ap (λ (us : List ℕ). us ++ drop (count + 1) into) (sym named)
              ∙ ap (λ (k : ℕ). loop_of b.n ts r₀ ++ drop k into) (sym counted_loop));
          right = reads_rightly K s;
        }
