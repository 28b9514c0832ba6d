-- The format of a record, one form at a time.
use Rattle.std.proofs.Common.{◌≡◌, ℕ, ◌+◌, ◌<◌, ◌≤◌, List, [], ◌∷◌, ◌++◌, length, get_or, take, drop, sym, refl, ap, ◌∙◌, arith, take-add}
use lib.Count.{ones, ones_in}
use Rattle.std.proofs.lemmas.List.{drop-drop}
use Rattle.tape.specs.Fields.{number, bytes_of, Pair}
use Rattle.tape.specs.Format.{Item, lay, reprice, bar, home, size_of, item_in, record_bytes}

-- the sizes of the four forms
pub size_lay : (w : ℕ) → size_of w 22 ≡ 5 + w
unfolding ones ones_in
size_lay w = refl

pub size_reprice : (w : ℕ) → size_of w 17 ≡ 3 + w
unfolding ones ones_in
size_reprice w = refl

pub size_bar : (w : ℕ) → size_of w 9 ≡ 5
unfolding ones ones_in
size_bar w = refl

pub size_home : (w : ℕ) → size_of w 2 ≡ 3
unfolding ones ones_in
size_home w = refl

-- what the bytes of each form ask for
pub item_lay : (w : ℕ) (bs : List ℕ) → get_or bs 0 0 ≡ 22 → item_in w bs ≡ lay (number (take 2 (drop 1 bs))) (number (take 2 (drop 3 bs))) (take w (drop 5 bs))
unfolding ones ones_in
item_lay w bs e = rw e refl

pub item_reprice : (w : ℕ) (bs : List ℕ) → get_or bs 0 0 ≡ 17 → item_in w bs ≡ reprice (number (take 2 (drop 1 bs))) (take w (drop 3 bs))
unfolding ones ones_in
item_reprice w bs e = rw e refl

pub item_bar : (w : ℕ) (bs : List ℕ) → get_or bs 0 0 ≡ 9 → item_in w bs ≡ bar (number (take 2 (drop 1 bs))) (number (take 2 (drop 3 bs)))
unfolding ones ones_in
item_bar w bs e = rw e refl

pub item_home : (w : ℕ) (bs : List ℕ) → get_or bs 0 0 ≡ 2 → item_in w bs ≡ home (number (take 2 (drop 1 bs)))
unfolding ones ones_in
item_home w bs e = rw e refl

-- the front of a list in parts
first : (m : ℕ) (bs : List ℕ) → 0 < length bs → get_or bs 0 0 ≡ m → take 1 bs ≡ m ∷ []
first m [] h e = absurd (omega (arith, h))
first m (b ∷ bs) h e = ap (λ x. x ∷ []) e

parts_2 : (m k : ℕ) (bs : List ℕ) → 0 < length bs → get_or bs 0 0 ≡ m → take (3 + k) bs ≡ m ∷ (take 2 (drop 1 bs) ++ take k (drop 3 bs))
parts_2 m k bs h e =
    let a : take (3 + k) bs ≡ take 1 bs ++ take (2 + k) (drop 1 bs) = ap (λ n. take n bs) (omega arith) ∙ take-add 1 (2 + k) bs in
    let b : take (2 + k) (drop 1 bs) ≡ take 2 (drop 1 bs) ++ take k (drop 2 (drop 1 bs)) = take-add 2 k (drop 1 bs) in
    let d : drop 2 (drop 1 bs) ≡ drop 3 bs = drop-drop 2 1 bs in
    let f : take 1 bs ≡ m ∷ [] = first m bs h e in
    a ∙ rw (f, b, d) refl

parts_4 : (m k : ℕ) (bs : List ℕ) → 0 < length bs → get_or bs 0 0 ≡ m → take (5 + k) bs ≡ m ∷ (take 2 (drop 1 bs) ++ (take 2 (drop 3 bs) ++ take k (drop 5 bs)))
parts_4 m k bs h e =
    let a : take (5 + k) bs ≡ m ∷ (take 2 (drop 1 bs) ++ take (2 + k) (drop 3 bs)) = ap (λ n. take n bs) (omega arith) ∙ parts_2 m (2 + k) bs h e in
    let b : take (2 + k) (drop 3 bs) ≡ take 2 (drop 3 bs) ++ take k (drop 2 (drop 3 bs)) = take-add 2 k (drop 3 bs) in
    let d : drop 2 (drop 3 bs) ≡ drop 5 bs = drop-drop 2 3 bs in
    a ∙ rw (b, d) refl

same_2 : (m : ℕ) (a x l y : List ℕ) → a ≡ x → l ≡ y → ◌≡◌ {A = List ℕ} (m ∷ (a ++ l)) (m ∷ (x ++ y))
same_2 m a x l y p q = cc

same_3 : (m : ℕ) (a x b y l z : List ℕ) → a ≡ x → b ≡ y → l ≡ z → ◌≡◌ {A = List ℕ} (m ∷ (a ++ (b ++ l))) (m ∷ (x ++ (y ++ z)))
same_3 m a x b y l z p q r = cc

-- fields that were read are those of the format, and give back the bytes
pub record Read (w m : ℕ) (bs : List ℕ) (i : Item) : Type 0 where
  pub item : i ≡ item_in w bs
  pub same : record_bytes i ≡ take (size_of w m) bs

module _ (w m : ℕ) (bs : List ℕ) (map : get_or bs 0 0 ≡ m) (whole : size_of w m ≤ length bs) where
  pub lay_room : m ≡ 22 → 5 + w ≤ length bs
  lay_room e = omega (arith, rw (e, size_lay) at whole)

  pub reprice_room : m ≡ 17 → 3 + w ≤ length bs
  reprice_room e = omega (arith, rw (e, size_reprice) at whole)

  pub bar_room : m ≡ 9 → 5 ≤ length bs
  bar_room e = omega (arith, rw (e, size_bar) at whole)

  pub home_room : m ≡ 2 → 3 ≤ length bs
  home_room e = omega (arith, rw (e, size_home) at whole)

  pub lay_read : (a b : ℕ) (l : List ℕ) → m ≡ 22 → Pair bs 1 a → Pair bs 3 b → l ≡ take w (drop 5 bs) → Read w m bs (lay a b l)
  lay_read a b l e pa pb pl =
      let is : get_or bs 0 0 ≡ 22 = map ∙ e in
      let some : 0 < length bs = omega (arith, lay_room e) in
      let f : size_of w m ≡ 5 + w = ap (size_of w) e ∙ size_lay w in
      record {
        item = rw (pa.value, pb.value, pl) (sym (item_lay w bs is));
        same = same_3 22 (bytes_of 2 a) _ (bytes_of 2 b) _ l _ pa.back pb.back pl ∙ sym (ap (λ n. take n bs) f ∙ parts_4 22 w bs some is);
      }

  pub reprice_read : (t : ℕ) (l : List ℕ) → m ≡ 17 → Pair bs 1 t → l ≡ take w (drop 3 bs) → Read w m bs (reprice t l)
  reprice_read t l e pt pl =
      let is : get_or bs 0 0 ≡ 17 = map ∙ e in
      let some : 0 < length bs = omega (arith, reprice_room e) in
      let f : size_of w m ≡ 3 + w = ap (size_of w) e ∙ size_reprice w in
      record {
        item = rw (pt.value, pl) (sym (item_reprice w bs is));
        same = same_2 17 (bytes_of 2 t) _ l _ pt.back pl ∙ sym (ap (λ n. take n bs) f ∙ parts_2 17 w bs some is);
      }

  pub bar_read : (t s : ℕ) → m ≡ 9 → Pair bs 1 t → Pair bs 3 s → Read w m bs (bar t s)
  bar_read t s e pt ps =
      let is : get_or bs 0 0 ≡ 9 = map ∙ e in
      let some : 0 < length bs = omega (arith, bar_room e) in
      let f : size_of w m ≡ 5 = ap (size_of w) e ∙ size_bar w in
      record {
        item = rw (pt.value, ps.value) (sym (item_bar w bs is));
        same = same_3 9 (bytes_of 2 t) _ (bytes_of 2 s) _ [] _ pt.back ps.back refl ∙ sym (ap (λ n. take n bs) f ∙ parts_4 9 0 bs some is);
      }

  pub home_read : (x : ℕ) → m ≡ 2 → Pair bs 1 x → Read w m bs (home x)
  home_read x e px =
      let is : get_or bs 0 0 ≡ 2 = map ∙ e in
      let some : 0 < length bs = omega (arith, home_room e) in
      let f : size_of w m ≡ 3 = ap (size_of w) e ∙ size_home w in
      record {
        item = rw px.value (sym (item_home w bs is));
        same = same_2 2 (bytes_of 2 x) _ [] _ px.back refl ∙ sym (ap (λ n. take n bs) f ∙ parts_2 2 0 bs some is);
      }
