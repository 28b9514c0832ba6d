-- Numbers and the bytes that write them.
use Rattle.std.proofs.Common.{◌≡◌, ℕ, zero, suc, ◌+◌, ◌-◌, ◌*◌, ◌/◌, ◌%◌, ◌^◌, ◌<◌, ◌≤◌, List, [], ◌∷◌, ◌++◌, length, get_or, take, drop, sym, refl, ap, ◌∙◌, pow-suc, add-one, arith, lit<}
use native.Mathlib.Nat.{mod-one}
use lib.Arith.{mod-mul}
use Rattle.std.proofs.lemmas.Nat.{mod_below}
use Rattle.std.proofs.lemmas.List.{take_all, take_more, length_push, length-drop, length-take-le}
use Rattle.std.proofs.lemmas.List.Sums.{fold_push, fold_more}
use Rattle.tape.specs.Fields.{number, bytes_of, Bytes, Pair}

pub number_push : (bs : List ℕ) (b : ℕ) → number (bs ++ (b ∷ [])) ≡ number bs * 256 + b
number_push bs b = fold_push (λ a b. a * 256 + b) 0 bs b

pub number_more : (bs : List ℕ) (i : ℕ) → i < length bs → number (take (i + 1) bs) ≡ number (take i bs) * 256 + get_or bs i 0
number_more bs i h = fold_more (λ a b. a * 256 + b) 0 bs i 0 h

pub pow_256_pos : (k : ℕ) → 0 < 256 ^ k
pow_256_pos zero = lit< tt
pow_256_pos (suc k) = omega (arith, pow-suc 256 k, pow_256_pos k)

-- as many bytes as asked for
pub length_bytes_of : (k x : ℕ) → length (bytes_of k x) ≡ k
length_bytes_of zero x = refl
length_bytes_of (suc k) x = omega (arith, length_push (bytes_of k (x / 256)) (x % 256), length_bytes_of k (x / 256))

-- k bytes have the number below 256 ^ k
pub number_bytes_of : (k x : ℕ) → number (bytes_of k x) ≡ x % 256 ^ k
number_bytes_of zero x = sym (mod-one x)
number_bytes_of (suc k) x =
    number_push (bytes_of k (x / 256)) (x % 256)
    ∙ ap (λ n. n * 256 + x % 256) (number_bytes_of k (x / 256))
    ∙ sym (ap (λ n. x % n) (pow-suc 256 k) ∙ mod-mul x {m = 256 ^ k} {c = 256} (pow_256_pos k) (lit< tt))

pub bytes_push : (bs : List ℕ) (b : ℕ) → Bytes bs → b < 256 → Bytes (bs ++ (b ∷ []))
bytes_push [] b h small zero = small
bytes_push [] b h small (suc i) = lit< tt
bytes_push (x ∷ bs) b h small zero = h 0
bytes_push (x ∷ bs) b h small (suc i) = bytes_push bs b (λ i. h (suc i)) small i

pub bytes_bytes_of : (k x : ℕ) → Bytes (bytes_of k x)
bytes_bytes_of zero x = λ i. lit< tt
bytes_bytes_of (suc k) x = bytes_push (bytes_of k (x / 256)) (x % 256) (bytes_bytes_of k (x / 256)) (mod_below x 256 (lit< tt))

-- the front of some bytes
front_of_number : (bs : List ℕ) → Bytes bs → (i : ℕ) → i ≤ length bs → bytes_of i (number (take i bs)) ≡ take i bs
front_of_number bs h zero le = refl
front_of_number bs h (suc i) le =
    let lt : i < length bs = omega arith in
    let e : number (take (suc i) bs) ≡ number (take i bs) * 256 + get_or bs i 0 = rw (← add-one i) (number_more bs i lt) in
    let q : number (take (suc i) bs) / 256 ≡ number (take i bs) = omega (arith, h i) in
    let m : number (take (suc i) bs) % 256 ≡ get_or bs i 0 = omega (arith, h i) in
    let ih : bytes_of i (number (take i bs)) ≡ take i bs = front_of_number bs h i (omega arith) in
    let t : take (suc i) bs ≡ take i bs ++ (get_or bs i 0 ∷ []) = rw (← add-one i) (take_more bs i 0 lt) in
    rw (q, m, ih) (sym t)

front_below : (bs : List ℕ) → Bytes bs → (i : ℕ) → i ≤ length bs → number (take i bs) < 256 ^ i
front_below bs h zero le = lit< tt
front_below bs h (suc i) le =
    let lt : i < length bs = omega arith in
    let e : number (take (suc i) bs) ≡ number (take i bs) * 256 + get_or bs i 0 = rw (← add-one i) (number_more bs i lt) in
    omega (arith, h i, pow-suc 256 i, front_below bs h i (omega arith))

-- bytes are those of their number
pub bytes_of_number : (bs : List ℕ) → Bytes bs → bytes_of (length bs) (number bs) ≡ bs
bytes_of_number bs h =
    let e : take (length bs) bs ≡ bs = take_all (length bs) bs (omega arith) in
    rw e at (front_of_number bs h (length bs) (omega arith))

pub number_below : (bs : List ℕ) → Bytes bs → number bs < 256 ^ length bs
number_below bs h =
    let e : take (length bs) bs ≡ bs = take_all (length bs) bs (omega arith) in
    rw e at (front_below bs h (length bs) (omega arith))

-- the two bytes at a place
at_two : (at : ℕ) → at + 2 - at ≡ 2
at_two at = omega arith

length_two : (xs : List ℕ) (at : ℕ) → at + 2 ≤ length xs → length (take 2 (drop at xs)) ≡ 2
length_two xs at le = length-take-le 2 (drop at xs) (simp length-drop (omega arith))

-- two bytes, as `read_field` reads them
pub pair_read : (xs : List ℕ) (at x : ℕ) → at + 2 ≤ length xs → Bytes (take (at + 2 - at) (drop at xs)) → x ≡ number (take (at + 2 - at) (drop at xs)) % 2 ^ 64
    → (x < 2 ^ 16) × Pair xs at x
pair_read xs at x le octets value =
    let two = length_two xs at le in
    let h : Bytes (take 2 (drop at xs)) = rw at_two at octets in
    let e : x ≡ number (take 2 (drop at xs)) % 2 ^ 64 = rw at_two at value in
    let small : number (take 2 (drop at xs)) < 2 ^ 16 = rw two at (number_below (take 2 (drop at xs)) h) in
    let same : x ≡ number (take 2 (drop at xs)) = omega arith in
    let back : bytes_of 2 (number (take 2 (drop at xs))) ≡ take 2 (drop at xs) = rw two at (bytes_of_number (take 2 (drop at xs)) h) in
    (omega arith, record { value = same; back = rw same back })
