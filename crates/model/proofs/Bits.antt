-- Bits: both ways, over `++`, and by place.
use mathlib.Core.Path.{◌≡◌, refl, sym, ap, ◌∙◌, subst}
use mathlib.Core.Bool.{Bool, true, false}
use mathlib.Core.List.{List, [], ◌∷◌, ◌++◌}
use Prim.Native.Nat.{ℕ, zero, suc, ◌+◌, ◌-◌, ◌*◌, ◌/◌, ◌%◌, ◌^◌, ◌≤◌, ◌<◌}
use native.Mathlib.Nat.{zero-div, mod-eq_of_lt, mul-add-div_right, mul-add-mod_self_right, pow-succ', add-zero, zero-add}
use native.Mathlib.Omega.{arith}
use lib.ListN.{length, take, drop, get_or, set, length-append, length-drop, take-append-drop, length-set, get_or-append}
use lib.Seq.{take_at, drop_at, get_or-append-add, get_or-set_same, get_or-set_other, sets, length-take-le}
use lib.Dec.{eqb}
use lib.Pow.{pow_pos, pow-add, shr-shr, mod-pow-add, high, split}
use borrow.Author.Tests.{eqb-true, eqb-false}
use Rattle.model.specs.Bits.{digit, odd, from_bits, to_bits, bits_of, bytes_of, bit_at, bits_at}

-- ---- one bit

pub digit-odd : (x : ℕ) → digit (odd x) ≡ x % 2
digit-odd x = go (odd x) refl
  where
    go : (b : Bool) → odd x ≡ b → digit b ≡ x % 2
    go true e = sym (eqb-true (x % 2) 1 e)
    go false e = let n = eqb-false (x % 2) 1 e in omega arith

pub odd-digit : (b : Bool) → odd (digit b) ≡ b
odd-digit true = refl
odd-digit false = refl

-- ---- lengths

pub length-to_bits : (n x : ℕ) → length (to_bits n x) ≡ n
unfolding to_bits
length-to_bits zero x = refl
length-to_bits (suc n) x = ap suc (length-to_bits n x)

pub length-bits_of : (v : List ℕ) → length (bits_of v) ≡ 8 * length v
unfolding bits_of
length-bits_of [] = refl
length-bits_of (b ∷ v) = let ih = length-bits_of v in omega (arith, length-append (to_bits 8 b) (bits_of v), length-to_bits 8 b)

pub length-bytes_of : (n : ℕ) (bs : List Bool) → length (bytes_of n bs) ≡ n
unfolding bytes_of
length-bytes_of zero bs = refl
length-bytes_of (suc n) bs = ap suc (length-bytes_of n (drop 8 bs))

pub length-bits_at : (at n : ℕ) (bs : List Bool) → length (bits_at at n bs) ≡ n
unfolding bits_at
length-bits_at at zero bs = refl
length-bits_at at (suc n) bs = ap suc (length-bits_at (suc at) n bs)

-- ---- numbers of bits

pub from_bits-append : (xs ys : List Bool) → from_bits (xs ++ ys) ≡ from_bits xs * 2 ^ length ys + from_bits ys
unfolding from_bits
from_bits-append [] ys = omega arith
from_bits-append (b ∷ xs) ys =
    let ih = from_bits-append xs ys in
    let e : 2 ^ length (xs ++ ys) ≡ 2 ^ length xs * 2 ^ length ys = ap (λ (n : ℕ). 2 ^ n) (length-append xs ys) ∙ pow-add 2 (length xs) (length ys) in
    go b e ih
  where
    go : (b : Bool) → 2 ^ length (xs ++ ys) ≡ 2 ^ length xs * 2 ^ length ys → from_bits (xs ++ ys) ≡ from_bits xs * 2 ^ length ys + from_bits ys
        → digit b * 2 ^ length (xs ++ ys) + from_bits (xs ++ ys) ≡ (digit b * 2 ^ length xs + from_bits xs) * 2 ^ length ys + from_bits ys
    go true e ih = omega arith
    go false e ih = omega arith

pub from_bits-lt : (bs : List Bool) → from_bits bs < 2 ^ length bs
unfolding from_bits
from_bits-lt [] = omega arith
from_bits-lt (b ∷ bs) = let ih = from_bits-lt bs in go b ih
  where
    go : (b : Bool) → from_bits bs < 2 ^ length bs → digit b * 2 ^ length bs + from_bits bs < 2 ^ suc (length bs)
    go true h = omega (arith, pow-succ' 2 (length bs))
    go false h = omega (arith, pow-succ' 2 (length bs))

pub from_bits-to_bits : (n x : ℕ) → from_bits (to_bits n x) ≡ x % 2 ^ n
unfolding from_bits to_bits
from_bits-to_bits zero x = omega arith
from_bits-to_bits (suc n) x =
    ap (λ (m : ℕ). digit (odd (x / 2 ^ n)) * 2 ^ m + from_bits (to_bits n x)) (length-to_bits n x)
    ∙ (ap (λ (r : ℕ). r * 2 ^ n + from_bits (to_bits n x)) (digit-odd (x / 2 ^ n))
    ∙ (ap (λ (r : ℕ). x / 2 ^ n % 2 * 2 ^ n + r) (from_bits-to_bits n x)
    ∙ (sym (mod-pow-add x 1 n) ∙ ap (λ (m : ℕ). x % 2 ^ m) (omega arith))))

-- only the low n bits of a number are looked at
to_bits-above : (n d a r : ℕ) → to_bits n (a * 2 ^ (n + d) + r) ≡ to_bits n r
unfolding to_bits
to_bits-above zero d a r = refl
to_bits-above (suc n) d a r =
    let s : suc n + d ≡ n + suc d = omega arith in
    let rest : to_bits n (a * 2 ^ (suc n + d) + r) ≡ to_bits n r = ap (λ (m : ℕ). to_bits n (a * 2 ^ m + r)) s ∙ to_bits-above n (suc d) a r in
    (λ i. first i ∷ rest i)
  where
    split : (p q : ℕ) → a * (2 * p * q) ≡ a * q * 2 * p
    split p q = omega arith

    e : a * 2 ^ (suc n + d) ≡ a * 2 ^ d * 2 * 2 ^ n
    e = ap (λ (y : ℕ). a * y) (pow-add 2 (suc n) d ∙ ap (λ (y : ℕ). y * 2 ^ d) (pow-succ' 2 n)) ∙ split (2 ^ n) (2 ^ d)

    first : odd ((a * 2 ^ (suc n + d) + r) / 2 ^ n) ≡ odd (r / 2 ^ n)
    first =
        ap (λ (y : ℕ). eqb y 1)
        (ap (λ (y : ℕ). (y + r) / 2 ^ n % 2) e
        ∙ (ap (λ (y : ℕ). y % 2) (mul-add-div_right (pow_pos n) (a * 2 ^ d * 2) r) ∙ mul-add-mod_self_right (a * 2 ^ d) 2 (r / 2 ^ n)))

-- the low n bits of a * 2^n + r are those of r
pub to_bits-low : (n a r : ℕ) → to_bits n (a * 2 ^ n + r) ≡ to_bits n r
to_bits-low n a r = ap (λ (m : ℕ). to_bits n (a * 2 ^ m + r)) (sym (add-zero n)) ∙ to_bits-above n 0 a r

pub to_bits-mod : (n x : ℕ) → to_bits n (x % 2 ^ n) ≡ to_bits n x
to_bits-mod n x = sym (to_bits-low n (x / 2 ^ n) (x % 2 ^ n)) ∙ ap (to_bits n) (split x n)

pub to_bits-from_bits : (bs : List Bool) → to_bits (length bs) (from_bits bs) ≡ bs
unfolding to_bits from_bits
to_bits-from_bits [] = refl
to_bits-from_bits (b ∷ bs) =
    let top : odd ((digit b * 2 ^ length bs + from_bits bs) / 2 ^ length bs) ≡ b = ap odd (high (digit b) (length bs) (from_bits-lt bs)) ∙ odd-digit b in
    let rest : to_bits (length bs) (digit b * 2 ^ length bs + from_bits bs) ≡ bs = to_bits-low (length bs) (digit b) (from_bits bs) ∙ to_bits-from_bits bs in
    (λ i. top i ∷ rest i)

-- the low a + b bits are a bits above the low b, then the low b
pub to_bits-append : (a b x : ℕ) → to_bits (a + b) x ≡ to_bits a (x / 2 ^ b) ++ to_bits b x
unfolding to_bits
to_bits-append zero b x = ap (λ (n : ℕ). to_bits n x) (zero-add b)
to_bits-append (suc a) b x =
    let s : suc a + b ≡ suc (a + b) = omega arith in
    let c : a + b ≡ b + a = omega arith in
    let top : odd (x / 2 ^ (a + b)) ≡ odd (x / 2 ^ b / 2 ^ a) = ap (λ (n : ℕ). odd (x / 2 ^ n)) c ∙ ap odd (sym (shr-shr x b a)) in
    let rest = to_bits-append a b x in
    ap (λ (n : ℕ). to_bits n x) s ∙ (λ i. top i ∷ rest i)

-- ---- bytes of bits

-- every element is a byte
abbrev pub Bytes : List ℕ → Type 0
Bytes v = (i : ℕ) → get_or v i 0 < 256

pub bytes_of-bits_of : (v : List ℕ) → Bytes v → bytes_of (length v) (bits_of v) ≡ v
unfolding bytes_of bits_of
bytes_of-bits_of [] h = refl
bytes_of-bits_of (b ∷ v) h =
    let n : length (to_bits 8 b) ≡ 8 = length-to_bits 8 b in
    let first : from_bits (take 8 (to_bits 8 b ++ bits_of v)) ≡ b = ap from_bits (take_at (to_bits 8 b) (bits_of v) 8 n) ∙ (from_bits-to_bits 8 b ∙ mod-eq_of_lt (h 0)) in
    let rest : bytes_of (length v) (drop 8 (to_bits 8 b ++ bits_of v)) ≡ v = ap (bytes_of (length v)) (drop_at (to_bits 8 b) (bits_of v) 8 n) ∙ bytes_of-bits_of v (λ i. h (suc i)) in
    (λ i. first i ∷ rest i)

pub bits_of-bytes_of : (n : ℕ) (bs : List Bool) → length bs ≡ 8 * n → bits_of (bytes_of n bs) ≡ bs
unfolding bytes_of bits_of
bits_of-bytes_of zero [] h = refl
bits_of-bytes_of zero (b ∷ bs) h = absurd (omega arith)
bits_of-bytes_of (suc n) bs h =
    let l : length (take 8 bs) ≡ 8 = length-take-le 8 bs (omega arith) in
    let first : to_bits 8 (from_bits (take 8 bs)) ≡ take 8 bs = ap (λ (m : ℕ). to_bits m (from_bits (take 8 bs))) (sym l) ∙ to_bits-from_bits (take 8 bs) in
    let rest : bits_of (bytes_of n (drop 8 bs)) ≡ drop 8 bs = bits_of-bytes_of n (drop 8 bs) (omega (arith, length-drop 8 bs)) in
    (λ i. first i ++ rest i) ∙ take-append-drop 8 bs

pub bytes_of-bytes : (n : ℕ) (bs : List Bool) → length bs ≡ 8 * n → Bytes (bytes_of n bs)
unfolding bytes_of
bytes_of-bytes zero bs h i = omega arith
bytes_of-bytes (suc n) bs h zero = subst (λ (m : ℕ). from_bits (take 8 bs) < 2 ^ m) (length-take-le 8 bs (omega arith)) (from_bits-lt (take 8 bs))
bytes_of-bytes (suc n) bs h (suc i) = bytes_of-bytes n (drop 8 bs) (omega (arith, length-drop 8 bs)) i

-- byte strings are equal if their bits are
pub bits_of-eq : (v w : List ℕ) → Bytes v → Bytes w → bits_of v ≡ bits_of w → v ≡ w
bits_of-eq v w p q e =
    let n : length v ≡ length w = omega (arith, length-bits_of v, length-bits_of w, ap length e) in
    sym (bytes_of-bits_of v p) ∙ ((λ i. bytes_of (n i) (e i)) ∙ bytes_of-bits_of w q)

-- ---- bits by place

pub bit_at-to_bits : (n x i : ℕ) → i < n → bit_at i (to_bits n x) ≡ odd (x / 2 ^ (n - suc i))
unfolding to_bits
bit_at-to_bits zero x i h = absurd (omega arith)
bit_at-to_bits (suc n) x zero h = ap (λ (m : ℕ). odd (x / 2 ^ m)) (omega arith)
bit_at-to_bits (suc n) x (suc i) h = bit_at-to_bits n x i (omega arith) ∙ ap (λ (m : ℕ). odd (x / 2 ^ m)) (omega arith)

bit_at-nought : (n i : ℕ) → bit_at i (to_bits n 0) ≡ false
unfolding to_bits
bit_at-nought zero i = refl
bit_at-nought (suc n) zero = ap odd (zero-div (2 ^ n))
bit_at-nought (suc n) (suc i) = bit_at-nought n i

-- bit 8 * i + r is bit r of byte i; past the end both are 0
pub bit_at-bits_of : (v : List ℕ) (i r : ℕ) → r < 8 → bit_at (8 * i + r) (bits_of v) ≡ bit_at r (to_bits 8 (get_or v i 0))
unfolding bits_of
bit_at-bits_of [] i r h = sym (bit_at-nought 8 r)
bit_at-bits_of (b ∷ v) zero r h =
    ap (λ (m : ℕ). bit_at m (to_bits 8 b ++ bits_of v)) (zero-add r)
    ∙ get_or-append (to_bits 8 b) (bits_of v) false r (omega (arith, length-to_bits 8 b))
bit_at-bits_of (b ∷ v) (suc i) r h =
    let e : 8 * suc i + r ≡ length (to_bits 8 b) + (8 * i + r) = omega (arith, length-to_bits 8 b) in
    ap (λ (m : ℕ). bit_at m (to_bits 8 b ++ bits_of v)) e
    ∙ (get_or-append-add (to_bits 8 b) (bits_of v) (8 * i + r) false ∙ bit_at-bits_of v i r h)

-- bit i is bit i % 8 of byte i / 8
pub bit_at-byte : (v : List ℕ) (i : ℕ) → bit_at i (bits_of v) ≡ bit_at (i % 8) (to_bits 8 (get_or v (i / 8) 0))
bit_at-byte v i =
    let e : i ≡ 8 * (i / 8) + i % 8 = omega arith in
    ap (λ (m : ℕ). bit_at m (bits_of v)) e ∙ bit_at-bits_of v (i / 8) (i % 8) (omega arith)

-- ---- bits that are read

pub bits_at-append : (at t n : ℕ) (bs : List Bool) → bits_at at (t + n) bs ≡ bits_at at t bs ++ bits_at (at + t) n bs
unfolding bits_at
bits_at-append at zero n bs = rw (zero-add n, add-zero at)
bits_at-append at (suc t) n bs =
    let s : suc t + n ≡ suc (t + n) = omega arith in
    let q : suc at + t ≡ at + suc t = omega arith in
    ap (λ (m : ℕ). bits_at at m bs) s
    ∙ ap (λ (l : List Bool). bit_at at bs ∷ l) (bits_at-append (suc at) t n bs ∙ ap (λ (m : ℕ). bits_at (suc at) t bs ++ bits_at m n bs) q)

-- equal bits are read as equal
pub bits_at-same : (a b n : ℕ) (xs ys : List Bool) → ((j : ℕ) → j < n → bit_at (a + j) xs ≡ bit_at (b + j) ys) → bits_at a n xs ≡ bits_at b n ys
unfolding bits_at
bits_at-same a b zero xs ys h = refl
bits_at-same a b (suc n) xs ys h =
    let first : bit_at a xs ≡ bit_at b ys = ap (λ (m : ℕ). bit_at m xs) (sym (add-zero a)) ∙ (h 0 (omega arith) ∙ ap (λ (m : ℕ). bit_at m ys) (add-zero b)) in
    let rest = bits_at-same (suc a) (suc b) n xs ys (λ j l. ap (λ (m : ℕ). bit_at m xs) (shift a j) ∙ (h (suc j) (omega arith) ∙ ap (λ (m : ℕ). bit_at m ys) (sym (shift b j)))) in
    (λ i. first i ∷ rest i)
  where
    shift : (a j : ℕ) → suc a + j ≡ a + suc j
    shift a j = omega arith

bits_at-tail : (a n : ℕ) (x : Bool) (xs : List Bool) → bits_at (suc a) n (x ∷ xs) ≡ bits_at a n xs
unfolding bits_at
bits_at-tail a zero x xs = refl
bits_at-tail a (suc n) x xs = ap (λ (l : List Bool). bit_at a xs ∷ l) (bits_at-tail (suc a) n x xs)

-- all bits of a list are the list
pub bits_at-all : (xs : List Bool) → bits_at 0 (length xs) xs ≡ xs
unfolding bits_at
bits_at-all [] = refl
bits_at-all (x ∷ xs) = ap (λ (l : List Bool). x ∷ l) (bits_at-tail 0 (length xs) x xs ∙ bits_at-all xs)

-- ---- bits that are written

module _ {A : Type 0} where
  pub get_d_sets_before : (l : List A) (i : ℕ) (vs : List A) (j : ℕ) (d : A) → j < i → get_or (sets l i vs) j d ≡ get_or l j d
  get_d_sets_before l i [] j d h = refl
  get_d_sets_before l i (a ∷ vs) j d h = get_d_sets_before (set l i a) (suc i) vs j d (omega arith) ∙ get_or-set_other l i j a d (λ e. omega arith)

  pub get_or-sets-behind : (l : List A) (i : ℕ) (vs : List A) (j : ℕ) (d : A) → i + length vs ≤ j → get_or (sets l i vs) j d ≡ get_or l j d
  get_or-sets-behind l i [] j d h = refl
  get_or-sets-behind l i (a ∷ vs) j d h = get_or-sets-behind (set l i a) (suc i) vs j d (omega arith) ∙ get_or-set_other l i j a d (λ e. omega arith)

  pub get_or-sets-in : (l : List A) (i : ℕ) (vs : List A) (k : ℕ) (d : A) → i + length vs ≤ length l → k < length vs → get_or (sets l i vs) (i + k) d ≡ get_or vs k d
  get_or-sets-in l i [] k d h c = absurd (omega arith)
  get_or-sets-in l i (a ∷ vs) zero d h c =
      let z : i + 0 ≡ i = omega arith in
      ap (λ (m : ℕ). get_or (sets (set l i a) (suc i) vs) m d) z ∙ (get_d_sets_before (set l i a) (suc i) vs i d (omega arith) ∙ get_or-set_same l i a d (omega arith))
  get_or-sets-in l i (a ∷ vs) (suc k) d h c =
      let s : i + suc k ≡ suc i + k = omega arith in
      ap (λ (m : ℕ). get_or (sets (set l i a) (suc i) vs) m d) s
      ∙ get_or-sets-in (set l i a) (suc i) vs k d (omega (arith, length-set l i a)) (omega arith)

-- what was written is read
pub bits_at-sets : (bs : List Bool) (at : ℕ) (xs : List Bool) → at + length xs ≤ length bs → bits_at at (length xs) (sets bs at xs) ≡ xs
bits_at-sets bs at xs h =
    bits_at-same at 0 (length xs) (sets bs at xs) xs (λ j l. get_or-sets-in bs at xs j false h l ∙ ap (λ (m : ℕ). bit_at m xs) (sym (zero-add j)))
    ∙ bits_at-all xs
