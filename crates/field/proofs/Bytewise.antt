-- A field read and written one byte at a time: what a step of either loop keeps.
use Rattle.std.proofs.Common.{◌≡◌, ℕ, zero, suc, ◌+◌, ◌-◌, ◌*◌, ◌/◌, ◌%◌, ◌^◌, ◌<◌, ◌≤◌, Bool, List, [], ◌∷◌, ◌++◌, length, get_or, set, replicate, sym, refl, ap, ◌∙◌, subst, append-nil, add-zero, mul-le-mul_right, mod-lt, zero-add, arith, length-set, pow_pos, pow-add, shr-shr, shr_lt}
use lib.Seq.{sets, set-append_left}
use lib.Pow.{high}
use Rattle.model.specs.Bits.{odd, from_bits, to_bits, bits_of, bit_at, bits_at}
use Rattle.model.specs.Field.{Field, end_bit, last_byte, field_bits, grown, set_field_bits}
use Rattle.model.proofs.Bits.{Bytes, length-to_bits, length-bits_at, from_bits-append, from_bits-to_bits, to_bits-low, to_bits-mod, to_bits-append, bits_of-eq, bit_at-to_bits, bit_at-bits_of, bits_at-append, bits_at-same, bits_at-all}
use Rattle.model.proofs.Fields.{bits_of-set_field_bits, bytes-set_field_bits}
use Rattle.field.specs.Bytewise.{taken, bits_above, patched}

-- a field begins at bit offset % 8 of byte offset / 8
abbrev pub begin : Field → ℕ
begin f = 8 * (f.offset / 8) + f.offset % 8

begin-is : (f : Field) → begin f ≡ f.offset
begin-is f = omega arith

-- ---- reading

-- bits within byte i
bits_at-above : (v : List ℕ) (i from t : ℕ) → from + t ≤ 8 → bits_at (8 * i + from) t (bits_of v) ≡ to_bits t (get_or v i 0 / 2 ^ (8 - from - t))
bits_at-above v i from t h =
    let l = 8 - from - t in
    let b = get_or v i 0 in
    bits_at-same (8 * i + from) 0 t (bits_of v) (to_bits t (b / 2 ^ l)) (λ j c.
    let p : 8 * i + from + j ≡ 8 * i + (from + j) = omega arith in
    let q : 8 - suc (from + j) ≡ l + (t - suc j) = omega arith in
    ap (λ (m : ℕ). bit_at m (bits_of v)) p
    ∙ (bit_at-bits_of v i (from + j) (omega arith)
    ∙ (bit_at-to_bits 8 b (from + j) (omega arith)
    ∙ (ap (λ (m : ℕ). odd (b / 2 ^ m)) q
    ∙ (ap odd (sym (shr-shr b l (t - suc j)))
    ∙ (sym (bit_at-to_bits t (b / 2 ^ l) j c) ∙ ap (λ (m : ℕ). bit_at m (to_bits t (b / 2 ^ l))) (sym (zero-add j))))))))
    ∙ (ap (λ (n : ℕ). bits_at 0 n (to_bits t (b / 2 ^ l))) (sym (length-to_bits t (b / 2 ^ l))) ∙ bits_at-all (to_bits t (b / 2 ^ l)))

-- what the loop keeps: the bits read, then those left
abbrev pub reading : (acc at left : ℕ) → List ℕ → ℕ
reading acc at left v = acc * 2 ^ left + from_bits (bits_at at left (bits_of v))

pub reading-all : (f : Field) (v : List ℕ) → reading 0 (begin f) f.type.width v ≡ field_bits f v
unfolding field_bits
reading-all f v = ap (λ (at : ℕ). reading 0 at f.type.width v) (begin-is f) ∙ omega arith

pub reading-end : (acc at : ℕ) (v : List ℕ) → reading acc at 0 v ≡ acc
unfolding from_bits bits_at
reading-end acc at v = omega arith

-- the bits read are no more than the whole
pub reading-le : (acc at left : ℕ) (v : List ℕ) → acc ≤ reading acc at left v
reading-le acc at left v = omega (arith, mul-le-mul_right acc (pow_pos left))

-- where no bit is left, the place does not matter
bits_at-place : (a b n : ℕ) (bs : List Bool) → (0 < n → a ≡ b) → bits_at a n bs ≡ bits_at b n bs
unfolding bits_at
bits_at-place a b zero bs h = refl
bits_at-place a b (suc n) bs h = ap (λ (at : ℕ). bits_at at (suc n) bs) (h (omega arith))

-- a step takes bits of byte i, and the next begins at byte i + 1
pub reading_step : (acc i from left : ℕ) (v : List ℕ) → from < 8 →
    reading (acc * 2 ^ taken from left + bits_above (taken from left) (8 - from - taken from left) (get_or v i 0)) (8 * (i + 1) + 0) (left - taken from left) v
    ≡ reading acc (8 * i + from) left v
reading_step acc i from left v h = sym (go (taken from left) (left - taken from left) (omega arith) (omega arith) (λ l. omega arith))
  where
    sums : (a p q x y : ℕ) → a * (p * q) + (x * q + y) ≡ (a * p + x) * q + y
    sums a p q x y = omega arith

    go : (t m : ℕ) → left ≡ t + m → from + t ≤ 8 → (0 < m → from + t ≡ 8)
        → reading acc (8 * i + from) left v ≡ reading (acc * 2 ^ t + bits_above t (8 - from - t) (get_or v i 0)) (8 * (i + 1) + 0) m v
    go t m s l e =
        let bs = bits_of v in
        let at = 8 * i + from in
        let x = bits_above t (8 - from - t) (get_or v i 0) in
        let y = from_bits (bits_at (at + t) m bs) in
        let byte : from_bits (bits_at at t bs) ≡ x = ap from_bits (bits_at-above v i from t l) ∙ from_bits-to_bits t (get_or v i 0 / 2 ^ (8 - from - t)) in
        ap (λ (n : ℕ). reading acc at n v) s
        ∙ (ap (λ (b : List Bool). acc * 2 ^ (t + m) + from_bits b) (bits_at-append at t m bs)
        ∙ (ap (λ (n : ℕ). acc * 2 ^ (t + m) + n) (from_bits-append (bits_at at t bs) (bits_at (at + t) m bs))
        ∙ (ap (λ (n : ℕ). acc * 2 ^ (t + m) + (from_bits (bits_at at t bs) * 2 ^ n + y)) (length-bits_at (at + t) m bs)
        ∙ (ap (λ (n : ℕ). acc * 2 ^ (t + m) + (n * 2 ^ m + y)) byte
        ∙ (ap (λ (n : ℕ). acc * n + (x * 2 ^ m + y)) (pow-add 2 t m)
        ∙ (sums acc (2 ^ t) (2 ^ m) x y
        ∙ ap (λ (b : List Bool). (acc * 2 ^ t + x) * 2 ^ m + from_bits b) (bits_at-place (at + t) (8 * (i + 1) + 0) m bs (λ c. let p = e c in omega arith))))))))

-- ---- runs of stores

module _ {A : Type 0} where
  sets-cons : (x : A) (l : List A) (i : ℕ) (vs : List A) → sets (x ∷ l) (suc i) vs ≡ x ∷ sets l i vs
  sets-cons x l i [] = refl
  sets-cons x l i (a ∷ vs) = sets-cons x (set l i a) (suc i) vs

  -- behind a first part
  sets-skip : (xs l : List A) (i : ℕ) (vs : List A) → sets (xs ++ l) (length xs + i) vs ≡ xs ++ sets l i vs
  sets-skip [] l i vs = ap (λ (n : ℕ). sets l n vs) (zero-add i)
  sets-skip (x ∷ xs) l i vs =
      let e : suc (length xs) + i ≡ suc (length xs + i) = omega arith in
      ap (λ (n : ℕ). sets (x ∷ (xs ++ l)) n vs) e
      ∙ (sets-cons x (xs ++ l) (length xs + i) vs ∙ ap (λ (r : List A). x ∷ r) (sets-skip xs l i vs))

  -- all of a first part
  sets-front : (xs l vs : List A) → length vs ≡ length xs → sets (xs ++ l) 0 vs ≡ vs ++ l
  sets-front [] l [] h = refl
  sets-front [] l (a ∷ vs) h = absurd (omega arith)
  sets-front (x ∷ xs) l [] h = absurd (omega arith)
  sets-front (x ∷ xs) l (a ∷ vs) h = sets-cons a (xs ++ l) 0 vs ∙ ap (λ (r : List A). a ∷ r) (sets-front xs l vs (omega arith))

  -- within a first part
  sets-left : (xs l : List A) (i : ℕ) (vs : List A) → i + length vs ≤ length xs → sets (xs ++ l) i vs ≡ sets xs i vs ++ l
  sets-left xs l i [] h = refl
  sets-left xs l i (a ∷ vs) h =
      ap (λ (r : List A). sets r (suc i) vs) (set-append_left xs l i a (omega arith))
      ∙ sets-left (set xs i a) l (suc i) vs (omega (arith, length-set xs i a))

  -- one run after another
  sets-append : (l : List A) (i : ℕ) (xs ys : List A) → sets l i (xs ++ ys) ≡ sets (sets l i xs) (i + length xs) ys
  sets-append l i [] ys = ap (λ (n : ℕ). sets l n ys) (sym (add-zero i))
  sets-append l i (x ∷ xs) ys =
      let e : suc i + length xs ≡ i + suc (length xs) = omega arith in
      sets-append (set l i x) (suc i) xs ys ∙ ap (λ (n : ℕ). sets (sets (set l i x) (suc i) xs) n ys) e

  -- where nothing is stored, the place does not matter
  sets-place : (l : List A) (a b : ℕ) (vs : List A) → (0 < length vs → a ≡ b) → sets l a vs ≡ sets l b vs
  sets-place l a b [] h = refl
  sets-place l a b (x ∷ vs) h = ap (λ (at : ℕ). sets l at (x ∷ vs)) (h (omega arith))

-- ---- a byte with some bits replaced

-- x in t bits above the low l stays within t + l bits
two-lt : (t l x y : ℕ) → x < 2 ^ t → y < 2 ^ l → x * 2 ^ l + y < 2 ^ (t + l)
two-lt t l x y p q =
    let m : suc x * 2 ^ l ≤ 2 ^ t * 2 ^ l = mul-le-mul_right (2 ^ l) p in
    omega (arith, pow-add 2 t l)

-- the bits of a number of three pieces
to_bits-three : (r t l h x y : ℕ) → x < 2 ^ t → y < 2 ^ l
    → to_bits (r + (t + l)) (h * 2 ^ (t + l) + (x * 2 ^ l + y)) ≡ to_bits r h ++ (to_bits t x ++ to_bits l y)
to_bits-three r t l h x y p q =
    to_bits-append r (t + l) (h * 2 ^ (t + l) + (x * 2 ^ l + y))
    ∙ ((λ i. to_bits r (high h (t + l) (two-lt t l x y p q) i) ++ to_bits-low (t + l) h (x * 2 ^ l + y) i)
    ∙ ap (λ (b : List Bool). to_bits r h ++ b)
    (to_bits-append t l (x * 2 ^ l + y) ∙ (λ i. to_bits t (high x l q i) ++ to_bits-low l x y i)))

module _ (r t l x b : ℕ) (e : r + (t + l) ≡ 8) (h : x < 2 ^ t) where
  -- it has the new bits in their place
  to_bits-patched : to_bits 8 (patched t l x b) ≡ sets (to_bits 8 b) r (to_bits t x)
  to_bits-patched =
      let hi = to_bits r (b / 2 ^ (t + l)) in
      let lo = to_bits l b in
      let new : to_bits 8 (patched t l x b) ≡ hi ++ (to_bits t x ++ lo) =
      ap (λ (n : ℕ). to_bits n (patched t l x b)) (sym e)
      ∙ (to_bits-three r t l (b / 2 ^ (t + l)) x (b % 2 ^ l) h (mod-lt b (pow_pos l)) ∙ ap (λ (c : List Bool). hi ++ (to_bits t x ++ c)) (to_bits-mod l b)) in
      let old : to_bits 8 b ≡ hi ++ (to_bits t (b / 2 ^ l) ++ lo) =
      ap (λ (n : ℕ). to_bits n b) (sym e) ∙ (to_bits-append r (t + l) b ∙ ap (λ (c : List Bool). hi ++ c) (to_bits-append t l b)) in
      let place : length hi + 0 ≡ r = omega (arith, length-to_bits r (b / 2 ^ (t + l))) in
      new
      ∙ sym
      (ap (λ (c : List Bool). sets c r (to_bits t x)) old
      ∙ (ap (λ (n : ℕ). sets (hi ++ (to_bits t (b / 2 ^ l) ++ lo)) n (to_bits t x)) (sym place)
      ∙ (sets-skip hi (to_bits t (b / 2 ^ l) ++ lo) 0 (to_bits t x)
      ∙ ap (λ (c : List Bool). hi ++ c) (sets-front (to_bits t (b / 2 ^ l)) lo (to_bits t x) (length-to_bits t x ∙ sym (length-to_bits t (b / 2 ^ l)))))))

  -- and is a byte
  pub patched-lt : b < 256 → patched t l x b < 256
  patched-lt s =
      let small : b < 2 ^ (r + (t + l)) = subst (λ (n : ℕ). b < 2 ^ n) (sym e) s in
      let low = two-lt t l x (b % 2 ^ l) h (mod-lt b (pow_pos l)) in
      subst (λ (n : ℕ). patched t l x b < 2 ^ n) e (two-lt r (t + l) (b / 2 ^ (t + l)) (x * 2 ^ l + b % 2 ^ l) (shr_lt r (t + l) small) low)

-- ---- writing

-- a byte stored anew, in bits
bits_of-set : (v : List ℕ) (i r x : ℕ) (vs : List Bool) → i < length v → r + length vs ≤ 8 → to_bits 8 x ≡ sets (to_bits 8 (get_or v i 0)) r vs
    → bits_of (set v i x) ≡ sets (bits_of v) (8 * i + r) vs
unfolding bits_of
bits_of-set [] i r x vs h l e = absurd (omega arith)
bits_of-set (b ∷ v) zero r x vs h l e =
    ap (λ (c : List Bool). c ++ bits_of v) e
    ∙ (sym (sets-left (to_bits 8 b) (bits_of v) r vs (omega (arith, length-to_bits 8 b))) ∙ ap (λ (n : ℕ). sets (to_bits 8 b ++ bits_of v) n vs) (sym (zero-add r)))
bits_of-set (b ∷ v) (suc i) r x vs h l e =
    let p : length (to_bits 8 b) + (8 * i + r) ≡ 8 * suc i + r = omega (arith, length-to_bits 8 b) in
    ap (λ (c : List Bool). to_bits 8 b ++ c) (bits_of-set v i r x vs (omega arith) l e)
    ∙ (sym (sets-skip (to_bits 8 b) (bits_of v) (8 * i + r) vs) ∙ ap (λ (n : ℕ). sets (to_bits 8 b ++ bits_of v) n vs) p)

pub bytes-set : (v : List ℕ) (i x : ℕ) → Bytes v → x < 256 → Bytes (set v i x)
bytes-set [] i x h l j = omega arith
bytes-set (b ∷ v) zero x h l zero = l
bytes-set (b ∷ v) zero x h l (suc j) = h (suc j)
bytes-set (b ∷ v) (suc i) x h l zero = h 0
bytes-set (b ∷ v) (suc i) x h l (suc j) = bytes-set v i x (λ k. h (suc k)) l j

-- what the loop keeps: the bits that the value is to have
abbrev pub writing : (at left x : ℕ) → List ℕ → List Bool
writing at left x v = sets (bits_of v) at (to_bits left x)

-- byte i with the next t bits of x, of which m are left
abbrev step_byte : (i from t m x : ℕ) → List ℕ → ℕ
step_byte i from t m x v = patched t (8 - from - t) (bits_above t m x) (get_or v i 0)

-- a step stores byte i, and the next begins at byte i + 1
pub writing_step : (i from left x : ℕ) (v : List ℕ) → from < 8 → i < length v →
    writing (8 * (i + 1) + 0) (left - taken from left) x (set v i (step_byte i from (taken from left) (left - taken from left) x v))
    ≡ writing (8 * i + from) left x v
writing_step i from left x v h l = go (taken from left) (left - taken from left) (omega arith) (omega arith) (λ c. omega arith)
  where
    go : (t m : ℕ) → t + m ≡ left → from + t ≤ 8 → (0 < m → from + t ≡ 8)
        → writing (8 * (i + 1) + 0) m x (set v i (step_byte i from t m x v)) ≡ writing (8 * i + from) left x v
    go t m s f e =
        let at = 8 * i + from in
        let p = bits_above t m x in
        let bs = to_bits t p in
        let n : length bs ≡ t = length-to_bits t p in
        let k : length (to_bits m x) ≡ m = length-to_bits m x in
        let byte : bits_of (set v i (step_byte i from t m x v)) ≡ sets (bits_of v) at bs =
        bits_of-set v i from (step_byte i from t m x v) bs l (omega arith)
        (to_bits-patched from t (8 - from - t) p (get_or v i 0) (omega arith) (mod-lt (x / 2 ^ m) (pow_pos t))) in
        ap (λ (c : List Bool). sets c (8 * (i + 1) + 0) (to_bits m x)) byte
        ∙ (sets-place (sets (bits_of v) at bs) (8 * (i + 1) + 0) (at + length bs) (to_bits m x) (λ c. let q = e (omega arith) in omega arith)
        ∙ (sym (sets-append (bits_of v) at bs (to_bits m x))
        ∙ (ap (λ (c : List Bool). sets (bits_of v) at (c ++ to_bits m x)) (to_bits-mod t (x / 2 ^ m))
        ∙ (ap (sets (bits_of v) at) (sym (to_bits-append t m x)) ∙ ap (λ (j : ℕ). writing at j x v) s))))

-- a value that holds the field does not grow
grown-same : (f : Field) (v : List ℕ) → 1 ≤ f.type.width → end_bit f ≤ 8 * length v → grown f v ≡ v
grown-same f v w h =
    let e : suc (last_byte f) - length v ≡ 0 = omega arith in
    ap (λ (n : ℕ). v ++ replicate n 0) e ∙ append-nil v

-- bytes that have the bits to be written are the value with the field set
pub writing-all : (f : Field) (x : ℕ) (v w : List ℕ) (at : ℕ) → 1 ≤ f.type.width → end_bit f ≤ 8 * length v → Bytes w
    → writing at 0 x w ≡ writing (begin f) f.type.width x v → w ≡ set_field_bits f x v
unfolding to_bits
writing-all f x v w at n h b e =
    bits_of-eq w (set_field_bits f x v) b (bytes-set_field_bits f v x)
    (e ∙ ((λ i. writing (begin-is f i) f.type.width x (sym (grown-same f v n h) i)) ∙ sym (bits_of-set_field_bits f v x)))
