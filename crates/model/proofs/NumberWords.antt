-- Number words. Which texts say a number: a sign, zeros and the number's short text, of twenty digits at most. So every short form reads as it
-- did, two texts of one number read alike, and what was read is written again in the short form.
use mathlib.Core.Path.{◌≡◌, refl, sym, ap, ◌∙◌, subst}
use mathlib.Core.Bool.{Bool, true, false, cond, ◌&&◌}
use mathlib.Core.List.{List, [], ◌∷◌, ◌++◌}
use mathlib.Core.Option.{Option, none, some, map}
use Prim.Native.Nat.{ℕ, zero, suc, ◌+◌, ◌^◌, ◌≤◌, ◌<◌}
use native.Mathlib.Omega.{arith}
use native.Mathlib.Nat.{pow-le-pow_right, zero-add}
use lib.ListN.{length, replicate}
use lib.Dec.{ltb, leb, eqb}
use lib.IntN.{ℤ, pos, negsuc, neg_ℤ, nat_abs}
use borrow.Author.Tests.{ltb-true, lt-ltb, le-leb, lt-leb, leb-true, ne_eqb, eqb-true}
use Rattle.model.specs.Optional.{◌>>=◌, only}
use Rattle.model.specs.Number.{nat_text, int_text, read_digits, read_positive, is_zero, read_nat, read_magnitude, read_int, is_signed, natural, read_below, read_signed, read_version, read_flags, signed_limit, version_limit, flags_limit}
use Rattle.model.specs.NumberForms.{Sign, bare, plus, minus, sign_text, signed, with_zeros, Says, read_short}
use Rattle.model.proofs.Basics.{and_left, and_right, some-eq, none-some, cond-some, only-some, only-passes, map-some, came}
use Rattle.model.proofs.Numbers.{Digits, digit-range, nat_text-digits, length-nat_text, read_digits-nat_text, read_nat-nat_text, read_nat-least, read_nat-digit, read_nat-digits, zero-text, read_below_lem, read_positive-nat_text, read_positive-least, nat_text-read_positive, nat_text-read_nat}

-- ---- digits

zeros-read : (k : ℕ) (s : List ℕ) → read_digits 0 (replicate k 48 ++ s) ≡ read_digits 0 s
zeros-read zero s = refl
zeros-read (suc k) s = zeros-read k s

zeros-digits : (k : ℕ) (s : List ℕ) → Digits s → Digits (replicate k 48 ++ s)
zeros-digits zero s h = h
zeros-digits (suc k) s h = (refl, zeros-digits k s h)

length-zeros : (k : ℕ) (s : List ℕ) → length (replicate k 48 ++ s) ≡ k + length s
length-zeros zero s = omega arith
length-zeros (suc k) s = omega (arith, length-zeros k s)

-- no digit is none
pub magnitude-none : (s : List ℕ) → length s ≡ 0 → read_magnitude s ≡ none
magnitude-none [] e = refl
magnitude-none (c ∷ s) e = absurd (omega arith)

pub magnitude-digits : (s : List ℕ) → 1 ≤ length s → length s ≤ 20 → read_magnitude s ≡ read_digits 0 s
magnitude-digits s l h = rw (le-leb 1 (length s) l, le-leb (length s) 20 h)

-- more than twenty digits are none
pub magnitude-long : (s : List ℕ) → 20 < length s → read_magnitude s ≡ none
magnitude-long s h = rw (le-leb 1 (length s) (omega arith), lt-leb (length s) 20 h)

-- a sign says nothing of the digits after it
read-sign : (g : Sign) (s : List ℕ) → Digits s → 1 ≤ length s → read_int (sign_text g ++ s) ≡ map (signed g) (read_magnitude s)
read-sign bare [] h l = absurd (omega arith)
read-sign bare (c ∷ s) h l =
    let d = digit-range c h.0 in
    rw (ne_eqb c 45 (λ z. omega (arith, d.least)), ne_eqb c 43 (λ z. omega (arith, d.least)))
read-sign plus s h l = refl
read-sign minus s h l = refl

-- ---- a text reads as the number that it says, and as no other

says-digits : (k n : ℕ) → Digits (with_zeros k n)
says-digits k n = zeros-digits k (nat_text n) (nat_text-digits n)

nat_text-least : (n : ℕ) → n < 10 ^ 20 → 1 ≤ length (nat_text n)
nat_text-least n h = read_nat-least (nat_text n) n (read_nat-nat_text n h)

pub says-read : {s : List ℕ} {z : ℤ} → Says s z → read_int s ≡ some z
says-read {s = s} {z = z} h =
    let l = length-zeros h.zeros (nat_text h.magnitude) in
    let least = nat_text-least h.magnitude h.small in
    let t = with_zeros h.zeros h.magnitude in
    ap read_int h.text
    ∙ (read-sign h.sign t (says-digits h.zeros h.magnitude) (omega (arith, l, least))
    ∙ (ap (map (signed h.sign))
    (magnitude-digits t (omega (arith, l, least)) (omega (arith, l, h.few))
    ∙ (zeros-read h.zeros (nat_text h.magnitude) ∙ read_digits-nat_text h.magnitude h.small))
    ∙ ap some (sym h.value)))

-- digits are zeros and the text of the number that they say
record Padded (s : List ℕ) (n : ℕ) : Type 0 where
  zeros : ℕ
  text : s ≡ with_zeros zeros n

padded : (s : List ℕ) (n : ℕ) → 1 ≤ length s → n < 10 ^ 20 → read_digits 0 s ≡ some n → Padded s n
padded [] n l h e = absurd (omega arith)
padded (c ∷ []) n l h e = record { zeros = 0; text = nat_text-read_nat (c ∷ []) n (read_nat-digit c ∙ e) h }
padded (c ∷ d ∷ s) n l h e = go (eqb c 48) refl (λ q. padded (d ∷ s) n (omega arith) h (first q))
  where
    first : c ≡ 48 → read_digits 0 (d ∷ s) ≡ some n
    first q = sym (ap (λ (x : ℕ). read_digits 0 (x ∷ d ∷ s)) q) ∙ e

    go : (b : Bool) → eqb c 48 ≡ b → (c ≡ 48 → Padded (d ∷ s) n) → Padded (c ∷ d ∷ s) n
    go true q more =
        let m = more (eqb-true c 48 q) in
        record { zeros = suc m.zeros; text = (λ i. eqb-true c 48 q i ∷ m.text i) }
    go false q more = record { zeros = 0; text = nat_text-read_positive (c ∷ d ∷ s) n (rw q e) h }

says : (g : Sign) (s : List ℕ) (n : ℕ) → read_magnitude s ≡ some n → Says (sign_text g ++ s) (signed g n)
says g s n e =
    let q = cond-some (leb 1 (length s) && leb (length s) 20) (read_digits 0 s) n e in
    let least = leb-true 1 (length s) (and_left (leb 1 (length s)) (leb (length s) 20) q.0) in
    let most = leb-true (length s) 20 (and_right (leb 1 (length s)) (leb (length s) 20) q.0) in
    let below : n < 10 ^ length s = rw (zero-add (length s)) at (read_below_lem 0 0 n s (omega arith) q.1) in
    let power : 10 ^ length s ≤ 10 ^ 20 = pow-le-pow_right {n = 10} (omega arith) most in
    let small : n < 10 ^ 20 = omega arith in
    let p = padded s n least small q.1 in
    record {
      sign = g;
      zeros = p.zeros;
      magnitude = n;
      text = ap (λ t. sign_text g ++ t) p.text;
      value = refl;
      small = small;
      few = omega (arith, length-zeros p.zeros (nat_text n), ap length p.text);
    }

pub read-says : (s : List ℕ) (z : ℤ) → read_int s ≡ some z → Says s z
read-says [] z e = none-some z e
read-says (c ∷ s) z e = first (eqb c 45) refl e
  where
    by_sign : (g : Sign) (t : List ℕ) → sign_text g ++ t ≡ c ∷ s → map (signed g) (read_magnitude t) ≡ some z → Says (c ∷ s) z
    by_sign g t q r =
        let m = map-some (signed g) (read_magnitude t) z r in
        subst (λ (y : ℤ). Says (c ∷ s) y) m.2 (subst (λ u. Says u (signed g m.0)) q (says g t m.0 m.1))

    second : (b : Bool) → eqb c 43 ≡ b → map pos (read_magnitude (cond b s (c ∷ s))) ≡ some z → Says (c ∷ s) z
    second true q r = by_sign plus s (ap (λ (x : ℕ). x ∷ s) (sym (eqb-true c 43 q))) r
    second false q r = by_sign bare (c ∷ s) refl r

    first : (b : Bool) → eqb c 45 ≡ b
        → cond b (map (λ n. neg_ℤ (pos n)) (read_magnitude s)) (map pos (read_magnitude (cond (eqb c 43) s (c ∷ s)))) ≡ some z → Says (c ∷ s) z
    first true q r = by_sign minus s (ap (λ (x : ℕ). x ∷ s) (sym (eqb-true c 45 q))) r
    first false q r = second (eqb c 43) refl r

-- two texts of one number read alike
pub alike : {s t : List ℕ} {z : ℤ} → Says s z → Says t z → read_int s ≡ read_int t
alike p q = says-read p ∙ sym (says-read q)

-- more than twenty digits are no number, whatever the sign
pub too_long : (g : Sign) (s : List ℕ) → Digits s → 20 < length s → read_int (sign_text g ++ s) ≡ none
too_long g s h l = read-sign g s h (omega arith) ∙ ap (map (signed g)) (magnitude-long s l)

-- ---- the short form

read_short-digits : (l : List ℕ) → Digits l → read_short l ≡ map pos (read_nat l)
read_short-digits [] h = refl
read_short-digits (c ∷ l) h = rw (ne_eqb c 45 (λ z. omega (arith, (digit-range c h.0).least)))

read_short-nat_text : (x : ℕ) → x < 10 ^ 20 → read_short (nat_text x) ≡ some (pos x)
read_short-nat_text x h = read_short-digits (nat_text x) (nat_text-digits x) ∙ ap (map pos) (read_nat-nat_text x h)

pub read_short-int_text : (z : ℤ) → nat_abs z < 10 ^ 20 → read_short (int_text z) ≡ some z
read_short-int_text (pos n) h = read_short-nat_text n h
read_short-int_text (negsuc n) h = ap (map (λ n. neg_ℤ (pos n))) (read_positive-nat_text n h)

pub int_text-read_short : (s : List ℕ) (z : ℤ) → read_short s ≡ some z → nat_abs z < 10 ^ 20 → s ≡ int_text z
int_text-read_short [] z e h = none-some z e
int_text-read_short (c ∷ s) z e h = go (eqb c 45) refl e
  where
    minus : (x : ℕ) → read_positive s ≡ some x → neg_ℤ (pos x) ≡ z → c ≡ 45 → c ∷ s ≡ int_text z
    minus zero r q p = absurd (omega (arith, read_positive-least s 0 r))
    minus (suc x) r q p =
        let t : s ≡ nat_text (suc x) = nat_text-read_positive s (suc x) r (subst (λ (y : ℤ). nat_abs y < 10 ^ 20) (sym q) h) in
        (λ i. p i ∷ t i) ∙ ap int_text q

    go : (b : Bool) → eqb c 45 ≡ b → cond b (map (λ n. neg_ℤ (pos n)) (read_positive s)) (map pos (read_nat (c ∷ s))) ≡ some z
        → c ∷ s ≡ int_text z
    go true p r = let m = map-some (λ n. neg_ℤ (pos n)) (read_positive s) z r in minus m.0 m.1 m.2 (eqb-true c 45 p)
    go false p r =
        let m = map-some pos (read_nat (c ∷ s)) z r in
        nat_text-read_nat (c ∷ s) m.0 m.1 (subst (λ (y : ℤ). nat_abs y < 10 ^ 20) (sym m.2) h) ∙ ap int_text m.2

-- the short form is one of the texts of a number
short-says : (z : ℤ) → nat_abs z < 10 ^ 20 → Says (int_text z) z
short-says (pos n) h =
    record { sign = bare; zeros = 0; magnitude = n; text = refl; value = refl; small = h; few = omega (arith, length-nat_text 19 n h) }
short-says (negsuc n) h =
    record { sign = minus; zeros = 0; magnitude = suc n; text = refl; value = refl; small = h; few = omega (arith, length-nat_text 19 (suc n) h) }

pub read_int-int_text : (z : ℤ) → nat_abs z < 10 ^ 20 → read_int (int_text z) ≡ some z
read_int-int_text z h = says-read (short-says z h)

pub read_int-short : (s : List ℕ) (z : ℤ) → nat_abs z < 10 ^ 20 → read_short s ≡ some z → read_int s ≡ some z
read_int-short s z h e = ap read_int (int_text-read_short s z e h) ∙ read_int-int_text z h

abs-signed-by : (g : Sign) (n : ℕ) → nat_abs (signed g n) ≡ n
abs-signed-by bare n = refl
abs-signed-by plus n = refl
abs-signed-by minus zero = refl
abs-signed-by minus (suc n) = refl

-- what reads as a number has a magnitude of twenty digits
read_small : (s : List ℕ) (z : ℤ) → read_int s ≡ some z → nat_abs z < 10 ^ 20
read_small s z e =
    let h = read-says s z e in
    omega (arith, h.small, ap nat_abs h.value, abs-signed-by h.sign h.magnitude)

-- digits after a sign or none say one number, in whichever form
positive-read : (s : List ℕ) (n : ℕ) → read_positive s ≡ some n → read_digits 0 s ≡ some n
positive-read [] n e = none-some n e
positive-read (c ∷ s) n e = go (eqb c 48) e
  where
    go : (b : Bool) → cond b none (read_digits 0 (c ∷ s)) ≡ some n → read_digits 0 (c ∷ s) ≡ some n
    go true r = none-some n r
    go false r = r

nat-read : (s : List ℕ) (n : ℕ) → read_nat s ≡ some n → read_digits 0 s ≡ some n
nat-read s n e = go (is_zero s) refl e
  where
    go : (b : Bool) → is_zero s ≡ b → cond b (some 0) (read_positive s) ≡ some n → read_digits 0 s ≡ some n
    go true z r = ap (read_digits 0) (zero-text s z) ∙ r
    go false z r = positive-read s n r

same_read : (s : List ℕ) (m n : ℕ) → read_magnitude s ≡ some m → read_digits 0 s ≡ some n → m ≡ n
same_read s m n e f = some-eq (sym (cond-some (leb 1 (length s) && leb (length s) 20) (read_digits 0 s) m e).1 ∙ f)

-- where both forms read a text, they read one number
agree : (s : List ℕ) (y z : ℤ) → read_int s ≡ some y → read_short s ≡ some z → y ≡ z
agree [] y z e f = none-some y e
agree (c ∷ s) y z e f = first (eqb c 45) e f
  where
    second : (b : Bool) → eqb c 43 ≡ b → map pos (read_magnitude (cond b s (c ∷ s))) ≡ some y → map pos (read_nat (c ∷ s)) ≡ some z → y ≡ z
    second true q e f =
        let n = map-some pos (read_nat (c ∷ s)) z f in
        absurd (omega (arith, eqb-true c 43 q, (digit-range c (read_nat-digits (c ∷ s) n.0 n.1).0).least))
    second false q e f =
        let m = map-some pos (read_magnitude (c ∷ s)) y e in
        let n = map-some pos (read_nat (c ∷ s)) z f in
        sym m.2 ∙ (ap (λ (x : ℕ). pos x) (same_read (c ∷ s) m.0 n.0 m.1 (nat-read (c ∷ s) n.0 n.1)) ∙ n.2)

    first : (b : Bool)
        → cond b (map (λ n. neg_ℤ (pos n)) (read_magnitude s)) (map pos (read_magnitude (cond (eqb c 43) s (c ∷ s)))) ≡ some y
        → cond b (map (λ n. neg_ℤ (pos n)) (read_positive s)) (map pos (read_nat (c ∷ s))) ≡ some z → y ≡ z
    first true e f =
        let m = map-some (λ n. neg_ℤ (pos n)) (read_magnitude s) y e in
        let n = map-some (λ n. neg_ℤ (pos n)) (read_positive s) z f in
        sym m.2 ∙ (ap (λ (x : ℕ). neg_ℤ (pos x)) (same_read s m.0 n.0 m.1 (positive-read s n.0 n.1)) ∙ n.2)
    first false e f = second (eqb c 43) refl e f

-- every short form reads as before in each range p of at most twenty digits: the same number, or none where that is out of it
module _ (p : ℤ → Bool) (small : (z : ℤ) → p z ≡ true → nat_abs z < 10 ^ 20) where
  pub short-same : (s : List ℕ) (z : ℤ) → read_short s ≡ some z → only p (read_int s) ≡ only p (read_short s)
  short-same s z e = go (p z) refl ∙ ap (only p) (sym e)
    where
      out : (o : Option ℤ) → read_int s ≡ o → p z ≡ false → only p o ≡ none
      out none q h = refl
      out (some y) q h = ap (λ x. only p (some x)) (agree s y z q e) ∙ rw h

      go : (b : Bool) → p z ≡ b → only p (read_int s) ≡ only p (some z)
      go true h = ap (only p) (read_int-short s z (small z h) e)
      go false h = out (read_int s) refl h ∙ rw h

-- ---- number words

abs-signed : (z : ℤ) → is_signed z ≡ true → nat_abs z < 10 ^ 20
abs-signed (pos n) h = omega (arith, ltb-true n signed_limit h)
abs-signed (negsuc n) h = omega (arith, ltb-true n signed_limit h)

pub read_signed-int_text : (z : ℤ) → is_signed z ≡ true → read_signed (int_text z) ≡ some z
unfolding read_signed
read_signed-int_text z h = only-passes is_signed (read_int (int_text z)) z (read_int-int_text z (abs-signed z h)) h

-- what was read is written again in the short form, of which a number has one
pub rewritten : (s : List ℕ) (z : ℤ) → read_int s ≡ some z → read_short (int_text z) ≡ some z
rewritten s z e = read_short-int_text z (read_small s z e)

-- a signed number is read of every text that says it, and of no other
pub read_signed-says : {s : List ℕ} {z : ℤ} → Says s z → is_signed z ≡ true → read_signed s ≡ some z
unfolding read_signed
read_signed-says {s = s} {z = z} h r = only-passes is_signed (read_int s) z (says-read h) r

pub says-read_signed : (s : List ℕ) (z : ℤ) → read_signed s ≡ some z → Says s z
unfolding read_signed
says-read_signed s z e = read-says s z (only-some is_signed (read_int s) z e).0

pub read_signed-same : (s : List ℕ) (z : ℤ) → read_short s ≡ some z → read_signed s ≡ only is_signed (read_short s)
unfolding read_signed
read_signed-same = short-same is_signed abs-signed

pub read_signed-short : (s : List ℕ) (z : ℤ) → only is_signed (read_short s) ≡ some z → read_signed s ≡ some z
unfolding read_signed
read_signed-short s z e =
    let q = only-some is_signed (read_short s) z e in
    only-passes is_signed (read_int s) z (read_int-short s z (abs-signed z q.1) q.0) q.1

module _ (limit : ℕ) (small : limit ≤ 10 ^ 20) where
  pub read_below-nat_text : (x : ℕ) → x < limit → read_below limit (nat_text x) ≡ some x
  read_below-nat_text x h = rw (read_int-int_text (pos x) (omega arith), lt-ltb x limit h)

  pub read_below-short : (s : List ℕ) (x : ℕ) → only (λ n. ltb n limit) (read_short s >>= natural) ≡ some x → read_below limit s ≡ some x
  read_below-short s x e =
      let q = only-some (λ n. ltb n limit) (read_short s >>= natural) x e in
      came (read_short s) natural q.0 λ z r h. go z r h (ltb-true x limit q.1)
    where
      go : (z : ℤ) → read_short s ≡ some z → natural z ≡ some x → x < limit → read_below limit s ≡ some x
      go (pos n) r h l =
          let same : n ≡ x = some-eq h in
          rw (read_int-short s (pos n) (omega arith) r, same, lt-ltb x limit l)
      go (negsuc n) r h l = none-some x h

  -- and so is a natural number
  pub read_below-says : {s : List ℕ} {n : ℕ} → Says s (pos n) → n < limit → read_below limit s ≡ some n
  read_below-says {n = n} h l = rw (says-read h, lt-ltb n limit l)

  pub says-read_below : (s : List ℕ) (n : ℕ) → read_below limit s ≡ some n → Says s (pos n)
  says-read_below s n e =
      let q = only-some (λ n. ltb n limit) (read_int s >>= natural) n e in
      came (read_int s) natural q.0 λ z r h. go z r h
    where
      go : (z : ℤ) → read_int s ≡ some z → natural z ≡ some n → Says s (pos n)
      go (pos m) r h = read-says s (pos n) (r ∙ ap (λ (x : ℕ). some (pos x)) (some-eq h))
      go (negsuc m) r h = none-some n h

pub read_version-says : {s : List ℕ} {n : ℕ} → Says s (pos n) → n < version_limit → read_version s ≡ some n
unfolding read_version
read_version-says h l = read_below-says version_limit (omega arith) h l

pub says-read_version : (s : List ℕ) (n : ℕ) → read_version s ≡ some n → Says s (pos n)
unfolding read_version
says-read_version s n e = says-read_below version_limit (omega arith) s n e

pub read_flags-says : {s : List ℕ} {n : ℕ} → Says s (pos n) → n < flags_limit → read_flags s ≡ some n
unfolding read_flags
read_flags-says h l = read_below-says flags_limit (omega arith) h l

pub says-read_flags : (s : List ℕ) (n : ℕ) → read_flags s ≡ some n → Says s (pos n)
unfolding read_flags
says-read_flags s n e = says-read_below flags_limit (omega arith) s n e

pub read_version-nat_text : (x : ℕ) → x < version_limit → read_version (nat_text x) ≡ some x
unfolding read_version
read_version-nat_text x h = read_below-nat_text version_limit (omega arith) x h

pub read_version-below : (s : List ℕ) (x : ℕ) → read_version s ≡ some x → x < version_limit
unfolding read_version
read_version-below s x e = ltb-true x version_limit (only-some (λ n. ltb n version_limit) (read_int s >>= natural) x e).1

pub read_flags-below : (s : List ℕ) (x : ℕ) → read_flags s ≡ some x → x < flags_limit
unfolding read_flags
read_flags-below s x e = ltb-true x flags_limit (only-some (λ n. ltb n flags_limit) (read_int s >>= natural) x e).1
