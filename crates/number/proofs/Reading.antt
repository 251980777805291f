-- Laws of the model's reading of numbers: what one digit more says of the whole text, and what the first byte says of the rest.
-- Assumes nothing.
use mathlib.Core.Path.{◌≡◌, refl, sym, ap, ◌∙◌}
use mathlib.Core.Bool.{Bool, true, false, cond, not-eq-not}
use mathlib.Core.List.{List, [], ◌∷◌}
use mathlib.Core.Option.{Option, none, some, map}
use Prim.Native.Nat.{ℕ, zero, suc, ◌+◌, ◌-◌, ◌*◌, ◌^◌, ◌≤◌, ◌<◌}
use native.Mathlib.Omega.{arith}
use lib.Dec.{ltb, eqb}
use lib.ListN.{length, get_or, drop, take, length-drop}
use lib.Seq.{take_all}
use lib.IntN.{ℤ, pos, negsuc, neg_ℤ}
use borrow.Author.Tests.{le-ltb, lt-ltb, ne_eqb, leb-true, leb-false, ltb-true, ltb-false, eqb-true, eqb-false}
use Rattle.model.specs.Optional.{◌>>=◌, only}
use Rattle.model.specs.Number.{is_digit, read_digits, read_magnitude, read_int, is_signed, natural, read_below, read_signed, signed_limit}
use Rattle.model.proofs.Basics.{only-some, map-some}
use Rattle.std.specs.Prelude.{Some, None}
use Rattle.std.specs.Prelude as code
use Rattle.outcome.specs.Outcome.{from_model}
use Rattle.number.specs.Answer.{sign_length, negative_from}

-- ---- what the answer says of what was read

pub signed-bad : {A : Type 0} (o : Option A) → None ≡ from_model o → o ≡ none
signed-bad none e = refl
signed-bad (some z) e = cc

pub signed-value : {A : Type 0} (o : Option A) (z : A) → Some z ≡ from_model o → o ≡ some z
signed-value none z e = cc
signed-value (some y) z e = cc

-- ---- minus a number, as an answer

pub negative-in : (n : ℕ) → n ≤ 2 ^ 63 → negative_from (some n) ≡ Some (neg_ℤ (pos n))
negative-in zero h = refl
negative-in (suc n) h = simp (lt-ltb n (2 ^ 63) h)

pub negative-out : (n : ℕ) → 2 ^ 63 < n → negative_from (some n) ≡ None
negative-out zero h = absurd (omega arith)
negative-out (suc n) h = simp (le-ltb n (2 ^ 63) (omega arith))

-- what the answer `Some v` says of what was read
pub record Negative (o : Option ℕ) (v : ℤ) : Type 0 where
  pub n : ℕ
  pub is : o ≡ some n
  pub small : n ≤ 2 ^ 63
  pub value : v ≡ neg_ℤ (pos n)

pub negative : (o : Option ℕ) (v : ℤ) → Some v ≡ negative_from o → Negative o v
negative o v e =
    let q = only-some is_signed (map (λ n. neg_ℤ (pos n)) o) v (signed-value _ v e) in
    let m = map-some (λ n. neg_ℤ (pos n)) o v q.0 in
    record { n = m.0; is = m.1; small = size m.0 (ap is_signed m.2 ∙ q.1); value = sym m.2 }
  where
    size : (n : ℕ) → is_signed (neg_ℤ (pos n)) ≡ true → n ≤ 2 ^ 63
    size zero h = omega arith
    size (suc n) h = ltb-true n (2 ^ 63) h

-- what the answer `None` says of it
pub out : (n : ℕ) → None ≡ negative_from (some n) → 2 ^ 63 < n
out n e = leb-false n (2 ^ 63) (not-eq-not.0 (λ l. let f = negative-in n (leb-true n (2 ^ 63) l) in cc))

-- ---- digits

-- the first digit, then the rest
first_by : (n : ℕ) (s : List ℕ) (t : Bool) → cond t (read_digits n s) none ≡ (cond t (some n) none >>= λ k. read_digits k s)
first_by n s true = refl
first_by n s false = refl

pub first : (m c : ℕ) (s : List ℕ) → read_digits m (c ∷ s) ≡ (read_digits m (c ∷ []) >>= λ k. read_digits k s)
first m c s = first_by (10 * m + (c - 48)) s (is_digit c)

-- digits only add, so a number that is out of range stays so
past_by : (n : ℕ) (s : List ℕ) (t : Bool) → negative_from (read_digits n s) ≡ None → negative_from (cond t (read_digits n s) none) ≡ None
past_by n s true e = e
past_by n s false e = refl

past : (n : ℕ) (s : List ℕ) → 2 ^ 63 < n → negative_from (read_digits n s) ≡ None
past n [] h = negative-out n h
past n (c ∷ s) h = past_by (10 * n + (c - 48)) s (is_digit c) (past (10 * n + (c - 48)) s (omega arith))

pub stays-bad : (o : Option ℕ) (s : List ℕ) → None ≡ negative_from o → None ≡ negative_from (o >>= λ n. read_digits n s)
stays-bad none s e = refl
stays-bad (some n) s e = sym (past n s (out n e))

-- ---- signed numbers

-- without a minus
abbrev pub plain_from : Option ℕ → code.Option ℤ
plain_from o = from_model (only is_signed (map pos o))

plain-bad : (o : Option ℕ) → None ≡ negative_from o → plain_from o ≡ None
plain-bad none e = refl
plain-bad (some n) e = let h = out n e in simp (le-ltb n (2 ^ 63) (omega arith))

pub plain_out : {o : Option ℕ} {v : ℤ} (r : Negative o v) → 2 ^ 63 ≤ r.n → plain_from o ≡ None
plain_out r h = simp (r.is, le-ltb r.n (2 ^ 63) h)

pub plain_in : {o : Option ℕ} {v : ℤ} (r : Negative o v) → r.n < 2 ^ 63 → plain_from o ≡ Some (pos r.n)
plain_in r h = simp (r.is, lt-ltb r.n (2 ^ 63) h)

-- the text by its first byte
pub text-none : (s : List ℕ) → length s ≡ 0 → None ≡ from_model (read_signed s)
unfolding read_signed
text-none [] e = refl
text-none (c ∷ s) e = absurd (omega arith)

-- what stands after the sign
abbrev pub unsigned : List ℕ → List ℕ
unsigned s = drop (sign_length (get_or s 0 0)) s

pub text-minus : (s : List ℕ) → (length s ≡ 0 → ⊥) → get_or s 0 0 ≡ 45 → from_model (read_signed s) ≡ negative_from (read_magnitude (unsigned s))
unfolding read_signed
text-minus [] n e = absurd (n refl)
text-minus (c ∷ s) n e = simp e

pub text-other : (s : List ℕ) → (length s ≡ 0 → ⊥) → (get_or s 0 0 ≡ 45 → ⊥) → from_model (read_signed s) ≡ plain_from (read_magnitude (unsigned s))
unfolding read_signed
text-other [] n e = absurd (n refl)
text-other (c ∷ s) n e = go (eqb c 43) refl
  where
    go : (b : Bool) → eqb c 43 ≡ b → from_model (read_signed (c ∷ s)) ≡ plain_from (read_magnitude (unsigned (c ∷ s)))
    go true f = simp (ne_eqb c 45 e, f)
    go false f = simp (ne_eqb c 45 e, f)

-- what is out of range below 0 is so above
pub text-bad : (s : List ℕ) → (length s ≡ 0 → ⊥) → None ≡ negative_from (read_magnitude (unsigned s)) → None ≡ from_model (read_signed s)
text-bad s n e = go (eqb (get_or s 0 0) 45) refl
  where
    go : (b : Bool) → eqb (get_or s 0 0) 45 ≡ b → None ≡ from_model (read_signed s)
    go true f = e ∙ sym (text-minus s n (eqb-true (get_or s 0 0) 45 f))
    go false f = sym (text-other s n (eqb-false (get_or s 0 0) 45 f) ∙ plain-bad (read_magnitude (unsigned s)) e)

-- the part from a place on
pub rest-is : (k : ℕ) (s : List ℕ) → take (length s - k) (drop k s) ≡ drop k s
rest-is k s = take_all (length s - k) (drop k s) (simp length-drop (omega arith))

-- ---- natural numbers below a limit

-- below a limit in the signed range, the signed range is no further test
module _ (limit : ℕ) (h : limit ≤ signed_limit) where
  abbrev below : ℤ → Bool → Option ℕ
  below z t = only (λ n. ltb n limit) (cond t (some z) none >>= natural)

  below_by : (z : ℤ) (t : Bool) → is_signed z ≡ t → below z true ≡ below z t
  below_by z true e = refl
  below_by (pos n) false e = let l = ltb-false n (2 ^ 63) e in simp (le-ltb n limit (omega arith))
  below_by (negsuc n) false e = refl

  below_of : (o : Option ℤ) → only (λ n. ltb n limit) (o >>= natural) ≡ only (λ n. ltb n limit) (only is_signed o >>= natural)
  below_of none = refl
  below_of (some z) = below_by z (is_signed z) refl

  pub below-signed : (s : List ℕ) → read_below limit s ≡ only (λ n. ltb n limit) (read_signed s >>= natural)
  unfolding read_signed
  below-signed s = below_of (read_int s)
