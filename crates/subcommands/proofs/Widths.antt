-- A type's width by its digits: what one or two say, and that more say no width of a type.
use Rattle.std.specs.Prelude.{Some, None}
use Rattle.outcome.specs.Outcome.{from_model}
use Prim.Native.Nat.{ℕ, zero, suc, ◌+◌, ◌*◌, ◌≤◌, ◌<◌}
use native.Mathlib.Omega.{arith}
use mathlib.Core.Path.{◌≡◌, refl, sym, ap, ◌∙◌}
use mathlib.Core.Bool.{Bool, true, false, cond}
use mathlib.Core.List.{List, [], ◌∷◌}
use mathlib.Core.Option.{Option, none, some}
use lib.Dec.{eqb, ltb}
use lib.ListN.{length, drop, get_or, drop_of_length-le}
use lib.Seq.{drop-cons}
use borrow.Author.Tests.{ltb-true, lt-ltb, ne_eqb}
use Rattle.model.specs.Number.{is_digit, read_nat}
use Rattle.model.proofs.Basics.{never}
use Rattle.model.proofs.Numbers.{digit, nat_text-read_nat, length-nat_text}
use Rattle.resp.specs.Words.{digit_at}
use Rattle.resp.proofs.Digits.{digit-of, digit_not}
use Rattle.subcommands.specs.Words.{width_from}

-- ---- the number that digits say

pub one-digit : (d : ℕ) → d ≤ 9 → read_nat ((48 + d) ∷ []) ≡ some d
one-digit zero h = refl
one-digit (suc d) h = rw (ne_eqb (48 + suc d) 48 (λ z. omega arith), digit (suc d) (omega arith)) (ap {B = Option ℕ} some (omega arith))

two_digits : (d e : ℕ) → 1 ≤ d → d ≤ 9 → e ≤ 9 → read_nat ((48 + d) ∷ (48 + e) ∷ []) ≡ some (10 * d + e)
two_digits d e l h g = rw (ne_eqb (48 + d) 48 (λ z. omega arith), digit d (omega arith), digit e (omega arith)) (ap {B = Option ℕ} some (omega arith))

-- a byte that is no digit says no number, as the first or the second
bad-first : (s : List ℕ) → is_digit (get_or s 0 0) ≡ false → read_nat s ≡ none
bad-first [] t = refl
bad-first (x ∷ []) t = rw (ne_eqb x 48 (λ z. never (is_digit x) (ap is_digit z) t), t)
bad-first (x ∷ y ∷ s) t = rw (ne_eqb x 48 (λ z. never (is_digit x) (ap is_digit z) t), t)

bad-second : (x y : ℕ) (s : List ℕ) → is_digit y ≡ false → read_nat (x ∷ y ∷ s) ≡ none
bad-second x y s t = rw t (go (eqb x 48) (is_digit x))
  where
    go : (a b : Bool) → ◌≡◌ {A = Option ℕ} (cond a none (cond b none none)) none
    go true b = refl
    go false true = refl
    go false false = refl

-- three bytes or more say no number below 100
long : (s : List ℕ) → 3 ≤ length s → width_from (read_nat s) ≡ None
long s h = go (read_nat s) refl
  where
    below : (n : ℕ) (b : Bool) → ltb n 100 ≡ b → read_nat s ≡ some n → from_model (cond b (some n) none) ≡ None
    below n true t e =
        let small : n < 100 = ltb-true n 100 t in
        absurd (omega (arith, length-nat_text 1 n small, ap length (nat_text-read_nat s n e (omega arith))))
    below n false t e = refl

    go : (o : Option ℕ) → read_nat s ≡ o → width_from o ≡ None
    go none e = refl
    go (some n) e = below n (ltb n 100) refl e

small_width : (n : ℕ) → n < 100 → width_from (some n) ≡ Some n
small_width n h = rw (lt-ltb n 100 h)

-- ---- the width by the digits d and e

module _ (s : List ℕ) where
  pub width-none : None ≡ digit_at s 0 → None ≡ width_from (read_nat s)
  width-none e = sym (ap width_from (bad-first s (digit_not s 0 e)))

  module _ {d : ℕ} (first : Some d ≡ digit_at s 0) where
    text : s ≡ (48 + d) ∷ drop 1 s
    text =
        let g = digit-of s 0 first in
        drop-cons s 0 0 g.within ∙ ap (λ (x : ℕ). x ∷ drop 1 s) g.value

    pub width_one : length s ≡ 1 → Some d ≡ width_from (read_nat s)
    width_one l =
        let h = (digit-of s 0 first).small in
        sym
        (ap (λ (s : List ℕ). width_from (read_nat s)) (text ∙ ap (λ (s : List ℕ). (48 + d) ∷ s) (drop_of_length-le s {i = 1} (omega arith)))
        ∙ (ap width_from (one-digit d h) ∙ small_width d (omega arith)))

    module _ (l : length s ≡ 1 → ⊥) where
      enough : 1 < length s
      enough = omega (arith, (digit-of s 0 first).within)

      more : s ≡ (48 + d) ∷ get_or s 1 0 ∷ drop 2 s
      more = text ∙ ap (λ (s : List ℕ). (48 + d) ∷ s) (drop-cons s 1 0 enough)

      pub width-short : None ≡ digit_at s 1 → None ≡ width_from (read_nat s)
      width-short e = sym (ap (λ (s : List ℕ). width_from (read_nat s)) more ∙ ap width_from (bad-second (48 + d) (get_or s 1 0) (drop 2 s) (digit_not s 1 e)))

      pub width-long : (length s ≡ 2 → ⊥) → None ≡ width_from (read_nat s)
      width-long m = sym (long s (omega (arith, enough)))

      module _ {e : ℕ} (second : Some e ≡ digit_at s 1) (m : length s ≡ 2) where
        two : s ≡ (48 + d) ∷ (48 + e) ∷ []
        two = more ∙ (λ i. (48 + d) ∷ (digit-of s 1 second).value i ∷ drop_of_length-le s {i = 2} (omega arith) i)

        pub width-zero : d ≡ 0 → None ≡ width_from (read_nat s)
        width-zero z = sym (ap (λ (s : List ℕ). width_from (read_nat s)) two ∙ rw z)

        pub width_two : (d ≡ 0 → ⊥) → Some (10 * d + e) ≡ width_from (read_nat s)
        width_two n =
            let h = (digit-of s 0 first).small in
            let g = (digit-of s 1 second).small in
            sym
            (ap (λ (s : List ℕ). width_from (read_nat s)) two
            ∙ (ap width_from (two_digits d e (omega arith) h g) ∙ small_width (10 * d + e) (omega arith)))
