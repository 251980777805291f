-- What stands between quotes: piece by piece, and that it is ASCII.
use Rattle.std.proofs.Common.{◌≡◌, refl, sym, ap, ◌∙◌, ℕ, suc, ◌+◌, ◌-◌, ◌/◌, ◌%◌, ◌<◌, ◌≤◌, Bool, cond, true, false, List, [], ◌∷◌, ◌++◌, length, take, drop, get_or, append-nil, Option, Some, None, arith}
use native.Mathlib.Numerals.{add-one}
use borrow.Author.Tests.{leb-true}
use lib.Dec.{leb, ltb, eqb}
use lib.Seq.{take-add, take-suc}
use Rattle.std.specs.Str.{IsAscii}
use Rattle.std.proofs.lemmas.Str.{IsAscii-append}
use Rattle.std.proofs.lemmas.Str.Ascii.{IsAscii-cons, IsAscii-nil}
use Rattle.std.proofs.lemmas.Grind.{flat_map-append}
use Rattle.model.proofs.Basics.{and_right}
use Rattle.terminal.specs.Escape.{letter, prints, hex_digit, plain, escaped_by, escaped, escaped_all}

-- either of two, by a test
either-digit : (t : Bool) (x y : ℕ) → x < 128 → y < 128 → cond t x y < 128
either-digit true x y p q = p
either-digit false x y p q = q

digit-ascii : (d : ℕ) → d < 16 → hex_digit d < 128
digit-ascii d h = either-digit (ltb d 10) (48 + d) (87 + d) (omega arith) (omega arith)

plain-ascii : (b : ℕ) → b < 256 → IsAscii (plain b)
plain-ascii b h = go (prints b) refl
  where
    high : hex_digit (b / 16) < 128
    high = digit-ascii (b / 16) (omega arith)

    low : hex_digit (b % 16) < 128
    low = digit-ascii (b % 16) (omega arith)

    go : (t : Bool) → prints b ≡ t → IsAscii (cond t (b ∷ []) (92 ∷ 120 ∷ hex_digit (b / 16) ∷ hex_digit (b % 16) ∷ []))
    go true e = IsAscii-cons b [] (omega (arith, leb-true b 126 (and_right (leb 32 b) (leb b 126) e))) IsAscii-nil
    go false e =
        let x = hex_digit (b / 16) in
        let y = hex_digit (b % 16) in
        let digits : IsAscii (x ∷ y ∷ []) = IsAscii-cons x (y ∷ []) high (IsAscii-cons y [] low IsAscii-nil) in
        IsAscii-cons 92 (120 ∷ x ∷ y ∷ []) (omega arith) (IsAscii-cons 120 (x ∷ y ∷ []) (omega arith) digits)

-- a letter, if any, is ASCII
abbrev Small : Option ℕ → Type 0
Small None = Unit {0}
Small (Some c) = c < 128

either : (t : Bool) (c : ℕ) (o : Option ℕ) → c < 128 → Small o → Small (cond t (Some c) o)
either true c o p q = p
either false c o p q = q

letter-small : (b : ℕ) → Small (letter b)
unfolding letter
letter-small b =
    either (eqb b 34) 34 _ (omega arith) (either (eqb b 92) 92 _ (omega arith) (either (eqb b 10) 110 _ (omega arith) (either (eqb b 13) 114 _ (omega arith)
    (either (eqb b 9) 116 _ (omega arith) (either (eqb b 7) 97 _ (omega arith) (either (eqb b 8) 98 None (omega arith) tt))))))

pub escaped-ascii : (b : ℕ) → b < 256 → IsAscii (escaped b)
unfolding escaped
escaped-ascii b h = go (letter b) (letter-small b)
  where
    go : (o : Option ℕ) → Small o → IsAscii (escaped_by o b)
    go None s = plain-ascii b h
    go (Some c) s = IsAscii-cons 92 (c ∷ []) (omega arith) (IsAscii-cons c [] s IsAscii-nil)

-- bytes that are below 256
abbrev pub Bytes : List ℕ → Type 0
Bytes s = (i : ℕ) → get_or s i 0 < 256

pub escaped_all-ascii : (s : List ℕ) → Bytes s → IsAscii (escaped_all s)
escaped_all-ascii [] h = IsAscii-nil
escaped_all-ascii (b ∷ s) h = IsAscii-append (escaped b) (escaped_all s) (escaped-ascii b (h 0)) (escaped_all-ascii s (λ i. h (suc i)))

-- a byte more, and a piece more
pub escaped_all-next : (s : List ℕ) (i : ℕ) → i < length s → escaped_all (take i s) ++ escaped (get_or s i 0) ≡ escaped_all (take (i + 1) s)
escaped_all-next s i h =
    sym (flat_map-append escaped (take i s) (get_or s i 0 ∷ []) ∙ ap (λ (l : List ℕ). escaped_all (take i s) ++ l) (append-nil (escaped (get_or s i 0))))
    ∙ ap escaped_all (sym (take-suc s i 0 h) ∙ ap (λ (n : ℕ). take n s) (sym (add-one i)))

pub quoted-next : (s : List ℕ) (at end : ℕ) → at ≤ end → (34 ∷ escaped_all (take at s)) ++ escaped_all (take (end - at) (drop at s)) ≡ 34 ∷ escaped_all (take end s)
quoted-next s at end h =
    let e : at + (end - at) ≡ end = omega arith in
    ap (λ (l : List ℕ). 34 ∷ l)
    (sym (flat_map-append escaped (take at s) (take (end - at) (drop at s))) ∙ ap escaped_all (sym (take-add at (end - at) s) ∙ ap (λ (n : ℕ). take n s) e))
