-- Offsets: an offset's word by its first byte, and the number in it.
use Prim.Native.Nat.{ℕ, ◌+◌, ◌*◌}
use native.Mathlib.Omega.{arith}
use mathlib.Core.Path.{◌≡◌, refl, ap, ◌∙◌}
use mathlib.Core.Bool.{Bool, true, false, cond}
use mathlib.Core.List.{List, [], ◌∷◌}
use mathlib.Core.Option.{Option, none, some, map}
use lib.Dec.{eqb}
use lib.ListN.{length, drop, get_or}
use borrow.Author.Tests.{ne_eqb, eqb-true}
use Rattle.model.specs.Number.{nat_text, read_below}
use Rattle.model.specs.Field.{IntType}
use Rattle.model.specs.Subcommands.{offset_limit, offset_in}
use Rattle.model.proofs.Numbers.{nat_text-read_nat}
use Rattle.model.proofs.NumberWords.{read_below-nat_text}
use Rattle.std.specs.Prelude.{Some, None}
use Rattle.resp.specs.Words.{digit_at}
use Rattle.resp.proofs.Digits.{digit-of}
use Rattle.subcommands.specs.Words.{only_digit}
use Rattle.subcommands.proofs.Widths.{one-digit}

-- ---- the word

pub offset-empty : (i : IntType) (w : List ℕ) → length w ≡ 0 → offset_in i w ≡ none
unfolding offset_in
offset-empty i [] l = refl
offset-empty i (c ∷ w) l = absurd (omega arith)

pub offset-fields : (i : IntType) (w : List ℕ) {x : Option ℕ} → get_or w 0 0 ≡ 35 → read_below offset_limit (drop 1 w) ≡ x
    → offset_in i w ≡ map (◌*◌ i.width) x
unfolding offset_in
offset-fields i [] e f = absurd (omega arith)
offset-fields i (c ∷ w) e f = rw e (ap (map (◌*◌ i.width)) f)

pub offset-plain : (i : IntType) (w : List ℕ) → (length w ≡ 0 → ⊥) → (get_or w 0 0 ≡ 35 → ⊥) → offset_in i w ≡ read_below offset_limit w
unfolding offset_in
offset-plain i [] l e = absurd (l refl)
offset-plain i (c ∷ w) l e = rw (ne_eqb c 35 e)

one_byte : (w : List ℕ) (c : ℕ) → length w ≡ 1 → get_or w 0 0 ≡ c → w ≡ c ∷ []
one_byte [] c l e = absurd (omega arith)
one_byte (x ∷ []) c l e = rw e
one_byte (x ∷ y ∷ w) c l e = absurd (omega arith)

-- one digit alone says its number
pub offset-digit : (i : IntType) (w : List ℕ) {d : ℕ} → Some d ≡ only_digit w → offset_in i w ≡ some d
offset-digit i w {d} e = go (eqb (length w) 1) refl e
  where
    alone : length w ≡ 1 → Some d ≡ digit_at w 0 → offset_in i w ≡ some d
    alone l f =
        let g = digit-of w 0 f in
        let small = g.small in
        let text : w ≡ nat_text d = one_byte w (48 + d) l g.value ∙ nat_text-read_nat ((48 + d) ∷ []) d (one-digit d small) (omega arith) in
        offset-plain i w (λ z. omega arith) (λ z. omega (arith, g.value))
        ∙ (ap (read_below offset_limit) text ∙ read_below-nat_text offset_limit (omega arith) d (omega arith))

    go : (b : Bool) → eqb (length w) 1 ≡ b → Some d ≡ cond b (digit_at w 0) None → offset_in i w ≡ some d
    go true l f = alone (eqb-true (length w) 1 l) f
    go false l f = cc
