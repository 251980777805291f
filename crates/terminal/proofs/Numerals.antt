-- The text of a number has ASCII bytes, and under no options it is written as it is.
use Prim.Native.Nat.{zero}
use Rattle.std.proofs.Common.{◌≡◌, refl, ℕ, suc, ◌-◌, ◌<◌, Bool, cond, true, false, List, [], ◌∷◌, length, slice_index, append-nil, arith, rules}
use Rattle.std.proofs.lemmas.Grind.{common_steps}
use Rattle.std.specs.Fmt.{padded_integral, padding_before, char_count, IsDefaultSpec}
use Rattle.std.specs.declared.fmt.Formatter.{Formatter}
use Rattle.std.specs.Str.{IsAscii}
use Rattle.model.specs.Number.{is_digit, nat_text}
use Rattle.model.proofs.Numbers.{Digits, nat_text-digits}

low : (c : ℕ) → is_digit c ≡ true → c < 128
low c e = grind (arith, common_steps)

all_low : (s : List ℕ) → Digits s → (i : ℕ) → slice_index s i < 128
all_low [] h i = search rules
all_low (c ∷ s) h zero = low c h.0
all_low (c ∷ s) h (suc i) = all_low s h.1 i

pub nat_text-IsAscii : (x : ℕ) → IsAscii (nat_text x)
nat_text-IsAscii x = all_low (nat_text x) (nat_text-digits x)

twice : (a : Bool) → cond {A = ℕ} a 0 0 ≡ 0
twice true = refl
twice false = refl

nowhere : (a b : Bool) → cond {A = ℕ} a 0 (cond b 0 0) ≡ 0
nowhere true b = refl
nowhere false b = twice b

none_before : {W : Type 0} (f : Formatter W) → padding_before f.spec 0 3 ≡ 0
none_before f = nowhere _ _

pub as_it_is : {W : Type 0} (f : Formatter W) (numeral : List ℕ) → IsDefaultSpec f.spec → padded_integral f.spec false [] numeral ≡ numeral
unfolding padded_integral
as_it_is f numeral e =
    let none : f.spec.width - length numeral - 0 - char_count [] ≡ 0 = omega (arith, e.width) in
    rw (e.plus, e.alternate, none, none_before f) (simp (twice, append-nil))
