-- The forms of a number's text, for the claims about number words: every text that says a number, and document 01's short form.
use Rattle.std.specs.Prelude.{ℕ, ◌+◌, ◌^◌, ◌≤◌, ◌<◌, ◌≡◌, cond, List, [], ◌∷◌, ◌++◌, eqb, length, replicate, ℤ, pos, neg_ℤ}
use Rattle.std.proofs.Math.Option.{Option, none, map}
use Rattle.model.specs.Number.{nat_text, read_positive, read_nat}

-- the sign before a number: none, a plus or a minus
pub data Sign : Type 0 where
  bare plus minus : Sign

-- its bytes
abbrev pub sign_text : Sign → List ℕ
sign_text bare = []
sign_text plus = 43 ∷ []
sign_text minus = 45 ∷ []

-- the number of a sign and a magnitude
abbrev pub signed : Sign → ℕ → ℤ
signed bare n = pos n
signed plus n = pos n
signed minus n = neg_ℤ (pos n)

-- the text of a magnitude with zeros before it
abbrev pub with_zeros : (zeros n : ℕ) → List ℕ
with_zeros k n = replicate k 48 ++ nat_text n

-- the text s says the number z: a sign, zeros and the short text of the magnitude, one to twenty digits in all
pub record Says (s : List ℕ) (z : ℤ) : Type 0 where
  pub sign : Sign
  pub zeros : ℕ
  pub magnitude : ℕ
  pub text : s ≡ sign_text sign ++ with_zeros zeros magnitude
  pub value : z ≡ signed sign magnitude
  pub small : magnitude < 10 ^ 20
  pub few : zeros + length (nat_text magnitude) ≤ 20

-- document 01's form: 0, or an optional minus and digits that begin with 1 to 9
abbrev pub read_short : List ℕ → Option ℤ
read_short [] = none
read_short (c ∷ s) = cond (eqb c 45) (map (λ n. neg_ℤ (pos n)) (read_positive s)) (map pos (read_nat (c ∷ s)))
