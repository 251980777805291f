-- What the model's numbers are as this crate's answers.
use Rattle.std.specs.Prelude.{ℕ, cond, eqb, ℤ, pos, neg_ℤ}
use Rattle.std.specs.Prelude.{Option, Result, Ok, Err}
use Rattle.std.proofs.Math.Option as model
use Rattle.std.specs.Int.Signed.{non_neg}
use Rattle.model.specs.Optional.{only}
use Rattle.model.specs.Number.{is_signed}
use Rattle.outcome.specs.Outcome.{from_model}
use Rattle.number.specs.declared.Side.{Side}
use Rattle.number.specs.declared.Side.TheVariants.{Under, Over}

-- how many bytes the sign of a text takes, by its first byte: 1 for a minus or a plus
abbrev pub sign_length : ℕ → ℕ
sign_length c = cond (eqb c 45) 1 (cond (eqb c 43) 1 0)

-- a sum, where it is in 64 signed bits, or the side on which it leaves them
abbrev pub sum_from : ℤ → Result ℤ Side
sum_from z = cond (is_signed z) (Ok z) (Err (cond (non_neg z) Over Under))

-- minus a number, where that is in 64 signed bits
abbrev pub negative_from : model.Option ℕ → Option ℤ
negative_from o = from_model (only is_signed (model.map (λ n. neg_ℤ (pos n)) o))
