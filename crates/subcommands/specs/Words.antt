-- What the words of a subcommand say, as the model has it.
use Rattle.std.specs.Prelude.{ℕ, Bool, cond, List, [], ◌∷◌, ltb, eqb, length, ℤ, None}
use Rattle.std.specs.Prelude as code
use Rattle.std.proofs.Math.Option.{Option}
use Rattle.model.specs.Optional.{only}
use Rattle.model.specs.Field as model
use Rattle.model.specs.Overflow.{wrap}
use Rattle.model.specs.Bitfield as bitfield
use Rattle.model.specs.Subcommands.{get, set, incrby, sub_of}
use Rattle.outcome.specs.Outcome.{from_model}
use Rattle.command.specs.Subcommand.{model_mode, model_sub}
use Rattle.command.specs.declared.subcommand.Operation.{Operation}
use Rattle.command.specs.declared.subcommand.Operation.TheVariants.{Get, Set, Incrby}
use Rattle.command.specs.declared.subcommand.Sub.{Sub}
use Rattle.resp.specs.Words.{digit_at}

-- a width of at most two digits
abbrev pub width_from : Option ℕ → code.Option ℕ
width_from o = from_model (only (λ n. ltb n 100) o)

-- the digit that is the whole word
abbrev pub only_digit : List ℕ → code.Option ℕ
only_digit w = cond (eqb (length w) 1) (digit_at w 0) None

abbrev pub type_of : (signed : Bool) (width : ℕ) → model.IntType
type_of s w = record { signed = s; width = w }

-- one subcommand alone
abbrev pub model_only : Sub → List bitfield.Sub
model_only s = model_sub s ∷ []

-- the subcommand of an operation and its words; of the modes only INCRBY's own counts
unfoldable pub sub_by : Operation → (type offset number : List ℕ) → Option (List bitfield.Sub)
sub_by Get t o n = sub_of wrap (get t o)
sub_by Set t o n = sub_of wrap (set t o n)
sub_by (Incrby m) t o n = sub_of (model_mode m) (incrby t o n)
