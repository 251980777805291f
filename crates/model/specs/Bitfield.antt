-- BITFIELD's subcommands on a value, run left to right, and the reply.
use Rattle.std.specs.Prelude.{ℕ, ◌*◌, Bool, true, false, ◌&&◌, ◌||◌, List, [], ◌∷◌, map, leb, ℤ, ◌+ℤ◌}
use Rattle.std.proofs.Math.Option.{Option, none, some}
use Rattle.model.specs.Resp.{Scalar, integer, nil, Reply, array}
use Rattle.model.specs.Field.{Field, end_bit, get_field, set_field}
use Rattle.model.specs.Overflow.{Mode, overflow}

-- a subcommand; INCRBY has the mode of the last OVERFLOW before it
pub data Sub : Type 0 where
  get : Field → Sub
  set : Field → ℤ → Sub
  incrby : Field → Mode → (by : ℤ) → Sub

-- ---- test 16, before any subcommand runs

-- a SET or INCRBY field ends within a value of so many bytes, also if it would not write
abbrev pub ends_within : (limit : ℕ) → Sub → Bool
ends_within n (get f) = true
ends_within n (set f z) = leb (end_bit f) (8 * n)
ends_within n (incrby f m z) = leb (end_bit f) (8 * n)

-- likewise every one of several
abbrev pub all_end_within : (limit : ℕ) → List Sub → Bool
all_end_within n [] = true
all_end_within n (s ∷ ss) = ends_within n s && all_end_within n ss

-- ---- running

-- the value after a subcommand, what it answers, and whether it wrote
pub record Done : Type 0 where
  pub value : List ℕ
  pub result : Option ℤ
  pub wrote : Bool

abbrev pub answered : Option ℤ → List ℕ → Done
answered r v = record { value = v; result = r; wrote = false }

abbrev pub stored : Option ℤ → List ℕ → Done
stored r v = record { value = v; result = r; wrote = true }

-- INCRBY stores and answers the sum, or answers nothing
abbrev pub increased : Field → Option ℤ → List ℕ → Done
increased f none v = answered none v
increased f (some z) v = stored (some z) (set_field f z v)

-- GET answers the number, SET the old number, INCRBY the new one
unfoldable pub run_sub : Sub → List ℕ → Done
run_sub (get f) v = answered (some (get_field f v)) v
run_sub (set f z) v = stored (some (get_field f v)) (set_field f z v)
run_sub (incrby f m z) v = increased f (overflow f.type m (get_field f v +ℤ z)) v

-- the value at the end, what each answered, and whether one wrote
pub record Ran : Type 0 where
  pub value : List ℕ
  pub results : List (Option ℤ)
  pub wrote : Bool

-- a subcommand, then the run of the rest
abbrev pub after : Done → Ran → Ran
after d r = record { value = r.value; results = d.result ∷ r.results; wrote = d.wrote || r.wrote }

-- the subcommands, each on the value that the one before left
unfoldable pub run_subs : List Sub → List ℕ → Ran
run_subs [] v = record { value = v; results = []; wrote = false }
run_subs (s ∷ ss) v = after (run_sub s v) (run_subs ss (run_sub s v).value)

-- ---- the reply

-- a number, or nil for an INCRBY that failed
abbrev pub result_scalar : Option ℤ → Scalar
result_scalar none = nil
result_scalar (some z) = integer z

-- the array of the answers
abbrev pub fields_reply : List (Option ℤ) → Reply
fields_reply rs = array (map result_scalar rs)
