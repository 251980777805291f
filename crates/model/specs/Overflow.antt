-- What INCRBY makes of a sum that may not fit its field: one definition for every sign and width.
use Rattle.std.specs.Prelude.{cond, ℤ}
use Rattle.std.proofs.Math.Option.{Option, none, some}
use Rattle.std.specs.Int.Signed.{lt_z}
use Rattle.model.specs.Field.{IntType, modulus, least, greatest, modulo, meaning}

-- OVERFLOW WRAP, SAT, FAIL
pub data Mode : Type 0 where
  wrap sat fail : Mode

-- a number against a type's range
pub data Side : Type 0 where
  under over : Side
  within : ℤ → Side

-- the side on which a number leaves the range, or the number
abbrev pub side : IntType → ℤ → Side
side i z = cond (lt_z z (least i)) under (cond (lt_z (greatest i) z) over (within z))

-- WRAP: the number that a field of this type means by the low bits of z
abbrev pub wrapped : IntType → ℤ → ℤ
wrapped i z = meaning i (modulo z (modulus i))

-- SAT: the nearest number that fits
abbrev pub saturated : IntType → Side → ℤ
saturated i under = least i
saturated i over = greatest i
saturated i (within z) = z

-- FAIL: only a number that fits
abbrev pub unless_out : Side → Option ℤ
unless_out under = none
unless_out over = none
unless_out (within z) = some z

-- what is stored for the sum z, or nothing
unfoldable pub overflow : IntType → Mode → ℤ → Option ℤ
overflow i wrap z = some (wrapped i z)
overflow i sat z = some (saturated i (side i z))
overflow i fail z = unless_out (side i z)
