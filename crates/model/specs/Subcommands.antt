-- The subcommands of BITFIELD by their words: which are given (8), and their types, offsets and numbers (9).
use Rattle.std.specs.Prelude.{ℕ, zero, suc, ◌*◌, ◌^◌, Bool, true, false, cond, List, [], ◌∷◌, ◌++◌, get_or, eqb}
use Rattle.std.proofs.Math.Option.{Option, none, some, map}
use Rattle.model.specs.Bytes.{text, uppers}
use Rattle.model.specs.Optional.{◌>>=◌, only}
use Rattle.model.specs.Checked as Checked
use Rattle.model.specs.Checked.{Checked, given}
use Rattle.model.specs.Number.{read_nat, read_below, read_signed}
use Rattle.model.specs.Field.{IntType, is_int_type, fits, Field, field}
use Rattle.model.specs.Overflow.{Mode, wrap, sat, fail}
use Rattle.model.specs.Bitfield as Bitfield
use Rattle.model.specs.Bitfield.{Sub}
use Rattle.model.specs.Command.{look}

-- ---- test 8: which subcommands are given

pub data SubName : Type 0 where
  GET SET INCRBY OVERFLOW : SubName

abbrev pub sub_names : List (List ℕ × SubName)
sub_names = (text "GET", GET) ∷ (text "SET", SET) ∷ (text "INCRBY", INCRBY) ∷ (text "OVERFLOW", OVERFLOW) ∷ []

abbrev pub modes : List (List ℕ × Mode)
modes = (text "WRAP", wrap) ∷ (text "SAT", sat) ∷ (text "FAIL", fail) ∷ []

-- how many words follow the name: type and offset, and a number for SET and INCRBY; a mode for OVERFLOW
abbrev pub arity : SubName → ℕ
arity GET = 2
arity SET = 3
arity INCRBY = 3
arity OVERFLOW = 1

-- a subcommand with its words, of which only a mode is read
pub data Part : Type 0 where
  get : (type offset : List ℕ) → Part
  set : (type offset number : List ℕ) → Part
  incrby : (type offset number : List ℕ) → Part
  overflow : Mode → Part

-- a subcommand from the words after its name
abbrev pub part_of : SubName → List (List ℕ) → Option Part
part_of GET ws = some (get (get_or ws 0 []) (get_or ws 1 []))
part_of SET ws = some (set (get_or ws 0 []) (get_or ws 1 []) (get_or ws 2 []))
part_of INCRBY ws = some (incrby (get_or ws 0 []) (get_or ws 1 []) (get_or ws 2 []))
part_of OVERFLOW ws = map overflow (look (uppers (get_or ws 0 [])) modes)

-- the subcommands that words give; the first `own` words are those of the one before, also if they spell another
unfoldable pub parts_in : (own : ℕ) → List (List ℕ) → Option (List Part)
parts_in zero [] = some []
parts_in (suc n) [] = none
parts_in (suc n) (w ∷ ws) = parts_in n ws
parts_in zero (w ∷ ws) = do
  s ← look (uppers w) sub_names
  p ← part_of s ws
  ps ← parts_in (arity s) ws
  some (p ∷ ps)

-- ---- test 9: types, offsets and numbers

-- a type's letter: i is signed, u is not
abbrev pub sign_in : ℕ → Option Bool
sign_in c = cond (eqb c 105) (some true) (cond (eqb c 117) (some false) none)

-- a letter and a width in decimal without extra zeros
abbrev pub type_by : (letter : ℕ) (width : List ℕ) → Option IntType
type_by c s = do
  signed ← sign_in c
  width ← read_nat s
  some (record { signed = signed; width = width })

-- i1 to i64 and u1 to u63, in lower case
unfoldable pub type_in : List ℕ → Option IntType
type_in [] = none
type_in (c ∷ s) = only is_int_type (type_by c s)

-- offsets run from 0 to 2^32 - 1
abbrev pub offset_limit : ℕ
offset_limit = 2 ^ 32

-- after # an offset counts in fields of the type
unfoldable pub offset_in : IntType → List ℕ → Option ℕ
offset_in i [] = none
offset_in i (c ∷ s) = cond (eqb c 35) (map (◌*◌ i.width) (read_below offset_limit s)) (read_below offset_limit (c ∷ s))

abbrev pub field_in : (type offset : List ℕ) → Option Field
field_in t o = do
  i ← type_in t
  at ← offset_in i o
  some (field i at)

-- the subcommand that a part is, none for OVERFLOW; SET takes only a number that fits
unfoldable pub sub_of : Mode → Part → Option (List Sub)
sub_of m (get t o) = do
  f ← field_in t o
  some (Bitfield.get f ∷ [])
sub_of m (set t o n) = do
  f ← field_in t o
  z ← only (fits f.type) (read_signed n)
  some (Bitfield.set f z ∷ [])
sub_of m (incrby t o n) = do
  f ← field_in t o
  z ← read_signed n
  some (Bitfield.incrby f m z ∷ [])
sub_of m (overflow n) = some []

-- OVERFLOW holds for every later INCRBY until the next one
abbrev pub mode_after : Mode → Part → Mode
mode_after m (get t o) = m
mode_after m (set t o n) = m
mode_after m (incrby t o n) = m
mode_after m (overflow n) = n

-- the subcommands of the parts, of which the first stands under mode m
abbrev pub subs_in : Mode → List Part → Option (List Sub)
subs_in m [] = some []
subs_in m (p ∷ ps) = do
  s ← sub_of m p
  ss ← subs_in (mode_after m p) ps
  some (s ++ ss)

-- ---- tests 8 and 9

-- the subcommands that the words after the key give; INCRBY wraps unless a mode stands before it
unfoldable pub subcommands_in : List (List ℕ) → Checked (List Sub)
subcommands_in ws = Checked.◌>>=◌ (given 8 (parts_in 0 ws)) λ ps. given 9 (subs_in wrap ps)
