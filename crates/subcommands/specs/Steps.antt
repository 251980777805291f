-- What the names of subcommands do, and what the words of BITFIELD come to.
use Rattle.std.specs.Prelude.{ℕ, ◌≡◌, Bool, cond, List, ◌++◌, Option, Some, None}
use Rattle.model.specs.Checked.{Checked, refuse, ok, given, ◌>>=◌}
use Rattle.model.specs.Overflow as overflow
use Rattle.model.specs.Bitfield as bitfield
use Rattle.model.specs.Subcommands.{SubName, GET, SET, INCRBY, OVERFLOW, arity, Part, parts_in, subs_in}
use Rattle.command.specs.Subcommand.{model_mode}
use Rattle.command.specs.declared.subcommand.Operation.{Operation}
use Rattle.command.specs.declared.subcommand.Operation.TheVariants.{Get, Set, Incrby}

-- ---- the words after a name

abbrev pub name_of : Operation → SubName
name_of Get = GET
name_of Set = SET
name_of (Incrby m) = INCRBY

abbrev pub arity_of : Operation → ℕ
arity_of o = arity (name_of o)

-- the mode of an INCRBY is m
abbrev pub Carries : overflow.Mode → Operation → Type 0
Carries m Get = Unit {0}
Carries m Set = Unit {0}
Carries m (Incrby k) = model_mode k ≡ m

-- what a name does under the mode m
abbrev pub Does : SubName → overflow.Mode → Option Operation → Type 0
Does s m None = s ≡ OVERFLOW
Does s m (Some o) = (s ≡ name_of o) × Carries m o

-- ---- at a word

-- what parts come to after the subcommands `done` under the mode m; 9 if one was wrong
abbrev pub outcome : (wrong : Bool) (done : List bitfield.Sub) → overflow.Mode → List Part → Checked (List bitfield.Sub)
outcome wrong done m ps = cond wrong (refuse 9) (given 9 (subs_in m ps) >>= λ ss. ok (done ++ ss))

-- what words come to after those
unfoldable pub resume : (wrong : Bool) (done : List bitfield.Sub) → overflow.Mode → List (List ℕ) → Checked (List bitfield.Sub)
resume wrong done m ws = given 8 (parts_in 0 ws) >>= outcome wrong done m
