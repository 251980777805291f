-- The options by their spelling.
use Rattle.std.specs.Prelude.{ℕ, Bool, true, false, cond, ◌&&◌, List, [], ◌∷◌, leb, eqb}
use Rattle.std.proofs.Math.Option.{Option, none, some}
use Rattle.model.specs.Bytes.{text}
use Rattle.model.specs.Optional.{only}
use Rattle.model.specs.Number.{read_version}
use Rattle.model.specs.Command.{look}
use Rattle.commandline.specs.declared.switch.Switch.{Switch}
use Rattle.commandline.specs.declared.switch.Switch.TheVariants.{Table, Time, Init, Owner, Installer, List as Listing, Check, Diff, Keeper, End, Unknown, Word}

-- a word that begins with a minus is an option
abbrev pub dashed : List ℕ → Bool
dashed [] = false
dashed (c ∷ s) = eqb c 45

-- the options
abbrev pub switches : List (List ℕ × Switch)
switches =
    (text "-t", Table)
    ∷ (text "--time", Time)
    ∷ (text "--init", Init)
    ∷ (text "--owner", Owner)
    ∷ (text "--installer", Installer)
    ∷ (text "--list", Listing)
    ∷ (text "--check", Check)
    ∷ (text "--diff", Diff)
    ∷ (text "--keeper", Keeper)
    ∷ (text "--", End)
    ∷ []

abbrev pub switch_from : Option Switch → Switch
switch_from none = Unknown
switch_from (some s) = s

-- any other word is the first of a command
abbrev pub switch_of : List ℕ → Switch
switch_of w = cond (dashed w) (switch_from (look w switches)) Word

-- whether the argument after an option is its value
abbrev pub takes_value : Switch → Bool
takes_value Table = true
takes_value Time = true
takes_value Init = true
takes_value Owner = true
takes_value Installer = true
takes_value Listing = false
takes_value Check = false
takes_value Diff = false
takes_value Keeper = false
takes_value End = false
takes_value Unknown = false
takes_value Word = false

-- a number of records, from 1 to 256
abbrev pub read_records : List ℕ → Option ℕ
read_records s = only (λ n. leb 1 n && leb n 256) (read_version s)
