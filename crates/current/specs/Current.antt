-- What ties the place of the current value to the model's.
use Rattle.std.specs.Prelude.{ℕ, ◌+◌, ◌-◌, ◌*◌, ◌<◌, cond, List, length, eqb}
use Rattle.std.proofs.Math.Option.{none}
use Rattle.model.specs.Checked.{ok, ◌>>◌}
use Rattle.model.specs.Table.{Form, record_size, value_at}
use Rattle.model.specs.Command.{raise}
use Rattle.model.specs.Execute.{version_after}
use Rattle.model.specs.CurrentValue as model
use Rattle.model.specs.CurrentValue.{or_nothing}
use Rattle.command.specs.declared.Action.{Action}
use Rattle.command.specs.declared.Action.TheVariants.{Exset, Exget, Exsetver, Exincrby, Excas, Excad, Exjoin, Exgae, Del}
use Rattle.resp.specs.declared.Span.{Span}
use Rattle.table.specs.Slots.{record_in}
use Rattle.live.specs.declared.Lookup.{Lookup}
use Rattle.live.specs.declared.Lookup.TheVariants.{Live, Expired, Absent}
use Rattle.live.specs.declared.Target.{Target}
use Rattle.live.specs.Under.{stored_in, shape_of}

-- the value at slot i of the table t
abbrev pub stored_at : Form → (t : List ℕ) (i : ℕ) → model.Shown
stored_at f t i = model.in_table (i * record_size f + value_at) (length (record_in f t i).value)

-- the place v of an EXCAS's value, unless the version is refused
abbrev pub swapped_to : Lookup → (v : Span) → model.Shown
swapped_to l v = or_nothing (version_after (raise none) (stored_in l) >> ok (model.in_command v.start (v.end - v.start)))

-- what an action shows of the live record at slot i with the version n
abbrev pub shown_at : Form → (t : List ℕ) (i n : ℕ) → Lookup → Action → (v : Span) → model.Shown
shown_at f t i n l (Exget w) v = stored_at f t i
shown_at f t i n l (Excas a) v = cond (eqb a.version n) (swapped_to l v) (stored_at f t i)
shown_at f t i n l (Exset a) v = model.nothing
shown_at f t i n l (Exsetver m) v = model.nothing
shown_at f t i n l (Exincrby a) v = model.nothing
shown_at f t i n l (Excad m) v = model.nothing
shown_at f t i n l (Exjoin a) v = model.nothing
shown_at f t i n l (Exgae e) v = model.nothing
shown_at f t i n l Del v = model.nothing

-- a key that is not live shows none
abbrev pub shown_of : Form → (t : List ℕ) → Lookup → Action → (v : Span) → model.Shown
shown_of f t (Live i a) x v = shown_at f t i a.version (Live i a) x v
shown_of f t (Expired i) x v = model.nothing
shown_of f t Absent x v = model.nothing

-- what an action shows at its target
abbrev pub shown_by : (t : List ℕ) → Target → Action → (v : Span) → model.Shown
shown_by t g = shown_of (shape_of g) t g.found

-- an EXCAS has a value
abbrev pub ActionAt : Action → (ws : List (List ℕ)) → Type 0
ActionAt (Excas a) ws = 2 < length ws
ActionAt (Exset a) ws = Unit {0}
ActionAt (Exget w) ws = Unit {0}
ActionAt (Exsetver n) ws = Unit {0}
ActionAt (Exincrby a) ws = Unit {0}
ActionAt (Excad n) ws = Unit {0}
ActionAt (Exjoin a) ws = Unit {0}
ActionAt (Exgae e) ws = Unit {0}
ActionAt Del ws = Unit {0}
