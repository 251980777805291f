-- Calls by the numbers with which C names a view. A number that names no party is refused as a damaged table is, by 1.
use Rattle.std.specs.Prelude.{ℕ, cond, List, eqb}
use Rattle.std.specs.Prelude.{Some, None}
use Rattle.std.specs.Prelude.{Option as Choice}
use Rattle.std.proofs.Math.Option.{Option, none, some}
use Rattle.model.specs.Table.{form128}
use Rattle.model.specs.Partition.{owner, installer, View, whole, shared_by}
use Rattle.model.specs.Call.{Store, untouched, call_in}
use Rattle.model.specs.CurrentValue.{Shown, nothing, current_value_in}
use Rattle.partition.specs.Parts.{model_view}
use Rattle.partition.specs.declared.View as code

-- 0 the whole table, 1 the owner, 2 the installer
abbrev pub view_of : (party boundary : ℕ) → Option View
view_of p n = cond (eqb p 0) (some whole) (cond (eqb p 1) (some (shared_by owner n)) (cond (eqb p 2) (some (shared_by installer n)) none))

abbrev pub call_by : Option View → Store
call_by none t now c b = untouched 1 t b
call_by (some v) t now c b = call_in form128 v t now c b

abbrev pub value_by : Option View → (table : List ℕ) (now : ℕ) (command : List ℕ) → Shown
value_by none t now c = nothing
value_by (some v) t now c = current_value_in form128 v t now c

-- the model's view of an answer
abbrev pub named_view : Choice code.View → Option View
named_view (Some v) = some (model_view v)
named_view None = none
