use Rattle.std.proofs.Common.{refl, arith}
use Rattle.command.specs.Command.{model_terms}
use Rattle.command.specs.declared.Action.TheVariants.{Exset}
use Rattle.write.specs.Does.{act_in}
use Rattle.access.proofs.Doing.{nil-in, error-in}
use Rattle.write.proofs.Writing.{finish-in, write_new, set_in, LetBy, exset-by, turned-nil, turned-stale, granted}
use Rattle.write.proofs.exset.Goals as goal
use Rattle.write.proofs.exset.Goals.{After-admit}

let_by : (c : After-admit) → let a = c.args in LetBy c.admit.result (set_in a.table.now a.target a.key.now a.value.now a.set) (act_in a.table.now a.target a.key.now a.value.now (Exset a.set))
let_by c = let a = c.args in exset-by a.table.now a.target a.key.now a.value.now a.set c.admit.ensures

pub nil-requires : goal.nil-requires
nil-requires c = nil-in c.requires.ready.room

pub error-requires : goal.error-requires
error-requires c = (error-in c.requires.ready.room 12, omega arith, omega arith)

pub finish-requires : goal.finish-requires
finish-requires c = finish-in c.requires.ready (model_terms c.args.set.terms) _ _ c.requires.value_len_bound.1 c.store_value-stored.ensures

pub returns-in-Nil : goal.returns-in-Nil
returns-in-Nil c = turned-nil (let_by (goal.at.returns-in-Nil c).After-admit) _ c.in-Nil.is c.nil.ensures

pub returns-in-Stale : goal.returns-in-Stale
returns-in-Stale c = turned-stale (let_by (goal.at.returns-in-Stale c).After-admit) _ c.in-Stale.is c.error.ensures

pub returns-in-Granted : goal.returns-in-Granted
returns-in-Granted c =
    let a = c.args in
    granted (let_by (goal.at.returns-in-Granted c).After-admit) _ _ c.in-Granted.is (write_new a.table.now a.target _ _ _ _ _ refl) c.store_value-stored.ensures c.finish.ensures
