use Rattle.std.proofs.Common.{ap}
use Rattle.command.specs.Command.{model_action}
use Rattle.execute.specs.Does.{act_in}
use Rattle.write.proofs.Writing.{does-as}
use Rattle.execute.proofs.execute.Goals as goal

pub returns-in-Exget : goal.returns-in-Exget
unfolding model_action
returns-in-Exget c = does-as (ap (act_in c.args.table.now c.args.target c.args.key.now c.args.value.now) c.in-Exget.is) c.exget.ensures

pub returns-in-Exsetver : goal.returns-in-Exsetver
unfolding model_action
returns-in-Exsetver c = does-as (ap (act_in c.args.table.now c.args.target c.args.key.now c.args.value.now) c.in-Exsetver.is) c.exsetver.ensures

pub returns-in-Exincrby : goal.returns-in-Exincrby
unfolding model_action
returns-in-Exincrby c = does-as (ap (act_in c.args.table.now c.args.target c.args.key.now c.args.value.now) c.in-Exincrby.is) c.exincrby.ensures

pub returns-in-Excad : goal.returns-in-Excad
unfolding model_action
returns-in-Excad c = does-as (ap (act_in c.args.table.now c.args.target c.args.key.now c.args.value.now) c.in-Excad.is) c.excad.ensures

pub returns-in-Exgae : goal.returns-in-Exgae
unfolding model_action
returns-in-Exgae c = does-as (ap (act_in c.args.table.now c.args.target c.args.key.now c.args.value.now) c.in-Exgae.is) c.exgae.ensures

pub returns-in-Del : goal.returns-in-Del
unfolding model_action
returns-in-Del c = does-as (ap (act_in c.args.table.now c.args.target c.args.key.now c.args.value.now) c.in-Del.is) c.del.ensures
