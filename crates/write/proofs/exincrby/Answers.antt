use Rattle.std.proofs.Common.{◌≡◌, sym, ap, ◌∙◌, subst, [], ℤ, rules, arith}
use mathlib.Core.Option.{none}
use mir.Syntax.{w64}
use mir.Val.{SFits}
use Rattle.outcome.specs.Outcome.{checked, number_of}
use Rattle.model.specs.Number.{int_text}
use Rattle.model.specs.Execute.{count_reply, total, counted}
use Rattle.model.proofs.Steps.{Comes}
use Rattle.model.proofs.Effects.{Executing, Signed, total-signed}
use Rattle.command.specs.Command.{model_terms, model_increment}
use Rattle.command.specs.declared.Action.TheVariants.{Exincrby}
use Rattle.number.proofs.Integers.{back_is}
use Rattle.live.specs.Under.{shape_of}
use Rattle.put.specs.Put.{put_in, value_in, Puts}
use Rattle.write.specs.Does.{act_in}
use Rattle.write.specs.Finish.{Finishes}
use Rattle.access.proofs.Doing.{nil-in, error-in, does-refuse}
use Rattle.write.proofs.Writing.{finish-in, does-as, write_new, write-none, count_in, LetBy, exincrby-by, turned-nil, turned-stale, new_of, counted-refused, counted_is}
use Rattle.write.proofs.exincrby.Goals as goal
use Rattle.write.proofs.exincrby.Goals.{After-admit}

let_by : (c : After-admit) → let a = c.args in LetBy c.admit.result (count_in a.table.now a.target a.key.now a.increment) (act_in a.table.now a.target a.key.now [] (Exincrby a.increment))
let_by c = let a = c.args in exincrby-by a.table.now a.target a.key.now [] a.increment c.admit.ensures

pub nil-requires : goal.nil-requires
nil-requires c = nil-in c.requires.ready.room

pub error-requires : goal.error-requires
error-requires c = (error-in c.requires.ready.room 12, omega arith, omega arith)

pub error-requires-in-Err : goal.error-requires-in-Err
error-requires-in-Err c =
    let q = subst (Comes Executing Signed) (sym c.in-Err.ensures) (total-signed (model_increment c.args.increment) (value_in c.args.table.now c.args.target)) in
    (error-in c.requires.ready.room (number_of c.in-Err.refusal), omega (arith, q.least), q.most)

pub finish-requires : goal.finish-requires
finish-requires c = finish-in c.requires.ready (model_terms c.args.increment.terms) _ _ c.requires.change_ok c.store_number-stored.ensures

pub returns-in-Nil : goal.returns-in-Nil
returns-in-Nil c = turned-nil (let_by (goal.at.returns-in-Nil c).After-admit) _ c.in-Nil.is c.nil.ensures

pub returns-in-Stale : goal.returns-in-Stale
returns-in-Stale c = turned-stale (let_by (goal.at.returns-in-Stale c).After-admit) _ c.in-Stale.is c.error.ensures

pub returns-in-Err : goal.returns-in-Err
returns-in-Err c =
    let t = c.args.table.now in
    let s = c.args.increment in
    does-refuse _ t _ _ _ _ ((let_by (goal.at.returns-in-Err c).After-admit).by c.in-Granted.is ∙ write-none t c.args.target _ _ _ (counted (model_increment s)) _ (counted-refused s _ (sym c.in-Err.ensures))) c.error-in-Err.ensures

pub returns-in-Ok : goal.returns-in-Ok
returns-in-Ok c =
    let t = c.args.table.now in
    let s = c.args.increment in
    let whole : SFits w64 c.in-Ok.z = search rules in
    does-as ((let_by (goal.at.returns-in-Ok c).After-admit).by c.in-Granted.is ∙ write_new t c.args.target _ _ _ (counted (model_increment s)) (new_of s c.in-Ok.z) (counted_is s _ (sym c.in-Ok.ensures)))
    ((subst (λ (y : ℤ). Finishes c.args.reply.now c.finish.new.reply c.store_number-stored.result (count_reply s.with_version y) c.finish.result) (back_is whole) c.finish.ensures).does _ t _ _
    (subst (λ (y : ℤ). Puts (shape_of c.args.target) t c.store_number-stored.new.table c.store_number-stored.result (put_in t c.args.target c.args.key.now (model_terms s.terms) none (int_text y))) (back_is whole) c.store_number-stored.ensures))
