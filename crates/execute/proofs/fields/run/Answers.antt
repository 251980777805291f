use Rattle.std.proofs.Common.{length, map, ap, arith}
use borrow.Author.Tests.{not-true, not-false}
use Rattle.model.specs.Command.{keep}
use Rattle.model.specs.Bitfield.{result_scalar}
use Rattle.model.specs.Execute.{swapping}
use Rattle.access.proofs.Doing.{does-answer}
use Rattle.write.proofs.Writing.{finish-in, does-as}
use Rattle.execute.proofs.Running.{ran, unwritten, written, puts-value, end-within, value-fits, answers-count, value-is, text-is}
use Rattle.execute.proofs.fields.run.Goals as goal

pub run_stored-ran-requires-clause-within : goal.run_stored-ran-requires-clause-within
run_stored-ran-requires-clause-within c = end-within c.args.table.now c.args.target c.args.subs c.requires.fields_fit.1

pub returns-then-not-ran : goal.returns-then-not-ran
returns-then-not-ran c =
    let a = c.args in
    let l = c.run_stored-ran.ensures in
    let d = ran a.table.now a.target a.subs in
    does-answer _ a.table.now _ _ _ _
    (unwritten a.table.now a.target a.subs c.requires.fields_fit.1 _ l (not-true c.run_stored-ran.result.wrote c.if-not-ran.true))
    (c.elements.ensures (map result_scalar d.results) (answers-count a.table.now a.target a.subs) (text-is {d = d} l))

pub store_value-stored-requires-clause-key_len_bound : goal.store_value-stored-requires-clause-key_len_bound
store_value-stored-requires-clause-key_len_bound c =
    let a = c.args in
    (c.requires.ready.key, omega (arith, ap length (value-is c.run_stored-ran.ensures), value-fits a.table.now a.target a.subs c.requires.fields_fit.1 c.requires.fields_fit.0 c.requires.ready.under.sound))

pub finish-requires-clause-some_room : goal.finish-requires-clause-some_room
finish-requires-clause-some_room c = finish-in c.requires.ready (swapping keep) _ _ tt c.store_value-stored.ensures

pub returns : goal.returns
returns c =
    let a = c.args in
    let l = c.run_stored-ran.ensures in
    let d = ran a.table.now a.target a.subs in
    does-as (written a.table.now a.target a.subs c.requires.fields_fit.1 _ l (not-false c.run_stored-ran.result.wrote c.if-not-ran.false))
    ((c.finish.ensures (map result_scalar d.results) (answers-count a.table.now a.target a.subs) (text-is {d = d} l)).does _ a.table.now _ _
    (puts-value a.table.now a.target a.subs c.requires.fields_fit.1 _ l c.store_value-stored.ensures))
