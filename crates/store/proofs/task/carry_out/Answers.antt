-- An action is done under its key, and so are BITFIELD's subcommands, unless their words refuse them.
use Rattle.std.proofs.Common.{◌≡◌, ◌∙◌, ℕ, List, length, sym, ap, subst, arith}
use Rattle.model.specs.Checked.{Checked}
use Rattle.model.specs.Command.{Command}
use Rattle.model.specs.Parse.{word_at, parse_subcommands, parse}
use Rattle.model.specs.Execute.{Effect}
use Rattle.model.proofs.Commands.{Known}
use Rattle.outcome.specs.Outcome.{number_of}
use Rattle.resp.specs.Held.{words_in}
use Rattle.command.specs.Command.{model_command, checked_task}
use Rattle.command.specs.declared.Action as code
use Rattle.command.specs.declared.Task.{Task}
use Rattle.command.specs.declared.Task.TheVariants.{Action, Bitfield}
use Rattle.live.specs.declared.Target.{Target}
use Rattle.live.specs.Under.{IsUnder, shape_of}
use Rattle.access.proofs.Doing.{error-in, does-refuse}
use Rattle.entry.proofs.Parses as parses
use Rattle.execute.specs.Does.{Held, Ready}
use Rattle.write.proofs.Writing.{does-as}
use Rattle.store.specs.Runs.{CanRun, effect_in}
use Rattle.store.proofs.Acting.{action-fits, action-done}
use Rattle.store.proofs.Subcommands.{refused, known, fields_fit, fields-refused, fields-done}
use Rattle.store.proofs.task.carry_out.Goals as goal

module _ {g : Target} {k : Task} {ws : List (List ℕ)} {old : Held} (r : CanRun g k ws old) where
  -- what stands under the key that is handed on
  under : {key : List ℕ} → key ≡ word_at 1 ws → IsUnder (shape_of g) old.table g.time key g.found
  under e = subst (λ (x : List ℕ). IsUnder (shape_of g) old.table g.time x g.found) (sym e) r.under

  -- a target is ready where its command is known
  ready : {key : List ℕ} {c : Command} → key ≡ word_at 1 ws → Known (shape_of g) ws c → Ready g key old
  ready e h = record { under = under e; key = omega (arith, ap length e, ap length h.key, h.key-to); room = r.room }

  -- the action that is done
  acted : {a : code.Action} → k ≡ Action a → Known (shape_of g) ws (model_command ws a)
  acted e = parses.known (shape_of g) g.time ws r.parsed (ap (checked_task ws) e)

  -- BITFIELD, whose subcommands are read
  read : k ≡ Bitfield → parse_subcommands ws ≡ parse (shape_of g) g.time ws
  read e = ap (checked_task ws) (sym e) ∙ r.parsed

-- what a task does, by its case
by-task : (g : Target) (t : List ℕ) (ws : List (List ℕ)) {k j : Task} → k ≡ j → effect_in g k t ws ≡ effect_in g j t ws
by-task g t ws e = ap {B = Checked Effect} (λ (k : Task). effect_in g k t ws) e

pub execute-requires-clause-ready : goal.execute-requires-clause-ready
execute-requires-clause-ready c = ready c.requires.can_run c.word-key.ensures (acted c.requires.can_run c.in-Action.is)

pub execute-requires-clause-action_fits : goal.execute-requires-clause-action_fits
execute-requires-clause-action_fits c = action-fits c.in-Action.action (acted c.requires.can_run c.in-Action.is) c.word-value.ensures

pub error-requires : goal.error-requires
error-requires c =
    let p = refused (words_in c.args.words.now) (shape_of c.args.target) c.args.target.time (read c.requires.can_run c.in-Bitfield.is) c.in-Err.refusal c.in-Err.ensures.subs in
    (error-in c.requires.can_run.room (number_of c.in-Err.refusal), omega (arith, p.least), omega (arith, p.most))

pub bitfield-requires : goal.bitfield-requires
bitfield-requires c =
    let e = read c.requires.can_run c.in-Bitfield.is in
    let a = c.args in
    let ws = words_in a.words.now in
    let f = shape_of a.target in
    let subs = c.in-Ok.ensures.subs in
    record {
      ready = ready c.requires.can_run c.word-key.ensures (known ws f a.target.time e c.in-Ok.subs subs);
      fields_fit = fields_fit ws f a.target.time e c.in-Ok.subs subs c.in-Ok.ensures.few;
    }

pub returns-in-Action : goal.returns-in-Action
returns-in-Action c =
    does-as
    (by-task c.args.target c.args.table.now (words_in c.args.words.now) c.in-Action.is
    ∙ action-done c.args.table.now c.args.target (words_in c.args.words.now) c.in-Action.action c.word-key.ensures c.word-value.ensures (under c.requires.can_run c.word-key.ensures))
    c.execute.ensures

pub returns-in-Err : goal.returns-in-Err
returns-in-Err c =
    does-refuse _ c.args.table.now _ _ _ _
    (by-task c.args.target c.args.table.now (words_in c.args.words.now) c.in-Bitfield.is
    ∙ fields-refused (words_in c.args.words.now) c.args.table.now c.args.target c.in-Err.refusal c.in-Err.ensures.subs)
    c.error.ensures

pub returns-in-Ok : goal.returns-in-Ok
returns-in-Ok c =
    does-as
    (by-task c.args.target c.args.table.now (words_in c.args.words.now) c.in-Bitfield.is
    ∙ fields-done (words_in c.args.words.now) c.args.table.now c.args.target c.in-Ok.subs c.in-Ok.ensures.subs c.word-key.ensures (under c.requires.can_run c.word-key.ensures))
    c.bitfield.ensures
