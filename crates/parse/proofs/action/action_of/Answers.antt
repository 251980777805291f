-- Each name has its action.
use Rattle.std.proofs.Common.{◌≡◌, sym, ap, ◌∙◌, ℕ, List, ℤ, SFits, w64, rules}
use Rattle.model.specs.Command as model
use Rattle.model.specs.Command.{EXINCRBY, rule_of}
use Rattle.model.specs.Parse.{action_of}
use Rattle.number.proofs.Integers.{back_is}
use Rattle.command.specs.Command.{model_action}
use Rattle.command.specs.Words.{model_name}
use Rattle.command.specs.declared.Name.{Name}
use Rattle.values.specs.Values.{model_said}
use Rattle.values.specs.declared.Said.{Said}
use Rattle.arguments.specs.Fixed.{model_fixed}
use Rattle.arguments.specs.declared.Fixed.{Fixed}
use Rattle.parse.proofs.action.action_of.Goals as goal

module _ (v : List ℕ) (f : Fixed) (s : Said) where
  -- the model's action of a name
  abbrev of : Name → model.Action
  of n = action_of (model_name n) v (model_fixed (rule_of (model_name n)).number f) (model_said s)

  row : {n m : Name} → n ≡ m → of m ≡ of n
  row e = sym (ap of e)

pub returns-in-Exsetver : goal.returns-in-Exsetver
unfolding model_action
returns-in-Exsetver c v = row v c.args.fixed c.args.said c.in-Exsetver.is

pub returns-in-Excas : goal.returns-in-Excas
unfolding model_action
returns-in-Excas c v = row v c.args.fixed c.args.said c.in-Excas.is

pub returns-in-Excad : goal.returns-in-Excad
unfolding model_action
returns-in-Excad c v = row v c.args.fixed c.args.said c.in-Excad.is

pub returns-in-Exincrby : goal.returns-in-Exincrby
unfolding model_action
returns-in-Exincrby c v =
    let fits : SFits w64 c.args.fixed.by = search rules in
    ap (λ (z : ℤ). action_of EXINCRBY v z (model_said c.args.said)) (back_is fits) ∙ row v c.args.fixed c.args.said c.in-Exincrby.is
