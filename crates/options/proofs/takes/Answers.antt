-- The rule takes the option if the bit of its kind is set.
use Prim.Native.Nat.{ℕ, ◌/◌, ◌^◌}
use mathlib.Core.Path.{sym, ap, ◌∙◌}
use lib.Bits.{bit_and, and_mask}
use lib.Dec.{eqb}
use Rattle.model.specs.Command.{kind_no, opt_rule_of}
use Rattle.command.specs.Words.{model_opt}
use Rattle.command.proofs.Bits.{takes-bit}
use Rattle.options.proofs.takes.Goals as goal

pub returns : goal.returns
returns c =
    let a = c.args in
    ap (λ (k : ℕ). eqb (bit_and (a.rule.kinds / 2 ^ k) 1) 1) c.kind_of.ensures
    ∙ (ap (λ (x : ℕ). eqb x 1) (and_mask (a.rule.kinds / 2 ^ kind_no (opt_rule_of (model_opt a.opt)).kind) 1)
    ∙ sym (takes-bit a.rule.kinds (opt_rule_of (model_opt a.opt)).kind))
