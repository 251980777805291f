use Rattle.std.proofs.Common.{◌≡◌, ℕ, ◌+◌, ◌-◌, ◌<◌, Bool, true, sym, ap, ◌∙◌}
use mathlib.Core.Bool.{◌&&◌}
use native.Mathlib.Nat.{sub-zero}
use Rattle.model.specs.Bitfield.{ends_within, all_end_within}
use Rattle.command.specs.Subcommand.{model_sub, sub_at, subs_from, model_subs}
use Rattle.command.specs.declared.subcommand.Sub.{Sub}
use Rattle.command.specs.declared.subcommand.Subs.{Subs}
use Rattle.bitfield.proofs.Subcommands.{subs-next}
use Rattle.bitfield.proofs.all_end_within.Goals as goal

-- where subcommand i passes the test, it goes by those after it
passed : (n : ℕ) (s : Subs) (i : ℕ) {x : Sub} {b : Bool} → i < s.count → x ≡ sub_at s i → b ≡ ends_within n (model_sub x) → b ≡ true
    → all_end_within n (subs_from s (i + 1) (s.count - (i + 1))) ≡ all_end_within n (subs_from s i (s.count - i))
passed n s i {x} {b} h e r t =
    let rest = all_end_within n (subs_from s (i + 1) (s.count - (i + 1))) in
    ap (λ (b : Bool). b && rest) (sym t ∙ (r ∙ ap (λ (x : Sub). ends_within n (model_sub x)) e)) ∙ sym (ap (all_end_within n) (subs-next s i h))

pub loop-i-init : goal.loop-i-init
unfolding model_subs
loop-i-init c = ap (λ (n : ℕ). all_end_within c.args.limit (subs_from c.args.subs 0 n)) (sub-zero c.args.subs.count)

pub loop-i-preserved : goal.loop-i-preserved
loop-i-preserved c =
    passed c.args.limit c.args.subs c.loop-i.i c.loop-i-test.true c.sub_at.ensures c.ends_within.ensures c.if-not-ends_within.false ∙ c.loop-i.invariant
