use Rattle.std.proofs.Common.{◌≡◌, refl, ℕ, ◌+◌, ◌-◌, ◌<◌, List, sym, ap, ◌∙◌, subst, arith}
use mathlib.Core.List.{◌∷◌}
use native.Mathlib.Nat.{sub-zero}
use Rattle.model.specs.Bitfield as model
use Rattle.command.specs.Subcommand.{model_sub, sub_at, subs_from, model_subs}
use Rattle.command.specs.declared.subcommand.Sub.{Sub}
use Rattle.command.specs.declared.subcommand.Subs.{Subs}
use Rattle.bitfield.specs.declared.Ran.{Ran}
use Rattle.bitfield.proofs.Subcommands.{subs-next, subs-none, length-subs}
use Rattle.bitfield.proofs.Running.{Underway, begin, answer-room, next, finish}
use Rattle.bitfield.proofs.run.Goals as goal

-- those left, in another form
left_as : {whole : model.Ran} {n : ℕ} {old b text : List ℕ} {r : Ran} {ss ts : List model.Sub} → ss ≡ ts → Underway whole n old ss b text r → Underway whole n old ts b text r
left_as {whole} {n} {old} {b} {text} {r} e = subst (λ (ss : List model.Sub). Underway whole n old ss b text r) e

-- the next subcommand, and those after it
going : {whole : model.Ran} {n i : ℕ} {old b text : List ℕ} {r : Ran} (s : Subs) {x : Sub} → i < s.count → x ≡ sub_at s i
    → Underway whole n old (subs_from s i (s.count - i)) b text r → Underway whole n old (model_sub x ∷ subs_from s (i + 1) (s.count - (i + 1))) b text r
going {i = i} s h e = left_as (subs-next s i h ∙ ap (λ (x : Sub). model_sub x ∷ subs_from s (i + 1) (s.count - (i + 1))) (sym e))

pub loop-i-init : goal.loop-i-init
unfolding model_subs
loop-i-init c =
    let s = c.args.subs in
    left_as (ap (subs_from s 0) (sym (sub-zero s.count)))
    (begin {old = c.args.text.now} (model_subs s) c.requires.clean c.requires.typed c.requires.within (omega (arith, length-subs s, c.requires.room)))

pub put_answer-requires : goal.put_answer-requires
put_answer-requires c = answer-room (going c.args.subs c.loop-i-test.true c.sub_at.ensures c.loop-i.invariant) c.run_sub-done.ensures

pub loop-i-preserved : goal.loop-i-preserved
loop-i-preserved c = next (going c.args.subs c.loop-i-test.true c.sub_at.ensures c.loop-i.invariant) c.run_sub-done.ensures c.put_answer.ensures refl

pub returns : goal.returns
returns c = finish (left_as (subs-none c.args.subs c.loop-i.i c.loop-i-test.false) c.loop-i.invariant)
