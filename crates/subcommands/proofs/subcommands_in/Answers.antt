-- What was taken comes to the whole, from the first word on, by the name at each and the words after it, and at the last.
use Rattle.std.proofs.Common.{◌≡◌, refl, ap, ◌∙◌, arith, ℕ, ◌+◌, List, map, take}
use Rattle.std.proofs.lemmas.Result.{err_from_is_err_and}
use Rattle.std.proofs.Math.Option.{some}
use Rattle.model.specs.Bytes.{uppers}
use Rattle.model.specs.Checked.{Checked, ok, given}
use Rattle.model.specs.Command.{look}
use Rattle.model.specs.Overflow as overflow
use Rattle.model.specs.Subcommands.{SubName, sub_names, modes, arity}
use Rattle.resp.specs.Held.{words_in}
use Rattle.command.specs.Subcommand.{model_mode, model_sub}
use Rattle.command.specs.declared.subcommand.Operation.{Operation}
use Rattle.subcommands.specs.Words.{sub_by}
use Rattle.subcommands.proofs.Answers.{given-some}
use Rattle.subcommands.proofs.Parts.{at-unknown, at-short, at-sub, at-wrong, goes, at-mode, at-no_mode}
use Rattle.subcommands.proofs.Collecting.{reached-first, refused, reached-mode, reached-wrong, reached-sub, all-wrong, all_read}
use Rattle.subcommands.proofs.subcommands_in.Goals as goal

-- what a word names, by what its word says
named : {w v : List ℕ} {x : Checked SubName} → x ≡ given 8 (look (uppers w) sub_names) → w ≡ v → x ≡ given 8 (look (uppers v) sub_names)
named e p = e ∙ ap (λ (w : List ℕ). given 8 (look (uppers w) sub_names)) p

known : {w v : List ℕ} {s k : SubName} → ok s ≡ given 8 (look (uppers w) sub_names) → w ≡ v → s ≡ k → look (uppers v) sub_names ≡ some k
known {w} {v} e p f = given-some 8 (look (uppers v) sub_names) (named e p) ∙ ap (λ (s : SubName). some s) f

mode-named : {w v : List ℕ} {x : Checked overflow.Mode} → x ≡ given 8 (look (uppers w) modes) → w ≡ v → x ≡ given 8 (look (uppers v) modes)
mode-named e p = e ∙ ap (λ (w : List ℕ). given 8 (look (uppers w) modes)) p

-- what the words say, as they were cut
cut : (op : Operation) {t t' o o' n n' : List ℕ} → t ≡ t' → o ≡ o' → n ≡ n' → given 9 (sub_by op t o n) ≡ given 9 (sub_by op t' o' n')
cut op p q r = λ i. given 9 (sub_by op (p i) (q i) (r i))

pub loop-i-init : goal.loop-i-init
loop-i-init c = reached-first (words_in c.args.words.now) _ refl

pub returns-in_err-name-clause-subs : goal.returns-in_err-name-clause-subs
returns-in_err-name-clause-subs c =
    let p = err_from_is_err_and c.from_residual.result c.from_residual.ensures.1 in
    rw (p.1, p.2) (refused c.loop-i.invariant (at-unknown (words_in c.args.words.now) c.loop-i.i (omega arith) (model_mode c.loop-i.mode) c.loop-i.wrong (map model_sub (take c.loop-i.count c.loop-i.list))
    (named c.in_err-name.ensures c.word.ensures)))

pub returns-then-len-i-clause-subs : goal.returns-then-len-i-clause-subs
returns-then-len-i-clause-subs c =
    refused c.loop-i.invariant (at-short (words_in c.args.words.now) c.loop-i.i (omega arith) (model_mode c.loop-i.mode) c.loop-i.wrong (map model_sub (take c.loop-i.count c.loop-i.list))
    _ (known c.in_ok-name.ensures c.word.ensures refl) (omega (arith, c.arity.ensures)))

pub returns-in_err-mode-in-None-clause-subs : goal.returns-in_err-mode-in-None-clause-subs
returns-in_err-mode-in-None-clause-subs c =
    let p = err_from_is_err_and c.from_residual-in_err-mode-in-None.result c.from_residual-in_err-mode-in-None.ensures.1 in
    rw (p.1, p.2) (refused c.loop-i.invariant (at-no_mode (words_in c.args.words.now) c.loop-i.i (omega arith) (model_mode c.loop-i.mode) c.loop-i.wrong (map model_sub (take c.loop-i.count c.loop-i.list))
    (known c.in_ok-name.ensures c.word.ensures c.in-None.ensures) (mode-named c.in_err-mode-in-None.ensures c.word-in-None.ensures)))

pub loop-i-preserved-in-None : goal.loop-i-preserved-in-None
loop-i-preserved-in-None c =
    reached-mode c.loop-i.invariant (omega arith) (at-mode (words_in c.args.words.now) c.loop-i.i (omega arith) (model_mode c.loop-i.mode) c.loop-i.wrong (map model_sub (take c.loop-i.count c.loop-i.list))
    (known c.in_ok-name.ensures c.word.ensures c.in-None.ensures) (c.loop-i.i + 1 + c.arity.result)
    (omega (arith, c.arity.ensures, ap arity c.in-None.ensures)) (omega arith) (mode-named c.in_ok-mode-in-None.ensures c.word-in-None.ensures))

pub loop-i-preserved-in-Ok : goal.loop-i-preserved-in-Ok
loop-i-preserved-in-Ok c =
    reached-sub c.loop-i.invariant (goes (words_in c.args.words.now) c.loop-i.i (omega arith) (model_mode c.loop-i.mode) c.loop-i.wrong (map model_sub (take c.loop-i.count c.loop-i.list))
    c.in-Some.operation c.in-Some.ensures.1 (known c.in_ok-name.ensures c.word.ensures c.in-Some.ensures.0) (c.loop-i.i + 1 + c.arity.result)
    (omega (arith, c.arity.ensures, ap arity c.in-Some.ensures.0)) (omega arith)) (omega arith) c.in-Ok.sub
    (at-sub (words_in c.args.words.now) c.loop-i.i (omega arith) (model_mode c.loop-i.mode) c.loop-i.wrong (map model_sub (take c.loop-i.count c.loop-i.list))
    c.in-Some.operation c.in-Some.ensures.1 (known c.in_ok-name.ensures c.word.ensures c.in-Some.ensures.0) (c.loop-i.i + 1 + c.arity.result)
    (omega (arith, c.arity.ensures, ap arity c.in-Some.ensures.0)) (omega arith)
    c.in-Ok.sub (c.in-Ok.ensures ∙ cut c.in-Some.operation c.word-int.ensures c.word-offset.ensures c.word-number.ensures))

pub loop-i-preserved : goal.loop-i-preserved
loop-i-preserved c =
    reached-wrong c.loop-i.invariant (omega arith) (at-wrong (words_in c.args.words.now) c.loop-i.i (omega arith) (model_mode c.loop-i.mode) c.loop-i.wrong (map model_sub (take c.loop-i.count c.loop-i.list))
    c.in-Some.operation c.in-Some.ensures.1 (known c.in_ok-name.ensures c.word.ensures c.in-Some.ensures.0) (c.loop-i.i + 1 + c.arity.result)
    (omega (arith, c.arity.ensures, ap arity c.in-Some.ensures.0)) (omega arith)
    (c.in-Err.ensures ∙ cut c.in-Some.operation c.word-int.ensures c.word-offset.ensures c.word-number.ensures))

pub returns-then-wrong-clause-subs : goal.returns-then-wrong-clause-subs
returns-then-wrong-clause-subs c = all-wrong c.loop-i.invariant (omega arith) c.if-wrong.true

pub returns-clause-subs : goal.returns-clause-subs
returns-clause-subs c = all_read c.loop-i.invariant (omega arith) c.if-wrong.false
