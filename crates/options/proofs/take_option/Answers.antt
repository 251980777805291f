-- By what the word spells, whether the rule takes it, and whether a number follows and is there.
use native.Mathlib.Omega.{arith}
use mathlib.Core.Path.{◌≡◌, sym, ap, ◌∙◌}
use mathlib.Core.List.{List}
use Prim.Native.Nat.{ℕ}
use Rattle.std.proofs.lemmas.Result.{err_from_is_err_and}
use Rattle.model.specs.Bytes.{uppers}
use Rattle.model.specs.Checked.{Checked, given}
use Rattle.model.specs.Command as model
use Rattle.model.specs.Command.{look, options}
use Rattle.resp.specs.Held.{words_in}
use Rattle.command.specs.Rules.{model_rule}
use Rattle.options.proofs.Taking.{given-some, taken-unknown, taken-kind, taken-plain, taken-short, taken-numbered}
use Rattle.options.proofs.take_option.Goals as goal

-- what the word spells
spelled : {w v : List ℕ} {x : Checked model.Opt} → x ≡ given 8 (look (uppers w) options) → w ≡ v → x ≡ given 8 (look (uppers v) options)
spelled e p = e ∙ ap (λ (w : List ℕ). given 8 (look (uppers w) options)) p

pub returns-in_err-opt : goal.returns-in_err-opt
returns-in_err-opt c =
    let p = err_from_is_err_and c.from_residual.result c.from_residual.ensures.1 in
    rw (p.1, p.2) (taken-unknown (model_rule c.args.rule) (words_in c.args.words.now) c.args.i c.requires (spelled c.in_err-opt.ensures c.word.ensures))

pub returns-then-not-takes : goal.returns-then-not-takes
returns-then-not-takes c =
    taken-kind (model_rule c.args.rule) (words_in c.args.words.now) c.args.i c.requires c.in_ok-opt.opt (given-some 8 _ (spelled c.in_ok-opt.ensures c.word.ensures))
    (sym c.takes.ensures ∙ c.if-not-takes.true)

pub returns-then-not-numbered : goal.returns-then-not-numbered
returns-then-not-numbered c =
    taken-plain (model_rule c.args.rule) (words_in c.args.words.now) c.args.i c.requires c.in_ok-opt.opt (given-some 8 _ (spelled c.in_ok-opt.ensures c.word.ensures))
    (sym c.takes.ensures ∙ c.if-not-takes.false) (sym c.numbered.ensures ∙ c.if-not-numbered.true)

pub returns-then-count-number : goal.returns-then-count-number
returns-then-count-number c =
    taken-short (model_rule c.args.rule) (words_in c.args.words.now) c.args.i c.requires c.in_ok-opt.opt (given-some 8 _ (spelled c.in_ok-opt.ensures c.word.ensures))
    (sym c.takes.ensures ∙ c.if-not-takes.false) (sym c.numbered.ensures ∙ c.if-not-numbered.false) (omega arith)

pub returns : goal.returns
returns c =
    taken-numbered (model_rule c.args.rule) (words_in c.args.words.now) c.args.i c.requires c.in_ok-opt.opt (given-some 8 _ (spelled c.in_ok-opt.ensures c.word.ensures))
    (sym c.takes.ensures ∙ c.if-not-takes.false) (sym c.numbered.ensures ∙ c.if-not-numbered.false) (omega arith)
