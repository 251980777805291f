-- By the letter of the word, and by its width.
use Rattle.std.proofs.Common.{◌∙◌, sym, ap, arith, ℕ, List}
use Rattle.model.specs.Checked.{given}
use Rattle.model.specs.Number.{read_nat}
use Rattle.subcommands.specs.Words.{width_from}
use Rattle.subcommands.proofs.Answers.{from-none, from-some, rest-of}
use Rattle.subcommands.proofs.Types.{type-empty, type-unknown, type-none, type-known}
use Rattle.subcommands.proofs.word.type_in.Goals as goal

pub returns-in_default : goal.returns-in_default
returns-in_default c = sym (ap (given 9) (type-empty c.args.w.now (omega arith)))

pub returns-in_default-sign_in : goal.returns-in_default-sign_in
returns-in_default-sign_in c = sym (ap (given 9) (type-unknown c.args.w.now (omega arith) (from-none _ c.in_default-sign_in.ensures)))

pub returns-in_default-width_in : goal.returns-in_default-width_in
returns-in_default-width_in c =
    let w = c.args.w.now in
    sym (ap (given 9) (type-none w (omega arith) (from-some _ c.in-Some.ensures)
    (c.in_default-width_in.ensures ∙ ap (λ (s : List ℕ). width_from (read_nat s)) (rest-of w))))

pub returns : goal.returns
returns c =
    let w = c.args.w.now in
    c.type_of.ensures ∙ sym (ap (given 9) (type-known w (omega arith) (from-some _ c.in-Some.ensures)
    (c.in-Some-width_in.ensures ∙ ap (λ (s : List ℕ). width_from (read_nat s)) (rest-of w))))
