-- By the first byte of the word, and what number it says.
use Rattle.std.proofs.Common.{◌≡◌, ◌∙◌, sym, ap, arith, ℕ, List, drop}
use Rattle.std.proofs.Math.Option.{Option}
use Rattle.model.specs.Checked.{given}
use Rattle.model.specs.Number.{read_below}
use Rattle.model.specs.Subcommands.{offset_limit}
use Rattle.command.specs.Subcommand.{model_int}
use Rattle.subcommands.proofs.Answers.{from-none, from-some, rest-of}
use Rattle.subcommands.proofs.Offsets.{offset-empty, offset-fields, offset-plain, offset-digit}
use Rattle.subcommands.proofs.word.offset_in.Goals as goal

-- what the word says after #
after : (w : List ℕ) {s : List ℕ} {x : Option ℕ} → s ≡ drop 1 w → read_below offset_limit s ≡ x → read_below offset_limit (drop 1 w) ≡ x
after w e f = sym (ap (read_below offset_limit) e) ∙ f

pub returns-in-Some : goal.returns-in-Some
returns-in-Some c = sym (ap (given 9) (offset-digit (model_int c.args.int) c.args.w.now c.in-Some.ensures))

pub returns-in_default-w : goal.returns-in_default-w
returns-in_default-w c = sym (ap (given 9) (offset-empty (model_int c.args.int) c.args.w.now (omega arith)))

pub returns-in_default-read_below : goal.returns-in_default-read_below
returns-in_default-read_below c =
    let w = c.args.w.now in
    sym (ap (given 9) (offset-fields (model_int c.args.int) w c.if-first-eq35.true (after w (rest-of w) (from-none _ c.in_default-read_below.ensures))))

pub returns-then-first-eq35 : goal.returns-then-first-eq35
returns-then-first-eq35 c =
    let w = c.args.w.now in
    let fields = offset-fields (model_int c.args.int) w c.if-first-eq35.true (after w (rest-of w) (from-some _ c.in-Some-read_below.ensures)) in
    rw c.from.ensures (sym (ap (given 9) fields))

pub returns-in_default-read_below-2 : goal.returns-in_default-read_below-2
returns-in_default-read_below-2 c =
    sym (ap (given 9) (offset-plain (model_int c.args.int) c.args.w.now (λ z. omega arith) c.if-first-eq35.false
    ∙ from-none _ c.in_default-read_below-2.ensures))

pub returns : goal.returns
returns c =
    sym (ap (given 9) (offset-plain (model_int c.args.int) c.args.w.now (λ z. omega arith) c.if-first-eq35.false
    ∙ from-some _ c.in-Some-read_below-2.ensures))
