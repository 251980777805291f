-- The number among the fixed words, the options and what they say, each where its test stands.
use Rattle.std.proofs.Common.{◌≡◌, refl, ap, ◌∙◌, arith, [], Err, Ok, ℕ, List, Result, Bool, true, false, sym, drop}
use Rattle.std.proofs.lemmas.Result.{err_from_is_err_and}
use mathlib.Core.Option.{Option, none, some}
use Rattle.model.specs.Options.{Given, options_in}
use Rattle.model.specs.Optional.{is_some}
use Rattle.model.specs.Checked.{Checked, refuse, ok, given, ◌>>=◌}
use Rattle.model.proofs.Basics.{never}
use Rattle.model.specs.Command.{Action, under, rule_of}
use Rattle.model.specs.Parse.{word_at, read_fixed}
use Rattle.outcome.specs.Outcome.{checked}
use Rattle.outcome.specs.declared.Refusal.{Refusal}
use Rattle.resp.specs.Held.{words_in}
use Rattle.command.specs.Rules.{model_number, model_rule}
use Rattle.command.specs.declared.Rule.{Rule}
use Rattle.command.specs.Words.{model_name}
use Rattle.arguments.specs.Fixed.{model_fixed}
use Rattle.arguments.specs.declared.Fixed.{Fixed}
use Rattle.parse.proofs.Order.{numbers-in-turn, none-given, some-given}
use Rattle.parse.proofs.parse_options.Goals as goal

-- what was read of a word is what is read of the words' last fixed one
at_word : (r : Rule) (x : Result Fixed Refusal) {w v : List ℕ} → w ≡ v → checked (model_fixed (model_number r.number)) x ≡ given 9 (read_fixed (model_number r.number) w)
    → checked (model_fixed (model_number r.number)) x ≡ given 9 (read_fixed (model_number r.number) v)
at_word r x e f = f ∙ ap (λ (w : List ℕ). given 9 (read_fixed (model_number r.number) w)) e

-- the command of an action at the key of the words ws
under_is : (ws : List (List ℕ)) {a b : Action} → a ≡ b → ok (under (word_at 1 ws) a) ≡ ok (under (word_at 1 ws) b)
under_is ws e = ap (λ (a : Action). ok (under (word_at 1 ws) a)) e

abbrev refused : {B : Type 0} → ℕ → Checked B
refused n = refuse n

-- a later test refuses where the number among the fixed words was read
abbrev read : Result Fixed Refusal → Bool
read (Ok f) = true
read (Err r) = false

past : {A B : Type 0} (g : Fixed → A) (x : Result Fixed Refusal) (n : ℕ) → read x ≡ true → refused n ≡ (checked g x >>= λ (y : A). refused {B = B} n)
past g (Ok f) n e = refl
past g (Err r) n e = never true refl (sym e)

-- options that were read are some list
taken : (x : Option (List Given)) → is_some x ≡ true → {P : Type 0} → ((gs : List Given) → x ≡ some gs → P) → P
taken none e k = never true refl (sym e)
taken (some gs) e k = k gs refl

pub returns-then-rule : goal.returns-then-rule
returns-then-rule c = none-given c.args.time (words_in c.args.words.now) (model_name c.args.name) c.args.rule c.requires.rule (omega arith) c.if-rule.true

pub returns-in_err-fixed : goal.returns-in_err-fixed
returns-in_err-fixed c =
    let p = err_from_is_err_and c.from_residual.result c.from_residual.ensures.1 in
    rw (p.1, p.2)
    (numbers-in-turn c.args.time (words_in c.args.words.now) (model_name c.args.name) c.args.rule c.requires.rule [] (Err c.in_err-fixed.field-0.0) (at_word c.args.rule (Err c.in_err-fixed.field-0.0) c.word-word.ensures c.in_err-fixed.ensures) refl
    ∙ none-given c.args.time (words_in c.args.words.now) (model_name c.args.name) c.args.rule c.requires.rule (omega arith) c.if-rule.false)

pub returns-then-len-rule : goal.returns-then-len-rule
returns-then-len-rule c =
    under_is (words_in c.args.words.now) (c.action_of.ensures (word_at 2 (words_in c.args.words.now)))
    ∙ (numbers-in-turn c.args.time (words_in c.args.words.now) (model_name c.args.name) c.args.rule c.requires.rule [] (Ok c.in_ok-fixed.field-0) (at_word c.args.rule (Ok c.in_ok-fixed.field-0) c.word-word.ensures c.in_ok-fixed.ensures)
    (c.unsaid-said.ensures c.args.time)
    ∙ none-given c.args.time (words_in c.args.words.now) (model_name c.args.name) c.args.rule c.requires.rule (omega arith) c.if-rule.false)

pub returns-in_err-fixed-2 : goal.returns-in_err-fixed-2
returns-in_err-fixed-2 c =
    let p = err_from_is_err_and c.from_residual-in_err-fixed-2.result c.from_residual-in_err-fixed-2.ensures.1 in
    rw (p.1, p.2)
    (taken (options_in (model_rule c.args.rule) (drop c.args.rule.fixed (words_in c.args.words.now))) (grind arith) (λ gs told.
    numbers-in-turn c.args.time (words_in c.args.words.now) (model_name c.args.name) c.args.rule c.requires.rule gs (Err c.in_err-fixed-2.field-0.0) (at_word c.args.rule (Err c.in_err-fixed-2.field-0.0) c.word-word.ensures c.in_err-fixed-2.ensures) refl
    ∙ some-given c.args.time (words_in c.args.words.now) (model_name c.args.name) c.args.rule c.requires.rule told))

pub returns-in_err-said : goal.returns-in_err-said
returns-in_err-said c =
    let p = err_from_is_err_and c.from_residual-in_err-said.result c.from_residual-in_err-said.ensures.1 in
    let x = c.read_fixed-fixed.result in
    rw (p.1, p.2)
    (past (λ (f : Fixed). model_fixed (rule_of (model_name c.args.name)).number f) x _ (grind arith)
    ∙ numbers-in-turn c.args.time (words_in c.args.words.now) (model_name c.args.name) c.args.rule c.requires.rule c.in_ok-o.ensures.given x (at_word c.args.rule x c.word-word.ensures c.read_fixed-fixed.ensures)
    (c.in_err-said.ensures c.in_ok-o.ensures.given c.in_ok-o.ensures.tied)
    ∙ some-given c.args.time (words_in c.args.words.now) (model_name c.args.name) c.args.rule c.requires.rule c.in_ok-o.ensures.told)

pub returns : goal.returns
returns c =
    let o = c.in_ok-o.ensures in
    under_is (words_in c.args.words.now) (c.action_of-2.ensures (word_at 2 (words_in c.args.words.now)))
    ∙ (numbers-in-turn c.args.time (words_in c.args.words.now) (model_name c.args.name) c.args.rule c.requires.rule o.given (Ok c.in_ok-fixed-2.fixed) (at_word c.args.rule (Ok c.in_ok-fixed-2.fixed) c.word-word.ensures c.in_ok-fixed-2.ensures)
    (c.in_ok-said.ensures o.given o.tied)
    ∙ some-given c.args.time (words_in c.args.words.now) (model_name c.args.name) c.args.rule c.requires.rule c.in_ok-o.ensures.told)
