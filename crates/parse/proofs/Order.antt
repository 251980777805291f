-- The tests in their order: the first that fails refuses, and what passes is as if it were not tested.
use Prim.Native.Nat.{ℕ, ◌-◌, ◌≤◌}
use mathlib.Core.Path.{◌≡◌, refl, sym, ap, ◌∙◌, subst}
use mathlib.Core.Bool.{Bool, true, false, cond, not, ◌||◌}
use mathlib.Core.List.{List, []}
use mathlib.Core.Option.{Option, none, some}
use lib.ListN.{length, drop, drop_of_length-le}
use Rattle.std.specs.Prelude.{Result}
use Rattle.model.specs.Optional.{only}
use Rattle.model.specs.Checked.{Checked, refuse, ok, given, ◌>>=◌}
use Rattle.model.specs.Command as model
use Rattle.model.specs.Command.{Command, under, Name, rule_of, time_word}
use Rattle.model.specs.Options.{Given, has, read_options, enough, options_in, Said, said_in}
use Rattle.model.specs.Parse.{word_at, read_fixed, action_of, parse_numbers, parse_options}
use Rattle.outcome.specs.Outcome.{checked}
use Rattle.outcome.specs.declared.Refusal.{Refusal}
use Rattle.command.specs.Rules.{model_rule, model_number}
use Rattle.command.specs.declared.Rule.{Rule}
use Rattle.arguments.specs.Fixed.{model_fixed}
use Rattle.arguments.specs.declared.Fixed.{Fixed}

-- what the last fixed word of the words ws is read as, by the rule m
abbrev FixedIs : (ws : List (List ℕ)) → Result Fixed Refusal → model.Rule → Type 0
FixedIs ws x m = checked (model_fixed m.number) x ≡ given 9 (read_fixed m.number (word_at (m.fixed - 1) ws))

-- what the options o come to
after : (time : ℕ) (ws : List (List ℕ)) (n : Name) → Option (List Given) → Checked Command
after time ws n o = given 8 o >>= parse_numbers time ws n

after_is : (time : ℕ) (ws : List (List ℕ)) (n : Name) {o : Option (List Given)}
    → options_in (rule_of n) (drop (rule_of n).fixed ws) ≡ o → after time ws n o ≡ parse_options time ws n
unfolding after parse_options
after_is time ws n e = sym (ap (after time ws n) e)

-- r is the rule of the name n
module _ (time : ℕ) (ws : List (List ℕ)) (n : Name) (r : Rule) (rule : model_rule r ≡ rule_of n) where
  -- ---- tests 9 to 11: the last fixed word, then what the options say

  module _ (gs : List Given) (x : Result Fixed Refusal) where
    pub numbers-in-turn : {s : Checked Said}
        → checked (model_fixed (model_number r.number)) x ≡ given 9 (read_fixed (model_number r.number) (word_at (r.fixed - 1) ws)) → s ≡ said_in time r.keeps gs
        → (checked (model_fixed (rule_of n).number) x >>= λ x. s >>= λ s. ok (under (word_at 1 ws) (action_of n (word_at 2 ws) x s))) ≡ parse_numbers time ws n gs
    unfolding parse_numbers
    numbers-in-turn {s} q e =
        let fixed : FixedIs ws x (rule_of n) = subst (FixedIs ws x) rule q in
        let said : s ≡ said_in time (rule_of n).keeps gs = e ∙ ap (λ (m : model.Rule). said_in time m.keeps gs) rule in
        λ i. fixed i >>= λ x. said i >>= λ s. ok (under (word_at 1 ws) (action_of n (word_at 2 ws) x s))

  -- ---- test 8

  -- no words after the fixed ones are no options, which is wrong where a time word is needed
  pub none-given : {t : Bool} → length ws ≤ r.fixed → r.timed ≡ t → cond t (refuse 8) (parse_numbers time ws n []) ≡ parse_options time ws n
  unfolding after read_options
  none-given {t} h e =
      let left = subst (λ (m : model.Rule). drop m.fixed ws ≡ []) rule (drop_of_length-le ws {i = r.fixed} h) in
      let timed = sym (ap (λ (m : model.Rule). m.timed) rule) ∙ e in
      by t
      ∙ after_is time ws n (ap (λ (l : List (List ℕ)). only (enough (rule_of n)) (read_options (rule_of n) [] none l)) left
      ∙ ap (λ (t : Bool). cond (not t || has time_word []) (some []) none) timed)
    where
      by : (t : Bool) → cond t (refuse 8) (parse_numbers time ws n []) ≡ after time ws n (cond (not t || has time_word []) (some []) none)
      by true = refl
      by false = refl

  -- the options that were read are the model's
  pub some-given : {gs : List Given} → options_in (model_rule r) (drop r.fixed ws) ≡ some gs → parse_numbers time ws n gs ≡ parse_options time ws n
  unfolding after
  some-given {gs} e = after_is time ws n (subst (λ (m : model.Rule). options_in m (drop m.fixed ws) ≡ some gs) rule e)
