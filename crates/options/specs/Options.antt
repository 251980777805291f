-- What ties the options of a command by value to the model's list of given options; ws are the words of the command.
use Rattle.std.specs.Prelude.{ℕ, ◌<◌, ◌≡◌, cond, List, [], ◌∷◌, length, get_or, drop, Option, Some, None, Result, Ok, Err}
use Rattle.std.proofs.Math.Option as model_option
use Rattle.model.specs.Command.{Kind, kind_no, opt_rule_of, Rule}
use Rattle.model.specs.Options as model
use Rattle.model.specs.Options.{pick, has, read_options}
use Rattle.model.specs.Parse.{word_at}
use Rattle.model.specs.Checked.{refuse, given}
use Rattle.outcome.specs.Outcome.{number_of}
use Rattle.outcome.specs.declared.Refusal.{Refusal}
use Rattle.command.specs.Words.{model_opt}
use Rattle.options.specs.declared.Given.{Given}
use Rattle.options.specs.declared.Options.{Options}
use Rattle.options.specs.declared.Taken.{Taken}

-- the word of an option's number, empty where no number follows
abbrev pub number_word : (ws : List (List ℕ)) → Option ℕ → List ℕ
number_word ws None = []
number_word ws (Some i) = word_at i ws

-- an option and the word of its number
abbrev pub option_of : (ws : List (List ℕ)) → Given → model.Given
option_of ws g = record { opt = model_opt g.opt; word = number_word ws g.word }

-- the option of a group, if one is given
abbrev pub model_given : (ws : List (List ℕ)) → Option Given → model_option.Option model.Given
model_given ws None = model_option.none
model_given ws (Some g) = model_option.some (option_of ws g)

-- the option of a group
abbrev pub group_at : Options → Kind → Option Given
group_at o k = get_or o.groups (kind_no k) None

-- the options o are the model's gs, group by group
pub record Tied (ws : List (List ℕ)) (gs : List model.Given) (o : Options) : Type 0 where
  pub ten : length o.groups ≡ 10
  pub picks : (k : Kind) → pick k gs ≡ model_given ws (group_at o k)

-- the group of an option by value
abbrev pub group_of : Given → Kind
group_of g = (opt_rule_of (model_opt g.opt)).group

-- what the words come to after the options gs, by what their first one was taken as: its group must be free
abbrev pub model_taken : Rule → (ws : List (List ℕ)) → (gs : List model.Given) → Result Taken Refusal → model_option.Option (List model.Given)
model_taken r ws gs (Err e) = model_option.none
model_taken r ws gs (Ok t) = cond (has (group_of t.given) gs) model_option.none (read_options r (option_of ws t.given ∷ gs) model_option.none (drop t.next ws))

-- the next word stands after word i, and a wrong word is refused by 8
abbrev pub Moves : (i : ℕ) → Result Taken Refusal → Type 0
Moves i (Err e) = number_of e ≡ 8
Moves i (Ok t) = i < t.next

-- what word i is taken as
pub record Takes (r : Rule) (ws : List (List ℕ)) (i : ℕ) (t : Result Taken Refusal) : Type 0 where
  pub model : (gs : List model.Given) → model_taken r ws gs t ≡ read_options r gs model_option.none (drop i ws)
  pub moves : Moves i t

-- the options o are the model's x
pub record Read (ws : List (List ℕ)) (x : model_option.Option (List model.Given)) (o : Options) : Type 0 where
  pub given : List model.Given
  pub told : x ≡ model_option.some given
  pub tied : Tied ws given o

-- what the reading of the options answers
abbrev pub Collects : (ws : List (List ℕ)) → model_option.Option (List model.Given) → Result Options Refusal → Type 0
Collects ws x (Err e) = refuse (number_of e) ≡ given 8 x
Collects ws x (Ok o) = Read ws x o
