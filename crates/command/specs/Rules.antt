-- The rule of a command by value, as the model has it.
use Rattle.std.specs.Prelude.{ℕ, ◌/◌, ◌%◌, ◌^◌, Bool, cond, List, [], ◌∷◌, eqb, Option, Some, None}
use Rattle.std.proofs.Math.Option as model_option
use Rattle.model.specs.Command as model
use Rattle.model.specs.Command.{Kind, kind_no}
use Rattle.command.specs.declared.NumberKind.{NumberKind}
use Rattle.command.specs.declared.Rule.{Rule}

-- what number the last fixed word is
abbrev pub model_number : Option NumberKind → model_option.Option model.Number
model_number None = model_option.none
model_number (Some NumberKind.Signed) = model_option.some model.signed
model_number (Some NumberKind.Version) = model_option.some model.natural

-- the kinds of options, by their numbers
abbrev pub all_kinds : List Kind
all_kinds =
    model.time_word ∷ model.keep_ttl_word ∷ model.nx_or_xx ∷ model.ver_or_abs ∷ model.flags_word ∷ model.min_word ∷ model.max_word
    ∷ model.non_negative_word ∷ model.with_version_word ∷ model.with_flags_word ∷ []

-- whether the bit of a kind is set
abbrev pub has_kind : ℕ → Kind → Bool
has_kind m k = eqb (m / 2 ^ kind_no k % 2) 1

-- those of the kinds whose bits are set
abbrev pub kinds_in : ℕ → List Kind → List Kind
kinds_in m [] = []
kinds_in m (k ∷ ks) = let more = kinds_in m ks in cond (has_kind m k) (k ∷ more) more

-- the model's rule of a rule by value
abbrev pub model_rule : Rule → model.Rule
model_rule r = model.rule r.fixed r.exact r.valued (model_number r.number) (kinds_in r.kinds all_kinds) r.timed r.keeps
