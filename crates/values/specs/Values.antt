-- What the numbers of the options say and what the options say, as the model has it.
use Rattle.model.specs.Options as model
use Rattle.outcome.specs.Outcome.{to_model}
use Rattle.command.specs.Command.{model_change, model_terms}
use Rattle.expiry.specs.Expiry.{model_lifetime}
use Rattle.values.specs.declared.Numbers.{Numbers}
use Rattle.values.specs.declared.Said.{Said}

abbrev pub model_numbers : Numbers → model.Numbers
model_numbers x = record {
  lifetime = model_lifetime x.lifetime;
  change = model_change x.change;
  flags = x.flags;
  min = to_model x.min;
  max = to_model x.max;
}

abbrev pub model_said : Said → model.Said
model_said s = record {
  terms = model_terms s.terms;
  flags = s.flags;
  min = to_model s.min;
  max = to_model s.max;
  non_negative = s.non_negative;
  with_version = s.with_version;
  with_flags = s.with_flags;
}
