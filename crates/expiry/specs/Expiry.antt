-- What is said of the expiry as the model has it.
use Rattle.model.specs.Options as model
use Rattle.expiry.specs.declared.Lifetime.{Lifetime}

abbrev pub model_lifetime : Lifetime → model.Lifetime
model_lifetime Lifetime.Unsaid = model.unsaid
model_lifetime Lifetime.Kept = model.kept
model_lifetime (Lifetime.Until unit from_now z) = model.until unit from_now z
