use mathlib.Core.Path.{sym, ap, ◌∙◌}
use Rattle.model.specs.Options.{expire_in}
use Rattle.expiry.specs.Expiry.{model_lifetime}
use Rattle.expiry.specs.declared.Lifetime.{Lifetime}
use Rattle.expiry.proofs.expire_in.Goals as goal

pub returns-in-Unsaid : goal.returns-in-Unsaid
returns-in-Unsaid c =
    let a = c.args in
    c.expire_unsaid.ensures a.time ∙ sym (ap (λ (x : Lifetime). expire_in a.time a.keeps (model_lifetime x)) c.in-Unsaid.is)
