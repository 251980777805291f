-- No options say what each says where it is not given.
use Rattle.std.proofs.Common.{ap, []}
use Rattle.std.proofs.Math.Option.{none}
use Rattle.model.specs.Checked.{Checked, ok, ◌>>=◌}
use Rattle.model.specs.Command as model
use Rattle.model.specs.Command.{Expire}
use Rattle.model.specs.Options.{unsaid, Numbers, numbers_in, said_with, said_in}
use Rattle.values.proofs.unsaid.Goals as goal

-- the numbers of no options
abbrev numbers : Numbers
numbers = record { lifetime = unsaid; change = model.raise none; flags = 0; min = none; max = none }

pub returns : goal.returns
unfolding said_in numbers_in
returns c time = ap (λ (e : Checked Expire). e >>= λ x. ok (said_with [] numbers x)) (c.expire_unsaid.ensures time)
