-- 64 ones without those above the width.
use Rattle.model.proofs.Ranges.{ends}
use Rattle.command.specs.Subcommand.{model_int}
use Rattle.field.proofs.Words.{ones-shift}
use Rattle.field.proofs.int.mask.Goals as goal

pub returns : goal.returns
returns c = ones-shift 64 c.args.int.width (ends (model_int c.args.int) c.requires).narrow
