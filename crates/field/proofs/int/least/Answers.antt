-- Of a signed type minus the greatest number, less one.
use Rattle.command.specs.Subcommand.{model_int}
use Rattle.number.proofs.Integers.{back_is}
use Rattle.field.proofs.Words.{back-result, minus-fits, least-is, least_fits}
use Rattle.field.proofs.int.least.Goals as goal

pub returns-then-int : goal.returns-then-int
returns-then-int c =
    let k = model_int c.args.int in
    let known = c.requires in
    rw (back-result c.greatest.type_inv c.greatest.ensures, back_is (minus-fits k known c.if-int.true), least-is k known c.if-int.true) (back_is (least_fits k known))
