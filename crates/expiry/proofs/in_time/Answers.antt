-- Where the product of the upper half is small, the whole product fits and is tested.
use native.Mathlib.Omega.{arith}
use mathlib.Core.Path.{sym}
use Rattle.expiry.proofs.Times.{too-late, product-fits}
use Rattle.expiry.proofs.in_time.Goals as goal

pub returns-then-upper : goal.returns-then-upper
returns-then-upper c = sym (too-late c.args.unit c.args.n c.ranges.unit.fits c.args.from (omega (arith, c.if-upper.true)))

pub overflow_mul-result : goal.overflow_mul-result
overflow_mul-result c = record { fits = product-fits c.args.unit c.args.n c.ranges.unit.fits (omega (arith, c.if-upper.false)) }
