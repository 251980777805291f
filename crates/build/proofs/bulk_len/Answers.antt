use native.Mathlib.Omega.{arith}
use Rattle.build.proofs.Sizes.{few-digits}
use Rattle.build.proofs.bulk_len.Goals as goal

pub overflow_add-result : goal.overflow_add-result
overflow_add-result c = omega (arith, c.count_digits.ensures, few-digits c.args.word.now c.requires)

pub overflow_add-result-2 : goal.overflow_add-result-2
overflow_add-result-2 c = omega (arith, c.count_digits.ensures, few-digits c.args.word.now c.requires)
