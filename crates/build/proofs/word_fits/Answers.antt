use native.Mathlib.Omega.{arith}
use Rattle.build.proofs.Sizes.{bulk-length, few-digits}
use Rattle.build.proofs.word_fits.Goals as goal

pub overflow_add-end : goal.overflow_add-end
overflow_add-end c =
    let w = c.args.word.now in
    omega (arith, c.bulk_len.ensures, bulk-length w, few-digits w c.if-word-gt512.false, c.if-word-gt512.false, c.requires)
