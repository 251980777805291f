-- The count and the room are tested, and the line is written.
use native.Mathlib.Omega.{arith}
use Rattle.model.proofs.Numbers.{length-nat_text}
use Rattle.build.proofs.Sizes.{line-length}
use Rattle.build.proofs.Placing.{begin-few, begin-many, begin-short, begin-wrote}
use Rattle.build.proofs.begin_command.Goals as goal

pub returns-then-words-lt1-clause-built : goal.returns-then-words-lt1-clause-built
returns-then-words-lt1-clause-built c = begin-few c.args.buffer.now c.args.words c.if-words-lt1.true

pub returns-then-words-gt16-clause-built : goal.returns-then-words-gt16-clause-built
returns-then-words-gt16-clause-built c = begin-many c.args.buffer.now c.args.words c.if-words-gt16.true

pub overflow_add-count_digits : goal.overflow_add-count_digits
overflow_add-count_digits c = omega (arith, c.count_digits.ensures, length-nat_text 1 c.args.words (omega (arith, c.if-words-gt16.false)))

pub returns-then-buffer-count_digits-clause-built : goal.returns-then-buffer-count_digits-clause-built
returns-then-buffer-count_digits-clause-built c =
    begin-short c.args.buffer.now c.args.words (omega (arith, c.if-buffer-count_digits.true, c.count_digits.ensures, line-length c.args.words))

pub returns-clause-built : goal.returns-clause-built
returns-clause-built c =
    let n = c.args.words in
    begin-wrote c.args.buffer.now n (omega (arith, c.if-words-lt1.false)) (omega (arith, c.if-words-gt16.false))
    (omega (arith, c.if-buffer-count_digits.false, c.count_digits.ensures, line-length n)) c.put_array.ensures
