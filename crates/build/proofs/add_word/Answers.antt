-- The first `len` bytes are a command that lacks a word, there is room, and the word is written.
use mathlib.Core.Path.{sym}
use Rattle.number.proofs.Reading.{signed-bad, signed-value}
use Rattle.build.proofs.Placing.{add-beyond, add-over, add-unread, add-whole, add-long, add-wrote}
use Rattle.build.proofs.add_word.Goals as goal

pub returns-then-buffer-len-clause-built : goal.returns-then-buffer-len-clause-built
returns-then-buffer-len-clause-built c = add-beyond c.args.buffer.now c.args.word.now c.args.len c.if-buffer-len.true

pub returns-then-len-gt512-clause-built : goal.returns-then-len-gt512-clause-built
returns-then-len-gt512-clause-built c = add-over c.args.buffer.now c.args.word.now c.args.len c.if-buffer-len.false c.if-len-gt512.true

pub returns-in_err-left-clause-built : goal.returns-in_err-left-clause-built
returns-in_err-left-clause-built c =
    rw c.from_residual.ensures (add-unread c.args.buffer.now c.args.word.now c.args.len c.if-buffer-len.false (signed-bad _ c.in_err-left.ensures))

pub returns-then-left-lt1-clause-built : goal.returns-then-left-lt1-clause-built
returns-then-left-lt1-clause-built c =
    add-whole c.args.buffer.now c.args.word.now c.args.len c.if-buffer-len.false (signed-value _ _ c.in_ok-left.ensures) c.if-left-lt1.true

pub returns-then-not-word_fits-clause-built : goal.returns-then-not-word_fits-clause-built
returns-then-not-word_fits-clause-built c =
    add-long c.args.buffer.now c.args.word.now c.args.len c.if-buffer-len.false (signed-value _ _ c.in_ok-left.ensures) c.if-left-lt1.false (sym c.if-not-word_fits.ensures)

pub returns-clause-built : goal.returns-clause-built
returns-clause-built c =
    add-wrote c.args.buffer.now c.args.word.now c.args.len c.if-buffer-len.false (signed-value _ _ c.in_ok-left.ensures) c.if-left-lt1.false (sym c.if-not-word_fits.ensures)
    c.put_bulk.ensures
