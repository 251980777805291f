-- The array's line, value and version, and with the flag a third element are the reply's pieces.
use Rattle.std.proofs.Common.{◌≡◌, ℕ, List, Bool, arith}
use Rattle.model.specs.Execute.{get_reply}
use Rattle.reply.specs.Replied.{FitsIn, shown}
use Rattle.reply.proofs.Writing.{Begun, begin, as_one, room, next, replied}
use Rattle.reply.proofs.whole.get.Goals as goal

start : (v : List ℕ) (n g : ℕ) {b : List ℕ} {w t : Bool} → FitsIn (get_reply w (shown v n g)) b → w ≡ t → Begun (get_reply t (shown v n g)) b
start v n g h e = begin (rw e at h)

pub put_array-value_at-requires : goal.put_array-value_at-requires
put_array-value_at-requires c = room (start _ _ _ c.requires.0 c.if-with_flags.true)

pub put_value-flags_at-requires : goal.put_value-flags_at-requires
put_value-flags_at-requires c =
    (room (as_one (next (start _ _ _ c.requires.0 c.if-with_flags.true) c.put_array-value_at.ensures)), c.requires.1)

pub put_number-len-requires : goal.put_number-len-requires
put_number-len-requires c = (
  room (next (as_one (next (start _ _ _ c.requires.0 c.if-with_flags.true) c.put_array-value_at.ensures)) c.put_value-flags_at.ensures),
  omega (arith, c.ranges.flags),
)

pub returns-then-with_flags : goal.returns-then-with_flags
returns-then-with_flags c =
    rw c.if-with_flags.true
    (replied
    (next (next (as_one (next (start _ _ _ c.requires.0 c.if-with_flags.true) c.put_array-value_at.ensures)) c.put_value-flags_at.ensures)
    c.put_number-len.ensures))

pub put_array-value_at-requires-2 : goal.put_array-value_at-requires-2
put_array-value_at-requires-2 c = room (start _ _ _ c.requires.0 c.if-with_flags.false)

pub put_value-len-requires : goal.put_value-len-requires
put_value-len-requires c =
    (room (as_one (next (start _ _ _ c.requires.0 c.if-with_flags.false) c.put_array-value_at-2.ensures)), c.requires.1)

pub returns : goal.returns
returns c =
    rw c.if-with_flags.false
    (replied (next (as_one (next (start _ _ _ c.requires.0 c.if-with_flags.false) c.put_array-value_at-2.ensures)) c.put_value-len.ensures))
