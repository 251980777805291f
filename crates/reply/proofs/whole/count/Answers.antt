-- The number, and with the version an array's line before it and the version after it, are the reply's pieces.
use Rattle.std.proofs.Common.{◌≡◌, ℕ, ℤ, List, Bool}
use Rattle.number.proofs.Integers.{back_is}
use Rattle.model.specs.Execute.{count_reply}
use Rattle.reply.specs.Replied.{FitsIn}
use Rattle.reply.proofs.Writing.{Begun, begin, room, next, replied}
use Rattle.reply.proofs.whole.count.Goals as goal

start : (z : ℤ) (n : ℕ) {b : List ℕ} {w t : Bool} → FitsIn (count_reply w z n) b → w ≡ t → Begun (count_reply t z n) b
start z n h e = begin (rw e at h)

pub put_array-count_at-requires : goal.put_array-count_at-requires
put_array-count_at-requires c = room (start _ _ c.requires.0 c.if-with_version.true)

pub put_integer-version_at-requires : goal.put_integer-version_at-requires
put_integer-version_at-requires c =
    simp (back_is c.ranges.z) (room (next (start _ _ c.requires.0 c.if-with_version.true) c.put_array-count_at.ensures))

pub put_number-len-requires : goal.put_number-len-requires
put_number-len-requires c = (
  room
      (next (next (start _ _ c.requires.0 c.if-with_version.true) c.put_array-count_at.ensures)
      (simp (back_is c.ranges.z) at c.put_integer-version_at.ensures)),
  c.requires.1,
)

pub returns-then-with_version : goal.returns-then-with_version
returns-then-with_version c =
    rw c.if-with_version.true
    (replied
    (next
    (next (next (start _ _ c.requires.0 c.if-with_version.true) c.put_array-count_at.ensures)
    (simp (back_is c.ranges.z) at c.put_integer-version_at.ensures))
    c.put_number-len.ensures))

pub put_integer-len-requires : goal.put_integer-len-requires
put_integer-len-requires c = simp (back_is c.ranges.z) (room (start _ _ c.requires.0 c.if-with_version.false))

pub returns : goal.returns
returns c =
    rw c.if-with_version.false
    (replied (next (start _ _ c.requires.0 c.if-with_version.false) (simp (back_is c.ranges.z) at c.put_integer-len.ensures)))
