-- The array's line, the text, and value and version are the reply's pieces.
use Rattle.std.proofs.Common.{ℕ, List}
use Rattle.model.specs.Execute.{stale_reply}
use Rattle.reply.specs.Replied.{FitsIn, shown}
use Rattle.reply.proofs.Writing.{Begun, begin, as_one, room, next, replied}
use Rattle.reply.proofs.whole.stale.Goals as goal

start : {v : List ℕ} {n : ℕ} {b : List ℕ} → FitsIn (stale_reply (shown v n 0)) b → Begun (stale_reply (shown v n 0)) b
start h = begin h

pub put_array-stale_at-requires : goal.put_array-stale_at-requires
put_array-stale_at-requires c = room (start c.requires.0)

pub put_stale-value_at-requires : goal.put_stale-value_at-requires
put_stale-value_at-requires c = room (next (start c.requires.0) c.put_array-stale_at.ensures)

pub put_value-len-requires : goal.put_value-len-requires
put_value-len-requires c =
    (room (as_one (next (next (start c.requires.0) c.put_array-stale_at.ensures) c.put_stale-value_at.ensures)), c.requires.1)

pub returns : goal.returns
returns c =
    replied
    (next (as_one (next (next (start c.requires.0) c.put_array-stale_at.ensures) c.put_stale-value_at.ensures)) c.put_value-len.ensures)
