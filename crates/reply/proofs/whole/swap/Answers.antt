-- Each part has room behind those before it, and together they are the reply.
use Rattle.model.specs.Execute.{swap_reply}
use Rattle.reply.proofs.Writing.{begin, next, room, replied}
use Rattle.reply.proofs.whole.swap.Goals as goal

pub put_array-ok_at-requires : goal.put_array-ok_at-requires
put_array-ok_at-requires c = room (begin {r = swap_reply c.args.version} c.requires.0)

pub put_simple-empty_at-requires : goal.put_simple-empty_at-requires
put_simple-empty_at-requires c = room (next (begin {r = swap_reply c.args.version} c.requires.0) c.put_array-ok_at.ensures)

pub put_simple-version_at-requires : goal.put_simple-version_at-requires
put_simple-version_at-requires c = room (next (next (begin {r = swap_reply c.args.version} c.requires.0) c.put_array-ok_at.ensures) c.put_simple-empty_at.ensures)

pub put_number-len-requires : goal.put_number-len-requires
put_number-len-requires c =
    (room (next (next (next (begin {r = swap_reply c.args.version} c.requires.0) c.put_array-ok_at.ensures) c.put_simple-empty_at.ensures) c.put_simple-version_at.ensures), c.requires.1)

pub returns : goal.returns
returns c =
    replied
    (next (next (next (next (begin {r = swap_reply c.args.version} c.requires.0) c.put_array-ok_at.ensures) c.put_simple-empty_at.ensures) c.put_simple-version_at.ensures)
    c.put_number-len.ensures)
