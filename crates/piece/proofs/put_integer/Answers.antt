-- The mark, the number and CR LF are three pieces side by side.
use Rattle.model.specs.Number.{int_text}
use Rattle.model.specs.Resp.{integer_mark}
use Rattle.number.proofs.Integers.{back_is}
use Rattle.piece.proofs.Pieces.{wrote-line}
use Rattle.piece.proofs.put_integer.Goals as goal

pub returns : goal.returns
returns c =
    let a = c.args in
    wrote-line a.at integer_mark (int_text a.z) a.buf.now c.requires (simp (back_is c.ranges.z) at c.write_signed-end.ensures) c.put_line_end.ensures
