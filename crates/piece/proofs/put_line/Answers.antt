-- The mark, the number and CR LF are three pieces side by side.
use Rattle.model.specs.Number.{nat_text}
use Rattle.piece.proofs.Pieces.{wrote-line}
use Rattle.piece.proofs.put_line.Goals as goal

pub returns : goal.returns
returns c =
    let a = c.args in
    wrote-line a.at a.mark (nat_text a.n) a.buf.now c.requires c.write_natural-end.ensures c.put_line_end.ensures
