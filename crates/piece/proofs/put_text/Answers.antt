-- The mark, the text and CR LF are three pieces side by side.
use mathlib.Core.Path.{refl}
use Rattle.piece.proofs.Pieces.{wrote-line}
use Rattle.piece.proofs.put_text.Goals as goal

pub returns : goal.returns
returns c =
    let a = c.args in
    wrote-line a.at a.mark a.s.now a.buf.now c.requires (record { place = refl; bytes = c.copy.ensures }) c.put_line_end.ensures
