-- The line with the length, the bytes and CR LF are three pieces side by side.
use Prim.Native.Nat.{◌+◌, ◌≤◌}
use native.Mathlib.Omega.{arith}
use mathlib.Core.Path.{refl}
use mathlib.Core.List.{◌++◌}
use lib.ListN.{length}
use Rattle.model.specs.Bytes.{crlf}
use Rattle.slice.specs.Wrote.{Wrote}
use Rattle.slice.proofs.Writing.{room_after, wrote_then}
use Rattle.piece.proofs.put_bulk.Goals as goal

pub returns : goal.returns
returns c =
    let s = c.args.s.now in
    let after : c.put_line-start.result + length (s ++ crlf) ≤ length c.put_line-start.new.buf = room_after (s ++ crlf) c.requires c.put_line-start.ensures in
    let bytes : Wrote c.put_line-start.result s c.put_line-start.new.buf c.copy.new.buf (c.put_line-start.result + length s) = record { place = refl; bytes = c.copy.ensures } in
    wrote_then (omega (arith, c.requires)) c.put_line-start.ensures (wrote_then (omega (arith, after)) bytes c.put_line_end.ensures)
