-- The folder and the name are two pieces side by side.
use Rattle.std.proofs.Common.{length, refl}
use native.Mathlib.Omega.{arith}
use Rattle.slice.specs.Wrote.{Wrote}
use Rattle.slice.proofs.Writing.{wrote_then}
use Rattle.tablefile.proofs.name.put_new_name.Goals as goal

pub returns : goal.returns
returns c =
    let folder : Wrote 0 c.args.folder.now c.args.out.now c.copy.new.buf (length c.args.folder.now) = record { place = omega arith; bytes = c.copy.ensures } in
    wrote_then (omega arith) folder (record { place = refl; bytes = c.copy-2.ensures })
