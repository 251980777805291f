-- No slash stands from place i on.
use Rattle.std.proofs.Common.{◌≡◌, take}
use Rattle.tablefile.specs.Names.{after_slash}
use Rattle.tablefile.proofs.name.folder.Given as goal

abbrev pub invariant-loop-i : goal.invariant-loop-i
invariant-loop-i l = after_slash l.path ≡ after_slash (take l.i l.path)
