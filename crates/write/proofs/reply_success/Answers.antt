use Rattle.std.proofs.Common.{ap, ◌∙◌, rules}
use mir.Syntax.{w64}
use mir.Val.{SFits}
use Rattle.model.specs.Number.{is_signed}
use Rattle.number.proofs.Integers.{back_is}
use Rattle.access.proofs.Doing.{number_in, set-in, count-in, swap-in}
use Rattle.write.proofs.Writing.{signed-fits}
use Rattle.write.proofs.reply_success.Goals as goal

pub set-requires : goal.set-requires
set-requires c = (set-in c.requires.0.room c.in-Set.with_version _ c.requires.1, c.requires.1)

pub count-requires : goal.count-requires
count-requires c =
    let whole : SFits w64 c.in-Count.z = search rules in
    (count-in c.requires.0.room c.in-Count.with_version _ _ (ap is_signed (back_is whole) ∙ signed-fits _ whole) c.requires.1, c.requires.1)

pub swap-requires : goal.swap-requires
swap-requires c = (swap-in c.requires.0.room _ c.requires.1, c.requires.1)

pub number-requires : goal.number-requires
number-requires c = (number_in c.requires.0.room _ c.requires.1, c.requires.1)
