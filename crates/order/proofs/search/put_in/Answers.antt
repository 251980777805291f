use Rattle.order.proofs.Moving.{put-moved}
use Rattle.order.proofs.search.put_in.Goals as goal

pub returns : goal.returns
returns c = put-moved c.args.list.now c.move_up.new.buf c.args.n c.args.place c.args.number c.requires.0 c.requires.1 c.move_up.ensures
