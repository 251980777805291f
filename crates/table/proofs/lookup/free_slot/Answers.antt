use Rattle.std.proofs.Common.{rules}
use Rattle.model.specs.Search.{free_slot}
use Rattle.table.proofs.lookup.free_slot.Goals as goal

pub returns : goal.returns
unfolding free_slot
returns c = search rules
