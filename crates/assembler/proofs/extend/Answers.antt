-- `assembler::extend` meets its contract: what the scan of the piece tells, and the bytes kept for it.
use Rattle.std.proofs.Common.{sym, arith}
use Rattle.assembler.specs.States.{state_of}
use Rattle.assembler.proofs.Holding.{going-room, assembles-more, ended-room, assembles-whole, assembles-dead}
use Rattle.assembler.proofs.extend.Goals as goal

pub copy-requires : goal.copy-requires
copy-requires c = omega (arith, going-room c.requires c.args.piece.now (state_of c.in-More.field-0) (sym c.in-More.ensures))

pub keep-requires : goal.keep-requires
keep-requires c = ended-room c.requires c.args.piece.now c.in-Whole.n (sym c.in-Whole.ensures)

pub returns-in-More : goal.returns-in-More
returns-in-More c = assembles-more c.requires c.args.piece.now (state_of c.in-More.field-0) (sym c.in-More.ensures) _ c.copy.ensures

pub returns-in-Whole : goal.returns-in-Whole
returns-in-Whole c = assembles-whole c.requires c.args.piece.now c.in-Whole.n (sym c.in-Whole.ensures) _ c.keep.ensures

pub returns-in-Dead : goal.returns-in-Dead
returns-in-Dead c = assembles-dead c.requires c.args.piece.now c.in-Dead.n (sym c.in-Dead.ensures)
