-- A command that is whole is within the piece, or within the bytes held.
use Rattle.std.proofs.Common.{◌≤◌, length, rules}
use Rattle.assembler.proofs.Holding.{whole-within}
use Rattle.shell.proofs.session.Session.take.Goals as goal

pub command-command-requires : goal.command-command-requires
command-command-requires g c = whole-within c.in-Whole.ensures

pub slice_bounds-result-count : goal.slice_bounds-result-count
slice_bounds-result-count g c = (whole-within c.in-Whole.ensures).0

pub slice_bounds-result-start : goal.slice_bounds-result-start
slice_bounds-result-start g c = let h : c.in-Whole.n ≤ length c.args.piece.now = (whole-within c.in-Whole.ensures).0 in search rules
