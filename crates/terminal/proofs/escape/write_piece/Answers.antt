use Rattle.std.proofs.Common.{sym, subst}
use Rattle.std.proofs.lemmas.Str.{IsUtf8-from_ascii}
use Rattle.std.specs.Str.{IsUtf8}
use Rattle.slice.proofs.Writing.{wrote-front}
use Rattle.terminal.specs.Escape.{escaped_all}
use Rattle.terminal.proofs.Escapes.{escaped_all-ascii}
use Rattle.terminal.proofs.escape.write_piece.Goals as goal

pub unreachable-requires : goal.unreachable-requires
unreachable-requires g c =
    let text = escaped_all c.args.piece.now in
    c.in_default.ensures.cases.0
    (subst IsUtf8 (sym (wrote-front text _ _ _ c.escape-n.ensures)) (IsUtf8-from_ascii text (escaped_all-ascii c.args.piece.now (λ i. (c.type_inv.piece i).fits))))
