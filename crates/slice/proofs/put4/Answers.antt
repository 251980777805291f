use Rattle.std.proofs.Common.{ℕ, List, ap, ◌∙◌}
use Rattle.model.specs.Bytes.{written}
use Rattle.slice.proofs.LittleEndian.{le-bytes}
use Rattle.slice.proofs.put4.Goals as goal

pub returns : goal.returns
returns c = c.copy.ensures ∙ ap (λ (l : List ℕ). written c.args.at l c.args.s.now) (c.to_le_bytes.ensures ∙ le-bytes 4 c.args.x)
