use Rattle.std.proofs.Common.{◌≡◌, ◌∙◌, ap, rules, bit_or, eqb, ℕ}
use Rattle.std.specs.List.{fold}
use Rattle.slice.proofs.Zeros.{or-bytes-zero}
use Rattle.slice.proofs.is_zero.Goals as goal

pub returns : goal.returns
returns c =
    let all : c.fold.result ≡ fold bit_or 0 c.args.s.now = search rules in
    ap (λ (x : ℕ). eqb x 0) all ∙ or-bytes-zero c.args.s.now
