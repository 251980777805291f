-- Of two bytes only CR and LF make this number.
use Rattle.std.proofs.Common.{◌≡◌, ◌∙◌, ◌+◌, ◌*◌, ℕ, refl, nat_eq, arith}
use Rattle.resp.proofs.Places.{ends-as-one}
use Rattle.resp.proofs.is_crlf.Goals as goal

same : (a b : ℕ) {x y : ℕ} → x ≡ a + b * 256 → y ≡ 2573 → nat_eq x y ≡ nat_eq (a + 256 * b) 2573
same a b {x} e f = let n : x ≡ a + 256 * b = omega arith in rw (n, f)

pub returns : goal.returns
returns c =
    same _ _ c.from_le_bytes.ensures c.from_le_bytes-2.ensures
    ∙ ends-as-one c.args.s.now c.args.at c.requires refl refl (omega (arith, c.type_inv.s c.args.at)) (omega (arith, c.type_inv.s (c.args.at + 1)))
