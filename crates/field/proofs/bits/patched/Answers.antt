-- No shift loses a bit, and the sum of the three parts is a byte.
use Rattle.std.proofs.Common.{◌≡◌, ℕ, ◌+◌, ◌-◌, ◌*◌, ◌/◌, ◌%◌, ◌^◌, ◌<◌, ◌≤◌, ap, ◌∙◌, mod-eq_of_lt, arith}
use lib.Bits.{bit_and, and_mask}
use Rattle.field.specs.Bytewise.{patched}
use Rattle.field.proofs.Bytewise.{patched-lt}
use Rattle.field.proofs.Words.{one_shifted}
use Rattle.field.proofs.bits.patched.Goals as goal

-- the three parts as the machine has them
record Parts (n l x b : ℕ) : Type 0 where
  one : 1 * 2 ^ l % 2 ^ 64 ≡ 2 ^ l
  sum : b / 2 ^ (n + l) * 2 ^ (n + l) % 2 ^ 64 + x * 2 ^ l % 2 ^ 64 + bit_and b (1 * 2 ^ l % 2 ^ 64 - 1) ≡ patched n l x b
  byte : patched n l x b < 256

parts : (n l x b : ℕ) → n + l ≤ 8 → x < 2 ^ n → b < 256 → Parts n l x b
parts n l x b room below byte =
    let small : patched n l x b < 256 = patched-lt (8 - (n + l)) n l x b (omega arith) below byte in
    let high : b / 2 ^ (n + l) * 2 ^ (n + l) % 2 ^ 64 ≡ b / 2 ^ (n + l) * 2 ^ (n + l) = mod-eq_of_lt (omega arith) in
    let piece : x * 2 ^ l % 2 ^ 64 ≡ x * 2 ^ l = mod-eq_of_lt (omega arith) in
    let one : 1 * 2 ^ l % 2 ^ 64 ≡ 2 ^ l = one_shifted l (omega arith) in
    let low : bit_and b (1 * 2 ^ l % 2 ^ 64 - 1) ≡ b % 2 ^ l = ap (λ (p : ℕ). bit_and b (p - 1)) one ∙ and_mask b l in
    record { one = one; sum = omega arith; byte = small }

pub overflow_cast-result : goal.overflow_cast-result
overflow_cast-result c =
    let a = c.args in
    omega (arith, parts a.n a.lower a.bits a.byte c.requires.1 c.requires.2 c.ranges.byte.fits)

pub returns : goal.returns
returns c =
    let a = c.args in
    (parts a.n a.lower a.bits a.byte c.requires.1 c.requires.2 c.ranges.byte.fits).sum
