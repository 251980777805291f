-- `record::bits_after_key` meets its contract: of the third word what follows the key's last byte is left, or all bytes after the key are taken.
use Prim.Native.Nat.{ℕ, ◌+◌, ◌-◌, ◌*◌, ◌/◌, ◌^◌, ◌≤◌, ◌<◌, max}
use native.Mathlib.Omega.{arith}
use mathlib.Core.Path.{◌≡◌, sym, ap, ◌∙◌}
use mathlib.Core.Bool.{◌&&◌, and_assoc}
use mathlib.Core.List.{List}
use lib.Bits.{bit_or}
use lib.Dec.{eqb}
use lib.ListN.{length, drop, length-drop}
use lib.Seq.{drop-drop, take_all}
use borrow.Author.Rules.{rules}
use Rattle.model.specs.Bytes.{part, from_little_endian}
use Rattle.slice.specs.Zeros.{is_zero, zeros_from}
use Rattle.slice.proofs.LittleEndian.{Bytes, bytes-part}
use Rattle.slice.proofs.Zeros.{or-is-zero, from_zero, zeros_from-within, past-byte}
use Rattle.record.proofs.valid.bits_after_key.Statement.{statement}
use Rattle.record.proofs.valid.bits_after_key.Tie as tie

module _ (s : List ℕ) (size : length s ≡ 24) where
  third : part 16 8 s ≡ drop 16 s
  third = take_all 8 (drop 16 s) (omega (arith, length-drop 16 s))

  -- a key that ends in the third word
  long : (n w : ℕ) → Bytes s → 16 < n → w ≡ from_little_endian (part 16 8 s) → eqb (w / 2 ^ (8 * (n - 17)) / 256) 0 ≡ zeros_from n s
  long n w known h e =
      let there : 16 + (n - 17 + 1) ≡ n = omega arith in
      ap (λ (x : ℕ). eqb (x / 2 ^ (8 * (n - 17)) / 256) 0) e
      ∙ past-byte (n - 17) (part 16 8 s) (bytes-part 16 8 s known)
      ∙ ap (zeros_from (n - 17 + 1)) third
      ∙ ap is_zero (drop-drop (n - 17 + 1) 16 s ∙ ap (λ (k : ℕ). drop k s) there)

  -- any other key: eight bytes from its end on, from the second word or its end on, and the third word
  short : (n a b c : ℕ) → n ≤ 16 → a ≡ from_little_endian (part n 8 s) → b ≡ from_little_endian (part (max n 8) 8 s) → c ≡ from_little_endian (part 16 8 s)
      → eqb (bit_or (bit_or a b) c) 0 ≡ zeros_from n s
  short n a b c h ea eb ec =
      let m = max n 8 in
      rw (or-is-zero (bit_or a b) c, or-is-zero a b, ea, eb, ec, from_zero (part n 8 s), from_zero (part m 8 s), from_zero (part 16 8 s), third)
      (and_assoc (is_zero (part n 8 s)) (is_zero (part m 8 s)) (zeros_from 16 s)
      ∙ ap (λ t. is_zero (part n 8 s) && t) (sym (zeros_from-within m 16 8 s (omega arith) (omega arith)))
      ∙ sym (zeros_from-within n m 8 s (omega arith) (omega arith)))

returns : tie.Need-returns-then-n-gt16
returns c =
    let a = c.args in
    long a.key.now (omega arith) a.n c.get8-last.result (λ i. (c.shared_slice_known-1.given i).fits) (omega arith) c.get8-last.ensures

returns-2 : tie.Need-returns
returns-2 c =
    let m = c.before in
    let g = m.before.before.before in
    let a = g.args in
    short a.key.now (omega arith) a.n m.get8.result c.get8-2.result g.get8-last.result (omega arith) m.get8.ensures
    (c.get8-2.ensures ∙ ap (λ (k : ℕ). from_little_endian (part k 8 a.key.now)) m.max.ensures) g.get8-last.ensures

pub bits_after_key_spec : {M : Type 1} → statement M
bits_after_key_spec =
    tie.close
    (tie.spec
    (λ c κs. search rules) (λ c. search rules) (λ c. search rules) (λ c. search rules) returns
    (λ c κs. search rules) (λ c κs. search rules) (λ c κs. search rules) returns-2)
