-- The words of a key with the zeros after it, by the bytes of the key alone.
use Rattle.std.proofs.Common.{◌≡◌, ℕ, zero, suc, ◌+◌, ◌-◌, ◌*◌, ◌/◌, ◌^◌, ◌<◌, ◌≤◌, List, ◌++◌, length, get_or, take, drop, replicate, sym, refl, ap, ◌∙◌, add-zero, mul-zero, arith, length-drop, drop_of_length-le, take_all, drop-cons, drop-drop}
use native.Mathlib.Nat.{pow-le-pow_right}
use lib.Seq.{take-append-le, take-append-add, drop-append-le, drop-append-add}
use Rattle.model.specs.Bytes.{part, padded, from_little_endian}
use Rattle.slice.proofs.Written.{drop-replicate}
use Rattle.slice.proofs.LittleEndian.{Bytes, bytes_drop, bytes-part, from-bound, from-shifted, from-append}
use Rattle.index.specs.Hash.{word_at}

-- zeros make no number
from-zeros : (m n : ℕ) → from_little_endian (take m (replicate n 0)) ≡ 0
unfolding from_little_endian
from-zeros zero n = refl
from-zeros (suc m) zero = refl
from-zeros (suc m) (suc n) = rw (from-zeros m n)

module _ (k : List ℕ) (at : ℕ) where
  abbrev zeros : List ℕ
  zeros = replicate (24 - length k) 0

  -- a word within the key
  pub word-within : at + 8 ≤ length k → word_at at k ≡ word_at at (padded 24 k)
  word-within h =
      ap from_little_endian (sym (ap (take 8) (drop-append-le at k zeros (omega arith)) ∙ take-append-le 8 (drop at k) zeros (omega (arith, length-drop at k))))

  -- a word after the key
  pub word_after : length k ≤ at → word_at at (padded 24 k) ≡ 0
  word_after h =
      let e : at ≡ length k + (at - length k) = omega arith in
      let rest : drop at (padded 24 k) ≡ replicate (24 - length k - (at - length k)) 0 =
      ap (λ (i : ℕ). drop i (padded 24 k)) e ∙ drop-append-add k zeros (at - length k) ∙ drop-replicate (at - length k) (24 - length k) 0 in
      ap (λ (s : List ℕ). from_little_endian (take 8 s)) rest ∙ from-zeros 8 (24 - length k - (at - length k))

  -- a word in which the key ends
  pub word-ends : at ≤ length k → length k ≤ at + 8 → word_at at (padded 24 k) ≡ from_little_endian (drop at k)
  word-ends low high =
      let n = length (drop at k) in
      let e : 8 ≡ n + (8 - n) = omega (arith, length-drop at k) in
      let is : part at 8 (padded 24 k) ≡ drop at k ++ take (8 - n) zeros =
      ap (take 8) (drop-append-le at k zeros low) ∙ ap (λ (i : ℕ). take i (drop at k ++ zeros)) e ∙ take-append-add (drop at k) zeros (8 - n) in
      ap from_little_endian is ∙ from-append (drop at k) (take (8 - n) zeros)
      ∙ rw (from-zeros (8 - n) (24 - length k), mul-zero, add-zero)

  -- the last eight bytes of the key, without those before the place
  pub word-shifted : Bytes k → at ≤ length k → length k ≤ at + 8 → 8 ≤ length k
      → word_at (length k - 8) k / 2 ^ (8 * (at + 8 - length k)) ≡ word_at at (padded 24 k)
  word-shifted b low high long =
      let n = length k - 8 in
      let all : part n 8 k ≡ drop n k = take_all 8 (drop n k) (omega (arith, length-drop n k)) in
      let e : n + (at + 8 - length k) ≡ at = omega arith in
      from-shifted (at + 8 - length k) (part n 8 k) (bytes-part n 8 k b)
      ∙ ap (λ (s : List ℕ). from_little_endian (drop (at + 8 - length k) s)) all
      ∙ ap from_little_endian (drop-drop (at + 8 - length k) n k ∙ ap (λ (i : ℕ). drop i k) e)
      ∙ sym (word-ends low high)

-- ---- a short key, byte by byte from its end

-- one byte more; the bytes after it begin at `next`
pub from_next : (k : List ℕ) (i next : ℕ) → next ≡ suc i → i < length k → from_little_endian (drop next k) * 256 + get_or k i 0 ≡ from_little_endian (drop i k)
unfolding from_little_endian
from_next k i next e h = rw (drop-cons k i 0 h, e) (omega arith)

pub from-small : (k : List ℕ) → Bytes k → length k ≤ 7 → (i : ℕ) → from_little_endian (drop i k) < 2 ^ 56
from-small k b h i =
    let p : 256 ^ length (drop i k) ≤ 256 ^ 7 = pow-le-pow_right (omega arith) {i = length (drop i k)} {j = 7} (omega (arith, length-drop i k)) in
    omega (arith, from-bound (drop i k) (bytes_drop i k b))

pub from-none : (k : List ℕ) (i : ℕ) → length k ≤ i → from_little_endian (drop i k) ≡ 0
unfolding from_little_endian
from-none k i h = rw (drop_of_length-le k h)
