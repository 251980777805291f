-- `Wrote`: a text written byte by byte, pieces written one after another, and what stands at the front afterwards.
use mathlib.Core.Path.{◌≡◌, sym, ap, ◌∙◌}
use mathlib.Core.List.{List, ◌∷◌, ◌++◌, append_assoc}
use Prim.Native.Nat.{ℕ, suc, ◌+◌, ◌≤◌, ◌<◌}
use native.Mathlib.Nat.{zero-add}
use native.Mathlib.Numerals.{add-one}
use native.Mathlib.Omega.{arith}
use lib.ListN.{length, take, drop, set, length-append}
use lib.Seq.{drop-set-lt, take-suc-set, take-append_seam}
use Rattle.model.specs.Bytes.{written}
use Rattle.slice.specs.Wrote.{Wrote}
use Rattle.slice.proofs.Written.{written-written, length-written}

-- ---- byte by byte

-- the first byte of a text is stored: the text after it is to be written
pub written-first : (at x : ℕ) (s b : List ℕ) → at < length b → written at (x ∷ s) b ≡ written (at + 1) s (set b at x)
written-first at x s b h =
    let e : at + length (x ∷ s) ≡ suc at + length s = omega arith in
    rw (add-one at, take-suc-set b at x h, drop-set-lt (suc at + length s) b at x (omega arith), e) (simp append_assoc)

pub wrote-first : {at x : ℕ} {s b after : List ℕ} {next : ℕ} → at < length b → Wrote (at + 1) s (set b at x) after next → Wrote at (x ∷ s) b after next
wrote-first {at} {x} {s} {b} h w = record { place = omega (arith, w.place); bytes = w.bytes ∙ sym (written-first at x s b h) }

-- ---- pieces one after another: the buffer keeps its length, and each piece begins where the one before ended

pub room-first : (at : ℕ) (s t : List ℕ) {n : ℕ} → at + length (s ++ t) ≤ n → at + length s ≤ n
room-first at s t h = omega (arith, length-append s t)

module _ {at next : ℕ} {s b mid : List ℕ} where
  pub same_size : at + length s ≤ length b → Wrote at s b mid next → length mid ≡ length b
  same_size h p = ap length p.bytes ∙ length-written at s b h

  pub room_after : (t : List ℕ) → at + length (s ++ t) ≤ length b → Wrote at s b mid next → next + length t ≤ length mid
  room_after t h p = omega (arith, same_size (room-first at s t h) p, p.place, length-append s t)

  pub wrote_then : {t after : List ℕ} {end : ℕ} → at ≤ length b → Wrote at s b mid next → Wrote next t mid after end
      → Wrote at (s ++ t) b after end
  wrote_then {t} {after} {end} h p q = record {
    place = omega (arith, p.place, q.place, length-append s t);
    bytes = q.bytes ∙ rw (p.place, p.bytes) (written-written at s b h t);
  }

-- a text written from place 0 on is what stands at the front
pub wrote-front : (s b after : List ℕ) (n : ℕ) → Wrote 0 s b after n → take n after ≡ s
wrote-front s b after n w =
    ap (λ (m : ℕ). take m after) (w.place ∙ zero-add (length s))
    ∙ (ap (take (length s)) w.bytes ∙ take-append_seam s (drop (0 + length s) b))
