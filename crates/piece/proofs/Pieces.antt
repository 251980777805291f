-- A mark, a text and the end of a line are one piece.
use Prim.Native.Nat.{ℕ, ◌+◌, ◌≤◌}
use native.Mathlib.Omega.{arith}
use mathlib.Core.Path.{refl, sym}
use mathlib.Core.List.{List, [], ◌∷◌, ◌++◌}
use lib.ListN.{length, set}
use Rattle.model.specs.Bytes.{crlf}
use Rattle.slice.specs.Wrote.{Wrote}
use Rattle.slice.proofs.Written.{written-set}
use Rattle.slice.proofs.Writing.{room_after, wrote_then}

module _ (at mark : ℕ) (text b : List ℕ) (fits : at + length (mark ∷ (text ++ crlf)) ≤ length b) where
  wrote-mark : Wrote at (mark ∷ []) b (set b at mark) (at + 1)
  wrote-mark = record { place = refl; bytes = sym (written-set at mark b (omega arith)) }

  after-mark : at + 1 + length (text ++ crlf) ≤ length (set b at mark)
  after-mark = room_after (text ++ crlf) fits wrote-mark

  module _ {next : ℕ} {mid : List ℕ} (p : Wrote (at + 1) text (set b at mark) mid next) where
    pub wrote-line : {end : ℕ} {after : List ℕ} → Wrote next crlf mid after end → Wrote at (mark ∷ (text ++ crlf)) b after end
    wrote-line q = wrote_then (omega arith) wrote-mark (wrote_then (omega (arith, after-mark)) p q)
