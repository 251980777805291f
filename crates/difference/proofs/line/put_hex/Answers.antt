use Rattle.std.proofs.Common.{ℕ, List, ◌≡◌, ◌+◌, ◌≤◌, ◌∷◌, length, drop, drop-cons, sym, ap, ◌∙◌, add-one, arith}
use lib.ListN.{set, length-set, drop_of_length-le}
use Rattle.model.specs.Bytes.{written}
use Rattle.model.specs.Difference.{hex}
use Rattle.slice.proofs.Written.{written-nil}
use Rattle.slice.proofs.Writing.{written-first}
use Rattle.difference.proofs.Texts.{length-hex}
use Rattle.difference.proofs.line.put_hex.Goals as goal

pub bounds-out-place : goal.bounds-out-place
bounds-out-place c = omega (arith, length-hex c.args.s.now)

pub overflow_add-out : goal.overflow_add-out
overflow_add-out c = omega (arith, length-hex c.args.s.now)

pub bounds-out-place-in-loop-byte : goal.bounds-out-place-in-loop-byte
bounds-out-place-in-loop-byte c = simp length-set (omega (arith, length-hex c.args.s.now))

pub overflow_add-place : goal.overflow_add-place
overflow_add-place c = omega (arith, length-hex c.args.s.now)

-- two digits are stored: those after them are to be written
two_digits : (place x y : ℕ) (s b : List ℕ) → place + 2 ≤ length b
    → written place (x ∷ y ∷ s) b ≡ written (place + 2) s (set (set b place x) (place + 1) y)
two_digits place x y s b h =
    let e : place + 1 + 1 ≡ place + 2 = omega arith in
    written-first place x (y ∷ s) b (omega arith)
    ∙ (written-first (place + 1) y s (set b place x) (simp length-set (omega arith))
    ∙ ap (λ (n : ℕ). written n s (set (set b place x) (place + 1) y)) e)

pub loop-byte-preserved : goal.loop-byte-preserved
loop-byte-preserved c =
    let s = c.args.s.now in
    let i = c.loop-byte.byte-index in
    let digits : hex (drop i s) ≡ c.hex_digit.result ∷ c.hex_digit-in-loop-byte.result ∷ hex (drop (i + 1) s) =
    rw (add-one i, drop-cons s i 0 (omega arith), c.hex_digit.ensures, c.hex_digit-in-loop-byte.ensures) in
    (omega arith, c.loop-byte.invariant.1 ∙ rw digits (two_digits c.loop-byte.place _ _ (hex (drop (i + 1) s)) c.loop-byte.out (omega (arith, length-hex s))))

pub returns : goal.returns
returns c =
    let s = c.args.s.now in
    let ended : length s ≤ c.loop-byte.byte-index = omega arith in
    record {
      place = omega (arith, length-hex s);
      bytes = sym (c.loop-byte.invariant.1 ∙ rw (drop_of_length-le s ended) (written-nil c.loop-byte.place c.loop-byte.out));
    }
