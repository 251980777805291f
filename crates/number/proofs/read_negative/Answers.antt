use mathlib.Core.Path.{◌≡◌, refl, sym, ap, ◌∙◌}
use mathlib.Core.List.{List, [], ◌∷◌}
use mathlib.Core.Option.{Option}
use Prim.Native.Nat.{ℕ, suc, ◌+◌, ◌≤◌, ◌<◌}
use native.Mathlib.Omega.{arith}
use native.Mathlib.Numerals.{add-one}
use lib.ListN.{length, drop, get_or, drop_of_length-le}
use lib.Seq.{drop-cons}
use lib.IntN.{ℤ, nat_abs}
use mir.Syntax.{w64}
use mir.Val.{SFits}
use borrow.Author.Rules.{rules}
use borrow.Author.Tests.{eqb-false}
use Rattle.std.specs.Prelude.{Some, None}
use Rattle.model.specs.Optional.{◌>>=◌}
use Rattle.model.specs.Number.{read_digits, read_magnitude}
use Rattle.model.proofs.NumberWords.{magnitude-digits}
use Rattle.number.specs.Answer.{negative_from}
use Rattle.number.proofs.Integers.{back_is, abs_neg}
use Rattle.number.proofs.Reading.{negative, negative-in, first, stays-bad}
use Rattle.number.proofs.read_negative.Invariants.{Reading}
use Rattle.number.proofs.read_negative.Goals as goal

module _ {s : List ℕ} {acc : ℤ} {i : ℕ} (r : Reading s acc i) where
  -- what was read of the byte at i, and what the text from there on says
  abbrev digit : Option ℕ
  digit = read_digits (nat_abs acc) (get_or s i 0 ∷ [])

  split : i < length s → negative_from (read_magnitude s) ≡ negative_from (digit >>= λ n. read_digits n (drop (suc i) s))
  split h = r.whole ∙ rw (drop-cons s i 0) (ap negative_from (first (nat_abs acc) (get_or s i 0) (drop (suc i) s)))

  taken : i < length s → (v : ℤ) → Some v ≡ negative_from digit → Reading s v (i + 1)
  taken h v e =
      let t = negative digit v e in
      let n : nat_abs v ≡ t.n = ap nat_abs t.value ∙ abs_neg t.n in
      record {
        negative = rw n t.value;
        small = rw n t.small;
        whole = rw (add-one, n) (split h ∙ ap (λ (o : Option ℕ). negative_from (o >>= λ n. read_digits n (drop (suc i) s))) t.is);
      }

  left : i < length s → None ≡ negative_from digit → None ≡ negative_from (read_magnitude s)
  left h e = stays-bad digit (drop (suc i) s) e ∙ sym (split h)

  at-end : length s ≤ i → Some acc ≡ negative_from (read_magnitude s)
  at-end h = ap Some r.negative ∙ sym (r.whole ∙ rw (drop_of_length-le s h) (negative-in (nat_abs acc) r.small))

pub loop-c-init : goal.loop-c-init
loop-c-init c =
    record {
      negative = refl;
      small = omega arith;
      whole = ap negative_from (magnitude-digits c.args.s.now (omega (arith, eqb-false (length c.args.s.now) 0 (sym c.if-is_empty.ensures))) (omega (arith, c.if-s-gt20.false)));
    }

pub push-requires : goal.push-requires
push-requires c = c.loop-c.invariant.negative

pub returns-in_err-acc : goal.returns-in_err-acc
returns-in_err-acc c = c.from_residual.ensures ∙ left c.loop-c.invariant c.loop-c-test.true c.in_err-acc.ensures

pub loop-c-preserved : goal.loop-c-preserved
loop-c-preserved c =
    let f : SFits w64 c.in_ok-acc.acc = search rules in
    simp (back_is f) (taken c.loop-c.invariant c.loop-c-test.true c.in_ok-acc.acc c.in_ok-acc.ensures)

pub returns : goal.returns
returns c = at-end c.loop-c.invariant c.loop-c-test.false
