-- The digits after the sign are read below 0, where the range has one number more, which only a minus may say.
use mathlib.Core.Path.{◌≡◌, refl, sym, ap, ◌∙◌}
use mathlib.Core.Logic.{⊎_elim}
use mathlib.Core.List.{List}
use mathlib.Core.Option.{Option}
use Prim.Native.Nat.{ℕ, zero, suc, ◌-◌, ◌^◌, ◌<◌, ◌≤◌}
use native.Mathlib.Nat.{eq-or-lt_of_le}
use native.Mathlib.Omega.{arith}
use lib.ListN.{length, drop, take, get_or}
use lib.IntN.{ℤ, pos, neg_ℤ, ◌-ℤ◌}
use mir.Syntax.{w64}
use mir.Val.{SFits, of_z}
use borrow.Author.Rules.{rules}
use Rattle.std.specs.Prelude.{Some}
use Rattle.model.specs.Number.{read_magnitude}
use Rattle.number.specs.Answer.{sign_length, negative_from}
use Rattle.number.proofs.Integers.{back_is, parts-eq, up-add, up_neg, dn-neg}
use Rattle.number.proofs.Reading.{Negative, negative, plain_out, plain_in, unsigned, text-none, text-bad, text-minus, text-other, rest-is}
use Rattle.number.proofs.read_signed.Goals as goal

-- minus n has the least number's bits where n is 2 ^ 63 alone
bits-least : (n : ℕ) → n ≤ 2 ^ 63 → of_z w64 (neg_ℤ (pos n)) ≡ 9223372036854775808 → 2 ^ 63 ≤ n
bits-least zero h e = omega arith
bits-least (suc n) h e = omega arith

bits-other : (n : ℕ) → n ≤ 2 ^ 63 → (of_z w64 (neg_ℤ (pos n)) ≡ 9223372036854775808 → ⊥) → n < 2 ^ 63
bits-other n h o = ⊎_elim (λ e. absurd (o (rw e refl))) (λ l. l) (eq-or-lt_of_le h)

negated : (n : ℕ) → pos 0 -ℤ neg_ℤ (pos n) ≡ pos n
negated n =
    parts-eq (pos 0 -ℤ neg_ℤ (pos n)) (pos n)
    (omega (arith, up-add (pos 0) (neg_ℤ (neg_ℤ (pos n))), up_neg (neg_ℤ (pos n)), dn-neg (neg_ℤ (pos n)), up_neg (pos n), dn-neg (pos n)))

negated-of : {o : Option ℕ} {v : ℤ} (r : Negative o v) → pos 0 -ℤ v ≡ pos r.n
negated-of r = ap (λ (z : ℤ). pos 0 -ℤ z) r.value ∙ negated r.n

-- minus the number after the sign
module _ (s : List ℕ) {k : ℕ} (e : k ≡ sign_length (get_or s 0 0)) where
  read : negative_from (read_magnitude (take (length s - k) (drop k s))) ≡ negative_from (read_magnitude (unsigned s))
  read = ap (λ (u : List ℕ). negative_from (read_magnitude u)) (rest-is k s ∙ ap (λ (j : ℕ). drop j s) e)

  whole : (v : ℤ) → Some v ≡ negative_from (read_magnitude (take (length s - k) (drop k s))) → Negative (read_magnitude (unsigned s)) v
  whole v h = negative _ v (h ∙ read)

-- the first byte
begun : (s : List ℕ) {x : ℕ} → x ≡ get_or s 0 0 → {k : ℕ} → k ≡ sign_length x → k ≡ sign_length (get_or s 0 0)
begun s e p = p ∙ ap sign_length e

pub returns-in_err-first : goal.returns-in_err-first
returns-in_err-first c = c.from_residual.ensures ∙ text-none c.args.s.now (omega (arith, c.in_err-first.ensures.item))

some-byte : (s : List ℕ) → 0 < length s → length s ≡ 0 → ⊥
some-byte s h e = omega arith

pub returns-in_err-v : goal.returns-in_err-v
returns-in_err-v c =
    let s = c.args.s.now in
    let i = c.in_ok-first.ensures.item in
    c.from_residual-in_err-v.ensures
    ∙ text-bad s (some-byte s i.3.0) (c.in_err-v.ensures ∙ read s (begun s (i.3.1 0) c.sign_length-from.ensures))

pub returns-then-first-eq45 : goal.returns-then-first-eq45
returns-then-first-eq45 c =
    let s = c.args.s.now in
    let i = c.in_ok-first.ensures.item in
    let f : SFits w64 c.in_ok-v.v = search rules in
    simp (back_is f)
    (c.in_ok-v.ensures ∙ read s (begun s (i.3.1 0) c.sign_length-from.ensures) ∙ sym (text-minus s (some-byte s i.3.0) (sym (i.3.1 0) ∙ c.if-first-eq45.true)))

pub returns-then-v : goal.returns-then-v
returns-then-v c =
    let s = c.args.s.now in
    let i = c.in_ok-first.ensures.item in
    let r = whole s (begun s (i.3.1 0) c.sign_length-from.ensures) c.in_ok-v.v c.in_ok-v.ensures in
    sym
    (text-other s (some-byte s i.3.0) (λ e. c.if-first-eq45.false (i.3.1 0 ∙ e))
    ∙ plain_out r (bits-least _ r.small (ap (of_z w64) (sym r.value) ∙ c.if-v.true)))

pub returns : goal.returns
returns c =
    let s = c.args.s.now in
    let i = c.in_ok-first.ensures.item in
    let r = whole s (begun s (i.3.1 0) c.sign_length-from.ensures) c.in_ok-v.v c.in_ok-v.ensures in
    let under = bits-other r.n r.small (λ e. c.if-v.false (ap (of_z w64) r.value ∙ e)) in
    let f : SFits w64 c.in_ok-v.v = search rules in
    let g : SFits w64 (pos r.n) = record { sfits = under } in
    simp (back_is f, negated-of r, back_is g) (sym (text-other s (some-byte s i.3.0) (λ e. c.if-first-eq45.false (i.3.1 0 ∙ e)) ∙ plain_in r under))
