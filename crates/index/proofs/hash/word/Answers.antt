use Rattle.std.proofs.Common.{◌≡◌, ℕ, ◌+◌, ◌-◌, ◌*◌, ◌/◌, ◌^◌, ◌<◌, length, get_or, drop, sym, refl, ap, ◌∙◌, arith}
use Rattle.model.specs.Bytes.{from_little_endian}
use Rattle.index.proofs.KeyWords.{word-within, word_after, word-ends, word-shifted, from_next, from-small, from-none}
use Rattle.index.proofs.hash.word.Goals as goal

pub returns-then-n-at : goal.returns-then-n-at
returns-then-n-at c = sym (word_after c.args.key.now c.args.at c.if-n-at.true)

pub returns-then-at-n : goal.returns-then-at-n
returns-then-at-n c = c.get8.ensures ∙ word-within c.args.key.now c.args.at c.if-at-n.true

pub returns-then-n-ge8 : goal.returns-then-n-ge8
returns-then-n-ge8 c =
    let a = c.args in
    ap (λ (w : ℕ). w / 2 ^ (8 * (a.at + 8 - length a.key.now))) c.get8-then-n-ge8.ensures
    ∙ word-shifted a.key.now a.at (λ j. (c.type_inv.key j).fits) (omega arith) (omega arith) c.if-n-ge8.true

pub loop-i-init : goal.loop-i-init
loop-i-init c = sym (from-none c.args.key.now (length c.args.key.now) (omega arith))

pub overflow_mul-w : goal.overflow_mul-w
overflow_mul-w c = omega (arith, c.loop-i.invariant, from-small c.args.key.now (λ j. (c.type_inv.key j).fits) (omega arith) c.loop-i.i)

pub overflow_add-w : goal.overflow_add-w
overflow_add-w c = omega (arith, c.loop-i.invariant, from-small c.args.key.now (λ j. (c.type_inv.key j).fits) (omega arith) c.loop-i.i, (c.type_inv.key (c.loop-i.i - 1)).fits)

pub loop-i-preserved : goal.loop-i-preserved
loop-i-preserved c =
    let k = c.args.key.now in
    let i = c.loop-i.i in
    ap (λ (w : ℕ). w * 256 + get_or k (i - 1) 0) c.loop-i.invariant ∙ from_next k (i - 1) i (omega arith) (omega arith)

pub returns : goal.returns
returns c =
    let a = c.args in
    let first : c.loop-i.i ≡ a.at = omega arith in
    c.loop-i.invariant ∙ ap (λ (i : ℕ). from_little_endian (drop i a.key.now)) first ∙ sym (word-ends a.key.now a.at (omega arith) (omega arith))
