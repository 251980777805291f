use Rattle.std.proofs.Common.{◌≡◌, ◌*◌, ◌+◌, sym, ap, ◌∙◌, max, eqb, arith}
use lib.ListN.{drop, length-drop}
use lib.Seq.{take_all}
use Rattle.model.specs.Bytes.{part}
use Rattle.slice.specs.Zeros.{is_zero, zeros_from}
use Rattle.slice.proofs.Zeros.{some_more, last-first, or-left-zero, implied}
use Rattle.slice.proofs.bits_from.Goals as goal
use Rattle.slice.proofs.bits_from.Goals.{After-bits_at-bits}

-- the last 16 bytes, which are tested before the loop
last : (c : After-bits_at-bits) → eqb c.bits_at-bits.result 0 ≡ zeros_from c.args.limit c.args.s.now
last c =
    let tested : eqb c.bits_at-bits.result 0 ≡ is_zero (part c.args.limit 16 c.args.s.now) = c.bits_at-bits.ensures in
    tested ∙ ap is_zero (take_all 16 (drop c.args.limit c.args.s.now) (omega (arith, length-drop c.args.limit c.args.s.now)))

pub loop-k-init : goal.loop-k-init
loop-k-init c =
    let l = last (goal.at.loop-k-init c).After-bits_at-bits in
    let m : max c.args.n (16 * 0) ≡ c.args.n = omega arith in
    (rw m (last-first c.args.s.now c.bits_at-bits.result c.args.n c.args.limit l (omega arith)), λ z. sym l ∙ z)

pub loop-k-preserved : goal.loop-k-preserved
loop-k-preserved c =
    let n = c.args.n in
    let i = 16 * c.loop-k.k in
    let next : 16 * (c.loop-k.k + 1) ≡ i + 16 = omega arith in
    let tested = some_more c.args.s.now 16 c.loop-k.bits c.bits_at-bits-in-loop-k.result (max n i) (max n (i + 16)) (rw c.max.ensures at c.bits_at-bits-in-loop-k.ensures) (omega arith) (omega arith) in
    (c.loop-k.invariant.0 ∙ tested ∙ rw next, λ z. c.loop-k.invariant.1 (or-left-zero c.loop-k.bits c.bits_at-bits-in-loop-k.result z))

pub returns : goal.returns
returns c =
    let m : max c.args.n (16 * c.loop-k.k) ≡ c.args.limit = omega arith in
    implied _ _ c.loop-k.invariant.1 ∙ sym (rw m at c.loop-k.invariant.0)
