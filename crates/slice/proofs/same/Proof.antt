-- `slice::same` meets its contract. Slices of different lengths are not the same; else both loops keep that the whole comparison equals that of
-- the bytes left.
use Prim.Native.Nat.{◌-◌, ◌≤◌}
use mathlib.Core.Path.{◌≡◌, refl, sym, ◌∙◌}
use lib.ListN.{length, drop}
use Rattle.model.specs.Bytes.{same}
use Rattle.slice.proofs.Equal.{other_length, same_drop, differ-drop, same_word, differ-word, same_end}
use native.Mathlib.Omega.{arith}
use borrow.Author.Rules.{rules}
use Rattle.slice.proofs.same.Statement.{statement}
use Rattle.slice.proofs.same.Tie as tie

abbrev invariant-loop : tie.invariant-loop-i
invariant-loop a b i₀ i = (i ≤ length a) × (length a ≡ length b) × (same a b ≡ same (drop i a) (drop i b))

abbrev decreases-loop : tie.decreases-loop-i
decreases-loop a b i₀ i = length a - i

abbrev invariant-loop2 : tie.invariant-loop-i-2
invariant-loop2 a b i₀ i = (i ≤ length a) × (length a ≡ length b) × (same a b ≡ same (drop i a) (drop i b))

abbrev decreases-loop2 : tie.decreases-loop-i-2
decreases-loop2 a b i₀ i = length a - i

returns-2 : tie.Need-returns-then-get8 invariant-loop decreases-loop invariant-loop2 decreases-loop2
returns-2 c =
    let l = c.before.before.before.before in
    let s = l.before.before.before.before in
    sym (l.loop-i.invariant.2 ∙ differ-word s.args.a.now s.args.b.now l.loop-i.i (λ e. c.if-get8.true (c.before.before.get8.ensures ∙ e ∙ sym c.before.get8-in-loop-i.ensures)))

loop-again : tie.Need-loop-i-preserved invariant-loop decreases-loop invariant-loop2 decreases-loop2
loop-again c =
    let l = c.before.before.before.before in
    let s = l.before.before.before.before in
    let eq = sym c.before.before.get8.ensures ∙ c.if-get8.false ∙ c.before.get8-in-loop-i.ensures in
    let known = same_word s.args.a.now s.args.b.now l.loop-i.i (λ j. (l.before.before.before.shared_slice_known-1.given j).fits) (λ j. (l.before.before.shared_slice_known-2-1.given j).fits) in
    (omega arith, l.loop-i.invariant.1, l.loop-i.invariant.2 ∙ known (omega arith) (omega arith) eq)

returns-3 : tie.Need-returns-then-a-i invariant-loop decreases-loop invariant-loop2 decreases-loop2
returns-3 c =
    let l = c.before.before.before.before in
    let s = l.before.before.before.before.before.before in
    sym (l.loop-i-2.invariant.2 ∙ differ-drop s.args.a.now s.args.b.now l.loop-i-2.i (omega arith) (omega arith) c.if-a-i.true)

loop2-again : tie.Need-loop-i-2-preserved invariant-loop decreases-loop invariant-loop2 decreases-loop2
loop2-again c =
    let l = c.before.before.before.before in
    let s = l.before.before.before.before.before.before in
    (omega arith, l.loop-i-2.invariant.1, l.loop-i-2.invariant.2 ∙ same_drop s.args.a.now s.args.b.now l.loop-i-2.i (omega arith) (omega arith) c.if-a-i.false)

returns-4 : tie.Need-returns invariant-loop decreases-loop invariant-loop2 decreases-loop2
returns-4 c =
    let l = c.before in
    let s = l.before.before.before.before.before.before in
    sym (l.loop-i-2.invariant.2 ∙ same_end s.args.a.now s.args.b.now l.loop-i-2.i (omega arith) (omega arith))

pub same_spec : {M : Type 1} → statement M
same_spec =
    tie.close
    (tie.spec
    invariant-loop decreases-loop invariant-loop2 decreases-loop2
    (λ c. sym (other_length c.before.before.before.args.a.now c.before.before.before.args.b.now c.if-a-b.true))
    (λ c. (omega arith, c.if-a-b.false, refl))
    (λ c. search rules) (λ c κs. search rules) (λ c κs. search rules) returns-2 (λ c. search rules) (λ c. search rules) loop-again
    (λ c. c.before.loop-i.invariant)
    (λ c. search rules) (λ c. search rules) returns-3 (λ c. search rules) (λ c. search rules) loop2-again returns-4)
