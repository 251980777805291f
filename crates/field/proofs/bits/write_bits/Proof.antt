-- `bits::write_bits` meets its contract. The invariant: writing the bits that are left gives the bits that the value is to have. The measure: the
-- bits left.
use Rattle.std.proofs.Common.{◌≡◌, ℕ, ◌+◌, ◌-◌, ◌*◌, ◌<◌, ◌≤◌, Bool, List, length, get_or, set, sym, refl, ap, ◌∙◌, mod-lt, arith, length-set, pow_pos, rules}
use Rattle.model.proofs.Bits.{Bytes}
use Rattle.model.proofs.Ranges.{ends}
use Rattle.command.specs.Subcommand.{model_field}
use Rattle.field.specs.Bytewise.{taken, bits_above, patched}
use Rattle.field.proofs.Bytewise.{writing, writing_step, writing-all, bytes-set}
use Rattle.field.proofs.bits.write_bits.Statement.{statement}
use Rattle.field.proofs.bits.write_bits.Tie as tie

-- at bit `from` of byte i, with `left` bits to write
record Writing (v₀ : List ℕ) (whole : List Bool) (x : ℕ) (v : List ℕ) (i from left : ℕ) : Type 0 where
  inside : from < 8
  few : left ≤ 64
  room : 8 * i + from + left ≤ 8 * length v
  same : length v ≡ length v₀
  bytes : Bytes v
  is : writing (8 * i + from) left x v ≡ whole

last : {v₀ v : List ℕ} {whole : List Bool} {x i from left : ℕ} → Writing v₀ whole x v i from left → left ≡ 0 → writing (8 * i + from) 0 x v ≡ whole
last {v} {x} {i} {from} r e = ap (λ (n : ℕ). writing (8 * i + from) n x v) (sym e) ∙ r.is

-- a step with n bits, which are p, and the byte b
module _ {v₀ v : List ℕ} {whole : List Bool} {x i from left n p b : ℕ} (r : Writing v₀ whole x v i from left) (en : n ≡ taken from left)
    (ep : p ≡ bits_above n (left - n) x) (eb : b ≡ patched n (8 - from - n) p (get_or v i 0)) (byte : b < 256) (some : 0 < left) where
  step : writing (8 * (i + 1) + 0) (left - n) x (set v i b) ≡ whole
  step = rw (eb, ep, en) (writing_step i from left x v r.inside (omega (arith, r.room)) ∙ r.is)

  next : Writing v₀ whole x (set v i b) (i + 1) 0 (left - n)
  next =
      record {
        inside = omega arith;
        few = omega (arith, r.few);
        room = omega (arith, r.room, r.inside, length-set v i b);
        same = length-set v i b ∙ r.same;
        bytes = bytes-set v i b r.bytes byte;
        is = step;
      }

abbrev invariant-loop : tie.invariant-loop-left
invariant-loop value₀ bits i₀ from₀ left₀ value i from left = Writing value₀ (writing (8 * i₀ + from₀) left₀ bits value₀) bits value i from left

abbrev decreases-loop : tie.decreases-loop-left
decreases-loop value₀ bits i₀ from₀ left₀ value i from left = left

returns : tie.Need-returns invariant-loop decreases-loop
returns c =
    let s = c.before.before.before.before.before.before in
    let f = model_field s.args.field in
    let i = c.loop-left.invariant in
    writing-all f s.args.bits s.args.value.now c.loop-left.value _ (ends f.type s.requires.0).wide s.requires.1 i.bytes (last i (omega arith))

pub write_bits_spec : {M : Type 1} → statement M
write_bits_spec =
    tie.close
    (tie.spec
    invariant-loop
    decreases-loop
    (λ c. search rules)
    (λ c.
    let s = c.before.before.before.before in
    record {
      inside = omega arith;
      few = (ends (model_field s.args.field).type s.requires.0).narrow;
      room = omega (arith, s.requires.1);
      same = refl;
      bytes = λ i. (c.slice_known-1.given i).fits;
      is = refl;
    })
    (λ c κs. c.loop-left.invariant.inside)
    (λ c. omega arith)
    (λ c. omega arith)
    (λ c. omega arith)
    (λ c. omega arith)
    (λ c κs. omega arith)
    (λ c κs. (omega arith, omega arith, rw c.bits_above.ensures (mod-lt _ (pow_pos _))))
    (λ c. omega arith)
    (λ c. omega arith)
    (λ c. omega arith)
    (λ c.
    let t = c.before.before.before in
    next t.loop-left.invariant t.taken-n.ensures c.bits_above.ensures c.patched.ensures c.patched.type_inv t.loop-left-test.true)
    (λ c. c.loop-left.invariant.same)
    returns)
