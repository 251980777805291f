-- `bits::read_bits` meets its contract. The invariant: the bits read, then those that are left, make the field. The measure: the bits left.
use Rattle.std.proofs.Common.{◌≡◌, ℕ, ◌+◌, ◌-◌, ◌*◌, ◌/◌, ◌%◌, ◌^◌, ◌<◌, ◌≤◌, true, List, get_or, sym, refl, ap, ◌∙◌, mod-eq_of_lt, arith, rules}
use Rattle.model.specs.Field.{Field, is_int_type}
use Rattle.model.proofs.Ranges.{ends}
use Rattle.model.proofs.Fields.{field_bits-lt}
use Rattle.command.specs.Subcommand.{model_field}
use Rattle.field.specs.Bytewise.{taken, bits_above}
use Rattle.field.proofs.Bytewise.{begin, reading, reading-all, reading-end, reading-le, reading_step}
use Rattle.field.proofs.bits.read_bits.Statement.{statement}
use Rattle.field.proofs.bits.read_bits.Tie as tie

-- at bit `from` of byte i, with `left` bits to read
record Reading (v : List ℕ) (whole i from left bits : ℕ) : Type 0 where
  inside : from < 8
  near : i + left ≤ 2 ^ 61 + 64
  fits : whole < 2 ^ 64
  is : reading bits (8 * i + from) left v ≡ whole

module _ {v : List ℕ} {whole i from left bits : ℕ} (r : Reading v whole i from left bits) where
  bits_fit : bits < 2 ^ 64
  bits_fit = omega (arith, reading-le bits (8 * i + from) left v, r.is, r.fits)

  last : left ≡ 0 → bits ≡ whole
  last e = sym (reading-end bits (8 * i + from) v) ∙ (ap (λ (n : ℕ). reading bits (8 * i + from) n v) (sym e) ∙ r.is)

-- a step with n bits, the byte b and the bits p of it
module _ {v : List ℕ} {whole i from left bits n b p : ℕ} (r : Reading v whole i from left bits) (en : n ≡ taken from left)
    (eb : b ≡ get_or v i 0) (ep : p ≡ bits_above n (8 - from - n) b) where
  step : reading (bits * 2 ^ n + p) (8 * (i + 1) + 0) (left - n) v ≡ whole
  step = rw (ep, eb, en) (reading_step bits i from left v r.inside ∙ r.is)

  small : bits * 2 ^ n + p < 2 ^ 64
  small = omega (arith, step, reading-le (bits * 2 ^ n + p) (8 * (i + 1) + 0) (left - n) v, r.fits)

  sum_is : bits * 2 ^ n % 2 ^ 64 + p ≡ bits * 2 ^ n + p
  sum_is = ap (λ (x : ℕ). x + p) (mod-eq_of_lt (omega (arith, small)))

  next : 0 < left → Reading v whole (i + 1) 0 (left - n) (bits * 2 ^ n % 2 ^ 64 + p)
  next h =
      record {
        inside = omega arith;
        near = omega (arith, r.near, r.inside);
        fits = r.fits;
        is = rw sum_is step;
      }

begins : (f : Field) (v : List ℕ) → is_int_type f.type ≡ true → f.offset < 2 ^ 64
    → Reading v (reading 0 (begin f) f.type.width v) (f.offset / 8) (f.offset % 8) f.type.width 0
begins f v law h =
    let e = ends f.type law in
    record {
      inside = omega arith;
      near = omega (arith, e.narrow);
      fits = rw (reading-all f v) (omega (arith, field_bits-lt f v, e.bottom, e.top));
      is = refl;
    }

abbrev invariant-loop : tie.invariant-loop-left
invariant-loop value i₀ from₀ left₀ bits₀ i from left bits = Reading value (reading 0 (8 * i₀ + from₀) left₀ value) i from left bits

abbrev decreases-loop : tie.decreases-loop-left
decreases-loop value i₀ from₀ left₀ bits₀ i from left bits = left

again : tie.Need-loop-left-preserved invariant-loop decreases-loop
again c =
    let t = c.before.before in
    next t.loop-left.invariant t.taken-n.ensures c.byte_at.ensures.0 c.bits_above.ensures t.loop-left-test.true

returns : tie.Need-returns invariant-loop decreases-loop
returns c =
    let s = c.before.before.before.before.before.before in
    last c.loop-left.invariant (omega arith) ∙ reading-all (model_field s.args.field) s.args.value.now

pub read_bits_spec : {M : Type 1} → statement M
read_bits_spec =
    tie.close
    (tie.spec
    invariant-loop
    decreases-loop
    (λ c. search rules)
    (λ c.
    let s = c.before.before.before.before in
    begins (model_field s.args.field) s.args.value.now s.requires (omega arith))
    (λ c κs. c.loop-left.invariant.inside)
    (λ c. omega arith)
    (λ c κs. tt)
    (λ c. omega arith)
    (λ c. omega arith)
    (λ c κs. omega arith)
    (λ c. record { fits = bits_fit (again c) })
    (λ c. omega arith)
    (λ c. omega arith)
    (λ c. omega arith)
    again
    returns)
