-- The array's line and the text after it are the reply's pieces.
use Rattle.std.proofs.Common.{◌≡◌, ◌+◌, ◌≤◌, ◌<◌, ℕ, List, [], ◌∷◌, ◌++◌, length, refl, sym, ap, subst, length-append, arith}
use mathlib.Core.List.{append-nil}
use Rattle.model.specs.Bytes.{crlf}
use Rattle.model.specs.Number.{nat_text}
use Rattle.model.specs.Resp.{array_mark, line, Scalar, array, scalars_bytes, reply_bytes}
use Rattle.model.proofs.Numbers.{length-nat_text}
use Rattle.slice.specs.Wrote.{Wrote}
use Rattle.slice.proofs.Pieces as written
use Rattle.slice.proofs.Pieces.{Writing, wrote_as}
use Rattle.slice.proofs.Writing.{same_size}
use Rattle.reply.proofs.Writing.{next, replied}
use Rattle.reply.proofs.whole.elements.Goals as goal

line-size : (n : ℕ) → n < 10 → length (line array_mark n) ≤ 4
line-size n few = omega (arith, length-append (nat_text n) crlf, length-nat_text 0 n few)

line-fits : (n : ℕ) (t b : List ℕ) → n < 10 → 4 + length t ≤ length b → 0 + length (line array_mark n) ≤ length b
line-fits n t b few h = omega (arith, line-size n few)

-- what stands behind the line
text-fits : (t : List ℕ) {n at : ℕ} {b new : List ℕ} → n < 10 → 4 + length t ≤ length b → Wrote 0 (line array_mark n) b new at → at + length t ≤ length new
text-fits t {n} {at} {b} few h w = omega (arith, line-size n few, w.place, same_size (line-fits n t b few h) w)

-- the line and the text, for the elements that have these bytes
begun : (xs : List Scalar) (t b : List ℕ) → length xs < 10 → 4 + length t ≤ length b → t ≡ scalars_bytes xs
    → Writing 0 (reply_bytes (array xs)) b (line array_mark (length xs) ∷ scalars_bytes xs ∷ []) b 0
unfolding reply_bytes
begun xs t b few h e =
    let l = append-nil (scalars_bytes xs) in
    written.begin (line array_mark (length xs) ∷ scalars_bytes xs ∷ []) (ap (λ (x : List ℕ). line array_mark (length xs) ++ x) (sym l))
    (omega (arith, length-append (line array_mark (length xs)) (scalars_bytes xs), line-size (length xs) few, ap length e))

pub put_array-at-requires : goal.put_array-at-requires
put_array-at-requires c = line-fits c.args.count c.args.text.now c.args.reply.now c.requires.0 c.requires.1

pub copy-requires : goal.copy-requires
copy-requires c = text-fits c.args.text.now c.requires.0 c.requires.1 c.put_array-at.ensures

pub overflow_add-result : goal.overflow_add-result
overflow_add-result c =
    let fits = text-fits c.args.text.now c.requires.0 c.requires.1 c.put_array-at.ensures in
    let size = same_size (line-fits c.args.count c.args.text.now c.args.reply.now c.requires.0 c.requires.1) c.put_array-at.ensures in
    record { fits = omega (arith, fits, size, c.well_formed) }

pub returns : goal.returns
returns c xs hl ht =
    replied
    (next
    (next (begun xs c.args.text.now c.args.reply.now (subst (λ (n : ℕ). n < 10) (sym hl) c.requires.0) c.requires.1 ht)
    (subst (λ (n : ℕ). Wrote 0 (line array_mark n) c.args.reply.now c.put_array-at.new.buf c.put_array-at.result) (sym hl) c.put_array-at.ensures))
    (wrote_as ht (record { place = refl; bytes = c.copy.ensures })))
