-- Running subcommands: results fit, nothing changes without a write, and the value stays within its limits.
use mathlib.Core.Path.{◌≡◌, refl, sym, ap, ◌∙◌}
use mathlib.Core.Bool.{true, false}
use mathlib.Core.List.{List, [], ◌∷◌, ◌++◌}
use mathlib.Core.Option.{Option, none, some}
use Prim.Native.Nat.{ℕ, suc, ◌*◌, ◌≤◌}
use native.Mathlib.Omega.{arith}
use lib.ListN.{length}
use lib.IntN.{ℤ, ◌+ℤ◌}
use borrow.Author.Tests.{leb-true}
use Rattle.model.proofs.Basics.{never, All, and_left, and_right, or_left, or_right, some-eq, none-some}
use Rattle.model.specs.Number.{is_signed}
use Rattle.model.specs.Field.{is_int_type, modulus, fits, modulo, Field, end_bit, get_field, set_field}
use Rattle.model.specs.Overflow.{Mode, overflow}
use Rattle.model.specs.Bitfield.{Sub, get, set, incrby, ends_within, all_end_within, increased, run_sub, run_subs}
use Rattle.model.proofs.Bits.{Bytes}
use Rattle.model.proofs.Ranges.{type-wide, fits_signed}
use Rattle.model.proofs.Overflows.{overflow-fits}
use Rattle.model.proofs.Fields.{get_field-fits, get_field-set_field, length-set_field, bytes-set_field_bits}

abbrev pub field_of : Sub → Field
field_of (get f) = f
field_of (set f z) = f
field_of (incrby f m z) = f

-- a subcommand's type is one of i1 to i64 and u1 to u63
abbrev pub Typed : Sub → Type 0
Typed s = is_int_type (field_of s).type ≡ true

-- ---- one subcommand

-- an INCRBY that answers something has stored that
stored_some : (f : Field) (o : Option ℤ) (v : List ℕ) (y : ℤ) → (increased f o v).result ≡ some y → (o ≡ some y) × ((increased f o v).value ≡ set_field f y v)
stored_some f none v y e = none-some y e
stored_some f (some z) v y e = (e, ap (λ (x : ℤ). set_field f x v) (some-eq e))

-- a result fits its field
pub run_sub-fits : (s : Sub) (v : List ℕ) (y : ℤ) → Typed s → (run_sub s v).result ≡ some y → fits (field_of s).type y ≡ true
unfolding run_sub
run_sub-fits (get f) v y w e = ap (fits f.type) (sym (some-eq e)) ∙ get_field-fits f v (type-wide f.type w)
run_sub-fits (set f z) v y w e = ap (fits f.type) (sym (some-eq e)) ∙ get_field-fits f v (type-wide f.type w)
run_sub-fits (incrby f m z) v y w e =
    overflow-fits f.type (type-wide f.type w) m (get_field f v +ℤ z) y (stored_some f (overflow f.type m (get_field f v +ℤ z)) v y e).0

-- after SET the field has its number, after INCRBY what was answered
pub get_field-set : (f : Field) (z : ℤ) (v : List ℕ) → 1 ≤ f.type.width → fits f.type z ≡ true → get_field f (run_sub (set f z) v).value ≡ z
unfolding run_sub
get_field-set f z v w e = get_field-set_field f z v w e

pub get_field-incrby : (f : Field) (m : Mode) (z : ℤ) (v : List ℕ) (y : ℤ) → 1 ≤ f.type.width → (run_sub (incrby f m z) v).result ≡ some y
    → get_field f (run_sub (incrby f m z) v).value ≡ y
unfolding run_sub
get_field-incrby f m z v y w e =
    let s = stored_some f (overflow f.type m (get_field f v +ℤ z)) v y e in
    ap (get_field f) s.1 ∙ get_field-set_field f y v w (overflow-fits f.type w m (get_field f v +ℤ z) y s.0)

-- without a write the value stays
pub run_sub-unwritten : (s : Sub) (v : List ℕ) → (run_sub s v).wrote ≡ false → (run_sub s v).value ≡ v
unfolding run_sub
run_sub-unwritten (get f) v e = refl
run_sub-unwritten (set f z) v e = never true refl e
run_sub-unwritten (incrby f m z) v e = go (overflow f.type m (get_field f v +ℤ z)) e
  where
    go : (o : Option ℤ) → (increased f o v).wrote ≡ false → (increased f o v).value ≡ v
    go none e = refl
    go (some y) e = never true refl e

-- what holds of the value and of it after a write holds after a subcommand
by-run_sub : (P : List ℕ → Type 0) (s : Sub) (v : List ℕ) → P v → ((z : ℤ) → P (set_field (field_of s) z v)) → P (run_sub s v).value
unfolding run_sub
by-run_sub P (get f) v p q = p
by-run_sub P (set f z) v p q = q z
by-run_sub P (incrby f m z) v p q = go (overflow f.type m (get_field f v +ℤ z))
  where
    go : (o : Option ℤ) → P (increased f o v).value
    go none = p
    go (some y) = q y

pub run_sub-bytes : (s : Sub) (v : List ℕ) → Bytes v → Bytes (run_sub s v).value
run_sub-bytes s v h = by-run_sub Bytes s v h (λ z. bytes-set_field_bits (field_of s) v (modulo z (modulus (field_of s).type)))

-- a value does not shrink
pub run_sub-grows : (s : Sub) (v : List ℕ) → length v ≤ length (run_sub s v).value
run_sub-grows s v = by-run_sub (λ (u : List ℕ). length v ≤ length u) s v (omega arith) (λ z. omega (arith, length-set_field (field_of s) z v))

-- nor pass a limit that its written fields keep
pub run_sub-within : (n : ℕ) (s : Sub) (v : List ℕ) → Typed s → ends_within n s ≡ true → length v ≤ n → length (run_sub s v).value ≤ n
unfolding run_sub
run_sub-within n (get f) v w e h = h
run_sub-within n (set f z) v w e h = let l = type-wide f.type w in omega (arith, length-set_field f z v, leb-true (end_bit f) (8 * n) e)
run_sub-within n (incrby f m z) v w e h =
    let l = type-wide f.type w in
    by-run_sub (λ (u : List ℕ). length u ≤ n) (incrby f m z) v h (λ y. omega (arith, length-set_field f y v, leb-true (end_bit f) (8 * n) e))

-- ---- a run

-- each result fits its subcommand's field; there are as many results as subcommands
abbrev pub AllFit : List Sub → List (Option ℤ) → Type 0
AllFit [] [] = Unit {0}
AllFit [] (r ∷ rs) = ⊥
AllFit (s ∷ ss) [] = ⊥
AllFit (s ∷ ss) (r ∷ rs) = ((y : ℤ) → r ≡ some y → fits (field_of s).type y ≡ true) × AllFit ss rs

pub run_subs-fits : (ss : List Sub) (v : List ℕ) → All Typed ss → AllFit ss (run_subs ss v).results
unfolding run_subs
run_subs-fits [] v w = tt
run_subs-fits (s ∷ ss) v w = (λ y e. run_sub-fits s v y w.0 e, run_subs-fits ss (run_sub s v).value w.1)

pub run_subs-unwritten : (ss : List Sub) (v : List ℕ) → (run_subs ss v).wrote ≡ false → (run_subs ss v).value ≡ v
unfolding run_subs
run_subs-unwritten [] v e = refl
run_subs-unwritten (s ∷ ss) v e =
    let rest = (run_sub s v).value in
    run_subs-unwritten ss rest (or_right (run_sub s v).wrote (run_subs ss rest).wrote e) ∙ run_sub-unwritten s v (or_left (run_sub s v).wrote (run_subs ss rest).wrote e)

pub run_subs-bytes : (ss : List Sub) (v : List ℕ) → Bytes v → Bytes (run_subs ss v).value
unfolding run_subs
run_subs-bytes [] v h = h
run_subs-bytes (s ∷ ss) v h = run_subs-bytes ss (run_sub s v).value (run_sub-bytes s v h)

pub run_subs-grows : (ss : List Sub) (v : List ℕ) → length v ≤ length (run_subs ss v).value
unfolding run_subs
run_subs-grows [] v = omega arith
run_subs-grows (s ∷ ss) v = let ih = run_subs-grows ss (run_sub s v).value in omega (arith, run_sub-grows s v)

pub run_subs-within : (n : ℕ) (ss : List Sub) (v : List ℕ) → All Typed ss → all_end_within n ss ≡ true → length v ≤ n → length (run_subs ss v).value ≤ n
unfolding run_subs
run_subs-within n [] v w e h = h
run_subs-within n (s ∷ ss) v w e h =
    run_subs-within n ss (run_sub s v).value w.1 (and_right (ends_within n s) (all_end_within n ss) e)
    (run_sub-within n s v w.0 (and_left (ends_within n s) (all_end_within n ss) e) h)

-- left to right: the later ones run on what the earlier ones left
pub run_subs-append : (xs ys : List Sub) (v : List ℕ) → (run_subs (xs ++ ys) v).value ≡ (run_subs ys (run_subs xs v).value).value
unfolding run_subs
run_subs-append [] ys v = refl
run_subs-append (s ∷ xs) ys v = run_subs-append xs ys (run_sub s v).value

pub results-append : (xs ys : List Sub) (v : List ℕ) → (run_subs (xs ++ ys) v).results ≡ (run_subs xs v).results ++ (run_subs ys (run_subs xs v).value).results
unfolding run_subs
results-append [] ys v = refl
results-append (s ∷ xs) ys v = ap (λ (rs : List (Option ℤ)). (run_sub s v).result ∷ rs) (results-append xs ys (run_sub s v).value)

-- one answer for each subcommand, and each a number of 64 bits
pub results-length : (ss : List Sub) (v : List ℕ) → length (run_subs ss v).results ≡ length ss
unfolding run_subs
results-length [] v = refl
results-length (s ∷ ss) v = ap suc (results-length ss (run_sub s v).value)

-- a number that is answered is in 64 signed bits
abbrev pub SignedResult : Option ℤ → Type 0
SignedResult r = (z : ℤ) → r ≡ some z → is_signed z ≡ true

pub run_subs-signed : (ss : List Sub) (v : List ℕ) → All Typed ss → All SignedResult (run_subs ss v).results
unfolding run_subs
run_subs-signed [] v h = tt
run_subs-signed (s ∷ ss) v h = (
  λ z e. fits_signed (field_of s).type z h.0 (run_sub-fits s v z h.0 e),
  run_subs-signed ss (run_sub s v).value h.1,
)
