-- The subcommands by value, one by one.
use mathlib.Core.Path.{◌≡◌, refl, sym, ap, ◌∙◌, subst}
use mathlib.Core.Bool.{true, false}
use mathlib.Core.List.{List, [], ◌∷◌}
use mathlib.Core.Option.{Option, none, some}
use Prim.Native.Nat.{ℕ, zero, suc, ◌+◌, ◌-◌, ◌*◌, ◌≤◌, ◌<◌}
use native.Mathlib.Numerals.{add-one}
use native.Mathlib.Omega.{arith}
use lib.ListN.{length}
use lib.Dec.{leb}
use lib.IntN.{ℤ, ◌+ℤ◌}
use borrow.Author.Tests.{leb-true, le-leb}
use Rattle.model.specs.Field.{is_int_type, Field, end_bit, get_field, set_field}
use Rattle.model.specs.Overflow.{overflow}
use Rattle.model.specs.Bitfield as model
use Rattle.model.specs.Bitfield.{ends_within, all_end_within, run_sub}
use Rattle.model.proofs.Basics.{and_left, and_right}
use Rattle.model.proofs.Runs.{Typed}
use Rattle.command.specs.Subcommand.{model_int, model_field, model_mode, model_operation, model_sub, sub_at, subs_from, model_subs}
use Rattle.command.specs.declared.subcommand.Operation.{Operation}
use Rattle.command.specs.declared.subcommand.Operation.TheVariants.{Get, Set, Incrby}
use Rattle.command.specs.declared.subcommand.Sub.{Sub}
use Rattle.command.specs.declared.subcommand.Subs.{Subs}
use Rattle.command.specs.declared.subcommand.Mode.{Mode}
use Rattle.bitfield.specs.Run.{Holds, Leaves}
use Rattle.std.specs.Prelude.{Some, None}
use Rattle.bitfield.specs.declared.Done.{Done}

-- ---- one after the other

-- from place i on there is one, where fewer than `count` are passed
pub subs-next : (s : Subs) (i : ℕ) {count : ℕ} → i < count → subs_from s i (count - i) ≡ model_sub (sub_at s i) ∷ subs_from s (i + 1) (count - (i + 1))
subs-next s i {count} h =
    let e : count - i ≡ suc (count - (i + 1)) = omega arith in
    ap (subs_from s i) e ∙ ap (λ (j : ℕ). model_sub (sub_at s i) ∷ subs_from s j (count - (i + 1))) (sym (add-one i))

pub subs-none : (s : Subs) (i : ℕ) {count : ℕ} → count ≤ i → subs_from s i (count - i) ≡ []
subs-none s i {count} h = let e : count - i ≡ 0 = omega arith in ap (subs_from s i) e

length_from : (s : Subs) (i n : ℕ) → length (subs_from s i n) ≡ n
length_from s i zero = refl
length_from s i (suc n) = ap suc (length_from s (suc i) n)

pub length-subs : (s : Subs) → length (model_subs s) ≡ s.count
unfolding model_subs
length-subs s = length_from s 0 s.count

-- ---- where a field ends

-- the field of a subcommand
abbrev pub at : Sub → Field
at s = model_field s.field

-- what ends within n bytes ends within more
pub all-end-more : (n m : ℕ) (ss : List model.Sub) → n ≤ m → all_end_within n ss ≡ true → all_end_within m ss ≡ true
all-end-more n m [] h e = refl
all-end-more n m (s ∷ ss) h e =
    let rest = all-end-more n m ss h (and_right (ends_within n s) (all_end_within n ss) e) in
    rw (first s (and_left (ends_within n s) (all_end_within n ss) e)) rest
  where
    further : (f : Field) → leb (end_bit f) (8 * n) ≡ true → leb (end_bit f) (8 * m) ≡ true
    further f q = le-leb (end_bit f) (8 * m) (omega (arith, leb-true (end_bit f) (8 * n) q))

    first : (s : model.Sub) → ends_within n s ≡ true → ends_within m s ≡ true
    first (model.get f) q = refl
    first (model.set f z) q = further f q
    first (model.incrby f k z) q = further f q

-- ---- what one leaves, by what it does

-- what an INCRBY of a mode comes to on the value v
abbrev pub Sum : Sub → Mode → (v : List ℕ) → Option ℤ → Type 0
Sum s m v o = overflow (at s).type (model_mode m) (get_field (at s) v +ℤ s.number) ≡ o

pub sum_of : (s : Sub) (m : Mode) (v : List ℕ) {o : Option ℤ} {old by : ℤ} → o ≡ overflow (at s).type (model_mode m) (old +ℤ by) → old ≡ get_field (at s) v
    → by ≡ s.number → Sum s m v o
sum_of s m v e p q = sym (e ∙ (λ i. overflow (at s).type (model_mode m) (p i +ℤ q i)))

module _ (s : Sub) (v : List ℕ) {n : ℕ} {b : List ℕ} where
  leaves-as : {o : Operation} {r : Done} → s.operation ≡ o → Leaves (run_sub (model_operation o (at s) s.number) v) n b r → Leaves (run_sub (model_sub s) v) n b r
  leaves-as {o} {r} e = subst (λ (o : Operation). Leaves (run_sub (model_operation o (at s) s.number) v) n b r) (sym e)

  pub get-leaves : {len : ℕ} {z : ℤ} → s.operation ≡ Get → Holds v n b len → z ≡ get_field (at s) v
      → Leaves (run_sub (model_sub s) v) n b (record { len = len; wrote = false; answered = Some z })
  unfolding run_sub
  get-leaves e h q = leaves-as e (record { holds = h; wrote = refl; answered = ap some q })

  -- the number y that is written, and x that is answered, however they are come by
  stored-as : {r : Done} {x y a z : ℤ} → x ≡ a → y ≡ z → Leaves (model.stored (some x) (set_field (at s) y v)) n b r → Leaves (model.stored (some a) (set_field (at s) z v)) n b r
  stored-as {r} p q = subst (λ (d : model.Done). Leaves d n b r) (λ i. model.stored (some (p i)) (set_field (at s) (q i) v))

  pub set-leaves : {r : Done} {x y : ℤ} → s.operation ≡ Set → x ≡ get_field (at s) v → y ≡ s.number → Leaves (model.stored (some x) (set_field (at s) y v)) n b r
      → Leaves (run_sub (model_sub s) v) n b r
  unfolding run_sub
  set-leaves e p q h = leaves-as e (stored-as p q h)

  pub nil-leaves : {len : ℕ} {m : Mode} → s.operation ≡ Incrby m → Holds v n b len → Sum s m v none
      → Leaves (run_sub (model_sub s) v) n b (record { len = len; wrote = false; answered = None })
  unfolding run_sub
  nil-leaves e h q = leaves-as e (rw q (record { holds = h; wrote = refl; answered = refl }))

  pub sum-leaves : {r : Done} {m : Mode} {y z : ℤ} → s.operation ≡ Incrby m → y ≡ z → Sum s m v (some z) → Leaves (model.stored (some y) (set_field (at s) y v)) n b r
      → Leaves (run_sub (model_sub s) v) n b r
  unfolding run_sub
  sum-leaves e p q h = leaves-as e (rw q (stored-as p p h))

-- ---- what its field keeps to

pub typed-field : (s : Sub) → Typed (model_sub s) → is_int_type (model_int s.field.int) ≡ true
typed-field s = go s.operation
  where
    go : (o : Operation) → Typed (model_operation o (model_field s.field) s.number) → is_int_type (model_int s.field.int) ≡ true
    go Get t = t
    go Set t = t
    go (Incrby m) t = t
