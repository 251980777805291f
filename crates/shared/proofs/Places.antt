-- What a part of a table shows, seen from the table: the same value, behind the part's start.
use Prim.Native.Nat.{ℕ, ◌+◌, ◌-◌, ◌≤◌}
use native.Mathlib.Nat.{zero-add}
use native.Mathlib.Omega.{arith}
use mathlib.Core.Path.{◌≡◌, refl, sym, ap, subst, ◌∙◌}
use mathlib.Core.Bool.{Bool, true, false}
use mathlib.Core.List.{List}
use lib.ListN.{length, take, drop, length-take}
use lib.Seq.{drop-drop}
use denote.Ref.{Bor}
use Rattle.model.specs.Bytes.{part}
use Rattle.model.specs.Table.{Form, form128}
use Rattle.model.specs.Partition.{owner, installer, View, whole, shared_by, bytes_in}
use Rattle.model.specs.CurrentValue.{Shown, nothing, in_table, in_command, is_shown, shifted, place_in, current_value_in, current_value}
use Rattle.slice.proofs.Equal.{never}
use Rattle.separation.proofs.Parts.{part-take}
use Rattle.separation.proofs.Reading.{shown-by-part}
use Rattle.current.specs.Shows.{Shows}
use Rattle.current.proofs.Inside.{Inside}
use Rattle.partition.specs.Parts.{start_in, IsPart}
use Rattle.partition.proofs.Parts.{part_bytes}

-- ---- the place

unshifted : (s : Shown) → s ≡ shifted 0 s
unshifted nothing = refl
unshifted (in_table a n) = ap (λ (m : ℕ). in_table m n) (sym (zero-add a))
unshifted (in_command a n) = refl

placed : (f : Form) (v : View) (s : Shown) → place_in f v s ≡ shifted (start_in f v) s
placed f whole s = unshifted s
placed f (shared_by owner n) s = unshifted s
placed f (shared_by installer n) s = refl

pub shown-shifted : (v : View) (t : List ℕ) {a e : ℕ} → IsPart form128 v t a e → (time : ℕ) (c : List ℕ)
    → current_value_in form128 v t time c ≡ shifted a (current_value form128 (part a (e - a) t) time c)
shown-shifted v t i time c =
    shown-by-part form128 v t i.tests time c
    ∙ (placed form128 v (current_value form128 (bytes_in form128 v t) time c)
    ∙ (λ j. shifted (sym i.start j) (current_value form128 (sym (part_bytes form128 v t i) j) time c)))

-- ---- the bytes

-- k bytes from a on, and n bytes of those from x on
part-of-part : (a k x n : ℕ) (t : List ℕ) → x + n ≤ length (part a k t) → part x n (part a k t) ≡ part (a + x) n t
part-of-part a k x n t h = part-take k x n (drop a t) (omega (arith, h, length-take k (drop a t))) ∙ ap (take n) (drop-drop x a t)

-- ---- what is given back

pub shows-at : {t c r : Bor (List ℕ)} {told : Bool} {s x : Shown} → x ≡ s → Shows t c s r told → Shows t c x r told
shows-at {t} {c} {r} {told} e h = subst (λ (y : Shown). Shows t c y r told) (sym e) h

-- p are the k bytes of t from a on
pub shows-table : {t c p r : Bor (List ℕ)} {told : Bool} (a k : ℕ) → p.now ≡ part a k t.now → p.ref_ptr ≡ (t.ref_ptr.0, a + t.ref_ptr.1) → (time : ℕ) (s : Shown) → Inside p.now time c.now s
    → told ≡ true → Shows p c s r told → Shows t c (shifted a s) r told
shows-table a k e q time nothing h t1 z = never _ t1 z.shown
shows-table {t} {c} {p} {r} a k e q time (in_table x n) h t1 z =
    let behind : x + (a + t.ref_ptr.1) ≡ a + x + t.ref_ptr.1 = omega arith in
    record {
      bytes = z.bytes ∙ (ap (part x n) e ∙ part-of-part a k x n t.now (rw (sym e) h));
      place = z.place ∙ ((λ j. ((q j).0, x + (q j).1)) ∙ ap (λ (m : ℕ). (t.ref_ptr.0, m)) behind);
      shown = z.shown;
    }
shows-table a k e q time (in_command x n) h t1 z = record { bytes = z.bytes; place = z.place; shown = z.shown }

-- a value that is not shown is none
pub hidden : (a : ℕ) (s : Shown) → is_shown s ≡ false → shifted a s ≡ nothing
hidden a nothing e = refl
hidden a (in_table x n) e = never true refl e
hidden a (in_command x n) e = never true refl e
