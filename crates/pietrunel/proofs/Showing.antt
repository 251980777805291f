-- What is said of a value by numbers: of the value that it equals, and of one behind the start of a part.
use Prim.Native.Nat.{ℕ, ◌+◌, ◌≤◌}
use native.Mathlib.Nat.{add_comm}
use native.Mathlib.Omega.{arith}
use mathlib.Core.Path.{◌≡◌, refl, sym, ap, subst, ◌∙◌}
use mathlib.Core.Bool.{Bool, true, false, ◌&&◌, not}
use mathlib.Core.List.{List}
use lib.ListN.{length}
use Rattle.model.specs.CurrentValue.{Shown, nothing, in_table, in_command, is_shown, is_in_command, shifted}
use Rattle.slice.proofs.Equal.{never}
use Rattle.current.proofs.Inside.{Inside}
use Rattle.pietrunel.specs.Located.{Located}

pub located-at : {s x : Shown} → s ≡ x → {told inside : Bool} {from count : ℕ} → Located s told inside from count → Located x told inside from count
located-at e {told} {inside} {from} {count} h = subst (λ (y : Shown). Located y told inside from count) e h

-- whether a value is a part of the table
abbrev in_table_too : Shown → Bool
in_table_too s = is_shown s && not (is_in_command s)

module _ (a : ℕ) {told inside : Bool} {from count : ℕ} where
  in-table : (s : Shown) → Located s told inside from count → told && not inside ≡ in_table_too s
  in-table s h = (λ j. h.shown j && not (h.in-command j))

  -- one in the table is moved
  pub located-moved : (s : Shown) → Located s told inside from count → told && not inside ≡ true → Located (shifted a s) told inside (from + a) count
  located-moved nothing h e = never false (sym (in-table nothing h) ∙ e) refl
  located-moved (in_table x n) h e = record { shown = h.shown; in-command = h.in-command; start = ap (λ (m : ℕ). m + a) h.start ∙ add_comm x a; length = h.length }
  located-moved (in_command x n) h e = never false (sym (in-table (in_command x n) h) ∙ e) refl

  -- others are not
  pub located-kept : (s : Shown) → Located s told inside from count → told && not inside ≡ false → Located (shifted a s) told inside from count
  located-kept nothing h e = record { shown = h.shown; in-command = h.in-command; start = h.start; length = h.length }
  located-kept (in_table x n) h e = never true refl (sym (in-table (in_table x n) h) ∙ e)
  located-kept (in_command x n) h e = record { shown = h.shown; in-command = h.in-command; start = h.start; length = h.length }

  -- and it lies within the table t
  pub start-within : (t : List ℕ) (time : ℕ) (c : List ℕ) (s : Shown) → Located s told inside from count → told && not inside ≡ true → Inside t time c s → from ≤ length t
  start-within t time c nothing h e i = never false (sym (in-table nothing h) ∙ e) refl
  start-within t time c (in_table x n) h e i = omega (arith, h.start, i)
  start-within t time c (in_command x n) h e i = never false (sym (in-table (in_command x n) h) ∙ e) refl
