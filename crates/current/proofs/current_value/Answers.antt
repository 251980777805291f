-- The part that is named lies inside.
use Rattle.std.proofs.Common.{◌≡◌, Bool, ◌∙◌, ◌+◌, ◌-◌, List, ℕ, Some, take, drop, refl, sym, ap, subst, arith}
use native.Mathlib.Nat.{add-sub_cancel_left}
use denote.Ref.{Bor}
use Rattle.model.specs.Table.{form128}
use Rattle.model.specs.CurrentValue.{Shown, current_value}
use Rattle.current.specs.declared.Shown as code
use Rattle.current.specs.Shows.{model_shown, Shows}
use Rattle.current.proofs.Inside.{Inside, inside}
use Rattle.current.proofs.current_value.Goals as goal

-- what was found, by its variant
told : {x y : code.Shown} {s : Shown} → x ≡ y → model_shown (Some x) ≡ s → model_shown (Some y) ≡ s
told e h = ap (λ (x : code.Shown). model_shown (Some x)) (sym e) ∙ h

-- it lies inside
found : (t c : List ℕ) (now : ℕ) {x : Shown} → x ≡ current_value form128 t now c → Inside t now c x
found t c now e = subst (Inside t now c) (sym e) (inside t now c)

-- what is given back, where the current value is x
shows-part : {t c : Bor (List ℕ)} {s x : Shown} → x ≡ s → {r : Bor (List ℕ)} {told : Bool} → Shows t c x r told → Shows t c s r told
shows-part {t} {c} e {r} {told} h = subst (λ (y : Shown). Shows t c y r told) e h

part-is : (a n : ℕ) (s : List ℕ) → take (a + n - a) (drop a s) ≡ take n (drop a s)
part-is a n s = ap (λ (k : ℕ). take k (drop a s)) (add-sub_cancel_left a n)

pub overflow_add-result : goal.overflow_add-result
overflow_add-result c =
    record { fits = omega (arith, found c.args.table.now c.args.command.now c.args.time (told c.in-InCommand.is c.in-Some.ensures)) }

pub slice_bounds-result-end-in-InCommand : goal.slice_bounds-result-end-in-InCommand
slice_bounds-result-end-in-InCommand c = found c.args.table.now c.args.command.now c.args.time (told c.in-InCommand.is c.in-Some.ensures)

pub overflow_add-result-in-InTable : goal.overflow_add-result-in-InTable
overflow_add-result-in-InTable c =
    record { fits = omega (arith, found c.args.table.now c.args.command.now c.args.time (told c.in-InTable.is c.in-Some.ensures)) }

pub slice_bounds-result-end-in-InTable : goal.slice_bounds-result-end-in-InTable
slice_bounds-result-end-in-InTable c = found c.args.table.now c.args.command.now c.args.time (told c.in-InTable.is c.in-Some.ensures)

pub returns-in-InCommand : goal.returns-in-InCommand
returns-in-InCommand c =
    shows-part (told c.in-InCommand.is c.in-Some.ensures)
    (record { bytes = part-is c.in-InCommand.start c.in-InCommand.len _; place = refl; shown = refl })

pub returns-in-InTable : goal.returns-in-InTable
returns-in-InTable c =
    shows-part (told c.in-InTable.is c.in-Some.ensures)
    (record { bytes = part-is c.in-InTable.start c.in-InTable.len _; place = refl; shown = refl })

pub returns-in_default : goal.returns-in_default
returns-in_default c = shows-part c.in_default.ensures (record { bytes = refl; place = refl; shown = refl })
