-- Nothing is shown where there is no such party or the part is refused; else what the part shows as a table of its own, behind the part's start.
use Rattle.std.proofs.Common.{◌≡◌, ◌∙◌, ◌-◌, ℕ, List, refl, sym, ap, drop, arith}
use mathlib.Core.Option.{Option, some}
use lib.ListN.{length-take}
use Rattle.model.specs.Bytes.{part}
use Rattle.model.specs.Table.{form128}
use Rattle.model.specs.Partition.{View}
use Rattle.model.specs.CurrentValue.{Shown, shifted, current_value}
use Rattle.separation.proofs.Reading.{shown-refused}
use Rattle.current.proofs.Inside.{inside}
use Rattle.partition.specs.Parts.{model_view, IsPart}
use Rattle.shared.proofs.Places.{shown-shifted}
use Rattle.pietrunel.specs.Views.{value_by}
use Rattle.pietrunel.proofs.Showing.{located-at, located-moved, located-kept, start-within}
use Rattle.pietrunel.proofs.pietrunel_shared_current_value.Goals as goal

-- what the numbers show, where they name a view or none
named : (t : List ℕ) (time : ℕ) (c : List ℕ) {o p : Option View} → o ≡ p → value_by o t time c ≡ value_by p t time c
named t time c e = ap (λ (o : Option View). value_by o t time c) e

-- what the part shows
abbrev own : (t : List ℕ) (time : ℕ) (c : List ℕ) (a e : ℕ) → Shown
own t time c a e = current_value form128 (part a (e - a) t) time c

moved : (t : List ℕ) (time : ℕ) (c : List ℕ) (v : View) (o : Option View) {a e : ℕ} → IsPart form128 v t a e → value_by (some v) t time c ≡ value_by o t time c
    → shifted a (own t time c a e) ≡ value_by o t time c
moved t time c v o i n = sym (shown-shifted v t i time c) ∙ n

pub returns-in_default-part_in : goal.returns-in_default-part_in
returns-in_default-part_in c =
    let a = c.args in
    located-at
    (sym (shown-refused form128 (model_view c.in-Some.view) a.table.now c.in_default-part_in.ensures a.time a.command.now)
    ∙ named a.table.now a.time a.command.now c.in-Some.ensures)
    (record { shown = refl; in-command = refl; start = refl; length = refl })

pub overflow_add-start : goal.overflow_add-start
overflow_add-start c =
    let a = c.args in
    let p = c.in-Ok.part in
    let b = part p.start (p.end - p.start) a.table.now in
    let low =
    start-within p.start b a.time a.command.now (own a.table.now a.time a.command.now p.start p.end) c.pietrunel_current_value-shown.ensures c.if-in_table.true
    (inside b a.time a.command.now) in
    let i = c.in-Ok.ensures in
    record { fits = omega (arith, low, length-take (p.end - p.start) (drop p.start a.table.now), i.low, i.high) }

pub returns-then-in_table : goal.returns-then-in_table
returns-then-in_table c =
    let a = c.args in
    let p = c.in-Ok.part in
    located-at
    (moved a.table.now a.time a.command.now (model_view c.in-Some.view) _ c.in-Ok.ensures (named a.table.now a.time a.command.now c.in-Some.ensures))
    (located-moved p.start (own a.table.now a.time a.command.now p.start p.end) c.pietrunel_current_value-shown.ensures c.if-in_table.true)

pub returns-else-in_table : goal.returns-else-in_table
returns-else-in_table c =
    let a = c.args in
    let p = c.in-Ok.part in
    located-at
    (moved a.table.now a.time a.command.now (model_view c.in-Some.view) _ c.in-Ok.ensures (named a.table.now a.time a.command.now c.in-Some.ensures))
    (located-kept p.start (own a.table.now a.time a.command.now p.start p.end) c.pietrunel_current_value-shown.ensures c.if-in_table.false)
