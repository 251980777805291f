-- `difference::step` meets its contract: by which table has the next key, the line is written that the step passes.
use native.Mathlib.Omega.{arith}
use mathlib.Core.Path.{◌≡◌, sym, ap, ◌∙◌, subst}
use mathlib.Core.List.{[], ◌∷◌}
use lib.ListN.{length}
use borrow.Author.Rules.{rules}
use Rattle.model.specs.Table.{Record, fields}
use Rattle.model.specs.Difference.{removed, added, lines_bytes}
use Rattle.std.proofs.Common.{Ordering}
use Rattle.std.proofs.Common.{Less, Equal, Greater}
use Rattle.difference.specs.Lines.{fields_of, line_bytes, change_lines}
use Rattle.slice.proofs.Pieces.{wrote_as}
use Rattle.difference.proofs.Texts.{removed-line, added-line}
use Rattle.difference.proofs.Stepping.{record_along}
use Rattle.difference.proofs.Walking.{Next, next-passes, step_room}
use Rattle.difference.proofs.walk.step.Statement.{statement}
use Rattle.difference.proofs.walk.step.Tie as tie

-- what the step passes, by the answer of `next_key`
abbrev Passed : tie.Start → Ordering → Type 0
Passed s = let a = s.args in Next a.before.now a.first.now a.after.now a.second.now a.walk.first a.walk.second

-- the records at the two places
abbrev first_record : tie.Start → Record
first_record s = let a = s.args in record_along a.before.now a.first.now a.walk.first

abbrev second_record : tie.Start → Record
second_record s = let a = s.args in record_along a.after.now a.second.now a.walk.second

told : (c : tie.After-next_key) → Passed c.before.before.before.before.before.before c.next_key.result
told c =
    let s = c.before.before.before.before.before.before in
    let h = s.requires in
    subst (Passed s) (sym c.next_key.ensures) (next-passes h.0.0 h.0.1 _ _ h.1.0.first h.1.0.second h.1.1)

-- ---- a key in the first table alone

earlier : (c : tie.In-Less) → Passed c.before.before.before.before.before.before.before Less
earlier c = let n = c.before in subst (Passed n.before.before.before.before.before.before) c.in-Less.is (told n)

removes : (c : tie.After-no_field)
    → let s = c.before.before.before.before.before.before.before.before.before.before.before.before in
    line_bytes 45 c.key-key.result.now (fields_of c.no_field.result) ≡ lines_bytes (removed (first_record s).key ∷ [])
removes c =
    let key-is = c.key-key.ensures ∙ ap (λ (r : Record). r.key) c.record_at.ensures.is in
    (λ x. line_bytes 45 (key-is x) (c.no_field.ensures x)) ∙ sym (removed-line _)

put-line-requires : tie.Need-put_line-requires
put-line-requires c κs =
    let t = c.before.before.before.before.before in
    omega (arith, ap length (removes c), step_room t.requires.1.0 (earlier t))

returns : tie.Need-returns-in-Less
returns c =
    record { lines = _; passes = earlier c.before.before.before.before.before.before.before.before; wrote = wrote_as (removes c.before.before.before) c.put_line.ensures }

-- ---- a key in the second table alone

later : (c : tie.In-Greater) → Passed c.before.before.before.before.before.before.before Greater
later c = let n = c.before in subst (Passed n.before.before.before.before.before.before) c.in-Greater.is (told n)

adds : (c : tie.After-no_field-in-Greater)
    → let s = c.before.before.before.before.before.before.before.before.before.before.before.before in
    line_bytes 43 c.key-key-in-Greater.result.now (fields_of c.no_field-in-Greater.result) ≡ lines_bytes (added (second_record s).key ∷ [])
adds c =
    let key-is = c.key-key-in-Greater.ensures ∙ ap (λ (r : Record). r.key) c.record_at-in-Greater.ensures.is in
    (λ x. line_bytes 43 (key-is x) (c.no_field-in-Greater.ensures x)) ∙ sym (added-line _)

put-line-requires-2 : tie.Need-put_line-requires-in-Greater
put-line-requires-2 c κs =
    let t = c.before.before.before.before.before in
    omega (arith, ap length (adds c), step_room t.requires.1.0 (later t))

returns-2 : tie.Need-returns-in-Greater
returns-2 c =
    record { lines = _; passes = later c.before.before.before.before.before.before.before.before; wrote = wrote_as (adds c.before.before.before) c.put_line-in-Greater.ensures }

-- ---- a key in both tables

both : (c : tie.In-Equal) → Passed c.before.before.before.before.before.before.before Equal
both c = let n = c.before in subst (Passed n.before.before.before.before.before.before) c.in-Equal.is (told n)

changes : (c : tie.After-record_at-q)
    → let s = c.before.before.before.before.before.before.before.before.before in
    change_lines (fields c.record_at-r.result.now) (fields c.record_at-q.result.now)
    ≡ change_lines (first_record s) (second_record s)
changes c = λ x. change_lines (c.record_at-r.ensures.is x) (c.record_at-q.ensures.is x)

put-change-requires : tie.Need-put_change-requires
put-change-requires c κs =
    let q = c.before.before.before in
    let t = q.before.before in
    let room = step_room t.requires.1.0 (both t) in
    ((q.record_at-r.ensures.in_use, q.record_at-q.ensures.in_use), rw (changes q) room)

returns-3 : tie.Need-returns-in-Equal
returns-3 c =
    let q = c.before.before.before.before.before.before in
    record { lines = _; passes = both q.before.before; wrote = wrote_as (ap lines_bytes (changes q)) c.put_change.ensures }

pub step_spec : {M : Type 1} → statement M
step_spec =
    tie.close
    (tie.spec
    (λ c κs. search rules)
    (λ c. search rules)
    (λ c κs. (c.requires.0.0, omega (arith, (earlier c).first)))
    (λ c κs. search rules)
    (λ c. search rules)
    (λ c κs. search rules)
    put-line-requires
    (λ c. search rules)
    (λ c κs. (c.requires.0.1, omega (arith, (later c).second)))
    (λ c κs. search rules)
    (λ c. search rules)
    (λ c κs. search rules)
    put-line-requires-2
    (λ c. search rules)
    (λ c κs. (c.requires.0.0, omega (arith, (both c).first)))
    (λ c κs. (c.requires.0.1, omega (arith, (both c.before).second)))
    (λ c. search rules)
    (λ c. search rules)
    put-change-requires
    (λ c. search rules)
    returns
    (λ c. search rules)
    returns-2
    (λ c. search rules)
    returns-3)
