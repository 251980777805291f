-- `difference::put_change` meets its contract: the line is written if a field differs.
use mathlib.Core.Path.{◌≡◌, sym, ap, ◌∙◌}
use borrow.Author.Rules.{rules}
use Rattle.model.specs.Table.{fields}
use Rattle.model.specs.Difference.{fields_apart, lines_bytes}
use Rattle.difference.specs.Lines.{fields_of, is_none, line_bytes, change_lines}
use Rattle.difference.proofs.Texts.{no_change, one-change}
use Rattle.slice.proofs.Pieces.{wrote_nothing}
use Rattle.difference.proofs.line.put_change.Statement.{statement}
use Rattle.difference.proofs.line.put_change.Tie as tie

-- what the test told
told : (c : tie.After-is_none) → let a = c.args in
    is_none (fields_apart (fields a.r.now) (fields a.q.now)) ≡ c.is_none.result
told c = sym (c.is_none.ensures ∙ ap is_none c.fields_apart-d.ensures)

-- the line that is due is the one that is written
line-is : (c : tie.After-key) → let a = c.args in
    lines_bytes (change_lines (fields a.r.now) (fields a.q.now)) ≡ line_bytes 126 c.key.result.now (fields_of c.fields_apart-d.result)
line-is c =
    let a = c.args in
    one-change (fields a.r.now).key (fields_apart (fields a.r.now) (fields a.q.now)) (told c.before.before.before ∙ c.if-is_none.false)
    ∙ λ i. line_bytes 126 (sym c.key.ensures i) (sym c.fields_apart-d.ensures i)

returns : tie.Need-returns-then-is_none
returns c =
    let a = c.args in
    rw (no_change (fields a.r.now).key (fields_apart (fields a.r.now) (fields a.q.now)) (told c.before ∙ c.if-is_none.true))
    (wrote_nothing a.at a.out.now)

put-line-requires : tie.Need-put_line-requires
put-line-requires c κs = rw (line-is c) at c.requires.1

returns-2 : tie.Need-returns
returns-2 c = rw (line-is c.before.before.before) c.put_line.ensures

pub put_change_spec : {M : Type 1} → statement M
put_change_spec =
    tie.close
    (tie.spec
    (λ c κs. search rules)
    (λ c κs. search rules)
    returns
    (λ c κs. search rules)
    put-line-requires
    (λ c. search rules)
    returns-2)
