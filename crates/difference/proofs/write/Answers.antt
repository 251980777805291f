-- A table that is not good is told by its number, and two good ones by their lines.
use Rattle.std.proofs.Common.{refl, sym, ◌∙◌, arith}
use Rattle.model.specs.Table.{form128}
use Rattle.integrity.proofs.Verdict.{good-table}
use Rattle.difference.proofs.Reporting.{first-bad, second-bad, both-good}
use Rattle.difference.proofs.write.Goals as goal

pub returns-then-not-is_good : goal.returns-then-not-is_good
returns-then-not-is_good c =
    rw (first-bad c.args.before.now c.args.after.now (sym c.is_good.ensures ∙ c.if-not-is_good.true))
    (record { place = refl; bytes = c.copy.ensures })

pub returns-then-not-is_good-2 : goal.returns-then-not-is_good-2
returns-then-not-is_good-2 c =
    rw (second-bad c.args.before.now c.args.after.now (sym c.is_good.ensures ∙ c.if-not-is_good.false) (sym c.is_good-2.ensures ∙ c.if-not-is_good-2.true))
    (record { place = refl; bytes = c.copy-then-not-is_good-2.ensures })

pub write_between-requires : goal.write_between-requires
write_between-requires c =
    let first = good-table form128 c.args.before.now (sym c.is_good.ensures ∙ c.if-not-is_good.false) in
    let second = good-table form128 c.args.after.now (sym c.is_good-2.ensures ∙ c.if-not-is_good-2.false) in
    record { good = (first, second); in_bounds = (omega arith, omega arith, c.requires) }

pub returns : goal.returns
returns c =
    let first = sym c.is_good.ensures ∙ c.if-not-is_good.false in
    let second = sym c.is_good-2.ensures ∙ c.if-not-is_good-2.false in
    rw (both-good c.args.before.now c.args.after.now first second) c.write_between.ensures
