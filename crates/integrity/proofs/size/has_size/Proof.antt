-- `has_size` meets its contract: whole records, as many as the model counts.
use Prim.Native.Nat.{◌%◌}
use native.Mathlib.Nat.{div-add-mod'}
use native.Mathlib.Omega.{arith}
use mathlib.Core.Path.{◌≡◌, sym}
use mathlib.Core.Bool.{true, and-true}
use lib.Dec.{eqb}
use lib.ListN.{length}
use borrow.Author.Tests.{eq-eqb, ne_eqb, le-leb, lt-leb}
use borrow.Author.Rules.{rules}
use Rattle.model.specs.Table.{record_size}
use Rattle.record.specs.Forms.{form_of}
use Rattle.index.specs.Index.{count_of}
use Rattle.integrity.proofs.Sizes.{whole, not-whole}
use Rattle.integrity.proofs.size.has_size.Statement.{statement}
use Rattle.integrity.proofs.size.has_size.Tie as tie

-- whole records, as many as the model counts
whole-told : (c : tie.Else-n-size) → eqb (length c.args.table.now % record_size (form_of c.args.form)) 0 ≡ true
whole-told c =
    eq-eqb _ _ (whole (form_of c.args.form) (length c.args.table.now) _ _ c.count-n.ensures c.size.ensures c.if-n-size.false)

count-told : (c : tie.Else-n-size) → count_of (form_of c.args.form) c.args.table.now ≡ c.count-n.result
count-told c = sym c.count-n.ensures

mul-if1 : tie.Need-overflow_mul-n
mul-if1 c =
    rw (c.size.ensures, c.count-n.ensures) (record { fits = omega (arith, div-add-mod' (length c.args.table.now) (record_size (form_of c.args.form))) })

returns : tie.Need-returns-then-n-size
returns c =
    rw (ne_eqb _ _ (not-whole (form_of c.args.form) (length c.args.table.now) _ _ c.count-n.ensures c.size.ensures c.if-n-size.true))

returns-2 : tie.Need-returns-then-n-lt1
returns-2 c = rw (whole-told c.before, count-told c.before, lt-leb 1 c.count-n.result (omega arith))

returns-3 : tie.Need-returns
returns-3 c = rw (whole-told c.before, count-told c.before, le-leb 1 c.count-n.result (omega arith)) (sym (and-true _))

pub has_size_spec : {M : Type 1} → statement M
has_size_spec = tie.close (tie.spec (λ c κs. search rules) (λ c κs. search rules) mul-if1 returns returns-2 returns-3)
