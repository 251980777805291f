-- `record::set_attributes` meets its contract: the bytes of a record with the attributes written over are those of the record with the new ones.
use mathlib.Core.Path.{sym, ap, ◌∙◌}
use Rattle.model.specs.Bytes.{written}
use Rattle.model.specs.Table.{flags_at, fields}
use Rattle.record.specs.Attributes.{attribute_bytes}
use Rattle.record.proofs.Reading.{in-use-record}
use Rattle.record.proofs.Changing.{attributes-written}
use borrow.Author.Rules.{rules}
use Rattle.record.proofs.writes.set_attributes.Statement.{statement}
use Rattle.record.proofs.writes.set_attributes.Tie as tie

returns : tie.Need-returns
returns c =
    λ f u.
    let a = c.args in
    c.put_attributes.ensures
    ∙ ap (written flags_at (attribute_bytes a.attributes)) (sym (in-use-record f a.r.now u).bytes)
    ∙ attributes-written f a.attributes (fields a.r.now)

pub set_attributes_spec : {M : Type 1} → statement M
set_attributes_spec =
    tie.close
    (tie.spec
    (λ c κs. search rules) (λ c. search rules) returns)
