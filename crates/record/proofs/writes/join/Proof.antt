-- `record::join` meets its contract. The part from the value on comes back with the bytes joined to the value, and one law does the rest.
use mathlib.Core.Path.{◌∙◌}
use Prim.Native.Nat.{◌+◌, ◌-◌, ◌≤◌}
use lib.ListN.{length, get_or, length-set}
use borrow.Rule.Slice.PartMut.{same_len_mid}
use Rattle.model.specs.Table.{fields}
use Rattle.slice.proofs.Written.{length_part}
use Rattle.record.proofs.Reading.{in-use-record}
use Rattle.record.proofs.Checking.{value-length}
use Rattle.record.proofs.Changing.{joined-fits, joined-written}
use native.Mathlib.Omega.{arith}
use borrow.Author.Rules.{rules}
use Rattle.record.proofs.writes.join.Statement.{statement}
use Rattle.record.proofs.writes.join.Tie as tie

-- the lengths of the value, as byte 2 has it, and of what is joined to it
abbrev fits : (s : tie.Start) → (get_or s.args.r.now 2 0 + length s.args.s.now ≤ 128) × (48 + (get_or s.args.r.now 2 0 + length s.args.s.now) + 16 ≤ length s.args.r.now)
fits s = joined-fits s.args.r.now s.args.s.now s.requires.0 s.requires.1

join-text-requires : tie.Need-join_text-requires
join-text-requires c κs =
    let s = c.before.before.before.before in
    let h = fits s in
    omega (arith, h.0, h.1, length_part 48 (length s.args.r.now - 48) s.args.r.now (omega (arith, h.1)))

put-attributes-requires : tie.Need-put_attributes-requires
put-attributes-requires c κs =
    let joined = c.before.before.before in
    let s = joined.before.before.before.before.before in
    let b = s.args.r.now in
    let h = fits s in
    simp length-set (omega (arith, h.1, same_len_mid 48 (length b - 48) b joined.join_text.new.buf joined.join_text.auto.buf))

same_length : tie.Need-shape_of-r
same_length c =
    let put = c.before.before in
    let joined = put.before.before.before.before in
    let b = joined.args.r.now in
    (simp length-set at put.put_attributes.auto.r) ∙ same_len_mid 48 (length b - 48) b joined.join_text.new.buf joined.join_text.auto.buf

returns : tie.Need-returns
returns c =
    λ f u.
    let put = c.before.before in
    let joined = put.before.before.before.before in
    let s = joined.before.before.before.before.before in
    let b = s.args.r.now in
    let h = in-use-record f b u in
    put.put_attributes.ensures
    ∙ joined-written f (fields b) h.kept s.args.front s.args.attributes b (get_or b 2 0) s.args.s.now joined.join_text.new.buf
    (omega (arith, u.size)) h.bytes (value-length f b h) (omega (arith, u.size, s.requires.1)) joined.join_text.ensures

pub join_spec : {M : Type 1} → statement M
join_spec =
    tie.close
    (tie.spec
    (λ c. search rules)
    (λ c. let h = fits c.before.before.before in omega (arith, h.0, h.1))
    (λ c. search rules) (λ c. search rules) (λ c. search rules) join-text-requires
    (λ c. let h = fits c.before.before.before.before.before.before.before in omega (arith, h.0, h.1))
    (λ c. let h = fits c.before.before.before.before.before.before.before in omega (arith, h.0, h.1))
    (λ c. search rules) put-attributes-requires same_length returns)
