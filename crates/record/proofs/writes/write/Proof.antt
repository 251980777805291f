-- `record::write` meets its contract: head, key and value are written side by side over all bytes.
use mathlib.Core.Path.{◌≡◌, ap, ◌∙◌}
use mathlib.Core.List.{List}
use Prim.Native.Nat.{ℕ, ◌+◌, ◌-◌, ◌≤◌}
use lib.ListN.{length}
use borrow.Rule.Slice.PartMut.{put_mid}
use Rattle.model.specs.Bytes.{part, padded, written}
use Rattle.model.specs.Table.{Form, Record, record_size, record_bytes}
use Rattle.slice.proofs.Written.{length-padded, length-written, fill-back}
use Rattle.record.specs.Forms.{form_of}
use Rattle.record.specs.Attributes.{record_with}
use Rattle.record.proofs.Forms.{lawful-form}
use Rattle.record.proofs.Pieces.{rest_size, head_of, length-head}
use Rattle.record.proofs.Changing.{record-written}
use native.Mathlib.Omega.{arith}
use borrow.Author.Rules.{rules}
use Rattle.record.proofs.writes.write.Statement.{statement}
use Rattle.record.proofs.writes.write.Tie as tie

-- the head leaves the length
length-headed : (f : Form) (r : Record) (b h : List ℕ) → length b ≡ record_size f → h ≡ written 0 (head_of f (length r.value) r) b → length h ≡ record_size f
length-headed f r b h size e =
    let fits : 0 + length (head_of f (length r.value) r) ≤ length b = rw length-head (omega arith) in
    ap length e ∙ length-written 0 (head_of f (length r.value) r) b fits ∙ size

-- the part of the key comes back filled
key-filled : (f : Form) (r : Record) (b h k : List ℕ) → length b ≡ record_size f → length r.key ≤ 24 → h ≡ written 0 (head_of f (length r.value) r) b
    → k ≡ padded (length (part 24 24 h)) r.key → put_mid 24 24 h k ≡ written 24 (padded 24 r.key) h
key-filled f r b h k size hk eh ek = fill-back 24 24 h r.key k (omega (arith, length-headed f r b h size eh)) hk ek

-- h after the head was written, k the part of the key as it comes back filled, v after the value was written
filled : (f : Form) (r : Record) (b h k v : List ℕ) → length b ≡ record_size f → length r.key ≤ 24 → length r.value ≤ f.value_limit
    → h ≡ written 0 (head_of f (length r.value) r) b → k ≡ padded (length (part 24 24 h)) r.key
    → v ≡ written 48 (padded (record_size f - 48) r.value) (put_mid 24 24 h k) → v ≡ record_bytes f r
filled f r b h k v size hk hv eh ek ev =
    let rest : record_size f - 48 ≡ rest_size f = omega arith in
    ev
    ∙ ap (λ (n : ℕ). written 48 (padded n r.value) (put_mid 24 24 h k)) rest
    ∙ ap (written 48 (padded (rest_size f) r.value)) (key-filled f r b h k size hk eh ek ∙ ap (written 24 (padded 24 r.key)) eh)
    ∙ record-written f r hk b size hv

-- the record that is written, and the bytes once its head is
abbrev given : tie.Start → Record
given s = let a = s.args in record_with a.key.now a.value.now a.attributes

head-told : (c : tie.After-write_head)
    → let s = c.before.before.before.before.before.before in
    c.write_head.new.r ≡ written 0 (head_of (form_of s.args.form) (length s.args.value.now) (given s)) s.args.r.now
head-told c = rw (← c.mark.ensures) c.write_head.ensures

-- the head and the key leave the length
write-value-requires : tie.Need-write_value-requires
write-value-requires c κs =
    let first = c.before.before.before in
    let headed = first.before.before.before.before in
    let s = headed.before.before.before.before.before.before in
    let f = form_of s.args.form in
    let r = given s in
    let h = headed.write_head.new.r in
    let told = head-told headed in
    let n = length-headed f r s.args.r.now h s.requires.0 told in (
      ap length (key-filled f r s.args.r.now h first.fill.new.buf s.requires.0 s.requires.1 told first.fill.ensures)
          ∙ length-written 24 (padded 24 r.key) h (omega (arith, length-padded 24 r.key s.requires.1))
          ∙ n,
      s.requires.2,
    )

returns : tie.Need-returns
returns c =
    let second = c.before.before in
    let first = second.before.before.before.before in
    let headed = first.before.before.before.before in
    let s = headed.before.before.before.before.before.before in
    filled (form_of s.args.form) (given s) s.args.r.now headed.write_head.new.r first.fill.new.buf second.write_value.new.r s.requires.0 s.requires.1 s.requires.2
    (head-told headed) first.fill.ensures second.write_value.ensures

pub write_spec : {M : Type 1} → statement M
write_spec =
    tie.close
    (tie.spec
    (λ c. search rules)
    (λ c. omega (arith, (lawful-form c.args.form).most))
    (λ c κs. search rules) (λ c κs. search rules) (λ c. search rules) (λ c. search rules) (λ c. search rules) (λ c κs. search rules)
    write-value-requires (λ c. search rules) returns)
