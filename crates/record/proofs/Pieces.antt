-- The bytes of a record piece by piece: 24 of the head, 24 of the key, then the value and the zeros after it.
use mathlib.Core.Path.{◌≡◌, refl, sym, ap, ◌∙◌}
use mathlib.Core.List.{List, ◌++◌, append_assoc}
use Prim.Native.Nat.{ℕ, ◌+◌, ◌-◌, ◌≤◌}
use native.Mathlib.Omega.{arith}
use lib.ListN.{length, take, replicate, length-append, replicate-append-replicate}
use lib.Seq.{take_at, take_all}
use Rattle.model.specs.Bytes.{part, padded, little_endian}
use Rattle.model.specs.Table.{Form, Record, record_bytes, tail_size}
use Rattle.model.proofs.Records.{InRange, drop-value}
use Rattle.slice.proofs.Written.{length-padded}
use Rattle.record.specs.declared.Attributes.{Attributes}
use Rattle.record.specs.Attributes.{attributes_of, attribute_bytes}
use Rattle.record.specs.Record.{head}

padded-more : (m n : ℕ) (s : List ℕ) → length s ≤ m → padded m s ++ replicate n 0 ≡ padded (m + n) s
padded-more m n s h =
    let k : m - length s + n ≡ m + n - length s = omega arith in
    rw (append_assoc s, replicate-append-replicate, k)

pub length-head : (m k v : ℕ) (a : Attributes) → length (head m k v a) ≡ 24
unfolding head attribute_bytes little_endian
length-head m k v a = refl

module _ (f : Form) where
  -- the bytes from the value on
  abbrev pub rest_size : ℕ
  rest_size = f.value_limit + tail_size

  -- the first 24 and the first 48 bytes of a record whose value has n bytes
  abbrev pub head_of : ℕ → Record → List ℕ
  head_of n r = head f.mark (length r.key) n (attributes_of r)

  abbrev pub front : ℕ → Record → List ℕ
  front n r = head_of n r ++ padded 24 r.key

  pub length_front : (n : ℕ) (r : Record) → length r.key ≤ 24 → length (front n r) ≡ 48
  length_front n r h = rw (length-append, length-head, length-padded 24 r.key h)

  pub pieces : (r : Record) → length r.value ≤ f.value_limit → record_bytes f r ≡ front (length r.value) r ++ padded rest_size r.value
  unfolding record_bytes head attribute_bytes little_endian
  pieces r h = rw (sym (padded-more f.value_limit 16 r.value h))

  pub part-key : (r : Record) → length r.key ≤ 24 → part 24 24 (record_bytes f r) ≡ padded 24 r.key
  unfolding record_bytes little_endian
  part-key r h = take_at (padded 24 r.key) _ 24 (length-padded 24 r.key h)

  pub part-value : (r : Record) → InRange f r → part 48 rest_size (record_bytes f r) ≡ padded rest_size r.value
  part-value r h =
      ap (take rest_size) (drop-value f r h ∙ padded-more f.value_limit 16 r.value h.value-to)
      ∙ take_all rest_size (padded rest_size r.value) (omega (arith, h.value-to, length-padded rest_size r.value (omega (arith, h.value-to))))
