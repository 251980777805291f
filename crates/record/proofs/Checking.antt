-- Whether bytes are a record in use, by tests of bytes 0 to 23 and of the zeros after key and value.
use mathlib.Core.Path.{◌≡◌, sym, ap, ◌∙◌, subst}
use mathlib.Core.Bool.{Bool, true, false, ◌&&◌, not-eq-not}
use mathlib.Core.List.{List, [], ◌∷◌, ◌++◌}
use Prim.Native.Nat.{ℕ, ◌+◌, ◌-◌, ◌^◌, ◌≤◌, ◌<◌}
use native.Mathlib.Omega.{arith}
use lib.ListN.{length, get_or, drop, replicate}
use lib.Seq.{drop_at, take_all}
use borrow.Author.Tests.{ltb-true, leb-true, eqb-true, le-leb, lt-ltb, eq-eqb}
use Rattle.model.specs.Bytes.{same, part, padded}
use Rattle.model.specs.Table.{Form, record_size, record_bytes, fields, is_record}
use Rattle.model.proofs.Basics.{every}
use Rattle.model.proofs.Records.{InRange}
use Rattle.slice.specs.Zeros.{zeros_from}
use Rattle.slice.proofs.Equal.{never, and_left, and_right, test-eq, same_true, same_refl}
use Rattle.slice.proofs.Written.{length_part, part-add, part-is-bytes, bytes_from}
use Rattle.slice.proofs.LittleEndian.{Bytes, little_endian-part, part-bound}
use Rattle.record.specs.Attributes.{attribute_bytes}
use Rattle.record.specs.Record.{InUseOf, head, head_rules, is_head}
use Rattle.record.proofs.Pieces.{rest_size, head_of, pieces, part-key, part-value}
use Rattle.record.proofs.Reading.{IsRecord, is_record-true, is-is_record, first-used, in-use-record}

-- ---- zeros after a text

module _ (at n k : ℕ) (b : List ℕ) (fits : at + n ≤ length b) (h : k ≤ n) where
  length-text : length (part at k b) ≡ k
  length-text = length_part at k b (omega arith)

  split : part at n b ≡ part at k b ++ part (at + k) (n - k) b
  split =
      let e : k + (n - k) ≡ n = omega arith in
      ap (λ (m : ℕ). part at m b) (sym e) ∙ part-add at k (n - k) b

  tail-is : drop k (part at n b) ≡ part (at + k) (n - k) b
  tail-is = ap (drop k) split ∙ drop_at (part at k b) _ k length-text

  -- zeros after k bytes: the part is these k, padded
  zeros_from-rest : zeros_from k (part at n b) ≡ same (part (at + k) (n - k) b) (replicate (n - k) 0)
  zeros_from-rest = rw (tail-is, length_part (at + k) (n - k) b (omega arith))

  pub zeros-padded : zeros_from k (part at n b) ≡ true → part at n b ≡ padded n (part at k b)
  zeros-padded z =
      let zeros = same_true (part (at + k) (n - k) b) (replicate (n - k) 0) (sym zeros_from-rest ∙ z) in
      split ∙ rw (zeros, length-text)

  pub padded-zeros : part at n b ≡ padded n (part at k b) → zeros_from k (part at n b) ≡ true
  padded-zeros e =
      let l = length-text in
      let zeros : part (at + k) (n - k) b ≡ replicate (n - length (part at k b)) 0 =
      sym tail-is ∙ ap (drop k) e ∙ drop_at (part at k b) _ k l in
      zeros_from-rest ∙ rw (zeros, l) (same_refl (replicate (n - k) 0))

-- ---- the tests of a record in use

-- whether the bytes after the key and after the value are zeros
abbrev pub key_padded : List ℕ → Bool
key_padded b = zeros_from (get_or b 1 0) (part 24 24 b)

abbrev pub value_padded : List ℕ → Bool
value_padded b = zeros_from (get_or b 2 0) (part 48 (length b - 48) b)

pub record HeadIs (f : Form) (b : List ℕ) : Type 0 where
  pub first : get_or b 0 0 ≡ 1
  pub key-from : 1 ≤ get_or b 1 0
  pub key-to : get_or b 1 0 ≤ 24
  pub value-to : get_or b 2 0 ≤ f.value_limit
  pub mark : get_or b 3 0 ≡ f.mark
  pub version-to : (fields b).version < 2 ^ 63
  pub expiry-to : (fields b).expiry ≤ 2 ^ 62

module _ (f : Form) where
  pub is_head-true : (b : List ℕ) → is_head f b ≡ true → HeadIs f b
  unfolding is_head
  is_head-true b h =
      let p = every (head_rules f b) h in
      record {
        first = eqb-true _ _ p.0;
        key-from = leb-true _ _ p.1.0;
        key-to = leb-true _ _ p.1.1.0;
        value-to = leb-true _ _ p.1.1.1.0;
        mark = eqb-true _ _ p.1.1.1.1.0;
        version-to = ltb-true _ _ p.1.1.1.1.1.0;
        expiry-to = leb-true _ _ p.1.1.1.1.1.1.0;
      }

  is-is_head : (b : List ℕ) → HeadIs f b → is_head f b ≡ true
  unfolding is_head
  is-is_head b h =
      rw (
        eq-eqb (get_or b 0 0) 1 h.first,
        le-leb 1 (get_or b 1 0) h.key-from,
        le-leb (get_or b 1 0) 24 h.key-to,
        le-leb (get_or b 2 0) f.value_limit h.value-to,
        eq-eqb (get_or b 3 0) f.mark h.mark,
        lt-ltb (fields b).version (2 ^ 63) h.version-to,
        le-leb (fields b).expiry (2 ^ 62) h.expiry-to,
      )

  -- what the bytes of a record in use are at its places
  module _ (b : List ℕ) (h : IsRecord f b) where
    pub key-length : get_or b 1 0 ≡ length (fields b).key
    unfolding record_bytes
    key-length = ap (λ (l : List ℕ). get_or l 1 0) (sym h.bytes)

    pub value-length : get_or b 2 0 ≡ length (fields b).value
    unfolding record_bytes
    value-length = ap (λ (l : List ℕ). get_or l 2 0) (sym h.bytes)

    mark-is : get_or b 3 0 ≡ f.mark
    unfolding record_bytes
    mark-is = ap (λ (l : List ℕ). get_or l 3 0) (sym h.bytes)

    pub head-is : HeadIs f b
    head-is = record {
      first = first-used f b h;
      key-from = omega (arith, key-length, h.kept.key-from);
      key-to = omega (arith, key-length, h.kept.key-to);
      value-to = omega (arith, value-length, h.kept.value-to);
      mark = mark-is;
      version-to = h.kept.version-to;
      expiry-to = h.kept.expiry-to;
    }

    key-part : part 24 24 b ≡ padded 24 (fields b).key
    key-part = ap (part 24 24) (sym h.bytes) ∙ part-key f (fields b) h.kept.key-to

    value-part : part 48 (rest_size f) b ≡ padded (rest_size f) (fields b).value
    value-part = ap (part 48 (rest_size f)) (sym h.bytes) ∙ part-value f (fields b) h.kept

  module _ (b : List ℕ) (size : length b ≡ record_size f) where
    rest-is : length b - 48 ≡ rest_size f
    rest-is = omega arith

    -- the tests from left to right
    forward : IsRecord f b → key_padded b && value_padded b ≡ true
    forward h =
        let hd = head-is b h in
        let v : part 48 (length b - 48) b ≡ padded (length b - 48) (fields b).value =
        subst (λ (n : ℕ). part 48 n b ≡ padded n (fields b).value) (sym rest-is) (value-part b h) in
        rw (padded-zeros 24 24 (get_or b 1 0) b (omega arith) hd.key-to (key-part b h), padded-zeros 48 (length b - 48) (get_or b 2 0) b (omega arith) (omega (arith, hd.value-to)) v)

    module _ (known : Bytes b) (hd : HeadIs f b) where
      length-key : length (fields b).key ≡ get_or b 1 0
      length-key = length_part 24 (get_or b 1 0) b (omega (arith, hd.key-to))

      length-value : length (fields b).value ≡ get_or b 2 0
      length-value = length_part 48 (get_or b 2 0) b (omega (arith, hd.value-to))

      range-is : InRange f (fields b)
      range-is = record {
        key-from = omega (arith, length-key, hd.key-from);
        key-to = omega (arith, length-key, hd.key-to);
        value-to = omega (arith, length-value, hd.value-to);
        flags-to = part-bound 4 4 b known (omega arith);
        version-to = hd.version-to;
        expiry-to = hd.expiry-to;
      }

      first-four : 1 ∷ length (fields b).key ∷ length (fields b).value ∷ f.mark ∷ [] ≡ part 0 4 b
      unfolding bytes_from
      first-four = sym (part-is-bytes 4 b 0 (omega arith) ∙ rw (length-key, length-value, hd.first, hd.mark))

      head-part : head_of f (length (fields b).value) (fields b) ≡ part 0 24 b
      unfolding head attribute_bytes
      head-part =
          rw (part-add 0 4 20 b, part-add 4 4 16 b, part-add 8 8 8 b, ← first-four, little_endian-part 4 4 b known (omega arith), little_endian-part 8 8 b known (omega arith), little_endian-part 16 8 b known (omega arith))

      whole : (part 0 24 b ++ part 24 24 b) ++ part 48 (rest_size f) b ≡ b
      whole =
          ap (λ (l : List ℕ). l ++ part 48 (rest_size f) b) (sym (part-add 0 24 24 b)) ∙ sym (part-add 0 48 (rest_size f) b) ∙ take_all (48 + rest_size f) b (omega arith)

      backward : key_padded b && value_padded b ≡ true → IsRecord f b
      backward z =
          let k = zeros-padded 24 24 (get_or b 1 0) b (omega arith) hd.key-to (and_left (key_padded b) (value_padded b) z) in
          let w = zeros-padded 48 (length b - 48) (get_or b 2 0) b (omega arith) (omega (arith, hd.value-to)) (and_right (key_padded b) (value_padded b) z) in
          let v : part 48 (rest_size f) b ≡ padded (rest_size f) (fields b).value =
          subst (λ (n : ℕ). part 48 n b ≡ padded n (fields b).value) rest-is w in
          record { kept = range-is; bytes = rw (pieces f (fields b) range-is.value-to, head-part, ← k, ← v) whole }

      pub is_record-padded : is_record f b ≡ key_padded b && value_padded b
      is_record-padded = test-eq _ _ (λ e. forward (is_record-true f b e)) (λ z. is-is_record f b (backward z))

  -- bytes 0 to 23 alone refuse it
  pub is_record-head : (b : List ℕ) → is_head f b ≡ false → is_record f b ≡ false
  is_record-head b n = not-eq-not.0 (λ e. never (is_head f b) (is-is_head b (head-is b (is_record-true f b e))) n)

  pub in-use-head : (b : List ℕ) → InUseOf f b → HeadIs f b
  in-use-head b h = head-is b (in-use-record f b h)

  pub in-use-key : (b : List ℕ) → InUseOf f b → part 24 24 b ≡ padded 24 (fields b).key
  in-use-key b h = key-part b (in-use-record f b h)
