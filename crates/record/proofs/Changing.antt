-- What writes to a record's bytes make of them: the bytes of the record with a field changed.
use mathlib.Core.Path.{◌≡◌, refl, sym, ap, ◌∙◌, subst}
use mathlib.Core.Bool.{Bool, true, false}
use mathlib.Core.List.{List, ◌++◌, append-nil}
use Prim.Native.Nat.{ℕ, ◌+◌, ◌-◌, ◌≤◌}
use native.Mathlib.Nat.{zero-add}
use native.Mathlib.Omega.{arith}
use lib.ListN.{length, get_or, take, drop, set, replicate, length-append, drop_of_length-le}
use lib.Seq.{take-append_seam, drop-append-add}
use borrow.Rule.Slice.PartMut.{put_mid}
use Rattle.model.specs.Bytes.{part, padded, written, little_endian}
use Rattle.model.specs.Table.{Form, Record, record_size, record_bytes, flags_at}
use Rattle.model.proofs.Records.{InRange}
use Rattle.slice.proofs.Written.{length-padded, part-back, fill-back, written_next, written_all, written-append, drop-replicate}
use Rattle.record.specs.declared.Attributes.{Attributes}
use Rattle.record.specs.Attributes.{record_with, with_attributes, joined_text, joined_record, attribute_bytes}
use Rattle.record.specs.Record.{InUse, Fits, head}
use Rattle.record.proofs.Reading.{in-use-record}
use Rattle.record.proofs.Checking.{value-length}
use Rattle.record.proofs.Pieces.{rest_size, head_of, front, length-head, length_front, pieces, part-value}

pub attributes-written : (f : Form) (a : Attributes) (r : Record) → written flags_at (attribute_bytes a) (record_bytes f r) ≡ record_bytes f (with_attributes a r)
unfolding record_bytes attribute_bytes little_endian
attributes-written f a r = refl

-- what is borrowed from place a on comes back with k bytes
pub rest_back : (a k : ℕ) (s r : List ℕ) → length s ≡ a + k → length r ≡ k → put_mid a (length s - a) s r ≡ written a r s
rest_back a k s r n e =
    let m : length s - a ≡ a + k - a = omega arith in
    ap (λ (x : ℕ). put_mid a x s r) m ∙ part-back a k s r e

-- and comes back filled with the text t
pub rest-filled : (a k : ℕ) (s t p : List ℕ) → length s ≡ a + k → length t ≤ k → p ≡ padded (length (part a (length s - a) s)) t
    → put_mid a (length s - a) s p ≡ written a (padded k t) s
rest-filled a k s t p n h e =
    let m : a + k - a ≡ length s - a = omega arith in
    subst (λ (x : ℕ). p ≡ padded (length (part a x s)) t → put_mid a x s p ≡ written a (padded k t) s) m (fill-back a k s t p (omega arith) h) e

-- there is room for s: the lengths of the value, as byte 2 has it, and of s
pub joined-fits : (b s : List ℕ) → InUse b → Fits b s → (get_or b 2 0 + length s ≤ 128) × (48 + (get_or b 2 0 + length s) + 16 ≤ length b)
joined-fits b s u h =
    let v = value-length u.form b (in-use-record u.form b u.is) in
    (omega (arith, v, u.is.size, u.lawful.most), omega (arith, v))

pub length-joined : (front : Bool) (s v : List ℕ) → length (joined_text front s v) ≡ length v + length s
length-joined true s v = omega (arith, length-append s v)
length-joined false s v = length-append v s

-- a longer text over the text v and the zeros after it
padded-over : (size : ℕ) (u v : List ℕ) → length v ≤ length u → written 0 u (padded size v) ≡ padded size u
padded-over size u v h =
    let k = length u - length v in
    let e : length u ≡ length v + k = omega arith in
    let m : size - length v - k ≡ size - length u = omega arith in
    let zeros : drop (length u) (padded size v) ≡ replicate (size - length u) 0 =
    ap (λ (n : ℕ). drop n (padded size v)) e ∙ drop-append-add v (replicate (size - length v) 0) k ∙ drop-replicate k (size - length v) 0 ∙ ap (λ (n : ℕ). replicate n 0) m in
    ap (λ (l : List ℕ). u ++ l) (ap (λ (n : ℕ). drop n (padded size v)) (zero-add (length u)) ∙ zeros)

module _ (f : Form) (r : Record) (hk : length r.key ≤ 24) where
  abbrev size : ℕ
  size = rest_size f

  -- head, key and value written one after the other over all bytes
  pub record-written : (b : List ℕ) → length b ≡ record_size f → length r.value ≤ f.value_limit
      → written 48 (padded size r.value) (written 24 (padded 24 r.key) (written 0 (head_of f (length r.value) r) b))
      ≡ record_bytes f r
  record-written b nb hv =
      let q = front f (length r.value) r in
      let n : length (q ++ padded size r.value) ≡ length b =
      length-append q _ ∙ omega (arith, length_front f (length r.value) r hk, length-padded size r.value (omega arith)) in
      ap (written 48 (padded size r.value)) (written_next (head_of f (length r.value) r) (padded 24 r.key) b 24 (length-head _ _ _ _))
      ∙ written_next q (padded size r.value) b 48 (length_front f (length r.value) r hk)
      ∙ written_all (q ++ padded size r.value) b n
      ∙ sym (pieces f r hv)

  -- byte 2 is the value's length, and the attributes stand after byte 3
  head-set : (v n : ℕ) (a : Attributes) (s : List ℕ) → written flags_at (attribute_bytes a) (set (front f v r ++ s) 2 n) ≡ front f n (with_attributes a r) ++ s
  unfolding head attribute_bytes little_endian
  head-set v n a s = refl

  -- the text u in place of the value
  pub text-written : (b u : List ℕ) (a : Attributes) → length r.value ≤ f.value_limit → length u ≤ f.value_limit → b ≡ record_bytes f r
      → written flags_at (attribute_bytes a) (set (written 48 (padded size u) b) 2 (length u)) ≡ record_bytes f (record_with r.key u a)
  text-written b u a hv hu eb =
      let q = front f (length r.value) r in
      let p = padded size r.value in
      let room : length p ≤ length (padded size u) = omega (arith, length-padded size r.value (omega arith), length-padded size u (omega arith)) in
      let w : written 48 (padded size u) b ≡ q ++ padded size u =
      ap (written 48 (padded size u)) (eb ∙ pieces f r hv) ∙ written-append q p (padded size u) 48 (length_front f (length r.value) r hk)
      ∙ rw (drop_of_length-le p room, append-nil (padded size u)) in
      rw w (head-set (length r.value) (length u) a (padded size u) ∙ sym (pieces f (record_with r.key u a) hu))

-- the part from the value on comes back with the text s joined to the value
pub joined-written : (f : Form) (r : Record) → InRange f r → (front : Bool) (a : Attributes) (b : List ℕ) (n : ℕ) (s text : List ℕ)
    → length b ≡ 48 + rest_size f → record_bytes f r ≡ b → n ≡ length r.value → length r.value + length s ≤ f.value_limit
    → text ≡ written 0 (joined_text front s (take n (part 48 (length b - 48) b))) (part 48 (length b - 48) b)
    → written flags_at (attribute_bytes a) (set (put_mid 48 (length b - 48) b text) 2 (n + length s)) ≡ record_bytes f (joined_record front s a r)
joined-written f r h front a b n s text size eb en fits e =
    let u = joined_text front s r.value in
    let lu : length u ≡ length r.value + length s = length-joined front s r.value in
    let k : length b - 48 ≡ rest_size f = omega arith in
    let p : part 48 (length b - 48) b ≡ padded (rest_size f) r.value = ap (λ (m : ℕ). part 48 m b) k ∙ ap (part 48 (rest_size f)) (sym eb) ∙ part-value f r h in
    let v : take n (padded (rest_size f) r.value) ≡ r.value = ap (λ (m : ℕ). take m (padded (rest_size f) r.value)) en ∙ take-append_seam r.value _ in
    let t : text ≡ padded (rest_size f) u = e ∙ rw (p, v) (padded-over (rest_size f) u r.value (omega arith)) in
    let lt : length text ≡ rest_size f = ap length t ∙ length-padded (rest_size f) u (omega arith) in
    let m : n + length s ≡ length u = omega arith in
    rw (rest_back 48 (rest_size f) b text size lt, m, t) (text-written f r h.key-to b u a h.value-to (omega arith) (sym eb))
