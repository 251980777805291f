-- A part of a table is a table: a call on a part of a table without faults does to that part's bytes what the same call does to them as a
-- table of their own, and the rest stays. A table with faults refuses every call of either party by one number.
use mathlib.Core.Path.{◌≡◌, refl, sym, ap, ◌∙◌}
use mathlib.Core.Bool.{Bool, true, false, ◌&&◌}
use mathlib.Core.List.{List}
use mathlib.Core.Option.{Option, none, some}
use Prim.Native.Nat.{ℕ, ◌*◌, ◌≤◌}
use native.Mathlib.Nat.{mul-le-mul_right}
use native.Mathlib.Omega.{arith}
use lib.ListN.{length, take, drop, set, length-set}
use lib.Dec.{leb, ltb}
use borrow.Author.Tests.{leb-true, ltb-true, le-leb, lt-ltb}
use Rattle.model.specs.Checked.{refuse, ok}
use Rattle.model.specs.Table.{Form, Slot, record_size, table_bytes, read_table, distinct}
use Rattle.model.specs.Parse.{word_at}
use Rattle.model.specs.Call.{Outcome, untouched, call, with_rest, call_in}
use Rattle.model.specs.Partition.{Party, owner, installer, other, shared_by, side, with_side, partition}
use Rattle.model.specs.Gate.{good_part, good_table, gate}
use Rattle.model.proofs.Basics.{and_left, and_right, some-eq}
use Rattle.model.proofs.Records.{Kept}
use Rattle.model.proofs.Tables.{table_bytes-read_table, read_table-table_bytes, length-table_bytes}
use Rattle.model.proofs.Replies.{Roomy}
use Rattle.model.proofs.Calls.{Good, call-cases, good-set}
use Rattle.separation.specs.Separation.{Faultless}
use Rattle.separation.proofs.Reading.{call-by-part, partition-bytes, part-reads}
use Rattle.separation.proofs.Parts.{side-with_side, other-with_side, length-with_side, both-sides, all-side, all-with_side, table_bytes-with_side}

-- ---- a table has faults or none

-- the number by which a table with faults refuses every call, whoever makes it
pub record Faulty (f : Form) (n : ℕ) (t : List ℕ) : Type 0 where
  pub number : ℕ
  pub least : 1 ≤ number
  pub most : number ≤ 18
  pub refused : (p : Party) → good_part f (shared_by p n) t ≡ refuse number

module _ (f : Form) (n : ℕ) (t : List ℕ) where
  pub by-faults : (X : Type 0) → (Faultless f n t → X) → (Faulty f n t → X) → X
  by-faults X good bad = reads (read_table f t) refl
    where
      keys : (ss : List Slot) → read_table f t ≡ some ss → leb 1 n && ltb n (length ss) ≡ true → (b : Bool) → distinct (take n ss) && distinct (drop n ss) ≡ b → X
      keys ss e h true d = good (record {
        slots = ss;
        read = e;
        least = leb-true 1 n (and_left (leb 1 n) (ltb n (length ss)) h);
        most = omega (arith, ltb-true n (length ss) (and_right (leb 1 n) (ltb n (length ss)) h));
        keys = within;
      })
        where
          within : (p : Party) → distinct (side p n ss) ≡ true
          within owner = and_left (distinct (take n ss)) (distinct (drop n ss)) d
          within installer = and_right (distinct (take n ss)) (distinct (drop n ss)) d
      keys ss e h false d = bad (record { number = 1; least = omega arith; most = omega arith; refused = λ p. rw (e, h, d) })

      boundary : (ss : List Slot) → read_table f t ≡ some ss → (b : Bool) → leb 1 n && ltb n (length ss) ≡ b → X
      boundary ss e true h = keys ss e h (distinct (take n ss) && distinct (drop n ss)) refl
      boundary ss e false h = bad (record { number = 18; least = omega arith; most = omega arith; refused = λ p. rw (e, h) })

      reads : (o : Option (List Slot)) → read_table f t ≡ o → X
      reads none e = bad (record { number = 1; least = omega arith; most = omega arith; refused = λ p. rw e })
      reads (some ss) e = boundary ss e (leb 1 n && ltb n (length ss)) refl

  -- a table with faults stays as it is
  pub call_in-faulty : (z : Faulty f n t) (p : Party) (now : ℕ) (c b : List ℕ) → call_in f (shared_by p n) t now c b ≡ untouched z.number t b
  unfolding call_in gate
  call_in-faulty z p now c b = rw (z.refused p)

-- ---- a party's part of a table without faults

module _ (f : Form) (n : ℕ) (t : List ℕ) (z : Faultless f n t) where
  -- its first tests come to the slots of the part
  pub good_part-slots : (p : Party) → good_part f (shared_by p n) t ≡ ok (side p n z.slots)
  good_part-slots p = rw (z.read, le-leb 1 n z.least, lt-ltb n (length z.slots) z.most, z.keys owner, z.keys installer)

  -- the part is a good table of its own
  pub part-good : (p : Party) → Good f (partition f p n t) (side p n z.slots)
  part-good p = record { read = part-reads f n t z.slots z.read z.least z.most p; keys = z.keys p }

  -- the boundary lies within the bytes
  pub boundary-within : n * record_size f ≤ length t
  boundary-within =
      let w = table_bytes-read_table f t z.slots z.read in
      let size : length t ≡ length z.slots * record_size f = ap length (sym w.bytes) ∙ length-table_bytes f z.slots w.kept in
      omega (arith, mul-le-mul_right {m = n} {n = length z.slots} (record_size f) (omega (arith, z.most)))

  -- so the first tests come to those of the part
  pub tests-of-part : (p : Party) → good_part f (shared_by p n) t ≡ good_table f (partition f p n t)
  tests-of-part p = good_part-slots p ∙ rw ((part-good p).read, z.keys p)

  -- what a call does to the part, as a table of its own, it does to the part in the table
  pub call-on-part : (p : Party) (now : ℕ) (c b : List ℕ) → call_in f (shared_by p n) t now c b ≡ with_rest f (shared_by p n) t (call f (partition f p n t) now c b)
  call-on-part p = call-by-part f (shared_by p n) t (tests-of-part p)

-- ---- after a call

-- a good table stays good, with as many slots
call-slots : (f : Form) → Roomy f → (t : List ℕ) (now : ℕ) (c b : List ℕ) (ss : List Slot) → Good f t ss
    → (new : List Slot) × Good f (call f t now c b).table new × (length new ≡ length ss)
call-slots f w t now c b ss g =
    call-cases f t now c b (λ o. (new : List Slot) × Good f o.table new × (length new ≡ length ss)) (λ n e. (ss, g, refl)) w
    (λ n l. (ss, g, refl)) (λ r h. (ss, g, refl))
    λ ss2 g2 ws e j s r h hr. (
      set ss2 j s,
      good-set f w t now c b ss2 g2 (word_at 1 ws) j s h,
      length-set ss2 j s ∙ ap length (some-eq (sym g2.read ∙ g.read)),
    )

module _ (f : Form) (w : Roomy f) (n : ℕ) (t : List ℕ) (z : Faultless f n t) (p : Party) (now : ℕ) (c b : List ℕ) where
  abbrev after : List ℕ
  after = (call f (partition f p n t) now c b).table

  slots-after : (new : List Slot) × Good f after new × (length new ≡ length (side p n z.slots))
  slots-after = call-slots f w (partition f p n t) now c b (side p n z.slots) (part-good f n t z p)

  -- the part keeps its length
  length-after : length after ≡ length (partition f p n t)
  length-after =
      let new = slots-after.0 in
      let h = table_bytes-read_table f after new slots-after.1.read in
      let old = all-side (Kept f) p n z.slots (table_bytes-read_table f t z.slots z.read).kept in
      ap length (sym h.bytes)
      ∙ (length-table_bytes f new h.kept
      ∙ (ap (λ (m : ℕ). m * record_size f) slots-after.2
      ∙ (sym (length-table_bytes f (side p n z.slots) old) ∙ ap length (partition-bytes f n t z.slots z.read z.least z.most p))))

  -- the caller's part afterwards is the part as a table of its own afterwards
  pub own-after : partition f p n (call_in f (shared_by p n) t now c b).table ≡ after
  own-after =
      ap (λ (o : Outcome). partition f p n o.table) (call-on-part f n t z p now c b)
      ∙ side-with_side p (n * record_size f) after t (boundary-within f n t z) length-after

  -- the other party's part stays
  pub other_after : partition f (other p) n (call_in f (shared_by p n) t now c b).table ≡ partition f (other p) n t
  other_after =
      ap (λ (o : Outcome). partition f (other p) n o.table) (call-on-part f n t z p now c b)
      ∙ other-with_side p (n * record_size f) after t (boundary-within f n t z) length-after

  -- the table stays without faults
  pub faultless-after : Faultless f n (call_in f (shared_by p n) t now c b).table
  faultless-after =
      let new = slots-after.0 in
      let ss = z.slots in
      let h = table_bytes-read_table f after new slots-after.1.read in
      let o = table_bytes-read_table f t z.slots z.read in
      let fits : n ≤ length ss = omega (arith, z.most) in
      let count : length (with_side p n new ss) ≡ length ss = length-with_side p n new ss fits slots-after.2 in
      let bytes : table_bytes f (with_side p n new ss) ≡ (call_in f (shared_by p n) t now c b).table =
      table_bytes-with_side f p n new ss o.kept
      ∙ ((λ i. with_side p (n * record_size f) (h.bytes i) (o.bytes i)) ∙ ap (λ (o : Outcome). o.table) (sym (call-on-part f n t z p now c b))) in
      record {
        slots = with_side p n new ss;
        read = ap (read_table f) (sym bytes)
            ∙ read_table-table_bytes f (with_side p n new ss) (all-with_side (Kept f) p n new ss h.kept o.kept) (omega (arith, o.least)) (omega (arith, o.most));
        least = z.least;
        most = omega (arith, z.most);
        keys = λ q. both-sides (λ x. distinct x ≡ true) p q n new ss fits slots-after.2 slots-after.1.keys (z.keys (other p));
      }
