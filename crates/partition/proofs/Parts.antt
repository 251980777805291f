-- What the tests of the code say of the model's first tests, and the bytes between the places of a part.
use Prim.Native.Nat.{ℕ, ◌+◌, ◌-◌, ◌*◌, ◌/◌, ◌≤◌}
use native.Mathlib.Nat.{sub-zero}
use native.Mathlib.Omega.{arith}
use mathlib.Core.Path.{◌≡◌, refl, sym, ap, ◌∙◌}
use mathlib.Core.Bool.{Bool, true, false, cond, ◌&&◌}
use mathlib.Core.List.{List, [], ◌∷◌, ◌++◌, append-nil}
use mathlib.Core.Option.{Option, none, some, get_or}
use lib.ListN.{length, take, drop, length-drop, drop_of_length-le}
use lib.Seq.{take_all, drop-drop}
use borrow.Rule.Slice.PartMut.{put_mid}
use lib.Dec.{leb, ltb}
use Rattle.model.specs.Bytes.{all, part}
use Rattle.model.specs.Checked.{Checked, refuse, ◌>>◌}
use Rattle.model.specs.Optional.{is_some, ◌>>=◌}
use Rattle.model.specs.Table.{Form, form128, Slot, empty, used, record_size, size_rules, read_slot, read_table, distinct}
use Rattle.model.specs.Partition.{Party, owner, installer, other, View, whole, shared_by, partition, bytes_in, with_bytes}
use Rattle.model.specs.Gate.{good_part, good_table}
use Rattle.model.proofs.Basics.{never}
use Rattle.table.specs.Slots.{slots_of}
use Rattle.table.proofs.Records.{slots-of, count-is}
use Rattle.integrity.specs.Check.{faultless}
use Rattle.integrity.proofs.Passing.{wrong-length}
use Rattle.integrity.proofs.Verdict.{good-slots, not_good}
use Rattle.separation.proofs.Reading.{within-bytes, by_parts}
use Rattle.std.specs.Prelude.{Ok, Err}
use Rattle.outcome.specs.declared.Refusal.TheVariants.{Damaged}
use Rattle.partition.specs.declared.Part.{Part}
use Rattle.partition.specs.Parts.{IsCut, start_in, end_in, IsPart, FindsBy}

-- ---- the tests

module _ (f : Form) (n : ℕ) (t : List ℕ) where
  pub unread-refused : is_some (read_table f t) ≡ false → (p : Party) → good_part f (shared_by p n) t ≡ refuse 1
  unread-refused h p = rw (go (read_table f t) h)
    where
      go : (o : Option (List Slot)) → is_some o ≡ false → o ≡ none
      go none e = refl
      go (some ss) e = never false (sym e) refl

  pub wrong_size : all (size_rules f t) ≡ false → (p : Party) → good_part f (shared_by p n) t ≡ refuse 1
  wrong_size h = unread-refused (wrong-length f t h)

  pub bad-boundary : is_some (read_table f t) ≡ true → leb 1 n && ltb n (length t / record_size f) ≡ false → (p : Party) → good_part f (shared_by p n) t ≡ refuse 18
  bad-boundary reads h p = let e = ap (λ (m : ℕ). leb 1 n && ltb n m) (sym (count-is f t reads)) ∙ h in rw (slots-of f t reads, e)

  module _ {a : ℕ} (c : IsCut f n t a) where
    pub place-within : a ≤ length t
    place-within = omega (arith, c.place, within-bytes f n t c.size c.least c.most)

    module _ (p : Party) where
      -- the tests that are left, by whether the other part is good
      abbrev left : Checked (List Slot) → Checked (List Slot)
      left x = x >> good_table f (partition f p n t)

      pub other-good : faultless f (partition f (other p) n t) ≡ true → good_part f (shared_by p n) t ≡ good_table f (partition f p n t)
      other-good h = by_parts f n t c.size c.least c.most p ∙ ap left (good-slots f (partition f (other p) n t) h)

      pub other-bad : faultless f (partition f (other p) n t) ≡ false → good_part f (shared_by p n) t ≡ refuse 1
      other-bad h = by_parts f n t c.size c.least c.most p ∙ ap left (not_good f (partition f (other p) n t) h)

-- what the test of the other part gives
module _ (f : Form) (n : ℕ) (t : List ℕ) {a : ℕ} (c : IsCut f n t a) (p : Party) (q : Part) where
  pub found-beside : (s : List ℕ) → s ≡ partition f (other p) n t → q.start ≡ start_in f (shared_by p n) → q.end ≡ end_in f (shared_by p n) t
      → q.start ≤ q.end → q.end ≤ length t → FindsBy f (shared_by p n) t (cond (faultless f s) (Ok q) (Err Damaged))
  found-beside s e first end low high = go (faultless f s) refl
    where
      go : (b : Bool) → faultless f s ≡ b → FindsBy f (shared_by p n) t (cond b (Ok q) (Err Damaged))
      go true h = record { start = first; end = end; low = low; high = high; tests = other-good f n t c p (ap (faultless f) (sym e) ∙ h) }
      go false h = other-bad f n t c p (ap (faultless f) (sym e) ∙ h)

-- a record as a table of its own
pub record-alone : (b : List ℕ) → length b ≡ 128 → faultless form128 b ≡ is_some (read_slot form128 b)
unfolding read_table slots_of distinct
record-alone b h = rw (h, take_all 128 b (omega (arith, h))) (go (read_slot form128 b))
  where
    go : (o : Option Slot) → is_some (o >>= λ s. some (s ∷ [])) && distinct (get_or (o >>= λ s. some (s ∷ [])) []) ≡ is_some o
    go none = refl
    go (some empty) = refl
    go (some (used r)) = refl

-- ---- the bytes

-- all bytes from a place on
pub to_end : (a : ℕ) (t : List ℕ) → take (length t - a) (drop a t) ≡ drop a t
to_end a t = take_all (length t - a) (drop a t) (omega (arith, length-drop a t))

-- the bytes between the places of a part are the view's
pub part_bytes : (f : Form) (v : View) (t : List ℕ) {a e : ℕ} → IsPart f v t a e → part a (e - a) t ≡ bytes_in f v t
part_bytes f v t i = (λ j. part (i.start j) (i.end j - i.start j) t) ∙ go v
  where
    go : (v : View) → part (start_in f v) (end_in f v t - start_in f v) t ≡ bytes_in f v t
    go whole = rw (sub-zero (length t)) (take_all (length t) t (omega arith))
    go (shared_by owner n) = rw (sub-zero (n * record_size f))
    go (shared_by installer n) = to_end (n * record_size f) t

-- with other bytes there the table is the view's
pub part-put : (f : Form) (v : View) (t : List ℕ) {a e : ℕ} → IsPart f v t a e → (new : List ℕ) → put_mid a (e - a) t new ≡ with_bytes f v new t
part-put f v t {a} {e} i new =
    let end : a + (e - a) ≡ e = omega (arith, i.low) in
    ap (λ (x : List ℕ). take a t ++ (new ++ x)) (drop-drop (e - a) a t ∙ ap (λ (m : ℕ). drop m t) end)
    ∙ ((λ j. take (i.start j) t ++ (new ++ drop (i.end j) t)) ∙ go v)
  where
    none-behind : new ++ drop (length t) t ≡ new
    none-behind = ap (λ (x : List ℕ). new ++ x) (drop_of_length-le t {i = length t} (omega arith)) ∙ append-nil new

    go : (v : View) → take (start_in f v) t ++ (new ++ drop (end_in f v t) t) ≡ with_bytes f v new t
    go whole = none-behind
    go (shared_by owner n) = refl
    go (shared_by installer n) = ap (λ (x : List ℕ). take (n * record_size f) t ++ x) none-behind
