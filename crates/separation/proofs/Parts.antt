-- Sides of a list, and the bytes of a side of the slots.
use mathlib.Core.Path.{◌≡◌, refl, sym, ap, ◌∙◌, subst}
use mathlib.Core.List.{List, [], ◌∷◌, ◌++◌, append_assoc}
use Prim.Native.Nat.{ℕ, zero, suc, ◌+◌, ◌-◌, ◌*◌, ◌≤◌}
use native.Mathlib.Nat.{zero-mul, suc-mul, mul-le-mul_right, add-mul}
use native.Mathlib.Omega.{arith}
use lib.ListN.{length, take, drop, length-append, length-drop, take-append-drop}
use lib.Seq.{take-nil, drop-nil, take_at, drop_at, drop-drop, take-append-add, drop-append-add, length-take-le, take-take}
use Rattle.model.specs.Bytes.{part}
use Rattle.model.specs.Table.{Form, Slot, record_size, slot_bytes, table_bytes, record_at}
use Rattle.model.specs.Partition.{Party, owner, installer, other, side, with_side, partition}
use Rattle.model.proofs.Records.{Kept, length-slot_bytes}
use Rattle.model.proofs.Tables.{All}
use Rattle.separation.specs.SharedHistory.{Within}

-- ---- sides

module _ {A : Type 0} where
  pub with_side-side : (p : Party) (n : ℕ) (l : List A) → with_side p n (side p n l) l ≡ l
  with_side-side owner n l = take-append-drop n l
  with_side-side installer n l = take-append-drop n l

  -- a new side of the old one's length is that side of the new list, and the other side is the old list's
  pub side-with_side : (p : Party) (n : ℕ) (new l : List A) → n ≤ length l → length new ≡ length (side p n l) → side p n (with_side p n new l) ≡ new
  side-with_side owner n new l h e = take_at new (drop n l) n (e ∙ length-take-le n l h)
  side-with_side installer n new l h e = drop_at (take n l) new n (length-take-le n l h)

  pub other-with_side : (p : Party) (n : ℕ) (new l : List A) → n ≤ length l → length new ≡ length (side p n l)
      → side (other p) n (with_side p n new l) ≡ side (other p) n l
  other-with_side owner n new l h e = drop_at new (drop n l) n (e ∙ length-take-le n l h)
  other-with_side installer n new l h e = take_at (take n l) new n (length-take-le n l h)

  pub length-with_side : (p : Party) (n : ℕ) (new l : List A) → n ≤ length l → length new ≡ length (side p n l) → length (with_side p n new l) ≡ length l
  length-with_side owner n new l h e = simp (length-append, length-drop) (omega (arith, e, length-take-le n l h))
  length-with_side installer n new l h e = simp length-append (omega (arith, e, length-take-le n l h, length-drop n l))

  -- what holds of the new side and of the other old one holds of both sides
  pub both-sides : (P : List A → Type 0) (p q : Party) (n : ℕ) (new l : List A) → n ≤ length l → length new ≡ length (side p n l)
      → P new → P (side (other p) n l) → P (side q n (with_side p n new l))
  both-sides P owner owner n new l h e a b = subst P (sym (side-with_side owner n new l h e)) a
  both-sides P owner installer n new l h e a b = subst P (sym (other-with_side owner n new l h e)) b
  both-sides P installer owner n new l h e a b = subst P (sym (other-with_side installer n new l h e)) b
  both-sides P installer installer n new l h e a b = subst P (sym (side-with_side installer n new l h e)) a

-- ---- something of every slot of a side

module _ (P : Slot → Type 0) where
  pub all_take : (n : ℕ) (ss : List Slot) → All P ss → All P (take n ss)
  all_take zero ss h = tt
  all_take (suc n) [] h = tt
  all_take (suc n) (s ∷ ss) h = (h.0, all_take n ss h.1)

  pub all_drop : (n : ℕ) (ss : List Slot) → All P ss → All P (drop n ss)
  all_drop zero ss h = h
  all_drop (suc n) [] h = tt
  all_drop (suc n) (s ∷ ss) h = all_drop n ss h.1

  pub all_append : (xs ys : List Slot) → All P xs → All P ys → All P (xs ++ ys)
  all_append [] ys h g = g
  all_append (x ∷ xs) ys h g = (h.0, all_append xs ys h.1 g)

  pub all-side : (p : Party) (n : ℕ) (ss : List Slot) → All P ss → All P (side p n ss)
  all-side owner n ss h = all_take n ss h
  all-side installer n ss h = all_drop n ss h

  pub all-with_side : (p : Party) (n : ℕ) (new ss : List Slot) → All P new → All P ss → All P (with_side p n new ss)
  all-with_side owner n new ss h g = all_append new (drop n ss) h (all_drop n ss g)
  all-with_side installer n new ss h g = all_append (take n ss) new (all_take n ss g) h

-- bytes within the first m are the same among them
pub part-take : (m a k : ℕ) (t : List ℕ) → a + k ≤ m → part a k (take m t) ≡ part a k t
part-take m zero k t h = take-take k m t (omega arith)
part-take zero (suc a) k t h = absurd (omega arith)
part-take (suc m) (suc a) k [] h = refl
part-take (suc m) (suc a) k (x ∷ t) h = part-take m a k t (omega arith)

-- a record's number in its part
abbrev pub own_number : Party → (boundary i : ℕ) → ℕ
own_number owner n i = i
own_number installer n i = i - n

-- ---- the bytes of a side

module _ (f : Form) where
  pub table_bytes-append : (xs ys : List Slot) → table_bytes f (xs ++ ys) ≡ table_bytes f xs ++ table_bytes f ys
  table_bytes-append [] ys = refl
  table_bytes-append (x ∷ xs) ys = rw (table_bytes-append xs ys) (sym (append_assoc (slot_bytes f x) (table_bytes f xs) (table_bytes f ys)))

  pub table_bytes-take : (n : ℕ) (ss : List Slot) → All (Kept f) ss → table_bytes f (take n ss) ≡ take (n * record_size f) (table_bytes f ss)
  table_bytes-take zero ss h = rw zero-mul
  table_bytes-take (suc n) [] h = sym (take-nil (suc n * record_size f))
  table_bytes-take (suc n) (s ∷ ss) h =
      let b = slot_bytes f s in
      let at : suc n * record_size f ≡ length b + n * record_size f = omega (arith, suc-mul n (record_size f), length-slot_bytes f s h.0) in
      rw (table_bytes-take n ss h.1, at, take-append-add b (table_bytes f ss))

  pub table_bytes-drop : (n : ℕ) (ss : List Slot) → All (Kept f) ss → table_bytes f (drop n ss) ≡ drop (n * record_size f) (table_bytes f ss)
  table_bytes-drop zero ss h = rw zero-mul
  table_bytes-drop (suc n) [] h = sym (drop-nil (suc n * record_size f))
  table_bytes-drop (suc n) (s ∷ ss) h =
      let b = slot_bytes f s in
      let at : suc n * record_size f ≡ length b + n * record_size f = omega (arith, suc-mul n (record_size f), length-slot_bytes f s h.0) in
      table_bytes-drop n ss h.1 ∙ sym (ap (λ (m : ℕ). drop m (b ++ table_bytes f ss)) at ∙ drop-append-add b (table_bytes f ss) (n * record_size f))

  pub table_bytes-side : (p : Party) (n : ℕ) (ss : List Slot) → All (Kept f) ss → table_bytes f (side p n ss) ≡ partition f p n (table_bytes f ss)
  table_bytes-side owner n ss h = table_bytes-take n ss h
  table_bytes-side installer n ss h = table_bytes-drop n ss h

  pub table_bytes-with_side : (p : Party) (n : ℕ) (new ss : List Slot) → All (Kept f) ss
      → table_bytes f (with_side p n new ss) ≡ with_side p (n * record_size f) (table_bytes f new) (table_bytes f ss)
  table_bytes-with_side owner n new ss h = table_bytes-append new (drop n ss) ∙ ap (λ (x : List ℕ). table_bytes f new ++ x) (table_bytes-drop n ss h)
  table_bytes-with_side installer n new ss h = table_bytes-append (take n ss) new ∙ ap (λ (x : List ℕ). x ++ table_bytes f new) (table_bytes-take n ss h)

  -- ---- one record

  -- record i of the table is a record of its party's part, of any bytes
  pub record_at-partition : (p : Party) (n i : ℕ) (t : List ℕ) → Within p n i → record_at f (own_number p n i) (partition f p n t) ≡ record_at f i t
  record_at-partition owner n i t h =
      part-take (n * record_size f) (i * record_size f) (record_size f) t
      (omega (arith, suc-mul i (record_size f), mul-le-mul_right (record_size f) h))
  record_at-partition installer n i t h =
      let at : n * record_size f + (i - n) * record_size f ≡ i * record_size f =
      sym (add-mul n (i - n) (record_size f)) ∙ ap (λ (m : ℕ). m * record_size f) (omega arith) in
      rw (drop-drop ((i - n) * record_size f) (n * record_size f) t, at)
