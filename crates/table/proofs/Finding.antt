-- What the answers of this crate say of the model's search, and of a table after a write: for the crates above.
use Prim.Native.Nat.{ℕ}
use mathlib.Core.Path.{◌≡◌, refl, sym, ap, subst, ◌∙◌}
use mathlib.Core.Bool.{cond}
use mathlib.Core.List.{List, []}
use mathlib.Core.Option.{Option, none, some, get_or, map}
use lib.ListN.{set}
use Rattle.model.specs.Optional.{is_some}
use Rattle.model.specs.Table.{Form, Slot, Record, read_table}
use Rattle.model.specs.Search.{live, Placed, find_key, live_at, expired_at, absent, lookup_of, lookup}
use Rattle.model.proofs.Basics.{none-some, map-some}
use Rattle.model.proofs.Records.{Kept}
use Rattle.model.proofs.Tables.{read_table-set}
use Rattle.model.proofs.Search.{find-hit}
use Rattle.table.specs.Slots.{Reads, slots_of, key_slot, record_in, InUseAt, with_slot}
use Rattle.table.proofs.Records.{table_of}
use Rattle.table.proofs.Parts.{record-in, in-use-at}

-- ---- the slots of a table that was read

pub slots-are : (f : Form) (t : List ℕ) (ss : List Slot) → read_table f t ≡ some ss → slots_of f t ≡ ss
unfolding slots_of
slots-are f t ss e = ap (λ (o : Option (List Slot)). get_or o []) e

pub reads : (f : Form) (t : List ℕ) (ss : List Slot) → read_table f t ≡ some ss → Reads f t
reads f t ss e = ap is_some e

-- ---- the search for a key

-- the record with the key k is in use at slot i
pub record FoundAt (f : Form) (t k : List ℕ) (i : ℕ) : Type 0 where
  pub found : find_key k (slots_of f t) ≡ some (record { at = i; rec = record_in f t i })
  pub in_use : InUseAt f t i
  pub key : (record_in f t i).key ≡ k

pub found_at : (f : Form) (t k : List ℕ) (i : ℕ) → some i ≡ key_slot k (slots_of f t) → FoundAt f t k i
found_at f t k i e =
    let m = map-some (λ (p : Placed). p.at) (find_key k (slots_of f t)) i (sym e) in
    let p = m.0 in
    let hit = find-hit k (slots_of f t) p m.1 in
    let is = record-in f t p.at p.rec hit.there in
    subst (FoundAt f t k) m.2
    (record {
      found = m.1 ∙ ap (λ (r : Record). some (record { at = p.at; rec = r })) (sym is);
      in_use = in-use-at f t p.at p.rec hit.there;
      key = ap (λ (r : Record). r.key) is ∙ hit.key;
    })

pub found_none : (k : List ℕ) (ss : List Slot) → none ≡ key_slot k ss → find_key k ss ≡ none
found_none k ss e = by (find_key k ss) e
  where
    by : (o : Option Placed) → none ≡ map (λ (p : Placed). p.at) o → o ≡ none
    by none h = refl
    by (some p) h = none-some p.at h

pub lookup-found : (f : Form) (t : List ℕ) (time : ℕ) (k : List ℕ) (i : ℕ) → some i ≡ key_slot k (slots_of f t)
    → lookup time k (slots_of f t) ≡ cond (live time (record_in f t i)) (live_at (record { at = i; rec = record_in f t i })) (expired_at i)
unfolding lookup
lookup-found f t time k i e = ap (lookup_of time) (found_at f t k i e).found

pub lookup-none : (time : ℕ) (k : List ℕ) (ss : List Slot) → none ≡ key_slot k ss → lookup time k ss ≡ absent
unfolding lookup
lookup-none time k ss e = ap (lookup_of time) (found_none k ss e)

-- ---- a table with a slot replaced

module _ (f : Form) (t : List ℕ) (ok : Reads f t) (i : ℕ) (s : Slot) (k : Kept f s) where
  pub with_slot-read : read_table f (with_slot f t i s) ≡ some (set (slots_of f t) i s)
  with_slot-read = read_table-set f t (slots_of f t) i s (table_of f t ok) k
