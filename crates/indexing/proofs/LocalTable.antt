-- A record of a good table is a good table of one record, and its bytes can be put back, old or new.
use mathlib.Core.Path.{◌≡◌, refl, sym, ap, ◌∙◌, subst}
use mathlib.Core.Bool.{true}
use mathlib.Core.List.{List, [], ◌∷◌, ◌++◌, append-nil}
use mathlib.Core.Option.{some}
use Prim.Native.Nat.{ℕ, zero, suc, ◌+◌, ◌*◌, ◌<◌}
use native.Mathlib.Omega.{arith}
use lib.ListN.{length, take, drop, set, get_elem?, get_or, take-append-drop}
use lib.Seq.{drop-drop}
use Rattle.model.specs.Bytes.{written}
use Rattle.model.specs.Checked.{ok}
use Rattle.model.specs.Table.{Form, Slot, empty, used, record_size, slot_bytes, table_bytes, record_at, read_table, distinct}
use Rattle.model.specs.Gate.{good_table}
use Rattle.model.proofs.Basics.{at-within}
use Rattle.model.proofs.Records.{Kept, length-slot_bytes}
use Rattle.model.proofs.Tables.{all-at, WasTable, table_bytes-read_table, read_table-table_bytes, record_at-table_bytes, table_bytes-set}
use Rattle.model.proofs.Steps.{Comes, Any}
use Rattle.model.proofs.Calls.{Good, good-table}
use Rattle.indexing.specs.Local.{chosen}
use Rattle.indexing.proofs.LocalSearch.{chosen-alone}

pub set_get_d : {A : Type 0} (l : List A) (i : ℕ) (d : A) → set l i (get_or l i d) ≡ l
set_get_d [] i d = refl
set_get_d (x ∷ l) zero d = refl
set_get_d (x ∷ l) (suc i) d = ap (λ (m : List _). x ∷ m) (set_get_d l i d)

one-distinct : (s : Slot) → distinct (s ∷ []) ≡ true
unfolding distinct
one-distinct empty = refl
one-distinct (used r) = refl

module _ (f : Form) (t : List ℕ) (ss : List Slot) (e : good_table f t ≡ ok ss) where
  pub table-good : Good f t ss
  table-good = subst (Comes Any (Good f t)) e (good-table Any f t tt)

  pub table-was : WasTable f t ss
  table-was = table_bytes-read_table f t ss table-good.read

  -- the slot chosen is one of the table's
  pub chosen-within : (now : ℕ) (k : List ℕ) → chosen now ss k < length ss
  chosen-within now k = (chosen-alone now k ss table-was.least).within

  module _ (i : ℕ) (h : i < length ss) where
    here : get_elem? ss i ≡ some (get_or ss i empty)
    here = at-within ss i empty h

    record-kept : Kept f (get_or ss i empty)
    record-kept = all-at (Kept f) ss i (get_or ss i empty) table-was.kept here

    record-bytes : slot_bytes f (get_or ss i empty) ≡ record_at f i t
    record-bytes = sym (record_at-table_bytes f ss i (get_or ss i empty) table-was.kept here) ∙ ap (record_at f i) table-was.bytes

    -- the record is a good table of its own
    pub one-good : Good f (record_at f i t) (get_or ss i empty ∷ [])
    one-good = record {
      read =
          ap (read_table f) (sym (append-nil (slot_bytes f (get_or ss i empty)) ∙ record-bytes))
          ∙ read_table-table_bytes f (get_or ss i empty ∷ []) (record-kept, tt) (omega arith) (omega arith);
      keys = one-distinct (get_or ss i empty);
    }

    pub record-good : good_table f (record_at f i t) ≡ ok (get_or ss i empty ∷ [])
    record-good = rw (one-good.read, one-good.keys)

    -- its own bytes at its place give the table back
    pub record-back : written (i * record_size f) (record_at f i t) t ≡ t
    record-back =
        let size : length (record_at f i t) ≡ record_size f = ap length (sym record-bytes) ∙ length-slot_bytes f (get_or ss i empty) record-kept in
        let rest : drop (i * record_size f + length (record_at f i t)) t ≡ drop (record_size f) (drop (i * record_size f) t) =
        ap (λ (n : ℕ). drop (i * record_size f + n) t) size ∙ sym (drop-drop (record_size f) (i * record_size f) t) in
        ap (λ (x : List ℕ). take (i * record_size f) t ++ (record_at f i t ++ x)) rest
        ∙ (ap (λ (x : List ℕ). take (i * record_size f) t ++ x) (take-append-drop (record_size f) (drop (i * record_size f) t))
        ∙ take-append-drop (i * record_size f) t)

    -- the bytes of a new slot there are those of the table with that slot
    pub record-set : (s : Slot) → Kept f s → table_bytes f (set ss i s) ≡ written (i * record_size f) (table_bytes f (s ∷ [])) t
    record-set s ks =
        table_bytes-set f ss i s table-was.kept h (length-slot_bytes f s ks)
        ∙ (λ j. written (i * record_size f) (sym (append-nil (slot_bytes f s)) j) (table-was.bytes j))
