-- What storing a value leaves, as the model has it.
use Rattle.std.specs.Prelude.{ℕ, ◌≡◌, Bool, true, false, List, Result}
use Rattle.std.proofs.Math.Option.{Option, map}
use Rattle.outcome.specs.declared.Refusal.{Refusal}
use Rattle.outcome.specs.Outcome.{checked}
use Rattle.model.specs.Checked.{Checked, refuse, ok, ◌>>=◌}
use Rattle.model.specs.Table.{Form, Record, used}
use Rattle.model.specs.Search.{Placed, live_record}
use Rattle.model.specs.Command.{Expire, End, back, front, Terms}
use Rattle.model.specs.Execute.{flags_after, expiry_after, put}
use Rattle.record.specs.declared.Attributes.{Attributes}
use Rattle.table.specs.Slots.{with_slot}
use Rattle.live.specs.declared.Lookup.{Lookup}
use Rattle.live.specs.declared.Target.{Target}
use Rattle.live.specs.Under.{stored_in, shape_of, lookup_in, slot_in}

-- the attributes of a record that is written with the version n
abbrev pub attributes_after : Lookup → (n : ℕ) → Expire → (flags : Option ℕ) → Attributes
attributes_after l n e g = record { flags = flags_after g (stored_in l); version = n; expiry = expiry_after e (stored_in l) }

-- whether a text is joined at the front
abbrev pub is_front : End → Bool
is_front back = false
is_front front = true

-- the live record's value
abbrev pub value_in : (t : List ℕ) → Target → Option (List ℕ)
value_in t g = map (λ (r : Record). r.value) (live_record (lookup_in t g))

-- the record that the text v makes under the key k, and its slot
abbrev pub put_in : (t : List ℕ) → Target → (k : List ℕ) → Terms → (flags : Option ℕ) → (v : List ℕ) → Checked Placed
put_in t g k = put (shape_of g) k (lookup_in t g) (slot_in t g)

-- the table after a record is put into it; a refusal leaves it
abbrev pub table_after : Form → (t : List ℕ) → Checked Placed → List ℕ
table_after f t (refuse n) = t
table_after f t (ok p) = with_slot f t p.at (used p.rec)

-- the answer r and the table, from t to `after`, are those of x
pub record Puts (f : Form) (t after : List ℕ) (r : Result ℕ Refusal) (x : Checked Placed) : Type 0 where
  pub stored : checked (λ n. n) r ≡ (x >>= λ (p : Placed). ok p.rec.version)
  pub table : after ≡ table_after f t x
