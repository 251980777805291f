-- Whether a record has a key, as the model has it, and the bytes of that key with the zeros after it.
use Prim.Native.Nat.{ℕ}
use mathlib.Core.Path.{◌≡◌, refl, sym, ap, ◌∙◌}
use mathlib.Core.Bool.{Bool, true, false}
use mathlib.Core.List.{List}
use Rattle.model.specs.Bytes.{same, part, padded}
use Rattle.model.specs.Table.{Form, fields, holds}
use Rattle.slice.proofs.Equal.{and_left, and_right, same_true}
use Rattle.record.specs.Record.{Readable, is_used, as_slot, has_key}
use Rattle.record.proofs.Checking.{in-use-key}
use Rattle.record.proofs.Reading.{used-in-use, slot-unused}

module _ (f : Form) (k r : List ℕ) (ok : Readable f r) where
  pub holds-key : has_key k r ≡ holds k (as_slot f r)
  holds-key = go (is_used r) refl
    where
      go : (b : Bool) → is_used r ≡ b → has_key k r ≡ holds k (as_slot f r)
      go true u = rw (u, (used-in-use f r ok u).read)
      go false u = rw (u, slot-unused f r ok u)

  -- what has the key has its bytes
  pub key-bytes : has_key k r ≡ true → part 24 24 r ≡ padded 24 k
  key-bytes e =
      let u = and_left (is_used r) (same k (fields r).key) e in
      let is = same_true k (fields r).key (and_right (is_used r) (same k (fields r).key) e) in
      in-use-key f r (used-in-use f r ok u) ∙ ap (padded 24) (sym is)
