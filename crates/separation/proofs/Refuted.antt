-- Stores that reach into the other party's part are not separate, and where they write there they do not meet demand 3.
use Prim.Native.Nat.{ℕ}
use Prim.Native.String.{String}
use mathlib.Core.Path.{◌≡◌, refl, ap}
use mathlib.Core.Bool.{true}
use mathlib.Core.List.{List, [], ◌∷◌, map}
use mathlib.Core.Option.{some}
use native.Mathlib.Omega.{arith}
use lib.ListN.{get_or, replicate}
use Rattle.model.specs.Bytes.{text}
use Rattle.model.specs.Table.{form128, Slot, empty, used, use_at, version_at, table_bytes, read_table, distinct}
use Rattle.model.specs.Resp.{encode}
use Rattle.model.specs.Partition.{Party, owner, installer, side}
use Rattle.model.specs.History.{outside}
use Rattle.model.proofs.Compute.{computing}
use Rattle.separation.specs.Separation.{Faultless, Separate}
use Rattle.separation.specs.SharedHistory.{SharedEvent, SharedSerializable}
use Rattle.separation.specs.WrongShared.{takes_anywhere, finds_anywhere, compares_all_keys}

-- a table of two records, shared at 1
abbrev pair : Slot → Slot → List ℕ
pair a b = table_bytes form128 (a ∷ b ∷ [])

abbrev under : String → Slot
under k = used (record { key = text k; value = text "a"; flags = 0; version = 1; expiry = 0 })

abbrev words : List String → List ℕ
words ws = encode (map text ws)

-- its keys are distinct in both parts, whatever they are
two-slots : (a b : Slot) → read_table form128 (pair a b) ≡ some (a ∷ b ∷ []) → Faultless form128 1 (pair a b)
unfolding distinct
two-slots a b e = record { slots = a ∷ b ∷ []; read = e; least = omega arith; most = omega arith; keys = alone }
  where
    unlike-none : (s : Slot) → distinct (s ∷ []) ≡ true
    unlike-none empty = refl
    unlike-none (used r) = refl

    alone : (p : Party) → distinct (side p 1 (a ∷ b ∷ [])) ≡ true
    alone owner = unlike-none a
    alone installer = unlike-none b

-- the installer's empty record is taken for the owner's bar
pub takes_anywhere-not-separate : Separate form128 takes_anywhere → ⊥
unfolding computing
takes_anywhere-not-separate h =
    let q = h.others owner 1 (pair (under "foo") empty) 1000 (words ("EXSET" ∷ "bar" ∷ "x" ∷ [])) (replicate 128 0) in
    let e : ◌≡◌ {A = ℕ} 1 0 = ap (λ (b : List ℕ). get_or b use_at 0) q in
    omega arith

-- the owner's EXGET tells whether the installer has the key bar
pub finds_anywhere-not-separate : Separate form128 finds_anywhere → ⊥
unfolding computing
finds_anywhere-not-separate h =
    let q = h.own owner 1 (pair (under "foo") (under "bar")) (pair (under "foo") empty) 1000 (words ("EXGET" ∷ "bar" ∷ [])) (replicate 128 0)
    (two-slots (under "foo") (under "bar") refl) (two-slots (under "foo") empty refl) refl in
    let e : ◌≡◌ {A = ℕ} 15 5 = q.length in
    omega arith

-- the owner's calls are refused once the installer has the key foo too
pub compares_all_keys-not-separate : Separate form128 compares_all_keys → ⊥
unfolding computing
compares_all_keys-not-separate h =
    let q = h.own owner 1 (pair (under "foo") (under "foo")) (pair (under "foo") empty) 1000 (words ("EXGET" ∷ "foo" ∷ [])) (replicate 128 0)
    (two-slots (under "foo") (under "foo") refl) (two-slots (under "foo") empty refl) refl in
    let e : ◌≡◌ {A = ℕ} 1 0 = q.number in
    omega arith

-- ---- demand 3

-- one call of the owner, after the expiry of the installer's foo
abbrev owner-calls : List String → List SharedEvent
owner-calls ws =
    record { party = owner; event = record { label = outside; time = 9000; command = words ws; reply = replicate 128 0 } } ∷ []

-- the installer calls nothing, and its record foo changes: the owner's new key takes it
pub takes_anywhere-not-serializable : SharedSerializable form128 takes_anywhere → ⊥
unfolding computing
takes_anywhere-not-serializable h =
    let foo : Slot = used (record { key = text "foo"; value = text "a"; flags = 0; version = 7; expiry = 5000 }) in
    let q = h installer 1 1 (text "foo") (λ t s. s) (pair (under "baz") foo) (owner-calls ("EXSET" ∷ "bar" ∷ "x" ∷ [])) (omega arith)
    (record { used = refl; key = refl }) tt in
    let e : ◌≡◌ {A = ℕ} 1 7 = ap (λ (b : List ℕ). get_or b version_at 0) q.bytes in
    omega arith

-- the owner deletes it
pub finds_anywhere-not-serializable : SharedSerializable form128 finds_anywhere → ⊥
unfolding computing
finds_anywhere-not-serializable h =
    let q = h installer 1 1 (text "foo") (λ t s. s) (pair empty (under "foo")) (owner-calls ("DEL" ∷ "foo" ∷ [])) (omega arith)
    (record { used = refl; key = refl }) tt in
    let e : ◌≡◌ {A = ℕ} 0 1 = ap (λ (b : List ℕ). get_or b use_at 0) q.bytes in
    omega arith
