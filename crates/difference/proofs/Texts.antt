-- How the bytes of a line are put together, and how many there are.
use mathlib.Core.Path.{◌≡◌, refl, sym, ap}
use mathlib.Core.Bool.{Bool, true, false, cond, not}
use mathlib.Core.List.{List, [], ◌∷◌, ◌++◌, append_assoc}
use Prim.Native.Nat.{ℕ, ◌*◌, ◌≤◌}
use native.Mathlib.Omega.{arith}
use lib.ListN.{length, length-append}
use lib.Dec.{eqb}
use Rattle.model.specs.Bytes.{same}
use Rattle.model.specs.Table.{Record}
use Rattle.model.proofs.Basics.{never}
use Rattle.model.specs.Difference.{Field, value, version, flags, expiry, Line, removed, added, when, fields_apart, changed_line, add_line, hex, field_text, fields_text, line_text, lines_bytes}
use Rattle.difference.specs.declared.fields.Fields.{Fields}
use Rattle.difference.specs.Lines.{fields_of, is_none, line_bytes, change_lines}
use Rattle.slice.proofs.Pieces.{join}

-- ---- the names of fields

-- a field's name, if the field differs
abbrev pub name_if : Bool → Field → List ℕ
name_if b f = cond b (field_text f) []

abbrev pub names : Fields → List (List ℕ)
names d = name_if d.value value ∷ name_if d.version version ∷ name_if d.flags flags ∷ name_if d.expiry expiry ∷ []

named-then : (b : Bool) (f : Field) (fs : List Field) (t : List ℕ) → fields_text fs ≡ t → fields_text (when b f ++ fs) ≡ name_if b f ++ t
named-then true f fs t e = ap (λ (s : List ℕ). field_text f ++ s) e
named-then false f fs t e = e

named-last : (b : Bool) (f : Field) → fields_text (when b f) ≡ name_if b f ++ []
named-last true f = refl
named-last false f = refl

pub fields-name_if : (d : Fields) → fields_text (fields_of d) ≡ join (names d)
fields-name_if d =
    named-then d.value value _ _
    (named-then d.version version _ _ (named-then d.flags flags _ _ (named-last d.expiry expiry)))

-- ---- lengths

pub length-hex : (k : List ℕ) → length (hex k) ≡ 2 * length k
length-hex [] = refl
length-hex (c ∷ k) = omega (arith, length-hex k)

length-name_if : (b : Bool) (f : Field) → length (name_if b f) ≤ length (field_text f)
length-name_if true f = omega arith
length-name_if false f = omega arith

length-names : (d : Fields) → length (fields_text (fields_of d)) ≤ 27
length-names d =
    simp (fields-name_if d, length-append)
    (omega (arith, length-name_if d.value value, length-name_if d.version version, length-name_if d.flags flags, length-name_if d.expiry expiry))

module _ (m : ℕ) (k : List ℕ) (h : length k ≤ 24) where
  length-line : (fs : List Field) → length (fields_text fs) ≤ 27 → length (line_bytes m k fs) ≤ 78
  length-line fs t = simp length-append (omega (arith, length-hex k))

  -- the line of a key that stands in one table alone
  pub length-plain : length (line_bytes m k []) ≤ 51
  length-plain = simp length-append (omega (arith, length-hex k))

-- ---- the model's lines

pub lines-append : (ls ms : List Line) → lines_bytes (ls ++ ms) ≡ lines_bytes ls ++ lines_bytes ms
unfolding lines_bytes
lines-append [] ms = refl
lines-append (l ∷ ls) ms = rw (lines-append ls ms) (sym (append_assoc (line_text l) (10 ∷ lines_bytes ls) (lines_bytes ms)))

pub removed-line : (k : List ℕ) → lines_bytes (removed k ∷ []) ≡ line_bytes 45 k []
unfolding lines_bytes
removed-line k = refl

pub added-line : (k : List ℕ) → lines_bytes (added k ∷ []) ≡ line_bytes 43 k []
unfolding lines_bytes
added-line k = refl

module _ (k : List ℕ) where
  pub no_change : (fs : List Field) → is_none fs ≡ true → lines_bytes (add_line (changed_line k fs) []) ≡ []
  unfolding lines_bytes
  no_change [] e = refl
  no_change (f ∷ fs) e = never false e refl

  pub one-change : (fs : List Field) → is_none fs ≡ false → lines_bytes (add_line (changed_line k fs) []) ≡ line_bytes 126 k fs
  unfolding lines_bytes
  one-change [] e = never true refl e
  one-change (f ∷ fs) e = simp append_assoc

-- the line of a key that stands in both tables
pub length-change : (r q : Record) → length r.key ≤ 24 → length (lines_bytes (change_lines r q)) ≤ 78
length-change r q h = go (fields_apart r q) (length-names differ) (is_none (fields_apart r q)) refl
  where
    differ : Fields
    differ = record {
      value = not (same r.value q.value);
      version = not (eqb r.version q.version);
      flags = not (eqb r.flags q.flags);
      expiry = not (eqb r.expiry q.expiry);
    }

    go : (fs : List Field) → length (fields_text fs) ≤ 27 → (b : Bool) → is_none fs ≡ b → length (lines_bytes (add_line (changed_line r.key fs) [])) ≤ 78
    go fs t true e = rw (no_change r.key fs e) (omega arith)
    go fs t false e = rw (one-change r.key fs e) (length-line 126 r.key h fs t)
