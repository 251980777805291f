-- What differs between two tables: document 02's E1.
use Rattle.std.specs.Prelude.{ℕ, ◌+◌, ◌/◌, ◌%◌, Bool, true, false, cond, not, List, [], ◌∷◌, ◌++◌, ltb, eqb}
use Rattle.std.proofs.Math.Option.{Option, none, some, map}
use Rattle.model.specs.Bytes.{text, same}
use Rattle.model.specs.Checked.{Checked, refuse, ok}
use Rattle.model.specs.Table.{form128, Record, Slot, empty, used}
use Rattle.model.specs.Search.{Placed, find_key}
use Rattle.model.specs.Gate.{good_table}
use Rattle.model.specs.Order.{before}

-- ---- lines

-- what a line may name, in its order
pub data Field : Type 0 where
  value version flags expiry : Field

-- a key in the first table alone, in the second alone, or in both with fields that differ
pub data Line : Type 0 where
  removed : (key : List ℕ) → Line
  added : (key : List ℕ) → Line
  changed : (key : List ℕ) (fields : List Field) → Line

abbrev pub line_key : Line → List ℕ
line_key (removed k) = k
line_key (added k) = k
line_key (changed k fs) = k

-- ---- what differs

-- a field, if it differs
abbrev pub when : Bool → Field → List Field
when true f = f ∷ []
when false f = []

-- the fields in which two records differ
abbrev pub fields_apart : Record → Record → List Field
fields_apart r q =
    when (not (same r.value q.value)) value
    ++ (when (not (eqb r.version q.version)) version
    ++ (when (not (eqb r.flags q.flags)) flags
    ++ when (not (eqb r.expiry q.expiry)) expiry))

-- no line where no field differs
abbrev pub changed_line : List ℕ → List Field → Option Line
changed_line k [] = none
changed_line k (f ∷ fs) = some (changed k (f ∷ fs))

-- the line of a key, from its record in either table
abbrev pub line_of : (key : List ℕ) (old new : Option Record) → Option Line
line_of k none none = none
line_of k (some r) none = some (removed k)
line_of k none (some q) = some (added k)
line_of k (some r) (some q) = changed_line k (fields_apart r q)

-- a key put into a rising list of keys, unless it is there
abbrev pub insert_key : List ℕ → List (List ℕ) → List (List ℕ)
insert_key k [] = k ∷ []
insert_key k (x ∷ ks) =
    let more = x ∷ insert_key k ks in
    cond (before k x) (k ∷ x ∷ ks) (cond (same k x) (x ∷ ks) more)

-- the keys of the slots in use, in byte order, each once
unfoldable pub keys_of : List Slot → List (List ℕ)
keys_of [] = []
keys_of (empty ∷ ss) = keys_of ss
keys_of (used r ∷ ss) = insert_key r.key (keys_of ss)

-- the record in use with the key k, live or not, in any slot
abbrev pub record_for : List ℕ → List Slot → Option Record
record_for k ss = map (λ (p : Placed). p.rec) (find_key k ss)

-- a line before others, if there is one
abbrev pub add_line : Option Line → List Line → List Line
add_line none ls = ls
add_line (some l) ls = l ∷ ls

-- the lines of these keys
abbrev pub lines_for : (old new : List Slot) → (keys : List (List ℕ)) → List Line
lines_for a b [] = []
lines_for a b (k ∷ ks) = add_line (line_of k (record_for k a) (record_for k b)) (lines_for a b ks)

-- a line for each key of either table that differs, in byte order of keys
unfoldable pub difference : (old new : List Slot) → List Line
difference a b = lines_for a b (keys_of (a ++ b))

-- ---- bytes

-- a digit of lower-case hex
abbrev pub hex_digit : ℕ → ℕ
hex_digit d = cond (ltb d 10) (48 + d) (87 + d)

-- two digits a byte, the high one first
abbrev pub hex : List ℕ → List ℕ
hex [] = []
hex (c ∷ s) = hex_digit (c / 16) ∷ hex_digit (c % 16) ∷ hex s

-- a blank stands before each name
abbrev pub field_text : Field → List ℕ
field_text value = text " value"
field_text version = text " version"
field_text flags = text " flags"
field_text expiry = text " expiry"

abbrev pub fields_text : List Field → List ℕ
fields_text [] = []
fields_text (f ∷ fs) = field_text f ++ fields_text fs

-- a line before its line feed
abbrev pub line_text : Line → List ℕ
line_text (removed k) = text "- " ++ hex k
line_text (added k) = text "+ " ++ hex k
line_text (changed k fs) = text "~ " ++ (hex k ++ fields_text fs)

-- each line ends in a line feed
unfoldable pub lines_bytes : List Line → List ℕ
lines_bytes [] = []
lines_bytes (l ∷ ls) = line_text l ++ (10 ∷ lines_bytes ls)

-- ---- from two files

-- the first is tested first
abbrev pub report_of : (old new : Checked (List Slot)) → List ℕ
report_of (refuse n) b = text "bad 1\n"
report_of (ok a) (refuse n) = text "bad 2\n"
report_of (ok a) (ok b) = lines_bytes (difference a b)

-- what is told of the bytes of two files; a missing file counts as one of no bytes, which is no good table either
unfoldable pub report : (old new : List ℕ) → List ℕ
report a b = report_of (good_table form128 a) (good_table form128 b)
