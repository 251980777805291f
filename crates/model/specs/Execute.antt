-- What a command does to the slots: an answer, with or without one slot stored anew, or a refusal 12 to 17.
use Rattle.std.specs.Prelude.{ℕ, suc, Bool, true, false, cond, ◌&&◌, not, List, [], ◌∷◌, ◌++◌, length, leb, ltb, eqb, ℤ, pos, negsuc, ◌+ℤ◌}
use Rattle.std.proofs.Math.Option.{Option, none, some, map}
use Rattle.std.specs.Int.Signed.{lt_z, non_neg}
use Rattle.model.specs.Bytes.{text}
use Rattle.model.specs.Checked.{Checked, ok, check, given, ◌>>=◌, ◌>>◌}
use Rattle.model.specs.Number.{int_text, read_signed, is_signed, version_limit}
use Rattle.model.specs.Table.{Form, Record, Slot, empty, used}
use Rattle.model.specs.Search.{Placed, Lookup, live_at, expired_at, absent, lookup, live_record, slot_for}
use Rattle.model.specs.Resp.{Scalar, simple, integer, bulk, nil, Reply, one, array}
use Rattle.model.specs.Bitfield.{all_end_within, Ran, run_subs, fields_reply}
use Rattle.model.specs.Command.{Presence, always, if_absent, if_live, Change, raise, set, Expire, clear, keep, at, End, back, front}
use Rattle.model.specs.Command.{Terms, Increment, Action, exset, exget, exsetver, exincrby, excas, excad, exjoin, exgae, del, bitfield, Command}

-- a reply, or a reply and the new contents of one slot
pub data Effect : Type 0 where
  answer : Reply → Effect
  store : ℕ → Slot → Reply → Effect

-- ---- replies

abbrev pub number : ℕ → Scalar
number n = integer (pos n)

abbrev pub minus_one : Reply
minus_one = one (integer (negsuc 0))

-- EXSET: +OK, or with WITHVERSION the version
abbrev pub set_reply : (with_version : Bool) → ℕ → Reply
set_reply false n = one (simple (text "OK"))
set_reply true n = one (number n)

-- EXGET: value and version, with WITHFLAGS the flags; EXGAE: all three
abbrev pub get_reply : (with_flags : Bool) → Record → Reply
get_reply false r = array (bulk r.value ∷ number r.version ∷ [])
get_reply true r = array (bulk r.value ∷ number r.version ∷ number r.flags ∷ [])

-- EXINCRBY: the number, with WITHVERSION also the version
abbrev pub count_reply : (with_version : Bool) → ℤ → ℕ → Reply
count_reply false z n = one (integer z)
count_reply true z n = array (integer z ∷ number n ∷ [])

-- EXCAS: OK, empty, the new version
abbrev pub swap_reply : ℕ → Reply
swap_reply n = array (simple (text "OK") ∷ simple [] ∷ number n ∷ [])

-- EXCAS on another version: stale, the stored value and version
abbrev pub stale_reply : Record → Reply
stale_reply r = array (simple (text "ERR update version is stale") ∷ bulk r.value ∷ number r.version ∷ [])

-- EXAPPEND and EXPREPEND: the version
abbrev pub version_reply : ℕ → Reply
version_reply n = one (number n)

-- ---- before a write; `old` is the live record with the key, if there is one

-- NX and XX
abbrev pub allowed : Presence → (old : Option Record) → Bool
allowed always old = true
allowed if_absent none = true
allowed if_absent (some r) = false
allowed if_live none = false
allowed if_live (some r) = true

-- VER against a live record's version; an absent key has none to compare
abbrev pub agrees : Change → (old : Option Record) → Bool
agrees (set n) old = true
agrees (raise none) old = true
agrees (raise (some n)) none = true
agrees (raise (some n)) (some r) = eqb n r.version

-- ---- version, expiry and flags after a write

-- a version that rises, unless it is at its top
abbrev pub one_higher : ℕ → Checked ℕ
one_higher v = do
  check 15 (ltb (suc v) version_limit)
  ok (suc v)

-- ABS stores its version; otherwise an absent key starts at 1 and a live one rises
abbrev pub version_after : Change → (old : Option Record) → Checked ℕ
version_after (set n) old = ok n
version_after (raise e) none = ok 1
version_after (raise e) (some r) = one_higher r.version

abbrev pub expiry_after : Expire → (old : Option Record) → ℕ
expiry_after clear old = 0
expiry_after (at n) old = n
expiry_after keep none = 0
expiry_after keep (some r) = r.expiry

-- the flags given, else those stored, else 0
abbrev pub flags_after : Option ℕ → (old : Option Record) → ℕ
flags_after (some g) old = g
flags_after none none = 0
flags_after none (some r) = r.flags

-- ---- the value after a write

-- a new text, and the reply once the version is known
pub record New : Type 0 where
  pub text : List ℕ
  pub reply : ℕ → Reply

-- EXAPPEND puts the text after the stored one, EXPREPEND before it; an absent key has none
abbrev pub joined : End → List ℕ → (stored : Option (List ℕ)) → List ℕ
joined e v none = v
joined back v (some s) = s ++ v
joined front v (some s) = v ++ s

-- the number that EXINCRBY counts from: an absent key's is 0
abbrev pub counter : (stored : Option (List ℕ)) → Checked ℤ
counter none = ok (pos 0)
counter (some s) = given 13 (read_signed s)

abbrev pub not_below : Option ℤ → ℤ → Bool
not_below none z = true
not_below (some min) z = not (lt_z z min)

abbrev pub not_above : Option ℤ → ℤ → Bool
not_above none z = true
not_above (some max) z = not (lt_z max z)

-- NONEGATIVE makes 0 of a sum below 0, however far below
abbrev pub floored : (non_negative : Bool) → ℤ → ℤ
floored true z = cond (non_neg z) z (pos 0)
floored false z = z

-- a number within 64 bits, MIN and MAX
abbrev pub bounded : Increment → ℤ → Checked ℤ
bounded i z = do
  check 14 (is_signed z && not_below i.min z && not_above i.max z)
  ok z

-- the exact sum, of any size, is floored first, and what is left is tested
abbrev pub sum : Increment → (counter : ℤ) → Checked ℤ
sum i a = bounded i (floored i.non_negative (a +ℤ i.by))

-- what EXINCRBY comes to: tests 13 and 14
unfoldable pub total : Increment → (stored : Option (List ℕ)) → Checked ℤ
total i s = do
  a ← counter s
  sum i a

-- EXINCRBY's new text is that of a number
abbrev pub counted : Increment → (stored : Option (List ℕ)) → Checked New
counted i s = do
  z ← total i s
  ok (record { text = int_text z; reply = count_reply i.with_version z })

-- the value that BITFIELD works on: without a live record it is empty
abbrev pub value_or_empty : Option Record → List ℕ
value_or_empty none = []
value_or_empty (some r) = r.value

-- ---- the path of every command that writes a value

-- EXCAS on the record's own version, and BITFIELD
abbrev pub swapping : Expire → Terms
swapping e = record { presence = always; change = raise none; expire = e }

-- a record stored, and the reply to its version
abbrev pub storing : (reply : ℕ → Reply) → Placed → Effect
storing reply p = store p.at (used p.rec) (reply p.rec.version)

-- nil where NX or XX forbids
abbrev pub or_nil : Bool → Checked Effect → Checked Effect
or_nil true e = e
or_nil false e = ok (answer (one nil))

-- before a write: NX and XX, then VER (12)
abbrev pub admit : Terms → (old : Option Record) → (next : Checked Effect) → Checked Effect
admit t old next = or_nil (allowed t.presence old) (check 12 (agrees t.change old) >> next)

-- the answer for an absent key, or what is done to the live record
abbrev pub on_live : Lookup → Reply → (Placed → Checked Effect) → Checked Effect
on_live (live_at p) r g = g p
on_live (expired_at i) r g = ok (answer r)
on_live absent r g = ok (answer r)

abbrev pub set_version : ℕ → Record → Record
set_version n r = record { key = r.key; value = r.value; flags = r.flags; version = n; expiry = r.expiry }

abbrev pub set_expiry : ℕ → Record → Record
set_expiry x r = record { key = r.key; value = r.value; flags = r.flags; version = r.version; expiry = x }

-- over the form, the key, what stands under it, and the slot that a write takes
module _ (f : Form) (k : List ℕ) (l : Lookup) (slot : Option ℕ) where
  -- from the new text on: tests 15 to 17, and the record with all its fields; the flags are kept where none are given
  unfoldable pub put : Terms → (flags : Option ℕ) → (text : List ℕ) → Checked Placed
  put t g v = do
    n ← version_after t.change (live_record l)
    check 16 (leb (length v) f.value_limit)
    i ← given 17 slot
    ok (record {
      at = i;
      rec = record { key = k; value = v; flags = flags_after g (live_record l); version = n; expiry = expiry_after t.expire (live_record l) };
    })

  -- tests 13 to 17; the new text is made from the stored one (13 and 14)
  unfoldable pub write : Terms → (flags : Option ℕ) → (make : Option (List ℕ) → Checked New) → Checked Effect
  write t g make = do
    new ← make (map (λ r. r.value) (live_record l))
    p ← put t g new.text
    ok (storing new.reply p)

  -- a write on terms: tests 12 to 17
  abbrev pub write_if : Terms → (flags : Option ℕ) → (make : Option (List ℕ) → Checked New) → Checked Effect
  write_if t g make = admit t (live_record l) (write t g make)

  -- what BITFIELD's subcommands came to: a new value, where one of them wrote, and their answers
  abbrev pub store_ran : Ran → Checked Effect
  store_ran r = cond r.wrote (write (swapping keep) none λ v. ok (record { text = r.value; reply = λ n. fields_reply r.results })) (ok (answer (fields_reply r.results)))

  -- what an action does
  abbrev pub act : Action → Checked Effect
  act (exset s) = write_if s.terms (some s.flags) λ v. ok (record { text = s.value; reply = set_reply s.with_version })
  act (exget w) = on_live l (one nil) λ p. ok (answer (get_reply w p.rec))
  act (exsetver n) = on_live l (one (number 0)) λ p. ok (store p.at (used (set_version n p.rec)) (one (number 1)))
  act (exincrby i) = write_if i.terms none (counted i)
  act (excas v n e) =
      on_live l minus_one λ p.
      cond (eqb n p.rec.version) (write (swapping e) none λ old. ok (record { text = v; reply = swap_reply })) (ok (answer (stale_reply p.rec)))
  act (excad n) =
      on_live l minus_one λ p. ok (cond (eqb n p.rec.version) (store p.at empty (one (number 1))) (answer (one (number 0))))
  act (exjoin j) = write_if j.terms none λ v. ok (record { text = joined j.end j.value v; reply = version_reply })
  act (exgae e) =
      on_live l (one nil) λ p. ok (store p.at (used (set_expiry (expiry_after e (some p.rec)) p.rec)) (get_reply true p.rec))
  act del = on_live l (one (number 0)) λ p. ok (store p.at empty (one (number 1)))
  act (bitfield ss) = do
    check 16 (all_end_within f.value_limit ss)
    store_ran (run_subs ss (value_or_empty (live_record l)))

-- ---- a command

-- what a command does, once its key is looked up
abbrev pub execute_on : Form → (now : ℕ) → List Slot → Lookup → Command → Checked Effect
execute_on f now ss l c = act f c.key l (slot_for now ss l) c.action

-- what a command does to the slots at a time
unfoldable pub execute : Form → (now : ℕ) → List Slot → Command → Checked Effect
execute f now ss c = execute_on f now ss (lookup now c.key ss) c
