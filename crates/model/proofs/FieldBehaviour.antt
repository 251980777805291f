-- What BITFIELD does, by laws about `execute` and `call`: without a write every byte stays; with one the record gets the value of the run and a
-- version one higher, or 1, and keeps the rest; 16 is given for a field past the limit and for nothing else.
use mathlib.Core.Path.{◌≡◌, refl, sym, ap, ◌∙◌, subst}
use mathlib.Core.Logic.{◌⊎◌, inl, inr}
use mathlib.Core.Bool.{Bool, true, false}
use mathlib.Core.List.{List}
use mathlib.Core.Option.{Option, none, some}
use Prim.Native.Nat.{ℕ, suc, ◌≤◌, ◌<◌}
use native.Mathlib.Omega.{arith}
use lib.ListN.{length, set}
use lib.Dec.{ltb}
use borrow.Author.Tests.{le-leb, lt-ltb}
use Rattle.model.specs.Checked.{Checked, refuse, ok, check, given, ◌>>=◌, ◌>>◌}
use Rattle.model.specs.Number.{version_limit}
use Rattle.model.specs.Table.{Form, Record, Slot, used, table_bytes}
use Rattle.model.specs.Search.{Placed, Lookup, live_at, expired_at, absent, lookup, live_record, slot_for}
use Rattle.model.specs.Resp.{Reply}
use Rattle.model.specs.Gate.{Inputs}
use Rattle.model.specs.Bitfield.{Sub, all_end_within, Ran, run_subs, fields_reply}
use Rattle.model.specs.Command.{bitfield, under}
use Rattle.model.specs.Parse.{parse}
use Rattle.model.specs.Execute.{Effect, answer, store, value_or_empty, put, write, execute}
use Rattle.model.specs.Call.{Outcome, error_reply, replied, effect_on, call_in, call}
use Rattle.model.proofs.Basics.{All}
use Rattle.model.proofs.Steps.{Comes, Any, by-check, by-given}
use Rattle.model.proofs.Records.{Kept}
use Rattle.model.proofs.Tables.{table_bytes-read_table}
use Rattle.model.proofs.Runs.{Typed, run_subs-within}
use Rattle.model.proofs.Commands.{Parsing, Known, parse-known}
use Rattle.model.proofs.Effects.{OldOk, old_ok}
use Rattle.model.proofs.Calls.{Through, through-gate}

-- the refusals that come after test 16
abbrev pub Later : ℕ → Type 0
Later n = (n ≡ 15) ⊎ (n ≡ 17)

-- ---- by what stands under the key

module _ (now : ℕ) (ss : List Slot) (k : List ℕ) (subs : List Sub) where
  -- the value that the subcommands run on; an absent key's is empty
  abbrev pub value_under : List ℕ
  value_under = value_or_empty (live_record (lookup now k ss))

  abbrev pub ran : Ran
  ran = run_subs subs value_under

  -- the record that is stored, and the reply
  abbrev pub record_with : (flags version expiry : ℕ) → Slot
  record_with g n x = used (record { key = k; value = ran.value; flags = g; version = n; expiry = x })

  abbrev pub results : Reply
  results = fields_reply ran.results

  module _ (f : Form) where
    abbrev pub executed : Checked Effect
    executed = execute f now ss (under k (bitfield subs))

    -- a field past the limit is refused, whatever else holds
    pub bitfield-past : all_end_within f.value_limit subs ≡ false → executed ≡ refuse 16
    unfolding execute
    bitfield-past h = rw h

    module _ (h : all_end_within f.value_limit subs ≡ true) where
      -- where nothing wrote nothing is stored
      pub bitfield-unwritten : ran.wrote ≡ false → executed ≡ ok (answer results)
      unfolding execute
      bitfield-unwritten w = rw (h, w)

      -- the value that a run leaves fits, so that the size is not tested again
      pub ran-small : All (Kept f) ss → All Typed subs → length ran.value ≤ f.value_limit
      ran-small hk t = run_subs-within f.value_limit subs value_under t h (old-small (live_record (lookup now k ss)) (old_ok f ss hk k now))
        where
          old-small : (o : Option Record) → OldOk f o → length (value_or_empty o) ≤ f.value_limit
          old-small none q = omega arith
          old-small (some r) q = q.value-to

      module _ (small : length ran.value ≤ f.value_limit) where
        -- a live record keeps flags and expiry, and its version rises by one
        pub bitfield-live : ran.wrote ≡ true → (p : Placed) → lookup now k ss ≡ live_at p
            → executed ≡ (check 15 (ltb (suc p.rec.version) version_limit) >> ok (store p.at (record_with p.rec.flags (suc p.rec.version) p.rec.expiry) results))
        unfolding execute write put
        bitfield-live w p e = go (ltb (suc p.rec.version) version_limit) refl
          where
            go : (b : Bool) → ltb (suc p.rec.version) version_limit ≡ b
                → executed ≡ (check 15 b >> ok (store p.at (record_with p.rec.flags (suc p.rec.version) p.rec.expiry) results))
            go true q = rw (h, w, le-leb (length ran.value) f.value_limit small, e, q)
            go false q = rw (h, w, e, q)

        -- an absent key gets a record of version 1
        pub bitfield-absent : ran.wrote ≡ true → live_record (lookup now k ss) ≡ none
            → executed ≡ (given 17 (slot_for now ss (lookup now k ss)) >>= λ i. ok (store i (record_with 0 1 0) results))
        unfolding execute write put
        bitfield-absent w e = go (slot_for now ss (lookup now k ss)) refl
          where
            go : (o : Option ℕ) → slot_for now ss (lookup now k ss) ≡ o → executed ≡ (given 17 o >>= λ i. ok (store i (record_with 0 1 0) results))
            go none q = rw (h, w, le-leb (length ran.value) f.value_limit small, q, e)
            go (some i) q = rw (h, w, le-leb (length ran.value) f.value_limit small, q, e)

        -- so after test 16 a version at its top and a full table alone refuse
        pub bitfield-later : Comes Later Any executed
        bitfield-later = go ran.wrote refl
          where
            new : ran.wrote ≡ true → live_record (lookup now k ss) ≡ none → Comes Later Any executed
            new w e = subst (Comes Later Any) (sym (bitfield-absent w e)) (by-given Later Any 17 (slot_for now ss (lookup now k ss)) _ (inr refl) λ j h17. tt)

            found : ran.wrote ≡ true → (l : Lookup) → lookup now k ss ≡ l → Comes Later Any executed
            found w (live_at p) e = subst (Comes Later Any) (sym (bitfield-live w p e)) (by-check Later Any 15 (ltb (suc p.rec.version) version_limit) _ (inl refl) λ h15. tt)
            found w (expired_at i) e = new w (ap live_record e)
            found w absent e = new w (ap live_record e)

            go : (b : Bool) → ran.wrote ≡ b → Comes Later Any executed
            go true w = found w (lookup now k ss) refl
            go false w = subst (Comes Later Any) (sym (bitfield-unwritten w)) tt

-- ---- a call whose command is a BITFIELD

module _ (f : Form) (t : List ℕ) (now : ℕ) (c b : List ℕ) (i : Inputs) (g : Through f t now (length b) c i) (k : List ℕ) (subs : List Sub)
    (e : parse f now i.words ≡ ok (under k (bitfield subs))) where
  abbrev slots : List Slot
  slots = i.slots

  -- the outcome of a write to a slot
  abbrev pub stored_at : ℕ → Slot → Outcome
  stored_at j s = replied 0 (results now slots k subs) (table_bytes f (set slots j s)) b

  call-executed : call f t now c b ≡ effect_on f t b slots (executed now slots k subs f)
  unfolding call_in
  call-executed = rw (through-gate f t now (length b) c i g, e)

  -- a field past the limit is refused
  pub call-past : all_end_within f.value_limit subs ≡ false → call f t now c b ≡ replied 16 (error_reply 16) t b
  call-past h = call-executed ∙ ap (effect_on f t b slots) (bitfield-past now slots k subs f h)

  module _ (h : all_end_within f.value_limit subs ≡ true) where
    small : length (ran now slots k subs).value ≤ f.value_limit
    small =
        let known : Known f i.words (under k (bitfield subs)) = subst (Comes Parsing (Known f i.words)) e (parse-known f now i.words) in
        ran-small now slots k subs f h (table_bytes-read_table f t slots g.table.read).kept known.action.typed

    -- where nothing wrote every byte of the table stays
    pub call-unwritten : (ran now slots k subs).wrote ≡ false → call f t now c b ≡ replied 0 (results now slots k subs) t b
    call-unwritten w = call-executed ∙ ap (effect_on f t b slots) (bitfield-unwritten now slots k subs f h w)

    -- otherwise the run's value is stored, a live record's version is one higher, and it keeps flags and expiry
    pub call-live : (ran now slots k subs).wrote ≡ true → (p : Placed) → lookup now k slots ≡ live_at p → suc p.rec.version < version_limit
        → call f t now c b ≡ stored_at p.at (record_with now slots k subs p.rec.flags (suc p.rec.version) p.rec.expiry)
    call-live w p l v =
        call-executed ∙ (ap (effect_on f t b slots) (bitfield-live now slots k subs f h small w p l) ∙ rw (lt-ltb (suc p.rec.version) version_limit v))

    -- and an absent key's new record has version 1
    pub call-absent : (ran now slots k subs).wrote ≡ true → live_record (lookup now k slots) ≡ none → (j : ℕ) → slot_for now slots (lookup now k slots) ≡ some j
        → call f t now c b ≡ stored_at j (record_with now slots k subs 0 1 0)
    call-absent w l j q = call-executed ∙ (ap (effect_on f t b slots) (bitfield-absent now slots k subs f h small w l) ∙ rw q)

    -- a refusal after test 16 is by 15 or 17
    pub call-later : ((call f t now c b).number ≡ 0) ⊎ Later (call f t now c b).number
    call-later = subst (λ (o : Outcome). (o.number ≡ 0) ⊎ Later o.number) (sym call-executed) (go (executed now slots k subs f) (bitfield-later now slots k subs f h small))
      where
        go : (x : Checked Effect) → Comes Later Any x → ((effect_on f t b slots x).number ≡ 0) ⊎ Later (effect_on f t b slots x).number
        go (refuse n) q = inr q
        go (ok (answer r)) q = inl refl
        go (ok (store j s r)) q = inl refl
