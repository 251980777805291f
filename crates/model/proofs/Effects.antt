-- What a command does: it writes at most one slot, one that its key may claim, with a record of that key in range or zeros, and its reply
-- fits; a refusal is by 12 to 17.
use mathlib.Core.Path.{◌≡◌, refl, subst}
use mathlib.Core.Bool.{Bool, true, false, ◌&&◌}
use mathlib.Core.List.{List}
use mathlib.Core.Option.{Option, none, some, map}
use Prim.Native.Nat.{ℕ, suc, ◌≤◌, ◌<◌}
use native.Mathlib.Omega.{arith}
use lib.ListN.{length, drop, length-drop}
use lib.Dec.{leb, ltb, eqb}
use lib.IntN.{ℤ, ◌+ℤ◌}
use borrow.Author.Tests.{leb-true, ltb-true}
use Rattle.model.specs.Checked.{Checked, ok}
use Rattle.model.specs.Number.{version_limit, flags_limit, is_signed, read_signed}
use Rattle.model.specs.Table.{Form, Record, Slot, empty, used, time_limit, key_limit, distinct}
use Rattle.model.specs.Search.{Placed, Lookup, live_at, expired_at, absent, lookup, live_record, slot_for}
use Rattle.model.specs.Resp.{word_limit, Reply, one, nil}
use Rattle.model.specs.Bitfield.{Sub, all_end_within, Ran, run_subs, fields_reply}
use Rattle.model.specs.Command.{Change, raise, set, Expire, clear, keep, at, Terms, Increment, Action, exset, exget, exsetver, exincrby, excas, excad, exjoin, exgae, del, bitfield, Command}
use Rattle.model.specs.Parse.{word_at}
use Rattle.model.specs.Execute.{Effect, answer, store, agrees, version_after, expiry_after, flags_after, New, counter, not_below, not_above, floored, bounded, total, counted, value_or_empty, swapping, put, write, write_if, store_ran, allowed, or_nil, on_live, act, execute, number}
use Rattle.model.proofs.Basics.{and_left, by_cond}
use Rattle.model.proofs.Records.{InRange, Kept}
use Rattle.model.proofs.Tables.{All, all-at}
use Rattle.model.proofs.Search.{Hit, LiveHit, lookup-hit, Claim, hit-claim, slot_for-claim, NoOther, hit-sole, slot_for-sole, Under}
use Rattle.model.proofs.Steps.{Comes, Any, by-check, by-given, of-given, by-step}
use Rattle.model.proofs.Subcommands.{SubsRead}
use Rattle.model.proofs.Runs.{run_subs-signed, results-length}
use Rattle.model.proofs.Commands.{ChangeOk, ExpireOk, TermsOk, ActionOk, Known}
use Rattle.model.proofs.Replies.{Roomy, Fits, number_fits, nil-fits, minus_one-fits, set-fits, get-fits, count_fits, swap-fits, stale-fits, fields-fits}

-- the numbers of the refusals in executing
pub record Executing (n : ℕ) : Type 0 where
  pub least : 12 ≤ n
  pub most : n ≤ 17

-- slot j may be written for the key k with the contents s
pub record Written (f : Form) (now : ℕ) (k : List ℕ) (ss : List Slot) (j : ℕ) (s : Slot) : Type 0 where
  pub claim : Claim now k ss j
  pub kept : Kept f s
  pub under : Under k s
  pub sole : NoOther k ss j

-- ---- version, expiry and flags in range

module _ (f : Form) where
  abbrev pub OldOk : Option Record → Type 0
  OldOk none = Unit {0}
  OldOk (some r) = InRange f r

  version-after : (c : Change) (old : Option Record) → ChangeOk c → Comes Executing (λ n. n < version_limit) (version_after c old)
  version-after (set n) old h = h
  version-after (raise e) none h = omega arith
  version-after (raise e) (some r) h =
      by-check Executing (λ n. n < version_limit) 15 (ltb (suc r.version) version_limit) (ok (suc r.version)) (omega arith) (ltb-true _ _)

  expiry-after : (e : Expire) (old : Option Record) → ExpireOk e → OldOk old → expiry_after e old ≤ time_limit
  expiry-after clear old h g = omega arith
  expiry-after (at n) old h g = h
  expiry-after keep none h g = omega arith
  expiry-after keep (some r) h g = g.expiry-to

  abbrev FlagsOk : Option ℕ → Type 0
  FlagsOk none = Unit {0}
  FlagsOk (some g) = g < flags_limit

  flags-after : (g : Option ℕ) (old : Option Record) → FlagsOk g → OldOk old → flags_after g old < flags_limit
  flags-after (some g) old h q = h
  flags-after none none h q = omega arith
  flags-after none (some r) h q = q.flags-to

-- the record found under a key is in range
module _ (f : Form) (ss : List Slot) (hk : All (Kept f) ss) (k : List ℕ) where
  hit-ok : (p : Placed) → Hit k ss p → InRange f p.rec
  hit-ok p h = all-at (Kept f) ss p.at (used p.rec) hk h.there

  pub old_ok : (now : ℕ) → OldOk f (live_record (lookup now k ss))
  old_ok now = go (lookup now k ss) (lookup-hit now k ss)
    where
      go : (l : Lookup) → LiveHit k ss l → OldOk f (live_record l)
      go (live_at p) h = hit-ok p h
      go (expired_at i) h = tt
      go absent h = tt

-- the version that is put is in range
pub put-version : (f : Form) (k : List ℕ) (l : Lookup) (slot : Option ℕ) (t : Terms) (g : Option ℕ) (v : List ℕ) → ChangeOk t.change
    → Comes Executing (λ p. p.rec.version < version_limit) (put f k l slot t g v)
unfolding put
put-version f k l slot t g v h =
    by-step Executing (λ p. p.rec.version < version_limit) (λ n. n < version_limit) (version_after t.change (live_record l)) _ (version-after f t.change (live_record l) h) λ n hn.
    by-check Executing (λ p. p.rec.version < version_limit) 16 (leb (length v) f.value_limit) _ (omega arith) λ h16.
    by-given Executing (λ p. p.rec.version < version_limit) 17 slot _ (omega arith) λ i h17. hn

-- a record in range with another version and expiry
renumbered : (f : Form) (r : Record) (n x : ℕ) → InRange f r → n < version_limit → x ≤ time_limit
    → InRange f (record { key = r.key; value = r.value; flags = r.flags; version = n; expiry = x })
renumbered f r n x h hn hx = record {
  key-from = h.key-from;
  key-to = h.key-to;
  value-to = h.value-to;
  flags-to = h.flags-to;
  version-to = hn;
  expiry-to = hx;
}

-- ---- EXINCRBY's number

abbrev pub Signed : ℤ → Type 0
Signed z = is_signed z ≡ true

bounded-signed : (i : Increment) (z : ℤ) → Comes Executing Signed (bounded i z)
bounded-signed i z =
    by-check Executing Signed 14 (is_signed z && not_below i.min z && not_above i.max z) _ (omega arith) λ h14.
    and_left (is_signed z) (not_below i.min z) (and_left (is_signed z && not_below i.min z) (not_above i.max z) h14)

pub total-signed : (i : Increment) (s : Option (List ℕ)) → Comes Executing Signed (total i s)
unfolding total
total-signed i s = by-step Executing Signed Any (counter s) _ (start s) λ a u. bounded-signed i (floored i.non_negative (a +ℤ i.by))
  where
    start : (s : Option (List ℕ)) → Comes Executing Any (counter s)
    start none = tt
    start (some v) = of-given Executing Any 13 (read_signed v) (omega arith) λ z e. tt

-- ---- the commands, over slots in range with distinct keys

module _ (f : Form) (w : Roomy f) (now : ℕ) (ss : List Slot) (hk : All (Kept f) ss) (d : distinct ss ≡ true) where
  abbrev pub Fine : List ℕ → Effect → Type 0
  Fine k (answer r) = Fits f w r
  Fine k (store j s r) = Written f now k ss j s × Fits f w r

  abbrev NewFits : New → Type 0
  NewFits new = (n : ℕ) → n < version_limit → Fits f w (new.reply n)

  module _ (k : List ℕ) (lo : 1 ≤ length k) (hi : length k ≤ key_limit) where
    -- the slot of the record found under k
    own : (p : Placed) → Hit k ss p → (s : Slot) → Kept f s → Under k s → Written f now k ss p.at s
    own p h s ks us = record { claim = hit-claim now k ss p h; kept = ks; under = us; sole = hit-sole k ss p.at p.rec d h.there h.key }

    abbrev l : Lookup
    l = lookup now k ss

    abbrev slot : Option ℕ
    slot = slot_for now ss l

    on-live : (r : Reply) (g : Placed → Checked Effect) → Fits f w r → ((p : Placed) → Hit k ss p → Comes Executing (Fine k) (g p))
        → Comes Executing (Fine k) (on_live l r g)
    on-live r g hr hg = go l (lookup-hit now k ss)
      where
        go : (l : Lookup) → LiveHit k ss l → Comes Executing (Fine k) (on_live l r g)
        go (live_at p) h = hg p h
        go (expired_at i) h = hr
        go absent h = hr

    -- the slot that a write takes
    taken : (i : ℕ) → slot ≡ some i → (s : Slot) → Kept f s → Under k s → Written f now k ss i s
    taken i q s ks us = record { claim = slot_for-claim now k ss i q; kept = ks; under = us; sole = slot_for-sole now k ss i d q }

    abbrev PutFine : Placed → Type 0
    PutFine p = Written f now k ss p.at (used p.rec) × (p.rec.version < version_limit)

    fine-put : (t : Terms) (g : Option ℕ) (v : List ℕ) → TermsOk t → FlagsOk f g
        → Comes Executing PutFine (put f k l slot t g v)
    unfolding put
    fine-put t g v ht hg =
        by-step Executing PutFine (λ n. n < version_limit) (version_after t.change (live_record l)) _ (version-after f t.change (live_record l) ht.change) λ n hn.
        by-check Executing PutFine 16 (leb (length v) f.value_limit) _ (omega arith) λ h16.
        by-given Executing PutFine 17 slot _ (omega arith) λ i h17. (
          taken i h17 _
              (record {
                key-from = lo;
                key-to = hi;
                value-to = leb-true (length v) f.value_limit h16;
                flags-to = flags-after f g (live_record l) hg (old_ok f ss hk k now);
                version-to = hn;
                expiry-to = expiry-after f t.expire (live_record l) ht.expire (old_ok f ss hk k now);
              })
              refl,
          hn,
        )

    fine-write : (t : Terms) (g : Option ℕ) (make : Option (List ℕ) → Checked New) → TermsOk t → FlagsOk f g
        → ((s : Option (List ℕ)) → Comes Executing NewFits (make s)) → Comes Executing (Fine k) (write f k l slot t g make)
    unfolding write
    fine-write t g make ht hg hv =
        by-step Executing (Fine k) NewFits (make (map (λ r. r.value) (live_record l))) _ (hv _) λ new hn.
        by-step Executing (Fine k) PutFine (put f k l slot t g new.text) _ (fine-put t g new.text ht hg) λ p hp.
        (hp.0, hn p.rec.version hp.1)

    or_nil_lem : (b : Bool) (x : Checked Effect) → Comes Executing (Fine k) x → Comes Executing (Fine k) (or_nil b x)
    or_nil_lem true x h = h
    or_nil_lem false x h = nil-fits f w

    fine-write-if : (t : Terms) (g : Option ℕ) (make : Option (List ℕ) → Checked New) → TermsOk t → FlagsOk f g
        → ((s : Option (List ℕ)) → Comes Executing NewFits (make s)) → Comes Executing (Fine k) (write_if f k l slot t g make)
    fine-write-if t g make ht hg hv =
        or_nil_lem (allowed t.presence (live_record l)) _
        (by-check Executing (Fine k) 12 (agrees t.change (live_record l)) _ (omega arith) λ h12. fine-write t g make ht hg hv)

    fine-ran : (r : Ran) → Fits f w (fields_reply r.results) → Comes Executing (Fine k) (store_ran f k l slot r)
    fine-ran r h = by_cond (Comes Executing (Fine k)) r.wrote _ _ (fine-write (swapping keep) none _ (record { change = tt; expire = tt }) tt λ s n q. h) h

    -- a command of at most 16 words has at most four subcommands
    ran-fits : (ss : List Sub) (m : ℕ) → m ≤ 14 → SubsRead m ss → (v : List ℕ) → Fits f w (fields_reply (run_subs ss v).results)
    ran-fits ss m few h v = fields-fits f w (run_subs ss v).results (omega (arith, h.few, results-length ss v)) (run_subs-signed ss v h.typed)

    fine-act : (ws : List (List ℕ)) (a : Action) → length ws ≤ word_limit → ActionOk f ws a → Comes Executing (Fine k) (act f k l slot a)
    fine-act ws (exset s) few h = fine-write-if s.terms (some s.flags) _ h.1 h.2 λ v. set-fits f w s.with_version
    fine-act ws (exget b) few h = on-live (one nil) _ (nil-fits f w) λ p q. get-fits f w b p.rec (hit-ok f ss hk k p q)
    fine-act ws (exsetver n) few h =
        on-live (one (number 0)) _ (number_fits f w 0 (omega arith)) λ p q.
        let old = hit-ok f ss hk k p q in
        (own p q _ (renumbered f p.rec n p.rec.expiry old h old.expiry-to) q.key, number_fits f w 1 (omega arith))
    fine-act ws (exincrby i) few h =
        fine-write-if i.terms none (counted i) h tt λ s.
        by-step Executing NewFits Signed (total i s) _ (total-signed i s) λ z hz n. count_fits f w i.with_version z n hz
    fine-act ws (excas v n x) few h =
        on-live _ _ (minus_one-fits f w) λ p q.
        by_cond (Comes Executing (Fine k)) (eqb n p.rec.version) _ _ (fine-write (swapping x) none _ (record { change = tt; expire = h.1 }) tt λ s. swap-fits f w)
        (stale-fits f w p.rec (hit-ok f ss hk k p q))
    fine-act ws (excad n) few h =
        on-live _ _ (minus_one-fits f w) λ p q.
        by_cond (Fine k) (eqb n p.rec.version) _ _ (own p q empty tt tt, number_fits f w 1 (omega arith)) (number_fits f w 0 (omega arith))
    fine-act ws (exjoin j) few h = fine-write-if j.terms none _ h.1 tt λ s. number_fits f w
    fine-act ws (exgae x) few h =
        on-live (one nil) _ (nil-fits f w) λ p q.
        let old = hit-ok f ss hk k p q in
        (own p q _ (renumbered f p.rec p.rec.version _ old old.version-to (expiry-after f x (some p.rec) h old)) q.key, get-fits f w true p.rec old)
    fine-act ws del few h = on-live (one (number 0)) _ (number_fits f w 0 (omega arith)) λ p q. (own p q empty tt tt, number_fits f w 1 (omega arith))
    fine-act ws (bitfield ss) few h =
        by-check Executing (Fine k) 16 (all_end_within f.value_limit ss) _ (omega arith) λ h16.
        let v = value_or_empty (live_record l) in
        fine-ran (run_subs ss v) (ran-fits ss (length (drop 2 ws)) (omega (arith, length-drop 2 ws)) h v)

  pub execute-fine : (ws : List (List ℕ)) → length ws ≤ word_limit → (c : Command) → Known f ws c → Comes Executing (Fine (word_at 1 ws)) (execute f now ss c)
  unfolding execute
  execute-fine ws few c h =
      subst (λ (k : List ℕ). Comes Executing (Fine k) (execute f now ss c)) h.key
      (fine-act c.key h.key-from h.key-to ws c.action few h.action)
