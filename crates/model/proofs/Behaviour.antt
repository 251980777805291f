-- Rules of documents 01 and 02 that a wrong definition could break unseen by the bench sheet, each as a law about `execute` or a part of it.
use mathlib.Core.Path.{◌≡◌, refl, ap, ◌∙◌}
use mathlib.Core.Bool.{Bool, true, false}
use mathlib.Core.List.{List}
use mathlib.Core.Option.{Option, none, some, map}
use Prim.Native.Nat.{ℕ, suc, ◌≤◌}
use lib.ListN.{length}
use lib.Dec.{leb, ltb, eqb}
use lib.IntN.{ℤ, pos, ◌+ℤ◌}
use lib.Signed.{non_neg}
use borrow.Author.Tests.{le-ltb}
use Rattle.model.specs.Checked.{Checked, refuse, ok}
use Rattle.model.specs.Number.{version_limit}
use Rattle.model.specs.Table.{Form, Record, Slot, empty, used}
use Rattle.model.specs.Search.{Placed, Lookup, live_at, lookup, live_record}
use Rattle.model.specs.Resp.{one, nil}
use Rattle.model.specs.Command.{Change, raise, Expire, Terms, Set, Increment, Join, Action, exset, exincrby, excas, exjoin, under}
use Rattle.model.specs.Execute.{Effect, answer, store, version_after, agrees, New, counter, not_below, not_above, bounded, total, put, write, allowed, or_nil, admit, execute_on, execute}
use Rattle.model.proofs.Basics.{by_cond}
use Rattle.model.proofs.Steps.{Comes, Any, by-check, by-given, by-step, by_next}

-- a command on other terms, and terms with another change of the version
abbrev pub set_on : Terms → Set → Set
set_on t s = record { value = s.value; terms = t; flags = s.flags; with_version = s.with_version }

abbrev pub increment_on : Terms → Increment → Increment
increment_on t i = record { by = i.by; terms = t; min = i.min; max = i.max; non_negative = i.non_negative; with_version = i.with_version }

abbrev pub join_on : Terms → Join → Join
join_on t j = record { end = j.end; value = j.value; terms = t }

abbrev pub changed : Change → Terms → Terms
changed c t = record { presence = t.presence; change = c; expire = t.expire }

module _ (f : Form) (now : ℕ) (ss : List Slot) (k : List ℕ) where
  -- an action, once it is known what stands under its key
  looked-up : (a : Action) (l : Lookup) → lookup now k ss ≡ l → execute f now ss (under k a) ≡ execute_on f now ss l (under k a)
  unfolding execute
  looked-up a l e = ap (λ (l : Lookup). execute_on f now ss l (under k a)) e

  -- ---- NX and XX come before VER

  module _ (l : Lookup) (e : lookup now k ss ≡ l) where
    pub exset-nil : (s : Set) → allowed s.terms.presence (live_record l) ≡ false → execute f now ss (under k (exset s)) ≡ ok (answer (one nil))
    exset-nil s h = looked-up (exset s) l e ∙ rw h

    pub exincrby-nil : (i : Increment) → allowed i.terms.presence (live_record l) ≡ false → execute f now ss (under k (exincrby i)) ≡ ok (answer (one nil))
    exincrby-nil i h = looked-up (exincrby i) l e ∙ rw h

    pub exjoin-nil : (j : Join) → allowed j.terms.presence (live_record l) ≡ false → execute f now ss (under k (exjoin j)) ≡ ok (answer (one nil))
    exjoin-nil j h = looked-up (exjoin j) l e ∙ rw h

  -- ---- VER is ignored on an absent key

  module _ (n : ℕ) (e : live_record (lookup now k ss) ≡ none) where
    pub exset-absent : (s : Set) → execute f now ss (under k (exset (set_on (changed (raise (some n)) s.terms) s))) ≡ execute f now ss (under k (exset (set_on (changed (raise none) s.terms) s)))
    unfolding execute write put
    exset-absent s = rw e

    pub exincrby-absent : (i : Increment)
        → execute f now ss (under k (exincrby (increment_on (changed (raise (some n)) i.terms) i))) ≡ execute f now ss (under k (exincrby (increment_on (changed (raise none) i.terms) i)))
    unfolding execute write put total
    exincrby-absent i = rw e

    pub exjoin-absent : (j : Join) → execute f now ss (under k (exjoin (join_on (changed (raise (some n)) j.terms) j))) ≡ execute f now ss (under k (exjoin (join_on (changed (raise none) j.terms) j)))
    unfolding execute write put
    exjoin-absent j = rw e

  -- ---- a write to a live record raises its version by one, whatever text it stores

  -- an effect stores a record, if any, with the version n
  abbrev pub Stores : ℕ → Effect → Type 0
  Stores n (answer r) = Unit {0}
  Stores n (store i empty r) = ⊥
  Stores n (store i (used q) r) = q.version ≡ n

  -- the version that a write stores is the one after the change
  write-version : (l : Lookup) (slot : Option ℕ) (t : Terms) (g : Option ℕ) (make : Option (List ℕ) → Checked New) (n : ℕ)
      → Comes Any (λ m. m ≡ n) (version_after t.change (live_record l)) → Comes Any (Stores n) (write f k l slot t g make)
  unfolding write put
  write-version l slot t g make n h =
      by_next Any (Stores n) (make (map (λ r. r.value) (live_record l))) _ (λ m. tt) λ new.
      by-step Any (Stores n) (λ p. p.rec.version ≡ n) (put f k l slot t g new.text) _
      (by-step Any (λ p. p.rec.version ≡ n) (λ m. m ≡ n) (version_after t.change (live_record l)) _ h λ m e.
      by-check Any (λ p. p.rec.version ≡ n) 16 (leb (length new.text) f.value_limit) _ tt λ h16.
      by-given Any (λ p. p.rec.version ≡ n) 17 slot _ tt λ i h17. e)
      λ p e. e

  -- the change of a write without ABS
  abbrev pub Raises : Change → Type 0
  Raises c = (ver : Option ℕ) × (c ≡ raise ver)

  rises : (c : Change) (r : Record) → Raises c → Comes Any (λ m. m ≡ suc r.version) (version_after c (some r))
  rises c r h =
      rw h.1 (by-check Any (λ m. m ≡ suc r.version) 15 (ltb (suc r.version) version_limit) (ok (suc r.version)) tt λ h15. refl)

  module _ (p : Placed) (e : lookup now k ss ≡ live_at p) where
    abbrev Higher : Checked Effect → Type 0
    Higher = Comes Any (Stores (suc p.rec.version))

    raised : (t : Terms) (g : Option ℕ) (make : Option (List ℕ) → Checked New) → Raises t.change → Higher (write f k (live_at p) (some p.at) t g make)
    raised t g make h = write-version (live_at p) (some p.at) t g make (suc p.rec.version) (rises t.change p.rec h)

    or_nil_lem : (b : Bool) (x : Checked Effect) → Higher x → Higher (or_nil b x)
    or_nil_lem true x h = h
    or_nil_lem false x h = tt

    admitted : (t : Terms) (x : Checked Effect) → Higher x → Higher (admit t (some p.rec) x)
    admitted t x h =
        or_nil_lem (allowed t.presence (some p.rec)) _
        (by-check Any (Stores (suc p.rec.version)) 12 (agrees t.change (some p.rec)) x tt λ h12. h)

    pub exset-raises : (s : Set) → Raises s.terms.change → Higher (execute f now ss (under k (exset s)))
    exset-raises s h = rw (looked-up (exset s) (live_at p) e) (admitted s.terms _ (raised _ _ _ h))

    pub exincrby-raises : (i : Increment) → Raises i.terms.change → Higher (execute f now ss (under k (exincrby i)))
    exincrby-raises i h = rw (looked-up (exincrby i) (live_at p) e) (admitted i.terms _ (raised _ _ _ h))

    pub exjoin-raises : (j : Join) → Raises j.terms.change → Higher (execute f now ss (under k (exjoin j)))
    exjoin-raises j h = rw (looked-up (exjoin j) (live_at p) e) (admitted j.terms _ (raised _ _ _ h))

    pub excas-raises : (v : List ℕ) (n : ℕ) (x : Expire) → Higher (execute f now ss (under k (excas v n x)))
    excas-raises v n x =
        rw (looked-up (excas v n x) (live_at p) e) (by_cond Higher (eqb n p.rec.version) _ _ (raised _ _ _ (none, refl)) tt)

-- ---- a version at its top is refused and never wraps

pub top-refused : (ver : Option ℕ) (r : Record) → version_limit ≤ suc r.version → version_after (raise ver) (some r) ≡ refuse 15
top-refused ver r h = rw (le-ltb (suc r.version) version_limit h)

-- ---- the sum of EXINCRBY, before 64 bits, MIN and MAX are tested

module _ (i : Increment) (stored : Option (List ℕ)) (a : ℤ) (c : counter stored ≡ ok a) where
  -- without NONEGATIVE it is the exact sum
  pub exact-unasked : i.non_negative ≡ false → total i stored ≡ bounded i (a +ℤ i.by)
  unfolding total
  exact-unasked n = rw (c, n)

  module _ (n : i.non_negative ≡ true) where
    -- with it too where that is not below 0
    pub gain-exact : non_neg (a +ℤ i.by) ≡ true → total i stored ≡ bounded i (a +ℤ i.by)
    unfolding total
    gain-exact s = rw (c, n, s)

    -- below 0, however far, it is 0, which MIN and MAX alone can refuse
    pub drain-floored : non_neg (a +ℤ i.by) ≡ false → total i stored ≡ bounded i (pos 0)
    unfolding total
    drain-floored s = rw (c, n, s)

    pub drain-stored : non_neg (a +ℤ i.by) ≡ false → not_below i.min (pos 0) ≡ true → not_above i.max (pos 0) ≡ true → total i stored ≡ ok (pos 0)
    drain-stored s p q = drain-floored s ∙ rw (p, q)
