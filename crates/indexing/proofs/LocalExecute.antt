-- What a command does to slots is what it does to the one slot chosen, up to the number of the slot.
use mathlib.Core.Path.{◌≡◌, refl, ap, ◌∙◌}
use mathlib.Core.Bool.{Bool, true, false, cond}
use mathlib.Core.List.{List, [], ◌∷◌}
use mathlib.Core.Option.{Option, none, some, map}
use Prim.Native.Nat.{ℕ, ◌≤◌}
use lib.ListN.{length, get_or}
use lib.Dec.{leb, eqb}
use Rattle.model.specs.Checked.{Checked, refuse, ok, check, given, ◌>>=◌, ◌>>◌}
use Rattle.model.specs.Table.{Form, Record, Slot, empty}
use Rattle.model.specs.Search.{Placed, Lookup, live_at, expired_at, absent, lookup, live_record, slot_for}
use Rattle.model.specs.Resp.{Reply}
use Rattle.model.specs.Bitfield.{all_end_within, Ran, run_subs}
use Rattle.model.specs.Command.{Terms, Action, exset, exget, exsetver, exincrby, excas, excad, exjoin, exgae, del, bitfield, Command}
use Rattle.model.specs.Execute.{Effect, answer, store, allowed, agrees, version_after, New, value_or_empty, storing, or_nil, on_live, put, write, write_if, store_ran, act, execute}
use Rattle.indexing.specs.Local.{chosen}
use Rattle.indexing.proofs.LocalSearch.{place_at, lookup_at, slot_at, chosen-alone}

-- ---- another number for the slot

abbrev pub effect_at : (i : ℕ) → Effect → Effect
effect_at i (answer r) = answer r
effect_at i (store j s r) = store i s r

abbrev pub checked_at : (i : ℕ) → Checked Effect → Checked Effect
checked_at i (refuse n) = refuse n
checked_at i (ok e) = ok (effect_at i e)

abbrev put_at : (i : ℕ) → Checked Placed → Checked Placed
put_at i (refuse n) = refuse n
put_at i (ok p) = ok (place_at i p)

-- ---- an action hands slot numbers on

module _ (i : ℕ) where
  live_record-at : (l : Lookup) → live_record (lookup_at i l) ≡ live_record l
  live_record-at (live_at p) = refl
  live_record-at (expired_at j) = refl
  live_record-at absent = refl

  on_live-at : (l : Lookup) (r : Reply) (g h : Placed → Checked Effect) → ((p : Placed) → g (place_at i p) ≡ checked_at i (h p))
      → on_live (lookup_at i l) r g ≡ checked_at i (on_live l r h)
  on_live-at (live_at p) r g h e = e p
  on_live-at (expired_at j) r g h e = refl
  on_live-at absent r g h e = refl

  put-steps : (x : Checked ℕ) (b : Bool) (slot : Option ℕ) (new : ℕ → Record)
      → (x >>= λ n. check 16 b >> (given 17 (slot_at i slot) >>= λ j. ok (record { at = j; rec = new n })))
      ≡ put_at i (x >>= λ n. check 16 b >> (given 17 slot >>= λ j. ok (record { at = j; rec = new n })))
  put-steps (refuse n) b slot new = refl
  put-steps (ok n) false slot new = refl
  put-steps (ok n) true none new = refl
  put-steps (ok n) true (some j) new = refl

  cond-at : (b : Bool) (x y z w : Checked Effect) → x ≡ checked_at i z → y ≡ checked_at i w → cond b x y ≡ checked_at i (cond b z w)
  cond-at true x y z w e g = e
  cond-at false x y z w e g = g

  module _ (f : Form) (k : List ℕ) (l : Lookup) (slot : Option ℕ) where
    put-at : (t : Terms) (g : Option ℕ) (v : List ℕ) → put f k (lookup_at i l) (slot_at i slot) t g v ≡ put_at i (put f k l slot t g v)
    unfolding put
    put-at t g v = rw (live_record-at l) (put-steps (version_after t.change (live_record l)) (leb (length v) f.value_limit) slot _)

    write-at : (t : Terms) (g : Option ℕ) (make : Option (List ℕ) → Checked New)
        → write f k (lookup_at i l) (slot_at i slot) t g make ≡ checked_at i (write f k l slot t g make)
    unfolding write
    write-at t g make = rw (live_record-at l) (made (make (map (λ r. r.value) (live_record l))))
      where
        stored : (reply : ℕ → Reply) (x : Checked Placed) → (put_at i x >>= λ p. ok (storing reply p)) ≡ checked_at i (x >>= λ p. ok (storing reply p))
        stored reply (refuse n) = refl
        stored reply (ok p) = refl

        made : (x : Checked New)
            → (x >>= λ new. put f k (lookup_at i l) (slot_at i slot) t g new.text >>= λ p. ok (storing new.reply p))
            ≡ checked_at i (x >>= λ new. put f k l slot t g new.text >>= λ p. ok (storing new.reply p))
        made (refuse n) = refl
        made (ok new) =
            ap (λ (x : Checked Placed). x >>= λ p. ok (storing new.reply p)) (put-at t g new.text) ∙ stored new.reply (put f k l slot t g new.text)

    admitted : (a b : Bool) (x y : Checked Effect) → x ≡ checked_at i y → or_nil a (check 12 b >> x) ≡ checked_at i (or_nil a (check 12 b >> y))
    admitted false b x y e = refl
    admitted true false x y e = refl
    admitted true true x y e = e

    write_if-at : (t : Terms) (g : Option ℕ) (make : Option (List ℕ) → Checked New)
        → write_if f k (lookup_at i l) (slot_at i slot) t g make ≡ checked_at i (write_if f k l slot t g make)
    write_if-at t g make =
        ap (λ (old : Option Record). or_nil (allowed t.presence old) (check 12 (agrees t.change old) >> write f k (lookup_at i l) (slot_at i slot) t g make)) (live_record-at l)
        ∙ admitted (allowed t.presence (live_record l)) (agrees t.change (live_record l)) _ _ (write-at t g make)

    checked-16 : (b : Bool) (x y : Checked Effect) → x ≡ checked_at i y → (check 16 b >> x) ≡ checked_at i (check 16 b >> y)
    checked-16 false x y e = refl
    checked-16 true x y e = e

    store_ran-at : (r : Ran) → store_ran f k (lookup_at i l) (slot_at i slot) r ≡ checked_at i (store_ran f k l slot r)
    store_ran-at r = cond-at r.wrote _ _ _ _ (write-at _ none _) refl

    pub act-at : (a : Action) → act f k (lookup_at i l) (slot_at i slot) a ≡ checked_at i (act f k l slot a)
    act-at (exset s) = write_if-at s.terms (some s.flags) _
    act-at (exget w) = on_live-at l _ _ _ λ p. refl
    act-at (exsetver n) = on_live-at l _ _ _ λ p. refl
    act-at (exincrby x) = write_if-at x.terms none _
    act-at (excas v n e) = on_live-at l _ _ _ λ p. cond-at (eqb n p.rec.version) _ _ _ _ (write-at _ none _) refl
    act-at (excad n) = on_live-at l _ _ _ λ p. either (eqb n p.rec.version) _ _ _ _ refl refl
      where
        either : (b : Bool) (x y z w : Effect) → x ≡ effect_at i z → y ≡ effect_at i w → ok (cond b x y) ≡ checked_at i (ok (cond b z w))
        either true x y z w e g = ap ok e
        either false x y z w e g = ap ok g
    act-at (exjoin j) = write_if-at j.terms none _
    act-at (exgae e) = on_live-at l _ _ _ λ p. refl
    act-at del = on_live-at l _ _ _ λ p. refl
    act-at (bitfield ss) =
        checked-16 (all_end_within f.value_limit ss) _ _
        (ap (λ (old : Option Record). store_ran f k (lookup_at i l) (slot_at i slot) (run_subs ss (value_or_empty old))) (live_record-at l)
        ∙ store_ran-at (run_subs ss (value_or_empty (live_record l))))

-- ---- a command is the command on the slot chosen, as if there were no other

execute-own : (f : Form) (now : ℕ) (ss : List Slot) (c : Command) → 1 ≤ length ss
    → execute f now ss c ≡ checked_at (chosen now ss c.key) (execute f now (get_or ss (chosen now ss c.key) empty ∷ []) c)
unfolding execute
execute-own f now ss c least =
    let i = chosen now ss c.key in
    let one = get_or ss i empty ∷ [] in
    let a = chosen-alone now c.key ss least in
    (λ j. act f c.key (a.under j) (a.slot j) c.action)
    ∙ act-at i f c.key (lookup now c.key one) (slot_for now one (lookup now c.key one)) c.action

pub execute-local : (f : Form) (now : ℕ) (ss : List Slot) (c : Command) (k : List ℕ) → 1 ≤ length ss → c.key ≡ k
    → execute f now ss c ≡ checked_at (chosen now ss k) (execute f now (get_or ss (chosen now ss k) empty ∷ []) c)
execute-local f now ss c k least e =
    execute-own f now ss c least ∙ ap (λ (y : List ℕ). checked_at (chosen now ss y) (execute f now (get_or ss (chosen now ss y) empty ∷ []) c)) e
