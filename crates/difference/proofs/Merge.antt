-- Walking two indexes together gives the difference of their tables.
use mathlib.Core.Path.{◌≡◌, refl, sym, ap, ◌∙◌, subst}
use mathlib.Core.Logic.{inl, inr}
use mathlib.Core.Bool.{Bool, true, false, cond}
use mathlib.Core.List.{List, [], ◌∷◌, map}
use mathlib.Core.Option
use mathlib.Core.Option.{Option, none, some}
use Prim.Native.Nat.{ℕ}
use native.Mathlib.Nat.{zero-add}
use lib.ListN.{get_or, get_elem?}
use Rattle.model.specs.Bytes.{same}
use Rattle.model.specs.Table.{Record, Slot, empty, used, form128, distinct}
use Rattle.model.specs.Search.{Placed, find_key}
use Rattle.model.specs.Order.{before, In, Above, Rising, Entry, entry, entry_key, entries, numbers, index_of, key_in}
use Rattle.model.specs.Difference.{Field, Line, removed, added, changed, line_key, fields_apart, changed_line, line_of, record_for, add_line, difference}
use Rattle.model.proofs.Basics.{same-eq, eq-same, ne_same, some-eq, none-some, at-get_or}
use Rattle.model.proofs.Search.{find-hit}
use Rattle.model.proofs.Order.{before-transitive, before-apart}
use Rattle.model.proofs.Rising.{Without}
use Rattle.model.proofs.Index.{key_in-slot, key_in-at, AllIn, in-entries, entries-in, entries-rising}
use Rattle.model.proofs.Difference.{record_for-at, Due, difference-unique}
use Rattle.table.specs.Slots.{slots_of, record_of}
use Rattle.std.proofs.Common.{Ordering}
use Rattle.std.proofs.Common.{Less, Equal, Greater}
use Rattle.order.specs.Compared.{compared}
use Rattle.order.proofs.Compared.{Stated, compared-stated}
use Rattle.difference.specs.Walk.{pick, merge_at, merge, Along, records_from}

abbrev record_key : Record → List ℕ
record_key r = r.key

-- ---- looking up a key in records, and in lines

record_with_key : List ℕ → List Record → Option Record
record_with_key k [] = none
record_with_key k (r ∷ rs) = let more = record_with_key k rs in cond (same k r.key) (some r) more

line_in : List ℕ → List Line → Option Line
line_in k [] = none
line_in k (l ∷ ls) = let more = line_in k ls in cond (same k (line_key l)) (some l) more

look_none : (k : List ℕ) (rs : List Record) → Without record_key k rs → record_with_key k rs ≡ none
unfolding record_with_key
look_none k [] h = refl
look_none k (r ∷ rs) h = rw (ne_same k r.key (λ p. h r (inl refl) (sym p))) (look_none k rs (λ g i. h g (inr i)))

look-above : (k : List ℕ) (rs : List Record) → Above record_key k rs → record_with_key k rs ≡ none
look-above k rs a = look_none k rs (λ g i e. before-apart k g.key (a g i) (sym e))

look_in : (k : List ℕ) (rs : List Record) (r : Record) → Rising record_key rs → In r rs → r.key ≡ k → record_with_key k rs ≡ some r
unfolding record_with_key
look_in k [] r h i e = absurd i
look_in k (x ∷ rs) r h (inl p) e = rw (eq-same k x.key (sym e ∙ ap record_key p)) (ap (λ (y : Record). some y) (sym p))
look_in k (x ∷ rs) r h (inr i) e =
    rw (ne_same k x.key (λ p. before-apart x.key r.key (h.0 r i) (sym p ∙ sym e))) (look_in k rs r h.1 i e)

line_in-in : (k : List ℕ) (ls : List Line) (l : Line) → line_in k ls ≡ some l → In l ls
unfolding line_in
line_in-in k [] l e = none-some l e
line_in-in k (m ∷ ls) l e = go (same k (line_key m)) (line_in-in k ls l) e
  where
    go : (b : Bool) → (line_in k ls ≡ some l → In l ls) → cond b (some m) (line_in k ls) ≡ some l → In l (m ∷ ls)
    go true ih e = inl (sym (some-eq e))
    go false ih e = inr (ih e)

in-line_in : (ls : List Line) (l : Line) → Rising line_key ls → In l ls → line_in (line_key l) ls ≡ some l
unfolding line_in
in-line_in [] l r i = absurd i
in-line_in (m ∷ ls) l r (inl p) = rw (eq-same (line_key l) (line_key m) (ap line_key p)) (ap (λ (y : Line). some y) (sym p))
in-line_in (m ∷ ls) l r (inr i) =
    rw (ne_same (line_key l) (line_key m) (λ p. before-apart (line_key m) (line_key l) (r.0 l i) (sym p))) (in-line_in ls l r.1 i)

-- ---- keys rise along a merge

-- what is before every key of both is before every line's
abbrev Upward : (rest : List Record → List Line) (rs : List Record) → Type 0
Upward rest rs = (k : List ℕ) (qs : List Record) → Above record_key k rs → Above record_key k qs → Above line_key k (rest qs)

head-above : (k : List ℕ) (l : Line) (ls : List Line) → before k (line_key l) ≡ true → Above line_key k ls → Above line_key k (l ∷ ls)
head-above k l ls h a g (inl p) = ap (λ (x : Line). before k (line_key x)) p ∙ h
head-above k l ls h a g (inr i) = a g i

line-above : (k : List ℕ) (r : Record) (fs : List Field) (ls : List Line) → before k r.key ≡ true → Above line_key k ls → Above line_key k (add_line (changed_line r.key fs) ls)
line-above k r [] ls h a = a
line-above k r (f ∷ fs) ls h a = head-above k (changed r.key (f ∷ fs)) ls h a

-- the lines of r and q, if they have the next keys
abbrev heads : Ordering → (r : Record) (rest : List Record → List Line) (q : Record) (qs : List Record) → List Line
heads o r rest q qs =
    pick o (removed r.key ∷ rest (q ∷ qs)) (add_line (changed_line r.key (fields_apart r q)) (rest qs)) (added q.key ∷ merge_at r rest qs)

merge_at-above : (r : Record) (rest : List Record → List Line) (rs : List Record) → Upward rest rs → Upward (merge_at r rest) (r ∷ rs)
merge_at-above r rest rs u k [] a b = head-above k (removed r.key) (rest []) (a r (inl refl)) (u k [] (λ g i. a g (inr i)) b)
merge_at-above r rest rs u k (q ∷ qs) a b = go (compared r.key q.key) (merge_at-above r rest rs u k qs a (λ g i. b g (inr i)))
  where
    go : (o : Ordering) → Above line_key k (merge_at r rest qs) → Above line_key k (heads o r rest q qs)
    go Less ih = head-above k (removed r.key) (rest (q ∷ qs)) (a r (inl refl)) (u k (q ∷ qs) (λ g i. a g (inr i)) b)
    go Equal ih = line-above k r (fields_apart r q) (rest qs) (a r (inl refl)) (u k qs (λ g i. a g (inr i)) (λ g i. b g (inr i)))
    go Greater ih = head-above k (added q.key) (merge_at r rest qs) (b q (inl refl)) ih

merge-above : (rs : List Record) → Upward (merge rs) rs
unfolding merge
merge-above [] k [] a b = λ g i. absurd i
merge-above [] k (q ∷ qs) a b = head-above k (added q.key) (merge [] qs) (b q (inl refl)) (merge-above [] k qs a (λ g i. b g (inr i)))
merge-above (r ∷ rs) k qs a b = merge_at-above r (merge rs) rs (λ k qs a b. merge-above rs k qs a b) k qs a b

-- what is before the first key of a rising list is before all
over : (k : List ℕ) (r : Record) (rs : List Record) → Rising record_key (r ∷ rs) → before k r.key ≡ true → Above record_key k (r ∷ rs)
over k r rs h p g (inl e) = ap (λ (x : Record). before k x.key) e ∙ p
over k r rs h p g (inr i) = before-transitive k r.key g.key p (h.0 g i)

-- what is above a key is above an equal one
above-is : (k j : List ℕ) (rs : List Record) → k ≡ j → Above record_key j rs → Above record_key k rs
above-is k j rs e a g i = ap (λ (x : List ℕ). before x g.key) e ∙ a g i

merge_at-rising : (r : Record) (rest : List Record → List Line) (rs : List Record) → Upward rest rs
    → ((qs : List Record) → Rising record_key qs → Rising line_key (rest qs))
    → (qs : List Record) → Rising record_key (r ∷ rs) → Rising record_key qs → Rising line_key (merge_at r rest qs)
merge_at-rising r rest rs u h [] a b = (u r.key [] a.0 (λ g i. absurd i), h [] tt)
merge_at-rising r rest rs u h (q ∷ qs) a b =
    go (compared r.key q.key) (compared-stated r.key q.key) (merge_at-rising r rest rs u h qs a b.1)
  where
    both : (fs : List Field) → r.key ≡ q.key → Rising line_key (add_line (changed_line r.key fs) (rest qs))
    both [] e = h qs b.1
    both (f ∷ fs) e = (u r.key qs a.0 (above-is r.key q.key qs e b.0), h qs b.1)

    go : (o : Ordering) → Stated r.key q.key o → Rising line_key (merge_at r rest qs) → Rising line_key (heads o r rest q qs)
    go Less p ih = (u r.key (q ∷ qs) a.0 (over r.key q qs b p), h (q ∷ qs) b)
    go Equal p ih = both (fields_apart r q) p
    go Greater p ih = (merge_at-above r rest rs u q.key qs (over q.key r rs a p) b.0, ih)

merge-rising : (rs qs : List Record) → Rising record_key rs → Rising record_key qs → Rising line_key (merge rs qs)
unfolding merge
merge-rising [] [] a b = tt
merge-rising [] (q ∷ qs) a b = (merge-above [] q.key qs (λ g i. absurd i) b.0, merge-rising [] qs tt b.1)
merge-rising (r ∷ rs) qs a b = merge_at-rising r (merge rs) rs (merge-above rs) (λ qs b. merge-rising rs qs a.1 b) qs a b

-- ---- each key has its line

abbrev Looks : (k : List ℕ) (rest : List Record → List Line) (rs : List Record) → Type 0
Looks k rest rs = (qs : List Record) → Rising record_key qs → line_in k (rest qs) ≡ line_of k (record_with_key k rs) (record_with_key k qs)

merge_at-looks : (k : List ℕ) (r : Record) (rest : List Record → List Line) (rs : List Record) → Rising record_key (r ∷ rs) → Looks k rest rs → Looks k (merge_at r rest) (r ∷ rs)
unfolding record_with_key line_in
merge_at-looks k r rest rs a h [] b = go (same k r.key) refl
  where
    go : (c : Bool) → same k r.key ≡ c → cond c (some (removed r.key)) (line_in k (rest [])) ≡ line_of k (cond c (some r) (record_with_key k rs)) none
    go true e = ap (λ (x : List ℕ). some (removed x)) (sym (same-eq k r.key e))
    go false e = h [] tt
merge_at-looks k r rest rs a h (q ∷ qs) b =
    go (compared r.key q.key) (compared-stated r.key q.key) (merge_at-looks k r rest rs a h qs b.1)
  where
    low : before r.key q.key ≡ true → (c : Bool) → same k r.key ≡ c
        → cond c (some (removed r.key)) (line_in k (rest (q ∷ qs))) ≡ line_of k (cond c (some r) (record_with_key k rs)) (record_with_key k (q ∷ qs))
    low p true e =
        let s : k ≡ r.key = same-eq k r.key e in
        let n = look-above k (q ∷ qs) (above-is k r.key (q ∷ qs) s (over r.key q qs b p)) in
        ap (λ (x : List ℕ). some (removed x)) (sym s) ∙ sym (ap (line_of k (some r)) n)
    low p false e = h (q ∷ qs) b

    high : before q.key r.key ≡ true → line_in k (merge_at r rest qs) ≡ line_of k (record_with_key k (r ∷ rs)) (record_with_key k qs) → (c : Bool) → same k q.key ≡ c
        → cond c (some (added q.key)) (line_in k (merge_at r rest qs)) ≡ line_of k (record_with_key k (r ∷ rs)) (cond c (some q) (record_with_key k qs))
    high p ih true e =
        let s : k ≡ q.key = same-eq k q.key e in
        let n = look-above k (r ∷ rs) (above-is k q.key (r ∷ rs) s (over q.key r rs a p)) in
        ap (λ (x : List ℕ). some (added x)) (sym s) ∙ sym (ap (λ (o : Option Record). line_of k o (some q)) n)
    high p ih false e = ih

    -- the line of both, if there is one
    both : r.key ≡ q.key → (c : Bool) → same k r.key ≡ c → (fs : List Field)
        → line_in k (add_line (changed_line r.key fs) (rest qs)) ≡ cond c (changed_line k fs) (line_of k (record_with_key k rs) (record_with_key k qs))
    both p true e [] =
        let s : k ≡ r.key = same-eq k r.key e in
        let m = look-above k rs (above-is k r.key rs s a.0) in
        let n = look-above k qs (above-is k q.key qs (s ∙ p) b.0) in
        h qs b.1 ∙ (λ i. line_of k (m i) (n i))
    both p true e (f ∷ fs) = rw e (ap (λ (x : List ℕ). some (changed x (f ∷ fs))) (sym (same-eq k r.key e)))
    both p false e [] = h qs b.1
    both p false e (f ∷ fs) = rw e (h qs b.1)

    one_key : (c : Bool) → cond c (changed_line k (fields_apart r q)) (line_of k (record_with_key k rs) (record_with_key k qs))
        ≡ line_of k (cond c (some r) (record_with_key k rs)) (cond c (some q) (record_with_key k qs))
    one_key true = refl
    one_key false = refl

    go : (o : Ordering) → Stated r.key q.key o → line_in k (merge_at r rest qs) ≡ line_of k (record_with_key k (r ∷ rs)) (record_with_key k qs)
        → line_in k (heads o r rest q qs) ≡ line_of k (record_with_key k (r ∷ rs)) (record_with_key k (q ∷ qs))
    go Less p ih = low p (same k r.key) refl
    go Equal p ih =
        both p (same k r.key) refl (fields_apart r q)
        ∙ (one_key (same k r.key) ∙ ap (λ (x : List ℕ). line_of k (record_with_key k (r ∷ rs)) (cond (same k x) (some q) (record_with_key k qs))) p)
    go Greater p ih = high p ih (same k q.key) refl

merge-looks : (k : List ℕ) (rs : List Record) → Rising record_key rs → Looks k (merge rs) rs
unfolding merge record_with_key line_in
merge-looks k [] a [] b = refl
merge-looks k [] a (q ∷ qs) b = go (same k q.key) refl (merge-looks k [] a qs b.1)
  where
    go : (c : Bool) → same k q.key ≡ c → line_in k (merge [] qs) ≡ line_of k none (record_with_key k qs)
        → cond c (some (added q.key)) (line_in k (merge [] qs)) ≡ line_of k none (cond c (some q) (record_with_key k qs))
    go true e ih = ap (λ (x : List ℕ). some (added x)) (sym (same-eq k q.key e))
    go false e ih = ih
merge-looks k (r ∷ rs) a qs b = merge_at-looks k r (merge rs) rs a (λ qs b. merge-looks k rs a.1 qs b) qs b

-- ---- the records along an index

module _ (ss : List Slot) where
  abbrev pub at_slot : ℕ → Record
  at_slot n = record_of (get_or ss n empty)

  -- the records along the index
  abbrev pub records_of : List Record
  records_of = map at_slot (index_of ss)

  -- a number that has a key is that of a slot in use with that key
  pub slot-named : (n : ℕ) (k : List ℕ) → key_in 0 ss n ≡ some k → (get_elem? ss n ≡ some (used (at_slot n))) × ((at_slot n).key ≡ k)
  slot-named n k e =
      let w = key_in-slot 0 ss n k e in
      let there : get_elem? ss n ≡ some (used w.1) = ap (get_elem? ss) (w.4 ∙ zero-add w.0) ∙ w.2 in
      let g : at_slot n ≡ w.1 = ap record_of (at-get_or ss n (used w.1) empty there) in
      (there ∙ ap (λ (x : Record). some (used x)) (sym g), ap record_key g ∙ w.3)

  named-slot : (n : ℕ) (r : Record) → get_elem? ss n ≡ some (used r) → key_in 0 ss n ≡ some r.key
  named-slot n r e = ap (key_in 0 ss) (sym (zero-add n)) ∙ key_in-at 0 ss n r e

  in-along : (es : List Entry) (r : Record) → In r (map at_slot (numbers es)) → (g : Entry) × In g es × (r ≡ at_slot g.at)
  in-along [] r i = absurd i
  in-along (e ∷ es) r (inl p) = (e, inl refl, p)
  in-along (e ∷ es) r (inr i) = let w = in-along es r i in (w.0, inr w.1, w.2)

  along-in : (es : List Entry) (g : Entry) → In g es → In (at_slot g.at) (map at_slot (numbers es))
  along-in [] g i = absurd i
  along-in (e ∷ es) g (inl p) = inl (ap (λ (x : Entry). at_slot x.at) p)
  along-in (e ∷ es) g (inr i) = inr (along-in es g i)

  -- the key of a record along the index is the key of its entry
  along-rising : (es : List Entry) → AllIn 0 ss es → Rising entry_key es → Rising record_key (map at_slot (numbers es))
  along-rising [] h r = tt
  along-rising (e ∷ es) h r = (above, along-rising es (λ g i. h g (inr i)) r.1)
    where
      key-is : (g : Entry) → In g (e ∷ es) → (at_slot g.at).key ≡ g.key
      key-is g i = (slot-named g.at g.key (h g i)).1

      above : Above record_key (at_slot e.at).key (map at_slot (numbers es))
      above x i =
          let w = in-along es x i in
          let k : x.key ≡ w.0.key = ap record_key w.2 ∙ key-is w.0 (inr w.1) in
          (λ j. before (key-is e (inl refl) j) (k j)) ∙ r.0 w.0 w.1

  module _ (d : distinct ss ≡ true) where
    records-rising : Rising record_key records_of
    records-rising = along-rising (entries 0 ss) (in-entries 0 ss) (entries-rising 0 ss d)

    look-record : (k : List ℕ) → record_with_key k records_of ≡ record_for k ss
    look-record k = go (find_key k ss) refl
      where
        go : (o : Option Placed) → find_key k ss ≡ o → record_with_key k records_of ≡ Option.map (λ (p : Placed). p.rec) o
        go none e =
            look_none k records_of λ r i p.
            let w = in-along (entries 0 ss) r i in
            let s = (slot-named w.0.at w.0.key (in-entries 0 ss w.0 w.1)).0 ∙ ap (λ (x : Record). some (used x)) (sym w.2) in
            none-some r (sym (ap (Option.map (λ (p : Placed). p.rec)) e) ∙ record_for-at k ss w.0.at r d s p)
        go (some o) e =
            let t = find-hit k ss o e in
            let i = along-in (entries 0 ss) (entry o.rec.key o.at) (entries-in 0 ss o.at o.rec.key (named-slot o.at o.rec t.there)) in
            let q : at_slot o.at ≡ o.rec = ap record_of (at-get_or ss o.at (used o.rec) empty t.there) in
            look_in k records_of o.rec records-rising (subst (λ (x : Record). In x records_of) q i) t.key

-- ---- the difference

pub merge-difference : (a b : List Slot) → distinct a ≡ true → distinct b ≡ true → merge (records_of a) (records_of b) ≡ difference a b
merge-difference a b d e = difference-unique a b lines rises λ l. (there l, back l)
  where
    lines : List Line
    lines = merge (records_of a) (records_of b)

    rises : Rising line_key lines
    rises = merge-rising (records_of a) (records_of b) (records-rising a d) (records-rising b e)

    line : (k : List ℕ) → line_in k lines ≡ line_of k (record_for k a) (record_for k b)
    line k =
        merge-looks k (records_of a) (records-rising a d) (records_of b) (records-rising b e)
        ∙ (λ i. line_of k (look-record a d k i) (look-record b e k i))

    there : (l : Line) → In l lines → Due a b l
    there l i = sym (line (line_key l)) ∙ in-line_in lines l rises i

    back : (l : Line) → Due a b l → In l lines
    back l h = line_in-in (line_key l) lines l (line (line_key l) ∙ h)

-- the same of two tables and their indexes
pub merge-along : (a l b m : List ℕ) → Along a l → Along b m
    → merge (records_from a l 0) (records_from b m 0) ≡ difference (slots_of form128 a) (slots_of form128 b)
merge-along a l b m p q =
    (λ i. merge (records_from a (p.is i) 0) (records_from b (q.is i) 0))
    ∙ merge-difference (slots_of form128 a) (slots_of form128 b) p.good.keys q.good.keys
