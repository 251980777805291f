-- The index made slot by slot, from the last one down.
use Prim.Native.Nat.{ℕ, zero, suc, ◌+◌, ◌-◌, ◌≤◌, ◌<◌}
use native.Mathlib.Nat.{zero-add, suc-add}
use native.Mathlib.Omega.{arith}
use mathlib.Core.Path.{◌≡◌, refl, sym, ap, ◌∙◌}
use mathlib.Core.Logic.{inl, inr}
use mathlib.Core.Bool.{true, not}
use mathlib.Core.List.{List, [], ◌∷◌, ◌++◌, append_assoc}
use mathlib.Core.Option.{some}
use lib.ListN.{length, replicate, take, drop, get_or, get_elem?, length-append, length-drop}
use lib.Seq.{length-take-le, take-append-le, drop-append-le, take_at, drop_at, drop-cons, drop-drop}
use borrow.Author.Tests.{not-true}
use Rattle.model.specs.Bytes.{part, padded, written}
use Rattle.model.specs.Table.{Record, Slot, empty, used, any_holds, unlike, distinct}
use Rattle.model.specs.Order.{before, In, Rising, Entry, entry, entry_key, insert, entries, numbers}
use Rattle.model.proofs.Basics.{and_left, and_right, some-eq, none-some, at_length, at-get_or}
use Rattle.model.proofs.Order.{before-asymmetric}
use Rattle.model.proofs.Rising.{Without}
use Rattle.model.proofs.Index.{key_in-slot, in-entries, none_in}
use Rattle.slice.proofs.Written.{drop-replicate}

-- ---- an entry put in at its place

pub insert-at : (e : Entry) (es : List Entry) (p : ℕ) → p ≤ length es → ((g : Entry) → In g (take p es) → before g.key e.key ≡ true)
    → ((g : Entry) → In g (drop p es) → before e.key g.key ≡ true) → insert e es ≡ take p es ++ (e ∷ drop p es)
insert-at e [] zero h low high = refl
insert-at e [] (suc p) h low high = refl
insert-at e (f ∷ fs) zero h low high = rw (high f (inl refl))
insert-at e (f ∷ fs) (suc p) h low high =
    rw (before-asymmetric f.key e.key (low f (inl refl)))
    (ap (λ (l : List Entry). f ∷ l) (insert-at e fs p (omega arith) (λ g i. low g (inr i)) high))

-- ---- places in a list

module _ {A : Type 0} where
  pub at_in : (l : List A) (a : A) (j : ℕ) → get_elem? l j ≡ some a → In a l
  at_in [] a j e = none-some a e
  at_in (x ∷ l) a zero e = inl (sym (some-eq e))
  at_in (x ∷ l) a (suc j) e = inr (at_in l a j e)

  in-at : (l : List A) (a : A) → In a l → (j : ℕ) × (get_elem? l j ≡ some a)
  in-at [] a i = absurd i
  in-at (x ∷ l) a (inl p) = (0, ap (λ (y : A). some y) (sym p))
  in-at (x ∷ l) a (inr i) = let w = in-at l a i in (suc w.0, w.1)

  pub in_take : (p : ℕ) (l : List A) (a : A) → In a (take p l) → (j : ℕ) × (j < p) × (get_elem? l j ≡ some a)
  in_take zero l a i = absurd i
  in_take (suc p) [] a i = absurd i
  in_take (suc p) (x ∷ l) a (inl q) = (0, omega arith, ap (λ (y : A). some y) (sym q))
  in_take (suc p) (x ∷ l) a (inr i) = let w = in_take p l a i in (suc w.0, omega (arith, w.1), w.2)

  pub in-drop : (p : ℕ) (l : List A) (a : A) → In a (drop p l) → (j : ℕ) × (p ≤ j) × (get_elem? l j ≡ some a)
  in-drop zero l a i = let w = in-at l a i in (w.0, omega arith, w.1)
  in-drop (suc p) [] a i = absurd i
  in-drop (suc p) (x ∷ l) a i = let w = in-drop p l a i in (suc w.0, omega (arith, w.1), w.2)

pub rising-at : (es : List Entry) (i j : ℕ) (g h : Entry) → Rising entry_key es → get_elem? es i ≡ some g → get_elem? es j ≡ some h → i < j → before g.key h.key ≡ true
rising-at [] i j g h r p q l = none-some g p
rising-at (e ∷ es) zero zero g h r p q l = absurd (omega arith)
rising-at (e ∷ es) zero (suc j) g h r p q l = ap (λ (x : Entry). before x.key h.key) (sym (some-eq p)) ∙ r.0 h (at_in es h j q)
rising-at (e ∷ es) (suc i) zero g h r p q l = absurd (omega arith)
rising-at (e ∷ es) (suc i) (suc j) g h r p q l = rising-at es i j g h r.1 p q (omega arith)

pub number_at : (es : List Entry) (z : List ℕ) (i : ℕ) (g : Entry) → get_elem? es i ≡ some g → get_or (numbers es ++ z) i 0 ≡ g.at
number_at [] z i g e = none-some g e
number_at (f ∷ es) z zero g e = ap (λ (x : Entry). x.at) (some-eq e)
number_at (f ∷ es) z (suc i) g e = number_at es z i g e

-- ---- the numbers after one was put in

map-take : (p : ℕ) (es : List Entry) → numbers (take p es) ≡ take p (numbers es)
map-take zero es = refl
map-take (suc p) [] = refl
map-take (suc p) (e ∷ es) = ap (λ (l : List ℕ). e.at ∷ l) (map-take p es)

map-drop : (p : ℕ) (es : List Entry) → numbers (drop p es) ≡ drop p (numbers es)
map-drop zero es = refl
map-drop (suc p) [] = refl
map-drop (suc p) (e ∷ es) = map-drop p es

map-join : (es fs : List Entry) → numbers (es ++ fs) ≡ numbers es ++ numbers fs
map-join [] fs = refl
map-join (e ∷ es) fs = ap (λ (l : List ℕ). e.at ∷ l) (map-join es fs)

pub put-numbers : (es : List Entry) (e : Entry) (p : ℕ) → numbers (take p es ++ (e ∷ drop p es)) ≡ take p (numbers es) ++ (e.at ∷ drop p (numbers es))
put-numbers es e p = map-join (take p es) (e ∷ drop p es) ∙ (λ i. map-take p es i ++ (e.at ∷ map-drop p es i))

-- the list with the numbers from place p on moved up is the padded list of the numbers with one put in
pub put-list : (xs : List ℕ) (room n p x : ℕ) (l : List ℕ) → l ≡ padded room xs → n ≡ length xs → n < room → p ≤ n
    → written p (x ∷ part p (n - p) l) l ≡ padded room (take p xs ++ (x ∷ drop p xs))
put-list xs room n p x l e k h q =
    let z : List ℕ = replicate (room - length xs) 0 in
    let front : take p l ≡ take p xs = ap (take p) e ∙ take-append-le p xs z (omega arith) in
    let back : drop p l ≡ drop p xs ++ z = ap (drop p) e ∙ drop-append-le p xs z (omega arith) in
    let size : length (drop p xs) ≡ n - p = length-drop p xs ∙ ap (λ (m : ℕ). m - p) (sym k) in
    let moved : part p (n - p) l ≡ drop p xs = ap (take (n - p)) back ∙ take_at (drop p xs) z (n - p) size in
    let end : p + suc (length (part p (n - p) l)) ≡ n + 1 = ap (λ (s : List ℕ). p + suc (length s)) moved ∙ omega (arith, size) in
    let rest : drop (n + 1) l ≡ replicate (room - length xs - 1) 0 =
    sym (drop-drop 1 n l) ∙ ap (drop 1) (ap (drop n) e ∙ drop_at xs z n (sym k)) ∙ drop-replicate 1 (room - length xs) 0 in
    let long : length (take p xs ++ (x ∷ drop p xs)) ≡ n + 1 =
    length-append (take p xs) (x ∷ drop p xs) ∙ omega (arith, length-take-le p xs (omega arith), size) in
    let left : room - length xs - 1 ≡ room - length (take p xs ++ (x ∷ drop p xs)) = omega arith in
    (λ i. front i ++ ((x ∷ moved i) ++ drop (end i) l))
    ∙ ap (λ (s : List ℕ). take p xs ++ ((x ∷ drop p xs) ++ s)) (rest ∙ ap (λ (m : ℕ). replicate m 0) left)
    ∙ sym (append_assoc (take p xs) (x ∷ drop p xs) (replicate (room - length (take p xs ++ (x ∷ drop p xs))) 0))

-- ---- the slots from one on

module _ (ss : List Slot) (i : ℕ) where
  from-slot : (s : Slot) → get_elem? ss i ≡ some s → drop i ss ≡ s ∷ drop (suc i) ss
  from-slot s e = drop-cons ss i empty (at_length ss i s e) ∙ ap (λ (x : Slot). x ∷ drop (suc i) ss) (at-get_or ss i s empty e)

  pub entries-unused : get_elem? ss i ≡ some empty → entries i (drop i ss) ≡ entries (suc i) (drop (suc i) ss)
  unfolding entries
  entries-unused e = ap (entries i) (from-slot empty e)

  pub entries-used : (r : Record) → get_elem? ss i ≡ some (used r) → entries i (drop i ss) ≡ insert (entry r.key i) (entries (suc i) (drop (suc i) ss))
  unfolding entries
  entries-used r e = ap (entries i) (from-slot (used r) e)

pub distinct-drop : (ss : List Slot) (i : ℕ) → distinct ss ≡ true → distinct (drop i ss) ≡ true
unfolding distinct
distinct-drop ss zero d = d
distinct-drop [] (suc i) d = refl
distinct-drop (s ∷ ss) (suc i) d = distinct-drop ss i (and_right (unlike s ss) (distinct ss) d)

-- no slot after one in use has its key
pub key-alone : (ss : List Slot) (i : ℕ) (r : Record) → distinct ss ≡ true → get_elem? ss i ≡ some (used r) → Without entry_key r.key (entries (suc i) (drop (suc i) ss))
unfolding distinct
key-alone ss i r d e =
    let h : distinct (used r ∷ drop (suc i) ss) ≡ true = ap distinct (sym (from-slot ss i (used r) e)) ∙ distinct-drop ss i d in
    none_in r.key (suc i) (drop (suc i) ss) (not-true (any_holds r.key (drop (suc i) ss)) (and_left (not (any_holds r.key (drop (suc i) ss))) (distinct (drop (suc i) ss)) h))

at_drop : (ss : List Slot) (i j : ℕ) → get_elem? (drop i ss) j ≡ get_elem? ss (i + j)
at_drop ss zero j = ap (get_elem? ss) (sym (zero-add j))
at_drop [] (suc i) j = refl
at_drop (s ∷ ss) (suc i) j = at_drop ss i j ∙ ap (get_elem? (s ∷ ss)) (sym (suc-add i j))

-- an entry is that of a slot in use
pub entry-slot : (ss : List Slot) (i : ℕ) (g : Entry) → In g (entries i (drop i ss)) → (r : Record) × (get_elem? ss g.at ≡ some (used r)) × (r.key ≡ g.key)
entry-slot ss i g h =
    let w = key_in-slot i (drop i ss) g.at g.key (in-entries i (drop i ss) g h) in
    (w.1, ap (get_elem? ss) w.4 ∙ sym (at_drop ss i w.0) ∙ w.2, w.3)
