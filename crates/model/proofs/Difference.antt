-- The difference of two tables: a line for each key that differs and no other, in byte order.
use mathlib.Core.Path.{◌≡◌, refl, sym, ap, ◌∙◌, subst}
use mathlib.Core.Logic.{◌⊎◌, inl, inr, ◌↔◌}
use mathlib.Core.Bool.{Bool, true, false, cond, not}
use mathlib.Core.List.{List, [], ◌∷◌, ◌++◌}
use mathlib.Core.Option.{Option, none, some, map}
use Prim.Native.Nat.{ℕ, zero, suc}
use native.Mathlib.Omega.{arith}
use lib.ListN.{drop, get_elem?}
use lib.Dec.{eqb}
use borrow.Author.Tests.{eqb-true, eq-eqb}
use Rattle.model.specs.Bytes.{text, same}
use Rattle.model.specs.Table.{form128, Record, Slot, empty, used, table_bytes, distinct}
use Rattle.model.specs.Search.{find_key}
use Rattle.model.specs.BenchSheet.{foo, zeros}
use Rattle.model.proofs.Basics.{same-eq, eq-same, some-eq, none-some, map-some}
use Rattle.model.proofs.Compute.{computing}
use Rattle.model.proofs.Search.{find-hit, find_at}
use Rattle.model.specs.Order.{before, In, Above, Rising}
use Rattle.model.specs.Difference.{Field, value, version, flags, expiry, Line, removed, added, changed, line_key, when, fields_apart, changed_line, line_of, insert_key, keys_of, record_for, add_line, lines_for, difference, hex, lines_bytes, report}
use Rattle.model.proofs.Order.{before-transitive, not-before}
use Rattle.model.proofs.Rising.{rec, rising-unique}

-- ---- rows, computed

-- document 02's: foo 100 at version 1, then foo 200 at version 2 and bar; from the bytes of two files
example : report (table_bytes form128 (rec "foo" "100" 1 0 0 ∷ empty ∷ [])) (table_bytes form128 (rec "foo" "200" 2 0 0 ∷ rec "bar" "" 1 0 0 ∷ []))
    ≡ text "+ 626172\n~ 666f6f value version\n"
unfolding computing report lines_bytes difference keys_of
example = refl

-- the sixteen digits
hex-row : hex (1 ∷ 35 ∷ 69 ∷ 103 ∷ 137 ∷ 171 ∷ 205 ∷ 239 ∷ []) ≡ text "0123456789abcdef"
hex-row = refl

-- other slots, expired records, all four fields, high bytes
more_rows : (lines_bytes (difference (rec "b" "x" 1 2 3 ∷ rec "a" "" 1 0 0 ∷ []) (empty ∷ rec "a" "" 1 0 0 ∷ rec "b" "y" 2 3 4 ∷ [])) ≡ text "~ 62 value version flags expiry\n")
    × (lines_bytes (difference (rec "a" "" 1 0 5 ∷ empty ∷ []) (empty ∷ empty ∷ [])) ≡ text "- 61\n")
    × (lines_bytes (difference (rec "a" "" 1 0 5 ∷ empty ∷ []) (empty ∷ rec "a" "" 1 0 5 ∷ [])) ≡ [])
    × (lines_bytes (difference (rec "aa" "" 1 0 5 ∷ rec "c" "" 7 7 7 ∷ []) (rec "b" "" 1 0 5 ∷ rec "a" "" 1 0 5 ∷ rec "c" "" 7 7 8 ∷ [])) ≡ text "+ 61\n- 6161\n+ 62\n~ 63 expiry\n")
    × (lines_bytes (difference (used (record { key = 255 ∷ 10 ∷ []; value = []; flags = 0; version = 1; expiry = 0 }) ∷ []) (empty ∷ [])) ≡ text "- ff0a\n")
unfolding lines_bytes difference keys_of find_key
more_rows = (refl, refl, refl, refl, refl)

-- missing, empty, torn and damaged files; the first is tested first
abbrev good : List ℕ
good = foo 1 "100" ++ zeros 128

report-rows :
    (report good (foo 2 "200" ++ zeros 128) ≡ text "~ 666f6f value version\n") × (report good (zeros 128 ++ foo 1 "100") ≡ [])
    × (report [] [] ≡ text "bad 1\n") × (report [] good ≡ text "bad 1\n") × (report good [] ≡ text "bad 2\n")
    × (report good (drop 1 good) ≡ text "bad 2\n") × (report (1 ∷ zeros 127) good ≡ text "bad 1\n")
    × (report good (foo 1 "100" ++ foo 2 "200") ≡ text "bad 2\n")
unfolding computing report lines_bytes difference keys_of
report-rows = (refl, refl, refl, refl, refl, refl, refl, refl)

-- ---- the keys of a table

abbrev pub itself : List ℕ → List ℕ
itself k = k

in-insert_key : (k : List ℕ) (ks : List (List ℕ)) (g : List ℕ) → In g (insert_key k ks) → (g ≡ k) ⊎ In g ks
in-insert_key k [] g i = i
in-insert_key k (x ∷ ks) g i = go (in-insert_key k ks g) (before k x) (same k x) i
  where
    past : (g ≡ k) ⊎ In g ks → (g ≡ k) ⊎ In g (x ∷ ks)
    past (inl p) = inl p
    past (inr j) = inr (inr j)

    go : (In g (insert_key k ks) → (g ≡ k) ⊎ In g ks) → (b c : Bool) → In g (cond b (k ∷ x ∷ ks) (cond c (x ∷ ks) (x ∷ insert_key k ks)))
        → (g ≡ k) ⊎ In g (x ∷ ks)
    go ih true c i = i
    go ih false true i = inr i
    go ih false false (inl p) = inr (inl p)
    go ih false false (inr i) = past (ih i)

insert_key-in : (k : List ℕ) (ks : List (List ℕ)) (g : List ℕ) → (g ≡ k) ⊎ In g ks → In g (insert_key k ks)
insert_key-in k [] g i = i
insert_key-in k (x ∷ ks) g i = go (insert_key-in k ks g) (before k x) (same k x) refl i
  where
    go : ((g ≡ k) ⊎ In g ks → In g (insert_key k ks)) → (b c : Bool) → same k x ≡ c → (g ≡ k) ⊎ In g (x ∷ ks)
        → In g (cond b (k ∷ x ∷ ks) (cond c (x ∷ ks) (x ∷ insert_key k ks)))
    go ih true c e i = i
    go ih false true e (inl p) = inl (p ∙ same-eq k x e)
    go ih false true e (inr i) = i
    go ih false false e (inl p) = inr (ih (inl p))
    go ih false false e (inr (inl p)) = inl p
    go ih false false e (inr (inr j)) = inr (ih (inr j))

rising-insert_key : (k : List ℕ) (ks : List (List ℕ)) → Rising itself ks → Rising itself (insert_key k ks)
rising-insert_key k [] r = (λ g i. absurd i, tt)
rising-insert_key k (x ∷ ks) r = go (rising-insert_key k ks r.1) (before k x) (same k x) refl refl
  where
    front : before k x ≡ true → (g : List ℕ) → In g (x ∷ ks) → before k g ≡ true
    front h g (inl p) = ap (before k) p ∙ h
    front h g (inr i) = before-transitive k x g h (r.0 g i)

    behind : before x k ≡ true → (g : List ℕ) → (g ≡ k) ⊎ In g ks → before x g ≡ true
    behind h g (inl p) = ap (before x) p ∙ h
    behind h g (inr i) = r.0 g i

    go : Rising itself (insert_key k ks) → (b c : Bool) → before k x ≡ b → same k x ≡ c
        → Rising itself (cond b (k ∷ x ∷ ks) (cond c (x ∷ ks) (x ∷ insert_key k ks)))
    go ih true c p q = (front p, r)
    go ih false true p q = r
    go ih false false p q = (λ g i. behind (not-before k x q p) g (in-insert_key k ks g i), ih)

keys_of-rising : (ss : List Slot) → Rising itself (keys_of ss)
unfolding keys_of
keys_of-rising [] = tt
keys_of-rising (empty ∷ ss) = keys_of-rising ss
keys_of-rising (used r ∷ ss) = rising-insert_key r.key (keys_of ss) (keys_of-rising ss)

keys_of-left : (a b : List Slot) (k : List ℕ) → In k (keys_of a) → In k (keys_of (a ++ b))
unfolding keys_of
keys_of-left [] b k i = absurd i
keys_of-left (empty ∷ a) b k i = keys_of-left a b k i
keys_of-left (used r ∷ a) b k i = go (keys_of-left a b k) (in-insert_key r.key (keys_of a) k i)
  where
    go : (In k (keys_of a) → In k (keys_of (a ++ b))) → (k ≡ r.key) ⊎ In k (keys_of a) → In k (insert_key r.key (keys_of (a ++ b)))
    go ih (inl p) = insert_key-in r.key (keys_of (a ++ b)) k (inl p)
    go ih (inr j) = insert_key-in r.key (keys_of (a ++ b)) k (inr (ih j))

keys_of-right : (a b : List Slot) (k : List ℕ) → In k (keys_of b) → In k (keys_of (a ++ b))
unfolding keys_of
keys_of-right [] b k i = i
keys_of-right (empty ∷ a) b k i = keys_of-right a b k i
keys_of-right (used r ∷ a) b k i = insert_key-in r.key (keys_of (a ++ b)) k (inr (keys_of-right a b k i))

at-keys_of : (ss : List Slot) (i : ℕ) (r : Record) → get_elem? ss i ≡ some (used r) → In r.key (keys_of ss)
unfolding keys_of
at-keys_of [] i r e = none-some (used r) e
at-keys_of (s ∷ ss) zero r e =
    subst (λ (x : Slot). In r.key (keys_of (x ∷ ss))) (sym (some-eq e)) (insert_key-in r.key (keys_of ss) r.key (inl refl))
at-keys_of (empty ∷ ss) (suc i) r e = at-keys_of ss i r e
at-keys_of (used q ∷ ss) (suc i) r e = insert_key-in q.key (keys_of ss) r.key (inr (at-keys_of ss i r e))

record_for-keys_of : (k : List ℕ) (ss : List Slot) (r : Record) → record_for k ss ≡ some r → In k (keys_of ss)
record_for-keys_of k ss r e =
    let m = map-some (λ o. o.rec) (find_key k ss) r e in
    let h = find-hit k ss m.0 m.1 in
    subst (λ (x : List ℕ). In x (keys_of ss)) h.key (at-keys_of ss m.0.at m.0.rec h.there)

-- in a table whose keys are distinct, `record_for` is the record with the key, in any slot
pub record_for-at : (k : List ℕ) (ss : List Slot) (i : ℕ) (r : Record) → distinct ss ≡ true → get_elem? ss i ≡ some (used r) → r.key ≡ k → record_for k ss ≡ some r
record_for-at k ss i r d e h = ap (map (λ o. o.rec)) (find_at k ss i r d e h)

-- ---- the line of a key

line_of-key : (k : List ℕ) (x y : Option Record) (l : Line) → line_of k x y ≡ some l → line_key l ≡ k
line_of-key k none none l e = none-some l e
line_of-key k (some r) none l e = ap line_key (sym (some-eq e))
line_of-key k none (some q) l e = ap line_key (sym (some-eq e))
line_of-key k (some r) (some q) l e = go (fields_apart r q) e
  where
    go : (fs : List Field) → changed_line k fs ≡ some l → line_key l ≡ k
    go [] e = none-some l e
    go (f ∷ fs) e = ap line_key (sym (some-eq e))

-- the same in both tables: the key is in neither, or in both with the four fields equal
pub record SameFields (r q : Record) : Type 0 where
  pub same-value : r.value ≡ q.value
  pub same_version : r.version ≡ q.version
  pub same_flags : r.flags ≡ q.flags
  pub same-expiry : r.expiry ≡ q.expiry

abbrev pub Agree : Option Record → Option Record → Type 0
Agree none none = Unit {0}
Agree (some r) none = ⊥
Agree none (some q) = ⊥
Agree (some r) (some q) = SameFields r q

no_fields : (r q : Record) → fields_apart r q ≡ [] → SameFields r q
no_fields r q = go (same r.value q.value) (eqb r.version q.version) (eqb r.flags q.flags) (eqb r.expiry q.expiry) refl refl refl refl
  where
    nothing : (f : Field) (fs : List Field) → f ∷ fs ≡ [] → SameFields r q
    nothing f fs e = let z : ◌≡◌ {A = ℕ} 0 1 = cc in absurd (omega arith)

    go : (a b c d : Bool) → same r.value q.value ≡ a → eqb r.version q.version ≡ b → eqb r.flags q.flags ≡ c → eqb r.expiry q.expiry ≡ d
        → when (not a) value ++ (when (not b) version ++ (when (not c) flags ++ when (not d) expiry)) ≡ [] → SameFields r q
    go true true true true v n f x e = record {
      same-value = same-eq _ _ v;
      same_version = eqb-true _ _ n;
      same_flags = eqb-true _ _ f;
      same-expiry = eqb-true _ _ x;
    }
    go true true true false v n f x e = nothing expiry [] e
    go true true false d v n f x e = nothing flags (when (not d) expiry) e
    go true false c d v n f x e = nothing version (when (not c) flags ++ when (not d) expiry) e
    go false b c d v n f x e = nothing value (when (not b) version ++ (when (not c) flags ++ when (not d) expiry)) e

fields-agree : (r q : Record) → SameFields r q → fields_apart r q ≡ []
fields-agree r q s =
    rw (
      eq-same r.value q.value s.same-value,
      eq-eqb r.version q.version s.same_version,
      eq-eqb r.flags q.flags s.same_flags,
      eq-eqb r.expiry q.expiry s.same-expiry,
    )

-- a key has no line exactly if it is the same in both tables
pub no_line : (k : List ℕ) (x y : Option Record) → (line_of k x y ≡ none) ↔ Agree x y
no_line k none none = (λ e. tt, λ a. refl)
no_line k (some r) none = (λ e. none-some (removed k) (sym e), λ a. absurd a)
no_line k none (some q) = (λ e. none-some (added k) (sym e), λ a. absurd a)
no_line k (some r) (some q) = (λ e. no_fields r q (go (fields_apart r q) e), λ s. ap (changed_line k) (fields-agree r q s))
  where
    go : (fs : List Field) → changed_line k fs ≡ none → fs ≡ []
    go [] e = refl
    go (f ∷ fs) e = none-some (changed k (f ∷ fs)) (sym e)

-- ---- the fields of a line

-- the fields in the order in which they are named
abbrev pub in_order : List Field
in_order = value ∷ version ∷ flags ∷ expiry ∷ []

-- whether a field of two records is equal
abbrev pub alike : Record → Record → Field → Bool
alike r q value = same r.value q.value
alike r q version = eqb r.version q.version
alike r q flags = eqb r.flags q.flags
alike r q expiry = eqb r.expiry q.expiry

-- a list without what passes a test
abbrev pub without : (Field → Bool) → List Field → List Field
without p [] = []
without p (f ∷ fs) = cond (p f) (without p fs) (f ∷ without p fs)

-- the fields stand in order, and just those that differ
pub fields-in-order : (r q : Record) → fields_apart r q ≡ without (alike r q) in_order
fields-in-order r q =
    next (alike r q value) value _ _ (next (alike r q version) version _ _ (next (alike r q flags) flags _ _ (last (alike r q expiry) expiry)))
  where
    next : (b : Bool) (f : Field) (fs gs : List Field) → fs ≡ gs → when (not b) f ++ fs ≡ cond b gs (f ∷ gs)
    next true f fs gs e = e
    next false f fs gs e = ap (λ (l : List Field). f ∷ l) e

    last : (b : Bool) (f : Field) → when (not b) f ≡ cond b [] (f ∷ [])
    last true f = refl
    last false f = refl

-- ---- the lines

module _ (a b : List Slot) where
  abbrev pub line_for : List ℕ → Option Line
  line_for k = line_of k (record_for k a) (record_for k b)

  -- l is the line of its key
  abbrev pub Due : Line → Type 0
  Due l = line_for (line_key l) ≡ some l

  in-lines_for : (ks : List (List ℕ)) (l : Line) → In l (lines_for a b ks) → In (line_key l) ks × Due l
  in-lines_for [] l i = absurd i
  in-lines_for (k ∷ ks) l i = go (in-lines_for ks l) (line_for k) refl i
    where
      late : In (line_key l) ks × Due l → In (line_key l) (k ∷ ks) × Due l
      late w = (inr w.0, w.1)

      go : (In l (lines_for a b ks) → In (line_key l) ks × Due l) → (o : Option Line) → line_for k ≡ o → In l (add_line o (lines_for a b ks))
          → In (line_key l) (k ∷ ks) × Due l
      go ih none e i = late (ih i)
      go ih (some m) e (inl p) =
          let q : line_for k ≡ some l = e ∙ ap (λ (x : Line). some x) (sym p) in
          let same_key : line_key l ≡ k = line_of-key k (record_for k a) (record_for k b) l q in
          (inl same_key, ap line_for same_key ∙ q)
      go ih (some m) e (inr i) = late (ih i)

  lines_for-in : (ks : List (List ℕ)) (k : List ℕ) (l : Line) → In k ks → line_for k ≡ some l → In l (lines_for a b ks)
  lines_for-in [] k l i e = absurd i
  lines_for-in (x ∷ ks) k l (inl p) e = subst (λ (o : Option Line). In l (add_line o (lines_for a b ks))) (sym (ap line_for (sym p) ∙ e)) (inl refl)
  lines_for-in (x ∷ ks) k l (inr i) e = go (line_for x) (lines_for-in ks k l i e)
    where
      go : (o : Option Line) → In l (lines_for a b ks) → In l (add_line o (lines_for a b ks))
      go none i = i
      go (some m) i = inr i

  lines_for-rising : (ks : List (List ℕ)) → Rising itself ks → Rising line_key (lines_for a b ks)
  lines_for-rising [] r = tt
  lines_for-rising (k ∷ ks) r = go (line_for k) refl (lines_for-rising ks r.1)
    where
      go : (o : Option Line) → line_for k ≡ o → Rising line_key (lines_for a b ks) → Rising line_key (add_line o (lines_for a b ks))
      go none e h = h
      go (some m) e h = (above, h)
        where
          above : Above line_key (line_key m) (lines_for a b ks)
          above l i =
              ap (λ (x : List ℕ). before x (line_key l)) (line_of-key k (record_for k a) (record_for k b) m e)
              ∙ r.0 (line_key l) (in-lines_for ks l i).0

  line-keys_of : (k : List ℕ) (l : Line) → line_for k ≡ some l → In k (keys_of (a ++ b))
  line-keys_of k l e = go (record_for k a) (record_for k b) refl refl e
    where
      go : (x y : Option Record) → record_for k a ≡ x → record_for k b ≡ y → line_of k x y ≡ some l → In k (keys_of (a ++ b))
      go none none p q e = none-some l e
      go (some r) none p q e = keys_of-left a b k (record_for-keys_of k a r p)
      go none (some r) p q e = keys_of-right a b k (record_for-keys_of k b r q)
      go (some r) (some s) p q e = keys_of-left a b k (record_for-keys_of k a r p)

  -- keys strictly rise along the lines
  pub difference-rising : Rising line_key (difference a b)
  unfolding difference
  difference-rising = lines_for-rising (keys_of (a ++ b)) (keys_of-rising (a ++ b))

  -- a line stands there exactly if it is its key's
  pub difference-exact : (l : Line) → In l (difference a b) ↔ Due l
  unfolding difference
  difference-exact l = (
    λ i. (in-lines_for (keys_of (a ++ b)) l i).1,
    λ e. lines_for-in (keys_of (a ++ b)) (line_key l) l (line-keys_of (line_key l) l e) e,
  )

  -- a key's line stands there
  pub difference-has : (k : List ℕ) (l : Line) → line_for k ≡ some l → In l (difference a b)
  unfolding difference
  difference-has k l e = lines_for-in (keys_of (a ++ b)) k l (line-keys_of k l e) e

  -- a key that is the same in both tables has no line
  pub difference-agree : (l : Line) → In l (difference a b) → Agree (record_for (line_key l) a) (record_for (line_key l) b) → ⊥
  difference-agree l i g =
      none-some l (sym ((no_line (line_key l) (record_for (line_key l) a) (record_for (line_key l) b)).1 g) ∙ (difference-exact l).0 i)

  -- a key has a line exactly if it stands in one table alone or a field differs
  pub has-line : (k : List ℕ) → ((l : Line) × In l (difference a b) × (line_key l ≡ k)) ↔ (Agree (record_for k a) (record_for k b) → ⊥)
  has-line k = (λ w g. difference-agree w.0 w.1 (subst (λ (x : List ℕ). Agree (record_for x a) (record_for x b)) (sym w.2) g), λ h. go h (line_for k) refl)
    where
      go : (Agree (record_for k a) (record_for k b) → ⊥) → (o : Option Line) → line_for k ≡ o → (l : Line) × In l (difference a b) × (line_key l ≡ k)
      go h none e = absurd (h ((no_line k (record_for k a) (record_for k b)).0 e))
      go h (some l) e = (l, difference-has k l e, line_of-key k (record_for k a) (record_for k b) l e)

  -- at most one line a key
  pub difference-once : (l m : Line) → In l (difference a b) → In m (difference a b) → line_key l ≡ line_key m → l ≡ m
  difference-once l m i j e = some-eq (sym ((difference-exact l).0 i) ∙ (ap line_for e ∙ (difference-exact m).0 j))

  -- it is the only such list
  pub difference-unique : (ls : List Line) → Rising line_key ls → ((l : Line) → In l ls ↔ Due l) → ls ≡ difference a b
  difference-unique ls r h =
      rising-unique line_key ls (difference a b) r difference-rising
      (λ l i. (difference-exact l).1 ((h l).0 i)) (λ l i. (h l).1 ((difference-exact l).0 i))

-- tables that hold the same records, in any slots, have no lines
difference-none : (a b : List Slot) → ((k : List ℕ) → Agree (record_for k a) (record_for k b)) → difference a b ≡ []
difference-none a b h =
    sym (difference-unique a b [] tt (λ l. (λ i. absurd i, λ e. none-some l (sym ((no_line (line_key l) (record_for (line_key l) a) (record_for (line_key l) b)).1 (h (line_key l))) ∙ e))))

-- so have tables with the same records in other slots
abbrev pub Holds : List Slot → Record → Type 0
Holds ss r = (i : ℕ) × (get_elem? ss i ≡ some (used r))

pub same-records : (a b : List Slot) → distinct a ≡ true → distinct b ≡ true → ((r : Record) → Holds a r ↔ Holds b r) → difference a b ≡ []
same-records a b d e h = difference-none a b (λ k. go k (record_for k a) (record_for k b) refl refl)
  where
    held : (k : List ℕ) (ss : List Slot) (r : Record) → record_for k ss ≡ some r → Holds ss r × (r.key ≡ k)
    held k ss r q =
        let m = map-some (λ o. o.rec) (find_key k ss) r q in
        let t = find-hit k ss m.0 m.1 in
        ((m.0.at, t.there ∙ ap (λ (x : Record). some (used x)) m.2), ap (λ (x : Record). x.key) (sym m.2) ∙ t.key)

    go : (k : List ℕ) (x y : Option Record) → record_for k a ≡ x → record_for k b ≡ y → Agree x y
    go k none none p q = tt
    go k (some r) y p q =
        let w = held k a r p in
        let j = (h r).0 w.0 in
        subst (Agree (some r)) (sym (record_for-at k b j.0 r e j.1 w.1) ∙ q) (record { same-value = refl; same_version = refl; same_flags = refl; same-expiry = refl })
    go k none (some r) p q =
        let w = held k b r q in
        let j = (h r).1 w.0 in
        none-some r (sym p ∙ record_for-at k a j.0 r d j.1 w.1)
