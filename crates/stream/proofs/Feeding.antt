-- `feed` is what the request asks, and nothing else is.
use mathlib.Core.Path.{◌≡◌, refl, sym, ap, ◌∙◌, subst}
use mathlib.Core.Bool.{Bool, true, false, cond, ◌&&◌, not}
use mathlib.Core.List.{List, [], ◌∷◌, ◌++◌, append_assoc, append-nil}
use Prim.Native.Nat.{ℕ, zero, suc, ◌+◌, ◌≤◌, ◌<◌}
use native.Mathlib.Omega.{arith}
use lib.ListN.{length, take, drop, length-append, length-take, length-drop, take-append-drop}
use lib.Seq.{take-length, take-take, take-append-le, take-append-add}
use lib.Dec.{ltb}
use borrow.Author.Tests.{ltb-true, ltb-false, not-true}
use Rattle.model.proofs.Basics.{never, and_left, and_right}
use Rattle.stream.specs.Frame.{viable}
use Rattle.stream.specs.Feed.{Whole, Can, Proper, whole, holdable, Fed, more, complete, refused, further, take_bytes, feed, Waits, Completes, Dies, Right}
use Rattle.stream.proofs.Viable.{viable-can, can-viable, whole_is, is_whole, whole-can, can-front, whole-last}

-- ---- `holdable` decides `Proper`

pub holdable-proper : (s : List ℕ) → holdable s ≡ true → Proper s
holdable-proper s e = record {
  can = viable-can s (and_left (viable s) (not (whole s)) e);
  unfinished = λ w. never (whole s) (is_whole s w) (not-true (whole s) (and_right (viable s) (not (whole s)) e));
}

pub proper-holdable : (s : List ℕ) → Proper s → holdable s ≡ true
proper-holdable s p = go (whole s) refl
  where
    go : (b : Bool) → whole s ≡ b → viable s && not b ≡ true
    go true e = absurd (p.unfinished (whole_is s e))
    go false e = rw (can-viable s p.can)

-- ---- what `feed` gives is right

further-right : (held : List ℕ) (c : ℕ) (piece : List ℕ) (x : Fed) → Proper held → Proper (held ++ (c ∷ [])) → Right (held ++ (c ∷ [])) piece x
    → Right held (c ∷ piece) (further x)
further-right held c piece (more new) p q r = record {
  from = p;
  bytes = r.bytes ∙ append_assoc held (c ∷ []) piece;
  proper = r.proper;
}
further-right held c piece (complete n command) p q r = record {
  from = p;
  least = omega arith;
  most = omega (arith, r.most);
  bytes = r.bytes ∙ append_assoc held (c ∷ []) (take n piece);
  whole = r.whole;
}
further-right held c piece (refused zero) p q r = absurd (r q)
further-right held c piece (refused (suc n)) p q r = record {
  from = p;
  within = omega (arith, r.within);
  proper = subst Proper (append_assoc held (c ∷ []) (take n piece)) r.proper;
  dead = λ k. r.dead (subst Can (sym (append_assoc held (c ∷ []) (take (suc n) piece))) k);
}

take_bytes-right : (held piece : List ℕ) → Proper held → Right held piece (take_bytes held piece)
take_bytes-right held [] p = record { from = p; bytes = sym (append-nil held); proper = p }
take_bytes-right held (c ∷ piece) p = go (whole (held ++ (c ∷ []))) refl (viable (held ++ (c ∷ []))) refl (take_bytes-right (held ++ (c ∷ [])) piece)
  where
    go : (w : Bool) → whole (held ++ (c ∷ [])) ≡ w → (v : Bool) → viable (held ++ (c ∷ [])) ≡ v
        → (Proper (held ++ (c ∷ [])) → Right (held ++ (c ∷ [])) piece (take_bytes (held ++ (c ∷ [])) piece))
        → Right held (c ∷ piece) (cond w (complete 1 (held ++ (c ∷ []))) (cond v (further (take_bytes (held ++ (c ∷ [])) piece)) (refused 1)))
    go true e v f again = record { from = p; least = omega arith; most = omega arith; bytes = refl; whole = whole_is (held ++ (c ∷ [])) e }
    go false e true f again =
        let q : Proper (held ++ (c ∷ [])) = record { can = viable-can (held ++ (c ∷ [])) f; unfinished = λ w. never (whole (held ++ (c ∷ []))) (is_whole (held ++ (c ∷ [])) w) e } in
        further-right held c piece (take_bytes (held ++ (c ∷ [])) piece) p q (again q)
    go false e false f again = record {
      from = p;
      within = omega arith;
      proper = subst Proper (sym (append-nil held)) p;
      dead = λ k. never (viable (held ++ (c ∷ []))) (can-viable (held ++ (c ∷ [])) k) f;
    }

pub feed-right : (held piece : List ℕ) → Right held piece (feed held piece)
unfolding feed
feed-right held piece = go (holdable held) refl
  where
    go : (b : Bool) → holdable held ≡ b → Right held piece (cond b (take_bytes held piece) (refused 0))
    go true e = take_bytes-right held piece (holdable-proper held e)
    go false e = λ p. never (holdable held) (proper-holdable held p) e

-- ---- and nothing else is

module _ (held piece : List ℕ) where
  -- a shorter front of a piece
  split : (n m : ℕ) → n ≤ m → held ++ take m piece ≡ (held ++ take n piece) ++ drop n (take m piece)
  split n m l =
      ap (λ (y : List ℕ). held ++ y) (sym (take-append-drop n (take m piece)) ∙ ap (λ (y : List ℕ). y ++ drop n (take m piece)) (take-take n m piece l))
      ∙ sym (append_assoc held (take n piece) (drop n (take m piece)))

  can-sooner : (n m : ℕ) → n ≤ m → Can (held ++ take m piece) → Can (held ++ take n piece)
  can-sooner n m l k = can-front (held ++ take n piece) (drop n (take m piece)) (subst Can (split n m l) k)

  -- nothing can follow a whole command
  whole-ends : (n m : ℕ) → n < m → m ≤ length piece → Whole (held ++ take n piece) → Can (held ++ take m piece) → ⊥
  whole-ends n m l h w k = go (drop n (take m piece)) (subst Can (split n m (omega arith)) k) (omega (arith, length-drop n (take m piece), length-take m piece))
    where
      go : (r : List ℕ) → Can ((held ++ take n piece) ++ r) → 1 ≤ length r → ⊥
      go [] k z = omega arith
      go (c ∷ r) k z = whole-last (held ++ take n piece) c r w k

  whole-or-proper : (n m : ℕ) → n ≤ m → m ≤ length piece → Whole (held ++ take n piece) → Proper (held ++ take m piece) → ⊥
  whole-or-proper n m l h w p = go (ltb n m) refl
    where
      go : (b : Bool) → ltb n m ≡ b → ⊥
      go true e = whole-ends n m (ltb-true n m e) h w p.can
      go false e =
          let z : n ≡ m = omega (arith, ltb-false n m e) in
          p.unfinished (subst (λ (y : ℕ). Whole (held ++ take y piece)) z w)

  all-taken : {new : List ℕ} → Waits held piece new → Proper (held ++ take (length piece) piece)
  all-taken w = subst Proper (w.bytes ∙ ap (λ (y : List ℕ). held ++ y) (sym (take-length piece))) w.proper

  taken-whole : {n : ℕ} {c : List ℕ} → Completes held piece n c → Whole (held ++ take n piece)
  taken-whole c = subst Whole c.bytes c.whole

  waits-completes : {new : List ℕ} {n : ℕ} {c : List ℕ} → Waits held piece new → Completes held piece n c → ⊥
  waits-completes {new} {n} w c = whole-or-proper n (length piece) c.most (omega arith) (taken-whole c) (all-taken w)

  waits-dies : {new : List ℕ} {n : ℕ} → Waits held piece new → Dies held piece n → ⊥
  waits-dies {new} {n} w d = d.dead (can-sooner (suc n) (length piece) d.within (all-taken w).can)

  completes-dies : {n : ℕ} {c : List ℕ} {m : ℕ} → Completes held piece n c → Dies held piece m → ⊥
  completes-dies {n} {c} {m} k d = go (ltb m n) refl
    where
      go : (b : Bool) → ltb m n ≡ b → ⊥
      go true e = d.dead (can-sooner (suc m) n (ltb-true m n e) (whole-can (held ++ take n piece) (taken-whole k)))
      go false e = whole-or-proper n m (ltb-false m n e) (omega (arith, d.within)) (taken-whole k) d.proper

  completes-once : {n : ℕ} {c : List ℕ} {m : ℕ} {d : List ℕ} → Completes held piece n c → Completes held piece m d → n < m → ⊥
  completes-once {n} {c} {m} {d} k l h = whole-ends n m h l.most (taken-whole k) (whole-can (held ++ take m piece) (taken-whole l))

  dies-once : {n m : ℕ} → Dies held piece n → Dies held piece m → n < m → ⊥
  dies-once {n} {m} k l h = k.dead (can-sooner (suc n) m h l.proper.can)

  equal : (n m : ℕ) → (n < m → ⊥) → (m < n → ⊥) → n ≡ m
  equal n m p q = go (ltb n m) refl (ltb m n) refl
    where
      go : (a : Bool) → ltb n m ≡ a → (b : Bool) → ltb m n ≡ b → n ≡ m
      go true e b f = absurd (p (ltb-true n m e))
      go false e true f = absurd (q (ltb-true m n f))
      go false e false f = omega (arith, ltb-false n m e, ltb-false m n f)

  pub right_unique : (x y : Fed) → Right held piece x → Right held piece y → x ≡ y
  right_unique (more a) (more b) p q = ap more (p.bytes ∙ sym q.bytes)
  right_unique (more a) (complete n c) p q = absurd (waits-completes p q)
  right_unique (more a) (refused zero) p q = absurd (q p.from)
  right_unique (more a) (refused (suc n)) p q = absurd (waits-dies p q)
  right_unique (complete n c) (more b) p q = absurd (waits-completes q p)
  right_unique (complete n c) (complete m d) p q =
      let z : n ≡ m = equal n m (completes-once p q) (completes-once q p) in
      let bytes : c ≡ d = p.bytes ∙ (ap (λ (y : ℕ). held ++ take y piece) z ∙ sym q.bytes) in
      λ i. complete (z i) (bytes i)
  right_unique (complete n c) (refused zero) p q = absurd (q p.from)
  right_unique (complete n c) (refused (suc m)) p q = absurd (completes-dies p q)
  right_unique (refused zero) (more b) p q = absurd (p q.from)
  right_unique (refused zero) (complete m d) p q = absurd (p q.from)
  right_unique (refused zero) (refused zero) p q = refl
  right_unique (refused zero) (refused (suc m)) p q = absurd (p q.from)
  right_unique (refused (suc n)) (more b) p q = absurd (waits-dies q p)
  right_unique (refused (suc n)) (complete m d) p q = absurd (completes-dies q p)
  right_unique (refused (suc n)) (refused zero) p q = absurd (q p.from)
  right_unique (refused (suc n)) (refused (suc m)) p q = ap (λ (y : ℕ). refused (suc y)) (equal n m (dies-once p q) (dies-once q p))

  -- what is right is what `feed` gives
  pub feed-is : (x : Fed) → Right held piece x → feed held piece ≡ x
  feed-is x r = right_unique (feed held piece) x (feed-right held piece) r

  feed-was : (x : Fed) → feed held piece ≡ x → Right held piece x
  feed-was x e = subst (Right held piece) e (feed-right held piece)

  -- ---- refused exactly at the first byte after which no whole command can follow

  pub dies-refused : (n : ℕ) → Dies held piece n → feed held piece ≡ refused (suc n)
  dies-refused n d = feed-is (refused (suc n)) d

  pub refused-dies : (n : ℕ) → feed held piece ≡ refused (suc n) → Dies held piece n
  refused-dies n e = feed-was (refused (suc n)) e

  -- it is the first: after every byte before it one could follow
  pub dies-first : (n : ℕ) → Dies held piece n → (m : ℕ) → m ≤ n → Can (held ++ take m piece)
  dies-first n d m l = can-sooner m n l d.proper.can

  -- what cannot have been held takes no byte, and nothing else does
  pub improper-refused : (Proper held → ⊥) → feed held piece ≡ refused 0
  improper-refused ne = feed-is (refused 0) ne

  pub refused-improper : feed held piece ≡ refused 0 → Proper held → ⊥
  refused-improper e = feed-was (refused 0) e

-- ---- where a piece ends does not matter

-- so many bytes more taken before
abbrev pub forward : ℕ → Fed → Fed
forward n (more new) = more new
forward n (complete m c) = complete (n + m) c
forward n (refused m) = refused (n + m)

module _ (held p q : List ℕ) where
  more-length : (n : ℕ) → n ≤ length p → n ≤ length (p ++ q)
  more-length n l = omega (arith, length-append p q)

  front : (n : ℕ) → n ≤ length p → held ++ take n p ≡ held ++ take n (p ++ q)
  front n l = ap (λ (y : List ℕ). held ++ y) (sym (take-append-le n p q l))

  pub feed-append-complete : (n : ℕ) (c : List ℕ) → feed held p ≡ complete n c → feed held (p ++ q) ≡ complete n c
  feed-append-complete n c e =
      let r : Completes held p n c = feed-was held p (complete n c) e in
      feed-is held (p ++ q) (complete n c)
      (record { from = r.from; least = r.least; most = more-length n r.most; bytes = r.bytes ∙ front n r.most; whole = r.whole })

  pub feed-append-refused : (n : ℕ) → feed held p ≡ refused n → feed held (p ++ q) ≡ refused n
  feed-append-refused zero e = improper-refused held (p ++ q) (refused-improper held p e)
  feed-append-refused (suc n) e =
      let r : Dies held p n = refused-dies held p n e in
      dies-refused held (p ++ q) n
      (record {
        from = r.from;
        within = more-length (suc n) r.within;
        proper = subst Proper (front n (omega (arith, r.within))) r.proper;
        dead = λ k. r.dead (subst Can (sym (front (suc n) r.within)) k);
      })

  pub feed-append-more : (new : List ℕ) → feed held p ≡ more new → feed held (p ++ q) ≡ forward (length p) (feed new q)
  feed-append-more new e = go (feed new q) (feed-right new q)
    where
      r : Waits held p new
      r = feed-was held p (more new) e

      joins : (s : List ℕ) → new ++ s ≡ held ++ (p ++ s)
      joins s = ap (λ (y : List ℕ). y ++ s) r.bytes ∙ append_assoc held p s

      taking : (n : ℕ) → new ++ take n q ≡ held ++ take (length p + n) (p ++ q)
      taking n = joins (take n q) ∙ ap (λ (y : List ℕ). held ++ y) (sym (take-append-add p q n))

      past : (n : ℕ) → new ++ take (suc n) q ≡ held ++ take (suc (length p + n)) (p ++ q)
      past n = let e : length p + suc n ≡ suc (length p + n) = omega arith in taking (suc n) ∙ ap (λ (y : ℕ). held ++ take y (p ++ q)) e

      go : (x : Fed) → Right new q x → feed held (p ++ q) ≡ forward (length p) x
      go (more h) w = feed-is held (p ++ q) (more h) (record { from = r.from; bytes = w.bytes ∙ joins q; proper = w.proper })
      go (complete n c) w =
          feed-is held (p ++ q) (complete (length p + n) c)
          (record {
            from = r.from;
            least = omega (arith, w.least);
            most = omega (arith, w.most, length-append p q);
            bytes = w.bytes ∙ taking n;
            whole = w.whole;
          })
      go (refused zero) w = absurd (w r.proper)
      go (refused (suc n)) w =
          dies-refused held (p ++ q) (length p + n)
          (record {
            from = r.from;
            within = omega (arith, w.within, length-append p q);
            proper = subst Proper (taking n) w.proper;
            dead = λ k. w.dead (subst Can (sym (past n)) k);
          })
          ∙ ap refused (omega arith)
