-- The walk along the indexes of two tables: what a step passes, and the lines that are still to be written.
use mathlib.Core.Path.{◌≡◌, refl, sym, ap, ◌∙◌, subst}
use mathlib.Core.Bool.{Bool, true, false}
use mathlib.Core.List.{List, [], ◌∷◌}
use Prim.Native.Nat.{ℕ, ◌+◌, ◌-◌, ◌≤◌, ◌<◌}
use native.Mathlib.Nat.{sub-zero}
use native.Mathlib.Omega.{arith}
use lib.ListN.{length, take, drop, replicate, length-map}
use lib.Seq.{take_at}
use lib.Dec.{ltb}
use borrow.Author.Tests.{ltb-true, ltb-false}
use Rattle.model.specs.Table.{Record, form128}
use Rattle.model.specs.Order.{In, entries, index_of}
use Rattle.model.specs.Difference.{Line, removed, added, lines_bytes}
use Rattle.model.proofs.Basics.{at-within}
use Rattle.model.proofs.Index.{length-entries, index-exact}
use Rattle.slice.specs.Wrote.{Wrote}
use Rattle.slice.proofs.Writing.{same_size, wrote_then}
use Rattle.table.specs.Slots.{Good, slots_of, InUseAt}
use Rattle.table.proofs.Records.{slots-limit}
use Rattle.table.proofs.Parts.{in-range}
use Rattle.std.proofs.Common.{Ordering}
use Rattle.std.proofs.Common.{Less, Equal, Greater}
use Rattle.order.specs.Places.{Lists}
use Rattle.order.proofs.Building.{at_in}
use Rattle.difference.specs.declared.walk.Walk.{Walk}
use Rattle.difference.specs.Lines.{change_lines}
use Rattle.difference.specs.Walk.{merge, next_of, Along, number_at, records_from, lines_left, Ready, Passes, Steps}
use Rattle.slice.proofs.Pieces.{wrote_nothing}
use Rattle.difference.proofs.Texts.{length-plain, length-change, removed-line, added-line, lines-append}
use Rattle.difference.proofs.Merge.{slot-named}
use Rattle.difference.proofs.Stepping.{record_along, records-next, records-end, first_ended, second_ended, merge-earlier, merge-later, merge_equal}

-- ---- an index

module _ {t l : List ℕ} (p : Along t l) where
  -- it has at most 256 numbers
  pub along-limit : length l ≤ 256
  along-limit =
      let ss = slots_of form128 t in
      omega (arith, ap length p.is, length-map (entries 0 ss) (λ e. e.at), length-entries 0 ss, slots-limit form128 t p.good.reads)

  module _ (i : ℕ) (h : i < length l) where
    -- each is that of a record in use
    pub along-in-use : InUseAt form128 t (number_at l i)
    along-in-use =
        let n = number_at l i in
        let k = (index-exact 0 (slots_of form128 t) n).0 (subst (In n) p.is (at_in l n i (at-within l i 0 h))) in
        (slot-named (slots_of form128 t) n k.0 k.1).0

    along-key : length (record_along t l i).key ≤ 24
    along-key = (in-range form128 t p.good.reads (number_at l i) along-in-use).key-to

-- ---- a step

-- what the step from places i and j passes, by which table has the next key
abbrev pub Next : (a l b m : List ℕ) (i j : ℕ) → Ordering → Type 0
Next a l b m i j Less = Passes a l b m i j (i + 1) j (removed (record_along a l i).key ∷ [])
Next a l b m i j Equal = Passes a l b m i j (i + 1) (j + 1) (change_lines (record_along a l i) (record_along b m j))
Next a l b m i j Greater = Passes a l b m i j i (j + 1) (added (record_along b m j).key ∷ [])

module _ {a l b m : List ℕ} (p : Along a l) (q : Along b m) (i j : ℕ) (first : i ≤ length l) (second : j ≤ length m) where
  abbrev next : Ordering
  next = next_of (records_from a l i) (records_from b m j)

  earlier : i < length l → next ≡ Less → Next a l b m i j Less
  earlier h e =
      let r = record_along a l i in
      let n = records-next a l i h in
      record {
        first = omega arith;
        second = second;
        less = omega arith;
        short = rw (removed-line r.key) (omega (arith, length-plain 45 r.key (along-key p i h)));
        rest = ap (λ (rs : List Record). merge rs (records_from b m j)) n
            ∙ merge-earlier r _ _ (ap (λ (rs : List Record). next_of rs (records_from b m j)) (sym n) ∙ e);
      }

  later : j < length m → next ≡ Greater → Next a l b m i j Greater
  later k e =
      let r = record_along b m j in
      let n = records-next b m j k in
      record {
        first = first;
        second = omega arith;
        less = omega arith;
        short = rw (added-line r.key) (omega (arith, length-plain 43 r.key (along-key q j k)));
        rest = ap (merge (records_from a l i)) n ∙ merge-later _ r _ (ap (next_of (records_from a l i)) (sym n) ∙ e);
      }

  equal : i < length l → j < length m → next ≡ Equal → Next a l b m i j Equal
  equal h k e =
      let n = records-next a l i h in
      let o = records-next b m j k in
      record {
        first = omega arith;
        second = omega arith;
        less = omega arith;
        short = omega (arith, length-change (record_along a l i) (record_along b m j) (along-key p i h));
        rest = (λ x. merge (n x) (o x)) ∙ merge_equal _ _ _ _ ((λ x. next_of (sym n x) (sym o x)) ∙ e);
      }

  pub next-passes : i + j < length l + length m → Next a l b m i j next
  next-passes more = go (ltb i (length l)) refl (ltb j (length m)) refl
    where
      both : i < length l → j < length m → (o : Ordering) → next ≡ o → Next a l b m i j o
      both h k Less e = earlier h e
      both h k Equal e = equal h k e
      both h k Greater e = later k e

      go : (c : Bool) → ltb i (length l) ≡ c → (d : Bool) → ltb j (length m) ≡ d → Next a l b m i j next
      go true u true v = both (ltb-true i (length l) u) (ltb-true j (length m) v) next refl
      go true u false v =
          let h = ltb-true i (length l) u in
          let e = second_ended a l b m i j h (ltb-false j (length m) v) in
          subst (Next a l b m i j) (sym e) (earlier h e)
      go false u d v =
          let e = first_ended a l b m i j (ltb-false i (length l) u) in
          subst (Next a l b m i j) (sym e) (later (omega (arith, ltb-false i (length l) u)) e)

-- ---- the whole walk

-- there is room for a step's lines
pub step_room : {a l b m out : List ℕ} {w : Walk} {x y : ℕ} {lines : List Line} → Ready l m w out → Passes a l b m w.first w.second x y lines
    → w.at + length (lines_bytes lines) ≤ length out
step_room r p = omega (arith, r.room, p.short)

-- the walk is at w, and the buffer, which held `old`, holds `out` now: with the lines that are left it has the text s
pub record Underway (a l b m s old out : List ℕ) (w : Walk) : Type 0 where
  pub ready : Ready l m w out
  pub size : length out ≡ length old
  pub rest : {after : List ℕ} {end : ℕ} → Wrote w.at (lines_bytes (lines_left a l b m w.first w.second)) out after end → Wrote 0 s old after end

module _ {a l b m s old out : List ℕ} {w : Walk} (u : Underway a l b m s old out w) where
  pub goes_on : {v : Walk} {after : List ℕ} → Steps a l b m w v out after → Underway a l b m s old after v
  goes_on t =
      let fits = step_room u.ready t.passes in
      let same = same_size fits t.wrote in
      record {
        ready = record {
          first = t.passes.first;
          second = t.passes.second;
          room = omega (arith, t.wrote.place, t.passes.short, u.ready.room, same);
        };
        size = same ∙ u.size;
        rest = λ q. u.rest (rw (t.passes.rest, lines-append) (wrote_then (omega (arith, fits)) t.wrote q));
      }

  -- no line is left
  pub ends : length l + length m ≤ w.first + w.second → Wrote 0 s old out w.at
  unfolding merge lines_bytes
  ends h =
      let f : length l ≤ w.first = omega (arith, u.ready.second) in
      let g : length m ≤ w.second = omega (arith, u.ready.first) in
      u.rest (rw (records-end a l w.first f, records-end b m w.second g) (wrote_nothing w.at out))

-- the part of a list that holds the index of a good table
pub along-part : {t l : List ℕ} {room n : ℕ} → Good form128 t → Lists form128 t 0 room l n → Along t (take (n - 0) (drop 0 l))
along-part {t} {l} {room} {n} g h =
    let x = index_of (slots_of form128 t) in
    record { good = g; is = ap (λ (m : ℕ). take m l) (sub-zero n) ∙ ap (take n) h.bytes ∙ take_at x (replicate (room - length x) 0) n (sym h.count) }
