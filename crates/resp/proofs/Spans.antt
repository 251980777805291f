-- Words at their places: what a command decodes to is its encoding, so word i is read at the place of word i, and the next place is that
-- of word i + 1. Then the array of places, as it is filled, and words by number, for the callers.
use Prim.Native.Nat.{ℕ, zero, suc, ◌+◌, ◌-◌, ◌^◌, ◌≤◌, ◌<◌}
use native.Mathlib.Omega.{arith}
use native.Mathlib.Nat.{add-sub_cancel_left}
use native.Mathlib.Numerals.{add-one, unary_clauses}
use mathlib.Core.Path.{◌≡◌, refl, sym, ap, ◌∙◌, subst}
use mathlib.Core.Bool.{Bool, true, false}
use mathlib.Core.List.{List, [], ◌∷◌, ◌++◌, append_assoc}
use mathlib.Core.Option.{Option, none, some}
use Rattle.outcome.proofs.Cases.{clash}
use Rattle.std.specs.Prelude.{Some, None}
use Rattle.std.proofs.lemmas.Option.{same_Some}
use lib.Dec.{eqb, leb}
use lib.ListN.{length, take, drop, get_or, set, length-set, length-append, length-drop}
use lib.Seq.{drop-cons, drop_at, get_or-set_same, get_or-set_other}
use borrow.Author.Tests.{eqb-true, eqb-false}
use Rattle.model.specs.Bytes.{part, crlf}
use Rattle.model.specs.Resp.{Taken, took, array_mark, bulk_mark, command_limit, line, bulk_bytes, bulks_bytes, encode, read_line, read_bulk, decode}
use Rattle.model.specs.Parse.{word_at}
use Rattle.model.specs.CurrentValue.{word_start}
use Rattle.model.proofs.Basics.{never, some-eq}
use Rattle.model.proofs.Words.{encode-decode, read_line-line, read_bulk-bulk_bytes}
use Rattle.model.proofs.Shown.{word_start-part}
use Rattle.resp.specs.Words.{word_of, word_from, has_words}
use Rattle.resp.specs.Spans.{words_of, bytes_of, span_at, span_in, Splits, place_of, Known, Begins, Notes, noted, WordsRead, Counted}
use Rattle.resp.specs.declared.Span.{Span}
use Rattle.resp.specs.declared.Word.{Word}
use Rattle.resp.proofs.Lines.{LineAt}
use Rattle.resp.proofs.Bulks.{word-at, words-next, words-malformed, words-end}

split : (i : ℕ) (ws : List (List ℕ)) → bulks_bytes (take i ws) ++ bulks_bytes (drop i ws) ≡ bulks_bytes ws
split zero [] = refl
split zero (w ∷ ws) = refl
split (suc i) [] = refl
split (suc i) (w ∷ ws) = append_assoc (bulk_bytes w) (bulks_bytes (take i ws)) (bulks_bytes (drop i ws)) ∙ ap (λ (l : List ℕ). bulk_bytes w ++ l) (split i ws)

module _ (i : ℕ) (ws : List (List ℕ)) where
  front : List ℕ
  front = line array_mark (length ws) ++ bulks_bytes (take i ws)

  front_length : length front ≡ place_of i ws
  unfolding front place_of
  front_length = length-append (line array_mark (length ws)) (bulks_bytes (take i ws))

  parted : encode ws ≡ front ++ bulks_bytes (drop i ws)
  unfolding front encode
  parted =
      ap (λ (l : List ℕ). line array_mark (length ws) ++ l) (sym (split i ws))
      ∙ sym (append_assoc (line array_mark (length ws)) (bulks_bytes (take i ws)) (bulks_bytes (drop i ws)))

  left_at : drop (place_of i ws) (encode ws) ≡ bulks_bytes (drop i ws)
  left_at = ap (drop (place_of i ws)) parted ∙ drop_at front (bulks_bytes (drop i ws)) (place_of i ws) front_length

  left-length : length (encode ws) ≡ place_of i ws + length (bulks_bytes (drop i ws))
  left-length = ap length parted ∙ (length-append front (bulks_bytes (drop i ws)) ∙ ap (λ (n : ℕ). n + length (bulks_bytes (drop i ws))) front_length)

  module _ (h : i < length ws) where
    word-left : bulks_bytes (drop i ws) ≡ bulk_bytes (word_at i ws) ++ bulks_bytes (drop (suc i) ws)
    word-left = ap bulks_bytes (drop-cons ws i [] h)

    bulk-length : length (bulk_bytes (word_at i ws)) ≡ length (line bulk_mark (length (word_at i ws))) + (length (word_at i ws) + 2)
    bulk-length =
        length-append (line bulk_mark (length (word_at i ws))) (word_at i ws ++ crlf)
        ∙ ap (λ (n : ℕ). length (line bulk_mark (length (word_at i ws))) + n) (length-append (word_at i ws) crlf)

    start-place : word_start i ws ≡ place_of i ws + length (line bulk_mark (length (word_at i ws)))
    unfolding word_start place_of
    start-place = refl

module _ (s : List ℕ) (ws : List (List ℕ)) (e : decode s ≡ some ws) where
  is-encoded : s ≡ encode ws
  is-encoded = (encode-decode s ws e).bytes

  pub short : length s ≤ command_limit
  short = let d = encode-decode s ws e in omega (arith, ap length d.bytes, d.words.short)

  module _ (i : ℕ) (h : i < length ws) where
    next_place : place_of (suc i) ws ≡ word_start i ws + length (word_at i ws) + 2
    next_place =
        omega (
          arith,
          left-length i ws,
          left-length (suc i) ws,
          ap length (word-left i ws h),
          length-append (bulk_bytes (word_at i ws)) (bulks_bytes (drop (suc i) ws)),
          bulk-length i ws h,
          start-place i ws h,
        )

    pub word-ends : word_start i ws + length (word_at i ws) + 2 ≤ length s
    word-ends = omega (arith, next_place, left-length (suc i) ws, ap length is-encoded)

    pub word_read : word_from s (place_of i ws) ≡ Some (record { start = word_start i ws; end = word_start i ws + length (word_at i ws); next = place_of (suc i) ws })
    unfolding word_from
    word_read =
        let rest = bulks_bytes (drop (suc i) ws) in
        let left : drop (place_of i ws) s ≡ bulk_bytes (word_at i ws) ++ rest = ap (drop (place_of i ws)) is-encoded ∙ (left_at i ws ∙ word-left i ws h) in
        let small : length (word_at i ws) < 10 ^ 20 = omega (arith, word-ends, short) in
        let after : length s - length rest ≡ place_of (suc i) ws = omega (arith, left-length (suc i) ws, ap length is-encoded) in
        let end : place_of (suc i) ws - 2 ≡ word_start i ws + length (word_at i ws) = omega (arith, next_place) in
        let start : word_start i ws + length (word_at i ws) - length (word_at i ws) ≡ word_start i ws = omega arith in
        ap (λ (l : List ℕ). word_of (length s) (read_bulk l)) left ∙ rw (read_bulk-bulk_bytes (word_at i ws) rest small, after, end, start)

  pub word-part : (i : ℕ) → part (word_start i ws) (length (word_at i ws)) s ≡ word_at i ws
  word-part i = ap (part (word_start i ws) (length (word_at i ws))) is-encoded ∙ word_start-part ws i

  -- the place after the first line, which says how many words there are
  module _ {v n : ℕ} (l : LineAt array_mark s 0 v n) where
    line_read : read_line array_mark s ≡ some (took (length ws) (bulks_bytes ws))
    unfolding encode
    line_read =
        let d = (encode-decode s ws e).words.few_words in
        ap (read_line array_mark) is-encoded ∙ read_line-line array_mark (length ws) (bulks_bytes ws) (omega arith)

    pub first-words : v ≡ length ws
    first-words = ap (λ (t : Taken ℕ). t.value) (some-eq (sym l.reads ∙ line_read))

    pub first-place : n ≡ place_of 0 ws
    first-place =
        let rest : length (drop n s) ≡ length (bulks_bytes ws) = ap (λ (t : Taken ℕ). length t.rest) (some-eq (sym l.reads ∙ line_read)) in
        omega (arith, length-drop n s, l.within, left-length 0 ws, ap length is-encoded)

-- ---- a word that was read

module _ (s : List ℕ) (ws : List (List ℕ)) (e : decode s ≡ some ws) (i place : ℕ) (h : i < length ws) (p : place ≡ place_of i ws) where
  read-there : word_from s place ≡ Some (record { start = word_start i ws; end = word_start i ws + length (word_at i ws); next = place_of (suc i) ws })
  read-there = ap (word_from s) p ∙ word_read s ws e i h

  module _ {w : Word} (q : word_from s place ≡ Some w) where
    there : w ≡ record { start = word_start i ws; end = word_start i ws + length (word_at i ws); next = place_of (suc i) ws }
    there = same_Some _ _ (sym q ∙ read-there)

    pub word-span : ◌≡◌ {A = Span} (record { start = w.start; end = w.end }) (span_at i ws)
    word-span = ap {B = Span} (λ (x : Word). record { start = x.start; end = x.end }) there

    pub word_next : w.next ≡ place_of (suc i) ws
    word_next = ap (λ (x : Word). x.next) there

-- ---- the array of places

-- one more word
module _ (places : List ℕ) (ws : List (List ℕ)) (i a b : ℕ) (room : length places ≡ 32) (few : i < 16) where
  next : List ℕ
  next = set (set places i a) (16 + i) b

  size : 16 + i < length (set places i a)
  size = omega (arith, length-set places i a)

  next_start : get_or next i 0 ≡ a
  unfolding next
  next_start = get_or-set_other (set places i a) (16 + i) i b 0 (λ q. absurd (omega arith)) ∙ get_or-set_same places i a 0 (omega arith)

  next-end : get_or next (16 + i) 0 ≡ b
  unfolding next
  next-end = get_or-set_same (set places i a) (16 + i) b 0 size

  next-other : (j : ℕ) → (j ≡ i → ⊥) → (j ≡ 16 + i → ⊥) → get_or next j 0 ≡ get_or places j 0
  unfolding next
  next-other j p q = get_or-set_other (set places i a) (16 + i) j b 0 q ∙ get_or-set_other places i j a 0 p

  pub known_next : ◌≡◌ {A = Span} (record { start = a; end = b }) (span_at i ws) → Known places ws i → Known (set (set places i a) (16 + i) b) ws (i + 1)
  unfolding next
  known_next e k j h = go (eqb j i) refl
    where
      go : (t : Bool) → eqb j i ≡ t → span_in next j ≡ span_at j ws
      go true q =
          ap (λ (x : ℕ). span_in next x) (eqb-true j i q)
          ∙ ((λ x. record { start = next_start x; end = next-end x }) ∙ (e ∙ ap (λ (x : ℕ). span_at x ws) (sym (eqb-true j i q))))
      go false q =
          let other = eqb-false j i q in
          let s = next-other j other (λ z. absurd (omega arith)) in
          let f = next-other (16 + j) (λ z. absurd (omega arith)) (λ z. other (omega arith)) in
          (λ x. record { start = s x; end = f x }) ∙ k j (omega arith)

-- before word i of n: the words asked for stand from `at` on if those left stand from `place` on, and the array has the words before
pub record Filled (s : List ℕ) (at n : ℕ) (places : List ℕ) (place i : ℕ) : Type 0 where
  pub room : length places ≡ 32
  pub most : i ≤ n
  pub left : has_words n s at ≡ has_words (n - i) s place
  pub there : (ws : List (List ℕ)) → decode s ≡ some ws → place ≡ place_of i ws
  pub known : (ws : List (List ℕ)) → decode s ≡ some ws → Known places ws i

module _ {s : List ℕ} {at n : ℕ} (b : Begins s at n) {places : List ℕ} {place i : ℕ} (f : Filled s at n places place i) (h : i < n) where
  pub filled_next : {w : Word} → word_from s place ≡ Some w
      → Filled s at n (set (set places i w.start) (16 + i) w.end) w.next (i + 1)
  filled_next {w} q =
      let less : n - i - 1 ≡ n - (i + 1) = omega arith in
      record {
        room = length-set (set places i w.start) (16 + i) w.end ∙ (length-set places i w.start ∙ f.room);
        most = omega arith;
        left = f.left ∙ (words-next s place (n - i) (omega arith) (word-at s place q) ∙ ap (λ (k : ℕ). has_words k s w.next) less);
        there = λ ws d. word_next s ws d i place (omega (arith, b.words ws d)) (f.there ws d) q ∙ ap (λ (k : ℕ). place_of k ws) (sym (add-one i));
        known = λ ws d.
            known_next places ws i w.start w.end f.room (omega (arith, b.few)) (word-span s ws d i place (omega (arith, b.words ws d)) (f.there ws d) q) (f.known ws d);
      }

-- the noting of word i
module _ {s : List ℕ} {at n : ℕ} (b : Begins s at n) {ys : List ℕ} {place i : ℕ} (f : Filled s at n ys place i) (h : i < n) where
  module _ {w : Word} (q : Some w ≡ word_from s place) where
    pub may-note : Notes w i ys
    may-note =
        let a = word-at s place (sym q) in
        record {
          room = f.room;
          few = omega (arith, b.few);
          short = (omega (arith, a.ordered, a.ended, a.within, b.short), omega (arith, a.ended, a.within, b.short));
        }

    pub noted-word : {zs : List ℕ} {next : ℕ} → noted w i ys ≡ (zs, next) → Filled s at n zs next (i + 1)
    noted-word e = subst (λ (r : List ℕ × ℕ). Filled s at n r.0 r.1 (i + 1)) e (filled_next b f h (sym q))

  pub noted-none : None ≡ word_from s place → WordsRead s at n ys false
  noted-none q = record { whole = sym (f.left ∙ words-malformed s place (n - i) (omega arith) (sym q)); known = λ t. never false t refl }

-- before the first word, and after the last
pub filled-first : {s : List ℕ} {at n : ℕ} {ys : List ℕ} → Begins s at n → length ys ≡ 32 → Filled s at n ys at 0
filled-first b l = record { room = l; most = omega arith; left = simp unary_clauses; there = b.first; known = λ ws d j h. absurd (omega arith) }

pub filled-last : {s : List ℕ} {at n : ℕ} {ys : List ℕ} {place i : ℕ} → Filled s at n ys place i → n ≤ i → {r : Bool} → r ≡ leb (length s) place → WordsRead s at n ys r
filled-last {s} {at} {n} {ys} {place} {i} f h q =
    let all : i ≡ n = omega (arith, f.most) in
    record { whole = q ∙ sym (f.left ∙ words-end s place (n - i) (omega arith)); known = λ e ws d. rw all at (f.known ws d) }

-- ---- words by number

pub word-limit : {s places : List ℕ} → Splits s places → length (words_of s) ≤ 16
word-limit {s} d = (encode-decode s (words_of s) d.decoded).words.few_words

pub some_words : {s places : List ℕ} → Splits s places → 0 < length (words_of s)
some_words {s} d = omega (arith, (encode-decode s (words_of s) d.decoded).words.some_words)

module _ {s places : List ℕ} (d : Splits s places) (i : ℕ) (h : i < length (words_of s)) where
  pub span-within : ((span_in places i).start ≤ (span_in places i).end) × ((span_in places i).end ≤ length s)
  span-within = subst (λ (w : Span). (w.start ≤ w.end) × (w.end ≤ length s)) (sym (d.spans i h)) (omega arith, omega (arith, word-ends s (words_of s) d.decoded i h))

  pub span-word : bytes_of s (span_in places i) ≡ word_at i (words_of s)
  span-word =
      ap (bytes_of s) (d.spans i h)
      ∙ (ap (λ (n : ℕ). part (word_start i (words_of s)) n s) (add-sub_cancel_left (word_start i (words_of s)) (length (word_at i (words_of s))))
      ∙ word-part s (words_of s) d.decoded i)

  pub few_words : i < 16
  few_words = omega (arith, word-limit d)

-- the same by the words themselves
module _ {s places : List ℕ} {ws : List (List ℕ)} (d : Splits s places) (e : words_of s ≡ ws) (i : ℕ) (h : i < length ws) where
  pub few-of : i < 16
  few-of = few_words d i (omega (arith, ap length e))

  pub span-of : span_in places i ≡ span_at i ws
  span-of = d.spans i (omega (arith, ap length e)) ∙ ap (span_at i) e

  module _ {w : Span} (q : w ≡ span_at i ws) where
    pub within-of : (w.start ≤ w.end) × (w.end ≤ length s)
    within-of =
        subst (λ (x : Span). (x.start ≤ x.end) × (x.end ≤ length s)) (sym (q ∙ sym span-of)) (span-within d i (omega (arith, ap length e)))

    pub word-of : bytes_of s w ≡ word_at i ws
    word-of = ap (bytes_of s) (q ∙ sym span-of) ∙ (span-word d i (omega (arith, ap length e)) ∙ ap (word_at i) e)

-- ---- what the counting answers

pub words-of : (s : List ℕ) {ws : List (List ℕ)} → decode s ≡ some ws → words_of s ≡ ws
unfolding words_of
words-of s e = rw e

module _ (s places : List ℕ) where
  pub counted-not : decode s ≡ none → Counted s places None
  counted-not e = record { none = λ q. e; some = λ q. clash cc }

  pub counted-whole : {ws : List (List ℕ)} {n : ℕ} → decode s ≡ some ws → length ws ≡ n → Known places ws n → Counted s places (Some n)
  counted-whole {ws} {n} e l k =
      let is = words-of s e in
      record {
        none = λ q. clash cc;
        some = λ q. (
          record {
            decoded = e ∙ ap {B = Option (List (List ℕ))} some (sym is);
            spans = λ i h. k i (omega (arith, ap length is)) ∙ ap (span_at i) (sym is);
          },
          sym (same_Some _ _ q) ∙ (sym l ∙ ap length (sym is)),
        );
      }
