-- A command that is begun or added to in a buffer: what is written there is the model's, and a refusal leaves the buffer.
use Prim.Native.Nat.{ℕ, ◌+◌, ◌≤◌, ◌<◌}
use native.Mathlib.Omega.{arith}
use native.Mathlib.Nat.{zero-add}
use mathlib.Core.Path.{◌≡◌, refl, sym, ap, ◌∙◌}
use mathlib.Core.Bool.{Bool, true, false, cond, ◌&&◌}
use mathlib.Core.List.{List, ◌++◌, append_assoc}
use mathlib.Core.Option.{Option, none, some}
use lib.ListN.{length, take, drop, length-append}
use lib.Seq.{length-take-le}
use lib.Dec.{leb}
use borrow.Author.Tests.{le-leb, lt-leb, leb-true, leb-false}
use Rattle.model.specs.Optional.{◌>>=◌}
use Rattle.model.specs.Resp.{array_mark, command_limit, word_limit, line, bulk_bytes}
use Rattle.model.specs.Build.{up_to, begin, words_left, add_word, placed, begin_in, add_word_in}
use Rattle.model.proofs.Basics.{and_left, and_right}
use Rattle.model.proofs.Build.{add_word-some}
use Rattle.slice.specs.Wrote.{Wrote}

-- ---- a command as it is placed

module _ (b s : List ℕ) where
  placed-long : length b < length s → placed b (up_to (length b) s) ≡ (b, 0)
  placed-long h = rw (lt-leb (length s) (length b) h)

  placed-wrote : {after : List ℕ} {r : ℕ} → length s ≤ length b → Wrote 0 s b after r → placed b (up_to (length b) s) ≡ (after, r)
  placed-wrote {after} {r} h p =
      let bytes : s ++ drop (length s) b ≡ after = sym (p.bytes ∙ ap (λ (n : ℕ). s ++ drop n b) (zero-add (length s))) in
      let place : length s ≡ r = sym (p.place ∙ zero-add (length s)) in
      rw (le-leb (length s) (length b) h) (λ i. (bytes i, place i))

-- ---- begun

module _ (b : List ℕ) (n : ℕ) where
  pub begin-few : n < 1 → begin_in b n ≡ (b, 0)
  unfolding begin_in begin
  begin-few h = rw (lt-leb 1 n h)

  pub begin-many : 16 < n → begin_in b n ≡ (b, 0)
  unfolding begin_in begin
  begin-many h = rw (le-leb 1 n (omega arith), lt-leb n 16 h)

  pub begin-short : length b < length (line array_mark n) → begin_in b n ≡ (b, 0)
  unfolding begin_in begin
  begin-short h = go (leb 1 n && leb n word_limit)
    where
      go : (t : Bool) → placed b (cond t (some (line array_mark n)) none >>= up_to (length b)) ≡ (b, 0)
      go true = placed-long b (line array_mark n) h
      go false = refl

  pub begin-wrote : {after : List ℕ} {r : ℕ} → 1 ≤ n → n ≤ 16 → length (line array_mark n) ≤ length b
      → Wrote 0 (line array_mark n) b after r → begin_in b n ≡ (after, r)
  unfolding begin_in begin
  begin-wrote lo hi h p = rw (le-leb 1 n lo, le-leb n 16 hi) (placed-wrote b (line array_mark n) h p)

-- ---- added to

module _ (s w : List ℕ) where
  add_word-over : command_limit < length (s ++ bulk_bytes w) → add_word s w ≡ none
  add_word-over h = go (add_word s w) refl
    where
      go : (o : Option (List ℕ)) → add_word s w ≡ o → o ≡ none
      go none e = refl
      go (some t) e = let a = add_word-some s w t e in absurd (omega (arith, ap length a.0))

  add_word-unread : words_left s ≡ none → add_word s w ≡ none
  unfolding add_word
  add_word-unread e = rw e

  add_word-whole : {n : ℕ} → words_left s ≡ some n → n < 1 → add_word s w ≡ none
  unfolding add_word
  add_word-whole {n} e h = rw (e, lt-leb 1 n h)

  add_word-lacking : {n : ℕ} → words_left s ≡ some n → 1 ≤ n → length (s ++ bulk_bytes w) ≤ command_limit → add_word s w ≡ some (s ++ bulk_bytes w)
  unfolding add_word
  add_word-lacking {n} e k h = rw (e, le-leb 1 n k, le-leb (length (s ++ bulk_bytes w)) command_limit h)

-- the test of the room: the word's bulk string ends within the limit of a command, and within the buffer
abbrev fits : (b w : List ℕ) (len : ℕ) → Bool
fits b w len = leb (len + length (bulk_bytes w)) command_limit && leb (len + length (bulk_bytes w)) (length b)

module _ (b w : List ℕ) (len : ℕ) where
  fits-short : fits b w len ≡ true → len + length (bulk_bytes w) ≤ command_limit
  fits-short e = leb-true _ _ (and_left (leb (len + length (bulk_bytes w)) command_limit) (leb (len + length (bulk_bytes w)) (length b)) e)

  pub fits-room : fits b w len ≡ true → len + length (bulk_bytes w) ≤ length b
  fits-room e = leb-true _ _ (and_right (leb (len + length (bulk_bytes w)) command_limit) (leb (len + length (bulk_bytes w)) (length b)) e)

  pub add-beyond : length b < len → add_word_in b len w ≡ (b, 0)
  unfolding add_word_in
  add-beyond h = rw (lt-leb len (length b) h)

  module _ (h : len ≤ length b) where
    adds-to : add_word_in b len w ≡ placed b (add_word (take len b) w >>= up_to (length b))
    unfolding add_word_in
    adds-to = rw (le-leb len (length b) h)

    not-added : add_word (take len b) w ≡ none → add_word_in b len w ≡ (b, 0)
    not-added e = adds-to ∙ ap (λ (o : Option (List ℕ)). placed b (o >>= up_to (length b))) e

    end : length (take len b ++ bulk_bytes w) ≡ len + length (bulk_bytes w)
    end = length-append (take len b) (bulk_bytes w) ∙ ap (λ (n : ℕ). n + length (bulk_bytes w)) (length-take-le len b h)

    pub add-over : command_limit < len → add_word_in b len w ≡ (b, 0)
    add-over k = not-added (add_word-over (take len b) w (omega (arith, end)))

    pub add-unread : words_left (take len b) ≡ none → add_word_in b len w ≡ (b, 0)
    add-unread e = not-added (add_word-unread (take len b) w e)

    pub add-whole : {n : ℕ} → words_left (take len b) ≡ some n → n < 1 → add_word_in b len w ≡ (b, 0)
    add-whole e k = not-added (add_word-whole (take len b) w e k)

    module _ {n : ℕ} (lacks : words_left (take len b) ≡ some n) (some-left : 1 ≤ n) where
      adds : len + length (bulk_bytes w) ≤ command_limit → add_word_in b len w ≡ placed b (up_to (length b) (take len b ++ bulk_bytes w))
      adds k = adds-to ∙ ap (λ (o : Option (List ℕ)). placed b (o >>= up_to (length b))) (add_word-lacking (take len b) w lacks some-left (omega (arith, end)))

      pub add-long : fits b w len ≡ false → add_word_in b len w ≡ (b, 0)
      add-long e = go (leb (len + length (bulk_bytes w)) command_limit) refl
        where
          go : (t : Bool) → leb (len + length (bulk_bytes w)) command_limit ≡ t → add_word_in b len w ≡ (b, 0)
          go false q = not-added (add_word-over (take len b) w (omega (arith, end, leb-false (len + length (bulk_bytes w)) command_limit q)))
          go true q =
              adds (leb-true (len + length (bulk_bytes w)) command_limit q)
              ∙ placed-long b (take len b ++ bulk_bytes w) (omega (arith, end, leb-false (len + length (bulk_bytes w)) (length b) (rw q at e)))

      pub add-wrote : {after : List ℕ} {r : ℕ} → fits b w len ≡ true → Wrote len (bulk_bytes w) b after r → add_word_in b len w ≡ (after, r)
      add-wrote {after} {r} e p =
          let here : len + length (bulk_bytes w) ≡ 0 + length (take len b ++ bulk_bytes w) = sym end ∙ sym (zero-add (length (take len b ++ bulk_bytes w))) in
          let all : Wrote 0 (take len b ++ bulk_bytes w) b after r = record {
            place = p.place ∙ here;
            bytes = p.bytes ∙ (ap (λ (n : ℕ). take len b ++ (bulk_bytes w ++ drop n b)) here ∙ sym (append_assoc (take len b) (bulk_bytes w) _));
          } in
          adds (fits-short e) ∙ placed-wrote b (take len b ++ bulk_bytes w) (omega (arith, end, fits-room e)) all
