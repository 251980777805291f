-- Building a command: what is built is the encoding of the words given, so that it decodes to them; words that can be sent are built; a
-- command that lacks a word decodes to none, and a refusal is final. Then the same of the calls that build it in a borrowed buffer.
use mathlib.Core.Path.{◌≡◌, refl, sym, ap, ◌∙◌, subst}
use mathlib.Core.Bool.{Bool, true, false, cond, ◌&&◌}
use mathlib.Core.List.{List, [], ◌∷◌, ◌++◌, append_assoc, append-nil}
use mathlib.Core.Option.{Option, none, some}
use Prim.Native.Nat.{ℕ, zero, suc, ◌+◌, ◌-◌, ◌^◌, ◌≤◌, ◌<◌}
use native.Mathlib.Omega.{arith}
use lib.ListN.{length, take, drop, replicate, length-append, length-drop}
use lib.Seq.{take-append_seam, drop-append_seam, drop-append-add, drop-drop}
use lib.Dec.{leb}
use borrow.Author.Tests.{leb-true, le-leb}
use Rattle.model.specs.Bytes.{text}
use Rattle.model.specs.Optional.{◌>>=◌, is_some}
use Rattle.model.specs.Resp.{array_mark, command_limit, word_limit, line, bulk_bytes, bulks_bytes, encode, read_line, read_bulk, read_bulks, read_array, decode}
use Rattle.model.specs.Build.{up_to, begin, bulks_left, words_left, add_word, add_words, build, placed, begin_in, add_word_in, add_words_in, build_in}
use Rattle.model.proofs.Basics.{and_left, and_right, some-eq, none-some, cond-some, came}
use Rattle.model.proofs.Numbers.{length-nat_text}
use Rattle.model.proofs.Words.{read_line-line, line-read_line, read_bulk-bulk_bytes, bulk_bytes-read_bulk, read_bulk-shorter, Sendable, decode-encode, Decoded}
use Rattle.model.proofs.Compute.{computing}

-- ---- rows

-- the command EXGET foo
exget-foo : List ℕ
exget-foo = text "*2\r\n$5\r\nEXGET\r\n$3\r\nfoo\r\n"

two-words : build (text "EXGET" ∷ text "foo" ∷ []) ≡ some exget-foo
unfolding computing begin words_left add_word exget-foo
two-words = refl

-- a word too many
third-word : add_word exget-foo (text "bar") ≡ none
unfolding computing words_left add_word exget-foo
third-word = refl

-- the limits: 1 to 16 words, 512 bytes, the buffer's length
sixteen-words : (begin 0 ≡ none) × (begin 16 ≡ some (text "*16\r\n")) × (begin 17 ≡ none)
unfolding computing begin
sixteen-words = (refl, refl, refl)

bytes-512 : (is_some (build (replicate 500 97 ∷ [])) ≡ true) × (build (replicate 501 97 ∷ []) ≡ none)
unfolding computing begin words_left add_word
bytes-512 = (refl, refl)

room-left : build_in (replicate 25 0) (text "EXGET" ∷ text "foo" ∷ []) ≡ (exget-foo ++ (0 ∷ []), 24)
unfolding computing begin words_left add_word begin_in add_word_in exget-foo
room-left = refl

no_room : build_in (replicate 23 0) (text "EXGET" ∷ text "foo" ∷ []) ≡ (text "*2\r\n$5\r\nEXGET\r\n" ++ replicate 8 0, 0)
unfolding computing begin words_left add_word begin_in add_word_in
no_room = refl

-- ---- what is built is the encoding of the words

up_to-some : (n : ℕ) (s t : List ℕ) → up_to n s ≡ some t → (s ≡ t) × (length t ≤ n)
up_to-some n s t e =
    let q = cond-some (leb (length s) n) (some s) t e in
    let same : s ≡ t = some-eq q.1 in
    (same, subst (λ (u : List ℕ). length u ≤ n) same (leb-true (length s) n q.0))

in-range : (n : ℕ) → leb 1 n && leb n word_limit ≡ true → (1 ≤ n) × (n ≤ word_limit)
in-range n e = (leb-true 1 n (and_left (leb 1 n) (leb n word_limit) e), leb-true n word_limit (and_right (leb 1 n) (leb n word_limit) e))

begin-some : (n : ℕ) (s : List ℕ) → begin n ≡ some s → (1 ≤ n) × (n ≤ word_limit) × (line array_mark n ≡ s)
unfolding begin
begin-some n s e =
    let q = cond-some (leb 1 n && leb n word_limit) (some (line array_mark n)) s e in
    let r = in-range n q.0 in
    (r.0, r.1, some-eq q.1)

pub add_word-some : (s w t : List ℕ) → add_word s w ≡ some t → (s ++ bulk_bytes w ≡ t) × (length t ≤ command_limit)
unfolding add_word
add_word-some s w t e =
    came (words_left s) (λ n. cond (leb 1 n) (up_to command_limit (s ++ bulk_bytes w)) none) e λ n p e.
    up_to-some command_limit (s ++ bulk_bytes w) t (cond-some (leb 1 n) (up_to command_limit (s ++ bulk_bytes w)) t e).1

add_words-some : (ws : List (List ℕ)) (s t : List ℕ) → length s ≤ command_limit → add_words s ws ≡ some t
    → (s ++ bulks_bytes ws ≡ t) × (length t ≤ command_limit)
add_words-some [] s t h e = let same : s ≡ t = some-eq e in (append-nil s ∙ same, subst (λ (u : List ℕ). length u ≤ command_limit) same h)
add_words-some (w ∷ ws) s t h e =
    came (add_word s w) (λ u. add_words u ws) e λ u p e.
    let a = add_word-some s w u p in
    let b = add_words-some ws u t a.1 e in
    (sym (append_assoc s (bulk_bytes w) (bulks_bytes ws)) ∙ (ap (λ (l : List ℕ). l ++ bulks_bytes ws) a.0 ∙ b.0), b.1)

line-short : (n : ℕ) → n ≤ word_limit → length (line array_mark n) ≤ 5
line-short n h = simp length-append (omega (arith, length-nat_text 1 n (omega arith)))

pub build-encoded : (ws : List (List ℕ)) (s : List ℕ) → build ws ≡ some s → Decoded s ws
unfolding encode
build-encoded ws s e =
    came (begin (length ws)) (λ t. add_words t ws) e λ t p e.
    let a = begin-some (length ws) t p in
    let b = add_words-some ws t s (omega (arith, ap length a.2, line-short (length ws) a.1)) e in
    let bytes : s ≡ encode ws = sym b.0 ∙ ap (λ (l : List ℕ). l ++ bulks_bytes ws) (sym a.2) in
    record { bytes = bytes; words = record { some_words = a.0; few_words = a.1; short = subst (λ (u : List ℕ). length u ≤ command_limit) bytes b.1 } }

pub build-decode : (ws : List (List ℕ)) (s : List ℕ) → build ws ≡ some s → decode s ≡ some ws
build-decode ws s e = let d = build-encoded ws s e in ap decode d.bytes ∙ decode-encode ws d.words

-- ---- how many words are left

pub bulks_left-nil : (n : ℕ) → bulks_left n [] ≡ some n
bulks_left-nil zero = refl
bulks_left-nil (suc n) = refl

-- a bulk string in front
bulk-there : (n : ℕ) (w s : List ℕ) → length w < 10 ^ 20 → bulks_left (suc n) (bulk_bytes w ++ s) ≡ bulks_left n s
bulk-there n w s h = rw (read_bulk-bulk_bytes w s h)

bulk-longer : (w : List ℕ) → length w ≤ length (bulk_bytes w)
bulk-longer w = simp length-append (omega arith)

bulks_left-add : (n m : ℕ) (s w : List ℕ) → bulks_left n s ≡ some (suc m) → length s < 10 ^ 20 → length w < 10 ^ 20
    → bulks_left n (s ++ bulk_bytes w) ≡ some m
bulks_left-add zero m [] w e h k = let z : zero ≡ suc m = some-eq e in absurd (omega arith)
bulks_left-add zero m (c ∷ s) w e h k = none-some (suc m) e
bulks_left-add (suc n) m [] w e h k =
    let z : suc n ≡ suc m = some-eq e in
    ap (bulks_left (suc n)) (sym (append-nil (bulk_bytes w))) ∙ (bulk-there n w [] k ∙ (bulks_left-nil n ∙ ap {B = Option ℕ} some (omega arith)))
bulks_left-add (suc n) m (c ∷ s) w e h k =
    came (read_bulk (c ∷ s)) (λ v. bulks_left n v.rest) e λ v p e.
    let there : c ∷ s ≡ bulk_bytes v.value ++ v.rest = bulk_bytes-read_bulk (c ∷ s) v p h in
    let small : length v.value < 10 ^ 20 = omega (arith, ap length there, length-append (bulk_bytes v.value) v.rest, bulk-longer v.value) in
    ap (λ (l : List ℕ). bulks_left (suc n) (l ++ bulk_bytes w)) there
    ∙ (ap (bulks_left (suc n)) (append_assoc (bulk_bytes v.value) v.rest (bulk_bytes w))
    ∙ (bulk-there n v.value (v.rest ++ bulk_bytes w) small
    ∙ bulks_left-add n m v.rest w e (omega (arith, read_bulk-shorter (c ∷ s) v p)) k))

-- a command that is begun has its first line, of which the count is 1 to 16
words_left-line : (n : ℕ) (s : List ℕ) → 1 ≤ n → n ≤ word_limit → words_left (line array_mark n ++ s) ≡ bulks_left n s
unfolding words_left
words_left-line n s h k = rw (read_line-line array_mark n s (omega arith), le-leb 1 n h, le-leb n word_limit k)

-- what is known of a command that is begun, to which m words are left to add
record Begun (s : List ℕ) (m : ℕ) : Type 0 where
  count : ℕ
  bulks : List ℕ
  some_words : 1 ≤ count
  few_words : count ≤ word_limit
  bytes : s ≡ line array_mark count ++ bulks
  left : bulks_left count bulks ≡ some m

words_left-some : (s : List ℕ) (m : ℕ) → words_left s ≡ some m → Begun s m
unfolding words_left
words_left-some s m e =
    came (read_line array_mark s) _ e λ l p e.
    let q = cond-some (leb 1 l.value && leb l.value word_limit) (bulks_left l.value l.rest) m e in
    let r = in-range l.value q.0 in
    record { count = l.value; bulks = l.rest; some_words = r.0; few_words = r.1; bytes = line-read_line array_mark s l p (omega arith); left = q.1 }

-- one word fewer is left, once a word is added
words_left-add : (s w : List ℕ) (m : ℕ) → words_left s ≡ some (suc m) → length (s ++ bulk_bytes w) ≤ command_limit → words_left (s ++ bulk_bytes w) ≡ some m
words_left-add s w m e h =
    let b = words_left-some s (suc m) e in
    let n = length-append s (bulk_bytes w) in
    let k = ap length b.bytes ∙ length-append (line array_mark b.count) b.bulks in
    ap (λ (l : List ℕ). words_left (l ++ bulk_bytes w)) b.bytes
    ∙ (ap words_left (append_assoc (line array_mark b.count) b.bulks (bulk_bytes w))
    ∙ (words_left-line b.count (b.bulks ++ bulk_bytes w) b.some_words b.few_words
    ∙ bulks_left-add b.count m b.bulks w b.left (omega arith) (omega (arith, bulk-longer w))))

-- ---- words that can be sent are built

pub add_word-adds : (s w : List ℕ) (m : ℕ) → words_left s ≡ some (suc m) → length (s ++ bulk_bytes w) ≤ command_limit → add_word s w ≡ some (s ++ bulk_bytes w)
unfolding add_word
add_word-adds s w m e h = rw (e, le-leb 1 (suc m) (omega arith), le-leb (length (s ++ bulk_bytes w)) command_limit h)

add_words-adds : (ws : List (List ℕ)) (s : List ℕ) → words_left s ≡ some (length ws) → length (s ++ bulks_bytes ws) ≤ command_limit
    → add_words s ws ≡ some (s ++ bulks_bytes ws)
add_words-adds [] s e h = ap {B = Option (List ℕ)} some (sym (append-nil s))
add_words-adds (w ∷ ws) s e h =
    let whole = sym (append_assoc s (bulk_bytes w) (bulks_bytes ws)) in
    let short : length (s ++ bulk_bytes w) ≤ command_limit = omega (arith, ap length whole, length-append (s ++ bulk_bytes w) (bulks_bytes ws)) in
    rw (add_word-adds s w (length ws) e short)
    (add_words-adds ws (s ++ bulk_bytes w) (words_left-add s w (length ws) e short) (subst (λ (l : List ℕ). length l ≤ command_limit) whole h)
    ∙ ap {B = Option (List ℕ)} some (sym whole))

pub build-encode : (ws : List (List ℕ)) → Sendable ws → build ws ≡ some (encode ws)
unfolding begin encode
build-encode ws h =
    let first : words_left (line array_mark (length ws)) ≡ some (length ws) =
    ap words_left (sym (append-nil (line array_mark (length ws)))) ∙ (words_left-line (length ws) [] h.some_words h.few_words ∙ bulks_left-nil (length ws)) in
    rw (le-leb 1 (length ws) h.some_words, le-leb (length ws) word_limit h.few_words) (add_words-adds ws (line array_mark (length ws)) first h.short)

-- ---- a command that lacks a word

bulks_left-whole : (n : ℕ) (s : List ℕ) (ws : List (List ℕ)) → read_bulks n s ≡ some ws → bulks_left n s ≡ some 0
unfolding read_bulk read_line
bulks_left-whole zero [] ws e = refl
bulks_left-whole zero (c ∷ s) ws e = none-some ws e
bulks_left-whole (suc n) [] ws e = none-some ws e
bulks_left-whole (suc n) (c ∷ s) ws e =
    came (read_bulk (c ∷ s)) _ e λ w p e.
    came (read_bulks n w.rest) (λ ws. some (w.value ∷ ws)) e λ more q e.
    rw p (bulks_left-whole n w.rest more q)

-- to a whole command no word is left to add
pub words_left-whole : (s : List ℕ) (ws : List (List ℕ)) → decode s ≡ some ws → words_left s ≡ some 0
unfolding decode words_left
words_left-whole s ws e =
    came (read_line array_mark s) _ (cond-some (leb (length s) command_limit) (read_array s) ws e).1 λ l p e.
    let q = cond-some (leb 1 l.value && leb l.value word_limit) (read_bulks l.value l.rest) ws e in
    rw (p, q.0) (bulks_left-whole l.value l.rest ws q.1)

pub lacking-none : (s : List ℕ) (m : ℕ) → words_left s ≡ some (suc m) → decode s ≡ none
lacking-none s m e = go (decode s) refl
  where
    go : (o : Option (List (List ℕ))) → decode s ≡ o → o ≡ none
    go none q = refl
    go (some ws) q = let z : 0 ≡ suc m = some-eq (sym (words_left-whole s ws q) ∙ e) in absurd (omega arith)

-- a refusal, whose length is 0, is final
pub add_word-nil : (w : List ℕ) → add_word [] w ≡ none
unfolding add_word words_left read_line
add_word-nil w = refl

-- ---- in a borrowed buffer

-- a refusal changes nothing, whatever words follow
add_word_in-refused : (b w : List ℕ) → add_word_in b 0 w ≡ (b, 0)
unfolding add_word_in
add_word_in-refused b w = rw (le-leb 0 (length b) (omega arith), add_word-nil w)

pub add_words_in-refused : (ws : List (List ℕ)) (b : List ℕ) → add_words_in (b, 0) ws ≡ (b, 0)
add_words_in-refused [] b = refl
add_words_in-refused (w ∷ ws) b = ap (λ (r : List ℕ × ℕ). add_words_in r ws) (add_word_in-refused b w) ∙ add_words_in-refused ws b

module _ (b : List ℕ) where
  -- the buffer, where the command s stands in it
  abbrev after : List ℕ → List ℕ
  after s = s ++ drop (length s) b

  drop-after : (s t : List ℕ) → length s ≤ length t → drop (length t) (after s) ≡ drop (length t) b
  drop-after s t h =
      let k : length t ≡ length s + (length t - length s) = omega arith in
      ap (λ (n : ℕ). drop n (after s)) k
      ∙ (drop-append-add s (drop (length s) b) (length t - length s)
      ∙ (drop-drop (length t - length s) (length s) b ∙ ap (λ (n : ℕ). drop n b) (sym k)))

  module _ (s w : List ℕ) (h : length s ≤ length b) where
    add_word_in-after : add_word_in (after s) (length s) w ≡ placed (after s) (add_word s w >>= up_to (length b))
    unfolding add_word_in
    add_word_in-after =
        let k : length (after s) ≡ length b = simp (length-append, length-drop) (omega arith) in
        rw (k, le-leb (length s) (length b) h, take-append_seam s (drop (length s) b))

    added : (t : List ℕ) → add_word s w ≡ some t → length t ≤ length b → add_word_in (after s) (length s) w ≡ placed b (some t)
    added t e k =
        let longer : length s ≤ length t = omega (arith, ap length (add_word-some s w t e).0, length-append s (bulk_bytes w)) in
        add_word_in-after ∙ (rw (e, le-leb (length t) (length b) k) (ap (λ (l : List ℕ). (t ++ l, length t)) (drop-after s t longer)))

    refused : add_word s w >>= up_to (length b) ≡ none → add_word_in (after s) (length s) w ≡ (after s, 0)
    refused e = add_word_in-after ∙ ap (placed (after s)) e

  -- the calls that build a command build it in the buffer, where there is room
  add_words_in-adds : (ws : List (List ℕ)) (s t : List ℕ) → length s ≤ command_limit → add_words s ws ≡ some t → length t ≤ length b
      → add_words_in (placed b (some s)) ws ≡ placed b (some t)
  add_words_in-adds [] s t c e k = ap (λ (l : List ℕ). placed b (some l)) (some-eq e)
  add_words_in-adds (w ∷ ws) s t c e k =
      came (add_word s w) (λ u. add_words u ws) e λ u p e.
      let a = add_word-some s w u p in
      let m = ap length (add_words-some ws u t a.1 e).0 in
      let n = length-append u (bulks_bytes ws) in
      let l = ap length a.0 in
      ap (λ (r : List ℕ × ℕ). add_words_in r ws) (added s w (omega (arith, length-append s (bulk_bytes w))) u p (omega arith)) ∙ add_words_in-adds ws u t a.1 e k

  pub build_in-encode : (ws : List (List ℕ)) → Sendable ws → length (encode ws) ≤ length b → build_in b ws ≡ placed b (some (encode ws))
  unfolding begin_in
  build_in-encode ws h k =
      came (begin (length ws)) (λ s. add_words s ws) (build-encode ws h) λ s p e.
      let a = begin-some (length ws) s p in
      let short : length s ≤ command_limit = omega (arith, ap length a.2, line-short (length ws) a.1) in
      let m = ap length (add_words-some ws s (encode ws) short e).0 in
      rw (p, le-leb (length s) (length b) (omega (arith, length-append s (bulks_bytes ws)))) (add_words_in-adds ws s (encode ws) short e k)

  -- a command fits the buffer, or none is placed
  by-room : {X : Type 0} (o : Option (List ℕ)) → ((t : List ℕ) → o ≡ some t → length t ≤ length b → X) → (o >>= up_to (length b) ≡ none → X) → X
  by-room none fits not = not refl
  by-room {X} (some t) fits not = go (leb (length t) (length b)) refl
    where
      go : (p : Bool) → leb (length t) (length b) ≡ p → X
      go true e = fits t refl (leb-true (length t) (length b) e)
      go false e = not (rw e)

  -- calls that gave a length other than 0 have added all the words
  add_words_in-some : (ws : List (List ℕ)) (s : List ℕ) → length s ≤ length b → 1 ≤ (add_words_in (placed b (some s)) ws).1
      → (t : List ℕ) × (add_words s ws ≡ some t) × (add_words_in (placed b (some s)) ws ≡ placed b (some t))
  add_words_in-some [] s h k = (s, refl, refl)
  add_words_in-some (w ∷ ws) s h k =
      by-room (add_word s w)
      (λ u e l.
      let same = ap (λ (r : List ℕ × ℕ). add_words_in r ws) (added s w h u e l) in
      let t = add_words_in-some ws u l (subst (λ (r : List ℕ × ℕ). 1 ≤ r.1) same k) in
      (t.0, ap (λ (o : Option (List ℕ)). o >>= (λ u. add_words u ws)) e ∙ t.1, same ∙ t.2))
      (λ e.
      let z = ap (λ (r : List ℕ × ℕ). (add_words_in r ws).1) (refused s w h e) ∙ ap (λ (r : List ℕ × ℕ). r.1) (add_words_in-refused ws (after s)) in
      absurd (omega arith))

  -- what the calls leave where the last one gives a length other than 0: the command of the words, and behind it the old bytes
  pub record BuiltIn (ws : List (List ℕ)) (r : List ℕ × ℕ) : Type 0 where
    pub command : decode (take r.1 r.0) ≡ some ws
    pub behind : drop r.1 r.0 ≡ drop r.1 b

  built_in : (ws : List (List ℕ)) (t : List ℕ) → build ws ≡ some t → BuiltIn ws (placed b (some t))
  built_in ws t e =
      let rest = drop (length t) b in
      record { command = ap decode (take-append_seam t rest) ∙ build-decode ws t e; behind = drop-append_seam t rest }

  pub build_in-decode : (ws : List (List ℕ)) → 1 ≤ (build_in b ws).1 → BuiltIn ws (build_in b ws)
  unfolding begin_in
  build_in-decode ws k =
      by-room (begin (length ws))
      (λ s e l.
      let first : begin_in b (length ws) ≡ placed b (some s) = rw (e, le-leb (length s) (length b) l) in
      let same = ap (λ (r : List ℕ × ℕ). add_words_in r ws) first in
      let t = add_words_in-some ws s l (subst (λ (r : List ℕ × ℕ). 1 ≤ r.1) same k) in
      subst (BuiltIn ws) (sym (same ∙ t.2)) (built_in ws t.0 (ap (λ (o : Option (List ℕ)). o >>= (λ u. add_words u ws)) e ∙ t.1)))
      (λ e.
      let z = ap (λ (o : Option (List ℕ)). (add_words_in (placed b o) ws).1) e ∙ ap (λ (r : List ℕ × ℕ). r.1) (add_words_in-refused ws b) in
      absurd (omega arith))
