-- The walk along a frame reads what `decode` reads: it comes to the end exactly on the commands of 1 to 16 words, of any length.
use mathlib.Core.Path.{◌≡◌, refl, sym, ap, ◌∙◌, subst}
use mathlib.Core.Bool.{Bool, true, false, cond, ◌&&◌, not}
use mathlib.Core.List.{List, [], ◌∷◌, ◌++◌, append_assoc}
use mathlib.Core.Option.{Option, none, some}
use Prim.Native.Nat.{ℕ, zero, suc, ◌+◌, ◌-◌, ◌*◌, ◌^◌, ◌≤◌, ◌<◌}
use native.Mathlib.Omega.{arith}
use lib.ListN.{length, length-append}
use lib.Dec.{leb, eqb}
use borrow.Author.Tests.{leb-true, le-leb, eqb-true, eqb-false, ne_eqb, not-true}
use Rattle.model.specs.Bytes.{crlf}
use Rattle.model.specs.Optional.{◌>>=◌}
use Rattle.model.specs.Number.{nat_text, is_digit, read_digits, read_positive, is_zero, read_nat}
use Rattle.model.specs.Resp.{array_mark, bulk_mark, command_limit, word_limit, line, bulks_bytes, encode, read_bulks, read_array, decode}
use Rattle.model.proofs.Basics.{and_left, and_right, some-eq, none-some, cond-some}
use Rattle.model.proofs.Numbers.{digit-range, read_nat-nat_text, zero-text}
use Rattle.model.proofs.Words.{Small, Sendable, small-words, encode-decode, read_line-number, read_bulk-word}
use Rattle.stream.specs.Frame.{Header, array, bulk, Place, start, first, digit, line_end, body, body_end, words, end, allowed, after, to, next, walk}
use Rattle.stream.specs.Feed.{Whole}

-- ---- steps

pub walk-append : (p : Place) (s t : List ℕ) → walk p (s ++ t) ≡ walk p s >>= (λ q. walk q t)
walk-append p [] t = refl
walk-append p (c ∷ s) t = go (next p c) (λ q. walk-append q s t)
  where
    go : (o : Option Place) → ((q : Place) → walk q (s ++ t) ≡ walk q s >>= (λ q. walk q t))
        → o >>= (λ q. walk q (s ++ t)) ≡ (o >>= (λ q. walk q s)) >>= (λ q. walk q t)
    go none h = refl
    go (some q) h = h q

-- ---- numbers

-- a header's number that is allowed was so after each of its digits
allowed-below : (h : Header) (x m : ℕ) → 1 ≤ x → x ≤ m → allowed h m ≡ true → allowed h x ≡ true
allowed-below array x m lo hi e =
    let top : m ≤ 16 = leb-true m word_limit (and_right (leb 1 m) (leb m word_limit) e) in
    rw (le-leb 1 x lo, le-leb x 16 (omega arith))
allowed-below (bulk later) x m lo hi e = refl

digits-grow : (a m : ℕ) (t : List ℕ) → read_digits a t ≡ some m → a ≤ m
digits-grow a m [] e = let q : a ≡ m = some-eq e in omega arith
digits-grow a m (c ∷ t) e =
    let q = cond-some (is_digit c) (read_digits (10 * a + (c - 48)) t) m e in
    omega (arith, digits-grow (10 * a + (c - 48)) m t q.1)

digit_not : (c x : ℕ) → is_digit c ≡ true → x < 48 → eqb c x ≡ false
digit_not c x d h = ne_eqb c x (λ e. omega (arith, (digit-range c d).least))

walk-digits : (h : Header) (a m : ℕ) (t r : List ℕ) → 1 ≤ a → read_digits a t ≡ some m → allowed h m ≡ true
    → walk (digit h a) (t ++ (crlf ++ r)) ≡ walk (after h m) r
walk-digits h a m [] r lo e k = ap (λ (y : ℕ). walk (after h y) r) (some-eq e)
walk-digits h a m (c ∷ t) r lo e k =
    let q = cond-some (is_digit c) (read_digits (10 * a + (c - 48)) t) m e in
    rw (
      digit_not c 13 q.0 (omega arith),
      q.0,
      ne_eqb a 0 (λ z. omega arith),
      allowed-below h (10 * a + (c - 48)) m (omega arith) (digits-grow (10 * a + (c - 48)) m t q.1) k,
    )
    (walk-digits h (10 * a + (c - 48)) m t r (omega arith) q.1 k)

-- the number of a line, without extra zeros
walk-number : (h : Header) (m : ℕ) (t r : List ℕ) → read_nat t ≡ some m → allowed h m ≡ true
    → walk (first h) (t ++ (crlf ++ r)) ≡ walk (after h m) r
walk-number h m t r e k = go (is_zero t) refl e
  where
    nought : 0 ≡ m → walk (first h) (48 ∷ (crlf ++ r)) ≡ walk (after h m) r
    nought z = rw (ap (allowed h) z ∙ k) (ap (λ (y : ℕ). walk (after h y) r) z)

    positive : (t : List ℕ) → read_positive t ≡ some m → walk (first h) (t ++ (crlf ++ r)) ≡ walk (after h m) r
    positive [] e = none-some m e
    positive (c ∷ t) e = lead (eqb c 48) refl e
      where
        lead : (b : Bool) → eqb c 48 ≡ b → cond b none (read_digits 0 (c ∷ t)) ≡ some m → walk (first h) (c ∷ (t ++ (crlf ++ r))) ≡ walk (after h m) r
        lead true z e = none-some m e
        lead false z e =
            let q = cond-some (is_digit c) (read_digits (10 * 0 + (c - 48)) t) m e in
            let v : 10 * 0 + (c - 48) ≡ c - 48 = omega arith in
            let ne : c ≡ 48 → ⊥ = eqb-false c 48 z in
            let d = digit-range c q.0 in
            let lo : 1 ≤ c - 48 = omega arith in
            let reads : read_digits (c - 48) t ≡ some m = ap (λ (y : ℕ). read_digits y t) (sym v) ∙ q.1 in
            rw (q.0, allowed-below h (c - 48) m lo (digits-grow (c - 48) m t reads) k) (walk-digits h (c - 48) m t r lo reads k)

    go : (b : Bool) → is_zero t ≡ b → cond b (some 0) (read_positive t) ≡ some m → walk (first h) (t ++ (crlf ++ r)) ≡ walk (after h m) r
    go true z e = ap (λ (y : List ℕ). walk (first h) (y ++ (crlf ++ r))) (zero-text t z) ∙ nought (some-eq e)
    go false z e = positive t e

-- ---- words

walk-body : (w r : List ℕ) (later : ℕ) → walk (body (length w) later) (w ++ (crlf ++ r)) ≡ walk (words later) r
walk-body [] r later = refl
walk-body (c ∷ w) r later = walk-body w r later

walk-line : (h : Header) (m : ℕ) (r : List ℕ) → m < 10 ^ 20 → allowed h m ≡ true → walk (first h) ((nat_text m ++ crlf) ++ r) ≡ walk (after h m) r
walk-line h m r small k = rw (append_assoc (nat_text m) crlf r) (walk-number h m (nat_text m) r (read_nat-nat_text m small) k)

walk-words : (ws : List (List ℕ)) → Small ws → walk (words (length ws)) (bulks_bytes ws) ≡ some end
walk-words [] h = refl
walk-words (w ∷ ws) h =
    ap (walk (words (suc (length ws)))) (append_assoc (line bulk_mark (length w)) (w ++ crlf) (bulks_bytes ws))
    ∙ (walk-line (bulk (length ws)) (length w) ((w ++ crlf) ++ bulks_bytes ws) h.0 refl
    ∙ (ap (walk (body (length w) (length ws))) (append_assoc w crlf (bulks_bytes ws))
    ∙ (walk-body w (bulks_bytes ws) (length ws) ∙ walk-words ws h.1)))

-- ---- commands

walk-encode : (ws : List (List ℕ)) → Sendable ws → walk start (encode ws) ≡ some end
unfolding encode
walk-encode ws h =
    let n = length-append (line array_mark (length ws)) (bulks_bytes ws) in
    let few : length ws ≤ word_limit = h.few_words in
    let fine : allowed array (length ws) ≡ true = rw (le-leb 1 (length ws) h.some_words, le-leb (length ws) word_limit few) in
    walk-line array (length ws) (bulks_bytes ws) (omega arith) fine ∙ walk-words ws (small-words ws (omega (arith, h.short)))

-- a whole command comes to the end
pub walk-whole : (s : List ℕ) → Whole s → walk start s ≡ some end
walk-whole s w =
    let d = encode-decode s w.words w.reads in
    ap (walk start) d.bytes ∙ walk-encode w.words d.words

pub whole-short : (s : List ℕ) → Whole s → length s ≤ command_limit
whole-short s w =
    let d = encode-decode s w.words w.reads in
    subst (λ (y : List ℕ). length y ≤ command_limit) (sym d.bytes) d.words.short

-- ---- what comes to the end is a whole command

apart : {X : Type 0} (p q : Place) → (p ≡ q → ⊥) → ◌≡◌ {A = Option Place} (some p) (some q) → X
apart p q h e = absurd (h (some-eq e))

-- a step that went on, went by its test
went : {X : Type 0} (b : Bool) (p : Place) (s : List ℕ) → to b p >>= (λ q. walk q s) ≡ some end → (b ≡ true → walk p s ≡ some end → X) → X
went true p s e k = k refl e
went false p s e k = none-some end e

-- a line's end
end-walked : {X : Type 0} (h : Header) (m : ℕ) (s : List ℕ) → walk (line_end h m) s ≡ some end
    → ((r : List ℕ) → s ≡ 10 ∷ r → walk (after h m) r ≡ some end → X) → X
end-walked h m [] e k = apart (line_end h m) end (λ z. let x : ◌≡◌ {A = ℕ} 0 1 = cc in omega arith) e
end-walked h m (c ∷ s) e k =
    went (eqb c 10) (after h m) s e λ t e. k s (ap (λ (y : ℕ). y ∷ s) (eqb-true c 10 t)) e

digits-walked : {X : Type 0} (h : Header) (a : ℕ) (s : List ℕ) → walk (digit h a) s ≡ some end → allowed h a ≡ true
    → ((t : List ℕ) (m : ℕ) (r : List ℕ) → s ≡ t ++ (crlf ++ r) → read_digits a t ≡ some m → (a ≡ 0 → t ≡ []) → allowed h m ≡ true → walk (after h m) r ≡ some end → X)
    → X
digits-walked h a [] e f k = apart (digit h a) end (λ z. let x : ◌≡◌ {A = ℕ} 0 1 = cc in omega arith) e
digits-walked {X} h a (c ∷ s) e f k = go (eqb c 13) refl e (digits-walked {X = X} h (10 * a + (c - 48)) s)
  where
    go : (b : Bool) → eqb c 13 ≡ b
        → cond b (some (line_end h a)) (to (is_digit c && (not (eqb a 0) && allowed h (10 * a + (c - 48)))) (digit h (10 * a + (c - 48)))) >>= (λ q. walk q s) ≡ some end
        → (walk (digit h (10 * a + (c - 48))) s ≡ some end → allowed h (10 * a + (c - 48)) ≡ true
        → ((t : List ℕ) (m : ℕ) (r : List ℕ) → s ≡ t ++ (crlf ++ r) → read_digits (10 * a + (c - 48)) t ≡ some m → (10 * a + (c - 48) ≡ 0 → t ≡ []) → allowed h m ≡ true
        → walk (after h m) r ≡ some end → X) → X)
        → X
    go true t e again =
        end-walked h a s e λ r q e.
        k [] a r ((λ i. eqb-true c 13 t i ∷ s) ∙ ap (λ (y : List ℕ). 13 ∷ y) q) refl (λ z. refl) f e
    go false t e again =
        went (is_digit c && (not (eqb a 0) && allowed h (10 * a + (c - 48)))) (digit h (10 * a + (c - 48))) s e λ b e.
        let d : is_digit c ≡ true = and_left (is_digit c) (not (eqb a 0) && allowed h (10 * a + (c - 48))) b in
        let n = and_right (is_digit c) (not (eqb a 0) && allowed h (10 * a + (c - 48))) b in
        let ne : eqb a 0 ≡ false = not-true (eqb a 0) (and_left (not (eqb a 0)) (allowed h (10 * a + (c - 48))) n) in
        again e (and_right (not (eqb a 0)) (allowed h (10 * a + (c - 48))) n) λ t m r q reads z f e.
        k (c ∷ t) m r (ap (λ (y : List ℕ). c ∷ y) q) (rw d reads) (λ z. absurd (eqb-false a 0 ne z)) f e

number-walked : {X : Type 0} (h : Header) (s : List ℕ) → walk (first h) s ≡ some end
    → ((t : List ℕ) (m : ℕ) (r : List ℕ) → s ≡ t ++ (crlf ++ r) → read_nat t ≡ some m → allowed h m ≡ true → walk (after h m) r ≡ some end → X) → X
number-walked h [] e k = apart (first h) end (λ z. let x : ◌≡◌ {A = ℕ} 0 1 = cc in omega arith) e
number-walked h (c ∷ s) e k =
    went (is_digit c && allowed h (c - 48)) (digit h (c - 48)) s e λ b e.
    let d : is_digit c ≡ true = and_left (is_digit c) (allowed h (c - 48)) b in
    digits-walked h (c - 48) s e (and_right (is_digit c) (allowed h (c - 48)) b) λ t m r q reads z f e.
    k (c ∷ t) m r (ap (λ (y : List ℕ). c ∷ y) q) (number t m d reads z (eqb c 48) refl) f e
  where
    number : (t : List ℕ) (m : ℕ) → is_digit c ≡ true → read_digits (c - 48) t ≡ some m → (c - 48 ≡ 0 → t ≡ []) → (b : Bool) → eqb c 48 ≡ b → read_nat (c ∷ t) ≡ some m
    number [] m d e z true q =
        let v : c ≡ 48 = eqb-true c 48 q in
        let x : c - 48 ≡ 0 = omega arith in
        rw q (ap some (sym x) ∙ e)
    number (y ∷ t) m d e z true q = let v : c ≡ 48 = eqb-true c 48 q in let n : y ∷ t ≡ [] = z (omega arith) in let x : ◌≡◌ {A = ℕ} 0 1 = cc in absurd (omega arith)
    number [] m d e z false q = rw (q, d) (ap (λ (y : ℕ). some y) (omega arith) ∙ e)
    number (y ∷ t) m d e z false q =
        let v : 10 * 0 + (c - 48) ≡ c - 48 = omega arith in
        rw (q, d) (ap (λ (x : ℕ). read_digits x (y ∷ t)) v ∙ e)

body-walked : {X : Type 0} (n later : ℕ) (s : List ℕ) → walk (body n later) s ≡ some end
    → ((w r : List ℕ) → s ≡ w ++ (crlf ++ r) → length w ≡ n → walk (words later) r ≡ some end → X) → X
body-walked n later [] e k = apart (body n later) end (λ z. let x : ◌≡◌ {A = ℕ} 0 1 = cc in omega arith) e
body-walked zero later (c ∷ []) e k =
    went (eqb c 13) (body_end later) [] e λ t e.
    apart (body_end later) end (λ z. let x : ◌≡◌ {A = ℕ} 0 1 = cc in omega arith) e
body-walked zero later (c ∷ d ∷ s) e k =
    went (eqb c 13) (body_end later) (d ∷ s) e λ t e.
    went (eqb d 10) (words later) s e λ u e.
    k [] s (λ i. eqb-true c 13 t i ∷ eqb-true d 10 u i ∷ s) refl e
body-walked (suc n) later (c ∷ s) e k =
    body-walked n later s e λ w r q l e. k (c ∷ w) r (ap (λ (y : List ℕ). c ∷ y) q) (ap suc l) e

-- ---- the readers read it

words-walked : (n : ℕ) (s : List ℕ) → walk (words n) s ≡ some end → (ws : List (List ℕ)) × (read_bulks n s ≡ some ws)
words-walked zero [] e = ([], refl)
words-walked zero (c ∷ s) e = none-some end e
words-walked (suc n) [] e = apart (words (suc n)) end (λ z. let x : suc n ≡ 0 = cc in omega arith) e
words-walked (suc n) (c ∷ s) e =
    went (eqb c bulk_mark) (first (bulk n)) s e λ b e.
    number-walked (bulk n) s e λ t m r q reads f e.
    body-walked m n r e λ w r2 q2 l e.
    let ih = words-walked n r2 e in
    let bytes : c ∷ s ≡ bulk_mark ∷ (t ++ (crlf ++ (w ++ (crlf ++ r2)))) = (λ i. eqb-true c bulk_mark b i ∷ q i) ∙ ap (λ (y : List ℕ). bulk_mark ∷ (t ++ (crlf ++ y))) q2 in
    (w ∷ ih.0, ap (read_bulks (suc n)) bytes ∙ rw (read_bulk-word t w r2 (reads ∙ ap some (sym l)), ih.1))

array-walked : (s : List ℕ) → walk start s ≡ some end → (ws : List (List ℕ)) × (read_array s ≡ some ws)
array-walked [] e = apart start end (λ z. let x : ◌≡◌ {A = ℕ} 0 1 = cc in omega arith) e
array-walked (c ∷ s) e =
    went (eqb c array_mark) (first array) s e λ b e.
    number-walked array s e λ t m r q reads f e.
    let ws = words-walked m r e in
    let bytes : c ∷ s ≡ array_mark ∷ (t ++ (crlf ++ r)) = λ i. eqb-true c array_mark b i ∷ q i in
    (ws.0, ap read_array bytes ∙ rw (read_line-number array_mark m t r reads, f) ws.1)

-- bytes that come to the end, and are not too many, are a whole command
pub whole-walk : (s : List ℕ) → walk start s ≡ some end → length s ≤ command_limit → Whole s
unfolding decode
whole-walk s e h = let ws = array-walked s e in record { words = ws.0; reads = rw (le-leb (length s) command_limit h) ws.1 }
