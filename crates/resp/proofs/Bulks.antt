-- Words at a place: a word that was read is the model's, its bytes stand between the places given, and the words left are what the bytes
-- left decode to.
use Prim.Native.Nat.{ℕ, zero, suc, ◌+◌, ◌-◌, ◌≤◌, ◌<◌}
use native.Mathlib.Omega.{arith}
use mathlib.Core.Path.{◌≡◌, refl, sym, ap, ◌∙◌}
use mathlib.Core.Bool.{true, false}
use mathlib.Core.List.{List, [], ◌∷◌, ◌++◌, append_assoc}
use mathlib.Core.Option.{Option, none, some, some-injective}
use lib.Dec.{leb}
use lib.ListN.{length, drop, take, take-append-drop, length-append, length-drop, drop_of_length-le}
use lib.Seq.{drop-drop, length-take-le, take_at, drop_at}
use borrow.Author.Tests.{le-leb, lt-leb, leb-true}
use Rattle.model.specs.Bytes.{crlf, part}
use Rattle.model.specs.Optional.{◌>>=◌, is_some}
use Rattle.model.specs.Resp.{command_limit, bulk_mark, Taken, took, skip_line_end, read_line, read_body, read_bulk, read_bulks}
use Rattle.resp.specs.Words.{ends_line, line_from, word_of, word_from, has_words}
use Rattle.std.specs.Prelude.{Some, None}
use Rattle.std.proofs.lemmas.Option.{same_Some}
use Rattle.resp.specs.declared.Word.{Word}
use Rattle.resp.proofs.Optional.{bind-some, cond-some}
use Rattle.resp.proofs.Places.{line_end-some, drop-append, ends-line, ends-not}
use Rattle.resp.proofs.Lines.{line-suffix, line-tail, LineAt, line-malformed}

-- ---- what a word is read as, by its parts

body-past : (n : ℕ) (s : List ℕ) → length s < n → read_body n s ≡ none
body-past n s h = let d : drop n s ≡ [] = drop_of_length-le s {i = n} (omega arith) in simp d

module _ (s : List ℕ) (at : ℕ) where
  pub word_over : length s ≤ command_limit → line_from bulk_mark s at ≡ None → word_from s at ≡ None
  unfolding word_from read_bulk
  word_over h e = go (read_line bulk_mark (drop at s)) refl
    where
      go : (o : Option (Taken ℕ)) → read_line bulk_mark (drop at s) ≡ o
          → word_of (length s) (o >>= (λ l. read_body l.value l.rest)) ≡ None
      go none q = refl
      go (some t) q =
          let b : read_body t.value t.rest ≡ none =
          body-past t.value t.rest (omega (arith, line-malformed bulk_mark s at e q, (line-tail bulk_mark s at q).sum)) in
          simp b

  module _ {v n : ℕ} (l : LineAt bulk_mark s at v n) where
    pub word_cut : ends_line (drop (n + v) s) ≡ false → word_from s at ≡ None
    unfolding word_from read_bulk
    word_cut e = simp (l.reads, drop-drop v n s, ends-not (drop (n + v) s) e)

    pub word-whole : ends_line (drop (n + v) s) ≡ true → word_from s at ≡ Some (record { start = n; end = n + v; next = n + v + 2 })
    unfolding word_from read_bulk
    word-whole e =
        let d = ends-line s (n + v) e in
        let fits : leb v (length (drop n s)) ≡ true = le-leb v (length (drop n s)) (omega (arith, length-drop n s, d.within)) in
        let next : length s - length (drop (n + v + 2) s) ≡ n + v + 2 = omega (arith, length-drop (n + v + 2) s, d.within) in
        let size : length (take v (drop n s)) ≡ v = length-take-le v (drop n s) (leb-true v (length (drop n s)) fits) in
        let end : n + v + 2 - 2 ≡ n + v = omega arith in
        let start : n + v - v ≡ n = omega arith in
        simp (l.reads, drop-drop v n s, d.skips, fits, next, size, end, start)

-- ---- what follows from a word that was read

pub bulk-split : (s : List ℕ) {t : Taken (List ℕ)} → read_bulk s ≡ some t → (p : List ℕ) × (s ≡ p ++ (t.value ++ (crlf ++ t.rest)))
unfolding read_bulk
bulk-split s {t} e =
    let l = bind-some (read_line bulk_mark s) _ e in
    let n = l.0.value in
    let y = l.0.rest in
    let r = bind-some (skip_line_end (drop n y)) _ l.2 in
    let c = cond-some (leb n (length y)) _ r.2 in
    let t-is : took (take n y) r.0 ≡ t = some-injective _ t c.1 in
    let p = line-suffix bulk_mark s l.1 in
    let whole : y ≡ t.value ++ (crlf ++ t.rest) =
    sym (take-append-drop n y)
    ∙ ap (λ (u : List ℕ). take n y ++ u) (line_end-some (drop n y) r.1)
    ∙ ap (λ (u : Taken (List ℕ)). u.value ++ (crlf ++ u.rest)) t-is in
    (p.0, p.1 ∙ ap (λ (u : List ℕ). p.0 ++ u) whole)

-- the word at a place
pub record WordAt (s : List ℕ) (at start end next : ℕ) : Type 0 where
  pub reads : read_bulk (drop at s) ≡ some (took (part start (end - start) s) (drop next s))
  pub ordered : start ≤ end
  pub ended : end + 2 ≡ next
  pub within : next ≤ length s

-- the places of a word between other bytes
module _ (s p w r : List ℕ) (e : s ≡ p ++ (w ++ (crlf ++ r))) where
  middle-length : length s ≡ length p + length w + 2 + length r
  middle-length = ap length e ∙ simp length-append (omega arith)

  middle-word : part (length p) (length w) s ≡ w
  middle-word = ap (part (length p) (length w)) e ∙ simp (drop_at p (w ++ (crlf ++ r)) (length p) refl) (take_at w (crlf ++ r) (length w) refl)

  middle-left : drop (length p + length w + 2) s ≡ r
  middle-left =
      let h : length (p ++ (w ++ crlf)) ≡ length p + length w + 2 = simp length-append (omega arith) in
      ap (drop (length p + length w + 2)) (e ∙ simp append_assoc) ∙ drop_at (p ++ (w ++ crlf)) r (length p + length w + 2) h

pub word-at : (s : List ℕ) (at : ℕ) {start end next : ℕ} → word_from s at ≡ Some (record { start = start; end = end; next = next }) → WordAt s at start end next
unfolding word_from
word-at s at {start} {end} {next} e = go (read_bulk (drop at s)) refl e
  where
    go : (o : Option (Taken (List ℕ))) → read_bulk (drop at s) ≡ o → word_of (length s) o ≡ Some (record { start = start; end = end; next = next }) → WordAt s at start end next
    go none q e = let z : ◌≡◌ {A = ℕ} 0 1 = cc in absurd (omega arith)
    go (some t) q e =
        let w = same_Some _ _ e in
        let next-is : length s - length t.rest ≡ next = ap (λ (x : Word). x.next) w in
        let end_is : length s - length t.rest - 2 ≡ end = ap (λ (x : Word). x.end) w in
        let start_is : length s - length t.rest - 2 - length t.value ≡ start = ap (λ (x : Word). x.start) w in
        let b = bulk-split (drop at s) q in
        let p = take at s ++ b.0 in
        let whole = drop-append s at b.0 (t.value ++ (crlf ++ t.rest)) b.1 in
        let l = middle-length s p t.value t.rest whole in
        let p-is : start ≡ length p = omega arith in
        let size : end - start ≡ length t.value = omega arith in
        let left : next ≡ length p + length t.value + 2 = omega arith in
        let word : part start (end - start) s ≡ t.value = rw (size, p-is) (middle-word s p t.value t.rest whole) in
        let rest : drop next s ≡ t.rest = rw left (middle-left s p t.value t.rest whole) in
        record {
          reads =
              q
              ∙ ap (λ (w : List ℕ). some (took w t.rest)) (sym word)
              ∙ ap (λ (r : List ℕ). some (took (part start (end - start) s) r)) (sym rest);
          ordered = omega arith;
          ended = omega arith;
          within = omega arith;
        }

pub word-malformed : (s : List ℕ) (at : ℕ) → word_from s at ≡ None → read_bulk (drop at s) ≡ none
unfolding word_from
word-malformed s at e = go (read_bulk (drop at s)) refl e
  where
    go : (o : Option (Taken (List ℕ))) → read_bulk (drop at s) ≡ o → word_of (length s) o ≡ None → read_bulk (drop at s) ≡ none
    go none q e = q
    go (some t) q e = let z : ◌≡◌ {A = ℕ} 0 1 = cc in absurd (omega arith)

-- ---- all the words

module _ (s : List ℕ) (at n : ℕ) where
  pub words-malformed : 0 < n → word_from s at ≡ None → has_words n s at ≡ false
  unfolding has_words
  words-malformed h e = go n h
    where
      go : (n : ℕ) → 0 < n → is_some (read_bulks n (drop at s)) ≡ false
      go zero h = absurd (omega arith)
      go (suc n) h = simp (word-malformed s at e)

  pub words-next : {start end next : ℕ} → 0 < n → WordAt s at start end next → has_words n s at ≡ has_words (n - 1) s next
  unfolding has_words
  words-next {start} {end} {next} h w = go n h
    where
      kept : (x : List ℕ) (o : Option (List (List ℕ))) → is_some (o >>= (λ ws. some (x ∷ ws))) ≡ is_some o
      kept x none = refl
      kept x (some ws) = refl

      go : (n : ℕ) → 0 < n → is_some (read_bulks n (drop at s)) ≡ is_some (read_bulks (n - 1) (drop next s))
      go zero h = absurd (omega arith)
      go (suc n) h =
          let e : suc n - 1 ≡ n = omega arith in
          simp (w.reads, e) (kept (part start (end - start) s) (read_bulks n (drop next s)))

pub words-end : (s : List ℕ) (at n : ℕ) → n ≤ 0 → has_words n s at ≡ leb (length s) at
unfolding has_words
words-end s at zero h = go (drop at s) refl
  where
    go : (x : List ℕ) → drop at s ≡ x → is_some (read_bulks zero (drop at s)) ≡ leb (length s) at
    go [] e = simp (e, le-leb (length s) at (omega (arith, length-drop at s, ap length e)))
    go (c ∷ x) e = simp (e, lt-leb (length s) at (omega (arith, length-drop at s, ap length e)))
words-end s at (suc n) h = absurd (omega arith)
