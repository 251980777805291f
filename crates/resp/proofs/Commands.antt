-- A whole command: its first line says how many words follow, and the words left are at each place what the bytes left decode to.
use Prim.Native.Nat.{ℕ, zero, suc, ◌≤◌, ◌<◌}
use native.Mathlib.Omega.{arith}
use mathlib.Core.Path.{◌≡◌, refl, sym, ap, ◌∙◌}
use mathlib.Core.Bool.{true, false, cond, ◌&&◌}
use mathlib.Core.List.{List, [], ◌∷◌}
use mathlib.Core.Option.{Option, none, some, some-injective, none-ne-some}
use lib.Dec.{leb}
use lib.ListN.{length, drop}
use borrow.Author.Tests.{le-leb, lt-leb}
use Rattle.model.specs.Optional.{◌>>=◌}
use Rattle.model.specs.Resp.{command_limit, word_limit, array_mark, Taken, read_line, read_bulk, read_bulks, decode}
use Rattle.resp.specs.Words.{line_from, has_words}
use Rattle.std.specs.Prelude.{None}
use Rattle.resp.proofs.Optional.{bind-some, is_some-some, is_some-none}
use Rattle.resp.proofs.Lines.{LineAt, line-malformed}

-- ---- the words left

pub bulks-length : (n : ℕ) (s : List ℕ) {ws : List (List ℕ)} → read_bulks n s ≡ some ws → length ws ≡ n
bulks-length zero [] e = sym (ap length (some-injective [] _ e))
bulks-length zero (c ∷ s) {ws} e = absurd (none-ne-some ws e)
bulks-length (suc n) s {ws} e =
    let w = bind-some (read_bulk s) _ e in
    let r = bind-some (read_bulks n w.0.rest) _ w.2 in
    sym (ap length (some-injective _ ws r.2)) ∙ ap suc (bulks-length n w.0.rest r.1)

-- ---- what bytes decode to, by the tests on the way

module _ (s : List ℕ) where
  pub decode-long : command_limit < length s → decode s ≡ none
  unfolding decode
  decode-long h = simp (lt-leb (length s) command_limit h)

  module _ (h : length s ≤ command_limit) where
    pub decode-over : line_from array_mark s 0 ≡ None → decode s ≡ none
    unfolding decode
    decode-over e = simp (le-leb (length s) command_limit h) (go (read_line array_mark s) refl)
      where
        go : (o : Option (Taken ℕ)) → read_line array_mark s ≡ o
            → (o >>= (λ l. cond (leb 1 l.value && leb l.value word_limit) (read_bulks l.value l.rest) none)) ≡ none
        go none q = refl
        go (some t) q =
            let big = line-malformed array_mark s 0 e q in
            simp (le-leb 1 t.value (omega arith), lt-leb t.value word_limit (omega arith))

    module _ {v n : ℕ} (l : LineAt array_mark s 0 v n) where
      counted : decode s ≡ cond (leb 1 v && leb v word_limit) (read_bulks v (drop n s)) none
      unfolding decode
      counted = simp (le-leb (length s) command_limit h, l.reads)

      pub decode-none : v < 1 → decode s ≡ none
      decode-none few = simp (counted, lt-leb 1 v few)

      module _ (least : 1 ≤ v) where
        pub decode-many : word_limit < v → decode s ≡ none
        decode-many many = simp (counted, le-leb 1 v least, lt-leb v word_limit many)

        module _ (most : v ≤ word_limit) where
          pub decode-cut : has_words v s n ≡ false → decode s ≡ none
          unfolding has_words
          decode-cut e = simp (counted, le-leb 1 v least, le-leb v word_limit most, is_some-none (read_bulks v (drop n s)) e)

          pub decode-whole : has_words v s n ≡ true → (ws : List (List ℕ)) × (decode s ≡ some ws) × (length ws ≡ v)
          unfolding has_words
          decode-whole e =
              let p = is_some-some (read_bulks v (drop n s)) e in
              (p.0, counted ∙ simp (le-leb 1 v least, le-leb v word_limit most) p.1, bulks-length v (drop n s) p.1)
