-- A call with an assembler is a call with what is held at the front of its buffer, and leaves what is held there.
use mathlib.Core.Path.{◌≡◌, refl, sym, ap, ◌∙◌, subst}
use mathlib.Core.Bool.{Bool, true, false, cond, ◌&&◌}
use mathlib.Core.List.{List, [], ◌∷◌, ◌++◌, append_assoc}
use Prim.Native.Nat.{ℕ, zero, suc, ◌+◌, ◌≤◌, ◌<◌}
use native.Mathlib.Omega.{arith}
use lib.ListN.{length, take, drop, length-append, length-drop}
use lib.Seq.{length-take-le, take-append_seam}
use lib.Dec.{leb, eqb}
use borrow.Author.Tests.{le-leb, lt-leb, leb-true, eqb-true}
use Rattle.model.specs.Bytes.{written}
use Rattle.model.specs.Resp.{command_limit}
use Rattle.model.specs.Call.{Store}
use Rattle.model.proofs.Basics.{and_left, and_right}
use Rattle.stream.specs.Feed.{Fed, more, complete, refused, feed, Right, Given, Result, Whole, result_of, ends, feeding, Serves, results, joined, waiting, Cut}
use Rattle.stream.specs.Assembler.{holds, feed_in, placed, bytes_after, command_in, feeding_in, results_in}
use Rattle.stream.proofs.Walk.{whole-short}
use Rattle.stream.proofs.Viable.{proper-short}
use Rattle.stream.proofs.Feeding.{feed-right}
use Rattle.stream.proofs.Pieces.{feeding-serves, held-short, feeding-undivided}

-- ---- which bytes are held

module _ (b : List ℕ) (n : ℕ) (piece : List ℕ) where
  pub in-short : length b < command_limit → feed_in b n piece ≡ refused 0
  unfolding feed_in
  in-short h = rw (lt-leb command_limit (length b) h)

  pub in-beyond : length b < n → feed_in b n piece ≡ refused 0
  unfolding feed_in
  in-beyond h = go (leb command_limit (length b))
    where
      go : (t : Bool) → cond (t && leb n (length b)) (feed (take n b) piece) (refused 0) ≡ refused 0
      go true = rw (lt-leb n (length b) h)
      go false = refl

  pub in_held : command_limit ≤ length b → n ≤ length b → feed_in b n piece ≡ feed (take n b) piece
  unfolding feed_in
  in_held h k = rw (le-leb command_limit (length b) h, le-leb n (length b) k)

-- ---- bytes at the front of the buffer

module _ (b : List ℕ) (n : ℕ) (s : List ℕ) (h : n ≤ length b) where
  pub front_length : length (take n b ++ s) ≡ n + length s
  front_length = length-append (take n b) s ∙ ap (λ (m : ℕ). m + length s) (length-take-le n b h)

  -- bytes written behind the first n
  pub written-placed : written n s b ≡ placed b (take n b ++ s)
  written-placed = sym (append_assoc (take n b) s (drop (n + length s) b)) ∙ ap (λ (m : ℕ). (take n b ++ s) ++ drop m b) (sym front_length)

module _ (b s : List ℕ) where
  pub placed-length : length s ≤ length b → length (placed b s) ≡ length b
  placed-length h = omega (arith, length-append s (drop (length s) b), length-drop (length s) b)

  placed-front : take (length s) (placed b s) ≡ s
  placed-front = take-append_seam s (drop (length s) b)

-- ---- what a piece comes to

module _ (b : List ℕ) (n : ℕ) (piece : List ℕ) where
  -- a result that takes a byte or holds one is of the bytes held, which are in the buffer
  module _ (x : Fed) (e : feed_in b n piece ≡ x) (took : refused 0 ≡ x → ⊥) where
    in_buffer : (command_limit ≤ length b) × (n ≤ length b)
    unfolding feed_in
    in_buffer = go (holds b n) refl e
      where
        go : (t : Bool) → holds b n ≡ t → cond t (feed (take n b) piece) (refused 0) ≡ x → (command_limit ≤ length b) × (n ≤ length b)
        go true f e = (
          leb-true command_limit (length b) (and_left (leb command_limit (length b)) (leb n (length b)) f),
          leb-true n (length b) (and_right (leb command_limit (length b)) (leb n (length b)) f),
        )
        go false f e = absurd (took e)

    in_right : Right (take n b) piece x
    in_right = subst (Right (take n b) piece) (sym (in_held b n piece in_buffer.0 in_buffer.1) ∙ e) (feed-right (take n b) piece)

  -- what is held then, and a whole command, have room
  pub more_room : (new : List ℕ) → feed_in b n piece ≡ more new → (length new ≡ n + length piece) × (n + length piece < command_limit) × (length new ≤ length b)
  more_room new e =
      let ne : refused 0 ≡ more new → ⊥ = λ z. let y : ◌≡◌ {A = ℕ} 0 1 = cc in omega arith in
      let h = in_buffer (more new) e ne in
      let r = in_right (more new) e ne in
      let short = proper-short new r.proper in
      let long : length new ≡ n + length piece = ap length r.bytes ∙ front_length b n piece h.1 in
      (long, omega arith, omega (arith, h.0))

  pub whole_room : (m : ℕ) (c : List ℕ) → feed_in b n piece ≡ complete m c
      → (c ≡ take n b ++ take m piece) × (m ≤ length piece) × (length c ≡ n + m) × (n + m ≤ command_limit) × (command_limit ≤ length b)
  whole_room m c e =
      let ne : refused 0 ≡ complete m c → ⊥ = λ z. let y : ◌≡◌ {A = ℕ} 0 1 = cc in omega arith in
      let h = in_buffer (complete m c) e ne in
      let r = in_right (complete m c) e ne in
      let short = whole-short c r.whole in
      let long : length c ≡ n + m = ap length r.bytes ∙ (front_length b n (take m piece) h.1 ∙ ap (λ (k : ℕ). n + k) (length-take-le m piece r.most)) in
      (r.bytes, r.most, long, omega arith, h.0)

  pub refused-most : (m : ℕ) → feed_in b n piece ≡ refused m → m ≤ length piece
  refused-most zero e = omega arith
  refused-most (suc m) e = (in_right (refused (suc m)) e (λ z. let y : ◌≡◌ {A = ℕ} 0 (suc m) = cc in omega arith)).within

  -- the command stands where `command_in` has it
  pub command-is : (m : ℕ) (c : List ℕ) → feed_in b n piece ≡ complete m c → command_in (bytes_after b n (complete m c)) n piece m ≡ c
  command-is m c e = go (eqb n 0) refl
    where
      go : (t : Bool) → eqb n 0 ≡ t → cond t (take m piece) (take (n + m) (cond t b (placed b c))) ≡ c
      go true z = let w = whole_room m c e in let k : n ≡ 0 = eqb-true n 0 z in sym (w.0 ∙ rw k)
      go false z = let w = whole_room m c e in ap (λ (k : ℕ). take k (placed b c)) (sym w.2) ∙ placed-front b c

  -- the buffer keeps its length
  pub after-length : length (bytes_after b n (feed_in b n piece)) ≡ length b
  after-length = go (feed_in b n piece) refl
    where
      go : (x : Fed) → feed_in b n piece ≡ x → length (bytes_after b n x) ≡ length b
      go (more new) e = placed-length b new (more_room new e).2
      go (complete m c) e = by (eqb n 0)
        where
          by : (t : Bool) → length (cond t b (placed b c)) ≡ length b
          by true = refl
          by false = let w = whole_room m c e in placed-length b c (omega arith)
      go (refused m) e = refl

-- a command that came in one piece is not copied
pub whole-uncopied : (b : List ℕ) (m : ℕ) (c : List ℕ) → bytes_after b 0 (complete m c) ≡ b
whole-uncopied b m c = refl

-- ---- calls in a row

module _ (s : Store) (b : List ℕ) (n : ℕ) (g : Given) where
  -- what is held stands at the front of the buffer
  pub held-front : take (length (feeding_in s b n g).held) (bytes_after b n (feed_in b n g.piece)) ≡ (feeding_in s b n g).held
  held-front = go (feed_in b n g.piece)
    where
      go : (x : Fed) → take (length (result_of s g x).held) (bytes_after b n x) ≡ (result_of s g x).held
      go (more new) = placed-front b new
      go (complete m c) = refl
      go (refused m) = refl

  pub feeding_in-feeding : command_limit ≤ length b → n ≤ length b → feeding_in s b n g ≡ feeding s (take n b) g
  feeding_in-feeding h k = ap (result_of s g) (in_held b n g.piece h k)

-- calls with an assembler of 512 bytes or more are calls with what it holds
pub results_in-results : (s : Store) (b : List ℕ) (n : ℕ) (gs : List Given) → command_limit ≤ length b → n ≤ length b
    → results_in s b n gs ≡ results (feeding s) (take n b) gs
results_in-results s b n [] h k = refl
results_in-results s b n (g ∷ gs) h k =
    let r = feeding_in s b n g in
    let one : r ≡ feeding s (take n b) g = feeding_in-feeding s b n g h k in
    let long = after-length b n g.piece in
    let few : length r.held ≤ 511 = subst (λ (q : Result). length q.held ≤ 511) (sym one) (held-short s (take n b) g) in
    ap (λ (l : List Result). r ∷ l)
    (results_in-results s (bytes_after b n (feed_in b n g.piece)) (length r.held) gs (omega arith) (omega arith)
    ∙ ap (λ (l : List ℕ). results (feeding s) l gs) (held-front s b n g))
    ∙ ap (λ (q : Result). q ∷ results (feeding s) q.held gs) one

-- so a call with an assembler meets the request, and with it every claim about feeders (`serves-undivided`, `serves-streamed`, `serves-seamless`)
pub feeding_in-serves : (s : Store) (b : List ℕ) → command_limit ≤ length b → Serves s (λ held g. feeding_in s (placed b held) (length held) g)
feeding_in-serves s b h held g x r =
    let long = length-append held (drop (length held) b) in
    let rest = length-drop (length held) b in
    feeding_in-feeding s (placed b held) (length held) g (omega arith) (omega arith)
    ∙ (ap (λ (l : List ℕ). feeding s l g) (placed-front b held) ∙ feeding-serves s held g x r)

-- one whole command cut anywhere, with an assembler that holds nothing
pub feeding_in-undivided : (s : Store) (b : List ℕ) → command_limit ≤ length b → (c : List ℕ) → Whole c → (gs : List Given) → joined gs ≡ c
    → (k : Cut gs c)
    × (results_in s b 0 gs ≡ waiting [] k.before ++ (ends (length k.last.piece) (s k.last.table k.last.now c k.last.reply) ∷ waiting [] k.after))
feeding_in-undivided s b h c w gs e = let k = feeding-undivided s c w gs e in (k.0, results_in-results s b 0 gs h (omega arith) ∙ k.1)
