-- A piece behind bytes that leave a state: what the scan of the piece tells is what the model's `feed_in` gives.
use mathlib.Core.Path.{◌≡◌, sym, ap, ◌∙◌}
use mathlib.Core.Bool.{cond}
use mathlib.Core.List.{List, ◌++◌}
use Prim.Native.Nat.{ℕ, ◌+◌, ◌≤◌, ◌<◌}
use native.Mathlib.Omega.{arith}
use lib.ListN.{length, take}
use lib.Dec.{eqb}
use Rattle.model.specs.Bytes.{written}
use Rattle.model.specs.Resp.{command_limit}
use Rattle.stream.specs.Feed.{refused}
use Rattle.stream.specs.Machine as machine
use Rattle.stream.specs.Machine.{begin, Scan, going, ended, dead, scan, fed_by, after_held}
use Rattle.stream.specs.Assembler.{feed_in, bytes_after}
use Rattle.stream.proofs.Steps.{feed_by_scan-feed}
use Rattle.stream.proofs.Assemblers.{in_held, written-placed, more_room, whole_room, after-length}
use Rattle.assembler.specs.declared.state.State.{State}
use Rattle.assembler.specs.declared.Assembled.TheVariants.{More, Whole, Refused}
use Rattle.assembler.specs.States.{state_of}
use Rattle.assembler.specs.Assembling.{Begun, Assembles}

-- a refusal changes nothing
pub assembles-refused : (b : List ℕ) (n : ℕ) (piece : List ℕ) (m : ℕ) → feed_in b n piece ≡ refused m → Assembles b n piece (Refused m) b
assembles-refused b n piece m e = record { fed = sym e; bytes = sym (ap (bytes_after b n) e) }

-- bytes held that leave no state
pub assembles-improper : (b : List ℕ) (n : ℕ) (piece : List ℕ) → command_limit ≤ length b → n ≤ length b → (x : Scan) → scan begin (take n b) ≡ x
    → after_held (take n b) piece x ≡ refused 0 → Assembles b n piece (Refused 0) b
assembles-improper b n piece h k x e f =
    assembles-refused b n piece 0 (in_held b n piece h k ∙ (sym (feed_by_scan-feed (take n b) piece) ∙ (ap (after_held (take n b) piece) e ∙ f)))

module _ {b : List ℕ} {n : ℕ} {st : State} (k : Begun b n st) where
  module _ (piece : List ℕ) where
    fed : (x : Scan) → scan (state_of st) piece ≡ x → feed_in b n piece ≡ fed_by (take n b) piece x
    fed x e =
        in_held b n piece k.room k.held
        ∙ (sym (feed_by_scan-feed (take n b) piece) ∙ (ap (after_held (take n b) piece) k.state ∙ ap (fed_by (take n b) piece) e))

    module _ (q : machine.State) (e : scan (state_of st) piece ≡ going q) where
      pub going-room : n + length piece ≤ length b
      going-room = let w = more_room b n piece (take n b ++ piece) (fed (going q) e) in omega (arith, w.1, k.room)

      pub assembles-more : (new : List ℕ) → new ≡ written n piece b → Assembles b n piece More new
      assembles-more new f = record {
        fed = sym (fed (going q) e);
        bytes = f ∙ (written-placed b n piece k.held ∙ sym (ap (bytes_after b n) (fed (going q) e)));
      }

    module _ (m : ℕ) (e : scan (state_of st) piece ≡ ended m) where
      pub ended-room : (m ≤ length piece) × (n + m ≤ length b)
      ended-room = let w = whole_room b n piece m (take n b ++ take m piece) (fed (ended m) e) in (w.1, omega (arith, w.3, k.room))

      pub assembles-whole : (new : List ℕ) → new ≡ cond (eqb n 0) b (written n (take m piece) b) → Assembles b n piece (Whole m) new
      assembles-whole new f = record {
        fed = sym (fed (ended m) e);
        bytes = f ∙ (ap (λ (l : List ℕ). cond (eqb n 0) b l) (written-placed b n (take m piece) k.held) ∙ sym (ap (bytes_after b n) (fed (ended m) e)));
      }

    pub assembles-dead : (m : ℕ) → scan (state_of st) piece ≡ dead m → Assembles b n piece (Refused m) b
    assembles-dead m e = assembles-refused b n piece m (fed (dead m) e)

-- ---- what callers know of the answer

module _ {b : List ℕ} {n : ℕ} {piece : List ℕ} {new : List ℕ} where
  -- the bytes held then are fewer than a command may have
  pub more-short : Assembles b n piece More new → n + length piece < command_limit
  more-short a = (more_room b n piece (take n b ++ piece) (sym a.fed)).1

  -- the whole command is within the piece, or within the buffer
  pub whole-within : {m : ℕ} → Assembles b n piece (Whole m) new → (m ≤ length piece) × (n + m ≤ length new)
  whole-within {m} a =
      let w = whole_room b n piece m (take n b ++ take m piece) (sym a.fed) in
      (w.1, omega (arith, w.3, w.4, ap length a.bytes, after-length b n piece))
