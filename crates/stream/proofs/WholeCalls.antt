-- A whole command is never refused by 4.
use mathlib.Core.Path.{◌≡◌}
use mathlib.Core.List.{List}
use Prim.Native.Nat.{ℕ}
use native.Mathlib.Omega.{arith}
use lib.ListN.{length}
use lib.Dec.{leb}
use borrow.Author.Tests.{leb-true}
use Rattle.model.specs.Checked.{Checked, refuse, ok, ◌>>=◌}
use Rattle.model.specs.Table.{Form, Slot, time_limit}
use Rattle.model.specs.Partition.{whole}
use Rattle.model.specs.Gate.{good_table, gate}
use Rattle.model.specs.Parse.{word_at, parse}
use Rattle.model.specs.Execute.{Effect, answer, store, execute}
use Rattle.model.specs.Call.{Outcome, effect_on, attempt, or_untouched, call_in, call}
use Rattle.model.proofs.Words.{few_words}
use Rattle.model.proofs.Steps.{Comes, by-check, by-step, weaken}
use Rattle.model.proofs.Commands.{Parsing, Known, parse-known}
use Rattle.model.proofs.Replies.{Roomy}
use Rattle.model.proofs.Effects.{Executing}
use Rattle.model.proofs.Calls.{Late, Good, good-table, Through, FineIn, fine-in}
use Rattle.stream.specs.Feed.{Whole}

abbrev Not4 : ℕ → Type 0
Not4 n = n ≡ 4 → ⊥

module _ (f : Form) (t : List ℕ) (now : ℕ) (c b : List ℕ) (v : Whole c) where
  gate-not-4 : Comes Not4 (Through f t now (length b) c) (gate f whole t now (length b) c)
  unfolding gate
  gate-not-4 =
      by-step Not4 (Through f t now (length b) c) (Good f t) (good_table f t) _ (good-table Not4 f t (λ e. omega arith)) λ ss g.
      by-check Not4 (Through f t now (length b) c) 2 (leb now time_limit) _ (λ e. omega arith) λ h2.
      by-check Not4 (Through f t now (length b) c) 3 (leb f.reply_room (length b)) _ (λ e. omega arith) λ h3.
      rw v.reads
      (record { table = g; time = leb-true now time_limit h2; buffer = leb-true f.reply_room (length b) h3; command = v.reads })

  module _ (w : Roomy f) where
    effect-not-4 : (ss : List Slot) (g : Good f t ss) (k : List ℕ) (x : Checked Effect) → Comes Late (FineIn f w now t ss g k) x → Not4 (effect_on f t b ss x).number
    effect-not-4 ss g k (refuse n) h e = omega arith
    effect-not-4 ss g k (ok (answer r)) h e = omega arith
    effect-not-4 ss g k (ok (store j s r)) h e = omega arith

    settled : (x : Checked Outcome) → Comes Not4 (λ o. Not4 o.number) x → Not4 (or_untouched t b x).number
    settled (refuse n) h = h
    settled (ok o) h = h

    pub call-not-4 : (call f t now c b).number ≡ 4 → ⊥
    unfolding call_in
    call-not-4 =
        settled (attempt f whole t now c b)
        (by-step Not4 (λ o. Not4 o.number) (Through f t now (length b) c) (gate f whole t now (length b) c) _ gate-not-4 λ i h.
        effect-not-4 i.slots h.table (word_at 1 i.words) (parse f now i.words >>= execute f now i.slots)
        (by-step Late (FineIn f w now t i.slots h.table (word_at 1 i.words)) (Known f i.words) (parse f now i.words) (execute f now i.slots)
        (weaken Parsing Late (Known f i.words) (parse f now i.words) (λ n h. omega arith) (parse-known f now i.words))
        λ cm k.
        weaken Executing Late (FineIn f w now t i.slots h.table (word_at 1 i.words)) (execute f now i.slots cm) (λ n h. omega arith)
        (fine-in f w now t i.slots h.table i.words (few_words c i.words h.command) cm k)))
