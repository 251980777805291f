-- What `assemble` promises, and the store's call where the command is whole, make what `feed` promises.
use mathlib.Core.Path.{◌≡◌, refl, sym, ap, ◌∙◌, subst}
use mathlib.Core.List.{List, ◌++◌}
use mathlib.Core.Option.{some}
use Prim.Native.Nat.{ℕ, ◌+◌}
use lib.ListN.{length, take}
use Rattle.model.specs.Call.{Store}
use Rattle.reply.specs.declared.Answer.{Answer}
use Rattle.store.specs.Called.{Called}
use Rattle.stream.specs.Feed as model
use Rattle.stream.specs.Feed.{Given, result_of}
use Rattle.stream.specs.Assembler.{bytes_after, command_in}
use Rattle.stream.proofs.Assemblers.{more_room, command-is}
use Rattle.assembler.specs.declared.Assembled.{Assembled}
use Rattle.assembler.specs.declared.Assembled.TheVariants as assembled
use Rattle.assembler.specs.Assembling.{fed_of, Assembles}
use Rattle.feed.specs.declared.Progress.TheVariants.{More, Answered}
use Rattle.feed.specs.declared.Progress.{Progress}
use Rattle.feed.specs.Feeds.{taken_of, held_of, number_of, length_of, Gives, Feeds, inputs}

-- what is promised where the piece came to x
abbrev FeedsBy : Store → (b : List ℕ) (n : ℕ) → Given → model.Fed → Progress → (bytes table reply : List ℕ) → Type 0
FeedsBy s b n g x f bytes table reply =
    (number_of f ≡ (result_of s g x).number)
    × Gives (result_of s g x) (bytes_after b n x) (taken_of (length g.piece) f) (held_of f) (length_of f) bytes table reply

module _ {b : List ℕ} {n : ℕ} {piece : List ℕ} {new : List ℕ} where
  module _ (s : Store) (t : List ℕ) (now : ℕ) (reply : List ℕ) where
    by-fed : {y : Assembled} (f : Progress) {t' r' : List ℕ} → Assembles b n piece y new
        → (new ≡ bytes_after b n (fed_of (take n b) piece y) → FeedsBy s b n (inputs piece t now reply) (fed_of (take n b) piece y) f new t' r')
        → Feeds s b n (inputs piece t now reply) f new t' r'
    by-fed {y} f {t'} {r'} a h =
        subst (λ (x : model.Fed). FeedsBy s b n (inputs piece t now reply) x f new t' r') a.fed (h (a.bytes ∙ ap (bytes_after b n) (sym a.fed)))

    pub feeds-more : Assembles b n piece assembled.More new → Feeds s b n (inputs piece t now reply) (More (n + length piece)) new t reply
    feeds-more a =
        let w = more_room b n piece (take n b ++ piece) (sym a.fed) in
        by-fed (More (n + length piece)) a λ k. (refl, record { taken_is = refl; held-is = sym w.0; len_is = refl; bytes-are = k; table_is = refl; reply-is = refl })

    pub feeds-refused : {m : ℕ} → Assembles b n piece (assembled.Refused m) new
        → Feeds s b n (inputs piece t now reply) (Answered m (record { number = 4; len = 0 })) new t reply
    feeds-refused {m} a =
        by-fed (Answered m (record { number = 4; len = 0 })) a λ k. (refl, record { taken_is = refl; held-is = refl; len_is = refl; bytes-are = k; table_is = refl; reply-is = refl })

    -- the command c is the one that is whole, and the store is called with it
    pub feeds-whole : {m : ℕ} {c : List ℕ} {a : Answer} {t' r' : List ℕ} → Assembles b n piece (assembled.Whole m) new → c ≡ command_in new n piece m
        → Called (s t now c reply) a t' r' → Feeds s b n (inputs piece t now reply) (Answered m a) new t' r'
    feeds-whole {m} {c} {a} {t'} {r'} h e k =
        by-fed (Answered m a) h λ z.
        let w : Called (s t now (take n b ++ take m piece) reply) a t' r' =
        subst (λ (y : List ℕ). Called (s t now y reply) a t' r')
        (e ∙ (ap (λ (l : List ℕ). command_in l n piece m) z ∙ command-is b n piece m (take n b ++ take m piece) (sym h.fed))) k in
        (ap some w.number, record { taken_is = refl; held-is = refl; len_is = w.length; bytes-are = z; table_is = w.table; reply-is = w.reply })
