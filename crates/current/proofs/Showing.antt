-- What an action shows of what stands under its key.
use Prim.Native.Nat.{ℕ, suc, ◌+◌, ◌-◌}
use native.Mathlib.Nat.{add-sub_cancel_left}
use mathlib.Core.Path.{◌≡◌, refl, ap, ◌∙◌}
use mathlib.Core.Bool.{Bool, true, false}
use mathlib.Core.List.{List, [], ◌∷◌}
use lib.ListN.{length, drop}
use lib.Dec.{eqb, ltb}
use borrow.Author.Tests.{eq-eqb, ne_eqb, le-leb}
use types.Run.{OneOf, miss}
use denote.Enum.Declared.{tag_of}
use Rattle.model.specs.Checked.{Checked, refuse, ok, ◌>>=◌, ◌>>◌}
use Rattle.model.specs.Number.{version_limit}
use Rattle.model.specs.Table.{Form}
use Rattle.model.specs.Search as model
use Rattle.model.specs.Search.{lookup}
use Rattle.model.specs.Bitfield.{Sub}
use Rattle.model.specs.Command.{Command, under, bitfield}
use Rattle.model.specs.Subcommands.{subcommands_in}
use Rattle.model.specs.Parse.{word_at, parse_subcommands, parse}
use Rattle.model.specs.Execute.{Effect, put, write, execute_on}
use Rattle.model.specs.CurrentValue.{Shown, nothing, in_command, or_nothing, word_start, shown_on, shows_by}
use Rattle.model.proofs.Commands.{IsValue, ActionOk}
use Rattle.record.specs.declared.Attributes.{Attributes}
use Rattle.table.specs.Slots.{slots_of}
use Rattle.resp.specs.declared.Span.{Span}
use Rattle.resp.specs.Spans.{span_at}
use Rattle.command.specs.Command.{model_action, model_command}
use Rattle.command.specs.declared.Action.{Action}
use Rattle.command.specs.declared.Action.TheVariants.{Exset, Exget, Exsetver, Exincrby, Excas, Excad, Exjoin, Exgae, Del}
use Rattle.command.specs.declared.Swap.{Swap}
use Rattle.command.specs.contracts.Action.{the_type}
use Rattle.live.specs.declared.Lookup.{Lookup}
use Rattle.live.specs.declared.Lookup.TheVariants.{Live, Expired, Absent}
use Rattle.live.specs.declared.Target.{Target}
use Rattle.live.specs.Under.{model_lookup, IsUnder, shape_of}
use Rattle.live.proofs.Cases.{NotLive}
use Rattle.current.specs.Current.{stored_at, swapped_to, shown_at, shown_of, shown_by, ActionAt}

-- ---- by the tests of the code

-- an EXCAS on the record's own version shows what the version after it lets it
pub by-version : (v : Span) {x y : Checked ℕ} → x ≡ y → or_nothing (x >> ok (in_command v.start (v.end - v.start))) ≡ or_nothing (y >> ok (in_command v.start (v.end - v.start)))
by-version v e = ap (λ (x : Checked ℕ). or_nothing (x >> ok (in_command v.start (v.end - v.start)))) e

-- the actions by their tags: all but EXGET and EXCAS
abbrev Others : Action → Type 0
Others a = OneOf (0 ∷ 2 ∷ 3 ∷ 5 ∷ 6 ∷ 7 ∷ 8 ∷ []) (tag_of the_type a)

none-shown : (f : Form) (t : List ℕ) (i n : ℕ) (l : Lookup) (a : Action) (v : Span) → Others a → shown_at f t i n l a v ≡ nothing
none-shown f t i n l (Exget w) v h = absurd (miss (0 ∷ 2 ∷ 3 ∷ 5 ∷ 6 ∷ 7 ∷ 8 ∷ []) 1 tt h)
none-shown f t i n l (Excas s) v h = absurd (miss (0 ∷ 2 ∷ 3 ∷ 5 ∷ 6 ∷ 7 ∷ 8 ∷ []) 4 tt h)
none-shown f t i n l (Exset s) v h = refl
none-shown f t i n l (Exsetver m) v h = refl
none-shown f t i n l (Exincrby s) v h = refl
none-shown f t i n l (Excad m) v h = refl
none-shown f t i n l (Exjoin s) v h = refl
none-shown f t i n l (Exgae e) v h = refl
none-shown f t i n l Del v h = refl

module _ (t : List ℕ) (g : Target) (a : Action) (v : Span) where
  pub shows-absent : NotLive g.found → shown_by t g a v ≡ nothing
  shows-absent h = go g.found h
    where
      go : (l : Lookup) → NotLive l → shown_of (shape_of g) t l a v ≡ nothing
      go (Live i x) h = absurd (miss (1 ∷ 2 ∷ []) 0 tt h)
      go (Expired i) h = refl
      go Absent h = refl

  module _ {i : ℕ} {x : Attributes} (h : g.found ≡ Live i x) where
    live : {b : Action} → a ≡ b → shown_by t g a v ≡ shown_at (shape_of g) t i x.version (Live i x) b v
    live e = (λ j. shown_of (shape_of g) t (h j) (e j) v)

    pub shows-get : {w : Bool} → a ≡ Exget w → shown_by t g a v ≡ stored_at (shape_of g) t i
    shows-get e = live e

    pub shows-other : {s : Swap} → a ≡ Excas s → (s.version ≡ x.version → ⊥) → shown_by t g a v ≡ stored_at (shape_of g) t i
    shows-other {s} e ne = live e ∙ rw (ne_eqb s.version x.version ne)

    pub shows-own : {s : Swap} → a ≡ Excas s → s.version ≡ x.version → shown_by t g a v ≡ swapped_to (Live i x) v
    shows-own {s} e q = live e ∙ rw (eq-eqb s.version x.version q)

    pub shows-none : Others a → shown_by t g a v ≡ nothing
    shows-none o = live refl ∙ none-shown (shape_of g) t i x.version (Live i x) a v o

-- ---- by the model

-- a parsed EXCAS has a value
pub action-at : (f : Form) (ws : List (List ℕ)) (a : Action) → ActionOk f ws (model_action (word_at 2 ws) a) → ActionAt a ws
unfolding model_action
action-at f ws (Excas s) h = h.0.within
action-at f ws (Exset s) h = tt
action-at f ws (Exget w) h = tt
action-at f ws (Exsetver n) h = tt
action-at f ws (Exincrby s) h = tt
action-at f ws (Excad n) h = tt
action-at f ws (Exjoin s) h = tt
action-at f ws (Exgae e) h = tt
action-at f ws Del h = tt

nothing-either : (x : Checked Effect) → nothing ≡ or_nothing (x >> ok nothing)
nothing-either (refuse n) = refl
nothing-either (ok e) = refl

module _ (f : Form) (time : ℕ) (t : List ℕ) (ws : List (List ℕ)) where
  -- what the model shows, where the search answered l
  abbrev shows_at : Lookup → Action → Shown
  shows_at l a = or_nothing (shows_by f time (slots_of f t) ws (model_lookup f t l) (model_command ws a))

  swap-shown : (i : ℕ) (x : Attributes) (s : Swap) → IsValue f ws (word_at 2 ws) → shown_at f t i x.version (Live i x) (Excas s) (span_at 2 ws) ≡ shows_at (Live i x) (Excas s)
  unfolding model_action write put
  swap-shown i x s w = go (eqb s.version x.version) (ltb (suc x.version) version_limit) refl refl
    where
      part : in_command (word_start 2 ws) (word_start 2 ws + length (word_at 2 ws) - word_start 2 ws) ≡ in_command (word_start 2 ws) (length (word_at 2 ws))
      part = ap (in_command (word_start 2 ws)) (add-sub_cancel_left (word_start 2 ws) (length (word_at 2 ws)))

      go : (b h : Bool) → eqb s.version x.version ≡ b → ltb (suc x.version) version_limit ≡ h → shown_at f t i x.version (Live i x) (Excas s) (span_at 2 ws) ≡ shows_at (Live i x) (Excas s)
      go true true e q = rw (e, q, le-leb (length (word_at 2 ws)) f.value_limit w.fits) part
      go true false e q = rw (e, q)
      go false h e q = rw e

  none-at : (l : Lookup) (a : Action) → nothing ≡ or_nothing (execute_on f time (slots_of f t) (model_lookup f t l) (model_command ws a) >> ok nothing)
  none-at l a = nothing-either (execute_on f time (slots_of f t) (model_lookup f t l) (model_command ws a))

  shown-at : (l : Lookup) (a : Action) → ActionOk f ws (model_action (word_at 2 ws) a) → shown_of f t l a (span_at 2 ws) ≡ shows_at l a
  unfolding model_action
  shown-at (Expired i) a h = none-at (Expired i) a
  shown-at Absent a h = none-at Absent a
  shown-at (Live i x) (Exget w) h = refl
  shown-at (Live i x) (Excas s) h = swap-shown i x s h.0
  shown-at (Live i x) (Exset s) h = none-at (Live i x) (Exset s)
  shown-at (Live i x) (Exsetver n) h = none-at (Live i x) (Exsetver n)
  shown-at (Live i x) (Exincrby s) h = none-at (Live i x) (Exincrby s)
  shown-at (Live i x) (Excad n) h = none-at (Live i x) (Excad n)
  shown-at (Live i x) (Exjoin s) h = none-at (Live i x) (Exjoin s)
  shown-at (Live i x) (Exgae e) h = none-at (Live i x) (Exgae e)
  shown-at (Live i x) Del h = none-at (Live i x) Del

-- ---- from the words on

module _ (f : Form) (time : ℕ) (t : List ℕ) (ws : List (List ℕ)) where
  -- what a command of the words shows
  abbrev shown_for : Checked Command → Shown
  shown_for x = or_nothing (x >>= λ (c : Command). shows_by f time (slots_of f t) ws (lookup time c.key (slots_of f t)) c)

  -- what is shown by what the search answered is what the model shows
  pub shown-is : (a : Action) → ok (model_command ws a) ≡ parse f time ws → ActionOk f ws (model_action (word_at 2 ws) a)
      → {l : Lookup} → IsUnder f t time (word_at 1 ws) l → shown_of f t l a (span_at 2 ws) ≡ shown_for (parse f time ws)
  shown-is a e h {l} u =
      shown-at f time t ws l a h
      ∙ (ap (λ (l : model.Lookup). or_nothing (shows_by f time (slots_of f t) ws l (model_command ws a))) u.is
      ∙ ap shown_for e)

  -- a command that does not parse shows nothing
  pub wrong-shown : {n : ℕ} → refuse n ≡ parse f time ws → nothing ≡ shown_for (parse f time ws)
  wrong-shown e = ap shown_for e

  -- nor does BITFIELD
  pub fields-shown : parse_subcommands ws ≡ parse f time ws → nothing ≡ shown_for (parse f time ws)
  fields-shown e = read (subcommands_in (drop 2 ws)) ∙ ap shown_for e
    where
      shows_nothing : (l : model.Lookup) (ss : List Sub) (x : Checked Effect) → nothing ≡ or_nothing (x >> ok (shown_on f ws l (bitfield ss)))
      shows_nothing l ss (refuse n) = refl
      shows_nothing (model.live_at p) ss (ok x) = refl
      shows_nothing (model.expired_at i) ss (ok x) = refl
      shows_nothing model.absent ss (ok x) = refl

      read : (x : Checked (List Sub)) → nothing ≡ shown_for (x >>= λ ss. ok (under (word_at 1 ws) (bitfield ss)))
      read (refuse n) = refl
      read (ok ss) =
          let l = lookup time (word_at 1 ws) (slots_of f t) in
          shows_nothing l ss (execute_on f time (slots_of f t) l (under (word_at 1 ws) (bitfield ss)))
