-- The options word by word: what the model's reading comes to from a word on.
use Prim.Native.Nat.{ℕ, suc, ◌+◌, ◌≤◌, ◌<◌}
use native.Mathlib.Numerals.{add-one}
use native.Mathlib.Omega.{arith}
use mathlib.Core.Path.{◌≡◌, refl, sym, ap, ◌∙◌}
use mathlib.Core.Bool.{Bool, true, false, cond, ◌&&◌, not}
use mathlib.Core.List.{List, [], ◌∷◌}
use mathlib.Core.Option.{Option, none, some}
use lib.ListN.{length, drop, set, drop_of_length-le}
use lib.Seq.{drop-cons}
use Rattle.std.specs.Prelude.{Ok, Err, Some, None, is_some}
use Rattle.model.specs.Bytes.{uppers}
use Rattle.model.specs.Checked.{refuse, ok, given}
use Rattle.model.specs.Optional.{◌>>=◌, only}
use Rattle.model.specs.Command as model
use Rattle.model.specs.Command.{Rule, kind_no, opt_rule_of, look, options}
use Rattle.model.specs.Options.{Given as ModelGiven, takes, has, admits, read_options, enough, options_in}
use Rattle.model.specs.Parse.{word_at}
use Rattle.outcome.proofs.Cases.{clash}
use Rattle.outcome.specs.Outcome.{number_of}
use Rattle.outcome.specs.declared.Refusal.{Refusal}
use Rattle.command.specs.Words.{model_opt}
use Rattle.command.specs.declared.Opt.{Opt}
use Rattle.options.specs.Options.{option_of, group_at, group_of, Tied, Takes, Collects}
use Rattle.options.specs.declared.Options.{Options}
use Rattle.options.specs.declared.Taken.{Taken}
use Rattle.options.proofs.Groups.{has-group, tied-put}

-- ---- a step that may refuse

-- a refusal where a step gives something or refuses by n: it gives nothing, and the refusal is n
module _ {A : Type 0} (n : ℕ) where
  pub given-none : (o : Option A) {k : ℕ} → refuse k ≡ given n o → (o ≡ none) × (k ≡ n)
  given-none none e = (refl, cc)
  given-none (some a) e = clash cc

  pub given-some : (o : Option A) {a : A} → ok a ≡ given n o → o ≡ some a
  given-some none e = clash cc
  given-some (some b) e = cc

-- ---- one option

module _ (r : Rule) (gs : List ModelGiven) (w : List ℕ) (ws : List (List ℕ)) where
  -- what an option comes to, by whether a number follows
  follow : model.Opt → Bool → Option (List ModelGiven)
  follow o b = cond b (read_options r gs (some o) ws) (read_options r (record { opt = o; word = [] } ∷ gs) none ws)

  spelled : {x : Option model.Opt} → look (uppers w) options ≡ x → read_options r gs none (w ∷ ws) ≡ only (admits r gs) x >>= λ o. follow o (opt_rule_of o).numbered
  unfolding read_options follow
  spelled e = ap (λ (x : Option model.Opt). only (admits r gs) x >>= λ o. follow o (opt_rule_of o).numbered) e

  -- an option that a number follows waits for the word after it
  number_word : (o : model.Opt) (v : List ℕ) (vs : List (List ℕ)) → ws ≡ v ∷ vs → follow o true ≡ read_options r (record { opt = o; word = v } ∷ gs) none vs
  unfolding read_options follow
  number_word o v vs e = ap (λ (l : List (List ℕ)). read_options r gs (some o) l) e

  no_word : (o : model.Opt) → ws ≡ [] → follow o true ≡ none
  unfolding read_options follow
  no_word o e = ap (λ (l : List (List ℕ)). read_options r gs (some o) l) e

  plain_word : (o : model.Opt) → follow o false ≡ read_options r (record { opt = o; word = [] } ∷ gs) none ws
  unfolding follow
  plain_word o = refl

-- the words from i on
module _ (r : Rule) (ws : List (List ℕ)) (i : ℕ) (h : i < length ws) where
  pub taken-unknown : {x : Refusal} → refuse (number_of x) ≡ given 8 (look (uppers (word_at i ws)) options) → Takes r ws i (Err x)
  taken-unknown e =
      let n = given-none 8 (look (uppers (word_at i ws)) options) e in
      record {
        model = λ gs. sym (ap (read_options r gs none) (drop-cons ws i [] h) ∙ spelled r gs (word_at i ws) (drop (suc i) ws) n.0);
        moves = n.1;
      }

  module _ (x : Opt) (e : look (uppers (word_at i ws)) options ≡ some (model_opt x)) where
    abbrev rest : List (List ℕ)
    rest = drop (i + 1) ws

    -- what the words come to, by whether the rule takes the option and a number follows
    comes : (gs : List ModelGiven) {t b : Bool} → takes r.kinds (opt_rule_of (model_opt x)).kind ≡ t → (opt_rule_of (model_opt x)).numbered ≡ b
        → read_options r gs none (drop i ws) ≡ cond t (cond (has (opt_rule_of (model_opt x)).group gs) none (follow r gs (word_at i ws) rest (model_opt x) b)) none
    comes gs {t} {b} p q =
        ap (read_options r gs none) (drop-cons ws i [] h ∙ rw (add-one i))
        ∙ (spelled r gs (word_at i ws) rest e ∙ (by (takes r.kinds (opt_rule_of (model_opt x)).kind) (has (opt_rule_of (model_opt x)).group gs)
        ∙ λ j. cond (p j) (cond (has (opt_rule_of (model_opt x)).group gs) none (follow r gs (word_at i ws) rest (model_opt x) (q j))) none))
      where
        by : (t h : Bool) → cond (t && not h) (some (model_opt x)) none >>= (λ o. follow r gs (word_at i ws) rest o (opt_rule_of o).numbered)
            ≡ cond t (cond h none (follow r gs (word_at i ws) rest (model_opt x) (opt_rule_of (model_opt x)).numbered)) none
        by true true = refl
        by true false = refl
        by false h = refl

    pub taken-kind : takes r.kinds (opt_rule_of (model_opt x)).kind ≡ false → Takes r ws i (Err Refusal.Syntax)
    taken-kind p = record { model = λ gs. sym (comes gs p refl); moves = refl }

    module _ (p : takes r.kinds (opt_rule_of (model_opt x)).kind ≡ true) where
      -- an option with no number has none of the words
      pub taken-plain : (opt_rule_of (model_opt x)).numbered ≡ false → Takes r ws i (Ok (record { given = record { opt = x; word = None }; next = i + 1 }))
      taken-plain q = record {
        model = λ gs. sym (comes gs p q ∙ ap (λ (y : Option (List ModelGiven)). cond (has (opt_rule_of (model_opt x)).group gs) none y)
            (plain_word r gs (word_at i ws) rest (model_opt x)));
        moves = omega arith;
      }

      module _ (q : (opt_rule_of (model_opt x)).numbered ≡ true) where
        pub taken-short : length ws ≤ i + 1 → Takes r ws i (Err Refusal.Syntax)
        taken-short s = record {
          model = λ gs. sym (comes gs p q ∙ (ap (λ (y : Option (List ModelGiven)). cond (has (opt_rule_of (model_opt x)).group gs) none y)
              (no_word r gs (word_at i ws) rest (model_opt x) (drop_of_length-le ws {i = i + 1} s)) ∙ same (has (opt_rule_of (model_opt x)).group gs)));
          moves = refl;
        }
          where
            same : (b : Bool) → ◌≡◌ {A = Option (List ModelGiven)} (cond b none none) none
            same true = refl
            same false = refl

        pub taken-numbered : i + 1 < length ws → Takes r ws i (Ok (record { given = record { opt = x; word = Some (i + 1) }; next = i + 1 + 1 }))
        taken-numbered s = record {
          model = λ gs. sym (comes gs p q ∙ ap (λ (y : Option (List ModelGiven)). cond (has (opt_rule_of (model_opt x)).group gs) none y)
              (number_word r gs (word_at i ws) rest (model_opt x) (word_at (i + 1) ws) (drop (i + 1 + 1) ws) (drop-cons ws (i + 1) [] s ∙ rw (add-one (i + 1)))));
          moves = omega arith;
        }

-- ---- the options in turn

-- before word i: what was read, with the words left, comes to the whole
pub record Reached (r : Rule) (ws : List (List ℕ)) (i : ℕ) (o : Options) : Type 0 where
  pub given : List ModelGiven
  pub tied : Tied ws given o
  pub whole : read_options r [] none (drop r.fixed ws) ≡ read_options r given none (drop i ws)

module _ {r : Rule} {ws : List (List ℕ)} {i : ℕ} {o : Options} (b : Reached r ws i o) where
  -- what the words come to is what the whole comes to
  told : {x : Option (List ModelGiven)} → read_options r b.given none (drop i ws) ≡ x → options_in r (drop r.fixed ws) ≡ only (enough r) x
  told e = ap (only (enough r)) (b.whole ∙ e)

  module _ {t : Taken} (k : Takes r ws i (Ok t)) where
    comes-to : {h : Bool} → is_some (group_at o (group_of t.given)) ≡ h
        → read_options r b.given none (drop i ws) ≡ cond h none (read_options r (option_of ws t.given ∷ b.given) none (drop t.next ws))
    comes-to e =
        sym (k.model b.given)
        ∙ ap (λ (h : Bool). cond h none (read_options r (option_of ws t.given ∷ b.given) none (drop t.next ws))) (sym (has-group b.tied (group_of t.given)) ∙ e)

    pub reached-next : is_some (group_at o (group_of t.given)) ≡ false → Reached r ws t.next (record { groups = set o.groups (kind_no (group_of t.given)) (Some t.given) })
    reached-next e = record {
      given = option_of ws t.given ∷ b.given;
      tied = tied-put b.tied t.given;
      whole = b.whole ∙ comes-to e;
    }

  module _ (h : length ws ≤ i) where
    none_left : read_options r b.given none (drop i ws) ≡ some b.given
    unfolding read_options
    none_left = ap (read_options r b.given none) (drop_of_length-le ws {i = i} h)

    pub reads_all : enough r b.given ≡ true → Collects ws (options_in r (drop r.fixed ws)) (Ok o)
    reads_all e = record { given = b.given; told = told none_left ∙ rw e; tied = b.tied }

    pub reads-few : enough r b.given ≡ false → Collects ws (options_in r (drop r.fixed ws)) (Err Refusal.Syntax)
    reads-few e = rw (told none_left, e)
