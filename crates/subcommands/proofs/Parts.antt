-- The subcommands in turn: what the words come to from one of them on.
use Prim.Native.Nat.{ℕ, zero, suc, ◌+◌, ◌≤◌, ◌<◌}
use native.Mathlib.Nat.{add-zero}
use native.Mathlib.Numerals.{add-one}
use native.Mathlib.Omega.{arith}
use mathlib.Core.Path.{◌≡◌, refl, sym, ap, ◌∙◌}
use mathlib.Core.Bool.{Bool, true, false, cond}
use mathlib.Core.List.{List, [], ◌∷◌, ◌++◌, append_assoc}
use mathlib.Core.Option.{Option, none, some, map}
use lib.ListN.{length, drop, get_or, length-drop}
use lib.Seq.{drop-cons, drop-drop, get_or-drop}
use Rattle.model.specs.Bytes.{uppers}
use Rattle.model.specs.Optional.{◌>>=◌}
use Rattle.model.specs.Checked as Checked
use Rattle.model.specs.Checked.{Checked, refuse, ok, given}
use Rattle.model.specs.Overflow.{Mode}
use Rattle.model.specs.Bitfield.{Sub}
use Rattle.model.specs.Command.{look}
use Rattle.model.specs.Parse.{word_at}
use Rattle.model.specs.Subcommands.{SubName, OVERFLOW, sub_names, modes, arity, Part, get, set, incrby, overflow, part_of, parts_in, sub_of, mode_after, subs_in}
use Rattle.command.specs.declared.subcommand.Operation.{Operation}
use Rattle.command.specs.declared.subcommand.Sub.{Sub as Value}
use Rattle.command.specs.declared.subcommand.Operation.TheVariants.{Get, Set, Incrby}
use Rattle.subcommands.specs.Words.{model_only, sub_by}
use Rattle.subcommands.specs.Steps.{name_of, arity_of, Carries, outcome, resume}
use Rattle.subcommands.proofs.Answers.{given-none, given-some}
use Rattle.subcommands.proofs.Acting.{two-words}

-- ---- the words of one part

-- the own words of a part are passed over, if they are there
parts-own : (own : ℕ) (ws : List (List ℕ)) → own ≤ length ws → parts_in own ws ≡ parts_in 0 (drop own ws)
unfolding parts_in
parts-own zero ws h = refl
parts-own (suc n) [] h = absurd (omega arith)
parts-own (suc n) (w ∷ ws) h = parts-own n ws (omega arith)

parts-short : (own : ℕ) (ws : List (List ℕ)) → length ws < own → parts_in own ws ≡ none
unfolding parts_in
parts-short zero ws h = absurd (omega arith)
parts-short (suc n) [] h = refl
parts-short (suc n) (w ∷ ws) h = parts-short n ws (omega arith)

-- ---- what parts come to

module _ (wrong : Bool) (done : List Sub) where
  -- OVERFLOW sets the mode
  outcome-mode : (m k : Mode) (ps : List Part) → outcome wrong done m (overflow k ∷ ps) ≡ outcome wrong done k ps
  unfolding sub_of
  outcome-mode m k ps = ap (λ (o : Option (List Sub)). cond wrong (refuse 9) (Checked.◌>>=◌ (given 9 o) λ ss. ok (done ++ ss))) (go (subs_in k ps))
    where
      go : (o : Option (List Sub)) → o >>= (λ ss. some ss) ≡ o
      go none = refl
      go (some ss) = refl

  module _ (m : Mode) (p : Part) where
    -- a subcommand stands before the others
    outcome-sub : {s : Sub} → sub_of m p ≡ some (s ∷ []) → mode_after m p ≡ m → (ps : List Part)
        → outcome wrong done m (p ∷ ps) ≡ outcome wrong (done ++ (s ∷ [])) m ps
    outcome-sub {s} e k ps = rw (e, k) (ap (cond wrong (refuse 9)) (go (subs_in m ps)))
      where
        go : (o : Option (List Sub))
            → (Checked.◌>>=◌ (given 9 (o >>= λ ss. some (s ∷ ss))) λ ss. ok (done ++ ss)) ≡ Checked.◌>>=◌ (given 9 o) λ ss. ok ((done ++ (s ∷ [])) ++ ss)
        go none = refl
        go (some ss) = ap {B = Checked (List Sub)} ok (sym (append_assoc done (s ∷ []) ss))

    -- one that is wrong is 9, whatever follows
    outcome-wrong : sub_of m p ≡ none → (ps : List Part) → outcome wrong done m (p ∷ ps) ≡ refuse 9
    outcome-wrong e ps = rw e (go wrong)
      where
        go : (b : Bool) → ◌≡◌ {A = Checked (List Sub)} (cond b (refuse 9) (refuse 9)) (refuse 9)
        go true = refl
        go false = refl

-- ---- an operation as the model's part

abbrev part_by : Operation → (type offset number : List ℕ) → Part
part_by Get t o n = get t o
part_by Set t o n = set t o n
part_by (Incrby k) t o n = incrby t o n

part-is : (op : Operation) (ws : List (List ℕ)) {t o n : List ℕ} → get_or ws 0 [] ≡ t → get_or ws 1 [] ≡ o → get_or ws 2 [] ≡ n
    → part_of (name_of op) ws ≡ some (part_by op t o n)
part-is Get ws a b c = λ i. some (get (a i) (b i))
part-is Set ws a b c = λ i. some (set (a i) (b i) (c i))
part-is (Incrby k) ws a b c = λ i. some (incrby (a i) (b i) (c i))

mode-stays : (m : Mode) (op : Operation) (t o n : List ℕ) → mode_after m (part_by op t o n) ≡ m
mode-stays m Get t o n = refl
mode-stays m Set t o n = refl
mode-stays m (Incrby k) t o n = refl

under : (m : Mode) (op : Operation) → Carries m op → (t o n : List ℕ) → sub_of m (part_by op t o n) ≡ sub_by op t o n
unfolding sub_by sub_of
under m Get h t o n = refl
under m Set h t o n = refl
under m (Incrby k) h t o n = ap (λ (m : Mode). sub_of m (incrby t o n)) (sym h)

abbrev refused : ℕ → Checked (List Sub)
refused n = refuse n

-- ---- from word i on

module _ (ws : List (List ℕ)) (i : ℕ) where
  resume-none : parts_in 0 (drop i ws) ≡ none → (wrong : Bool) (done : List Sub) (m : Mode) → resume wrong done m (drop i ws) ≡ refuse 8
  unfolding resume
  resume-none e wrong done m = ap (λ (o : Option (List Part)). Checked.◌>>=◌ (given 8 o) (outcome wrong done m)) e

  -- word i begins the part p, and the next one stands at word n
  abbrev Begins : Part → (n : ℕ) → Type 0
  Begins p n = parts_in 0 (drop i ws) ≡ (parts_in 0 (drop n ws) >>= λ ps. some (p ∷ ps))

  resume-part : (p : Part) (n : ℕ) → Begins p n → (a b : Bool) (d e : List Sub) (m k : Mode)
      → ((ps : List Part) → outcome a d m (p ∷ ps) ≡ outcome b e k ps) → resume a d m (drop i ws) ≡ resume b e k (drop n ws)
  unfolding resume
  resume-part p n f a b d e m k h = ap (λ (o : Option (List Part)). Checked.◌>>=◌ (given 8 o) (outcome a d m)) f ∙ go (parts_in 0 (drop n ws))
    where
      go : (o : Option (List Part)) → (Checked.◌>>=◌ (given 8 (o >>= λ ps. some (p ∷ ps))) (outcome a d m)) ≡ Checked.◌>>=◌ (given 8 o) (outcome b e k)
      go none = refl
      go (some ps) = h ps

  -- the words after word i
  abbrev rest : List (List ℕ)
  rest = drop (i + 1) ws

  word_after : (k : ℕ) → get_or rest k [] ≡ word_at (i + 1 + k) ws
  word_after k = get_or-drop (i + 1) ws k []

  first-after : get_or rest 0 [] ≡ word_at (i + 1) ws
  first-after = word_after 0 ∙ ap (λ (k : ℕ). word_at k ws) (add-zero (i + 1))

  module _ (h : i < length ws) where
    from-word : drop i ws ≡ word_at i ws ∷ rest
    from-word = drop-cons ws i [] h ∙ ap (λ (n : ℕ). word_at i ws ∷ drop n ws) (sym (add-one i))

    -- by the name
    named : {x : Option SubName} → look (uppers (word_at i ws)) sub_names ≡ x
        → parts_in 0 (drop i ws) ≡ (x >>= λ s. part_of s rest >>= λ p. parts_in (arity s) rest >>= λ ps. some (p ∷ ps))
    unfolding parts_in
    named e =
        ap (parts_in 0) from-word
        ∙ ap (λ (x : Option SubName). x >>= λ s. part_of s rest >>= λ p. parts_in (arity s) rest >>= λ ps. some (p ∷ ps)) e

    module _ (s : SubName) (known : look (uppers (word_at i ws)) sub_names ≡ some s) where
      -- by the words after it, and by those after the part's own
      by_part : {x : Option Part} → part_of s rest ≡ x → parts_in 0 (drop i ws) ≡ (x >>= λ p. parts_in (arity s) rest >>= λ ps. some (p ∷ ps))
      by_part e = named known ∙ ap (λ (x : Option Part). x >>= λ p. parts_in (arity s) rest >>= λ ps. some (p ∷ ps)) e

      by-own : (p : Part) {x : Option (List Part)} → part_of s rest ≡ some p → parts_in (arity s) rest ≡ x → parts_in 0 (drop i ws) ≡ (x >>= λ ps. some (p ∷ ps))
      by-own p e f = by_part e ∙ ap (λ (x : Option (List Part)). x >>= λ ps. some (p ∷ ps)) f

      too_few : (p : Part) → part_of s rest ≡ some p → length ws < i + 1 + arity s → parts_in 0 (drop i ws) ≡ none
      too_few p e l = by-own p e (parts-short (arity s) rest (omega (arith, length-drop (i + 1) ws)))

      begins : (p : Part) (n : ℕ) → part_of s rest ≡ some p → n ≡ i + 1 + arity s → n ≤ length ws → Begins p n
      begins p n e f l =
          by-own p e
          (parts-own (arity s) rest (omega (arith, length-drop (i + 1) ws))
          ∙ ap (parts_in 0) (drop-drop (arity s) (i + 1) ws ∙ ap (λ (n : ℕ). drop n ws) (sym f)))

      -- too few words follow
      short : (x : Option Part) → part_of s rest ≡ x → length ws < i + 1 + arity s → parts_in 0 (drop i ws) ≡ none
      short none e l = by_part e
      short (some p) e l = too_few p e l

    -- ---- what words come to from there, under the mode m

    module _ (m : Mode) (w : Bool) (d : List Sub) where
      pub at-unknown : {k : ℕ} → refuse k ≡ given 8 (look (uppers (word_at i ws)) sub_names) → refuse k ≡ resume w d m (drop i ws)
      at-unknown e =
          let n = given-none 8 (look (uppers (word_at i ws)) sub_names) e in
          ap refused n.1 ∙ sym (resume-none (named n.0) w d m)

      pub at-short : (s : SubName) → look (uppers (word_at i ws)) sub_names ≡ some s → length ws < i + 1 + arity s → refuse 8 ≡ resume w d m (drop i ws)
      at-short s known l = sym (resume-none (short s known (part_of s rest) refl l) w d m)

      -- a subcommand, of which the next one stands at word n
      module _ (op : Operation) (carries : Carries m op) (known : look (uppers (word_at i ws)) sub_names ≡ some (name_of op))
          (n : ℕ) (own : n ≡ i + 1 + arity_of op) (there : n ≤ length ws) where
        abbrev part : Part
        part = part_by op (word_at (i + 1) ws) (word_at (i + 1 + 1) ws) (word_at (i + 1 + 2) ws)

        abbrev by_words : Option (List Sub)
        by_words = sub_by op (word_at (i + 1) ws) (word_at (i + 1 + 1) ws) (word_at (i + 1 + 2) ws)

        begun : Begins part n
        begun = begins (name_of op) known part n (part-is op rest first-after (word_after 1) (word_after 2)) own there

        says : {x : Option (List Sub)} → by_words ≡ x → sub_of m part ≡ x
        says e = under m op carries (word_at (i + 1) ws) (word_at (i + 1 + 1) ws) (word_at (i + 1 + 2) ws) ∙ e

        stays : mode_after m part ≡ m
        stays = mode-stays m op (word_at (i + 1) ws) (word_at (i + 1 + 1) ws) (word_at (i + 1 + 2) ws)

        pub at-sub : (s : Value) → ok (model_only s) ≡ given 9 by_words → resume w d m (drop i ws) ≡ resume w (d ++ model_only s) m (drop n ws)
        at-sub s e = resume-part part n begun w w d (d ++ model_only s) m m (outcome-sub w d m part (says (given-some 9 by_words e)) stays)

        pub at-wrong : {k : ℕ} → refuse k ≡ given 9 by_words → resume w d m (drop i ws) ≡ resume true d m (drop n ws)
        at-wrong e = resume-part part n begun w true d d m m (outcome-wrong w d m part (says (given-none 9 by_words e).0))

        pub goes : i + 3 ≤ n
        goes = omega (arith, own, two-words op)

      -- an OVERFLOW
      module _ (known : look (uppers (word_at i ws)) sub_names ≡ some OVERFLOW) where
        abbrev mode_named : Option Mode
        mode_named = look (uppers (word_at (i + 1) ws)) modes

        names : {x : Option Mode} → mode_named ≡ x → part_of OVERFLOW rest ≡ map overflow x
        names e = ap (λ (w : List ℕ). map overflow (look (uppers w) modes)) first-after ∙ ap (map overflow) e

        pub at-no_mode : {k : ℕ} → refuse k ≡ given 8 mode_named → refuse k ≡ resume w d m (drop i ws)
        at-no_mode e =
            let n = given-none 8 mode_named e in
            ap refused n.1 ∙ sym (resume-none (by_part OVERFLOW known (names n.0)) w d m)

        pub at-mode : {k : Mode} (n : ℕ) → n ≡ i + 1 + 1 → n ≤ length ws → ok k ≡ given 8 mode_named → resume w d m (drop i ws) ≡ resume w d k (drop n ws)
        at-mode {k} n own there e =
            resume-part (overflow k) n (begins OVERFLOW known (overflow k) n (names (given-some 8 mode_named e)) own there) w w d d m k (outcome-mode w d m k)
