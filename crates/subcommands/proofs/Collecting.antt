-- The subcommands that were taken: after some of the words, and at their end.
use Prim.Native.Nat.{ℕ, zero, suc, ◌+◌, ◌*◌, ◌≤◌, ◌<◌, min}
use native.Mathlib.Numerals.{add-one}
use native.Mathlib.Omega.{arith}
use mathlib.Core.Path.{◌≡◌, refl, sym, ap, ◌∙◌}
use mathlib.Core.Bool.{Bool, true, false, cond}
use mathlib.Core.List.{List, [], ◌∷◌, ◌++◌, map, append-nil, map-append}
use mathlib.Core.Option.{Option, none, some}
use lib.ListN.{length, take, drop, set, length-set, drop_of_length-le}
use lib.Seq.{drop-cons, take-suc-set}
use Rattle.model.specs.Checked as Checked
use Rattle.model.specs.Checked.{Checked, refuse, ok, given}
use Rattle.model.specs.Overflow as overflow
use Rattle.model.specs.Bitfield as bitfield
use Rattle.model.specs.Subcommands.{Part, parts_in, subs_in, subcommands_in}
use Rattle.command.specs.Subcommand.{model_mode, no_sub, model_sub, subs_from, model_subs}
use Rattle.command.specs.declared.subcommand.Mode.{Mode}
use Rattle.command.specs.declared.subcommand.Sub.{Sub}
use Rattle.command.specs.declared.subcommand.Subs.{Subs}
use Rattle.subcommands.specs.Steps.{outcome, resume}
use Rattle.subcommands.specs.Words.{model_only}

-- ---- the subcommands of a list that is full enough

module _ (s : Subs) (four : length s.list ≡ 4) where
  taken-from : (i n : ℕ) → i + n ≤ 4 → subs_from s i n ≡ map model_sub (take n (drop i s.list))
  taken-from i zero h = refl
  taken-from i (suc n) h =
      let e : min i 3 ≡ i = omega arith in
      rw (drop-cons s.list i no_sub (omega (arith, four)), e, taken-from (suc i) n (omega arith)) refl

  pub subs-taken : s.count ≤ 4 → model_subs s ≡ map model_sub (take s.count s.list)
  unfolding model_subs
  subs-taken h = taken-from 0 s.count (omega arith)

-- ---- word by word

-- before word i: the first n places of the list are taken, and with the words left they come to the whole
pub record Reached (ws : List (List ℕ)) (i : ℕ) (list : List Sub) (n : ℕ) (mode : Mode) (wrong : Bool) : Type 0 where
  pub whole : subcommands_in (drop 2 ws) ≡ resume wrong (map model_sub (take n list)) (model_mode mode) (drop i ws)
  pub four : length list ≡ 4
  pub room : 3 * n + 2 ≤ i
  pub most : n ≤ 4

from_start : (ws : List (List ℕ)) → subcommands_in ws ≡ resume false [] overflow.wrap ws
unfolding subcommands_in resume
from_start ws = parts (parts_in 0 ws)
  where
    subs : (o : Option (List bitfield.Sub)) → given 9 o ≡ Checked.◌>>=◌ (given 9 o) λ ss. ok ss
    subs none = refl
    subs (some ss) = refl

    parts : (o : Option (List Part))
        → (Checked.◌>>=◌ (given 8 o) λ ps. given 9 (subs_in overflow.wrap ps)) ≡ Checked.◌>>=◌ (given 8 o) (outcome false [] overflow.wrap)
    parts none = refl
    parts (some ps) = subs (subs_in overflow.wrap ps)

pub reached-first : (ws : List (List ℕ)) (list : List Sub) → length list ≡ 4 → Reached ws 2 list 0 Mode.Wrap false
reached-first ws list l = record { whole = from_start (drop 2 ws); four = l; room = omega arith; most = omega arith }

module _ {ws : List (List ℕ)} {i : ℕ} {list : List Sub} {n : ℕ} {mode : Mode} {wrong : Bool} (b : Reached ws i list n mode wrong) where
  abbrev done : List bitfield.Sub
  done = map model_sub (take n list)

  -- what is left comes to a refusal
  pub refused : {k : ℕ} → refuse k ≡ resume wrong done (model_mode mode) (drop i ws) → refuse k ≡ subcommands_in (drop 2 ws)
  refused e = e ∙ sym b.whole

  -- a mode, a subcommand that is wrong, and one that is not
  pub reached-mode : {k : Mode} {next : ℕ} → i ≤ next
      → resume wrong done (model_mode mode) (drop i ws) ≡ resume wrong done (model_mode k) (drop next ws) → Reached ws next list n k wrong
  reached-mode h e = record { whole = b.whole ∙ e; four = b.four; room = omega (arith, b.room); most = b.most }

  pub reached-wrong : {next : ℕ} → i ≤ next
      → resume wrong done (model_mode mode) (drop i ws) ≡ resume true done (model_mode mode) (drop next ws) → Reached ws next list n mode true
  reached-wrong h e = record { whole = b.whole ∙ e; four = b.four; room = omega (arith, b.room); most = b.most }

  module _ {next : ℕ} (far : i + 3 ≤ next) (few : next ≤ 16) where
    -- there is a place left
    pub free : n < 4
    free = omega (arith, b.room)

    pub reached-sub : (s : Sub) → resume wrong done (model_mode mode) (drop i ws) ≡ resume wrong (done ++ model_only s) (model_mode mode) (drop next ws)
        → Reached ws next (set list n s) (n + 1) mode wrong
    reached-sub s e = record {
      whole = b.whole ∙ (e ∙ ap (λ (d : List bitfield.Sub). resume wrong d (model_mode mode) (drop next ws)) (sym more));
      four = length-set list n s ∙ b.four;
      room = omega (arith, b.room);
      most = omega (arith, free);
    }
      where
        more : map model_sub (take (n + 1) (set list n s)) ≡ done ++ model_only s
        more =
            ap (λ (k : ℕ). map model_sub (take k (set list n s))) (add-one n)
            ∙ (ap (map model_sub) (take-suc-set list n s (omega (arith, free, b.four))) ∙ map-append model_sub (take n list) (s ∷ []))

  -- no words are left
  module _ (past : length ws ≤ i) where
    at-end : {w : Bool} → wrong ≡ w → subcommands_in (drop 2 ws) ≡ cond w (refuse 9) (ok done)
    unfolding resume parts_in
    at-end e =
        b.whole
        ∙ (ap (resume wrong done (model_mode mode)) (drop_of_length-le ws {i = i} past)
        ∙ λ j. cond (e j) (refuse 9) (ok (append-nil done j)))

    pub all-wrong : wrong ≡ true → refuse 9 ≡ subcommands_in (drop 2 ws)
    all-wrong e = sym (at-end e)

    pub all_read : wrong ≡ false → ok (model_subs (record { list = list; count = n })) ≡ subcommands_in (drop 2 ws)
    all_read e = ap (λ (d : List bitfield.Sub). ok d) (subs-taken (record { list = list; count = n }) b.four b.most) ∙ sym (at-end e)
