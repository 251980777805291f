-- A text that is not the word is passed.
use Rattle.std.proofs.Common.{◌≡◌, ℕ, List, [], ◌+◌, ◌<◌, false, map, drop, length, get_or, drop-cons, add-one, sym, ◌∙◌, arith}
use Rattle.model.specs.Bytes.{same}
use Rattle.model.specs.Command.{look}
use Rattle.commandline.specs.declared.switch.Switch.{Switch}
use Rattle.commandline.specs.declared.switch.Switch.TheVariants.{Table}
use Rattle.commandline.proofs.switch.spelled.Goals as goal

next : {A : Type 0} (f : A → List ℕ × Switch) (w : List ℕ) (s : List A) (i : ℕ) (d : A) → i < length s → same w (f (get_or s i d)).0 ≡ false
    → look w (map f (drop i s)) ≡ look w (map f (drop (i + 1) s))
next f w s i d h e = rw (add-one, drop-cons s i d) (rw e)

pub loop-text-preserved : goal.loop-text-preserved
loop-text-preserved c =
    (c.loop-text.invariant.0, c.loop-text.invariant.1 ∙ next (λ p. (p.0.now, p.1)) c.args.w.now _ c.loop-text.text-index (record { ref_ptr = (0, 0); now = [] }, Table) (omega arith) (sym c.same.ensures ∙ c.if-same.false))
