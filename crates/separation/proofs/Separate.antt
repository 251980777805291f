-- The parties of a shared table are separate.
use mathlib.Core.Path.{◌≡◌, sym, ap, ◌∙◌}
use mathlib.Core.List.{List}
use Prim.Native.Nat.{ℕ}
use Rattle.model.specs.Table.{Form, form128}
use Rattle.model.specs.Call.{Outcome, call, call_in}
use Rattle.model.specs.Partition.{Party, other, shared_by, partition}
use Rattle.model.proofs.Replies.{Roomy, roomy128}
use Rattle.separation.specs.Separation.{Faultless, SameFor, Separate}
use Rattle.separation.proofs.PartIsTable.{by-faults, call_in-faulty, call-on-part, own-after, other_after}

module _ (f : Form) (w : Roomy f) (p : Party) (n : ℕ) where
  own-part : (t u : List ℕ) (now : ℕ) (c b : List ℕ) → Faultless f n t → Faultless f n u → partition f p n t ≡ partition f p n u
      → SameFor f p n (call_in f (shared_by p n) t now c b) (call_in f (shared_by p n) u now c b)
  own-part t u now c b zt zu e =
      let same : call f (partition f p n t) now c b ≡ call f (partition f p n u) now c b = ap (λ (x : List ℕ). call f x now c b) e in
      let a = call-on-part f n t zt p now c b in
      let d = call-on-part f n u zu p now c b in
      record {
        number = ap (λ (o : Outcome). o.number) a ∙ (ap (λ (o : Outcome). o.number) same ∙ sym (ap (λ (o : Outcome). o.number) d));
        length = ap (λ (o : Outcome). o.length) a ∙ (ap (λ (o : Outcome). o.length) same ∙ sym (ap (λ (o : Outcome). o.length) d));
        reply = ap (λ (o : Outcome). o.reply) a ∙ (ap (λ (o : Outcome). o.reply) same ∙ sym (ap (λ (o : Outcome). o.reply) d));
        part = own-after f w n t zt p now c b ∙ (ap (λ (o : Outcome). o.table) same ∙ sym (own-after f w n u zu p now c b));
      }

  other-part : (t : List ℕ) (now : ℕ) (c b : List ℕ) → partition f (other p) n (call_in f (shared_by p n) t now c b).table ≡ partition f (other p) n t
  other-part t now c b =
      by-faults f n t (partition f (other p) n (call_in f (shared_by p n) t now c b).table ≡ partition f (other p) n t)
      (λ z. other_after f w n t z p now c b)
      (λ z. ap (λ (o : Outcome). partition f (other p) n o.table) (call_in-faulty f n t z p now c b))

pub separate : (f : Form) → Roomy f → Separate f (call_in f)
separate f w = record {
  own = λ p n t u now c b zt zu e. own-part f w p n t u now c b zt zu e;
  others = λ p n t now c b. other-part f w p n t now c b;
}

pub separate128 : Separate form128 (call_in form128)
separate128 = separate form128 roomy128
