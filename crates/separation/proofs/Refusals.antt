-- What a call on any part keeps: a refusal leaves the table, 1 to 4 and 18 leave the reply buffer too, every reply fits, and the buffer keeps
-- what it held past the reply.
use mathlib.Core.Path.{◌≡◌, refl, sym, ap, ◌∙◌, subst}
use mathlib.Core.List.{List}
use Prim.Native.Nat.{ℕ, ◌≤◌}
use native.Mathlib.Omega.{arith}
use lib.ListN.{drop}
use Rattle.model.specs.Table.{Form}
use Rattle.model.specs.Partition.{View, whole, shared_by, bytes_in, with_bytes}
use Rattle.model.specs.Call.{Outcome, untouched, with_rest, call_in, call}
use Rattle.model.proofs.Replies.{Roomy}
use Rattle.model.proofs.Calls.{Early, call-refused, call-early, call-number, call_fits, call_buffer}
use Rattle.separation.proofs.Reading.{with_bytes-bytes_in}
use Rattle.separation.proofs.PartIsTable.{by-faults, call_in-faulty, call-on-part}

module _ (f : Form) (w : Roomy f) (v : View) (t : List ℕ) (now : ℕ) (c b : List ℕ) where
  -- the call on the part as a table of its own
  abbrev own : Outcome
  own = call f (bytes_in f v t) now c b

  -- a call is refused by 1 or 18 before its time is looked at, or does what it does to the part as a table of its own
  pub by_part : (P : Outcome → Type 0) → ((n : ℕ) → 1 ≤ n → n ≤ 18 → P (untouched n t b)) → P (with_rest f v t own) → P (call_in f v t now c b)
  by_part P refused done = go v done
    where
      go : (v : View) → P (with_rest f v t (call f (bytes_in f v t) now c b)) → P (call_in f v t now c b)
      go whole h = h
      go (shared_by p n) h =
          by-faults f n t (P (call_in f (shared_by p n) t now c b))
          (λ z. subst P (sym (call-on-part f n t z p now c b)) h)
          (λ z. subst P (sym (call_in-faulty f n t z p now c b)) (refused z.number z.least z.most))

  -- the part as it was, in the table as it was
  same-table : own.table ≡ bytes_in f v t → with_bytes f v own.table t ≡ t
  same-table e = ap (λ (x : List ℕ). with_bytes f v x t) e ∙ with_bytes-bytes_in f v t

  pub shared-refused : ((call_in f v t now c b).number ≡ 0 → ⊥) → (call_in f v t now c b).table ≡ t
  shared-refused =
      by_part (λ o. (o.number ≡ 0 → ⊥) → o.table ≡ t) (λ n l m h. refl)
      (λ h. same-table (call-refused f w (bytes_in f v t) now c b h))

  -- numbers 1 to 4 and 18
  abbrev Leaves : Outcome → Type 0
  Leaves o = (o.length ≡ 0) × (o.reply ≡ b) × (o.table ≡ t)

  pub shared-early : Early (call_in f v t now c b).number → Leaves (call_in f v t now c b)
  shared-early =
      by_part (λ o. Early o.number → Leaves o) (λ n l m h. (refl, refl, refl))
      (λ h. let e = call-early f w (bytes_in f v t) now c b h in (e.0, e.1, same-table e.2))

  pub shared-18 : (call_in f v t now c b).number ≡ 18 → Leaves (call_in f v t now c b)
  shared-18 =
      by_part (λ o. o.number ≡ 18 → Leaves o) (λ n l m h. (refl, refl, refl))
      (λ h. absurd (omega (arith, h, call-number f w (bytes_in f v t) now c b)))

  pub shared-number : (call_in f v t now c b).number ≤ 18
  shared-number = by_part (λ o. o.number ≤ 18) (λ n l m. m) (omega (arith, call-number f w (bytes_in f v t) now c b))

  pub shared-fits : (call_in f v t now c b).length ≤ f.reply_room
  shared-fits = by_part (λ o. o.length ≤ f.reply_room) (λ n l m. omega arith) (call_fits f w (bytes_in f v t) now c b)

  pub shared-buffer : drop (call_in f v t now c b).length (call_in f v t now c b).reply ≡ drop (call_in f v t now c b).length b
  shared-buffer = by_part (λ o. drop o.length o.reply ≡ drop o.length b) (λ n l m. refl) (call_buffer f w (bytes_in f v t) now c b)
