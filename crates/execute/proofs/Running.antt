-- BITFIELD: what its subcommands came to, stored and answered.
use Prim.Native.Nat.{ℕ, ◌≤◌}
use native.Mathlib.Omega.{arith}
use mathlib.Core.Path.{◌≡◌, refl, sym, ◌∙◌, subst}
use mathlib.Core.Bool.{true, false}
use mathlib.Core.List.{List, map}
use mathlib.Core.Option.{none}
use lib.ListN.{length, take, length-map}
use Rattle.model.specs.Checked.{refuse, ok, ◌>>=◌}
use Rattle.model.specs.Table.{Form}
use Rattle.model.specs.Search.{Placed, live_record}
use Rattle.model.specs.Resp.{scalars_bytes}
use Rattle.model.specs.Command.{keep}
use Rattle.model.specs.Bitfield as model
use Rattle.model.specs.Bitfield.{all_end_within, run_subs, result_scalar, fields_reply}
use Rattle.model.specs.Execute.{answer, value_or_empty, swapping, storing}
use Rattle.model.proofs.Replies.{results-size}
use Rattle.model.proofs.Runs.{results-length, run_subs-signed, run_subs-within}
use Rattle.slice.proofs.Writing.{wrote-front}
use Rattle.command.specs.Subcommand.{model_subs}
use Rattle.command.specs.declared.subcommand.Subs.{Subs}
use Rattle.record.specs.declared.Form as code
use Rattle.record.specs.declared.Form.TheVariants.{Of128, Of192}
use Rattle.record.specs.Forms.{form_of}
use Rattle.live.specs.declared.Target.{Target}
use Rattle.live.specs.declared.Lookup.{Lookup}
use Rattle.live.specs.declared.Lookup.TheVariants.{Live, Expired, Absent}
use Rattle.live.specs.Under.{model_lookup, SoundAt, Sound, shape_of}
use Rattle.std.specs.Prelude.{Result}
use Rattle.outcome.specs.declared.Refusal.{Refusal}
use Rattle.put.specs.Put.{put_in, Puts}
use Rattle.bitfield.specs.Run.{stored_value, LeavesAll}
use Rattle.bitfield.specs.declared.Ran.{Ran}
use Rattle.bitfield.proofs.Padded.{front}
use Rattle.bitfield.proofs.Subcommands.{length-subs, all-end-more}
use Rattle.execute.specs.Does.{fields_in, FieldsFit}
use Rattle.write.proofs.Writing.{write_new}

-- the buffer for a value has room for one of every form
pub limit-small : (f : code.Form) → (form_of f).value_limit ≤ 128
limit-small Of128 = omega arith
limit-small Of192 = omega arith

-- the stored value fits its record
stored-small : (f : Form) (t : List ℕ) (l : Lookup) → SoundAt f t l → length (value_or_empty (live_record (model_lookup f t l))) ≤ f.value_limit
stored-small f t (Live i a) h = h.range.value-to
stored-small f t (Expired i) h = omega arith
stored-small f t Absent h = omega arith

module _ (t : List ℕ) (g : Target) (ss : Subs) where
  -- what the subcommands come to on the stored value
  abbrev pub ran : model.Ran
  ran = run_subs (model_subs ss) (stored_value t g)

  -- one answer for each, of few bytes
  pub answers-count : length (map result_scalar ran.results) ≡ ss.count
  answers-count = length-map ran.results result_scalar ∙ (results-length (model_subs ss) (stored_value t g) ∙ length-subs ss)

  pub answers-size : FieldsFit ss → length (scalars_bytes (map result_scalar ran.results)) ≤ 92
  answers-size h =
      omega (arith, results-size ran.results (run_subs-signed (model_subs ss) (stored_value t g) h.typed), results-length (model_subs ss) (stored_value t g), length-subs ss, h.few)

  -- what BITFIELD does under a key
  pub ends-past : (k : List ℕ) → all_end_within (shape_of g).value_limit (model_subs ss) ≡ false → fields_in t g k ss ≡ refuse 16
  ends-past k e = rw e

  module _ (e : all_end_within (shape_of g).value_limit (model_subs ss) ≡ true) where
    module _ (k : List ℕ) {n : ℕ} {b old text : List ℕ} {r : Ran} (l : LeavesAll ran n b old text r) where
      pub unwritten : r.wrote ≡ false → fields_in t g k ss ≡ ok (answer (fields_reply ran.results))
      unwritten q = rw (e, sym l.wrote ∙ q)

      pub written : r.wrote ≡ true → fields_in t g k ss ≡ (put_in t g k (swapping keep) none ran.value >>= λ (p : Placed). ok (storing (λ n. fields_reply ran.results) p))
      written q = rw (e, sym l.wrote ∙ q) (write_new t g k (swapping keep) none _ _ refl)

      -- the value that is put is the one they leave
      pub puts-value : {after : List ℕ} {stored : Result ℕ Refusal} → Puts (shape_of g) t after stored (put_in t g k (swapping keep) none (take r.len b))
          → Puts (shape_of g) t after stored (put_in t g k (swapping keep) none ran.value)
      puts-value {after} {stored} = subst (λ (v : List ℕ). Puts (shape_of g) t after stored (put_in t g k (swapping keep) none v)) (front l.holds)

    -- they end within a buffer of 128 bytes
    pub end-within : all_end_within 128 (model_subs ss) ≡ true
    end-within = all-end-more (shape_of g).value_limit 128 (model_subs ss) (limit-small g.form) e

    -- what they leave fits a record
    pub value-fits : FieldsFit ss → Sound (shape_of g) t g.found → length ran.value ≤ (shape_of g).value_limit
    value-fits h s = run_subs-within (shape_of g).value_limit (model_subs ss) (stored_value t g) h.typed e (stored-small (shape_of g) t g.found s.at)

-- ---- the parts of the two buffers

module _ {d : model.Ran} {n : ℕ} {b old text : List ℕ} {r : Ran} (l : LeavesAll d n b old text r) where
  pub value-is : take r.len b ≡ d.value
  value-is = front l.holds

  pub text-is : take r.end text ≡ scalars_bytes (map result_scalar d.results)
  text-is = wrote-front _ _ _ _ l.answered

  pub end_is : r.end ≡ length (scalars_bytes (map result_scalar d.results))
  end_is = omega (arith, l.answered.place)
