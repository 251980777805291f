-- The kinds of options as bits: a rule takes a kind if its bit is set.
use Prim.Native.Nat.{ℕ, ◌/◌, ◌%◌, ◌^◌, ◌<◌}
use native.Mathlib.Omega.{arith}
use mathlib.Core.Path.{◌≡◌, refl, sym, ap, ◌∙◌}
use mathlib.Core.Bool.{Bool, true, false, cond, ◌&&◌, ◌||◌}
use mathlib.Core.List.{List, [], ◌∷◌}
use lib.Dec.{eqb}
use borrow.Author.Tests.{eqb-true}
use Rattle.model.specs.Command as model
use Rattle.model.specs.Command.{Kind, kind_no}
use Rattle.model.specs.Options.{same_kind, takes}
use Rattle.command.specs.Rules.{all_kinds, has_kind, kinds_in}

pub kind-small : (k : Kind) → kind_no k < 10
kind-small model.time_word = omega arith
kind-small model.keep_ttl_word = omega arith
kind-small model.nx_or_xx = omega arith
kind-small model.ver_or_abs = omega arith
kind-small model.flags_word = omega arith
kind-small model.min_word = omega arith
kind-small model.max_word = omega arith
kind-small model.non_negative_word = omega arith
kind-small model.with_version_word = omega arith
kind-small model.with_flags_word = omega arith

takes_all : (k : Kind) → takes all_kinds k ≡ true
takes_all model.time_word = refl
takes_all model.keep_ttl_word = refl
takes_all model.nx_or_xx = refl
takes_all model.ver_or_abs = refl
takes_all model.flags_word = refl
takes_all model.min_word = refl
takes_all model.max_word = refl
takes_all model.non_negative_word = refl
takes_all model.with_version_word = refl
takes_all model.with_flags_word = refl

module _ (m : ℕ) (k : Kind) where
  -- kinds of one number have one bit
  same_bit : (j : Kind) → same_kind j k ≡ true → has_kind m j ≡ has_kind m k
  same_bit j e = ap (λ (n : ℕ). eqb (m / 2 ^ n % 2) 1) (eqb-true (kind_no j) (kind_no k) e)

  takes_of : (ks : List Kind) → takes (kinds_in m ks) k ≡ has_kind m k && takes ks k
  takes_of [] = none_of (has_kind m k)
    where
      none_of : (b : Bool) → false ≡ b && false
      none_of true = refl
      none_of false = refl
  takes_of (j ∷ ks) = go (has_kind m j) (same_kind j k) (has_kind m k) refl refl refl (takes_of ks)
    where
      go : (b s h : Bool) → has_kind m j ≡ b → same_kind j k ≡ s → has_kind m k ≡ h → takes (kinds_in m ks) k ≡ has_kind m k && takes ks k
          → takes (cond b (j ∷ kinds_in m ks) (kinds_in m ks)) k ≡ h && (s || takes ks k)
      go true true h p q r more = rw q (sym (rw (sym r ∙ (sym (same_bit j q) ∙ p)) refl))
      go true false h p q r more = rw q (more ∙ ap (λ (b : Bool). b && takes ks k) r)
      go false true h p q r more =
          let no : has_kind m k ≡ false = sym (same_bit j q) ∙ p in
          more ∙ (ap (λ (b : Bool). b && takes ks k) no ∙ sym (ap (λ (b : Bool). b && true) (sym r ∙ no)))
      go false false h p q r more = more ∙ ap (λ (b : Bool). b && takes ks k) r

  -- a rule takes a kind if its bit is set
  pub takes-bit : takes (kinds_in m all_kinds) k ≡ has_kind m k
  takes-bit = takes_of all_kinds ∙ (ap (λ (b : Bool). has_kind m k && b) (takes_all k) ∙ and-true (has_kind m k))
    where
      and-true : (b : Bool) → b && true ≡ b
      and-true true = refl
      and-true false = refl
