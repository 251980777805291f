-- What is known of subcommands that parsed: their types are known, the number of a SET fits, and each has three words or more.
use mathlib.Core.Path.{◌≡◌, sym, ap, ◌∙◌}
use mathlib.Core.Bool.{true}
use mathlib.Core.List.{List, [], ◌∷◌}
use mathlib.Core.Option.{some}
use Prim.Native.Nat.{ℕ, zero, suc, ◌+◌, ◌*◌, ◌≤◌}
use native.Mathlib.Omega.{arith}
use lib.ListN.{length, get_or, length-append}
use Rattle.model.specs.Bytes.{uppers}
use Rattle.model.specs.Optional.{only}
use Rattle.model.specs.Number.{read_signed}
use Rattle.model.specs.Field.{IntType, is_int_type, fits, Field}
use Rattle.model.specs.Overflow.{Mode, wrap}
use Rattle.model.specs.Bitfield as Bitfield
use Rattle.model.specs.Bitfield.{Sub}
use Rattle.model.specs.Command.{look}
use Rattle.model.specs.Subcommands.{SubName, GET, SET, INCRBY, OVERFLOW, sub_names, modes, arity, Part, get, set, incrby, overflow, part_of, parts_in, type_by, type_in, offset_in, field_in, sub_of, mode_after, subs_in, subcommands_in}
use Rattle.model.proofs.Basics.{some-eq, came, only-some, map-some, All, all_append}
use Rattle.model.proofs.Steps.{Comes, by-given, of-given}
use Rattle.model.proofs.Runs.{Typed}

-- ---- the words of a part, its name counted

abbrev words_of : Part → ℕ
words_of (get t o) = 3
words_of (set t o n) = 4
words_of (incrby t o n) = 4
words_of (overflow m) = 2

abbrev words_of_all : List Part → ℕ
words_of_all [] = 0
words_of_all (p ∷ ps) = words_of p + words_of_all ps

part-words : (s : SubName) (ws : List (List ℕ)) (p : Part) → part_of s ws ≡ some p → words_of p ≡ suc (arity s)
part-words GET ws p e = ap words_of (sym (some-eq e))
part-words SET ws p e = ap words_of (sym (some-eq e))
part-words INCRBY ws p e = ap words_of (sym (some-eq e))
part-words OVERFLOW ws p e = let m = map-some overflow (look (uppers (get_or ws 0 [])) modes) p e in ap words_of (sym m.2)

-- no word is left over
parts-words : (n : ℕ) (ws : List (List ℕ)) (ps : List Part) → parts_in n ws ≡ some ps → n + words_of_all ps ≡ length ws
unfolding parts_in
parts-words zero [] ps e = let r : words_of_all ps ≡ 0 = ap words_of_all (sym (some-eq e)) in omega arith
parts-words (suc n) [] ps e = let z : ◌≡◌ {A = ℕ} 0 1 = cc in absurd (omega arith)
parts-words (suc n) (w ∷ ws) ps e = let r = parts-words n ws ps e in omega arith
parts-words zero (w ∷ ws) ps e =
    came (look (uppers w) sub_names) _ e λ s hs e.
    came (part_of s ws) _ e λ p hp e.
    came (parts_in (arity s) ws) _ e λ qs hq e.
    let a = part-words s ws p hp in
    let b = parts-words (arity s) ws qs hq in
    let c : words_of_all ps ≡ words_of p + words_of_all qs = ap words_of_all (sym (some-eq e)) in
    omega arith

-- ---- the subcommand of a part

-- a SET has a number that fits
abbrev pub SetFits : Sub → Type 0
SetFits (Bitfield.get f) = Unit {0}
SetFits (Bitfield.set f z) = fits f.type z ≡ true
SetFits (Bitfield.incrby f m z) = Unit {0}

record PartRead (p : Part) (ss : List Sub) : Type 0 where
  typed : All Typed ss
  fitting : All SetFits ss
  few : 3 * length ss ≤ words_of p

pub type-known : (t : List ℕ) (i : IntType) → type_in t ≡ some i → is_int_type i ≡ true
unfolding type_in
type-known [] i e = let z : ◌≡◌ {A = ℕ} 0 1 = cc in absurd (omega arith)
type-known (c ∷ s) i e = (only-some is_int_type (type_by c s) i e).1

pub field-known : (t o : List ℕ) (f : Field) → field_in t o ≡ some f → is_int_type f.type ≡ true
field-known t o f e =
    came (type_in t) _ e λ i hi e.
    came (offset_in i o) _ e λ at ho e.
    ap (λ (g : Field). is_int_type g.type) (sym (some-eq e)) ∙ type-known t i hi

one-read : (p : Part) (s : Sub) (ss : List Sub) → some (s ∷ []) ≡ some ss → Typed s → SetFits s → 3 ≤ words_of p → PartRead p ss
one-read p s ss e t g l = rw (sym (some-eq e)) (record { typed = (t, tt); fitting = (g, tt); few = omega arith })

sub_read : (m : Mode) (p : Part) (ss : List Sub) → sub_of m p ≡ some ss → PartRead p ss
unfolding sub_of
sub_read m (get t o) ss e =
    came (field_in t o) _ e λ f hf e. one-read (get t o) (Bitfield.get f) ss e (field-known t o f hf) tt (omega arith)
sub_read m (set t o n) ss e =
    came (field_in t o) _ e λ f hf e.
    came (only (fits f.type) (read_signed n)) _ e λ z hz e.
    one-read (set t o n) (Bitfield.set f z) ss e (field-known t o f hf) (only-some (fits f.type) (read_signed n) z hz).1 (omega arith)
sub_read m (incrby t o n) ss e =
    came (field_in t o) _ e λ f hf e.
    came (read_signed n) _ e λ z hz e.
    one-read (incrby t o n) (Bitfield.incrby f m z) ss e (field-known t o f hf) tt (omega arith)
sub_read m (overflow n) ss e = rw (sym (some-eq e)) (record { typed = tt; fitting = tt; few = omega arith })

-- ---- all of them

-- subcommands of so many words
pub record SubsRead (words : ℕ) (ss : List Sub) : Type 0 where
  pub typed : All Typed ss
  pub fitting : All SetFits ss
  pub few : 3 * length ss ≤ words

subs-read : (m : Mode) (ps : List Part) (ss : List Sub) → subs_in m ps ≡ some ss → SubsRead (words_of_all ps) ss
subs-read m [] ss e = rw (sym (some-eq e)) (record { typed = tt; fitting = tt; few = omega arith })
subs-read m (p ∷ ps) ss e =
    came (sub_of m p) _ e λ s hs e.
    came (subs_in (mode_after m p) ps) _ e λ qs hq e.
    let a = sub_read m p s hs in
    let b = subs-read (mode_after m p) ps qs hq in
    let l = length-append s qs in
    rw (sym (some-eq e)) (record {
      typed = all_append Typed s qs a.typed b.typed;
      fitting = all_append SetFits s qs a.fitting b.fitting;
      few = omega arith;
    })

pub subcommands-read : (Q : ℕ → Type 0) (ws : List (List ℕ)) → Q 8 → Q 9 → Comes Q (SubsRead (length ws)) (subcommands_in ws)
unfolding subcommands_in
subcommands-read Q ws q8 q9 =
    by-given Q (SubsRead (length ws)) 8 (parts_in 0 ws) _ q8 λ ps hp.
    of-given Q (SubsRead (length ws)) 9 (subs_in wrap ps) q9 λ ss hs.
    let a = parts-words 0 ws ps hp in
    let b = subs-read wrap ps ss hs in
    record { typed = b.typed; fitting = b.fitting; few = omega arith }
