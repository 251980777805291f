use Rattle.std.proofs.Common.{◌≡◌, ℕ, ◌-◌, ◌<◌, ◌≤◌, List, length, get_or, sym, ap, ◌∙◌, subst, arith}
use lib.Bits.{bit_and}
use Rattle.model.specs.Bytes.{padded}
use Rattle.model.specs.Table.{record_at}
use Rattle.outcome.specs.Outcome.{to_model}
use Rattle.record.specs.Forms.{form_of}
use Rattle.record.specs.Record.{IsSlot, has_key}
use Rattle.record.proofs.Forms.{lawful-form}
use Rattle.table.specs.Slots.{Reads, slots_of}
use Rattle.index.specs.Index.{count_of, bucket_of, key_is}
use Rattle.table.proofs.Records.{table_of, count-is, some-slot, inside-table}
use Rattle.table.proofs.Search.{long-none, key-lowest}
use Rattle.table.proofs.Parts.{is-slot}
use Rattle.index.proofs.Chains.{indexed-chain, indexed-entry}
use Rattle.index.proofs.Entries.{to-slot}
use Rattle.index.proofs.Keys.{key-first, key-alone, key-absent, key-found}
use Rattle.record.specs.declared.Form.{Form}
use Rattle.index.proofs.find.Goals as goal
use Rattle.index.proofs.find.Goals.{After-has_key, After-bucket}

pub returns-then-key-gt-KEY_LIMIT : goal.returns-then-key-gt-KEY_LIMIT
returns-then-key-gt-KEY_LIMIT c =
    let f = form_of c.args.form in
    let t = c.args.table.now in
    let k = c.args.key.now in
    sym (key-lowest k (slots_of f t) ∙ long-none f k (slots_of f t) 0 c.if-key-gt-KEY_LIMIT.true (table_of f t c.requires.reads).kept)

pub slot-requires : goal.slot-requires
slot-requires c = let f = form_of c.args.form in inside-table f c.args.table.now c.requires.reads 0 (some-slot f c.args.table.now c.requires.reads)

pub has_key-requires : goal.has_key-requires
has_key-requires c =
    let f = form_of c.args.form in
    let t = c.args.table.now in
    subst IsSlot (sym c.slot.ensures) (is-slot f t c.requires.reads 0 (some-slot f t c.requires.reads) (lawful-form c.args.form))

-- what the call said of slot 0
told : (c : After-has_key) → c.has_key.result ≡ key_is (form_of c.args.form) c.args.table.now c.args.key.now 0
told c = c.has_key.ensures ∙ ap (has_key c.args.key.now) c.slot.ensures

pub returns-then-has_key : goal.returns-then-has_key
returns-then-has_key c =
    key-first (form_of c.args.form) c.args.table.now c.requires.reads c.args.key.now (sym (told (goal.at.returns-then-has_key c).After-has_key) ∙ c.if-has_key.true)

pub returns-then-count-eq1 : goal.returns-then-count-eq1
returns-then-count-eq1 c =
    key-alone (form_of c.args.form) c.args.table.now c.requires.reads c.args.key.now
    (sym (told (goal.at.returns-then-count-eq1 c).After-has_key) ∙ c.if-has_key.false) (sym c.count.ensures ∙ c.if-count-eq1.true)

-- each slot is a record
slots : (g : Form) (t : List ℕ) → Reads (form_of g) t → (j : ℕ) → 0 ≤ j → j < count_of (form_of g) t → IsSlot (record_at (form_of g) j t)
slots g t ok j low high = is-slot (form_of g) t ok j (omega (arith, count-is (form_of g) t ok)) (lawful-form g)

-- the head of the key's bucket
first-told : (c : After-bucket) → get_or c.args.heads.now c.bucket.result 0 ≡ get_or c.args.heads.now (bucket_of (length c.args.heads.now) (padded 24 c.args.key.now)) 0
unfolding bucket_of
first-told c =
    let heads = c.args.heads.now in
    ap (λ (b : ℕ). get_or heads b 0) (c.bucket.ensures.0 ∙ ap (λ (h : ℕ). bit_and h (length heads - 1)) c.of_key.ensures)

pub search_chain-requires : goal.search_chain-requires
search_chain-requires c =
    indexed-chain (form_of c.args.form) c.args.table.now 0 c.requires.indexed (slots c.args.form c.args.table.now c.requires.reads) c.args.key.now _ (first-told (goal.at.search_chain-requires c).After-bucket)

pub returns : goal.returns
returns c =
    let f = form_of c.args.form in
    let t = c.args.table.now in
    let k = c.args.key.now in
    let other = sym (told (goal.at.returns c).After-has_key) ∙ c.if-has_key.false in
    let entry = sym (indexed-entry f t 0 c.requires.indexed (slots c.args.form t c.requires.reads) k _ (first-told (goal.at.returns c).After-bucket)) in
    ap to_model c.search_chain.ensures ∙ to-slot _ _ (key-absent f t c.requires.reads k other _ entry) (key-found f t c.requires.reads k other _ entry)
