use Rattle.std.proofs.Common.{ℕ, length, replicate, ap, sym, ◌∙◌, arith}
use lib.ListN.{length-replicate}
use Rattle.record.specs.Forms.{form_of}
use Rattle.table.proofs.Records.{count-is}
use Rattle.order.proofs.Listing.{lists-none}
use Rattle.order.proofs.index.make_index.Goals as goal

pub loop-slot-init : goal.loop-slot-init
loop-slot-init c =
    let f = form_of c.args.form in
    let cleared = ap length c.clear.ensures ∙ length-replicate (length c.args.list.now) 0 in
    let n = c.count-slot.ensures ∙ count-is f c.args.table.now c.requires.good.reads in
    lists-none f c.args.table.now c.count-slot.result (length c.clear.new.buf) (omega (arith, n)) (c.clear.ensures ∙ ap (λ (m : ℕ). replicate m 0) (sym cleared))

pub enter-n-requires-clause-slot_in_bounds : goal.enter-n-requires-clause-slot_in_bounds
enter-n-requires-clause-slot_in_bounds c =
    let n = c.count-slot.ensures ∙ count-is (form_of c.args.form) c.args.table.now c.requires.good.reads in
    (omega (arith, n), omega (arith, ap length c.clear.ensures, length-replicate {A = ℕ} (length c.args.list.now) 0, c.requires.table_in_bounds))
