-- The loop keeps that a chain begins with the entry, and that the lowest slot with the key is the lowest of that chain.
use Rattle.std.proofs.Common.{◌≡◌, ◌-◌}
use Rattle.record.specs.Forms.{form_of}
use Rattle.index.specs.Index.{named_by, count_of, key_entry, Chain}
use Rattle.index.proofs.search_chain.Given as goal

abbrev pub invariant-loop-at : goal.invariant-loop-at
invariant-loop-at l = Chain (form_of l.form) l.table l.next l.at l.key × (key_entry (form_of l.form) l.table l.key l.first ≡ key_entry (form_of l.form) l.table l.key l.at)

abbrev pub decreases-loop-at : goal.decreases-loop-at
decreases-loop-at l = let n = count_of (form_of l.form) l.table in n - named_by n l.at
