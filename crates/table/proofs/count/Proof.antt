-- `table::count` meets its contract.
use borrow.Author.Rules.{rules}
use Rattle.table.proofs.count.Statement.{statement}
use Rattle.table.proofs.count.Tie as tie

enum_told : tie.Need-enum_told-1
enum_told c = search rules

pub count_spec : {M : Type 1} → statement M
count_spec =
    tie.close
    (tie.spec
    enum_told (λ c. search rules)
    (λ c. rw c.in-Of128.is)
    (λ c. rw c.in-Of192.is))
