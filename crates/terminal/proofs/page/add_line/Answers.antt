-- What each part adds, the text adds.
use Rattle.std.proofs.Common.{◌≡◌, ◌++◌, take, List, ℕ, Option}
use Rattle.std.specs.Fmt.{AppendsText, WritesText, with_newline}
use Rattle.std.proofs.lemmas.Option.{IfSome_then}
use Rattle.std.proofs.lemmas.Result.{on_ok_weaker}
use Rattle.std.proofs.lemmas.Fmt.{contents_after_writes}
use Rattle.terminal.specs.declared.page.Page.{Page}
use Rattle.terminal.proofs.page.add_line.Goals as goal

abbrev Adds : Page 1024 → List ℕ → Page 1024 → Type 0
Adds p s q = take q.len q.bytes ≡ take p.len p.bytes ++ s

told : (p q : Page 1024) (o : Option (List ℕ)) → WritesText Adds p o q → AppendsText (take p.len p.bytes) (take q.len q.bytes) o
told p q o w = IfSome_then o w (λ bs. contents_after_writes Adds (λ (r : Page 1024). take r.len r.bytes) (λ _ _ _ t. t) p bs q)

pub returns : goal.returns
returns g c =
    on_ok_weaker c.writeln.result (told c.args.page.now c.writeln.new.self (with_newline (g.D.Display.output c.args.text))) c.writeln.ensures.writes
