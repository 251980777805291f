-- `assembler::assemble` meets its contract: what is held is scanned first, and refused where it leaves no state.
use Rattle.std.proofs.Common.{◌≡◌, refl, sym, ap, ◌∙◌, inl, inr, take, arith}
use Rattle.stream.specs.Machine as machine
use Rattle.stream.specs.Machine.{scan}
use Rattle.stream.proofs.Assemblers.{in-short, in-beyond}
use Rattle.assembler.specs.declared.machine.Scanned.{Scanned}
use Rattle.assembler.specs.States.{scan_of}
use Rattle.assembler.proofs.Holding.{assembles-refused, assembles-improper}
use Rattle.assembler.proofs.assemble.Goals as goal

pub returns-then-bytes-lt-SIZE : goal.returns-then-bytes-lt-SIZE
returns-then-bytes-lt-SIZE c =
    let a = c.args in
    elim c.then-bytes-lt-SIZE.either [
      | inl h ↦ assembles-refused a.bytes.now a.held a.piece.now 0 (in-short a.bytes.now a.held a.piece.now (omega (arith, h)))
      | inr h ↦ assembles-refused a.bytes.now a.held a.piece.now 0 (in-beyond a.bytes.now a.held a.piece.now (omega (arith, h)))
    ]

-- what the scan of the bytes held told
scanned : (c : goal.In-Whole) {x : Scanned} → c.scan.result ≡ x → let a = c.args in scan machine.begin (take a.held a.bytes.now) ≡ scan_of x
scanned c e =
    let a = c.args in
    ap (λ (st : machine.State). scan st (take a.held a.bytes.now)) (sym c.begin.ensures) ∙ (sym c.scan.ensures ∙ ap scan_of e)

pub returns-in-Whole : goal.returns-in-Whole
returns-in-Whole c =
    let a = c.args in
    elim c.in-Whole.is [
      | inl (n, e) ↦ assembles-improper a.bytes.now a.held a.piece.now c.if-bytes-lt-SIZE.false c.if-bytes-held.false _ (scanned c e) refl
      | inr (n, e) ↦ assembles-improper a.bytes.now a.held a.piece.now c.if-bytes-lt-SIZE.false c.if-bytes-held.false _ (scanned c e) refl
    ]
