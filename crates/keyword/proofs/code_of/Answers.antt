-- The bytes are shifted into one number from the last to the first; the bit 32 of each is then taken off.
use Rattle.std.proofs.Common.{rules, ◌≡◌, ℕ, ◌*◌, ◌%◌, ◌^◌, reverse, bit_or, ◌∙◌}
use Rattle.std.specs.List.{fold}
use Rattle.keyword.proofs.Codes.{packed, and-mask-code}
use Rattle.keyword.proofs.code_of.Goals as goal

pub returns : goal.returns
returns c =
    let w = c.args.w.now in
    let folded : c.fold-number.result ≡ fold (λ n x. bit_or (n * 2 ^ 8 % 2 ^ 64) x) 0 (reverse w) = search rules in
    let bytes = λ (i : ℕ). (c.type_inv.w i).fits in
    rw (folded ∙ packed w bytes c.requires) (and-mask-code 8 w bytes c.requires)
