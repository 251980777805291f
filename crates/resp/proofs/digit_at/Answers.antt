-- A byte is a digit as `std` tests it and as the model does.
use Rattle.std.proofs.Common.{◌≡◌, ◌∙◌, sym, ℕ, List, length, true, nat_lt, get_or, arith}
use Rattle.std.proofs.lemmas.Grind.{get_or_default_zero}
use borrow.Author.Tests.{ltb-true}
use Rattle.resp.proofs.Digits.{digit-past, digit-here, digit-other}
use Rattle.resp.proofs.digit_at.Goals as goal

read : (s : List ℕ) (at x : ℕ) → true ≡ nat_lt at (length s) → x ≡ get_or s at x → x ≡ get_or s at 0
read s at x t e = e ∙ get_or_default_zero s at x (ltb-true at (length s) (sym t))

pub returns-in_err-c : goal.returns-in_err-c
returns-in_err-c c = c.from_residual.ensures ∙ digit-past _ _ (sym c.in_err-c.ensures.lookup.0)

pub returns-then-is_ascii_digit : goal.returns-then-is_ascii_digit
returns-then-is_ascii_digit c = let l = c.in_ok-c.ensures.lookup in digit-here _ _ (omega (arith, read _ _ _ l.0 l.1)) c.if-is_ascii_digit.ensures.value

pub returns : goal.returns
returns c = let l = c.in_ok-c.ensures.lookup in grind (arith, read _ _ _ l.0 l.1, c.if-is_ascii_digit.ensures.value, digit-other c.args.s.now c.args.at)
