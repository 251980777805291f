-- The digits are text, and under no options they are written as they are.
use Rattle.std.proofs.Common.{◌≡◌, false, List, ℕ, [], sym, ◌∙◌, subst}
use Rattle.std.proofs.lemmas.Str.{IsUtf8-from_ascii}
use Rattle.std.specs.Fmt.{IsDefaultSpec, WritesInCalls, padded_integral}
use Rattle.std.specs.Str.{IsUtf8}
use Rattle.model.specs.Number.{nat_text}
use Rattle.terminal.proofs.Numerals.{nat_text-IsAscii, as_it_is}
use Rattle.terminal.proofs.numeral.DecimalDisplay.fmt.Goals as goal

pub unreachable-requires : goal.unreachable-requires
unreachable-requires g c =
    c.in_default.ensures.cases.0 (subst IsUtf8 (sym c.decimal-n.ensures.text) (IsUtf8-from_ascii (nat_text c.args.self.now.0) (nat_text-IsAscii c.args.self.now.0)))

pub returns-clause-writes : goal.returns-clause-writes
returns-clause-writes g c = λ normal ok.
    let styled = c.pad_integral.ensures.styled normal.flush ok in
    let same : padded_integral c.args.f.now.spec false [] c.in-Ok.text.now ≡ nat_text c.args.self.now.0 =
    as_it_is c.args.f.now c.in-Ok.text.now normal.bare ∙ (c.in-Ok.ensures.cases.0 ∙ c.decimal-n.ensures.text) in
    record {
      wrote = subst (λ (bs : List ℕ). WritesInCalls g.W.Write.write_str_gives c.args.f.now.writer bs c.pad_integral.new.self.writer) same styled.wrote;
      plain = record { bare = subst IsDefaultSpec (sym styled.spec) normal.bare; flush = styled.flush };
    }
