-- The names are pieces side by side.
use Rattle.std.proofs.Common.{List, ℕ}
use Rattle.model.specs.Difference.{fields_text}
use Rattle.slice.proofs.Pieces.{Writing, begin, room, next, all}
use Rattle.difference.specs.Lines.{fields_of}
use Rattle.difference.specs.declared.fields.Fields.{Fields}
use Rattle.difference.proofs.Texts.{names, fields-name_if}
use Rattle.difference.proofs.line.put_fields.Goals as goal

-- before the first name
abbrev Begun : (at : ℕ) (d : Fields) (b : List ℕ) → Type 0
Begun at d b = Writing at (fields_text (fields_of d)) b (names d) b at

pub put_if-value-requires : goal.put_if-value-requires
put_if-value-requires c =
    let b : Begun c.args.at c.args.d c.args.out.now = begin (names c.args.d) (fields-name_if c.args.d) c.requires in
    room b

pub put_if-version-requires : goal.put_if-version-requires
put_if-version-requires c =
    let b : Begun c.args.at c.args.d c.args.out.now = begin (names c.args.d) (fields-name_if c.args.d) c.requires in
    room (next b c.put_if-value.ensures)

pub put_if-flags-requires : goal.put_if-flags-requires
put_if-flags-requires c =
    let b : Begun c.args.at c.args.d c.args.out.now = begin (names c.args.d) (fields-name_if c.args.d) c.requires in
    room (next (next b c.put_if-value.ensures) c.put_if-version.ensures)

pub put_if-requires : goal.put_if-requires
put_if-requires c =
    let b : Begun c.args.at c.args.d c.args.out.now = begin (names c.args.d) (fields-name_if c.args.d) c.requires in
    room (next (next (next b c.put_if-value.ensures) c.put_if-version.ensures) c.put_if-flags.ensures)

pub returns : goal.returns
returns c =
    let b : Begun c.args.at c.args.d c.args.out.now = begin (names c.args.d) (fields-name_if c.args.d) c.requires in
    all (next (next (next (next b c.put_if-value.ensures) c.put_if-version.ensures) c.put_if-flags.ensures) c.put_if.ensures)
