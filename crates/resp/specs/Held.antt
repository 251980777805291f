-- What the type of a command's words holds.
use Rattle.std.specs.Prelude.{ℕ, List}
use Rattle.resp.specs.Spans.{words_of}
use Rattle.resp.specs.declared.Words as code

-- the words of its command
abbrev pub words_in : code.Words → List (List ℕ)
words_in w = words_of w.bytes.now
