-- Lent words that are filled from the front on: those that are written, and the rest.
use Rattle.std.specs.Prelude.{ℕ, List, take, drop}
use Rattle.compiler.specs.declared.filled.Filled.{Filled}

abbrev pub filled : Filled → List ℕ
filled f = take f.len f.words.now

abbrev pub rest : Filled → List ℕ
rest f = drop f.len f.words.now
