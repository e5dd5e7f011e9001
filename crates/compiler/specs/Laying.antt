-- A unit that is laid out, and what is known of it where its bodies are written.
use Rattle.std.specs.Prelude.{length}
use Rattle.rows.specs.Units.{SourceUnit}
use Rattle.rows.specs.Bodies.{outlined}
use Rattle.compiler.specs.WritingExpressions.{Callees}
use Rattle.compiler.specs.declared.layout.Layout.{Layout}

-- what its bodies may name
abbrev pub outline_in : Layout → SourceUnit
outline_in l = outlined l.view.words l.view.wants.now l.arities.now

-- where its calls go
abbrev pub callees_in : Layout → Callees
callees_in l = record { wants = length l.view.wants.now; starts = l.starts.now }
