-- A `Line` as a span of the text that it stands in.
use Rattle.abc_fields.specs.Lines.{Span}
use Rattle.abc_fields.specs.declared.lines.Line.{Line}

abbrev pub line_span : Line → Span
line_span line = record { from = line.from; to = line.to; bytes = line.text.now }
