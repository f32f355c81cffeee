-- The record of an opened image.
use Rattle.aff_reader.specs.declared.reader.Span.{Span}
use Rattle.aff_reader.specs.declared.reader.Reader.{Reader}

abbrev pub no_span : Span
no_span = record { offset = 0; size = 0 }

-- The all-zero record: what a refused opening leaves.
abbrev pub no_reader : Reader
no_reader = record { length = 0; edition = 0; symbols = no_span; tree = no_span; «data» = no_span; strings = 0; nodes = 0; records = 0 }
