-- One section header after the other.
use Rattle.std.proofs.Common.{ap, ◌∙◌}
use Rattle.aff_format.specs.Edition.{section_header_size}
use Rattle.aff_areas.specs.Writer.{writer_edition}
use Rattle.aff_write.specs.Close.{section_of}
use Rattle.aff_write.proofs.CloseLaws.{length_section_of, headers_over}
use Rattle.aff_write.proofs.closing.Sections.put_headers.Goals as goal

pub returns : goal.returns
returns c =
    let s = c.args.self.now in
    let n = c.section_header_size-size.ensures ∙ ap section_header_size c.by_number-edition.ensures in
    headers_over (writer_edition s.writer) (section_of s.writer s.full s.symbols.now s.entries.now s.stored.now) _ _ _ _ _ c.requires n
    (length_section_of s.writer s.full s.symbols.now s.entries.now s.stored.now) c.put_ranked.ensures c.put_ranked-2.ensures c.put_ranked-3.ensures
