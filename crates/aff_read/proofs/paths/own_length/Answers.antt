-- The string of a node's name is there, and the root has no name.
use Rattle.std.proofs.Common.{rules, ◌≡◌, None, ℕ, ◌∙◌, ap, take, arith}
use Rattle.aff_format.specs.Strings.{up_to_zero}
use Rattle.aff_format.specs.declared.entry.Entry.{Entry}
use Rattle.aff_reader.proofs.BelongsLaws.{belongs_record}
use Rattle.aff_reader.specs.Opened.{of}
use Rattle.aff_read.specs.passes.Held.{symbols_from}
use Rattle.aff_read.proofs.FrontLaws.{own_root, name_past, name_counted}
use Rattle.aff_read.proofs.paths.own_length.Goals as goal

pub returns-then-node-eq0 : goal.returns-then-node-eq0
returns-then-node-eq0 c = own_root _ _ _ _ c.args.spelling c.args.node c.args.limit c.if-limit-eq0.false c.if-node-eq0.true

pub symbols_from-symbols-requires : goal.symbols_from-symbols-requires
symbols_from-symbols-requires c =
    let b = belongs_record c.args.belonging.now.belongs in
    rw c.entry.ensures (b.string_exists c.args.node (omega arith) c.requires.node_exists)

pub returns-in_err-length : goal.returns-in_err-length
returns-in_err-length c =
    let n : c.from_residual.result ≡ None = search rules in
    let o = c.args.belonging.now.opened in
    n ∙ name_past o.image.now o.reader o.strings.now o.entries.now c.args.node c.if-node-eq0.false c.args.spelling c.args.limit c.symbols_from-symbols.result.now
    c.if-limit-eq0.false (c.symbols_from-symbols.ensures ∙ ap (λ (e : Entry). of o symbols_from e.string) c.entry.ensures)
    (c.until_zero-name.ensures ∙ ap (λ (n : ℕ). up_to_zero (take n c.symbols_from-symbols.result.now)) c.min.ensures) c.in_err-length.ensures

pub returns : goal.returns
returns c =
    let o = c.args.belonging.now.opened in
    name_counted o.image.now o.reader o.strings.now o.entries.now c.args.node c.if-node-eq0.false c.args.spelling c.args.limit c.symbols_from-symbols.result.now
    c.if-limit-eq0.false (c.symbols_from-symbols.ensures ∙ ap (λ (e : Entry). of o symbols_from e.string) c.entry.ensures)
    (c.until_zero-name.ensures ∙ ap (λ (n : ℕ). up_to_zero (take n c.symbols_from-symbols.result.now)) c.min.ensures) c.in_ok-length.ensures
