-- The marks report whether the parent has a child of that name, and which string is the name.
use Rattle.std.proofs.Common.{ℕ, length, sym, ap, ◌∙◌, arith}
use Rattle.std.proofs.Math.ListN.{length-replicate}
use Rattle.aff_format.proofs.LaidLaws.{length_laid}
use Rattle.aff_areas.proofs.NameLaws.{marks_first}
use Rattle.aff_areas.proofs.BelongsLaws.{belongs_record}
use Rattle.aff_make.proofs.MakeLaws.{marks_children}
use Rattle.aff_make.proofs.making.number_named.Goals as goal

pub mark_strings-requires : goal.mark_strings-requires
mark_strings-requires c =
    let b = belongs_record c.args.held.now.belongs in
    rw (c.used_text.ensures) (record { text_ends = b.text_ends; has_room = omega (arith, b.text_strings, b.few_strings, length-replicate {A = ℕ} 2048 0) })

pub any_marked-requires : goal.any_marked-requires
any_marked-requires c = (belongs_record c.args.held.now.belongs).few_nodes

pub returns-then-any_marked : goal.returns-then-any_marked
returns-then-any_marked c =
    let b = belongs_record c.args.held.now.belongs in
    let laid = rw c.used_text.ensures at c.mark_strings.ensures in
    let marked = marks_children b c.args.name.now _ _ (length-replicate {A = ℕ} 2048 0) laid c.args.parent in
    rw (sym (c.any_marked.ensures ∙ marked) ∙ c.if-any_marked.true)

pub first_mark-string-requires : goal.first_mark-string-requires
first_mark-string-requires c =
    let b = belongs_record c.args.held.now.belongs in
    omega (arith, b.few_strings, ap length c.mark_strings.ensures ∙ length_laid _ _, length-replicate {A = ℕ} 2048 0)

pub invariant_of-named : goal.invariant_of-named
invariant_of-named c =
    let b = belongs_record c.args.held.now.belongs in
    let laid = rw c.used_text.ensures at c.mark_strings.ensures in
    record { numbered = c.first_mark-string.ensures ∙ marks_first b c.args.name.now _ _ (length-replicate {A = ℕ} 2048 0) laid }

pub returns : goal.returns
returns c =
    let b = belongs_record c.args.held.now.belongs in
    let laid = rw c.used_text.ensures at c.mark_strings.ensures in
    let marked = marks_children b c.args.name.now _ _ (length-replicate {A = ℕ} 2048 0) laid c.args.parent in
    rw (sym (c.any_marked.ensures ∙ marked) ∙ c.if-any_marked.false) c.number.ensures
