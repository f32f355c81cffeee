-- Each stage passes or refuses as its checks do; the tables of the edition found are those of the image's.
use Rattle.std.proofs.Common.{sym, ap, subst, ◌∙◌}
use Rattle.aff_format.specs.Verdict.{answer_of}
use Rattle.aff_format.specs.declared.edition.Edition.{Edition}
use Rattle.aff_open.specs.passes.Opening.{Filled}
use Rattle.aff_open.proofs.TablesLaws.{told, handed_on, header_refused, sections_refused, symbols_refused, symbols_decide, tree_refused, tables_found, edition_is}
use Rattle.aff_open.proofs.tables.read_tables.Goals as goal

pub returns-in_err-edition-clause-answer : goal.returns-in_err-edition-clause-answer
returns-in_err-edition-clause-answer c =
    let a = c.args in
    handed_on _ _ c.from_residual.ensures.1 ∙ header_refused a.image.now a.form.now (told c.header.ensures c.in_err-edition.was)

pub returns-in_err-sections-clause-answer : goal.returns-in_err-sections-clause-answer
returns-in_err-sections-clause-answer c =
    let a = c.args in
    let h = told c.header.ensures c.in_ok-edition.was in
    handed_on _ _ c.from_residual-in_err-sections.ensures.1
    ∙ sections_refused a.image.now a.form.now h (told c.sections.ensures c.in_err-sections.was)

pub returns-in_err-count-clause-answer : goal.returns-in_err-count-clause-answer
returns-in_err-count-clause-answer c =
    let a = c.args in
    let h = told c.header.ensures c.in_ok-edition.was in
    let s = told c.sections.ensures c.in_ok-sections.was in
    handed_on _ _ c.from_residual-in_err-count.ensures.1 ∙ symbols_refused a.image.now a.form.now h s _ c.symbol_table.ensures.value c.in_err-count.was

pub returns-in_err-nodes-clause-answer : goal.returns-in_err-nodes-clause-answer
returns-in_err-nodes-clause-answer c =
    let a = c.args in
    let e = c.in_ok-edition.edition in
    let h = told c.header.ensures c.in_ok-edition.was in
    let s = told c.sections.ensures c.in_ok-sections.was in
    let n = symbols_decide e a.image.now c.symbol_table.ensures.value ∙ ap answer_of c.in_ok-count.was in
    handed_on _ _ c.from_residual-in_err-nodes.ensures.1
    ∙ tree_refused a.image.now a.form.now h s n (told c.tree_table.ensures.answer c.in_err-nodes.was)

pub returns : goal.returns
returns c =
    let a = c.args in
    let i = a.image.now in
    let h = told c.header.ensures c.in_ok-edition.was in
    let s = told c.sections.ensures c.in_ok-sections.was in
    let n = symbols_decide c.in_ok-edition.edition i c.symbol_table.ensures.value ∙ ap answer_of c.in_ok-count.was in
    record {
      answer = tables_found i a.form.now h s n (told c.tree_table.ensures.answer c.in_ok-nodes.was);
      filled = λ _ _.
          subst (λ (e : Edition). Filled e i a.strings.now c.symbol_table.new.strings a.entries.now c.tree_table.new.entries)
          (sym (edition_is i a.form.now h))
          (record {
            strings_laid = c.symbol_table.ensures.stored _ (ap answer_of c.in_ok-count.was);
            entries_laid = c.tree_table.ensures.stored _ (ap answer_of c.in_ok-nodes.was);
          });
    }
