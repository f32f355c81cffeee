-- The fit of a node by its parent's: where that goes on by a slash, the name decides.
use Rattle.std.proofs.Common.{◌∙◌, sym, arith}
use Rattle.aff_reader.proofs.BelongsLaws.{belongs_record}
use Rattle.aff_read.proofs.FitLaws.{below_none, below_end, below_other, below_slash}
use Rattle.aff_read.proofs.FrontLaws.{own_string}
use Rattle.aff_read.proofs.paths.fit_below.Goals as goal
use Rattle.aff_read.proofs.paths.fit_below.Goals.{then-path-at-via-then-path-at, then-path-at-via-else-path-at+then-path-at-ne47}

pub returns-in_err-at : goal.returns-in_err-at
returns-in_err-at c =
    let r = c.requires in
    c.from_residual.ensures
    ∙ below_none (belongs_record c.args.belonging.now.belongs) c.args.path.now c.args.step.node r.node_exists r.other (sym c.in_err-at.was ∙ r.above_value)

pub returns-then-path-at : goal.returns-then-path-at
returns-then-path-at c =
    let r = c.requires in
    let b = belongs_record c.args.belonging.now.belongs in
    let at = sym c.in_ok-at.was ∙ r.above_value in
    elim c.then-path-at.branch [
      | then-path-at-via-then-path-at w ↦ below_end b c.args.path.now c.args.step.node r.node_exists r.other _ at w.if-path-at.true
      | then-path-at-via-else-path-at+then-path-at-ne47 w ↦
          below_other b c.args.path.now c.args.step.node r.node_exists r.other _ at w.if-path-at.false w.if-path-at-ne47.true
    ]

pub symbols_from-requires : goal.symbols_from-requires
symbols_from-requires c =
    let b = belongs_record c.args.belonging.now.belongs in
    rw c.requires.string_value (b.string_exists c.args.step.node c.requires.other c.requires.node_exists)

pub returns : goal.returns
returns c =
    let r = c.requires in
    let o = c.args.belonging.now.opened in
    let b = belongs_record c.args.belonging.now.belongs in
    let name = own_string o.image.now o.reader o.strings.now o.entries.now c.args.step.node (λ q. omega (arith, r.other)) in
    rw (c.symbols_from.ensures, r.string_value) at c.fit_from.ensures
    ∙ below_slash b c.args.path.now c.args.step.node r.node_exists r.other _ (sym c.in_ok-at.was ∙ r.above_value) c.if-path-at.false
    c.if-path-at-ne47.false _ (sym name)
