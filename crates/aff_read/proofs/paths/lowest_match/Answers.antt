-- At first the root alone is settled, and all nodes are left; then the node that the loop is at has the path, or the nodes after it are left.
use Rattle.std.proofs.Common.{◌≡◌, true, false, ◌+◌, ◌-◌, ◌∙◌, sym, ap, arith}
use Rattle.aff_format.specs.Bytes.{same_bytes}
use Rattle.aff_format.proofs.StdLaws.{lowest_met, lowest_past, lowest_none}
use Rattle.aff_reader.specs.Opened.{of}
use Rattle.aff_reader.proofs.BelongsLaws.{belongs_record}
use Rattle.aff_nodes.specs.Recall.{path_at}
use Rattle.aff_read.specs.Paths.{found}
use Rattle.aff_read.specs.passes.Settled.{settled_by}
use Rattle.aff_read.proofs.FitLaws.{settled_first}
use Rattle.aff_read.proofs.paths.lowest_match.Goals as goal

pub loop-k-init : goal.loop-k-init
unfolding found
loop-k-init c =
    let o = c.args.belonging.now.opened in
    let b = belongs_record c.args.belonging.now.belongs in
    let none = c.default-fits.ensures in (
      settled_first o.image.now o.reader o.strings.now o.entries.now c.args.path.now 2049 (omega (arith, b.few_nodes)) _ _
          (sym none.1 ∙ ap settled_by none.2) c.new.ensures,
      grind arith,
    )

pub returns-then-has_path : goal.returns-then-has_path
returns-then-has_path c =
    let o = c.args.belonging.now.opened in
    let yes : same_bytes (of o path_at c.loop-k.k) c.args.path.now ≡ true = cc in
    let met = lowest_met (λ j. same_bytes (of o path_at j) c.args.path.now) (o.reader.nodes + 1 - c.loop-k.k) c.loop-k.k (omega arith) yes in
    cc (met, c.loop-k.invariant.1)

pub loop-k-preserved : goal.loop-k-preserved
loop-k-preserved c =
    let o = c.args.belonging.now.opened in
    let k = c.loop-k.k in
    let no : same_bytes (of o path_at k) c.args.path.now ≡ false = cc in
    (c.has_path.ensures.settled, sym (lowest_past _ _ (o.reader.nodes + 1 - (k + 1)) k (omega arith) no) ∙ c.loop-k.invariant.1)

pub returns-else-has_path : goal.returns-else-has_path
returns-else-has_path c =
    let o = c.args.belonging.now.opened in
    let k = c.loop-k.k in
    let no : same_bytes (of o path_at k) c.args.path.now ≡ false = cc in
    sym (lowest_none _ 0 (k + 1) (omega arith)) ∙ sym (lowest_past _ (o.reader.nodes + 1 - k) 0 k (omega arith) no) ∙ c.loop-k.invariant.1
