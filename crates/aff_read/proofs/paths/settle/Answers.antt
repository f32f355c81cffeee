-- The steps that are left are a chain, and the last of them goes by the fit of its parent.
use Rattle.std.proofs.Common.{rules, ◌≡◌, ◌∙◌, length, take, sym, ap, arith}
use Rattle.std.proofs.lemmas.List.{length-take-le}
use Rattle.aff_nodes.specs.Recall.{parent_at}
use Rattle.aff_reader.specs.Opened.{of}
use Rattle.aff_reader.proofs.BelongsLaws.{belongs_record}
use Rattle.aff_read.specs.passes.Fit.{fit_at, above_at}
use Rattle.aff_read.proofs.FitLaws.{fit_inside}
use Rattle.aff_read.proofs.ChainLaws.{chain_front, left_all, step_node, step_exists, step_other, step_string, step_parent, left_next, above_none}
use Rattle.aff_read.proofs.paths.settle.Goals as goal

pub loop-step-init : goal.loop-step-init
loop-step-init c =
    let o = c.args.belonging.now.opened in
    let b = belongs_record c.args.belonging.now.belongs in
    let s = c.requires.fits_settled in
    let chain = c.climb-count.ensures.chain in
    let steps = c.into_iter-step-iterator.result.iter.rest.now in
    let front : steps ≡ take c.climb-count.result.0 c.climb-count.new.steps =
    rw (c.into_iter-step-iterator.ensures.into_iter_gives, c.rev-step-items.ensures.source) c.iter.ensures.rest in
    let all : length steps ≡ c.climb-count.result.0 =
    ap length front ∙ length-take-le c.climb-count.result.0 c.climb-count.new.steps (omega (arith, chain.few, b.few_nodes, c.climb-count.array_long)) in
    record {
      settled = s;
      chain = chain_front chain front all;
      left = left_all steps;
      fit = s.reported _ _ (chain.exist _ (omega arith)) c.climb-count.ensures.fit
          ∙ ap (λ j. of o fit_at c.args.path.now (of o above_at j c.args.node)) (sym all);
    }

pub fit_below-fit-requires : goal.fit_below-fit-requires
fit_below-fit-requires c =
    let i = c.loop-step.invariant in
    let last = c.in-Some.ensures.steps in
    record {
      node_exists = step_exists i.chain i.left _ _ last;
      other = step_other i.chain i.left _ _ last;
      string_value = step_string i.chain i.left _ _ last;
      above_value = i.fit ∙ ap (of c.args.belonging.now.opened fit_at c.args.path.now) (step_parent i.chain i.left _ _ last);
    }

pub new-requires : goal.new-requires
new-requires c =
    let o = c.args.belonging.now.opened in
    fit_inside o.image.now o.reader o.strings.now o.entries.now c.args.path.now _ _ c.fit_below-fit.ensures _ (omega arith)

pub loop-step-preserved : goal.loop-step-preserved
loop-step-preserved c =
    let i = c.loop-step.invariant in
    let last = c.in-Some.ensures.steps in
    let fit = c.fit_below-fit.ensures in
    record {
      settled = let there = step_exists i.chain i.left _ _ last in rw c.new.ensures (search rules);
      chain = i.chain;
      left = left_next i.chain i.left _ _ last;
      fit = fit ∙ ap (of c.args.belonging.now.opened fit_at c.args.path.now) (step_node i.chain i.left _ _ last);
    }

pub returns-clause-fit : goal.returns-clause-fit
returns-clause-fit c =
    let o = c.args.belonging.now.opened in
    let none = c.in-None.ensures.steps.0 in
    c.loop-step.invariant.fit ∙ ap (of o fit_at c.args.path.now) (above_none (parent_at o.image.now o.entries.now) _ c.args.node (omega arith))
