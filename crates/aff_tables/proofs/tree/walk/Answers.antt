-- One entry more, or the end.
use Rattle.std.proofs.Common.{◌≡◌, ℕ, length, drop, sym, ap, ◌∙◌, arith}
use Rattle.aff_tables.specs.passes.Results.{walk_of}
use Rattle.aff_tables.proofs.WalkLaws.{walk_on, over_broken, walk_buffer, walk_over}
use Rattle.aff_tables.proofs.tree.walk.Goals as goal

pub loop-n-preserved : goal.loop-n-preserved
loop-n-preserved c = rw c.entry_size-at.ensures (walk_on c.loop-n.invariant c.in-Some.found (sym c.entry_at.ensures ∙ c.in-Some.is) (omega arith))

pub returns-in_default : goal.returns-in_default
returns-in_default c =
    let i = c.loop-n.invariant in
    let w = walk_over i (over_broken _ _ (sym c.entry_at.ensures ∙ c.in_default.is)) in
    record { value = c.ended.ensures ∙ w.0; places_after = w.1 }

pub returns : goal.returns
returns c =
    let i = c.loop-n.invariant in
    let e : length c.loop-n.places ≡ c.loop-n.n = omega arith in
    let w = walk_over i (walk_buffer i (omega arith)) in
    record { value = c.ended-2.ensures ∙ ap (λ (k : ℕ). walk_of k (drop c.loop-n.at c.args.section.now)) e ∙ w.0; places_after = w.1 }
