use Rattle.std.proofs.Common.{length, rules, ap, arith, ◌∙◌, ◌<◌}
use Rattle.aff_areas.proofs.NameLaws.{mark_inside, mark_next}
use Rattle.aff_areas.proofs.names.mark_strings.Goals as goal

pub after-rest-requires : goal.after-rest-requires
after-rest-requires c =
    let some : 0 < length c.loop-rest.rest.now = search rules in
    omega (arith, mark_inside c.loop-rest.invariant some, ap length c.until_zero-string.ensures)

pub loop-rest-preserved : goal.loop-rest-preserved
loop-rest-preserved c =
    let some : 0 < length c.loop-rest.rest.now = search rules in
    rw (c.after-rest.ensures, c.until_zero-string.ensures)
    (mark_next c.loop-rest.invariant some c.requires.has_room (c.mark.ensures ∙ rw c.until_zero-string.ensures))
