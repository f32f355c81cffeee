-- 20 was asked, so that slot and name have room; a name is new where its string is the next.
use Rattle.std.proofs.Common.{arith}
use Rattle.aff_make.proofs.MakeLaws.{added_new, not_many}
use Rattle.aff_make.proofs.making.add_child.Goals as goal

pub put_slot-requires : goal.put_slot-requires
put_slot-requires c =
    record { above_root = omega arith; in_limit = (not_many _ _ _ c.requires.has_room).0; tree_area_is = c.requires.belongs.tree_area_is }

pub with_child-requires : goal.with_child-requires
with_child-requires c =
    let b = c.requires.belongs in
    let n = not_many _ _ _ c.requires.has_room in
    record { few_nodes = omega (arith, n.0); strings_fit = omega (arith, b.few_strings); text_fits = omega (arith, b.text_inside) }

pub put_name-requires : goal.put_name-requires
put_name-requires c =
    let r = c.requires in
    let n = not_many _ _ _ r.has_room in
    let new = added_new c.args.writer.now c.args.text.now c.args.name.now _ r.numbered r.belongs.text_strings c.if-string-writer.false in
    omega (arith, n.2, new, r.belongs.text_area_is)

pub with_child-requires-2 : goal.with_child-requires-2
with_child-requires-2 c =
    let r = c.requires in
    let n = not_many _ _ _ r.has_room in
    let new = added_new c.args.writer.now c.args.text.now c.args.name.now _ r.numbered r.belongs.text_strings c.if-string-writer.false in
    record { few_nodes = omega (arith, n.0); strings_fit = omega (arith, r.belongs.few_strings); text_fits = omega (arith, n.2, new) }
