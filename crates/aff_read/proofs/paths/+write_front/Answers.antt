-- The front of the parent by the call itself, then slash and name after it.
use Rattle.std.proofs.Common.{refl, arith}
use Rattle.aff_format.proofs.WrittenLaws.{written_none, first_fits, other_fits, both_written}
use Rattle.aff_read.proofs.FrontLaws.{front_empty, front_parted}
use Rattle.aff_read.proofs.paths.+write_front.Goals as goal

pub returns-then-left-eq0 : goal.returns-then-left-eq0
returns-then-left-eq0 t c = written_none _ _ _ (front_empty _ _ _ _ c.then-left-eq0.either)

pub write_front-at-requires : goal.write_front-at-requires
write_front-at-requires t c =
    let parts = front_parted _ _ _ _ _ refl c.if-left-eq0.false c.if-node-eq0.false c.args.out.now c.requires.front_fits in
    (omega arith, (c.requires.table_inside, ((c.requires.table_inside c.args.node).parent, first_fits parts)))

pub put_own-requires-clause-name_fits : goal.put_own-requires-clause-name_fits
put_own-requires-clause-name_fits t c =
    other_fits (front_parted _ _ _ _ _ refl c.if-left-eq0.false c.if-node-eq0.false c.args.out.now c.requires.front_fits)
    c.write_front-at.ensures c.write_front-at.auto.out

pub returns : goal.returns
returns t c =
    both_written (front_parted _ _ _ _ _ refl c.if-left-eq0.false c.if-node-eq0.false c.args.out.now c.requires.front_fits)
    c.write_front-at.ensures c.put_own.ensures
