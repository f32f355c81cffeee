-- The root's path is a slash; another's is its front, written from the table of its climb.
use Rattle.std.proofs.Common.{◌≡◌, Some, [], ◌∷◌, arith}
use borrow.Author.Tests.{eq-eqb}
use Rattle.aff_format.proofs.WrittenLaws.{written_same, text_written}
use Rattle.aff_reader.proofs.BelongsLaws.{belongs_record}
use Rattle.aff_reader.specs.Opened.{of}
use Rattle.aff_read.specs.Paths.{spelled_path_at}
use Rattle.aff_read.proofs.ClimbLaws.{zeros_inside, noted_path}
use Rattle.aff_read.proofs.FrontLaws.{counted_fits}
use Rattle.aff_read.proofs.paths.path_of.Goals as goal

pub returns-then-node-eq0 : goal.returns-then-node-eq0
returns-then-node-eq0 c =
    let few : c.path_length.result ≡ Some c.in_ok-ok_or.field-0 = cc (c.in_ok-ok_or.was) in
    let a = c.args in
    let root : 47 ∷ [] ≡ of a.belonging.now.opened (spelled_path_at a.spelling) a.node = rw (eq-eqb a.node 0 c.if-node-eq0.true) in
    let w = text_written (counted_fits few c.path_length.ensures) (written_same root c.put_run.ensures) in
    record { answer = w.0; output = w.1 }

pub note_climb-requires-clause-table_inside : goal.note_climb-requires-clause-table_inside
note_climb-requires-clause-table_inside c = zeros_inside c.args.belonging.now.opened.image.now _ c.default-table.ensures 2049

pub write_front-requires-clause-node_exists : goal.write_front-requires-clause-node_exists
write_front-requires-clause-node_exists c = let b = belongs_record c.args.belonging.now.belongs in omega (arith, b.few_nodes)

pub write_front-requires-clause-front_fits : goal.write_front-requires-clause-front_fits
write_front-requires-clause-front_fits c =
    let few : c.path_length.result ≡ Some c.in_ok-ok_or.field-0 = cc (c.in_ok-ok_or.was) in
    rw (noted_path c.note_climb.ensures c.if-node-eq0.false c.args.spelling) (counted_fits few c.path_length.ensures)

pub returns : goal.returns
returns c =
    let few : c.path_length.result ≡ Some c.in_ok-ok_or.field-0 = cc (c.in_ok-ok_or.was) in
    let front = noted_path c.note_climb.ensures c.if-node-eq0.false c.args.spelling in
    let w = text_written (counted_fits few c.path_length.ensures) (written_same front c.write_front.ensures) in
    record { answer = w.0; output = w.1 }
