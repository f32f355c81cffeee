-- The invariant: the first of the editions left is the first of all.
use Rattle.std.proofs.Common.{◌≡◌, take, drop}
use Rattle.aff_format.specs.Bytes.{same_bytes}
use Rattle.aff_format.specs.Edition.{editions, first_edition, signature_text}
use Rattle.aff_format.specs.declared.edition.Edition.{Edition}
use Rattle.aff_open.proofs.header.text_edition.Given as goal

abbrev pub invariant-loop-edition : goal.invariant-loop-edition
invariant-loop-edition l =
    let test = λ (e : Edition). same_bytes (take 20 l.image) (signature_text e) in
    first_edition test (drop l.edition-index editions) ≡ first_edition test editions
