use Rattle.std.proofs.Common.{◌≡◌, ◌+◌, ◌-◌, ◌∙◌, length, List, ℕ, arith}
use Rattle.aff_format.specs.Bytes.{part}
use Rattle.aff_format.specs.Number.{be_of}
use Rattle.aff_format.proofs.BytesLaws.{length_part}
use Rattle.aff_format.proofs.NumberLaws.{be_of_part_bound}
use Rattle.aff_format.proofs.StdLaws.{be_padded}
use Rattle.aff_format.proofs.number.be.Goals as goal

pub returns : goal.returns
returns g c =
    let n = g.row.N in
    let at = c.args.at in
    let l : List ℕ = c.args.bytes.now in
    let e : at + n - at ≡ n = omega arith in
    let k : length (part at n l) ≡ n = length_part at n l c.requires.inside in
    let v : c.from_be_bytes.result ≡ be_of (part at n l) =
    c.from_be_bytes.ensures ∙ be_padded n (part at n l) c.put.new.out c.requires.width k (rw e at c.put.ensures) in
    record { value = v; bound = rw v (be_of_part_bound at n l (λ i. omega (arith, c.type_inv.bytes i)) c.requires.inside) }
