-- Two of the RFC's examples (section A.5), computed from the definition. Assumes nothing.
use Rattle.std.proofs.Common.{◌≡◌, [], ◌∷◌, refl}
use Rattle.aff_md5.specs.Md5.{le, padding, pad, word_order, shifts, additive, turn, step, steps, compress, blocks, output, md5}

-- of no bytes
empty :
    md5 [] ≡ 0xd4 ∷ 0x1d ∷ 0x8c ∷ 0xd9 ∷ 0x8f ∷ 0x00 ∷ 0xb2 ∷ 0x04 ∷ 0xe9 ∷ 0x80 ∷ 0x09 ∷ 0x98 ∷ 0xec ∷ 0xf8 ∷ 0x42 ∷ 0x7e ∷ []
unfolding le padding pad word_order shifts additive turn step steps compress blocks output md5
empty = refl

-- of "abc"
abc :
    md5 (97 ∷ 98 ∷ 99 ∷ [])
    ≡ 0x90 ∷ 0x01 ∷ 0x50 ∷ 0x98 ∷ 0x3c ∷ 0xd2 ∷ 0x4f ∷ 0xb0 ∷ 0xd6 ∷ 0x96 ∷ 0x3f ∷ 0x7d ∷ 0x28 ∷ 0xe1 ∷ 0x7f ∷ 0x72 ∷ []
unfolding le padding pad word_order shifts additive turn step steps compress blocks output md5
abc = refl
