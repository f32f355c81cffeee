-- What a reader's known bytes lose by one read after others.
use Rattle.std.proofs.Common.{Option, ◌≡◌, ℕ, ◌+◌, ◌≤◌, List, ◌++◌, sym, ap, ◌∙◌, subst, length, take, length-append, length-take-le, arith}
use Rattle.std.proofs.lemmas.List.{take-append-le}
use Rattle.std.proofs.Math.Seq.{take-append-add}
use Rattle.std.proofs.KnownBytes.{Consumes-trans}
use Rattle.std.specs.Io.KnownBytes.{Consumes}
use Rattle.console.specs.Part.{ConsumesPart, ConsumesAtMost}
use borrow.Rule.Slice.PartMut.{put_mid, post_of}

filled : (at k n : ℕ) (area part : List ℕ) → at ≤ length area → n ≤ length part → take at area ++ take n part ≡ take (at + n) (put_mid at k area part)
filled at k n area part inside fits =
    let front = take at area in
    let rest = post_of at k area in
    ap (λ l. front ++ l) (sym (take-append-le n part rest fits)) ∙ sym (take-append-add front (part ++ rest) n)
    ∙ ap (λ m. take (m + n) (front ++ (part ++ rest))) (length-take-le at area inside)

-- After bytes in the first `at` places, n more that a read puts into the part behind them.
pub read_on : (a b c : Option (List ℕ)) (at k n : ℕ) (area part : List ℕ) → at ≤ length area → n ≤ length part → Consumes a b (take at area)
    → Consumes b c (take n part) → Consumes a c (take (at + n) (put_mid at k area part))
read_on a b c at k n area part inside fits p q = subst (Consumes a c) (filled at k n area part inside fits) (Consumes-trans a b c _ _ p q)

-- What a reader lost by a read that failed after one that did not.
pub lost_on : (a b c : Option (List ℕ)) (room : ℕ) (front part : List ℕ) → length front ≤ 4 → length part ≤ room → Consumes a b front
    → ConsumesPart b c part → ConsumesAtMost a c (4 + room)
lost_on a b c room front part short fits p lost =
    let more = take lost.0 part in
    (front ++ more, omega (arith, length-append front more, length-take-le lost.0 part lost.1), Consumes-trans a b c front more p lost.2)
