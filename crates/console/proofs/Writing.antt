-- What a writer's known bytes gain by writes after one another.
use Rattle.std.proofs.Common.{Option, ℕ, ◌+◌, ◌-◌, List, ◌++◌, sym, subst, length, take, drop, length-append, arith}
use Rattle.std.proofs.lemmas.List.{take-append-le, take_rest}
use Rattle.std.proofs.Math.Seq.{take-add, take-append-add}
use Rattle.std.proofs.KnownBytes.{Appends-trans}
use Rattle.std.specs.Io.KnownBytes.{Appends}
use Rattle.console.specs.Part.{AppendsPart}

-- After the first `at` bytes, n more of the rest.
pub written_on : (a b c : Option (List ℕ)) (at n : ℕ) (bytes : List ℕ) → Appends a b (take at bytes)
    → Appends b c (take n (take (length bytes - at) (drop at bytes))) → Appends a c (take (at + n) bytes)
written_on a b c at n bytes p q =
    subst (Appends a c) (sym (take-add at n bytes)) (Appends-trans a b c _ _ p (subst (λ l. Appends b c (take n l)) (take_rest bytes at) q))

-- A part of a text is a part of each longer text that begins with it.
pub part_longer : (a b : Option (List ℕ)) (text more : List ℕ) → AppendsPart a b text → AppendsPart a b (text ++ more)
part_longer a b text more f =
    (f.0, omega (arith, f.1, length-append text more), subst (Appends a b) (sym (take-append-le f.0 text more (omega (arith, f.1)))) f.2)

-- After some bytes, a part of what is left.
pub part_on : (a b c : Option (List ℕ)) (bytes text : List ℕ) → Appends a b bytes → AppendsPart b c text → AppendsPart a c (bytes ++ text)
part_on a b c bytes text p f = (
  length bytes + f.0,
  omega (arith, f.1, length-append bytes text),
  subst (Appends a c) (sym (take-append-add bytes text f.0)) (Appends-trans a b c bytes (take f.0 text) p f.2),
)
