-- A node's line in the terms of the passes that write it: type words, the text after the path, and a path with a text after it. Assumes nothing.
use mathlib.Core.Path.{◌≡◌, refl, sym, ap, ◌∙◌}
use mathlib.Core.Bool.{Bool, true, false}
use mathlib.Core.List.{List, [], ◌∷◌, ◌++◌, append_assoc}
use Prim.Native.Nat.{ℕ, zero, suc, ◌+◌, ◌*◌, ◌≤◌}
use native.Mathlib.Nat.{zero-add}
use native.Mathlib.Omega.{arith}
use borrow.Author.Tests.{le-ltb}
use lib.ListN.{length, take, drop, length-append, take-append-drop}
use lib.Seq.{length-take-le, drop-append-le}
use Rattle.aff_format.specs.Answer.{Answer, accepted}
use Rattle.aff_format.specs.Bytes.{spliced}
use Rattle.aff_format.specs.declared.entry.Entry.{Entry}
use Rattle.aff_format.specs.Kind.{element_size, is_void}
use Rattle.aff_format.specs.Limits.{image_limit}
use Rattle.aff_format.specs.declared.kind.Kind.{Kind}
use Rattle.aff_format.specs.declared.kind.Kind.TheVariants.{Void, Char, Int, Double, Complex}
use Rattle.aff_format.proofs.ClimbLaws.{absurd_bool}
use Rattle.aff_reader.specs.Belongs.{ReaderBelongs}
use Rattle.aff_format.specs.Recorded.{recorded_entry}
use Rattle.aff_reader.specs.declared.reader.Reader.{Reader}
use Rattle.aff_read.specs.Paths.{spelled_path_at, front_written}
use Rattle.aff_spelling.specs.declared.spelling.Spelling.TheVariants.{Escaped}
use Rattle.aff_nodes.specs.Recall.{kind_at, count_at}
use Rattle.aff_format.specs.passes.Written.{Written, text_answer}
use Rattle.aff_nodes.proofs.ElementLaws.{void_count}
use Rattle.aff_nodes.proofs.SpanLaws.{data_ends}
use Rattle.aff_format.proofs.WrittenLaws.{written_length, written_more, written_front, written_taken, text_accepted}
use Rattle.aff_list.specs.Line.{kind_word, decimal, line_at}
use Rattle.aff_list.proofs.DigitLaws.{length_decimal, decimal_whole}

-- A count has at most ten digits.
module _ {image : List ℕ} {reader : Reader} {strings entries : List ℕ} (b : ReaderBelongs image reader strings entries) (node : ℕ) (there : node ≤ reader.nodes) where
  count_small : count_at image entries node ≤ image_limit
  count_small = go (is_void (kind_at image entries node)) refl
    where
      full : (k : Kind) (p n : ℕ) → is_void k ≡ false → p + n * element_size k ≤ length image → n ≤ image_limit
      full Void p n v h = absurd_bool (sym v)
      full Char p n v h = omega (arith, b.length_recorded, b.length_allowed)
      full Int p n v h = omega (arith, b.length_recorded, b.length_allowed)
      full Double p n v h = omega (arith, b.length_recorded, b.length_allowed)
      full Complex p n v h = omega (arith, b.length_recorded, b.length_allowed)

      go : (v : Bool) → is_void (kind_at image entries node) ≡ v → count_at image entries node ≤ image_limit
      go true v = omega (arith, void_count b node there v)
      go false v = full (kind_at image entries node) (recorded_entry image entries node).offset (count_at image entries node) v (data_ends b node there v)

  pub count_digits : (most : ℕ) → 10 ≤ most → decimal most (count_at image entries node) ≡ decimal 10 (count_at image entries node)
  count_digits zero h = absurd (omega arith)
  count_digits (suc most) h = decimal_whole 9 most (count_at image entries node) (omega arith) (omega (arith, count_small))

-- ---- Type words.

pub word_length : (k : Kind) → length (32 ∷ (kind_word k ++ (32 ∷ []))) ≤ 9
word_length Void = omega arith
word_length Char = omega arith
word_length Int = omega arith
word_length Double = omega arith
word_length Complex = omega arith

pub word_before : (k : Kind) (l : List ℕ) → (32 ∷ (kind_word k ++ (32 ∷ []))) ++ l ≡ 32 ∷ (kind_word k ++ (32 ∷ l))
word_before Void l = refl
word_before Char l = refl
word_before Int l = refl
word_before Double l = refl
word_before Complex l = refl

-- ---- A line.

pub tail_length : (k : Kind) (n : ℕ) → length (32 ∷ (kind_word k ++ (32 ∷ decimal 10 n))) ≤ 19
tail_length k n =
    let w : List ℕ = 32 ∷ (kind_word k ++ (32 ∷ [])) in
    omega (arith, ap length (word_before k (decimal 10 n)), length-append w (decimal 10 n), word_length k, length_decimal 10 n)

pub line_is : (image : List ℕ) (reader : Reader) (strings entries : List ℕ) (node : ℕ) (e : Entry) {o p : List ℕ} {end : ℕ} → e ≡ recorded_entry image entries node
    → Written 0 (32 ∷ (kind_word e.kind ++ (32 ∷ decimal 10 e.count))) o p end
    → spelled_path_at Escaped image reader strings entries node ++ take end p ≡ line_at image reader strings entries node
unfolding line_at
line_is image reader strings entries node e is w = rw (written_taken w, is)

-- ---- A path and a text after it.

-- The path was written, or refused, in the part of the output that the text leaves of the output: the answer, and what that buffer holds then.
pub record PathFirst (path text o : List ℕ) (size : ℕ) (r : Answer ℕ) (q : List ℕ) : Type 0 where
  pub left : size + length text ≡ length o
  pub answer : r ≡ text_answer (length (take size o)) path
  pub output : q ≡ front_written r path (take size o)

module _ {path text o : List ℕ} {size : ℕ} {r : Answer ℕ} {q : List ℕ} (first : PathFirst path text o size r q) where
  size_is : length (take size o) ≡ size
  size_is = length-take-le size o (omega (arith, first.left))

  output_by : {a : Answer ℕ} → r ≡ a → q ≡ front_written a path (take size o)
  output_by e = first.output ∙ ap (λ (a : Answer ℕ). front_written a path (take size o)) e

  module _ {n : ℕ} (e : r ≡ accepted n) where
    accepted_fits : (n ≡ length path) × (length path ≤ size)
    accepted_fits = let f = text_accepted (length (take size o)) path (sym first.answer ∙ e) in (f.0, omega (arith, f.1, size_is))

    after_path : Written 0 path o (q ++ drop size o) n
    unfolding spliced
    after_path =
        record {
          ends = omega (arith, accepted_fits.0);
          area =
              let h : length path ≤ length (take size o) = omega (arith, accepted_fits.1, size_is) in
              ap (λ (l : List ℕ). l ++ drop size o) (output_by e)
              ∙ append_assoc path (drop (length path) (take size o)) (drop size o)
              ∙ ap (λ (l : List ℕ). path ++ l)
              (sym (drop-append-le (length path) (take size o) (drop size o) h)
              ∙ ap (drop (length path)) (take-append-drop size o)
              ∙ ap (λ (k : ℕ). drop k o) (sym (zero-add (length path))));
        }

    path_fits : 0 + length path ≤ length o
    path_fits = omega (arith, accepted_fits.1, first.left)

    pub text_fits : n + length text ≤ length (q ++ drop size o)
    text_fits = omega (arith, accepted_fits, first.left, written_length after_path path_fits)

    pub after_written : {end : ℕ} {p : List ℕ} → Written n text (q ++ drop size o) p end
        → (accepted end ≡ text_answer (length o) (path ++ text))
        × (p ≡ (path ++ text) ++ drop (length (path ++ text)) o)
    after_written w =
        let f = written_front (written_more after_path path_fits w) in
        let l : length (path ++ text) ≤ length o = simp length-append (omega (arith, accepted_fits.1, first.left)) in
        (ap accepted f.0 ∙ rw (le-ltb (length o) (length (path ++ text)) l), f.1)
