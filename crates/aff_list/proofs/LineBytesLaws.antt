-- The bytes of a line: its path is the node's own path, escaped, and printable; so a line has two spaces and no line feed. Assumes nothing.
use mathlib.Core.Path.{◌≡◌, refl, sym, ◌∙◌}
use mathlib.Core.Bool.{Bool, true, false, cond}
use mathlib.Core.List.{List, [], ◌∷◌, ◌++◌}
use Prim.Native.Nat.{ℕ, zero, suc, ◌+◌, ◌*◌, ◌/◌, ◌%◌, ◌≤◌, ◌<◌}
use native.Mathlib.Omega.{arith}
use lib.Dec.{ltb}
use lib.ListN.{length}
use Rattle.aff_format.specs.Bytes.{Octets}
use Rattle.aff_format.specs.declared.kind.Kind.{Kind}
use Rattle.aff_format.specs.declared.kind.Kind.TheVariants.{Void, Char, Int, Double, Complex}
use Rattle.aff_format.proofs.TreeLaws.{path_octets}
use Rattle.aff_reader.specs.declared.reader.Reader.{Reader}
use Rattle.aff_nodes.specs.Recall.{kind_at, count_at, parent_at, name_at, path_at}
use Rattle.aff_nodes.proofs.SpanLaws.{name_octets}
use Rattle.aff_listing.specs.Once.{hit, occurrences}
use Rattle.aff_listing.proofs.OnceLaws.{hit_other, occurrences_append}
use Rattle.aff_read.specs.Paths.{spelled_path_at}
use Rattle.aff_spelling.specs.Spelling.{shown, Printable}
use Rattle.aff_spelling.specs.declared.spelling.Spelling.TheVariants.{Escaped}
use Rattle.aff_spelling.proofs.SpellingLaws.{shown_path, shown_printable, length_shown}
use Rattle.aff_list.specs.Line.{kind_word, decimal, line_at}
use Rattle.aff_list.specs.Lister.{row}

-- A byte below 33 is in no printable text, in no type word but for the space, and in no number.
printable_without : (k : ℕ) → k < 33 → (l : List ℕ) → Printable l → occurrences k l ≡ 0
unfolding occurrences
printable_without k h [] p = refl
printable_without k h (x ∷ l) p =
    let here = p 0 (omega arith) in
    omega (arith, hit_other k x (λ q. omega (arith, here.0)), printable_without k h l (λ i s. p (suc i) (omega arith)))

word_without : (w : Kind) → (occurrences 32 (kind_word w) ≡ 0) × (occurrences 10 (kind_word w) ≡ 0)
unfolding occurrences hit
word_without Void = (refl, refl)
word_without Char = (refl, refl)
word_without Int = (refl, refl)
word_without Double = (refl, refl)
word_without Complex = (refl, refl)

digits_without : (k : ℕ) → k < 33 → (most n : ℕ) → occurrences k (decimal most n) ≡ 0
unfolding decimal occurrences
digits_without k h zero n = refl
digits_without k h (suc most) n = go (ltb n 10) (digits_without k h most (n / 10))
  where
    go : (b : Bool) → occurrences k (decimal most (n / 10)) ≡ 0 → occurrences k (cond b ((48 + n) ∷ []) (decimal most (n / 10) ++ ((48 + n % 10) ∷ []))) ≡ 0
    go true e = omega (arith, hit_other k (48 + n) (λ q. omega arith))
    go false e =
        omega (arith, occurrences_append k (decimal most (n / 10)) ((48 + n % 10) ∷ []), hit_other k (48 + n % 10) (λ q. omega arith))

module _ (image : List ℕ) (reader : Reader) (strings entries : List ℕ) where
  pub line_path : (node : ℕ) → spelled_path_at Escaped image reader strings entries node ≡ shown (path_at image reader strings entries node)
  line_path node = sym (shown_path (parent_at image entries) (name_at image reader strings entries) reader.nodes node)

  -- Four bytes at most are printed for a byte of the path.
  pub line_path_length : (node : ℕ) → length (spelled_path_at Escaped image reader strings entries node) ≤ 4 * length (path_at image reader strings entries node)
  line_path_length node = rw (line_path node) (length_shown (path_at image reader strings entries node)).1

  module _ (o : Octets image) (node : ℕ) where
    pub path_printable : Printable (spelled_path_at Escaped image reader strings entries node)
    path_printable =
        rw (line_path node)
        (shown_printable (path_at image reader strings entries node)
        (path_octets (parent_at image entries) (name_at image reader strings entries) (name_octets image reader strings entries o) reader.nodes node))

    -- How often a byte below 33 is in a line.
    line_count : (k : ℕ) → k < 33 → occurrences k (kind_word (kind_at image entries node)) ≡ 0 → occurrences k (line_at image reader strings entries node) ≡ hit k 32 + hit k 32
    unfolding line_at occurrences
    line_count k h w =
        let path = spelled_path_at Escaped image reader strings entries node in
        let word = kind_word (kind_at image entries node) in
        let digits = decimal 10 (count_at image entries node) in
        omega (
          arith,
          occurrences_append k path (32 ∷ (word ++ (32 ∷ digits))),
          occurrences_append k word (32 ∷ digits),
          printable_without k h path path_printable,
          digits_without k h 10 (count_at image entries node),
        )

    pub line_spaces : occurrences 32 (line_at image reader strings entries node) ≡ 2
    unfolding hit
    line_spaces = line_count 32 (omega arith) (word_without (kind_at image entries node)).0

    pub line_feeds : occurrences 10 (line_at image reader strings entries node) ≡ 0
    unfolding hit
    line_feeds = line_count 10 (omega arith) (word_without (kind_at image entries node)).1

    pub row_bytes : (occurrences 32 (row image reader strings entries node) ≡ 2) × (occurrences 10 (row image reader strings entries node) ≡ 1)
    unfolding row occurrences hit
    row_bytes =
        let line = line_at image reader strings entries node in
        (occurrences_append 32 line (10 ∷ []) ∙ omega (arith, line_spaces), occurrences_append 10 line (10 ∷ []) ∙ omega (arith, line_feeds))
