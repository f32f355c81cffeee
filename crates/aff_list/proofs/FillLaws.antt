-- A block that is filled with line after line: what is filled and the lines that are left are the lines from the first on, and what is not filled
-- stays. Assumes nothing.
use mathlib.Core.Path.{◌≡◌, sym, ap, ◌∙◌}
use mathlib.Core.List.{List, [], ◌∷◌, ◌++◌, append_assoc}
use mathlib.Core.Logic.{⊎_elim}
use Prim.Native.Nat.{ℕ, ◌+◌, ◌≤◌, ◌<◌}
use native.Mathlib.Numerals.{add-one}
use native.Mathlib.Omega.{arith}
use lib.ListN.{length, get_or, take, drop, length-append}
use lib.Seq.{drop-cons, drop-drop, take_at, length-take-le}
use borrow.Author.Tests.{ltb-false}
use Rattle.aff_format.specs.Bytes.{spliced}
use Rattle.aff_format.proofs.BytesLaws.{length_spliced, drop_spliced}
use Rattle.aff_format.proofs.LowestLaws.{none_holds}
use Rattle.aff_reader.specs.declared.reader.Reader.{Reader}
use Rattle.aff_tables.proofs.OrderLaws.{split}
use Rattle.aff_list.specs.Line.{line_at, decimal, kind_word}
use Rattle.aff_nodes.specs.Recall.{kind_at, count_at, path_at}
use Rattle.aff_list.proofs.LineBytesLaws.{line_path_length}
use Rattle.aff_list.proofs.LineLaws.{tail_length}
use Rattle.aff_read.specs.Paths.{spelled_path_at}
use Rattle.aff_spelling.specs.declared.spelling.Spelling.TheVariants.{Escaped}
use Rattle.aff_list.specs.Lister.{path_limit, row_limit, path_too_long, row, rows, rows_from, Ready, Fills}
use Rattle.aff_list.specs.passes.Block.{end_after, put_after}
use Rattle.aff_list.proofs.RowLaws.{after_stays, after_put}

-- Text put after the first bytes of a block ends where those and the text are.
taken_after : (used : ℕ) (text l : List ℕ) → used ≤ length l → take (used + length text) (spliced used text l) ≡ take used l ++ text
unfolding spliced
taken_after used text l h =
    ap (take (used + length text)) (sym (append_assoc (take used l) text (drop (used + length text) l)))
    ∙ take_at (take used l ++ text) _ (used + length text) (length-append (take used l) text ∙ ap (λ (n : ℕ). n + length text) (length-take-le used l h))

-- The lines from place `from` on were put into a block, up to place `next`.
pub record Filling (image : List ℕ) (reader : Reader) (strings entries order : List ℕ) (from : ℕ) (block₀ block : List ℕ) (next used : ℕ) : Type 0 where
  pub least : from ≤ next
  pub most : next ≤ length order
  pub inside : used ≤ length block
  pub text : rows_from image reader strings entries order from ≡ take used block ++ rows_from image reader strings entries order next
  pub sized : length block ≡ length block₀
  pub stays : drop used block ≡ drop used block₀
  pub first : next ≤ from → used ≡ 0

module _ {image : List ℕ} {reader : Reader} {strings entries order : List ℕ} (ready : Ready image reader strings entries order) where
  abbrev row_of : ℕ → List ℕ
  row_of = row image reader strings entries

  abbrev rest : ℕ → List ℕ
  rest = rows_from image reader strings entries order

  rest_next : (k n : ℕ) → k < length order → n ≡ get_or order k 0 → rest k ≡ row_of n ++ rest (k + 1)
  unfolding rows
  rest_next k n h is = ap (rows image reader strings entries) (drop-cons order k 0 h) ∙ rw (is, add-one k)

  row_length : (n : ℕ) → length (row_of n) ≡ length (line_at image reader strings entries n) + 1
  unfolding row
  row_length n = length-append (line_at image reader strings entries n) (10 ∷ [])

  row_small : (k n : ℕ) → k < length order → n ≡ get_or order k 0 → length (row_of n) ≤ row_limit
  unfolding path_too_long line_at
  row_small k n h is =
      let path = path_at image reader strings entries n in
      let written = spelled_path_at Escaped image reader strings entries n in
      let fits = none_holds (λ i. path_too_long image reader strings entries (get_or order i 0)) (length order) 0 ready.fits k (omega arith) (omega arith) in
      let short : length path ≤ path_limit = ltb-false path_limit (length path) (rw is fits) in
      omega (arith, row_length n, length-append written (32 ∷ (kind_word (kind_at image entries n) ++ (32 ∷ decimal 10 (count_at image entries n)))), tail_length (kind_at image entries n) (count_at image entries n), short, line_path_length image reader strings entries n)

  module _ {from : ℕ} {o : List ℕ} (some : from ≤ length order) where
    module _ {block : List ℕ} {next used : ℕ} (v : Filling image reader strings entries order from o block next used) where
      module _ (h : next < length order) {n end : ℕ} {p : List ℕ} (is : n ≡ get_or order next 0)
          (ends : end ≡ end_after used (row_of n) block) (puts : p ≡ put_after used (row_of n) block) where
        pub filled_full : row_limit ≤ length o → end ≡ used → Fills image reader strings entries order from next used o p
        filled_full size e =
            let kept = after_stays used (row_of n) block ends puts (omega (arith, row_length n)) e in
            record {
              more = λ r. ⊎_elim (λ q. q) (λ (q : next ≤ from). absurd (omega (arith, kept.0, v.first q, v.sized, row_small next n h is))) (split from next);
              most = v.most;
              inside = rw kept.1 v.inside;
              text = rw kept.1 v.text;
              stays = rw kept.1 v.stays;
              full = λ q. rw (sym is, kept.1) kept.0;
            }

        pub filling_next : (end ≡ used → ⊥) → Filling image reader strings entries order from o p (next + 1) end
        filling_next other =
            let (fits, at, area) = after_put used (row_of n) block ends puts other in
            let taken : take end p ≡ take used block ++ row_of n = rw (area, at) (taken_after used (row_of n) block v.inside) in
            let long : length p ≡ length block = ap length area ∙ length_spliced used (row_of n) block fits in
            record {
              least = omega (arith, v.least);
              most = omega arith;
              inside = omega (arith, fits, at, long);
              text =
                  v.text ∙ ap (λ (l : List ℕ). take used block ++ l) (rest_next next n h is)
                  ∙ sym (append_assoc (take used block) (row_of n) (rest (next + 1)))
                  ∙ ap (λ (l : List ℕ). l ++ rest (next + 1)) (sym taken);
              sized = long ∙ v.sized;
              stays =
                  rw (area, at) (drop_spliced used (row_of n) block fits
                  ∙ sym (drop-drop (length (row_of n)) used block) ∙ ap (drop (length (row_of n))) v.stays ∙ drop-drop (length (row_of n)) used o);
              first = λ g. absurd (omega (arith, v.least));
            }
