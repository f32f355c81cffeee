-- A line and its line feed put after the first bytes of a block. Assumes nothing.
use mathlib.Core.Path.{◌≡◌, refl, sym, ap, ◌∙◌}
use mathlib.Core.Bool.{Bool, true, false}
use mathlib.Core.List.{List, [], ◌∷◌, ◌++◌, append_assoc}
use Prim.Native.Nat.{ℕ, ◌+◌, ◌-◌, ◌≤◌, ◌<◌}
use native.Mathlib.Omega.{arith}
use lib.Dec.{leb}
use lib.ListN.{length, take, drop, set, length-append, take-append-drop}
use lib.Seq.{drop-append-le, drop-drop}
use borrow.Author.Tests.{leb-true, leb-false, le-leb, lt-leb}
use borrow.Rule.Slice.PartMut.{mid_of, put_mid, put_same, mid_len}
use Rattle.aff_format.specs.Answer.{Answer, accepted, refused}
use Rattle.aff_format.specs.Bytes.{spliced}
use Rattle.aff_format.specs.declared.refusal.RefusalCode.{RefusalCode}
use Rattle.aff_format.proofs.BytesLaws.{length_spliced, set_spliced, spliced_more}
use Rattle.aff_read.specs.Paths.{front_written}
use Rattle.aff_format.specs.passes.Written.{text_answer}
use Rattle.aff_format.proofs.WrittenLaws.{text_accepted, text_refused}
use Rattle.aff_list.specs.passes.Block.{end_after, put_after}

-- Text that fits, and text that does not.
pub after_fits : (used : ℕ) (text o : List ℕ) → used + length text ≤ length o
    → (used + length text ≡ end_after used text o) × (spliced used text o ≡ put_after used text o)
unfolding end_after put_after
after_fits used text o h = rw (le-leb (used + length text) (length o) h) (refl, refl)

pub after_full : (used : ℕ) (text o : List ℕ) → length o < used + length text
    → (used ≡ end_after used text o) × (o ≡ put_after used text o)
unfolding end_after put_after
after_full used text o h = rw (lt-leb (used + length text) (length o) h) (refl, refl)

-- What the end of the text says of the block.
module _ (used : ℕ) (text o : List ℕ) {end : ℕ} {p : List ℕ} (ends : end ≡ end_after used text o) (block : p ≡ put_after used text o) where
  pub after_stays : 0 < length text → end ≡ used → (length o < used + length text) × (p ≡ o)
  unfolding end_after put_after
  after_stays some e = go (leb (used + length text) (length o)) refl
    where
      go : (b : Bool) → leb (used + length text) (length o) ≡ b → (length o < used + length text) × (p ≡ o)
      go true t = let x : end ≡ used + length text = ends ∙ rw t in absurd (omega arith)
      go false t = (leb-false (used + length text) (length o) t, block ∙ rw t)

  pub after_put : (end ≡ used → ⊥) → (used + length text ≤ length o) × (end ≡ used + length text) × (p ≡ spliced used text o)
  unfolding end_after put_after
  after_put other = go (leb (used + length text) (length o)) refl
    where
      go : (b : Bool) → leb (used + length text) (length o) ≡ b → (used + length text ≤ length o) × (end ≡ used + length text) × (p ≡ spliced used text o)
      go true t = (leb-true (used + length text) (length o) t, ends ∙ rw t, block ∙ rw t)
      go false t = absurd (other (ends ∙ rw t))

-- A line was written, or refused, in what is left of a block but its last byte: the answer, and what that part holds then.
pub record LineFirst (line o : List ℕ) (used : ℕ) (r : Answer ℕ) (q : List ℕ) : Type 0 where
  pub size : used < length o
  pub answer : r ≡ text_answer (length (mid_of used (length o - 1 - used) o)) line
  pub output : q ≡ front_written r line (mid_of used (length o - 1 - used) o)

-- Then the line feed.
module _ {line o : List ℕ} {used : ℕ} {r : Answer ℕ} {q : List ℕ} (first : LineFirst line o used r q) where
  abbrev k : ℕ
  k = length o - 1 - used

  abbrev mid : List ℕ
  mid = mid_of used k o

  mid_length : length mid ≡ k
  mid_length = mid_len used (length o - 1) o (omega (arith, first.size))

  abbrev row : List ℕ
  row = line ++ (10 ∷ [])

  row_length : length row ≡ length line + 1
  row_length = length-append line (10 ∷ [])

  put_by : {a : Answer ℕ} → r ≡ a → put_mid used k o q ≡ put_mid used k o (front_written a line mid)
  put_by e = ap (put_mid used k o) (first.output ∙ ap (λ (a : Answer ℕ). front_written a line mid) e)

  pub row_refused : (t : RefusalCode) → r ≡ refused t → (used ≡ end_after used row o) × (put_mid used k o q ≡ put_after used row o)
  row_refused t e =
      let full = after_full used row o (omega (arith, (text_refused (length mid) line (sym first.answer ∙ e)).1, mid_length, row_length, first.size)) in
      (full.0, put_by e ∙ put_same used k o ∙ full.1)

  module _ {n : ℕ} (e : r ≡ accepted n) where
    line_fits : (n ≡ length line) × (length line ≤ k)
    line_fits = let f = text_accepted (length mid) line (sym first.answer ∙ e) in (f.0, omega (arith, f.1, mid_length))

    pub row_size : used + n < length o
    row_size = omega (arith, line_fits.0, line_fits.1, first.size)

    line_put : put_mid used k o q ≡ spliced used line o
    unfolding spliced
    line_put =
        let h : length line ≤ length mid = omega (arith, line_fits.1, mid_length) in
        put_by e
        ∙ ap (λ (l : List ℕ). take used o ++ l)
        (append_assoc line (drop (length line) mid) (drop k (drop used o))
        ∙ ap (λ (l : List ℕ). line ++ l)
        (sym (drop-append-le (length line) mid (drop k (drop used o)) h)
        ∙ ap (drop (length line)) (take-append-drop k (drop used o))
        ∙ drop-drop (length line) used o))

    block_length : length (put_mid used k o q) ≡ length o
    block_length = ap length line_put ∙ length_spliced used line o (omega (arith, line_fits.1, first.size))

    pub feed_inside : used + n < length (put_mid used k o q)
    feed_inside = omega (arith, row_size, block_length)

    pub row_written : (used + n + 1 ≡ end_after used row o) × (set (put_mid used k o q) (used + n) 10 ≡ put_after used row o)
    row_written =
        let fits = after_fits used row o (omega (arith, row_length, line_fits.1, first.size)) in
        let at : used + n ≡ used + length line = omega (arith, line_fits.0) in (
          omega (arith, at, row_length) ∙ fits.0,
          set_spliced (used + n) 10 (put_mid used k o q) feed_inside
              ∙ rw (line_put, at) (spliced_more used line (10 ∷ []) o (omega (arith, line_fits.1, first.size)))
              ∙ fits.1,
        )
