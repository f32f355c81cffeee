-- What the programs read and write, where the reader says which bytes it has left and the writer which it holds. Assumes nothing.
use Rattle.std.proofs.Common.{Option, None, Some, IfSome, ◌≡◌, ℕ, ◌≤◌, ◌<◌, List, [], ◌++◌, length, take, sym, ap, subst, ◌∙◌, append-nil, append_assoc, length-take-le, arith}
use mathlib.Core.Logic.{⊎_elim}
use Rattle.std.proofs.lemmas.List.{take_at}
use Rattle.std.specs.Io.KnownBytes.{Appends, Consumes, IsAtEnd}
use Rattle.console.specs.Part.{AppendsPart}
use Rattle.std.proofs.KnownBytes.{Appends-trans}
use Rattle.console.proofs.Writing.{part_longer, part_on}
use Rattle.aff_reader.specs.declared.reader.Reader.{Reader}
use Rattle.aff_tables.proofs.OrderLaws.{split}
use Rattle.aff_listing.specs.declared.choice.Choice.{Choice}
use Rattle.aff_list.specs.Lister.{input_limit, rows_from, Starts, printed}
use Rattle.aff_list.proofs.PrintedLaws.{printed_front, rows_end}

-- Of a text, all has been written but what is left.
pub record Shown (old now : Option (List ℕ)) (text left : List ℕ) : Type 0 where
  pub bytes : List ℕ
  pub written : Appends old now bytes
  pub rest : text ≡ bytes ++ left

pub shown_more : {a b c : Option (List ℕ)} {text left more : List ℕ} (bs : List ℕ) → Shown a b text left → Appends b c bs → left ≡ bs ++ more → Shown a c text more
shown_more {a} {b} {c} {text} {left} {more} bs s w e =
    record {
      bytes = s.bytes ++ bs;
      written = Appends-trans a b c s.bytes bs s.written w;
      rest = s.rest ∙ ap (λ (l : List ℕ). s.bytes ++ l) e ∙ sym (append_assoc s.bytes bs more);
    }

pub shown_all : {a b : Option (List ℕ)} {text left : List ℕ} → Shown a b text left → left ≡ [] → Appends a b text
shown_all {a} {b} {text} {left} s e =
    subst (Appends a b) (sym (s.rest ∙ ap (λ (l : List ℕ). s.bytes ++ l) e ∙ append-nil s.bytes)) s.written

-- What is left begins with some bytes, of which a part is written.
pub shown_cut : {a b : Option (List ℕ)} (c : Option (List ℕ)) {text left : List ℕ} (more bs : List ℕ) → Shown a b text left → AppendsPart b c bs
    → left ≡ bs ++ more → AppendsPart a c text
shown_cut {a} {b} c {text} {left} more bs s f e =
    subst (AppendsPart a c) (sym s.rest) (part_on a b c s.bytes left s.written (subst (AppendsPart b c) (sym e) (part_longer b c bs more f)))

module _ {image : List ℕ} {reader : Reader} {strings entries text numbers : List ℕ} {lines next used : ℕ} {before after : List ℕ}
    (s : Starts image reader strings entries text numbers lines next used before after) where
  size : length (take lines numbers) ≡ lines
  size = length-take-le lines numbers s.few

  starts_text : text ≡ take used after ++ rows_from image reader strings entries (take lines numbers) next
  starts_text =
      ⊎_elim
      (λ (h : next < lines). s.goes_on h)
      (λ (h : lines ≤ next).
      s.whole h ∙ sym (append-nil (take used after))
      ∙ ap (λ (l : List ℕ). take used after ++ l) (sym (rows_end image reader strings entries (take lines numbers) next (omega (arith, size)))))
      (split next lines)

  pub shown_first : {a b : Option (List ℕ)} → Appends a b (take used after) → Shown a b text (rows_from image reader strings entries (take lines numbers) next)
  shown_first w = record { bytes = take used after; written = w; rest = starts_text }

-- No line is left after the last.
pub no_more : (image : List ℕ) (reader : Reader) (strings entries numbers : List ℕ) (lines next : ℕ) → lines ≤ length numbers → lines ≤ next
    → rows_from image reader strings entries (take lines numbers) next ≡ []
no_more image reader strings entries numbers lines next few h =
    rows_end image reader strings entries (take lines numbers) next (omega (arith, length-take-le lines numbers few))

-- What was read into a buffer above the limit, up to its end or to that of the input, decides what is printed of the input.
abbrev pub Decides : Option (List ℕ) → List ℕ → Type 0
Decides a part = IfSome a (λ xs. (choice : Choice) → printed choice part ≡ printed choice xs)

pub read_decides : (a b : Option (List ℕ)) (buffer : List ℕ) (n : ℕ) → input_limit < length buffer → n ≤ length buffer
    → Consumes a b (take n buffer) → (n < length buffer → IsAtEnd b) → Decides a (take n buffer)
read_decides None b buffer n long inside p end = tt
read_decides (Some xs) None buffer n long inside p end = absurd p
read_decides (Some xs) (Some ys) buffer n long inside p end =
    λ choice.
    ⊎_elim
    (λ (h : n < length buffer). ap (printed choice) (sym (p ∙ ap (λ (l : List ℕ). take n buffer ++ l) (end h) ∙ append-nil (take n buffer))))
    (λ (h : length buffer ≤ n).
    ap (printed choice) (sym (ap (take n) p ∙ take_at (take n buffer) ys n (length-take-le n buffer inside))) ∙ printed_front choice xs n (omega arith))
    (split n (length buffer))
