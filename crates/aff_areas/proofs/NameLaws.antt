-- The strings that are a name: the marks that one pass over a text lays, and what they report of a name and of a parent's children.
-- Assumes nothing.
use mathlib.Core.Path.{◌≡◌, refl, sym, ap, ◌∙◌}
use mathlib.Core.Bool.{Bool, true, false, cond, true≢false}
use mathlib.Core.List.{List, [], ◌∷◌, ◌++◌}
use Prim.Native.Nat.{ℕ, zero, suc, ◌+◌, ◌≤◌, ◌<◌}
use native.Mathlib.Omega.{arith}
use lib.Dec.{eqb}
use lib.ListN.{length, get_or, set, take, drop, length-append, length-map, drop_of_length-le}
use Rattle.std.proofs.lemmas.List.Recursion.{is_position_or_len}
use Rattle.std.specs.List.{position_or_len}
use borrow.Author.Tests.{eqb-true}
use Rattle.aff_format.specs.Bytes.{same_bytes, laid_over}
use Rattle.aff_format.specs.Strings.{strings_of, ends_in_zero, up_to_zero, index_in}
use Rattle.aff_format.proofs.StringsLaws.{ends_in_zero_append, ends_in_zero_tail, strings_of_one, up_to_zero_without}
use Rattle.aff_format.proofs.LaidLaws.{Laid, laid_store, laid_all, laid_front}
use Rattle.aff_areas.specs.Areas.{names_in}
use Rattle.aff_areas.specs.Belongs.{WriterBelongs}
use Rattle.aff_areas.specs.passes.Marks.{mark_of, marks_of, first_mark}
use Rattle.aff_areas.specs.declared.writer.Writer.{Writer}

-- Marks and strings.

pub first_index : (name : List ℕ) (strings : List (List ℕ)) → first_mark (marks_of name strings) ≡ index_in name strings
unfolding first_mark index_in
first_index name [] = refl
first_index name (s ∷ strings) = go (same_bytes s name) (first_index name strings)
  where
    go : (b : Bool) → first_mark (marks_of name strings) ≡ index_in name strings
        → cond (eqb (cond b 1 0) 1) 0 (first_mark (marks_of name strings) + 1) ≡ cond b 0 (index_in name strings + 1)
    go true h = refl
    go false h = ap (λ (k : ℕ). k + 1) h

pub mark_at : (name : List ℕ) (strings : List (List ℕ)) (k : ℕ) → k < length strings → eqb (get_or (marks_of name strings) k 0) 1 ≡ same_bytes (get_or strings k []) name
mark_at name [] k h = absurd (omega arith)
mark_at name (s ∷ strings) zero h = go (same_bytes s name)
  where
    go : (b : Bool) → eqb (cond b 1 0) 1 ≡ b
    go true = refl
    go false = refl
mark_at name (s ∷ strings) (suc k) h = mark_at name strings k (omega arith)

-- The first string of a run that ends in zero, and the rest after its zero.

first_string : (l : List ℕ) → 0 < length l → ends_in_zero l ≡ true → l ≡ up_to_zero l ++ (0 ∷ drop (suc (length (up_to_zero l))) l)
unfolding up_to_zero ends_in_zero
first_string [] h e = absurd (omega arith)
first_string (x ∷ l) h e = go l (eqb x 0) refl e (first_string l)
  where
    go : (l : List ℕ) (b : Bool) → eqb x 0 ≡ b → ends_in_zero (x ∷ l) ≡ true
        → (0 < length l → ends_in_zero l ≡ true → l ≡ up_to_zero l ++ (0 ∷ drop (suc (length (up_to_zero l))) l))
        → x ∷ l ≡ cond b [] (x ∷ up_to_zero l) ++ (0 ∷ drop (suc (length (cond b [] (x ∷ up_to_zero l)))) (x ∷ l))
    go l true q e ih = ap (λ (y : ℕ). y ∷ l) (eqb-true x 0 q)
    go [] false q e ih = absurd (true≢false (sym e ∙ q))
    go (y ∷ l) false q e ih = ap (λ (r : List ℕ). x ∷ r) (ih (omega arith) (ends_in_zero_tail x (y ∷ l) e))

module _ (l : List ℕ) (some : 0 < length l) (ended : ends_in_zero l ≡ true) where
  first_short : length (up_to_zero l) < length l
  first_short =
      omega (arith, ap length (first_string l some ended), length-append (up_to_zero l) (0 ∷ drop (suc (length (up_to_zero l))) l))

  strings_cons : strings_of l ≡ up_to_zero l ∷ strings_of (drop (suc (length (up_to_zero l))) l)
  strings_cons = ap strings_of (first_string l some ended) ∙ strings_of_one (up_to_zero l) _ (up_to_zero_without l)

  rest_ended : ends_in_zero (drop (suc (length (up_to_zero l))) l) ≡ true
  rest_ended =
      ends_in_zero_tail 0 _ (sym (ends_in_zero_append (up_to_zero l) 0 (drop (suc (length (up_to_zero l))) l)) ∙ ap ends_in_zero (sym (first_string l some ended)) ∙ ended)

-- The pass over a text: the strings before `rest` are marked, i of them.
pub record Marking (text name marks₀ rest marks : List ℕ) (i : ℕ) : Type 0 where
  pub ended : ends_in_zero rest ≡ true
  pub laid : Laid marks₀ (marks_of name (strings_of text)) marks i (marks_of name (strings_of rest))

module _ {text name marks₀ rest marks : List ℕ} {i : ℕ} (m : Marking text name marks₀ rest marks i) where
  module _ (some : 0 < length rest) where
    pub mark_inside : length (up_to_zero rest) < length rest
    mark_inside = first_short rest some m.ended

    marks_here : Laid marks₀ (marks_of name (strings_of text)) marks i
        (mark_of name (up_to_zero rest) ∷ marks_of name (strings_of (drop (suc (length (up_to_zero rest))) rest)))
    marks_here = rw (strings_cons rest some m.ended) at m.laid

    pub mark_buffer : length (strings_of text) ≤ length marks₀ → i < length marks
    mark_buffer r = omega (arith, marks_here.count, marks_here.long, length-map (strings_of text) (mark_of name))

    pub mark_next : length (strings_of text) ≤ length marks₀ → {v : ℕ} → v ≡ mark_of name (up_to_zero rest)
        → Marking text name marks₀ (drop (length (up_to_zero rest) + 1) rest) (set marks i v) (i + 1)
    mark_next r {v} is =
        let n : length (up_to_zero rest) + 1 ≡ suc (length (up_to_zero rest)) = omega arith in
        rw n (record { ended = rest_ended rest some m.ended; laid = rw is (laid_store marks_here (mark_buffer r)) })

  pub mark_all : length rest ≡ 0 → marks ≡ laid_over marks₀ (marks_of name (strings_of text))
  unfolding strings_of
  mark_all h = let e : rest ≡ [] = drop_of_length-le rest {i = 0} (omega arith) in (laid_all (rw e at m.laid)).1.1

-- The lowest mark, in std's words.
pub first_mark_is : (marks : List ℕ) → position_or_len (λ x. eqb x 1) marks ≡ first_mark marks
unfolding first_mark
first_mark_is marks = sym (is_position_or_len first_mark (λ x. eqb x 1) refl (λ x ys. ap (cond (eqb x 1) 0) (omega arith)) marks)

-- Marks of a writer's strings.
module _ {size : ℕ} {writer : Writer} {text tree : List ℕ} (b : WriterBelongs size writer text tree) (name : List ℕ) (marks₀ marks : List ℕ)
    (wide : length marks₀ ≡ 2048) (laid : marks ≡ laid_over marks₀ (marks_of name (names_in writer text))) where
  pub marks_many : length (marks_of name (names_in writer text)) ≡ writer.strings
  marks_many = length-map (names_in writer text) (mark_of name) ∙ b.text_strings

  pub marks_first : first_mark (take writer.strings marks) ≡ index_in name (names_in writer text)
  marks_first =
      let f : take writer.strings marks ≡ marks_of name (names_in writer text) =
      rw (laid, ← marks_many) (laid_front marks₀ (marks_of name (names_in writer text)) (omega (arith, marks_many, b.few_strings))) in
      rw f (first_index name (names_in writer text))
