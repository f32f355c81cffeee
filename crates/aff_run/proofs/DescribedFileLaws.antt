-- What a run holds before a close is what it describes: each entry is that of its node, with the lowest string that is its name, since the strings differ. By induction on
-- the nodes. Assumes nothing.
use mathlib.Core.Path.{◌≡◌, refl, sym, ap, ◌∙◌}
use mathlib.Core.Bool.{Bool, true, false}
use mathlib.Core.List.{List, [], ◌∷◌, map}
use Prim.Native.Nat.{ℕ, suc, ◌≤◌, ◌<◌}
use native.Mathlib.Omega.{arith}
use lib.Dec.{ltb}
use lib.ListN.{length, get_or}
use borrow.Author.Tests.{ltb-true, ltb-false}
use Rattle.aff_format.specs.Strings.{index_in}
use Rattle.aff_format.specs.Tree.{Node, Tree}
use Rattle.aff_format.specs.declared.edition.Edition.{Edition}
use Rattle.aff_format.specs.declared.entry.Entry.{Entry}
use Rattle.aff_format.proofs.StringsLaws.{index_in_found, index_in_lowest}
use Rattle.aff_areas.specs.Writer.{writer_edition}
use Rattle.aff_run.specs.DescribedFile.{entry_for, entries_for, described_contents}
use Rattle.aff_run.specs.TreeSizes.{names_of}
use Rattle.aff_run.specs.Run.{State, DataLayout}
use Rattle.aff_run.proofs.ClosedLaws.{contents}
use Rattle.aff_run.proofs.InvariantLaws.{Stored, Each, Invariant, offset_of}

module _ (ed : Edition) (names : List (List ℕ)) (buffer : List ℕ) (end : ℕ)
    (distinct : (i k : ℕ) → i < k → k < length names → get_or names i [] ≡ get_or names k [] → ⊥) where
  -- Among strings that differ, a string's number is the lowest of a string that is it.
  string_is : (k : ℕ) (x : List ℕ) → k < length names → get_or names k [] ≡ x → k ≡ index_in x names
  string_is k x h e = low (ltb k (index_in x names)) refl
    where
      high : (b : Bool) → ltb (index_in x names) k ≡ b → index_in x names ≤ k → k ≡ index_in x names
      high true q l =
          let m = ltb-true (index_in x names) k q in absurd (distinct (index_in x names) k m h (index_in_found x names (omega arith) ∙ sym e))
      high false q l = omega (arith, ltb-false (index_in x names) k q)

      low : (b : Bool) → ltb k (index_in x names) ≡ b → k ≡ index_in x names
      low true q = absurd (index_in_lowest x names k (ltb-true k (index_in x names) q) e)
      low false q = high (ltb (index_in x names) k) refl (ltb-false k (index_in x names) q)

  entry_is : (i : ℕ) (e : Entry) (t : Node) → Stored ed names buffer end i e t → e ≡ entry_for names t e.offset
  entry_is i e t s = λ j.
      record { kind = s.kind_is j; parent = s.parent_is j; string = string_is e.string t.name s.string_exists s.name_is j; count = s.count_is j; offset = e.offset }

  entries_are : (i : ℕ) (es : List Entry) (ts : Tree) → Each ed names buffer end i es ts → es ≡ entries_for names ts (map offset_of es)
  entries_are i [] [] h = refl
  entries_are i [] (t ∷ ts) h = absurd h
  entries_are i (e ∷ es) [] h = absurd h
  entries_are i (e ∷ es) (t ∷ ts) h =
      let first = entry_is i e t h.0 in
      let later = entries_are (suc i) es ts h.1 in
      λ j. first j ∷ later j

pub contents_described : (s : State) (tree : Tree) {layout : DataLayout} (g : Invariant s tree layout) → contents s tree g ≡ described_contents tree layout
unfolding contents
contents_described s tree g =
    let e = entries_are (writer_edition s.writer) (names_of tree) s.buffer s.writer.end g.distinct 1 g.entries tree g.each in
    rw (g.stored_are, ← g.offsets_are) (ap (λ (l : List Entry). record { stored = _; records = _; names = names_of tree; entries = l }) e)
