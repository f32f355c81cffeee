-- Where a malformed name or path breaks (request C-18). 14 reports this place, and 10 reports it as its second number where its node's name breaks. `Breaks`,
-- in crates/aff_format/specs/Breaks.antt, defines the place for any language: the bytes before it can be continued to a list in the language, and with the byte
-- there, if there is one, they cannot. `IsSubkey` and `WellFormed`, there in Subkey.antt and Path.antt, are document 01's two rules. (For lookup: `malformed` of
-- Demand2.)
use Rattle.std.specs.Prelude.{◌≡◌, true, List, ◌↔◌, ℕ, ◌≤◌, Some}
use Rattle.aff_format.specs.Answer.{Answer, refused, refusal_at, refusal_with, SecondOf10}
use Rattle.aff_format.specs.Breaks.{Breaks}
use Rattle.aff_format.specs.Element.{decoded}
use Rattle.aff_format.specs.Path.{path_grammar, WellFormed}
use Rattle.aff_format.specs.Refusal.{code_of_refusal}
use Rattle.aff_format.specs.Rule.{AllHold}
use Rattle.aff_format.specs.Subkey.{subkey_from, IsSubkey}
use Rattle.aff_format.specs.declared.edition.Edition.{Edition}
use Rattle.aff_format.specs.declared.kind.Kind.{Kind}
use Rattle.aff_format.specs.declared.refusal.Refusal.{Refusal}
use Rattle.aff_format.specs.declared.refusal.RefusalCode.{RefusalCode}
use Rattle.aff_open.specs.Faults.{rules_before10}
use Rattle.aff_open.specs.Opening.{open_answer}
use Rattle.aff_open.specs.Rules.{FirstBadLink}
use Rattle.aff_open.specs.Sections.{edition_in, strings_in, nodes_in}
use Rattle.aff_areas.specs.Belongs.{WriterBelongs}
use Rattle.aff_areas.specs.Writer.{writer_edition}
use Rattle.aff_areas.specs.declared.writer.Writer.{Writer}
use Rattle.aff_make.specs.Make.{make_answer}
use Rattle.aff_reader.specs.declared.reader.Reader.{Reader}
use Rattle.aff_write.specs.Begin.{begin_answer}
use Rattle.aff.specs.Demand1.{EachReading, EachWriting}

-- An answer has a second number only where it is a refusal by 10.
abbrev pub SecondBy10 : (A : Type 0) → Answer A → Type 0
SecondBy10 A answer = (t : RefusalCode) → answer ≡ refused t → SecondOf10 t

pub record BreakPlaces : Type 1 where
  -- The rule for a subkey and the grammar of a path find a fault at p exactly when p is where the bytes break.
  pub subkey_breaks : (e : Edition) (name : List ℕ) (p : ℕ) → (subkey_from e 0 name ≡ Some p) ↔ Breaks (IsSubkey e) name p
  pub path_breaks : (e : Edition) (path : List ℕ) (p : ℕ) → (path_grammar e path ≡ Some p) ↔ Breaks (WellFormed e) path p
  -- What is no subkey, and what is no well-formed path, breaks somewhere; and nothing breaks at two places, whatever the language.
  pub no_subkey : (e : Edition) (name : List ℕ) → (IsSubkey e name → ⊥) → (p : ℕ) × Breaks (IsSubkey e) name p
  pub no_path : (e : Edition) (path : List ℕ) → (WellFormed e path → ⊥) → (p : ℕ) × Breaks (WellFormed e) path p
  pub one_place : (In : List ℕ → Type 0) (l : List ℕ) (p q : ℕ) → Breaks In l p → Breaks In l q → p ≡ q
  -- Make, by a record of a live writer that belongs, below a node that exists: 14 with p exactly when p is where the name breaks.
  pub make : (size : ℕ) (w : Writer) (text tree : List ℕ) (parent : ℕ) (name : List ℕ) → WriterBelongs size w text tree → w.live ≡ true → parent ≤ w.nodes
      → (p : ℕ) → (make_answer size w text tree parent name ≡ refused (refusal_at 14 p)) ↔ Breaks (IsSubkey (writer_edition w)) name p
  -- Opening: 10 with node k and a second number exactly when all rules before hold, k is the lowest node whose parent or string does not exist or whose string is
  -- no subkey, and the number is the one that `NameBreak` says.
  pub opening : (image form : List ℕ) (strings entries k second : ℕ)
      → (open_answer image form strings entries ≡ refused (refusal_with 10 k second))
      ↔ (AllHold (rules_before10 image form strings entries)
      × FirstBadLink (edition_in image) (strings_in (edition_in image) image) (nodes_in (edition_in image) image) k second)
  -- Every other refusal has the second number 0: of opening, of each reading call, of the decoding of an element of a view that is held, of begin and of each
  -- other writing call, for every image, record, memory and argument; and of each value of `Refusal`, so of whatever else reports one.
  pub opening_second : (image form : List ℕ) (strings entries : ℕ) → SecondBy10 _ (open_answer image form strings entries)
  pub reading_second : (image : List ℕ) (r : Reader) (strings entries : List ℕ) → EachReading SecondBy10 image r strings entries
  pub decode_second : (kind : Kind) (bytes : List ℕ) (index : ℕ) → SecondBy10 _ (decoded kind bytes index)
  pub begin_second : (edition : ℕ) (buffer form text tree : List ℕ) (allowance : ℕ) → SecondBy10 _ (begin_answer edition buffer form text tree allowance)
  pub writing_second : (buffer : List ℕ) (w : Writer) (text tree : List ℕ) → EachWriting SecondBy10 buffer w text tree
  pub row_second : (r : Refusal) → SecondOf10 (code_of_refusal r)
