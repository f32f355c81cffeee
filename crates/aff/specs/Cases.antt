-- Document 01's table 'Cases on each side', (P1) to (P10), as data, and what each row states, about the definitions that the contracts cite. A row about paths
-- is of every edition; a row about names is of the editions that it lists. (P5) is of editions 1 and 2; rows of edition 3 follow the table (request C-15).
use Rattle.std.specs.Prelude.{◌≡◌, Bool, true, false, cond, not, List, [], ◌∷◌, ◌++◌, ℕ, zero, suc, ◌+◌, ◌≤◌, ℤ, pos, negsuc, length}
use Rattle.aff_format.specs.Answer.{Answer, accepted, refused, refusal_at}
use Rattle.aff_format.specs.Element.{decoded}
use Rattle.aff_format.specs.Entry.{entry_bytes}
use Rattle.aff_format.specs.Edition.{editions, edition_by}
use Rattle.aff_format.specs.Subkey.{may_begin, may_follow, is_subkey}
use Rattle.aff_format.specs.declared.edition.Edition.{Edition}
use Rattle.aff_format.specs.declared.edition.Edition.TheVariants.{One, Two, Three}
use Rattle.aff_format.specs.declared.element.Element.TheVariants as element
use Rattle.aff_format.specs.declared.entry.Entry.{Entry}
use Rattle.aff_format.specs.declared.kind.Kind.{Kind}
use Rattle.aff_format.specs.declared.kind.Kind.TheVariants.{Void, Int}
use Rattle.aff_reader.specs.Belongs.{ReaderBelongs}
use Rattle.aff_reader.specs.declared.reader.Reader.{Reader}
use Rattle.aff_read.specs.Paths.{lookup_answer}
use Rattle.aff_areas.specs.Belongs.{WriterBelongs}
use Rattle.aff_areas.specs.Writer.{writer_edition}
use Rattle.aff_areas.specs.declared.writer.Writer.{Writer}
use Rattle.aff_make.specs.Make.{make_answer}
use Rattle.aff.specs.Demand1.{NotBy}

pub data Case : Type 0 where
  -- A path, and what a lookup of it answers.
  path_case : List ℕ → Answer ℕ → Case
  -- A name that is a subkey of some editions, and one that is none, with the place at which it breaks. Where the name has no slash and is not empty, it is
  -- also the only subkey of a path.
  subkey_case : List Edition → List ℕ → Case
  not_subkey_case : List Edition → List ℕ → ℕ → Case
  not_name_case : List Edition → List ℕ → ℕ → Case
  -- The bytes of an Int, and the number.
  int_case : List ℕ → ℤ → Case
  -- The bytes of a Void entry and of an Int entry.
  entry_case : ℕ → ℕ → Case

-- The lookup of a path, by any record of an edition that belongs to the memory passed.
abbrev pub LookupIs : Edition → List ℕ → Answer ℕ → Type 0
LookupIs e path answer =
    (image : List ℕ) (reader : Reader) (strings entries : List ℕ) → ReaderBelongs image reader strings entries → edition_by reader.edition ≡ e
    → lookup_answer image reader strings entries path ≡ answer

-- A child of that name below any node, by any record of a live writer of an edition that belongs to the memory passed.
abbrev pub MakeIs : Edition → List ℕ → Answer ℕ → Type 0
MakeIs e name answer =
    (size : ℕ) (writer : Writer) (text tree : List ℕ) (parent : ℕ) → WriterBelongs size writer text tree → writer_edition writer ≡ e → writer.live ≡ true
    → parent ≤ writer.nodes → make_answer size writer text tree parent name ≡ answer

-- The bytes of each entry of a kind.
abbrev pub EntryTakes : Kind → ℕ → Type 0
EntryTakes kind size = (e : Entry) → e.kind ≡ kind → length (entry_bytes e) ≡ size

-- A name that is a subkey is never 14, neither in a path nor as the name of a new child.
pub record Taken (e : Edition) (name : List ℕ) : Type 0 where
  pub subkey : is_subkey e name ≡ true
  pub in_path : (image : List ℕ) (reader : Reader) (strings entries : List ℕ) → edition_by reader.edition ≡ e
      → NotBy 14 (lookup_answer image reader strings entries (47 ∷ name))
  pub as_child : (size : ℕ) (writer : Writer) (text tree : List ℕ) (parent : ℕ) → writer_edition writer ≡ e
      → NotBy 14 (make_answer size writer text tree parent name)

-- A name that is no subkey is 14 as the name of a new child, with its place (request C-18).
pub record NoName (place : ℕ) (e : Edition) (name : List ℕ) : Type 0 where
  pub no_subkey : is_subkey e name ≡ false
  pub as_child : MakeIs e name (refused (refusal_at 14 place))

-- What holds of a name in each of some editions.
abbrev pub InEach : (Edition → List ℕ → Type 0) → List Edition → List ℕ → Type 0
InEach P [] name = Unit {0}
InEach P (e ∷ es) name = P e name × InEach P es name

-- What a row says. A name that is no subkey is 14 in a path, after its slash, and 14 as the name of a new child, each with its own place (request C-18).
abbrev pub Holds : Case → Type 0
Holds (path_case path answer) = (e : Edition) → LookupIs e path answer
Holds (subkey_case es name) = InEach Taken es name
Holds (not_subkey_case es name place) =
    InEach (NoName place) es name × InEach (λ e n. LookupIs e (47 ∷ n) (refused (refusal_at 14 (place + 1)))) es name
Holds (not_name_case es name place) = InEach (NoName place) es name
Holds (int_case bytes value) = decoded Int bytes 0 ≡ accepted (element.Int value)
Holds (entry_case void int) = EntryTakes Void void × EntryTakes Int int

-- Each row holds.
abbrev pub EachHolds : List Case → Type 0
EachHolds [] = Unit {0}
EachHolds (row ∷ rows) = Holds row × EachHolds rows

-- (P1) `/` is the root, (P2) the empty path, (P3) `//a`, (P4) `/a/`, (P5) `9a`, (P6) `_`, (P7) -70, (P8) -2147483648, (P9) 2147483647, (P10).
abbrev pub case_table : List Case
case_table =
    path_case (47 ∷ []) (accepted 0)
    ∷ path_case [] (refused (refusal_at 14 0))
    ∷ path_case (47 ∷ 47 ∷ 97 ∷ []) (refused (refusal_at 14 1))
    ∷ path_case (47 ∷ 97 ∷ 47 ∷ []) (refused (refusal_at 14 3))
    ∷ not_subkey_case (One ∷ Two ∷ []) (57 ∷ 97 ∷ []) 0
    ∷ subkey_case editions (95 ∷ [])
    ∷ int_case (0xff ∷ 0xff ∷ 0xff ∷ 0xba ∷ []) (negsuc 69)
    ∷ int_case (0x80 ∷ 0x00 ∷ 0x00 ∷ 0x00 ∷ []) (negsuc 2147483647)
    ∷ int_case (0x7f ∷ 0xff ∷ 0xff ∷ 0xff ∷ []) (pos 2147483647)
    ∷ entry_case 13 25
    ∷ []

-- Edition 3: `9a`, a space and the byte FF are subkeys; the empty name, `a/b` and a name with a zero are none.
abbrev pub wide_table : List Case
wide_table =
    subkey_case (Three ∷ []) (57 ∷ 97 ∷ [])
    ∷ subkey_case (Three ∷ []) (32 ∷ [])
    ∷ subkey_case (Three ∷ []) (255 ∷ [])
    ∷ not_name_case (Three ∷ []) [] 0
    ∷ not_name_case (Three ∷ []) (97 ∷ 47 ∷ 98 ∷ []) 1
    ∷ not_subkey_case (Three ∷ []) (97 ∷ 0 ∷ 98 ∷ []) 1
    ∷ []

-- ---- Which bytes a name may have.

-- The bytes that pass a test, in their order.
unfoldable pub passing : (ℕ → Bool) → ℕ → List ℕ
passing test zero = []
passing test (suc n) = passing test n ++ cond (test n) (n ∷ []) []

-- The bytes of a first and of a later place of a name in editions 1 and 2: `:`, A to Z, `_`, a to z; and `-`, `.`, 0 to 9 besides.
abbrev pub narrow_begin : List ℕ
narrow_begin =
    58
    ∷ 65 ∷ 66 ∷ 67 ∷ 68 ∷ 69 ∷ 70 ∷ 71 ∷ 72 ∷ 73 ∷ 74 ∷ 75 ∷ 76 ∷ 77 ∷ 78 ∷ 79 ∷ 80 ∷ 81 ∷ 82 ∷ 83 ∷ 84 ∷ 85 ∷ 86 ∷ 87 ∷ 88 ∷ 89 ∷ 90
    ∷ 95
    ∷ 97 ∷ 98 ∷ 99 ∷ 100 ∷ 101 ∷ 102 ∷ 103 ∷ 104 ∷ 105 ∷ 106 ∷ 107 ∷ 108 ∷ 109 ∷ 110 ∷ 111 ∷ 112 ∷ 113 ∷ 114 ∷ 115 ∷ 116 ∷ 117 ∷ 118 ∷ 119 ∷ 120 ∷ 121 ∷ 122
    ∷ []

abbrev pub narrow_follow : List ℕ
narrow_follow =
    45 ∷ 46
    ∷ 48 ∷ 49 ∷ 50 ∷ 51 ∷ 52 ∷ 53 ∷ 54 ∷ 55 ∷ 56 ∷ 57
    ∷ narrow_begin

-- These may begin a name, and may follow its first byte, and no others; in edition 3 all bytes but zero and `/`.
pub record NameBytes : Type 0 where
  pub begin_1 : passing (may_begin One) 256 ≡ narrow_begin
  pub begin_2 : passing (may_begin Two) 256 ≡ narrow_begin
  pub follow_1 : passing (may_follow One) 256 ≡ narrow_follow
  pub follow_2 : passing (may_follow Two) 256 ≡ narrow_follow
  pub begin_3 : passing (λ x. not (may_begin Three x)) 256 ≡ 0 ∷ 47 ∷ []
  pub follow_3 : passing (λ x. not (may_follow Three x)) 256 ≡ 0 ∷ 47 ∷ []
