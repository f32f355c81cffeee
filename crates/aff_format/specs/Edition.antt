-- The layout of each edition: document 01, 'Layout of a file', and source document 003, sections 6.1 and 6.2; of edition 3 (request C-15) source document
-- 000, section 6. What an edition has of its own is at the front: its number, its text, the size of a section header, whether that has a record count, the
-- order of the section headers, and whether the writer writes it. (Its rule for names is in Subkey.antt.) All other sizes and places are computed from these.
use Rattle.std.specs.Prelude.{◌≡◌, Bool, true, false, cond, List, [], ◌∷◌, ◌++◌, ℕ, ◌+◌, ◌-◌, ◌*◌, eqb, get_or, Option, Some, None, Result, MatchResult, codes, decimal}
use Rattle.aff_format.specs.Number.{be_bytes}
use Rattle.aff_format.specs.Section.{section_number}
use Rattle.aff_format.specs.declared.section.Section.{Section}
use Rattle.aff_format.specs.declared.section.Section.TheVariants.{Symbol, Tree, Data}
use Rattle.aff_format.specs.declared.edition.Edition.{Edition}
use Rattle.aff_format.specs.declared.edition.UnknownEdition.{UnknownEdition}
use Rattle.aff_format.specs.declared.edition.Edition.TheVariants.{One, Two, Three}

abbrev pub editions : List Edition
editions = One ∷ Two ∷ Three ∷ []

-- ---- What an edition has of its own.

abbrev pub edition_number : Edition → ℕ
edition_number One = 1
edition_number Two = 2
edition_number Three = 3

-- The first 20 bytes of the signature: `LHPC AFF version 1.0`, `.. 2.0` and `.. 3.0`.
unfoldable pub signature_text : Edition → List ℕ
signature_text One = 76 ∷ 72 ∷ 80 ∷ 67 ∷ 32 ∷ 65 ∷ 70 ∷ 70 ∷ 32 ∷ 118 ∷ 101 ∷ 114 ∷ 115 ∷ 105 ∷ 111 ∷ 110 ∷ 32 ∷ 49 ∷ 46 ∷ 48 ∷ []
signature_text Two = 76 ∷ 72 ∷ 80 ∷ 67 ∷ 32 ∷ 65 ∷ 70 ∷ 70 ∷ 32 ∷ 118 ∷ 101 ∷ 114 ∷ 115 ∷ 105 ∷ 111 ∷ 110 ∷ 32 ∷ 50 ∷ 46 ∷ 48 ∷ []
signature_text Three = 76 ∷ 72 ∷ 80 ∷ 67 ∷ 32 ∷ 65 ∷ 70 ∷ 70 ∷ 32 ∷ 118 ∷ 101 ∷ 114 ∷ 115 ∷ 105 ∷ 111 ∷ 110 ∷ 32 ∷ 51 ∷ 46 ∷ 48 ∷ []

-- Bytes of a section header: offset 8, size 8, record count 8 (not in edition 1), sum 16.
abbrev pub section_header_size : Edition → ℕ
section_header_size One = 32
section_header_size Two = 40
section_header_size Three = 40

-- Whether a section header has a record count, 16 bytes from its start.
abbrev pub has_counts : Edition → Bool
has_counts One = false
has_counts Two = true
has_counts Three = true

-- The order in which the three section headers follow the signature; in edition 3 by table 2 of source document 000.
abbrev pub header_order : Edition → List Section
header_order One = Symbol ∷ Tree ∷ Data ∷ []
header_order Two = Symbol ∷ Tree ∷ Data ∷ []
header_order Three = Data ∷ Symbol ∷ Tree ∷ []

-- Whether the writer writes files of the edition.
abbrev pub is_written : Edition → Bool
is_written One = false
is_written Two = true
is_written Three = true

-- ---- Sizes and places in a header.

-- Bytes of the signature, and of an MD5 sum.
abbrev pub signature_size : ℕ
signature_size = 32

abbrev pub sum_size : ℕ
sum_size = 16

-- Where a section is in an order, counted from 0.
abbrev pub rank_in : List Section → Section → ℕ
rank_in [] s = 0
rank_in (t ∷ order) s = cond (eqb (section_number s) (section_number t)) 0 (rank_in order s + 1)

-- Which of the three section headers is a section's, and whose header is at a rank.
abbrev pub section_rank : Edition → Section → ℕ
section_rank e s = rank_in (header_order e) s

abbrev pub section_at : Edition → ℕ → Section
section_at e rank = get_or (header_order e) rank Symbol

-- Where the header of a section begins: there is its offset, and 8 bytes on its size. Where its sum begins: its last 16 bytes.
abbrev pub section_header_at : Edition → Section → ℕ
section_header_at e s = signature_size + section_rank e s * section_header_size e

abbrev pub section_sum_at : Edition → Section → ℕ
section_sum_at e s = section_header_at e s + section_header_size e - sum_size

-- Where the header sum begins: after the three section headers. The header ends with it.
abbrev pub header_sum_at : Edition → ℕ
header_sum_at e = signature_size + 3 * section_header_size e

abbrev pub header_size : Edition → ℕ
header_size e = header_sum_at e + sum_size

-- The shortest and the longest header of an edition (`header_least`, `header_most`).
abbrev pub least_header : ℕ
least_header = 144

abbrev pub most_header : ℕ
most_header = 168

-- The 12 bytes after the signature text as our programs expect them (docs/FORM.md): the text's zero, 64 bits in a double, radix 2, 53 bits of mantissa,
-- maximal exponent 1,024, negative minimal exponent 1,021, header size.
unfoldable pub number_form : Edition → List ℕ
number_form e = 0 ∷ 64 ∷ 2 ∷ 53 ∷ 4 ∷ 0 ∷ 3 ∷ 253 ∷ be_bytes 4 (header_size e)

-- ---- The edition of a number.

-- The first of some editions that passes a test.
abbrev pub first_edition : (Edition → Bool) → List Edition → Option Edition
first_edition test [] = None
first_edition test (e ∷ es) = cond (test e) (Some e) (first_edition test es)

abbrev pub edition_of : ℕ → Option Edition
edition_of n = first_edition (λ e. eqb n (edition_number e)) editions

-- What a conversion of a number returns: the edition of the number, or an error where there is none.
abbrev pub EditionGiven : ℕ → Result Edition UnknownEdition → Type 0
EditionGiven n given = MatchResult given (λ edition. edition_of n ≡ Some edition) (λ e. edition_of n ≡ None)

abbrev pub unknown_edition_text : UnknownEdition → List ℕ
unknown_edition_text e = codes "no edition has the number " ++ decimal e.0

abbrev pub is_known : Option Edition → Bool
is_known (Some e) = true
is_known None = false

-- Edition 2 is taken for no edition: its form is the one passed for a text of no edition, and nothing else of it is asked after the refusal of
-- a text or of a record.
abbrev pub or_two : Option Edition → Edition
or_two (Some e) = e
or_two None = Two

-- The edition that a record names by its number.
abbrev pub edition_by : ℕ → Edition
edition_by n = or_two (edition_of n)

-- Whether a number names an edition that is written; and the same as a proposition.
abbrev pub is_found_written : Option Edition → Bool
is_found_written (Some e) = is_written e
is_found_written None = false

abbrev pub names_written : ℕ → Bool
names_written n = is_found_written (edition_of n)

abbrev pub NamesWritten : ℕ → Type 0
NamesWritten n = (e : Edition) × (edition_number e ≡ n) × (is_written e ≡ true)
