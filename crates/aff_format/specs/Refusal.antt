-- The rows of document 01's table 'Numbers handed back'.
use Rattle.std.specs.Prelude.{ℕ, List, ◌++◌, codes, decimal}
use Rattle.aff_format.specs.Answer.{refusal, refusal_at, refusal_with}
use Rattle.aff_format.specs.Limits.{string_limit}
use Rattle.aff_format.specs.Section.{section_number}
use Rattle.aff_format.specs.declared.refusal.RefusalCode.{RefusalCode}
use Rattle.aff_format.specs.declared.refusal.Refusal.{Refusal}
use Rattle.aff_format.specs.declared.refusal.Refusal.TheVariants.{WrongLength, ShortImage, UnknownEdition, WrongForm, WrongHeaderSum, SectionOutside, WrongSectionSum, BadTreeTable, BadLink, EndlessClimb, RepeatedName, DataOutside, Malformed, Absent, IndexTooLarge, ChildExists, DataTaken, WrongData, TooMany, BufferTooSmall, NotOpen, AllowanceSpent, WrongRecord, TooManyStrings, WrongStringCount, RepeatedString}

-- Columns 'No.' and 'Place told'. Every promise about a refusal goes through this table.
-- Number 8 is withdrawn (request C-14), and no row has it.
abbrev pub code_of_refusal : Refusal → RefusalCode
code_of_refusal WrongLength = refusal 1
code_of_refusal ShortImage = refusal 2
code_of_refusal UnknownEdition = refusal 3
code_of_refusal WrongForm = refusal 4
code_of_refusal WrongHeaderSum = refusal 5
code_of_refusal (SectionOutside section) = refusal_at 6 (section_number section)
code_of_refusal (WrongSectionSum section) = refusal_at 7 (section_number section)
code_of_refusal (BadTreeTable entry) = refusal_at 9 entry
code_of_refusal (BadLink node in_name) = refusal_with 10 node in_name
code_of_refusal (EndlessClimb node) = refusal_at 11 node
code_of_refusal (RepeatedName node) = refusal_at 12 node
code_of_refusal (DataOutside node) = refusal_at 13 node
code_of_refusal (Malformed place) = refusal_at 14 place
code_of_refusal Absent = refusal 15
code_of_refusal IndexTooLarge = refusal 16
code_of_refusal ChildExists = refusal 17
code_of_refusal DataTaken = refusal 18
code_of_refusal WrongData = refusal 19
code_of_refusal TooMany = refusal 20
code_of_refusal BufferTooSmall = refusal 21
code_of_refusal NotOpen = refusal 22
code_of_refusal (AllowanceSpent made) = refusal_at 23 made
code_of_refusal WrongRecord = refusal 24
code_of_refusal TooManyStrings = refusal_at 25 string_limit
code_of_refusal WrongStringCount = refusal 26
code_of_refusal (RepeatedString string) = refusal_at 27 string

abbrev pub number_of : Refusal → ℕ
number_of r = (code_of_refusal r).number

abbrev pub place_of : Refusal → ℕ
place_of r = (code_of_refusal r).place

-- The place in the name that 10 reports besides its node.
abbrev pub second_of : Refusal → ℕ
second_of r = (code_of_refusal r).second

-- `refused N P`, without a line feed.
abbrev pub refused_text : Refusal → List ℕ
refused_text r = codes "refused " ++ (decimal (number_of r) ++ (codes " " ++ decimal (place_of r)))
