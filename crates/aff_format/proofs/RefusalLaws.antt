-- No row of the table has the number 8, which is withdrawn (request C-14), and none but 10 a second number (request C-18). By cases. Assumes nothing.
use mathlib.Core.Path.{◌≡◌, refl}
use mathlib.Core.Bool.{false}
use lib.Dec.{eqb}
use Rattle.aff_format.specs.Answer.{SecondOf10}
use Rattle.aff_format.specs.Refusal.{code_of_refusal, number_of}
use Rattle.aff_format.specs.declared.refusal.Refusal.{Refusal}
use Rattle.aff_format.specs.declared.refusal.Refusal.TheVariants.{WrongLength, ShortImage, UnknownEdition, WrongForm, WrongHeaderSum, SectionOutside, WrongSectionSum, BadTreeTable, BadLink, EndlessClimb, RepeatedName, DataOutside, Malformed, Absent, IndexTooLarge, ChildExists, DataTaken, WrongData, TooMany, BufferTooSmall, NotOpen, AllowanceSpent, WrongRecord, TooManyStrings, WrongStringCount, RepeatedString}

pub rows_other : (r : Refusal) → eqb (number_of r) 8 ≡ false
rows_other WrongLength = refl
rows_other ShortImage = refl
rows_other UnknownEdition = refl
rows_other WrongForm = refl
rows_other WrongHeaderSum = refl
rows_other (SectionOutside section) = refl
rows_other (WrongSectionSum section) = refl
rows_other (BadTreeTable entry) = refl
rows_other (BadLink node in_name) = refl
rows_other (EndlessClimb node) = refl
rows_other (RepeatedName node) = refl
rows_other (DataOutside node) = refl
rows_other (Malformed place) = refl
rows_other Absent = refl
rows_other IndexTooLarge = refl
rows_other ChildExists = refl
rows_other DataTaken = refl
rows_other WrongData = refl
rows_other TooMany = refl
rows_other BufferTooSmall = refl
rows_other NotOpen = refl
rows_other (AllowanceSpent made) = refl
rows_other WrongRecord = refl
rows_other TooManyStrings = refl
rows_other WrongStringCount = refl
rows_other (RepeatedString string) = refl

-- And each row but 10 has the second number 0.
pub rows_second : (r : Refusal) → SecondOf10 (code_of_refusal r)
rows_second WrongLength n = refl
rows_second ShortImage n = refl
rows_second UnknownEdition n = refl
rows_second WrongForm n = refl
rows_second WrongHeaderSum n = refl
rows_second (SectionOutside section) n = refl
rows_second (WrongSectionSum section) n = refl
rows_second (BadTreeTable entry) n = refl
rows_second (BadLink node in_name) n = absurd (n refl)
rows_second (EndlessClimb node) n = refl
rows_second (RepeatedName node) n = refl
rows_second (DataOutside node) n = refl
rows_second (Malformed place) n = refl
rows_second Absent n = refl
rows_second IndexTooLarge n = refl
rows_second ChildExists n = refl
rows_second DataTaken n = refl
rows_second WrongData n = refl
rows_second TooMany n = refl
rows_second BufferTooSmall n = refl
rows_second NotOpen n = refl
rows_second (AllowanceSpent made) n = refl
rows_second WrongRecord n = refl
rows_second TooManyStrings n = refl
rows_second WrongStringCount n = refl
rows_second (RepeatedString string) n = refl
