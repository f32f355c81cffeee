-- What a closure is handed of an image.
use Rattle.std.specs.Prelude.{List, ℕ, Result, Ok, Err, replicate, ◌≡◌}
use Rattle.aff_format.specs.Answer.{Answer, accepted}
use Rattle.aff_format.specs.Verdict.{answer_of}
use Rattle.aff_format.specs.declared.refusal.Refusal.{Refusal}
use Rattle.aff_open.specs.Opening.{open_answer, strings_after, entries_after}
use Rattle.aff_open.specs.Sections.{form_for}
use Rattle.aff_reader.specs.declared.opened.Opened.{Opened}
use Rattle.aff_reader.specs.declared.reader.Reader.{Reader}

-- An area of zeros.
abbrev pub zeros : List ℕ
zeros = replicate 2048 0

-- Opening's answer, with our form.
abbrev pub opening : List ℕ → Answer Reader
opening image = open_answer image (form_for image) 2048 2048

-- Opening's refusal, or the image with the record and the areas that opening leaves.
abbrev pub IsOpening : List ℕ → Result Opened Refusal → Type 0
IsOpening image (Ok o) =
    (o.image.now ≡ image)
    × (accepted o.reader ≡ opening image)
    × (o.strings.now ≡ strings_after image (form_for image) zeros zeros)
    × (o.entries.now ≡ entries_after image (form_for image) zeros zeros)
IsOpening image (Err r) = answer_of {A = Reader} (Err r) ≡ opening image
