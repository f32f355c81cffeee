-- What judging a record answers.
use Rattle.std.specs.Prelude.{not, List, [], ◌∷◌, ℕ, Result, Ok, Err}
use Rattle.aff_format.specs.Answer.{Check, check, refusal}
use Rattle.aff_format.specs.declared.refusal.Refusal.{Refusal}
use Rattle.aff_reader.specs.Belongs.{reader_belongs}
use Rattle.aff_reader.specs.declared.belonging.Belonging.{Belonging}
use Rattle.aff_reader.specs.declared.opened.Opened.{Opened}
use Rattle.aff_reader.specs.declared.reader.Reader.{Reader}

-- What every reading call judges first: 24.
abbrev pub belongs_checks : List ℕ → Reader → List ℕ → List ℕ → List Check
belongs_checks image reader strings entries = check (not (reader_belongs image reader strings entries)) (refusal 24) ∷ []

-- The judged record without what is known of it.
abbrev pub opened_of : Result Belonging Refusal → Result Opened Refusal
opened_of (Ok b) = Ok b.opened
opened_of (Err r) = Err r
