-- What a closure is handed, and what holds of it.
use Rattle.std.specs.Prelude.{List, ℕ, Result, Ok}
use Rattle.aff_format.specs.declared.refusal.Refusal.{Refusal}
use Rattle.aff_reader.specs.declared.opened.Opened.{Opened}
use Rattle.test_dump.specs.Opening.{IsOpening}

abbrev pub handed : {image : List ℕ} (P : Result Opened Refusal → Type 0) {o : Opened} → P (Ok o) → IsOpening image (Ok o) → (x : Result Opened Refusal) × IsOpening image x × P x
handed P {o} met facts = (Ok o, facts, met)
