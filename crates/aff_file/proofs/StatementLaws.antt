-- The statement about finished files, from the laws that do the work. Assumes nothing.
use mathlib.Core.List.{List}
use Prim.Native.Nat.{ℕ}
use lib.ListN.{length}
use Rattle.aff_format.specs.declared.edition.Edition.{Edition}
use Rattle.aff_file.specs.File.{FileContents, Lawful}
use Rattle.aff_file.specs.Statement.{Finished, FileTheorems}
use Rattle.aff_file.proofs.FileLaws.{file_obeys, file_edition, file_strings, file_nodes}
use Rattle.aff_file.proofs.FileShowsLaws.{file_shows, file_counts}
use Rattle.aff_file.proofs.OpenedShowsLaws.{opened_shows}

pub finished : (e : Edition) (c : FileContents) (form rest : List ℕ) → Lawful e c form (length rest) → Finished e c form rest
finished e c form rest g =
    record {
      obeys = file_obeys e c form rest g;
      edition = file_edition e c form rest g;
      strings = file_strings e c form rest g;
      nodes = file_nodes e c form rest g;
      shows = file_shows e c form rest g;
      records = file_counts e c form rest g;
    }

pub file_theorems : FileTheorems
file_theorems = record { finished = finished; opened_shows = λ image form h. opened_shows image form h }
