-- What is proved of a finished file by what is in it, and of the tree of a file: for every edition, form and contents, and for any bytes after the file.
-- The conditions on the contents are `Lawful` (File.antt). A file that obeys the format is `Obeys` (crates/aff_open/specs), a file that opens and shows
-- exactly a tree is `Shows` (crates/aff_read/specs). Proved by `file_theorems` in proofs/StatementLaws.antt.
use Rattle.std.specs.Prelude.{◌≡◌, true, List, ◌++◌, ℕ, length}
use Rattle.aff_format.specs.Answer.{accepted}
use Rattle.aff_format.specs.Edition.{has_counts}
use Rattle.aff_format.specs.Limits.{string_limit, node_limit}
use Rattle.aff_format.specs.declared.edition.Edition.{Edition}
use Rattle.aff_open.specs.Obeys.{Obeys}
use Rattle.aff_open.specs.Opening.{open_answer}
use Rattle.aff_open.specs.Sections.{edition_in, strings_in, nodes_in}
use Rattle.aff_reader.specs.declared.reader.Reader.{Reader}
use Rattle.aff_read.specs.Shows.{Shows}
use Rattle.aff_file.specs.File.{FileContents, file_of, contents_tree, Lawful}
use Rattle.aff_file.specs.TreeIn.{tree_in}

-- A finished file of some contents, with `rest` after it.
pub record Finished (e : Edition) (c : FileContents) (form rest : List ℕ) : Type 0 where
  -- It obeys the format.
  pub obeys : Obeys (file_of e c form ++ rest) form
  -- Its edition, its strings and its entries are those that it was made of.
  pub edition : edition_in (file_of e c form ++ rest) ≡ e
  pub strings : strings_in e (file_of e c form ++ rest) ≡ c.names
  pub nodes : nodes_in e (file_of e c form ++ rest) ≡ c.entries
  -- It opens, and shows exactly the tree of its contents.
  pub shows : Shows (file_of e c form ++ rest) form (contents_tree e c)
  -- Opening reports the record count of its data, where the edition has record counts.
  pub records : has_counts e ≡ true → (r : Reader) → open_answer (file_of e c form ++ rest) form string_limit node_limit ≡ accepted r → r.records ≡ c.records

pub record FileTheorems : Type 0 where
  -- A file of lawful contents is a finished file of them, whatever bytes follow it.
  pub finished : (e : Edition) (c : FileContents) (form rest : List ℕ) → Lawful e c form (length rest) → Finished e c form rest
  -- Every image that opening accepts shows the tree of its own tables, whoever wrote it.
  pub opened_shows : (image form : List ℕ) {r : Reader} → open_answer image form string_limit node_limit ≡ accepted r → Shows image form (tree_in (edition_in image) image)
