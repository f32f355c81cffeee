-- The writer's record, and what a call leaves of it: document 01, 'Writing keys' and 'Numbers handed back'.
use Rattle.std.specs.Prelude.{true, false, cond, List, ℕ, ◌-◌, eqb, replicate}
use Rattle.aff_format.specs.Answer.{Answer, accepted, refused}
use Rattle.aff_format.specs.Edition.{header_size, edition_by}
use Rattle.aff_format.specs.declared.edition.Edition.{Edition}
use Rattle.aff_areas.specs.declared.writer.Writer.{Writer}

-- The edition of the file. A record that belongs names one that is written.
abbrev pub writer_edition : Writer → Edition
writer_edition w = edition_by w.edition

-- Where the data of the file begin: after its header.
abbrev pub data_place : Writer → ℕ
data_place w = header_size (writer_edition w)

-- Bytes of the data section: from there to the end of data, padding included.
abbrev pub data_size : Writer → ℕ
data_size w = w.end - data_place w

-- The all-zero record: what a begin refused by 1, 3 or 21 leaves.
abbrev pub no_writer : Writer
no_writer = record { length = 0; edition = 0; form = replicate 12 0; strings = 0; text = 0; nodes = 0; end = 0; live = false }

-- The record of an accepted begin. No data yet: they end where they begin.
abbrev pub fresh_writer : ℕ → ℕ → List ℕ → Writer
fresh_writer edition size form =
    record { length = size; edition = edition; form = form; strings = 0; text = 0; nodes = 0; end = header_size (edition_by edition); live = true }

-- The record, but closed or stopped.
abbrev pub stopped : Writer → Writer
stopped w =
    record {
      length = w.length;
      edition = w.edition;
      form = w.form;
      strings = w.strings;
      text = w.text;
      nodes = w.nodes;
      end = w.end;
      live = false;
    }

-- The record after a call: `next` where it is accepted; after 23 as before, but stopped; after another refusal the very record.
abbrev pub writer_after : Answer ℕ → Writer → Writer → Writer
writer_after (accepted n) next given = next
writer_after (refused t) next given = cond (eqb t.number 23) (stopped given) given

-- An area after a call: only an accepted one changes it.
abbrev pub area_after : Answer ℕ → List ℕ → List ℕ → List ℕ
area_after (accepted n) next given = next
area_after (refused t) next given = given
