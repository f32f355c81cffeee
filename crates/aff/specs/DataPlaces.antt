-- Where the data are in the file of a run, the file byte for byte, and how large a buffer has to be for it: request C-22. The layout of the data (`run_layout`: their end,
-- where those of each node begin, and the bytes of the data section) is described by the calls' arguments and which were accepted, as the tree is
-- (crates/aff_run/specs/Run.antt).
use Rattle.std.specs.Prelude.{◌≡◌, true, List, ◌∷◌, ◌++◌, ℕ, ◌+◌, ◌-◌, ◌*◌, ◌%◌, ◌≤◌, ◌<◌, length, get_or, drop}
use Rattle.aff_format.specs.Align.{aligned}
use Rattle.aff_format.specs.Answer.{accepted}
use Rattle.aff_format.specs.Bytes.{part}
use Rattle.aff_format.specs.Edition.{header_size, edition_by}
use Rattle.aff_format.specs.Limits.{string_limit, node_limit}
use Rattle.aff_open.specs.Opening.{open_answer, strings_after, entries_after}
use Rattle.aff_reader.specs.declared.reader.Reader.{Reader}
use Rattle.aff_reader.specs.declared.reader.Span.{Span}
use Rattle.aff_nodes.specs.Answers.{view_answer}
use Rattle.aff_file.specs.File.{file_of}
use Rattle.aff_run.specs.AnswersFromTree.{close_needs}
use Rattle.aff_run.specs.BufferSize.{most_added_by, NoneBy, accepted_puts, accepted_sizes}
use Rattle.aff_run.specs.DescribedFile.{described_contents}
use Rattle.aff_run.specs.TreeSizes.{size_of}
use Rattle.aff_run.specs.Run.{Call, Run, run_begin, run_answers, run_state, run_tree, run_layout, run_closed}
use Rattle.aff.specs.Demand1.{NotBy}

-- 'The next multiple of 8': the lowest one at or above a place.
pub record NextMultiple (n : ℕ) : Type 0 where
  pub multiple : aligned n % 8 ≡ 0
  pub above : n ≤ aligned n
  pub lowest : (m : ℕ) → n ≤ m → m % 8 ≡ 0 → aligned n ≤ m

-- ---- Views.

-- The view of node n of the file of a run.
pub record ViewPlaced (run : Run) (n : ℕ) (view : Span) : Type 0 where
  -- It begins at a multiple of 8, counted from the start of the file.
  pub multiple : view.offset % 8 ≡ 0
  -- The root's begins at 0; that of another node where the calls describe it, which is 0 for a Void node.
  pub root : n ≡ 0 → view.offset ≡ 0
  pub described : 0 < n → n ≤ length (run_layout run).offsets
  pub place : 0 < n → view.offset ≡ get_or (run_layout run).offsets (n - 1) 0

-- In every run with an accepted close: the buffer that it leaves, opened with the form that begin was given and any areas of 2,048 numbers, has every accepted
-- view there.
abbrev pub ViewsAligned : Type 0
ViewsAligned = (run : Run) → run_closed run ≡ true → (r : Reader) → open_answer (run_state run).buffer run.form string_limit node_limit ≡ accepted r
    → (strings entries : List ℕ) → length strings ≡ string_limit → length entries ≡ node_limit → (n : ℕ) (view : Span)
    → view_answer (run_state run).buffer r (strings_after (run_state run).buffer run.form strings entries) (entries_after (run_state run).buffer run.form strings entries) n
    ≡ accepted view
    → ViewPlaced run n view

-- ---- The file.

-- The file that a run describes, byte for byte: of the edition and with the form that begin was given, the tree and the layout of its data.
abbrev pub described_file : Run → List ℕ
described_file run = file_of (edition_by run.edition) (described_contents (run_tree run) (run_layout run)) run.form

-- The buffer that a run leaves.
pub record FileDescribed (run : Run) : Type 0 where
  -- It is the file described, and then the bytes that it held there before begin. So nothing that it held before is in the file, and nothing after the file changes.
  pub buffer : (run_state run).buffer ≡ described_file run ++ drop (length (described_file run)) run.buffer
  -- From the header on it has the bytes of the data section, padding included.
  pub stored : part (header_size (edition_by run.edition)) (length (run_layout run).stored) (run_state run).buffer ≡ (run_layout run).stored
  -- The file's size is the finished size. It is the end of data and the stores that a close needs (which the accepted one reports, by `AnswersFromTree`), less the header:
  -- include/aff.h gives it so.
  pub size : length (described_file run) ≡ size_of (run_layout run).end (run_tree run)
  pub by_close : length (described_file run) + header_size (edition_by run.edition) ≡ (run_layout run).end + close_needs (edition_by run.edition) (run_tree run)

abbrev pub FilesDescribed : Type 0
FilesDescribed = (run : Run) → run_closed run ≡ true → FileDescribed run

-- ---- The buffer.

-- The data of a run end after the header and all bytes put, with at most 7 bytes of padding for each put.
pub record EndBounds (run : Run) : Type 0 where
  pub least : header_size (edition_by run.edition) + accepted_sizes run.calls (run_answers run) ≤ (run_layout run).end
  pub most : (run_layout run).end ≤ header_size (edition_by run.edition) + accepted_sizes run.calls (run_answers run) + 7 * accepted_puts run.calls (run_answers run)

-- So a buffer that holds the header and the most that each call adds is never too small: no answer of the run is 21.
abbrev pub BufferSuffices : Type 0
BufferSuffices = (run : Run) → header_size (edition_by run.edition) + most_added_by run.calls ≤ length run.buffer
    → NotBy 21 (run_begin run).answer × NoneBy 21 (run_answers run)

-- Two neighbouring calls may change places, and so the calls may come in any order: the size that suffices is the same.
abbrev pub InAnyOrder : Type 0
InAnyOrder = (before : List Call) (c d : Call) (after : List Call) → most_added_by (before ++ (c ∷ d ∷ after)) ≡ most_added_by (before ++ (d ∷ c ∷ after))

pub record DataPlaces : Type 0 where
  pub next_multiple : (n : ℕ) → NextMultiple n
  pub views_aligned : ViewsAligned
  pub files_described : FilesDescribed
  pub end_bounds : (run : Run) → EndBounds run
  pub buffer_suffices : BufferSuffices
  pub in_any_order : InAnyOrder
