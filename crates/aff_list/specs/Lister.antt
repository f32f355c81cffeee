-- What the listers print of an image: document 01, 'The lister'; document 02, C-12. `list` prints the nodes that are not Void, `listall` all nodes.
use Rattle.std.specs.Prelude.{◌≡◌, Bool, true, cond, List, [], ◌∷◌, ◌++◌, ◌↔◌, ℕ, ◌+◌, ◌≤◌, ◌<◌, ltb, length, get_or, take, drop, replicate, None, Result, Ok, Err}
use Rattle.aff_format.specs.Answer.{Answer, accepted, refused, Check, check, refusal, first_wrong}
use Rattle.aff_format.specs.Bytes.{Octets}
use Rattle.aff_format.specs.Kind.{is_void}
use Rattle.aff_format.specs.Lowest.{lowest_from, is_at}
use Rattle.aff_format.specs.Refusal.{code_of_refusal}
use Rattle.aff_format.specs.declared.refusal.Refusal.{Refusal}
use Rattle.aff_reader.specs.Belongs.{ReaderBelongs}
use Rattle.aff_open.specs.Opening.{open_answer, strings_after, entries_after}
use Rattle.aff_open.specs.Sections.{form_for}
use Rattle.aff_reader.specs.declared.reader.Reader.{Reader}
use Rattle.aff_read.specs.Paths.{front_written}
use Rattle.aff_listing.specs.ListingOrder.{is_listed, listing_order, listed_count}
use Rattle.aff_listing.specs.Once.{occurrences}
use Rattle.aff_nodes.specs.Recall.{kind_at, path_at}
use Rattle.aff_listing.specs.declared.choice.Choice.{Choice}
use Rattle.aff_listing.specs.declared.choice.Choice.TheVariants.{NotVoid}
use Rattle.aff_list.specs.Line.{decimal, line_at}
use Rattle.aff_list.specs.declared.blocks.Prepared.{Prepared}

-- The longest input that is listed, and whether an input is longer.
abbrev pub input_limit : ℕ
input_limit = 65536

abbrev pub is_long : List ℕ → Bool
is_long input = ltb input_limit (length input)

-- The longest path of a node that is printed, in its own bytes, and the longest line with its line feed: four bytes at most are printed for a byte of the
-- path, and at most 19 follow the path, then the line feed.
abbrev pub path_limit : ℕ
path_limit = 65536

abbrev pub row_limit : ℕ
row_limit = 262164

-- Some numbers are those of nodes.
abbrev pub Exist : Reader → List ℕ → Type 0
Exist reader order = (k : ℕ) → k < length order → get_or order k 0 ≤ reader.nodes

module _ (image : List ℕ) (reader : Reader) (strings entries : List ℕ) where
  unfoldable pub path_too_long : ℕ → Bool
  path_too_long k = ltb path_limit (length (path_at image reader strings entries k))

  -- 21: of some nodes, one has a path that is too long.
  abbrev pub path_checks : List ℕ → List Check
  path_checks order = check (is_at (lowest_from (λ k. path_too_long (get_or order k 0)) (length order) 0)) (refusal 21) ∷ []

  -- A node's line with its line feed.
  unfoldable pub row : ℕ → List ℕ
  row node = line_at image reader strings entries node ++ (10 ∷ [])

  -- The lines of some nodes.
  unfoldable pub rows : List ℕ → List ℕ
  rows [] = []
  rows (node ∷ nodes) = row node ++ rows nodes

  -- Of some nodes: the line at place k, and the lines from place k on; from place 0 on they are all.
  abbrev pub row_at : List ℕ → ℕ → List ℕ
  row_at order k = row (get_or order k 0)

  abbrev pub rows_from : List ℕ → ℕ → List ℕ
  rows_from order k = rows (drop k order)

  -- All is ready for the lines of some nodes: the record belongs to the caller's buffers, the nodes exist, and none has a path that is too long.
  pub record Ready (order : List ℕ) : Type 0 where
    pub belongs : ReaderBelongs image reader strings entries
    pub exist : Exist reader order
    pub fits : lowest_from (λ k. path_too_long (get_or order k 0)) (length order) 0 ≡ None

  -- A block is filled from its front with the lines of some nodes from place `from` up to place `next`: as many as fit, and one at least where one is
  -- left. The rest of it stays.
  pub record Fills (order : List ℕ) (from next used : ℕ) (before after : List ℕ) : Type 0 where
    pub more : from < length order → from < next
    pub most : next ≤ length order
    pub inside : used ≤ length after
    pub text : rows_from order from ≡ take used after ++ rows_from order next
    pub stays : drop used after ≡ drop used before
    pub full : next < length order → length after < used + length (row_at order next)

  -- The first block of a text, of which the nodes listed are the first `lines` of some numbers. Either it holds the whole text, and `next` is the number
  -- of lines; or it is full, and the lines from place `next` on come after it, for which all is ready. The rest of the block stays.
  pub record Starts (text numbers : List ℕ) (lines next used : ℕ) (before after : List ℕ) : Type 0 where
    pub few : lines ≤ length numbers
    pub most : next ≤ lines
    pub inside : used ≤ length after
    pub stays : drop used after ≡ drop used before
    pub whole : lines ≤ next → text ≡ take used after
    pub goes_on : next < lines → text ≡ take used after ++ rows_from (take lines numbers) next
    pub full : next < lines → length after < used + length (row_at (take lines numbers) next)
    pub ready : next < lines → Ready (take lines numbers)

  -- Blocks filled one after another with the lines of some nodes from place `from` on, until no line is left; and their bytes in that order.
  pub data FilledFrom (order : List ℕ) : ℕ → List ℕ → Type 0 where
    none : {from : ℕ} → length order ≤ from → FilledFrom order from []
    more : {from next used : ℕ} {before after text : List ℕ} → from < length order → Fills order from next used before after → FilledFrom order next text
        → FilledFrom order from (take used after ++ text)

-- The refusal of opening, else 21 where a node listed has a path that is too long, else the record.
abbrev pub with_paths : List ℕ → List ℕ → List ℕ → Choice → Answer Reader → Answer Reader
with_paths image strings entries choice (refused t) = refused t
with_paths image strings entries choice (accepted r) = first_wrong (path_checks image r strings entries (listing_order image r strings entries choice)) r

-- What is decided before the first line is printed.
unfoldable pub judged : List ℕ → Choice → List ℕ → List ℕ → Answer Reader
judged image choice strings entries =
    with_paths image (strings_after image (form_for image) strings entries) (entries_after image (form_for image) strings entries) choice
    (open_answer image (form_for image) (length strings) (length entries))

-- The answer that `begin` returns, and its number of lines: none after a refusal.
abbrev pub answer_of_prepared : Result Prepared Refusal → Answer Reader
answer_of_prepared (Ok p) = accepted p.reader
answer_of_prepared (Err q) = refused (code_of_refusal q)

abbrev pub lines_of : Result Prepared Refusal → ℕ
lines_of (Ok p) = p.lines
lines_of (Err q) = 0

-- How many lines there are: one for each node listed; none after a refusal.
abbrev pub lines_by : List ℕ → List ℕ → List ℕ → Choice → Answer Reader → ℕ
lines_by image strings entries choice (refused t) = 0
lines_by image strings entries choice (accepted r) = listed_count image r strings entries choice

unfoldable pub lines_after : List ℕ → Choice → List ℕ → List ℕ → ℕ
lines_after image choice strings entries =
    lines_by image (strings_after image (form_for image) strings entries) (entries_after image (form_for image) strings entries) choice (judged image choice strings entries)

-- After an accepted opening, listing order is at the front of its area, also where a path is too long; a refused one leaves the area.
abbrev pub with_order : List ℕ → List ℕ → List ℕ → Choice → List ℕ → Answer Reader → List ℕ
with_order image strings entries choice numbers (refused t) = numbers
with_order image strings entries choice numbers (accepted r) =
    front_written (accepted (listed_count image r strings entries choice)) (listing_order image r strings entries choice) numbers

-- The area for listing order, before the first line is printed.
unfoldable pub order_after : List ℕ → Choice → List ℕ → List ℕ → List ℕ → List ℕ
order_after image choice strings entries numbers =
    with_order image (strings_after image (form_for image) strings entries) (entries_after image (form_for image) strings entries) choice numbers
    (open_answer image (form_for image) (length strings) (length entries))

-- ---- The whole text that is printed.

-- `too long` and a line feed.
abbrev pub too_long_line : List ℕ
too_long_line = 116 ∷ 111 ∷ 111 ∷ 32 ∷ 108 ∷ 111 ∷ 110 ∷ 103 ∷ 10 ∷ []

-- A number in decimal digits. No number n has more than n + 1 of them.
unfoldable pub in_decimal : ℕ → List ℕ
in_decimal n = decimal (n + 1) n

-- `refused N P` and a line feed.
abbrev pub refused_word : List ℕ
refused_word = 114 ∷ 101 ∷ 102 ∷ 117 ∷ 115 ∷ 101 ∷ 100 ∷ 32 ∷ []

unfoldable pub refusal_line : ℕ → ℕ → List ℕ
refusal_line number place = refused_word ++ (in_decimal number ++ (32 ∷ (in_decimal place ++ (10 ∷ []))))

-- What is printed once all is decided: the line of a refusal, or the line of each node listed, in listing order.
abbrev pub printed_text : List ℕ → List ℕ → List ℕ → Choice → Answer Reader → List ℕ
printed_text image strings entries choice (refused t) = refusal_line t.number t.place
printed_text image strings entries choice (accepted r) = rows image r strings entries (listing_order image r strings entries choice)

-- What is printed of an input that is not too long, opened with work areas that hold these numbers before.
unfoldable pub listed : List ℕ → Choice → List ℕ → List ℕ → List ℕ
listed input choice strings entries =
    printed_text input (strings_after input (form_for input) strings entries) (entries_after input (form_for input) strings entries) choice
    (judged input choice strings entries)

-- A work area: 2,048 zeros.
unfoldable pub zero_area : List ℕ
zero_area = replicate 2048 0

-- What `list` (the nodes that are not Void) and `listall` (all nodes) print: the bytes of standard output for the bytes of standard input. Above 65,536
-- bytes it is `too long`, whatever the input holds. Else it is the line `refused N P`, where opening with the form of our programs refuses, or the path
-- of a node listed is above 65,536 bytes (21). Else it is the line of each node listed, in listing order. Each line ends in a line feed.
unfoldable pub printed : Choice → List ℕ → List ℕ
printed choice input = cond (is_long input) too_long_line (listed input choice zero_area zero_area)

-- Of the nodes that a choice lists, one has a path of more than 65,536 bytes. Its own bytes count, not those that are printed for them.
abbrev pub LongPath : List ℕ → Reader → List ℕ → List ℕ → Choice → Type 0
LongPath image reader strings entries choice =
    (node : ℕ) × (node ≤ reader.nodes) × (is_listed image entries choice node ≡ true) × (65536 < length (path_at image reader strings entries node))

-- What is proved of these definitions: `printing` in proofs/PrintedLaws.antt.
pub record Printing : Type 0 where
  -- The limit of `in_decimal` cuts no number off: any larger one gives the same digits.
  pub digits : (n most : ℕ) → n < most → decimal most n ≡ in_decimal n
  -- An input above 65,536 bytes, whatever it holds.
  pub long : (choice : Choice) (input : List ℕ) → input_limit < length input → printed choice input ≡ too_long_line
  -- Any other: work areas of 2,048 numbers give the same text, whatever they hold before.
  pub short : (choice : Choice) (input strings entries : List ℕ) → length input ≤ input_limit → length strings ≡ 2048 → length entries ≡ 2048
      → printed choice input ≡ listed input choice strings entries
  -- A line that is printed, of an input of bytes: it has exactly two spaces, and its line feed, its last byte, is the only one.
  pub one_line : (image : List ℕ) (reader : Reader) (strings entries : List ℕ) → Octets image → (node : ℕ)
      → (occurrences 32 (row image reader strings entries node) ≡ 2) × (occurrences 10 (row image reader strings entries node) ≡ 1)
  -- Of an input only as many bytes need be read as fill a buffer above the limit.
  pub front : (choice : Choice) (input : List ℕ) (size : ℕ) → input_limit < size → printed choice (take size input) ≡ printed choice input
  -- A file that opens and whose nodes are all Void: `list` prints nothing, and that is no refusal. Paths of any length are fine.
  pub nothing : (input strings entries : List ℕ) {r : Reader} → length input ≤ input_limit → length strings ≡ 2048 → length entries ≡ 2048
      → open_answer input (form_for input) (length strings) (length entries) ≡ accepted r
      → ((node : ℕ) → node ≤ r.nodes → is_void (kind_at input (entries_after input (form_for input) strings entries) node) ≡ true)
      → printed NotVoid input ≡ []
  -- A file that opens: 21 exactly where a node listed has a path that is too long.
  pub long_path : (choice : Choice) (input strings entries : List ℕ) {r : Reader} → open_answer input (form_for input) (length strings) (length entries) ≡ accepted r
      → (judged input choice strings entries ≡ refused (refusal 21))
      ↔ LongPath input r (strings_after input (form_for input) strings entries) (entries_after input (form_for input) strings entries) choice
  -- The first block, and the blocks filled one after another from the place where it ends: their bytes in that order are what is printed.
  pub in_order : (choice : Choice) {input : List ℕ} {reader : Reader} {strings entries numbers : List ℕ} {lines next used : ℕ} {before after rest : List ℕ}
      → Starts input reader strings entries (printed choice input) numbers lines next used before after
      → FilledFrom input reader strings entries (take lines numbers) next rest
      → take used after ++ rest ≡ printed choice input
