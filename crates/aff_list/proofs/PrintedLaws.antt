-- What `list` and `listall` print, and the blocks that make it up. The work areas' earlier contents decide nothing: opening clears them. Blocks in order add up
-- since each one ends where the next begins. Assumes nothing.
use mathlib.Core.Path.{◌≡◌, refl, sym, ap, ◌∙◌}
use mathlib.Core.Bool.{Bool, true, false, cond, true≢false}
use mathlib.Core.List.{List, [], ◌∷◌, ◌++◌, append-nil}
use mathlib.Core.Logic.{◌↔◌, ⊎_elim}
use Prim.Native.Nat.{ℕ, suc, ◌+◌, ◌≤◌, ◌<◌}
use native.Mathlib.Omega.{arith}
use lib.ListN.{length, get_or, take, drop, length-replicate, drop_of_length-le}
use lib.Seq.{length-take-le, take_all}
use lib.Dec.{eqb}
use borrow.Author.Tests.{eqb-true, ltb-true, lt-ltb, le-ltb}
use Rattle.aff_format.specs.Answer.{Answer, accepted, refused, refusal, unless}
use Rattle.aff_format.specs.Kind.{is_void}
use Rattle.aff_format.specs.Lowest.{lowest_from, is_at}
use Rattle.std.specs.Prelude.{Option, Some, None}
use Rattle.aff_format.proofs.AnswerLaws.{not_both}
use Rattle.aff_format.proofs.LowestLaws.{lowest_is, none_holds}
use Rattle.aff_format.proofs.EditionLaws.{length_number_form}
use Rattle.aff_open.specs.Opening.{lengths_wrong, open_answer, area_filled, string_places, node_places, strings_after, entries_after}
use Rattle.aff_open.specs.Sections.{edition_in, form_for}
use Rattle.aff_reader.specs.declared.reader.Reader.{Reader}
use Rattle.aff_reader.specs.Belongs.{ReaderBelongs}
use Rattle.aff_reader.proofs.BelongsLaws.{belongs_record}
use Rattle.aff_open.proofs.OpenedLaws.{opened_belongs}
use Rattle.aff_open.proofs.FaultLaws.{lengths_asks}
use Rattle.aff_tables.proofs.OrderLaws.{split}
use Rattle.aff_listing.specs.ListingOrder.{is_listed, listing_order}
use Rattle.aff_listing.specs.Once.{hit, occurrences}
use Rattle.aff_nodes.specs.Recall.{kind_at, path_at}
use Rattle.aff_listing.specs.declared.choice.Choice.{Choice}
use Rattle.aff_listing.specs.declared.choice.Choice.TheVariants.{NotVoid}
use Rattle.aff_listing.proofs.ListedLaws.{order_count, order_exist, order_none}
use Rattle.aff_listing.proofs.OnceLaws.{occurs}
use Rattle.aff_list.specs.Lister.{input_limit, path_limit, path_too_long, rows, rows_from, Starts, FilledFrom, none, more, judged, with_paths, printed_text, too_long_line, listed, zero_area, printed, LongPath, Printing}
use Rattle.aff_list.proofs.DigitLaws.{digits_enough}
use Rattle.aff_list.proofs.LineBytesLaws.{row_bytes}

pub printed_long : (choice : Choice) (input : List ℕ) → input_limit < length input → printed choice input ≡ too_long_line
unfolding printed
printed_long choice input h = rw (lt-ltb input_limit (length input) h)

-- ---- The work areas.

zero_length : length zero_area ≡ 2048
unfolding zero_area
zero_length = length-replicate {A = ℕ} 2048 0

area_same : (answer : Answer Reader) (area places : List ℕ) → length area ≡ 2048 → area_filled answer area places ≡ area_filled answer zero_area places
area_same (accepted r) area places h = rw (h, zero_length)
area_same (refused t) area places h = rw (h, zero_length)

module _ (choice : Choice) (input : List ℕ) where
  abbrev answer : Answer Reader
  answer = open_answer input (form_for input) 2048 2048

  abbrev ss : List ℕ
  ss = area_filled answer zero_area (string_places (edition_in input) input)

  abbrev es : List ℕ
  es = area_filled answer zero_area (node_places (edition_in input) input)

  module _ (short : length input ≤ input_limit) (strings entries : List ℕ) (s : length strings ≡ 2048) (e : length entries ≡ 2048) where
    right : lengths_wrong input (form_for input) (length strings) (length entries) ≡ false
    right = (lengths_asks input (form_for input) (length strings) (length entries)).1 (length_number_form (edition_in input), s, e, omega arith)

    strings_same : strings_after input (form_for input) strings entries ≡ ss
    unfolding strings_after
    strings_same = rw (right, s, e) (area_same answer strings (string_places (edition_in input) input) s)

    entries_same : entries_after input (form_for input) strings entries ≡ es
    unfolding entries_after
    entries_same = rw (right, s, e) (area_same answer entries (node_places (edition_in input) input) e)

    listed_same : listed input choice strings entries ≡ printed_text input ss es choice (with_paths input ss es choice answer)
    unfolding listed judged
    listed_same = rw (strings_same, entries_same, s, e)

pub printed_short : (choice : Choice) (input strings entries : List ℕ) → length input ≤ input_limit → length strings ≡ 2048 → length entries ≡ 2048
    → printed choice input ≡ listed input choice strings entries
unfolding printed
printed_short choice input strings entries h s e =
    rw (le-ltb input_limit (length input) h)
    (listed_same choice input h zero_area zero_area zero_length zero_length ∙ sym (listed_same choice input h strings entries s e))

-- ---- Void nodes alone.

pub printed_nothing : (input strings entries : List ℕ) {r : Reader} → length input ≤ input_limit → length strings ≡ 2048 → length entries ≡ 2048
    → open_answer input (form_for input) (length strings) (length entries) ≡ accepted r
    → ((node : ℕ) → node ≤ r.nodes → is_void (kind_at input (entries_after input (form_for input) strings entries) node) ≡ true)
    → printed NotVoid input ≡ []
unfolding listed judged rows lowest_from
printed_nothing input strings entries {r} h s e opened void =
    let ss = strings_after input (form_for input) strings entries in
    let es = entries_after input (form_for input) strings entries in
    let b : ReaderBelongs input r ss es = belongs_record (opened_belongs input (form_for input) strings entries opened) in
    let none : listing_order input r ss es NotVoid ≡ [] = order_none b NotVoid (λ k g. rw (void k g)) in
    let passes : with_paths input ss es NotVoid (accepted r) ≡ accepted r = rw none in
    let decided : judged input NotVoid strings entries ≡ accepted r = rw opened passes in
    printed_short NotVoid input strings entries h s e ∙ ap (printed_text input ss es NotVoid) decided ∙ ap (rows input r ss es) none

-- ---- Paths that are too long.

-- A number that occurs in a list has a place in it.
place_of : (l : List ℕ) (k : ℕ) → 0 < occurrences k l → (j : ℕ) × (j < length l) × (get_or l j 0 ≡ k)
unfolding occurrences hit
place_of [] k h = absurd (omega arith)
place_of (x ∷ l) k h = go (eqb k x) refl h (place_of l k)
  where
    go : (b : Bool) → eqb k x ≡ b → 0 < cond b 1 0 + occurrences k l → (0 < occurrences k l → (j : ℕ) × (j < length l) × (get_or l j 0 ≡ k))
        → (j : ℕ) × (j < suc (length l)) × (get_or (x ∷ l) j 0 ≡ k)
    go true e q later = (0, omega arith, sym (eqb-true k x e))
    go false e q later = let (j, i, f) = later (omega arith) in (suc j, omega arith, f)

module _ {image : List ℕ} {reader : Reader} {strings entries : List ℕ} (b : ReaderBelongs image reader strings entries) (choice : Choice) where
  abbrev order : List ℕ
  order = listing_order image reader strings entries choice

  abbrev keep : ℕ → Bool
  keep = is_listed image entries choice

  -- A number in listing order is that of a node listed; and back.
  placed_listed : (k : ℕ) → k < length order → keep (get_or order k 0) ≡ true
  placed_listed k h = go (keep (get_or order k 0)) (order_count b choice (get_or order k 0) (order_exist b choice k h))
    where
      go : (t : Bool) → occurrences (get_or order k 0) order ≡ cond t 1 0 → t ≡ true
      go true e = refl
      go false e = absurd (omega (arith, occurs order k h))

  listed_placed : (node : ℕ) → node ≤ reader.nodes → keep node ≡ true → (j : ℕ) × (j < length order) × (get_or order j 0 ≡ node)
  listed_placed node h t =
      let e : occurrences node order ≡ 1 = order_count b choice node h ∙ ap (λ (s : Bool). cond s 1 0) t in
      place_of order node (omega arith)

  abbrev too_long_at : ℕ → Bool
  too_long_at k = path_too_long image reader strings entries (get_or order k 0)

  -- 21 exactly where a path is too long.
  paths_refused : (with_paths image strings entries choice (accepted reader) ≡ refused (refusal 21)) ↔ LongPath image reader strings entries choice
  unfolding path_too_long
  paths_refused = go (lowest_from too_long_at (length order) 0) refl
    where
      go : (l : Option ℕ) → lowest_from too_long_at (length order) 0 ≡ l
          → (unless (is_at l) (refusal 21) (accepted reader) ≡ refused (refusal 21)) ↔ LongPath image reader strings entries choice
      go None e = (
        λ q. not_both (sym q),
        λ (node, h, t, long).
            let (j, i, f) = listed_placed node h t in
            let short : too_long_at j ≡ false = none_holds too_long_at (length order) 0 e j (omega arith) (omega arith) in
            let over : too_long_at j ≡ true = rw f (lt-ltb path_limit (length (path_at image reader strings entries node)) long) in
            absurd (true≢false (sym over ∙ short)),
      )
      go (Some k) e =
          let w = lowest_is too_long_at (length order) 0 k e in
          let i : k < length order = omega (arith, w.most) in (
            λ q. (get_or order k 0, order_exist b choice k i, placed_listed k i, ltb-true path_limit (length (path_at image reader strings entries (get_or order k 0))) w.holds),
            λ p. refl,
          )

pub judged_long : (choice : Choice) (input strings entries : List ℕ) {r : Reader} → open_answer input (form_for input) (length strings) (length entries) ≡ accepted r
    → (judged input choice strings entries ≡ refused (refusal 21))
    ↔ LongPath input r (strings_after input (form_for input) strings entries) (entries_after input (form_for input) strings entries) choice
unfolding judged
judged_long choice input strings entries {r} opened =
    let ss = strings_after input (form_for input) strings entries in
    let es = entries_after input (form_for input) strings entries in
    let b : ReaderBelongs input r ss es = belongs_record (opened_belongs input (form_for input) strings entries opened) in
    let is : judged input choice strings entries ≡ with_paths input ss es choice (accepted r) = ap (with_paths input ss es choice) opened in
    let (f, g) = paths_refused b choice in
    (λ q. f (sym is ∙ q), λ p. is ∙ g p)

-- ---- The front of an input.

pub printed_front : (choice : Choice) (input : List ℕ) (size : ℕ) → input_limit < size → printed choice (take size input) ≡ printed choice input
printed_front choice input size h =
    ⊎_elim
    (λ (l : size < length input). printed_long choice (take size input) (rw (length-take-le size input (omega arith)) h) ∙ sym (printed_long choice input (omega arith)))
    (λ (l : length input ≤ size). ap (printed choice) (take_all size input l))
    (split size (length input))

-- ---- Blocks in order.

-- No line comes after the last.
pub rows_end : (image : List ℕ) (reader : Reader) (strings entries order : List ℕ) (k : ℕ) → length order ≤ k → rows_from image reader strings entries order k ≡ []
unfolding rows
rows_end image reader strings entries order k h = let e : drop k order ≡ [] = drop_of_length-le order {i = k} h in rw e

module _ {image : List ℕ} {reader : Reader} {strings entries : List ℕ} where
  filled_rows : {order : List ℕ} {from : ℕ} {text : List ℕ} → FilledFrom image reader strings entries order from text
      → text ≡ rows_from image reader strings entries order from
  filled_rows {order} {from} (none h) = sym (rows_end image reader strings entries order from h)
  filled_rows (more {from} {next} {used} {before} {after} {text} l f g) = ap (λ (l : List ℕ). take used after ++ l) (filled_rows g) ∙ sym f.text

  filled_none : {order : List ℕ} {from : ℕ} {text : List ℕ} → length order ≤ from → FilledFrom image reader strings entries order from text → text ≡ []
  filled_none h (none g) = refl
  filled_none h (more l f g) = absurd (omega arith)

  pub blocks_in_order : {whole numbers : List ℕ} {lines next used : ℕ} {before after rest : List ℕ}
      → Starts image reader strings entries whole numbers lines next used before after
      → FilledFrom image reader strings entries (take lines numbers) next rest
      → take used after ++ rest ≡ whole
  blocks_in_order {whole} {numbers} {lines} {next} {used} {before} {after} {rest} s g =
      let size : length (take lines numbers) ≡ lines = length-take-le lines numbers s.few in
      ⊎_elim
      (λ (h : next < lines). rw (filled_rows g) (sym (s.goes_on h)))
      (λ (h : lines ≤ next). rw (filled_none (omega arith) g, append-nil) (sym (s.whole h)))
      (split next lines)

pub printing : Printing
printing =
    record {
      digits = digits_enough;
      long = printed_long;
      short = printed_short;
      one_line = row_bytes;
      front = printed_front;
      nothing = printed_nothing;
      long_path = judged_long;
      in_order = λ choice s g. blocks_in_order s g;
    }
