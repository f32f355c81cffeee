-- Two puts in both orders, worked: the answers by computation from the tree, the layouts from them, and the tree by the theorem on the order of puts. So what that theorem says is not said
-- of nothing. Assumes nothing.
use mathlib.Core.Path.{◌≡◌, refl, sym, ap, ◌∙◌}
use mathlib.Core.Bool.{true, false}
use mathlib.Core.List.{List, [], ◌∷◌}
use Prim.Native.Nat.{ℕ, ◌+◌, ◌≤◌}
use native.Mathlib.Omega.{arith}
use lib.ListN.{length, get_or}
use borrow.Author.Tests.{le-ltb}
use Rattle.aff_format.specs.Align.{padding}
use Rattle.aff_format.specs.Answer.{Answer, accepted, refused, refusal}
use Rattle.aff_format.specs.Bytes.{part, same_bytes}
use Rattle.aff_format.specs.Edition.{edition_number, is_written, header_size, edition_by}
use Rattle.aff_format.specs.Limits.{text_area, tree_area}
use Rattle.aff_format.specs.Lowest.{lowest_from}
use Rattle.aff_format.specs.Strings.{is_in, text_of}
use Rattle.aff_format.specs.Subkey.{narrow_first, narrow_next, wide, rest_of_subkey, subkey_from}
use Rattle.aff_format.specs.declared.edition.Edition.{Edition}
use Rattle.aff_format.specs.declared.edition.Edition.TheVariants.{One, Two, Three}
use Rattle.aff_format.proofs.BytesLaws.{part_part}
use Rattle.aff_format.proofs.ClimbLaws.{absurd_bool}
use Rattle.aff_format.proofs.EditionLaws.{edition_by_number}
use Rattle.aff_run.specs.TreeSizes.{add_name, names_from, entries_size, size_of}
use Rattle.aff_run.specs.AnswersFromTree.{has_child, too_large, close_needs}
use Rattle.aff_run.specs.CallsAlike.{accepted_of}
use Rattle.aff_run.specs.Run.{make, close, tree_after, DataLayout, no_data, layout_after, closed_by, Run, run_answers, run_state, run_tree, run_layout, run_closed}
use Rattle.aff_run.proofs.AnswersFromTreeLaws.{expected}
use Rattle.aff.specs.PutOrder.{TwoPuts, SameTree}
use Rattle.aff.specs.Worked.{name_a}
use Rattle.aff.specs.WorkedOrders.{name_b, abc, one, letters_first, number_first, run_in, both_tree, BothOrders, OrdersIn238, OneOrder, OrdersIn237}
use Rattle.aff.proofs.DataPlacesLaws.{data_places}
use Rattle.aff.proofs.ExampleLaws.{data_at, begin_accepted, answers_are, stores_are}
use Rattle.aff.proofs.PutOrderLaws.{put_orders}

-- ---- The answers.

abbrev letters_answers : List (Answer ℕ)
letters_answers = accepted 1 ∷ accepted 2 ∷ accepted 3 ∷ accepted 13 ∷ accepted 222 ∷ []

abbrev number_answers : List (Answer ℕ)
number_answers = accepted 1 ∷ accepted 2 ∷ accepted 8 ∷ accepted 3 ∷ accepted 222 ∷ []

module _ (letters number closes : ℕ) (p : 3 ≤ letters) (q : 13 ≤ number) (c : 222 ≤ closes) where
  letters_238 : (e : Edition) → is_written e ≡ true → expected e 238 false (header_size e) [] (letters_first letters number closes) ≡ letters_answers
  unfolding has_child too_large close_needs size_of padding entries_size add_name names_from is_in text_of same_bytes lowest_from narrow_first narrow_next wide rest_of_subkey subkey_from
  letters_238 One w = absurd_bool w
  letters_238 Two w = rw (le-ltb letters 3 p, le-ltb number 13 q, le-ltb closes 222 c)
  letters_238 Three w = rw (le-ltb letters 3 p, le-ltb number 13 q, le-ltb closes 222 c)

  number_238 : (e : Edition) → is_written e ≡ true → expected e 238 false (header_size e) [] (number_first letters number closes) ≡ number_answers
  unfolding has_child too_large close_needs size_of padding entries_size add_name names_from is_in text_of same_bytes lowest_from narrow_first narrow_next wide rest_of_subkey subkey_from
  number_238 One w = absurd_bool w
  number_238 Two w = rw (le-ltb number 8 (omega (arith, q)), le-ltb letters 3 p, le-ltb closes 222 c)
  number_238 Three w = rw (le-ltb number 8 (omega (arith, q)), le-ltb letters 3 p, le-ltb closes 222 c)

  letters_237 : (e : Edition) → is_written e ≡ true
      → expected e 237 false (header_size e) [] (letters_first letters number closes) ≡ accepted 1 ∷ accepted 2 ∷ accepted 3 ∷ refused (refusal 21) ∷ accepted 210 ∷ []
  unfolding has_child too_large close_needs size_of padding entries_size add_name names_from is_in text_of same_bytes lowest_from narrow_first narrow_next wide rest_of_subkey subkey_from
  letters_237 One w = absurd_bool w
  letters_237 Two w = rw (le-ltb letters 3 p, le-ltb closes 210 (omega (arith, c)))
  letters_237 Three w = rw (le-ltb letters 3 p, le-ltb closes 210 (omega (arith, c)))

  number_237 : (e : Edition) → is_written e ≡ true → expected e 237 false (header_size e) [] (number_first letters number closes) ≡ number_answers
  unfolding has_child too_large close_needs size_of padding entries_size add_name names_from is_in text_of same_bytes lowest_from narrow_first narrow_next wide rest_of_subkey subkey_from
  number_237 One w = absurd_bool w
  number_237 Two w = rw (le-ltb number 8 (omega (arith, q)), le-ltb letters 3 p, le-ltb closes 222 c)
  number_237 Three w = rw (le-ltb number 8 (omega (arith, q)), le-ltb letters 3 p, le-ltb closes 222 c)

-- ---- Where the data are.

abbrev letters_layout : DataLayout
letters_layout = record { end = 184; offsets = 168 ∷ 176 ∷ []; stored = 97 ∷ 98 ∷ 99 ∷ 0 ∷ 0 ∷ 0 ∷ 0 ∷ 0 ∷ one }

abbrev number_layout : DataLayout
number_layout = record { end = 179; offsets = 176 ∷ 168 ∷ []; stored = 0x3f ∷ 0xf0 ∷ 0 ∷ 0 ∷ 0 ∷ 0 ∷ 0 ∷ 0 ∷ abc }

letters_laid : (letters number closes : ℕ) → layout_after (no_data 168) (letters_first letters number closes) letters_answers ≡ letters_layout
unfolding padding
letters_laid letters number closes = refl

number_laid : (letters number closes : ℕ) → layout_after (no_data 168) (number_first letters number closes) number_answers ≡ number_layout
unfolding padding
number_laid letters number closes = refl

both_size : (end : ℕ) → size_of end both_tree ≡ end + 54
unfolding size_of entries_size add_name names_from is_in text_of same_bytes
both_size end = omega arith

-- ---- The runs.

module _ (e : Edition) (w : is_written e ≡ true) (buffer text tree : List ℕ) (begins letters number closes : ℕ) (x : length text ≡ text_area) (t : length tree ≡ tree_area)
    (b : 1 ≤ begins) (p : 3 ≤ letters) (q : 13 ≤ number) (c : 222 ≤ closes) where
  abbrev letters_run : Run
  letters_run = run_in e buffer text tree begins (letters_first letters number closes)

  abbrev number_run : Run
  number_run = run_in e buffer text tree begins (number_first letters number closes)

  header_at : header_size (edition_by (edition_number e)) ≡ 168
  header_at = ap header_size (edition_by_number e) ∙ data_at e w

  module _ (r : length buffer ≡ 238) where
    letters_answers_is : run_answers letters_run ≡ letters_answers
    letters_answers_is =
        answers_are e w buffer text tree begins (letters_first letters number closes) x t b 238 r (omega arith) (omega arith) ∙ letters_238 letters number closes p q c e w

    number_answers_is : run_answers number_run ≡ number_answers
    number_answers_is =
        answers_are e w buffer text tree begins (number_first letters number closes) x t b 238 r (omega arith) (omega arith) ∙ number_238 letters number closes p q c e w

    letters_layout_lem : run_layout letters_run ≡ letters_layout
    letters_layout_lem = (λ i. layout_after (no_data (header_at i)) (letters_first letters number closes) (letters_answers_is i)) ∙ letters_laid letters number closes

    number_layout_lem : run_layout number_run ≡ number_layout
    number_layout_lem = (λ i. layout_after (no_data (header_at i)) (number_first letters number closes) (number_answers_is i)) ∙ number_laid letters number closes

    letters_tree_lem : run_tree letters_run ≡ both_tree
    letters_tree_lem = ap (tree_after [] (letters_first letters number closes)) letters_answers_is

    number_tree : run_tree number_run ≡ both_tree
    number_tree = ap (tree_after [] (number_first letters number closes)) number_answers_is

    letters_closed : run_closed letters_run ≡ true
    letters_closed = ap (closed_by (letters_first letters number closes)) letters_answers_is

    number_closed : run_closed number_run ≡ true
    number_closed = ap (closed_by (number_first letters number closes)) number_answers_is

    -- The first byte of data is `a` in the one and 0x3f in the other.
    first_of : (run : Run) (layout : DataLayout) → run_closed run ≡ true → header_size (edition_by run.edition) ≡ 168 → run_layout run ≡ layout → 1 ≤ length layout.stored
        → part 168 1 (run_state run).buffer ≡ part 0 1 layout.stored
    first_of run layout closed at is some =
        let stored : part 168 (length layout.stored) (run_state run).buffer ≡ layout.stored =
        sym (λ i. part (at i) (length (is i).stored) (run_state run).buffer) ∙ (data_places.files_described run closed).stored ∙ ap (λ (l : DataLayout). l.stored) is in
        sym (part_part 168 (length layout.stored) 0 1 (run_state run).buffer (omega (arith, some))) ∙ ap (part 0 1) stored

    buffers_differ : (run_state letters_run).buffer ≡ (run_state number_run).buffer → ⊥
    buffers_differ same =
        let z : ◌≡◌ {A = List ℕ} (97 ∷ []) (0x3f ∷ []) =
        sym (first_of letters_run letters_layout letters_closed header_at letters_layout_lem (omega arith))
        ∙ ap (part 168 1) same
        ∙ first_of number_run number_layout number_closed header_at number_layout_lem (omega arith) in
        let y : ◌≡◌ {A = ℕ} 97 63 = ap (λ (l : List ℕ). get_or l 0 0) z in
        omega arith

    abbrev pair : TwoPuts
    pair =
        record {
          before = make 0 name_a ∷ make 0 name_b ∷ [];
          left = record { node = 1; type = 2; bytes = abc };
          right = record { node = 2; type = 4; bytes = one };
          nodes_differ = λ z. omega (arith, z);
          left_one = letters;
          right_one = number;
          later_one = close closes ∷ [];
          left_other = letters;
          right_other = number;
          later_other = close closes ∷ [];
          later_same = refl;
        }

    trees_same : SameTree letters_run number_run
    trees_same =
        put_orders.put_order letters_run pair (ap accepted_of letters_answers_is ∙ sym (ap accepted_of number_answers_is))
        (record {
          first = ap (λ (l : List (Answer ℕ)). get_or (accepted_of l) 2 false) letters_answers_is;
          second = ap (λ (l : List (Answer ℕ)). get_or (accepted_of l) 3 false) letters_answers_is;
        })
        letters_closed

    both_orders : BothOrders letters_run number_run
    both_orders =
        record {
          letters_answers_is = letters_answers_is;
          number_answers_is = number_answers_is;
          letters_stores = stores_are letters_run (begin_accepted e w buffer text tree begins (letters_first letters number closes) x t b (omega arith) (omega arith)) letters_answers_is;
          number_stores = stores_are number_run (begin_accepted e w buffer text tree begins (number_first letters number closes) x t b (omega arith) (omega arith)) number_answers_is;
          letters_places = ap (λ (l : DataLayout). l.offsets) letters_layout_lem;
          number_places = ap (λ (l : DataLayout). l.offsets) number_layout_lem;
          letters_end = ap (λ (l : DataLayout). l.end) letters_layout_lem;
          number_end = ap (λ (l : DataLayout). l.end) number_layout_lem;
          letters_size =
              (data_places.files_described letters_run letters_closed).size ∙ (λ i. size_of (letters_layout_lem i).end (letters_tree_lem i)) ∙ both_size 184;
          number_size = (data_places.files_described number_run number_closed).size ∙ (λ i. size_of (number_layout_lem i).end (number_tree i)) ∙ both_size 179;
          differ = buffers_differ;
          same_tree = trees_same;
          nodes = sym trees_same.one_describes ∙ letters_tree_lem;
        }

  one_order_lem : length buffer ≡ 237 → OneOrder letters_run number_run
  one_order_lem r =
      let first = answers_are e w buffer text tree begins (letters_first letters number closes) x t b 237 r (omega arith) (omega arith) ∙ letters_237 letters number closes p q c e w in
      let second = answers_are e w buffer text tree begins (number_first letters number closes) x t b 237 r (omega arith) (omega arith) ∙ number_237 letters number closes p q c e w in
      record {
        letters_answers_is = first;
        number_answers_is = second;
        letters_nodes = ap (tree_after [] (letters_first letters number closes)) first;
        number_nodes = ap (tree_after [] (number_first letters number closes)) second;
      }

pub orders_238 : OrdersIn238
orders_238 e w buffer text tree begins letters number closes r x t b p q c = both_orders e w buffer text tree begins letters number closes x t b p q c r

pub orders_237 : OrdersIn237
orders_237 e w buffer text tree begins letters number closes r x t b p q c = one_order_lem e w buffer text tree begins letters number closes x t b p q c r
