-- Two puts in both orders, worked: nodes `a` and `b` of the root, the Char array `abc` in `a`, one Double in `b`, close (request C-23). In a buffer of 238 bytes both orders are accepted;
-- the files differ in their bytes, in the places of data and in length, and show one tree. In 237 bytes only one order is: so acceptance in both is asked.
use Rattle.std.specs.Prelude.{◌≡◌, true, List, [], ◌∷◌, ℕ, ◌≤◌, length}
use Rattle.aff_format.specs.Answer.{accepted, refused, refusal}
use Rattle.aff_format.specs.Edition.{edition_number, is_written}
use Rattle.aff_format.specs.Limits.{text_area, tree_area}
use Rattle.aff_format.specs.Tree.{Tree}
use Rattle.aff_format.specs.declared.edition.Edition.{Edition}
use Rattle.aff_format.specs.declared.kind.Kind.TheVariants.{Void, Char, Double}
use Rattle.aff_run.specs.Run.{Call, make, put, close, Run, run_answers, run_stores, run_state, run_tree, run_layout}
use Rattle.aff.specs.DataPlaces.{described_file}
use Rattle.aff.specs.PutOrder.{SameTree}
use Rattle.aff.specs.Worked.{worked_form, name_a}

abbrev pub name_b : List ℕ
name_b = 98 ∷ []

abbrev pub abc : List ℕ
abc = 97 ∷ 98 ∷ 99 ∷ []

-- The bytes of 1.0.
abbrev pub one : List ℕ
one = 0x3f ∷ 0xf0 ∷ 0 ∷ 0 ∷ 0 ∷ 0 ∷ 0 ∷ 0 ∷ []

-- The calls after begin, with the allowances of the puts and of close: the letters first, and the Double first.
abbrev pub letters_first : ℕ → ℕ → ℕ → List Call
letters_first letters number closes = make 0 name_a ∷ make 0 name_b ∷ put 1 2 abc letters ∷ put 2 4 one number ∷ close closes ∷ []

abbrev pub number_first : ℕ → ℕ → ℕ → List Call
number_first letters number closes = make 0 name_a ∷ make 0 name_b ∷ put 2 4 one number ∷ put 1 2 abc letters ∷ close closes ∷ []

-- The run of an edition in a buffer, with these areas and calls.
abbrev pub run_in : Edition → List ℕ → List ℕ → List ℕ → ℕ → List Call → Run
run_in e buffer text tree begins calls =
    record { edition = edition_number e; buffer = buffer; form = worked_form e; text = text; tree = tree; allowance = begins; calls = calls }

abbrev pub both_tree : Tree
both_tree =
    record { parent = 0; name = name_a; kind = Char; bytes = abc }
    ∷ record { parent = 0; name = name_b; kind = Double; bytes = one }
    ∷ []

-- The same with no data in `b`.
abbrev pub letters_tree : Tree
letters_tree =
    record { parent = 0; name = name_a; kind = Char; bytes = abc }
    ∷ record { parent = 0; name = name_b; kind = Void; bytes = [] }
    ∷ []

-- ---- A buffer of 238 bytes.

pub record BothOrders (letters number : Run) : Type 0 where
  -- Every call is accepted: the makes report nodes 1 and 2, the letters 3 stores; the Double 13 after them, 5 of them padding, and 8 before them; close 222.
  pub letters_answers_is : run_answers letters ≡ accepted 1 ∷ accepted 2 ∷ accepted 3 ∷ accepted 13 ∷ accepted 222 ∷ []
  pub number_answers_is : run_answers number ≡ accepted 1 ∷ accepted 2 ∷ accepted 8 ∷ accepted 3 ∷ accepted 222 ∷ []
  -- 1 + 3 + 13 + 222 = 239 and 1 + 8 + 3 + 222 = 234 byte stores.
  pub letters_stores : length (run_stores letters) ≡ 239
  pub number_stores : length (run_stores number) ≡ 234
  -- The data of `a` and `b` are at 168 and 176, and at 176 and 168. They end at 184 and at 179, so the files have 238 and 233 bytes.
  pub letters_places : (run_layout letters).offsets ≡ 168 ∷ 176 ∷ []
  pub number_places : (run_layout number).offsets ≡ 176 ∷ 168 ∷ []
  pub letters_end : (run_layout letters).end ≡ 184
  pub number_end : (run_layout number).end ≡ 179
  pub letters_size : length (described_file letters) ≡ 238
  pub number_size : length (described_file number) ≡ 233
  -- The buffers differ, and show one tree.
  pub differ : (run_state letters).buffer ≡ (run_state number).buffer → ⊥
  pub same_tree : SameTree letters number
  pub nodes : same_tree.shown ≡ both_tree

-- In every edition that is written and every buffer of 238 bytes, with areas of their lengths and any content, and any allowances that suffice in both orders.
abbrev pub OrdersIn238 : Type 0
OrdersIn238 = (e : Edition) → is_written e ≡ true → (buffer text tree : List ℕ) (begins letters number closes : ℕ) → length buffer ≡ 238 → length text ≡ text_area → length tree ≡ tree_area
    → 1 ≤ begins → 3 ≤ letters → 13 ≤ number → 222 ≤ closes
    → BothOrders (run_in e buffer text tree begins (letters_first letters number closes)) (run_in e buffer text tree begins (number_first letters number closes))

-- ---- A buffer of 237 bytes.

pub record OneOrder (letters number : Run) : Type 0 where
  -- After the letters the Double is refused by 21; before them it is not.
  pub letters_answers_is : run_answers letters ≡ accepted 1 ∷ accepted 2 ∷ accepted 3 ∷ refused (refusal 21) ∷ accepted 210 ∷ []
  pub number_answers_is : run_answers number ≡ accepted 1 ∷ accepted 2 ∷ accepted 8 ∷ accepted 3 ∷ accepted 222 ∷ []
  -- So the trees differ.
  pub letters_nodes : run_tree letters ≡ letters_tree
  pub number_nodes : run_tree number ≡ both_tree

abbrev pub OrdersIn237 : Type 0
OrdersIn237 = (e : Edition) → is_written e ≡ true → (buffer text tree : List ℕ) (begins letters number closes : ℕ) → length buffer ≡ 237 → length text ≡ text_area → length tree ≡ tree_area
    → 1 ≤ begins → 3 ≤ letters → 13 ≤ number → 222 ≤ closes
    → OneOrder (run_in e buffer text tree begins (letters_first letters number closes)) (run_in e buffer text tree begins (number_first letters number closes))
