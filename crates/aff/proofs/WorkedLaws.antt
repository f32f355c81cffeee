-- The worked run of document 01: each call is accepted, 215 stores are made, the buffer is then the worked file, and it shows the two nodes; a buffer one
-- byte shorter refuses the put, and shows them Void. So what demand 3 says is not said of nothing. Answers from the tree, bytes from the closed buffer.
-- Assumes nothing.
use mathlib.Core.Path.{◌≡◌, refl, sym, ap, ap₂, ◌∙◌, subst}
use mathlib.Core.Bool.{true, false}
use mathlib.Core.List.{List, [], ◌∷◌, ◌++◌}
use Prim.Native.Nat.{ℕ, zero, suc, ◌+◌, ◌≤◌, ◌<◌}
use native.Mathlib.Omega.{arith}
use lib.ListN.{length, get_or, drop}
use lib.Seq.{drop-length}
use borrow.Author.Tests.{le-ltb}
use Rattle.aff_format.specs.Align.{padding}
use Rattle.aff_format.specs.Answer.{Answer, accepted, refused, refusal}
use Rattle.aff_format.specs.Bytes.{part, same_bytes}
use Rattle.aff_format.specs.Edition.{signature_text, is_written, header_size, number_form, edition_by}
use Rattle.aff_format.specs.Entry.{entry_bytes}
use Rattle.aff_format.specs.Limits.{text_area, tree_area}
use Rattle.aff_format.specs.Lowest.{lowest_from}
use Rattle.aff_format.specs.Number.{be_bytes}
use Rattle.aff_format.specs.Strings.{is_in, text_of}
use Rattle.aff_format.specs.Subkey.{narrow_first, narrow_next, wide, rest_of_subkey, subkey_from}
use Rattle.aff_format.specs.declared.entry.Entry.{Entry}
use Rattle.aff_format.specs.declared.edition.Edition.{Edition}
use Rattle.aff_format.specs.declared.edition.Edition.TheVariants.{One, Two, Three}
use Rattle.aff_format.proofs.ClimbLaws.{absurd_bool}
use Rattle.aff_format.proofs.EditionLaws.{edition_by_number}
use Rattle.aff_format.specs.declared.kind.Kind.TheVariants.{Void, Int}
use Rattle.aff_tables.specs.Tables.{tree_bytes}
use Rattle.aff_header.specs.Header.{section_numbers, section_header, header_front, with_sum}
use Rattle.aff_file.specs.File.{FileContents, header_of, file_header, file_of}
use Rattle.aff_areas.specs.Stores.{apply_stores}
use Rattle.aff_areas.specs.Writer.{writer_edition, data_place, data_size}
use Rattle.aff_areas.proofs.StoreLaws.{apply_length}
use Rattle.aff_run.specs.TreeSizes.{with_child, add_name, names_from, names_of, entries_size, non_void_count, size_of}
use Rattle.aff_run.specs.AnswersFromTree.{has_child, too_large, close_needs}
use Rattle.aff_run.specs.Run.{make, put, close, State, step, after_call, stores_of, is_accepted, DataLayout, no_data, layout_after, tree_after, closed_by, Run, run_begin, run_start, run_answers, run_stores, run_tree}
use Rattle.aff_read.specs.Shows.{Shows}
use Rattle.aff_run.proofs.BeginInvariantLaws.{begin_invariant, begin_edition, begin_end, begin_form}
use Rattle.aff_run.proofs.ClosedLaws.{contents, rest, closed, closed_is, closed_buffer}
use Rattle.aff_run.proofs.AnswersFromTreeLaws.{expected}
use Rattle.aff_run.proofs.InvariantLaws.{Each, Invariant}
use Rattle.aff_run.proofs.MakeInvariantLaws.{made_invariant}
use Rattle.aff_run.proofs.PutInvariantLaws.{put_invariant}
use Rattle.aff_run.proofs.RunLaws.{step_form, step_edition, step_end, needed_made}
use Rattle.aff_run.proofs.StepLaws.{buffer_after_lem, run_buffer}
use Rattle.aff.specs.Worked.{worked_form, name_a, name_n, minus_seventy, worked_calls, worked_in, worked_tree, worked_file, WorkedRun, Worked, void_tree, OneShorter}
use Rattle.aff.proofs.ExampleLaws.{data_at, begin_accepted, answers_are, stores_are, run_shows}
use Rattle.aff.proofs.WorkedSums.{symbols_digest, entries_digest, data_digest, worked_front, header_digest_2, header_digest_3}

-- ---- The answers of calls, from the tree alone.

expected_214 : (e : Edition) → is_written e ≡ true → (puts closes : ℕ) → 4 ≤ puts → 210 ≤ closes
    → expected e 214 false (header_size e) [] (worked_calls puts closes) ≡ accepted 1 ∷ accepted 2 ∷ accepted 4 ∷ accepted 210 ∷ []
unfolding has_child too_large close_needs size_of padding entries_size add_name names_from is_in text_of same_bytes lowest_from narrow_first narrow_next wide rest_of_subkey subkey_from
expected_214 One w puts closes p c = absurd_bool w
expected_214 Two w puts closes p c = rw (le-ltb puts 4 p, le-ltb closes 210 c)
expected_214 Three w puts closes p c = rw (le-ltb puts 4 p, le-ltb closes 210 c)

expected_213 : (e : Edition) → is_written e ≡ true → (puts closes : ℕ) → 198 ≤ closes
    → expected e 213 false (header_size e) [] (worked_calls puts closes) ≡ accepted 1 ∷ accepted 2 ∷ refused (refusal 21) ∷ accepted 198 ∷ []
unfolding has_child too_large close_needs size_of padding entries_size add_name names_from is_in text_of same_bytes lowest_from narrow_first narrow_next wide rest_of_subkey subkey_from
expected_213 One w puts closes c = absurd_bool w
expected_213 Two w puts closes c = rw (le-ltb closes 198 c)
expected_213 Three w puts closes c = rw (le-ltb closes 198 c)

-- ---- The finished file, from what holds before the close.

worked_names : names_of worked_tree ≡ name_a ∷ name_n ∷ []
unfolding names_from add_name is_in same_bytes
worked_names = refl

worked_text : text_of (names_of worked_tree) ≡ 97 ∷ 0 ∷ 110 ∷ 0 ∷ []
unfolding text_of names_from add_name is_in same_bytes
worked_text = refl

-- The two entries.
abbrev entry_a : Entry
entry_a = record { kind = Void; parent = 0; string = 0; count = 0; offset = 0 }

abbrev entry_n : Entry
entry_n = record { kind = Int; parent = 1; string = 1; count = 1; offset = 168 }

string_a : (i : ℕ) → i < 2 → get_or (name_a ∷ name_n ∷ []) i [] ≡ name_a → i ≡ 0
string_a zero l e = refl
string_a (suc zero) l e = let z : ◌≡◌ {A = ℕ} 110 97 = ap (λ (x : List ℕ). get_or x 0 0) e in absurd (omega arith)
string_a (suc (suc i)) l e = absurd (omega arith)

string_n : (i : ℕ) → i < 2 → get_or (name_a ∷ name_n ∷ []) i [] ≡ name_n → i ≡ 1
string_n zero l e = let z : ◌≡◌ {A = ℕ} 97 110 = ap (λ (x : List ℕ). get_or x 0 0) e in absurd (omega arith)
string_n (suc zero) l e = refl
string_n (suc (suc i)) l e = absurd (omega arith)

-- Their bytes in a file.
entry_length : length (tree_bytes (entry_a ∷ entry_n ∷ [])) ≡ 38
unfolding tree_bytes entry_bytes be_bytes
entry_length = refl

entries_are : (ed : Edition) → is_written ed ≡ true → (buffer : List ℕ) (es : List Entry) → Each ed (name_a ∷ name_n ∷ []) buffer 172 1 es worked_tree
    → (es ≡ entry_a ∷ entry_n ∷ []) × (part (header_size ed) 4 buffer ≡ minus_seventy)
entries_are ed w buffer [] h = absurd h
entries_are ed w buffer (e ∷ []) h = absurd h.1
entries_are ed w buffer (e ∷ f ∷ []) h =
    let a = h.0 in
    let n = h.1.0 in
    let z = data_at ed w in
    let o : f.offset ≡ 168 = omega (arith, z, n.begins refl, n.ends refl) in
    let p : e ≡ entry_a = λ i. record { kind = a.kind_is i; parent = a.parent_is i; string = string_a e.string a.string_exists a.name_is i; count = a.count_is i; offset = a.void_offset refl i } in
    let q : f ≡ entry_n = λ i. record { kind = n.kind_is i; parent = n.parent_is i; string = string_n f.string n.string_exists n.name_is i; count = n.count_is i; offset = o i } in
    (ap₂ (λ (x y : Entry). x ∷ y ∷ []) p q, ap (λ (k : ℕ). part k 4 buffer) (z ∙ sym o) ∙ n.there refl)
entries_are ed w buffer (e ∷ f ∷ x ∷ es) h = absurd h.1.1

-- What is in the file.
abbrev worked_contents : FileContents
worked_contents = record { stored = minus_seventy; records = 1; names = name_a ∷ name_n ∷ []; entries = entry_a ∷ entry_n ∷ [] }

-- Its header before the sum, and the file, by computation.
front_2 : header_front Two (worked_form Two) (header_of Two worked_contents) ≡ worked_front Two
unfolding header_front section_header section_numbers signature_text number_form text_of tree_bytes entry_bytes be_bytes worked_front
front_2 = rw (symbols_digest, entries_digest, data_digest)

front_3 : header_front Three (worked_form Three) (header_of Three worked_contents) ≡ worked_front Three
unfolding header_front section_header section_numbers signature_text number_form text_of tree_bytes entry_bytes be_bytes worked_front
front_3 = rw (symbols_digest, entries_digest, data_digest)

file_is : (e : Edition) → is_written e ≡ true → file_of e worked_contents (worked_form e) ++ [] ≡ worked_file e
unfolding file_of file_header with_sum text_of tree_bytes entry_bytes be_bytes worked_front worked_file
file_is One w = absurd_bool w
file_is Two w = rw (front_2, header_digest_2)
file_is Three w = rw (front_3, header_digest_3)

module _ (e : Edition) (w : is_written e ≡ true) (s : State) {layout : DataLayout} (g : Invariant s worked_tree layout) (is : writer_edition s.writer ≡ e) (f : s.writer.form ≡ worked_form e)
    (d : s.writer.end ≡ 172) (n : length s.buffer ≡ 214) where
  -- Four bytes of data, from 168 on.
  worked_size : data_size s.writer ≡ 4
  worked_size = omega (arith, d, ap header_size is, data_at e w)

  each_here : Each e (name_a ∷ name_n ∷ []) s.buffer 172 1 g.entries worked_tree
  each_here = rw (worked_names, d, is) at g.each

  found : (g.entries ≡ entry_a ∷ entry_n ∷ []) × (part (header_size e) 4 s.buffer ≡ minus_seventy)
  found = entries_are e w s.buffer g.entries each_here

  contents_are : contents s worked_tree g ≡ worked_contents
  unfolding contents non_void_count
  contents_are =
      let size : part (data_place s.writer) (data_size s.writer) s.buffer ≡ minus_seventy =
      ap (λ (d : Edition). part (header_size d) (data_size s.writer) s.buffer) is ∙ ap (λ (k : ℕ). part (header_size e) k s.buffer) worked_size ∙ found.1 in
      λ i. record { stored = size i; records = 1; names = worked_names i; entries = found.0 i }

  rest_here : rest s worked_tree g ≡ []
  unfolding rest
  rest_here =
      let size : data_place s.writer + data_size s.writer + length (text_of (names_of worked_tree)) + length (tree_bytes g.entries) ≡ length s.buffer =
      rw (worked_text, worked_size, found.0) (omega (arith, entry_length, ap header_size is, data_at e w, n)) in
      ap (λ (k : ℕ). drop k s.buffer) size ∙ drop-length s.buffer

  file_here : closed s worked_tree g ≡ worked_file e
  file_here =
      closed_is s worked_tree g
      ∙ (λ i. file_of (is i) (contents_are i) (f i) ++ rest_here i)
      ∙ file_is e w

-- ---- A buffer of 213 bytes: the answers from the tree, the rest by demand 3.

pub worked_213 : OneShorter
worked_213 e w buffer text tree begins puts closes r x t b c =
    let shorter = worked_in e buffer text tree begins puts closes in
    let answers = answers_are e w buffer text tree begins (worked_calls puts closes) x t b 213 r (omega arith) (omega arith) ∙ expected_213 e w puts closes c in
    let nodes = ap (tree_after [] shorter.calls) answers in
    record { answers = answers; nodes = nodes; shows = run_shows shorter void_tree nodes (ap (closed_by shorter.calls) answers) }

-- ---- The worked run.

module _ (e : Edition) (w : is_written e ≡ true) (buffer text tree : List ℕ) (begins puts closes : ℕ) (r : length buffer ≡ 214) (x : length text ≡ text_area) (t : length tree ≡ tree_area)
    (b : 1 ≤ begins) (p : 4 ≤ puts) (c : 210 ≤ closes) where
  abbrev it : Run
  it = worked_in e buffer text tree begins puts closes

  worked_begins : (run_begin it).answer ≡ accepted 1
  worked_begins = begin_accepted e w buffer text tree begins (worked_calls puts closes) x t b (omega arith) (omega arith)

  -- Every call is accepted.
  worked_answers : run_answers it ≡ accepted 1 ∷ accepted 2 ∷ accepted 4 ∷ accepted 210 ∷ []
  worked_answers = answers_are e w buffer text tree begins (worked_calls puts closes) x t b 214 r (omega arith) (omega arith) ∙ expected_214 e w puts closes p c

  answer_at : (k : ℕ) → get_or (run_answers it) k (accepted 0) ≡ get_or (accepted 1 ∷ accepted 2 ∷ accepted 4 ∷ accepted 210 ∷ []) k (accepted 0)
  answer_at k = ap (λ (l : List (Answer ℕ)). get_or l k (accepted 0)) worked_answers

  -- What each call is given.
  abbrev s₀ : State
  s₀ = run_start it

  abbrev s₁ : State
  s₁ = after_call s₀ (make 0 name_a)

  abbrev s₂ : State
  s₂ = after_call s₁ (make 1 name_n)

  abbrev s₃ : State
  s₃ = after_call s₂ (put 2 3 minus_seventy puts)

  kept : Invariant s₃ worked_tree (layout_after (no_data (header_size (edition_by it.edition))) (make 0 name_a ∷ make 1 name_n ∷ put 2 3 minus_seventy puts ∷ [])
      (accepted 1 ∷ accepted 2 ∷ accepted 4 ∷ []))
  kept =
      let g₀ = begin_invariant it worked_begins in
      let g₁ = made_invariant s₀ [] g₀ 0 name_a (answer_at 0) in
      let g₂ = made_invariant s₁ (with_child [] 0 name_a) g₁ 1 name_n (answer_at 1) in
      put_invariant s₂ (with_child (with_child [] 0 name_a) 1 name_n) g₂ 2 3 minus_seventy puts (answer_at 2)

  form_kept : s₃.writer.form ≡ worked_form e
  form_kept = step_form s₂ (put 2 3 minus_seventy puts) ∙ step_form s₁ (make 1 name_n) ∙ step_form s₀ (make 0 name_a) ∙ begin_form it worked_begins

  edition_kept : writer_edition s₃.writer ≡ e
  edition_kept =
      ap edition_by
      (step_edition s₂ (put 2 3 minus_seventy puts) ∙ step_edition s₁ (make 1 name_n) ∙ step_edition s₀ (make 0 name_a) ∙ begin_edition it worked_begins)
      ∙ edition_by_number e

  -- The data end after the four bytes: 168 is a multiple of 8.
  end_kept : s₃.writer.end ≡ 172
  unfolding padding
  end_kept =
      let put_accepted : is_accepted (step s₂ (put 2 3 minus_seventy puts)).answer ≡ true = ap is_accepted (answer_at 2) in
      let second : s₂.writer.end ≡ 168 =
      step_end s₁ (make 1 name_n) ∙ rw (answer_at 1) (step_end s₀ (make 0 name_a) ∙ rw (answer_at 0) (begin_end it worked_begins ∙ ap header_size (edition_by_number e) ∙ data_at e w)) in
      step_end s₂ (put 2 3 minus_seventy puts) ∙ rw (put_accepted, second)

  buffer_kept : length s₃.buffer ≡ 214
  buffer_kept =
      let before = make 0 name_a ∷ make 1 name_n ∷ put 2 3 minus_seventy puts ∷ [] in
      ap length (buffer_after_lem s₀ before) ∙ apply_length s₀.buffer (stores_of s₀ before) ∙ apply_length buffer (run_begin it).stores ∙ r

  -- 1 + 4 + 210 = 215 byte stores.
  worked_stores : length (run_stores it) ≡ 215
  worked_stores = stores_are it worked_begins worked_answers

  -- The buffer is then the worked file.
  worked_buffer : apply_stores buffer (run_stores it) ≡ worked_file e
  worked_buffer =
      sym (run_buffer it)
      ∙ ap (apply_stores s₃.buffer) (needed_made s₃ (close closes) (answer_at 3))
      ∙ sym (closed_buffer s₃ worked_tree kept)
      ∙ file_here e w s₃ kept edition_kept form_kept end_kept buffer_kept

  -- The calls describe the two nodes, and the file shows them, by demand 3.
  worked_tree_lem : run_tree it ≡ worked_tree
  worked_tree_lem = ap (tree_after [] it.calls) worked_answers

  worked_shows : Shows (worked_file e) (worked_form e) worked_tree
  worked_shows =
      subst (λ (i : List ℕ). Shows i (worked_form e) worked_tree) worked_buffer (run_shows it worked_tree worked_tree_lem (ap (closed_by it.calls) worked_answers))

  all_worked : WorkedRun e it
  all_worked = record { begins = worked_begins; answers = worked_answers; stores = worked_stores; file = worked_buffer; nodes = worked_tree_lem; shows = worked_shows }

pub worked : Worked
worked = all_worked
