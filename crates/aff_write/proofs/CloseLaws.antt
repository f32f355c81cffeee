-- Closing: the parts of the header one after another are the header, and the stores are those of the strings, the entries and the header.
-- Assumes nothing.
use mathlib.Core.Path.{◌≡◌, refl, sym, ap, ◌∙◌}
use mathlib.Core.List.{List, ◌++◌, map, append_assoc}
use Prim.Native.Nat.{ℕ, ◌+◌, ◌-◌, ◌≤◌, ◌<◌}
use native.Mathlib.Omega.{arith}
use lib.ListN.{length, take, drop, length-append, length-drop}
use lib.Seq.{length-take-le, take_all}
use Rattle.aff_format.specs.Bytes.{spliced, joined}
use Rattle.aff_format.specs.Edition.{signature_text, header_order, signature_size, section_at, section_header_size, header_sum_at, header_size, most_header}
use Rattle.aff_format.specs.Limits.{node_limit, tree_area}
use Rattle.aff_format.specs.declared.edition.Edition.{Edition}
use Rattle.aff_format.specs.declared.section.Section.{Section}
use Rattle.aff_format.specs.declared.section.Section.TheVariants.{Symbol, Tree, Data}
use Rattle.aff_format.proofs.AnswerLaws.{others_reported}
use Rattle.aff_format.proofs.BytesLaws.{spliced_next}
use Rattle.aff_format.proofs.EditionLaws.{length_signature_text, section_header_sizes}
use Rattle.aff_areas.specs.Areas.{used_text, entries_out, data_nodes, finished_size}
use Rattle.aff_format.specs.Answer.{Answer, accepted, refused, first_wrong}
use Rattle.aff_format.specs.declared.refusal.RefusalCode.{RefusalCode}
use Rattle.aff_areas.specs.Belongs.{WriterBelongs, writer_checks}
use Rattle.aff_areas.proofs.BelongsLaws.{judge_refuses, judge_leaves}
use Rattle.aff_header.specs.Header.{header_front, with_sum}
use Rattle.aff_areas.specs.Stores.{Store, apply_stores, stores_from, buffer_after}
use Rattle.aff_areas.specs.Writer.{writer_edition, data_place, stopped, writer_after}
use Rattle.aff_areas.specs.declared.writer.Writer.{Writer}
use Rattle.aff_areas.proofs.AreaLaws.{entry_sizes_most, length_entries_out}
use Rattle.aff_header.proofs.HeaderLaws.{length_section_header, three_headers, length_header_front, length_with_sum, take_front}
use Rattle.aff_areas.proofs.StoreLaws.{length_stores_from}
use Rattle.aff_write.specs.Close.{symbols_place, tree_place, data_bytes, section_of, close_section, close_header, close_stores, store_checks, close_answer}
use Rattle.aff_write.proofs.SpentLaws.{two_made, two_buffer, stopped_after_lem}

-- Each section header has the size of its edition.
pub length_section_of : (writer : Writer) (full : ℕ) (symbols entries stored : List ℕ) (s : Section)
    → length (section_of writer full symbols entries stored s) ≡ section_header_size (writer_edition writer)
length_section_of writer full symbols entries stored Symbol = length_section_header (writer_edition writer) (symbols_place writer) writer.strings symbols
length_section_of writer full symbols entries stored Tree = length_section_header (writer_edition writer) (tree_place writer) writer.nodes entries
length_section_of writer full symbols entries stored Data = length_section_header (writer_edition writer) (data_place writer) full stored

-- The three section headers, each after the one before it.
pub headers_over : (e : Edition) (h : Section → List ℕ) (n : ℕ) (l₀ l₁ l₂ l₃ : List ℕ) → most_header ≤ length l₀ → n ≡ section_header_size e
    → ((s : Section) → length (h s) ≡ section_header_size e)
    → l₁ ≡ spliced signature_size (h (section_at e 0)) l₀ → l₂ ≡ spliced (signature_size + n) (h (section_at e 1)) l₁ → l₃ ≡ spliced (signature_size + n + n) (h (section_at e 2)) l₂
    → l₃ ≡ spliced signature_size (joined (map h (header_order e))) l₀
headers_over e h n l₀ l₁ l₂ l₃ f is sized h₁ h₂ h₃ =
    let a = h (section_at e 0) in
    let b = h (section_at e 1) in
    let small = section_header_sizes e in
    let m₁ : signature_size + length a ≡ signature_size + n = omega (arith, is, sized (section_at e 0)) in
    let two : l₂ ≡ spliced signature_size (a ++ b) l₀ = spliced_next signature_size (signature_size + n) a b l₀ l₁ l₂ m₁ (omega arith) h₁ h₂ in
    let m₂ : signature_size + length (a ++ b) ≡ signature_size + n + n = omega (arith, is, length-append a b, sized (section_at e 0), sized (section_at e 1)) in
    spliced_next signature_size (signature_size + n + n) (a ++ b) (h (section_at e 2)) l₀ l₂ l₃ m₂ (omega arith) two h₃
    ∙ rw (three_headers e h, append_assoc)

-- Signature and section headers.
front_is : (e : Edition) (form : List ℕ) (h : Section → List ℕ) → (signature_text e ++ form) ++ joined (map h (header_order e)) ≡ header_front e form h
unfolding header_front
front_is e form h = append_assoc (signature_text e) form (joined (map h (header_order e)))

front_over : (e : Edition) (form : List ℕ) (h : Section → List ℕ) (l₀ l₁ l₂ : List ℕ) → most_header ≤ length l₀ → length form ≡ 12
    → ((s : Section) → length (h s) ≡ section_header_size e)
    → l₁ ≡ spliced 0 (signature_text e ++ form) l₀ → l₂ ≡ spliced signature_size (joined (map h (header_order e))) l₁
    → take (header_sum_at e) l₂ ≡ header_front e form h
front_over e form h l₀ l₁ l₂ f n sized h₁ h₂ =
    let x = signature_text e ++ form in
    let y = joined (map h (header_order e)) in
    let mx : 0 + length x ≡ signature_size = omega (arith, length-append (signature_text e) form, length_signature_text e, n) in
    let whole : x ++ y ≡ header_front e form h = front_is e form h in
    let two : l₂ ≡ spliced 0 (x ++ y) l₀ = spliced_next 0 signature_size x y l₀ l₁ l₂ mx (omega arith) h₁ h₂ in
    let m : length (x ++ y) ≡ header_sum_at e = ap length whole ∙ length_header_front e form h n sized in
    ap (take (header_sum_at e)) two ∙ take_front (header_sum_at e) (x ++ y) l₀ m ∙ whole

module _ (buffer : List ℕ) (writer : Writer) (text tree : List ℕ) where
  close_section_size : (s : Section) → length (close_section buffer writer text tree s) ≡ section_header_size (writer_edition writer)
  unfolding close_section
  close_section_size = length_section_of writer (data_nodes tree writer.nodes) (used_text writer text) (entries_out tree writer.nodes) (data_bytes buffer writer)

  -- Signature, section headers and sum are the header; they are the front of the area.
  pub header_over : (e : Edition) (entries stored : List ℕ) (full : ℕ) (l₀ l₁ l₂ l₃ : List ℕ) → most_header ≤ length l₀ → length writer.form ≡ 12
      → e ≡ writer_edition writer → entries ≡ entries_out tree writer.nodes → stored ≡ data_bytes buffer writer → full ≡ data_nodes tree writer.nodes
      → l₁ ≡ spliced 0 (signature_text e ++ writer.form) l₀
      → l₂ ≡ spliced signature_size (joined (map (section_of writer full (used_text writer text) entries stored) (header_order (writer_edition writer)))) l₁
      → take (header_size e) l₃ ≡ with_sum (take (header_sum_at e) l₂) → take (data_place writer) l₃ ≡ close_header buffer writer text tree
  unfolding close_header close_section
  header_over e entries stored full l₀ l₁ l₂ l₃ f n he hn hs hf h₁ h₂ h₃ =
      let d = writer_edition writer in
      let e₁ : l₁ ≡ spliced 0 (signature_text d ++ writer.form) l₀ = h₁ ∙ rw he in
      let e₂ : l₂ ≡ spliced signature_size (joined (map (close_section buffer writer text tree) (header_order d))) l₁ = h₂ ∙ rw (hn, hs, hf) in
      let e₃ : take (header_size d) l₃ ≡ with_sum (take (header_sum_at d) l₂) = rw he at h₃ in
      e₃ ∙ ap with_sum (front_over d writer.form (close_section buffer writer text tree) l₀ l₁ l₂ f n close_section_size e₁ e₂)

  -- The header has as many bytes as come before the data, for any record with a form of 12 bytes, whether it belongs or not.
  pub length_close_header : length writer.form ≡ 12 → length (close_header buffer writer text tree) ≡ data_place writer
  unfolding close_header
  length_close_header n =
      length_with_sum (writer_edition writer) _ (length_header_front (writer_edition writer) writer.form (close_section buffer writer text tree) n close_section_size)

  -- The stores.
  pub stores_closed : (at : ℕ) (symbols entries header : List ℕ) → at ≡ symbols_place writer → symbols ≡ used_text writer text
      → length symbols ≡ writer.text → entries ≡ entries_out tree writer.nodes → header ≡ close_header buffer writer text tree
      → (stores_from at symbols ++ stores_from (at + length symbols) entries) ++ (stores_from 1 (drop 1 header) ++ stores_from 0 (take 1 header))
      ≡ close_stores buffer writer text tree
  unfolding close_stores
  stores_closed at symbols entries header ha hs hl he hh = rw (hl, ha, hs, he, hh)

  pub length_close_stores : length (used_text writer text) ≡ writer.text → length (close_header buffer writer text tree) ≡ data_place writer
      → length (close_stores buffer writer text tree) ≡ writer.text + length (entries_out tree writer.nodes) + data_place writer
  unfolding close_stores
  length_close_stores u n =
      let h = close_header buffer writer text tree in
      let t : length (take 1 h) ≡ 1 = length-take-le 1 h (omega (arith, n)) in
      let d : length (drop 1 h) ≡ data_place writer - 1 = length-drop 1 h ∙ rw n in
      simp (length-append, length_stores_from, u, t, d) (omega arith)

-- What belongs has its bytes inside.
pub used_length : {size : ℕ} {writer : Writer} {text tree : List ℕ} → WriterBelongs size writer text tree → length (used_text writer text) ≡ writer.text
used_length {size} {writer} {text} {tree} b = length-take-le writer.text text (omega (arith, b.text_area_is, b.text_inside))

pub closed_fits : {size : ℕ} {writer : Writer} {text tree : List ℕ} → WriterBelongs size writer text tree
    → (tree_place writer + length (entries_out tree writer.nodes) ≤ size) × (size < 2147483648)
unfolding finished_size
closed_fits {size} {writer} {text} {tree} b =
    let n = length_entries_out tree writer.nodes b.few_nodes b.tree_area_is in
    let s = b.size_fits in
    let l = b.length_recorded in
    let a = b.length_allowed in
    (omega arith, omega arith)

-- The entries at the front of an area of their size.
pub entries_most : (tree : List ℕ) (n : ℕ) → n ≤ node_limit → length tree ≡ tree_area → length (entries_out tree n) ≤ tree_area
entries_most tree n h a = omega (arith, length_entries_out tree n h a, entry_sizes_most tree n)

pub front_fits : (x l₀ l₁ : List ℕ) → l₁ ≡ spliced 0 x l₀ → length x ≤ length l₁
unfolding spliced
front_fits x l₀ l₁ e = rw e (simp length-append (omega arith))

pub front_taken : (x l₀ l₁ : List ℕ) (n : ℕ) → n ≡ length x → l₁ ≡ spliced 0 x l₀ → take n l₁ ≡ x
front_taken x l₀ l₁ n h e = ap (take n) e ∙ take_front n x l₀ (sym h)

-- The data as the code passes them.
pub data_part : (buffer : List ℕ) (writer : Writer) (from : ℕ) → from ≡ data_place writer → take (writer.end - from) (drop from buffer) ≡ data_bytes buffer writer
data_part buffer writer from e = rw e

-- Strings and entries, then the header from its byte 1 on and its first byte, under one allowance.
abbrev pub body_stores : ℕ → List ℕ → List ℕ → List Store
body_stores at symbols entries = stores_from at symbols ++ stores_from (at + length symbols) entries

abbrev pub head_stores : List ℕ → List Store
head_stores header = stores_from 1 (drop 1 header) ++ stores_from 0 (take 1 header)

module _ (at : ℕ) (symbols entries header : List ℕ) (allowance first second : ℕ) (buffer₀ buffer₁ buffer₂ : List ℕ)
    (m₁ : first ≡ length (take allowance (body_stores at symbols entries)))
    (r₁ : buffer₁ ≡ apply_stores buffer₀ (take allowance (body_stores at symbols entries)))
    (m₂ : second ≡ length (take (allowance - first) (stores_from 1 (take (length header - 1) (drop 1 header)) ++ stores_from 0 (take 1 header))))
    (r₂ : buffer₂ ≡ apply_stores buffer₁ (take (allowance - first) (stores_from 1 (take (length header - 1) (drop 1 header)) ++ stores_from 0 (take 1 header)))) where
  after_first : stores_from 1 (take (length header - 1) (drop 1 header)) ++ stores_from 0 (take 1 header) ≡ head_stores header
  after_first =
      ap (λ (x : List ℕ). stores_from 1 x ++ stores_from 0 (take 1 header)) (take_all (length header - 1) (drop 1 header) (omega (arith, length-drop 1 header)))

  second_made : second ≡ length (take (allowance - first) (head_stores header))
  second_made = m₂ ∙ ap (λ (s : List Store). length (take (allowance - first) s)) after_first

  second_buffer : buffer₂ ≡ apply_stores buffer₁ (take (allowance - first) (head_stores header))
  second_buffer = r₂ ∙ ap (λ (s : List Store). apply_stores buffer₁ (take (allowance - first) s)) after_first

  pub file_stored : (first + second ≡ length (take allowance (body_stores at symbols entries ++ head_stores header)))
      × (buffer₂ ≡ apply_stores buffer₀ (take allowance (body_stores at symbols entries ++ head_stores header)))
  file_stored = (
    two_made (body_stores at symbols entries) (head_stores header) allowance first second buffer₀ buffer₁ buffer₂ m₁ r₁ second_made second_buffer,
    two_buffer (body_stores at symbols entries) (head_stores header) allowance first second buffer₀ buffer₁ buffer₂ m₁ r₁ second_made second_buffer,
  )

-- What `judge` refuses (24, 22) is the call's refusal; else the record is stopped, and the allowance decides (23).
module _ (buffer : List ℕ) (writer : Writer) (text tree : List ℕ) (allowance : ℕ) {A : Type 0} (a : A) where
  -- Refused by 24 or 22: that is close's answer, and record and buffer are as they were; the number is not 23, so the record is not stopped.
  pub judge_stops : {t : RefusalCode} → refused t ≡ first_wrong (writer_checks (length buffer) writer text tree) a
      → (refused t ≡ close_answer buffer writer text tree allowance)
      × ((writer ≡ writer_after (refused t) (stopped writer) writer)
      × (buffer ≡ buffer_after (refused t) (close_stores buffer writer text tree) buffer))
  unfolding close_answer apply_stores
  judge_stops h =
      let o = others_reported 23 (writer_checks (length buffer) writer text tree) refl a (sym h) in
      (judge_refuses (length buffer) writer text tree a h (store_checks buffer writer text tree allowance) (length (close_stores buffer writer text tree)), (rw o, rw o))

  -- Passed: close's answer is that of the check of the allowance.
  pub judge_decides : {b : A} → accepted b ≡ first_wrong (writer_checks (length buffer) writer text tree) a
      → first_wrong (store_checks buffer writer text tree allowance) (length (close_stores buffer writer text tree)) ≡ close_answer buffer writer text tree allowance
  unfolding close_answer
  judge_decides h = judge_leaves (length buffer) writer text tree a h (store_checks buffer writer text tree allowance) (length (close_stores buffer writer text tree))

  -- Passed: an answer that is that of the check of the allowance is close's; a stopped record is what that answer leaves, refused by 23 or not,
  -- and the buffer that it leaves is the one that close's answer leaves.
  pub judge_passes : {b : A} {answer : Answer ℕ} {next : Writer} {buffer' : List ℕ} → accepted b ≡ first_wrong (writer_checks (length buffer) writer text tree) a
      → (answer ≡ first_wrong (store_checks buffer writer text tree allowance) (length (close_stores buffer writer text tree)))
      × ((next ≡ stopped writer) × (buffer' ≡ buffer_after answer (close_stores buffer writer text tree) buffer))
      → (answer ≡ close_answer buffer writer text tree allowance)
      × ((next ≡ writer_after answer (stopped writer) writer) × (buffer' ≡ buffer_after answer (close_stores buffer writer text tree) buffer))
  judge_passes {b} {answer} h m = (
    m.0 ∙ judge_decides h,
    (m.1.0 ∙ sym (stopped_after_lem (close_stores buffer writer text tree) allowance writer answer m.0), m.1.1),
  )
