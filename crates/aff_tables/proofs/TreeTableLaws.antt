-- The entries that begin at the places of a section's entries are its entries; the bytes of a tree table; and what the tree table answers.
-- Assumes nothing.
use mathlib.Core.Path.{◌≡◌, refl, sym, ap, ◌∙◌}
use mathlib.Core.Bool.{Bool, true, false, cond, true≢false}
use mathlib.Core.List.{List, [], ◌∷◌, ◌++◌, append_assoc, append-nil}
use Prim.Native.Nat.{ℕ, zero, suc, ◌+◌, ◌-◌, ◌≤◌, ◌<◌}
use native.Mathlib.Omega.{arith}
use lib.ListN.{length, get_or, take, drop, length-drop, length-append, take-append-drop, get_or-append}
use lib.Seq.{drop-drop, take-append-le, drop-append-le, drop_at}
use borrow.Author.Tests.{ne_eqb}
use Rattle.aff_format.specs.Answer.{accepted, first_wrong}
use Rattle.aff_format.specs.Bytes.{Octets, part, laid_over}
use Rattle.aff_format.specs.Entry.{entry_of, type_field, count_field, offset_field, fields_of, entry_bytes, Storable, no_entry}
use Rattle.aff_format.specs.Kind.{entry_size, kind_code, kind_of, is_void}
use Rattle.aff_format.specs.Number.{be_of}
use Rattle.aff_format.specs.declared.edition.Edition.{Edition}
use Rattle.aff_format.specs.declared.entry.Entry.{Entry}
use Rattle.std.specs.Prelude.{Option, Some, None, Result}
use Rattle.aff_format.proofs.BytesLaws.{drop_take, octets_drop}
use Rattle.aff_format.proofs.EntryLaws.{entry_inside, fields_are, entry_past, entry_whole, whole_kind, whole_parent, whole_string, whole_count, whole_offset, whole_void_count, whole_void_offset, length_entry_bytes, entry_round_trip, entry_back, entry_storable}
use Rattle.aff_format.proofs.KindLaws.{entry_size_bounds, kind_of_code}
use Rattle.aff_tables.specs.Tables.{node_entry, is_empty, tree_checks, entries_of, entries_in, bytes_after_entries, entry_places, and_then, or_after, tree_bytes}
use Rattle.aff_format.specs.Recorded.{found_entry, recorded_entry}
use Rattle.aff_format.specs.declared.refusal.Refusal.{Refusal}
use Rattle.aff_format.specs.Verdict.{answer_of}
use Rattle.aff_format.proofs.LaidLaws.{laid_at}
use Rattle.aff_tables.proofs.WalkLaws.{length_entry_places, entries_more, after_more, over_broken}

-- An entry that is whole is the same whole entry where more bytes follow.

part_append : (at n : ℕ) (l r : List ℕ) → at + n ≤ length l → part at n (l ++ r) ≡ part at n l
part_append at n l r h = rw (drop-append-le at l r (omega arith)) (take-append-le n (drop at l) r (rw length-drop (omega arith)))

module _ (l r : List ℕ) (e : Entry) (h : entry_of l ≡ Some e) where
  same_number : (x at n : ℕ) → x ≡ be_of (part at n l) → at + n ≤ length l → x ≡ be_of (part at n (l ++ r))
  same_number x at n q k = q ∙ ap be_of (sym (part_append at n l r k))

  data_same : (b : Bool) → is_void e.kind ≡ b
      → (e.count ≡ cond b 0 (count_field (l ++ r))) × (e.offset ≡ cond b 0 (offset_field (l ++ r)))
  data_same true v = (whole_void_count l e h v, whole_void_offset l e h v)
  data_same false v =
      let n : 25 ≤ length l = rw v at (entry_inside l e h) in (
        same_number e.count 13 4 (whole_count l e h v) (omega arith),
        same_number e.offset 17 8 (whole_offset l e h v) (omega arith),
      )

  pub entry_longer : entry_of (l ++ r) ≡ Some e
  unfolding entry_of
  entry_longer =
      let i = entry_inside l e h in
      let n : 13 ≤ length l = omega (arith, entry_size_bounds e.kind) in
      let t : type_field (l ++ r) ≡ kind_code e.kind = get_or-append l r 0 0 (omega arith) ∙ sym (whole_kind l e h) in
      let d = data_same (is_void e.kind) refl in
      let f : e ≡ fields_of e.kind (l ++ r) =
      fields_are e (l ++ r)
      (same_number e.parent 1 8 (whole_parent l e h) (omega arith))
      (same_number e.string 9 4 (whole_string l e h) (omega arith))
      d.0
      d.1 in
      sym (entry_whole (kind_of (type_field (l ++ r))) e.kind (l ++ r) (ap kind_of t ∙ kind_of_code e.kind) (rw length-append (omega arith))) ∙ ap Some (sym f)

pub entry_from_front : (n : ℕ) (l : List ℕ) (e : Entry) → entry_of (take n l) ≡ Some e → entry_of l ≡ Some e
entry_from_front n l e h = ap entry_of (sym (take-append-drop n l)) ∙ entry_longer (take n l) (drop n l) e h

-- A run of whole entries, and the bytes after it: each law of entries is an induction on the run.
data Run : ℕ → List ℕ → List Entry → List ℕ → Type 0 where
  over : {limit : ℕ} {l : List ℕ} → Run limit l [] l
  next : {limit : ℕ} {l : List ℕ} {e : Entry} {es : List Entry} {rest : List ℕ} → entry_of l ≡ Some e
      → Run limit (drop (entry_size e.kind) l) es rest → Run (suc limit) l (e ∷ es) rest

run_of : (limit : ℕ) (l : List ℕ) → Run limit l (entries_in limit l) (bytes_after_entries limit l)
unfolding entries_in bytes_after_entries
run_of zero l = over
run_of (suc limit) l = go (entry_of l) refl (λ k. run_of limit (drop k l))
  where
    go : (f : Option Entry) → entry_of l ≡ f → ((k : ℕ) → Run limit (drop k l) (entries_in limit (drop k l)) (bytes_after_entries limit (drop k l)))
        → Run (suc limit) l (and_then f (λ e. entries_in limit (drop (entry_size e.kind) l))) (or_after f l (λ e. bytes_after_entries limit (drop (entry_size e.kind) l)))
    go None q ih = over
    go (Some e) q ih = next q (ih (entry_size e.kind))

run_few : {limit : ℕ} {l : List ℕ} {es : List Entry} {rest : List ℕ} → Run limit l es rest → length es ≤ limit
run_few over = omega arith
run_few (next q r) = omega (arith, run_few r)

pub entries_few : (limit : ℕ) (l : List ℕ) → length (entries_in limit l) ≤ limit
entries_few limit l = run_few (run_of limit l)

-- Entries by their places.

-- After the first entry of a part comes a part.
part_after : (at n k : ℕ) (l : List ℕ) → drop k (part at n l) ≡ part (at + k) (n - k) l
part_after at n k l = drop_take k n (drop at l) ∙ rw drop-drop

run_found : {limit : ℕ} {l : List ℕ} {es : List Entry} {rest : List ℕ} → Run limit l es rest → (image : List ℕ) (at n : ℕ) → l ≡ part at n image
    → (i : ℕ) → i < length es → entry_of (drop (get_or (entry_places at es) i 0) image) ≡ Some (get_or es i no_entry)
unfolding entry_places
run_found over image at n p i h = absurd (omega arith)
run_found (next {e = e} q r) image at n p zero h = entry_from_front n (drop at image) e (ap entry_of (sym p) ∙ q)
run_found (next {e = e} q r) image at n p (suc i) h =
    let s = entry_size e.kind in
    run_found r image (at + s) (n - s) (ap (drop s) p ∙ part_after at n s image) i (omega arith)

module _ (image : List ℕ) (limit from size : ℕ) (area : List ℕ) (fits : length (entries_in limit (part from size image)) ≤ length area) where
  abbrev entries : List Entry
  entries = entries_in limit (part from size image)

  pub entry_found : (k : ℕ) → 0 < k → k ≤ length entries → found_entry image (laid_over area (entry_places from entries)) k ≡ Some (node_entry entries k)
  entry_found zero p h = absurd (omega arith)
  entry_found (suc i) p h =
      let z : suc i - 1 ≡ i = omega arith in
      rw (z, laid_at area (entry_places from entries) i (rw length_entry_places (omega arith)) (omega arith))
      (run_found (run_of limit (part from size image)) image from size refl i (omega arith))

  pub entries_are : (k : ℕ) → 0 < k → k ≤ length entries → recorded_entry image (laid_over area (entry_places from entries)) k ≡ node_entry entries k
  unfolding recorded_entry
  entries_are k p h = rw (ne_eqb k 0 (λ q. omega arith), entry_found k p h)

-- The bytes of a tree table, there and back.

run_bytes : {limit : ℕ} {l : List ℕ} {es : List Entry} {rest : List ℕ} → Run limit l es rest → Octets l → l ≡ tree_bytes es ++ rest
unfolding tree_bytes
run_bytes over o = refl
run_bytes {l = l} (next {e = e} {es} {rest} q r) o =
    let s = entry_size e.kind in
    sym (take-append-drop s l)
    ∙ rw (entry_back l e q o, append_assoc (entry_bytes e) (tree_bytes es) rest) (ap (λ (x : List ℕ). entry_bytes e ++ x) (run_bytes r (octets_drop s l o)))

pub tree_bytes_lem : (limit : ℕ) (l : List ℕ) → bytes_after_entries limit l ≡ [] → Octets l → l ≡ tree_bytes (entries_in limit l)
tree_bytes_lem limit l h o = run_bytes (run_of limit l) o ∙ rw (h, append-nil)

run_storable : {limit : ℕ} {l : List ℕ} {es : List Entry} {rest : List ℕ} → Run limit l es rest → Octets l → (i : ℕ) → i < length es → Storable (get_or es i no_entry)
run_storable over o i h = absurd (omega arith)
run_storable {l = l} (next {e = e} q r) o zero h = entry_storable l e q o
run_storable {l = l} (next {e = e} q r) o (suc i) h = run_storable r (octets_drop (entry_size e.kind) l o) i (omega arith)

pub entries_storable : (limit : ℕ) (l : List ℕ) → Octets l → (k : ℕ) → 0 < k → k ≤ length (entries_in limit l) → Storable (node_entry (entries_in limit l) k)
entries_storable limit l o zero p h = absurd (omega arith)
entries_storable limit l o (suc i) p h = run_storable (run_of limit l) o i h

rest_storable : (e : Entry) (es : List Entry) → ((k : ℕ) → 0 < k → k ≤ suc (length es) → Storable (node_entry (e ∷ es) k))
    → (k : ℕ) → 0 < k → k ≤ length es → Storable (node_entry es k)
rest_storable e es s zero p h = absurd (omega arith)
rest_storable e es s (suc i) p h = s (suc (suc i)) (omega arith) (omega arith)

pub bytes_tree : (es : List Entry) (limit : ℕ) → ((k : ℕ) → 0 < k → k ≤ length es → Storable (node_entry es k)) → length es ≤ limit
    → (entries_in limit (tree_bytes es) ≡ es) × (bytes_after_entries limit (tree_bytes es) ≡ [])
unfolding tree_bytes
bytes_tree [] limit s h = over_broken limit [] (sym (entry_past [] 0 (omega arith)))
bytes_tree (e ∷ es) zero s h = absurd (omega arith)
bytes_tree (e ∷ es) (suc limit) s h =
    let w = entry_round_trip e (s 1 (omega arith) (omega arith)) (tree_bytes es) in
    let d = drop_at (entry_bytes e) (tree_bytes es) (entry_size e.kind) (length_entry_bytes e) in
    let i = bytes_tree es limit (rest_storable e es s) (omega arith) in
    (rw (entries_more limit (entry_bytes e ++ tree_bytes es) e w, d, i.0), rw (after_more limit (entry_bytes e ++ tree_bytes es) e w, d) i.1)

-- The answers of the tree table.

pub empty_is : (l : List ℕ) → is_empty l ≡ true → l ≡ []
empty_is [] h = refl
empty_is (x ∷ l) h = absurd (true≢false (sym h))

-- What the table of a section reports, and its area where it accepts.
module _ (e : Edition) (records : ℕ) (image : List ℕ) (from size : ℕ) (area₀ area : List ℕ) where
  abbrev pub TableOfTree : Result ℕ Refusal → Type 0
  TableOfTree r =
      (answer_of r ≡ first_wrong (tree_checks e records (part from size image)) (length (entries_of (part from size image))))
      × ((n : ℕ) → answer_of r ≡ accepted n → area ≡ laid_over area₀ (entry_places from (entries_of (part from size image))))
