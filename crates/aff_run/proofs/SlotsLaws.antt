-- The tree area as the slots of some entries, one after the other: what the writer reads in it, and what a close writes of it. By induction
-- on the entries. Assumes nothing.
use mathlib.Core.Path.{◌≡◌, refl, sym, ap, ◌∙◌}
use mathlib.Core.List.{List, [], ◌∷◌, ◌++◌, append_assoc, append-nil}
use Prim.Native.Nat.{ℕ, zero, suc, ◌+◌, ◌-◌, ◌*◌, ◌≤◌, ◌<◌}
use native.Mathlib.Numerals.{add-one}
use native.Mathlib.Omega.{arith}
use lib.ListN.{length, get_or, set, take, drop, length-append}
use lib.Seq.{take_at, take-suc, take-append-add, drop-append_seam, take-length, drop-append-add, take-append-le}
use borrow.Author.Tests.{ne_eqb}
use Rattle.aff_format.specs.Bytes.{spliced}
use Rattle.aff_format.specs.Entry.{entry_bytes, slot_bytes, Storable, no_entry, or_none}
use Rattle.aff_format.specs.Kind.{entry_size}
use Rattle.aff_format.specs.declared.entry.Entry.{Entry}
use Rattle.std.specs.Prelude.{Some}
use Rattle.aff_format.proofs.EntryLaws.{length_slot_bytes, slot_front, slot_round_trip, length_entry_bytes}
use Rattle.aff_format.proofs.KindLaws.{entry_size_bounds}
use Rattle.aff_tables.specs.Tables.{node_entry, tree_bytes}
use Rattle.aff_areas.specs.Areas.{slot_at, found_slot, slot_entry, entry_sizes, entries_out}

-- The slots of entries.
unfoldable pub slots_of : List Entry → List ℕ
slots_of [] = []
slots_of (e ∷ es) = slot_bytes e ++ slots_of es

-- Each of some entries can be held by its fields.
abbrev pub Storables : List Entry → Type 0
Storables [] = Unit {0}
Storables (e ∷ es) = Storable e × Storables es

pub length_slots_of : (es : List Entry) → length (slots_of es) ≡ 25 * length es
unfolding slots_of
length_slots_of [] = refl
length_slots_of (e ∷ es) = length-append (slot_bytes e) (slots_of es) ∙ omega (arith, length_slot_bytes e, length_slots_of es)

-- The slot of entry k, and what comes after it.
pub drop_slots : (es : List Entry) (rest : List ℕ) (k : ℕ) → k < length es
    → drop (25 * k) (slots_of es ++ rest) ≡ slot_bytes (get_or es k no_entry) ++ (slots_of (drop (suc k) es) ++ rest)
unfolding slots_of
drop_slots [] rest k h = absurd (omega arith)
drop_slots (e ∷ es) rest zero h = append_assoc (slot_bytes e) (slots_of es) rest
drop_slots (e ∷ es) rest (suc k) h =
    let n : 25 * suc k ≡ length (slot_bytes e) + 25 * k = omega (arith, length_slot_bytes e) in
    rw (append_assoc (slot_bytes e) (slots_of es) rest, n, drop-append-add) (drop_slots es rest k (omega arith))

storables_at : (es : List Entry) → Storables es → (k : ℕ) → k < length es → Storable (get_or es k no_entry)
storables_at [] s k h = absurd (omega arith)
storables_at (e ∷ es) s zero h = s.0
storables_at (e ∷ es) s (suc k) h = storables_at es s.1 k (omega arith)

pub node_storable : (es : List Entry) → Storables es → (k : ℕ) → 0 < k → k ≤ length es → Storable (node_entry es k)
node_storable es s zero lo hi = absurd (omega arith)
node_storable es s (suc k) lo hi = storables_at es s k (omega arith)

tree_snoc : (es : List Entry) (e : Entry) → tree_bytes (es ++ (e ∷ [])) ≡ tree_bytes es ++ entry_bytes e
unfolding tree_bytes
tree_snoc [] e = append-nil (entry_bytes e)
tree_snoc (f ∷ es) e = rw (tree_snoc es e, append_assoc)

-- What is read there.
module _ (es : List Entry) (rest : List ℕ) (s : Storables es) where
  abbrev area : List ℕ
  area = slots_of es ++ rest

  pub slot_found : (k : ℕ) → 0 < k → k ≤ length es → found_slot area k ≡ Some (node_entry es k)
  slot_found zero lo hi = absurd (omega arith)
  slot_found (suc k) lo hi =
      let z : suc k - 1 ≡ k = omega arith in
      rw (z, drop_slots es rest k (omega arith)) (slot_round_trip (get_or es k no_entry) (storables_at es s k (omega arith)) (slots_of (drop (suc k) es) ++ rest))

  pub slot_entry_lem : (k : ℕ) → k ≤ length es → slot_entry area k ≡ node_entry es k
  unfolding slot_entry
  slot_entry_lem zero hi = refl
  slot_entry_lem (suc k) hi =
      let f : suc k ≡ 0 → ⊥ = λ e. omega arith in rw (ne_eqb (suc k) 0 f) (ap or_none (slot_found (suc k) (omega arith) hi))

  -- The first n of them, as the passes over the nodes see them.
  slot_of : (n : ℕ) → n < length es → slot_entry area (n + 1) ≡ get_or es n no_entry
  slot_of n h = rw add-one (slot_entry_lem (suc n) (omega arith))

  slot_bytes_lem : (n : ℕ) → n < length es → take (entry_size (slot_entry area (n + 1)).kind) (drop (slot_at (n + 1)) area) ≡ entry_bytes (get_or es n no_entry)
  slot_bytes_lem n h =
      let e = get_or es n no_entry in
      let z : n + 1 - 1 ≡ n = omega arith in
      let f : entry_size e.kind ≤ length (slot_bytes e) = omega (arith, length_slot_bytes e, entry_size_bounds e.kind) in
      rw (slot_of n h, z, drop_slots es rest n h)
      (take-append-le (entry_size e.kind) (slot_bytes e) (slots_of (drop (suc n) es) ++ rest) f ∙ slot_front e)

  -- The entries that a close writes, and their bytes.
  entries_taken : (n : ℕ) → n ≤ length es → entries_out area n ≡ tree_bytes (take n es)
  unfolding entries_out tree_bytes
  entries_taken zero h = refl
  entries_taken (suc n) h =
      ap (λ (l : List ℕ). l ++ take (entry_size (slot_entry area (n + 1)).kind) (drop (slot_at (n + 1)) area)) (entries_taken n (omega arith))
      ∙ rw (slot_bytes_lem n (omega arith)) (sym (tree_snoc (take n es) (get_or es n no_entry)) ∙ ap tree_bytes (sym (take-suc es n no_entry (omega arith))))

  pub entries_out_lem : entries_out area (length es) ≡ tree_bytes es
  entries_out_lem = entries_taken (length es) (omega arith) ∙ rw take-length

  sizes_taken : (n : ℕ) → n ≤ length es → entry_sizes area n ≡ length (tree_bytes (take n es))
  unfolding entry_sizes tree_bytes
  sizes_taken zero h = refl
  sizes_taken (suc n) h =
      let e = get_or es n no_entry in
      let t : tree_bytes (take (suc n) es) ≡ tree_bytes (take n es) ++ entry_bytes e = ap tree_bytes (take-suc es n no_entry (omega arith)) ∙ tree_snoc (take n es) e in
      rw (sizes_taken n (omega arith), slot_of n (omega arith), t, length-append, length_entry_bytes)

  pub sizes_are : entry_sizes area (length es) ≡ length (tree_bytes es)
  sizes_are = sizes_taken (length es) (omega arith) ∙ rw take-length

-- ---- An entry more, and an entry changed.

slots_append : (es fs : List Entry) → slots_of (es ++ fs) ≡ slots_of es ++ slots_of fs
unfolding slots_of
slots_append [] fs = refl
slots_append (e ∷ es) fs = rw (slots_append es fs, append_assoc)

slots_snoc : (es : List Entry) (e : Entry) → slots_of (es ++ (e ∷ [])) ≡ slots_of es ++ slot_bytes e
unfolding slots_of
slots_snoc es e = slots_append es (e ∷ []) ∙ rw append-nil

-- A slot stored after the slots.
pub slot_added : (es : List Entry) (e : Entry) (rest : List ℕ) → spliced (25 * length es) (slot_bytes e) (slots_of es ++ rest) ≡ slots_of (es ++ (e ∷ [])) ++ drop 25 rest
unfolding spliced
slot_added es e rest =
    let n = length_slots_of es in
    let l = slots_of es ++ rest in
    let d : drop (25 * length es + length (slot_bytes e)) l ≡ drop 25 rest = rw (← n, length_slot_bytes e) (drop-append-add (slots_of es) rest 25) in
    rw (take_at (slots_of es) rest (25 * length es) n, d, slots_snoc es e, append_assoc)

-- A run written after a front leaves the front.
spliced_after : (p r x : List ℕ) (i : ℕ) → spliced (length p + i) x (p ++ r) ≡ p ++ spliced i x r
unfolding spliced
spliced_after p r x i =
    let n : length p + i + length x ≡ length p + (i + length x) = omega arith in
    rw (take-append-add, n, drop-append-add, append_assoc)

-- A run in place of one as long.
spliced_front : (x y r : List ℕ) → length x ≡ length y → spliced 0 x (y ++ r) ≡ x ++ r
unfolding spliced
spliced_front x y r e = let n : 0 + length x ≡ length y = omega arith in rw n (ap (λ (l : List ℕ). x ++ l) (drop-append_seam y r))

-- A slot stored in place of another.
pub slot_changed : (es : List Entry) (e : Entry) (rest : List ℕ) (k : ℕ) → k < length es
    → spliced (25 * k) (slot_bytes e) (slots_of es ++ rest) ≡ slots_of (set es k e) ++ rest
unfolding slots_of
slot_changed [] e rest k h = absurd (omega arith)
slot_changed (f ∷ es) e rest zero h =
    rw (append_assoc (slot_bytes f) (slots_of es) rest, append_assoc (slot_bytes e) (slots_of es) rest)
    (spliced_front (slot_bytes e) (slot_bytes f) (slots_of es ++ rest) (length_slot_bytes e ∙ sym (length_slot_bytes f)))
slot_changed (f ∷ es) e rest (suc k) h =
    let n : 25 * suc k ≡ length (slot_bytes f) + 25 * k = omega (arith, length_slot_bytes f) in
    rw (append_assoc (slot_bytes f) (slots_of es) rest, append_assoc (slot_bytes f) (slots_of (set es k e)) rest, n, spliced_after)
    (ap (λ (l : List ℕ). slot_bytes f ++ l) (slot_changed es e rest k (omega arith)))
