-- Tree entries: what is written is read and what is read is written, field by field. Assumes nothing.
use borrow.Author.Tests.{le-leb, leb-true, le-ltb, ltb-false}
use mathlib.Core.Path.{◌≡◌, refl, sym, ap, ◌∙◌, subst}
use mathlib.Core.Bool.{Bool, true, false, cond, not, ◌&&◌, ◌||◌, true≢false}
use mathlib.Core.List.{List, [], ◌∷◌, ◌++◌, append_assoc, append-nil}
use Prim.Native.Nat.{ℕ, ◌+◌, ◌-◌, ◌^◌, ◌≤◌, ◌<◌, ◌*◌}
use native.Mathlib.Omega.{arith}
use lib.Dec.{leb, ltb}
use lib.ListN.{length, get_or, take, drop, replicate, length-append, length-replicate, drop_of_length-le}
use lib.Seq.{take_at}
use Rattle.aff_format.specs.Bytes.{Octets, part}
use Rattle.aff_format.specs.Number.{be_of, be_bytes}
use Rattle.aff_format.specs.Kind.{kind_code, kind_of, entry_size, is_void, element_size}
use Rattle.aff_format.specs.Entry.{type_field, parent_field, string_field, count_field, offset_field, fields_of, entry_of_kind, entry_of, data_fields, void_or, entry_bytes, slot_bytes, Storable, outside}
use Rattle.aff_format.specs.declared.kind.Kind.{Kind}
use Rattle.std.specs.Prelude.{Option, Some, None}
use Rattle.aff_format.specs.declared.entry.Entry.{Entry}
use Rattle.aff_format.proofs.BytesLaws.{laid, total, part_laid, part_add}
use Rattle.aff_format.proofs.NumberLaws.{length_be_bytes, be_of_be_bytes, be_bytes_part, be_of_part_bound}
use Rattle.aff_format.proofs.KindLaws.{kind_of_code, code_of_kind, entry_size_bounds}
use mathlib.Core.Logic.{◌↔◌}
use Rattle.aff_format.proofs.TestLaws.{or_false}

-- An entry whose fields are those of the bytes l is the entry of l.
pub fields_are : (e : Entry) (l : List ℕ) → e.parent ≡ parent_field l → e.string ≡ string_field l
    → e.count ≡ cond (is_void e.kind) 0 (count_field l) → e.offset ≡ cond (is_void e.kind) 0 (offset_field l) → e ≡ fields_of e.kind l
unfolding fields_of
fields_are e l p s n o = rw (← p, ← s, ← n, ← o)

-- Two cases of a read.
pub entry_past : (l : List ℕ) (at : ℕ) → length l ≤ at → None ≡ entry_of (drop at l)
unfolding entry_of
entry_past l at h = rw (drop_of_length-le l h)

pub entry_whole : (f : Option Kind) (k : Kind) (l : List ℕ) → f ≡ Some k → entry_size k ≤ length l → Some (fields_of k l) ≡ entry_of_kind f l
entry_whole f k l e h = rw (e, le-leb (entry_size k) (length l) h)

-- What a whole entry says of the bytes that it was read from.
record Shape (f : Option Kind) (l : List ℕ) (e : Entry) : Type 0 where
  known : f ≡ Some e.kind
  inside : entry_size e.kind ≤ length l
  fields : e ≡ fields_of e.kind l

shape_cond : (k : Kind) (l : List ℕ) (e : Entry) (b : Bool) → leb (entry_size k) (length l) ≡ b
    → cond b (Some (fields_of k l)) None ≡ Some e → Shape (Some k) l e
unfolding fields_of
shape_cond k l e true t h =
    let q : e ≡ fields_of k l = cc in
    subst (Shape (Some k) l) (sym q) (record { known = refl; inside = leb-true (entry_size k) (length l) t; fields = refl })
shape_cond k l e false t h = absurd cc

shape_of : (f : Option Kind) (l : List ℕ) (e : Entry) → entry_of_kind f l ≡ Some e → Shape f l e
shape_of None l e h = absurd cc
shape_of (Some k) l e h = shape_cond k l e (leb (entry_size k) (length l)) refl h

shape : (l : List ℕ) (e : Entry) → entry_of l ≡ Some e → Shape (kind_of (type_field l)) l e
unfolding entry_of
shape l e h = shape_of (kind_of (type_field l)) l e h

module _ (l : List ℕ) (e : Entry) (h : entry_of l ≡ Some e) where
  pub entry_inside : entry_size e.kind ≤ length l
  entry_inside = (shape l e h).inside

  pub whole_kind : kind_code e.kind ≡ type_field l
  whole_kind = code_of_kind (type_field l) e.kind (shape l e h).known

  pub whole_parent : e.parent ≡ parent_field l
  unfolding fields_of
  whole_parent = ap (λ (x : Entry). x.parent) (shape l e h).fields

  pub whole_string : e.string ≡ string_field l
  unfolding fields_of
  whole_string = ap (λ (x : Entry). x.string) (shape l e h).fields

  count_given : e.count ≡ cond (is_void e.kind) 0 (count_field l)
  unfolding fields_of
  count_given = ap (λ (x : Entry). x.count) (shape l e h).fields

  offset_given : e.offset ≡ cond (is_void e.kind) 0 (offset_field l)
  unfolding fields_of
  offset_given = ap (λ (x : Entry). x.offset) (shape l e h).fields

  pub whole_count : is_void e.kind ≡ false → e.count ≡ count_field l
  whole_count v = count_given ∙ rw v

  pub whole_offset : is_void e.kind ≡ false → e.offset ≡ offset_field l
  whole_offset v = offset_given ∙ rw v

  pub whole_void_count : is_void e.kind ≡ true → e.count ≡ 0
  whole_void_count v = count_given ∙ rw v

  pub whole_void_offset : is_void e.kind ≡ true → e.offset ≡ 0
  whole_void_offset v = offset_given ∙ rw v

-- Sizes.
length_cases : (k p s n o : ℕ) (b : Bool) → length (k ∷ (be_bytes 8 p ++ (be_bytes 4 s ++ void_or b (be_bytes 4 n ++ be_bytes 8 o)))) ≡ cond b 13 25
length_cases k p s n o true = simp (length-append, length_be_bytes)
length_cases k p s n o false = simp (length-append, length_be_bytes)

pub length_entry_bytes : (e : Entry) → length (entry_bytes e) ≡ entry_size e.kind
unfolding entry_bytes
length_entry_bytes e = length_cases (kind_code e.kind) e.parent e.string e.count e.offset (is_void e.kind)

pub length_slot_bytes : (e : Entry) → length (slot_bytes e) ≡ 25
unfolding slot_bytes
length_slot_bytes e =
    length-append (entry_bytes e) (replicate (25 - entry_size e.kind) 0)
    ∙ omega (arith, length_entry_bytes e, length-replicate {A = ℕ} (25 - entry_size e.kind) 0, entry_size_bounds e.kind)

pub slot_front : (e : Entry) → take (entry_size e.kind) (slot_bytes e) ≡ entry_bytes e
unfolding slot_bytes
slot_front e = take_at (entry_bytes e) (replicate (25 - entry_size e.kind) 0) (entry_size e.kind) (length_entry_bytes e)

-- What is written is read: each field is a piece of the bytes.
field_laid : (ps : List (List ℕ)) (rest : List ℕ) (j at w n : ℕ) → get_or ps j [] ≡ be_bytes w n
    → total (take j ps) ≡ at → n < 256 ^ w → n ≡ be_of (part at w (laid ps rest))
field_laid ps rest j at w n e d h =
    sym (be_of_be_bytes w n h) ∙ ap be_of (sym e) ∙ ap be_of (sym (part_laid ps rest j at w d (ap length e ∙ length_be_bytes w n)))

regroup : (k : ℕ) (p q c d rest : List ℕ) → (k ∷ (p ++ (q ++ (c ++ d)))) ++ rest ≡ k ∷ (p ++ (q ++ (c ++ (d ++ rest))))
regroup k p q c d rest = simp append_assoc

read_back : (e : Entry) (rest : List ℕ) (b : Bool) → is_void e.kind ≡ b → Storable e → e ≡ fields_of e.kind (entry_bytes e ++ rest)
unfolding entry_bytes
read_back e rest true v s =
    let k = kind_code e.kind in
    let p = be_bytes 8 e.parent in
    let q = be_bytes 4 e.string in
    let ps : List (List ℕ) = (k ∷ []) ∷ p ∷ q ∷ [] in
    let r : entry_bytes e ++ rest ≡ laid ps rest =
    ap (λ (b : Bool). (k ∷ (p ++ (q ++ void_or b (data_fields e)))) ++ rest) v ∙ regroup k p q [] [] rest in
    rw r (fields_are e (laid ps rest)
    (field_laid ps rest 1 1 8 e.parent refl refl s.parent_fits)
    (field_laid ps rest 2 9 4 e.string refl (simp length_be_bytes) s.string_fits)
    (s.void_count v ∙ rw v)
    (s.void_offset v ∙ rw v))
read_back e rest false v s =
    let k = kind_code e.kind in
    let p = be_bytes 8 e.parent in
    let q = be_bytes 4 e.string in
    let c = be_bytes 4 e.count in
    let d = be_bytes 8 e.offset in
    let ps : List (List ℕ) = (k ∷ []) ∷ p ∷ q ∷ c ∷ d ∷ [] in
    let r : entry_bytes e ++ rest ≡ laid ps rest =
    ap (λ (b : Bool). (k ∷ (p ++ (q ++ void_or b (data_fields e)))) ++ rest) v ∙ regroup k p q c d rest in
    rw r (fields_are e (laid ps rest)
    (field_laid ps rest 1 1 8 e.parent refl refl s.parent_fits)
    (field_laid ps rest 2 9 4 e.string refl (simp length_be_bytes) s.string_fits)
    (rw v (field_laid ps rest 3 13 4 e.count refl (simp length_be_bytes) s.count_fits))
    (rw v (field_laid ps rest 4 17 8 e.offset refl (simp length_be_bytes) s.offset_fits)))

type_of_bytes : (e : Entry) (rest : List ℕ) → type_field (entry_bytes e ++ rest) ≡ kind_code e.kind
unfolding entry_bytes
type_of_bytes e rest = refl

pub entry_round_trip : (e : Entry) → Storable e → (rest : List ℕ) → entry_of (entry_bytes e ++ rest) ≡ Some e
unfolding entry_of
entry_round_trip e s rest =
    let l = entry_bytes e ++ rest in
    let n : entry_size e.kind ≤ length l = omega (arith, length-append (entry_bytes e) rest, length_entry_bytes e) in
    sym (entry_whole (kind_of (type_field l)) e.kind l (ap kind_of (type_of_bytes e rest) ∙ kind_of_code e.kind) n)
    ∙ ap Some (sym (read_back e rest (is_void e.kind) refl s))

pub slot_round_trip : (e : Entry) → Storable e → (rest : List ℕ) → entry_of (slot_bytes e ++ rest) ≡ Some e
unfolding slot_bytes
slot_round_trip e s rest = rw append_assoc (entry_round_trip e s (replicate (25 - entry_size e.kind) 0 ++ rest))

-- What is read is written: the bytes of the entry are the fields one after another.
first_byte : (l : List ℕ) → 0 < length l → part 0 1 l ≡ type_field l ∷ []
first_byte [] h = absurd (omega arith)
first_byte (x ∷ l) h = refl

-- The entry's bytes from the parts that its fields were read from, without or with count and data offset.
back : (l : List ℕ) (e : Entry) (b : Bool) → is_void e.kind ≡ b → entry_of l ≡ Some e → Octets l
    → take (cond b 13 25) l ≡ kind_code e.kind ∷ (be_bytes 8 e.parent ++ (be_bytes 4 e.string ++ void_or b (data_fields e)))
back l e true v h o =
    let n : 13 ≤ length l = rw v at (entry_inside l e h) in
    rw (whole_kind l e h, whole_parent l e h, whole_string l e h, be_bytes_part 1 8 l o (omega arith), be_bytes_part 9 4 l o (omega arith), append-nil)
    (part_add 0 1 12 l ∙ rw (first_byte l (omega arith), part_add 1 8 4 l))
back l e false v h o =
    let n : 25 ≤ length l = rw v at (entry_inside l e h) in
    rw (
      whole_kind l e h,
      whole_parent l e h,
      whole_string l e h,
      whole_count l e h v,
      whole_offset l e h v,
      be_bytes_part 1 8 l o (omega arith),
      be_bytes_part 9 4 l o (omega arith),
      be_bytes_part 13 4 l o (omega arith),
      be_bytes_part 17 8 l o (omega arith),
    )
    (part_add 0 1 24 l ∙ rw (first_byte l (omega arith), part_add 1 8 16 l, part_add 9 4 12 l, part_add 13 4 8 l))

pub entry_back : (l : List ℕ) (e : Entry) → entry_of l ≡ Some e → Octets l → take (entry_size e.kind) l ≡ entry_bytes e
unfolding entry_bytes
entry_back l e h o = back l e (is_void e.kind) refl h o

storable : (l : List ℕ) (e : Entry) (b : Bool) → is_void e.kind ≡ b → entry_of l ≡ Some e → Octets l → (e.count < 256 ^ 4) × (e.offset < 256 ^ 8)
storable l e true v h o = (rw (whole_void_count l e h v) (omega arith), rw (whole_void_offset l e h v) (omega arith))
storable l e false v h o =
    let n : 25 ≤ length l = rw v at (entry_inside l e h) in
    (rw (whole_count l e h v) (be_of_part_bound 13 4 l o (omega arith)), rw (whole_offset l e h v) (be_of_part_bound 17 8 l o (omega arith)))

pub entry_storable : (l : List ℕ) (e : Entry) → entry_of l ≡ Some e → Octets l → Storable e
entry_storable l e h o =
    let n : 13 ≤ length l = omega (arith, entry_size_bounds e.kind, entry_inside l e h) in
    let f = storable l e (is_void e.kind) refl h o in
    record {
      parent_fits = rw (whole_parent l e h) (be_of_part_bound 1 8 l o (omega arith));
      string_fits = rw (whole_string l e h) (be_of_part_bound 9 4 l o (omega arith));
      count_fits = f.0;
      offset_fits = f.1;
      void_count = whole_void_count l e h;
      void_offset = whole_void_offset l e h;
    }

-- Data are not outside the `size` bytes from `from` on exactly where they lie inside.
pub data_asks : (from size : ℕ) (e : Entry) → (outside from size e ≡ false)
    ↔ (is_void e.kind ≡ false → (from ≤ e.offset) × (e.offset + e.count * element_size e.kind ≤ from + size))
unfolding outside
data_asks from size e = go (is_void e.kind) (e.offset + e.count * element_size e.kind)
  where
    go : (v : Bool) (end : ℕ) → ((not v && (ltb e.offset from || ltb (from + size) end)) ≡ false) ↔ (v ≡ false → (from ≤ e.offset) × (end ≤ from + size))
    go true end = (λ h q. absurd (true≢false q), λ h. refl)
    go false end = (
      λ h q. let (p, r) = or_false _ _ h in (ltb-false _ _ p, ltb-false _ _ r),
      λ h. let (p, r) = h refl in rw (le-ltb _ _ p, le-ltb _ _ r),
    )
