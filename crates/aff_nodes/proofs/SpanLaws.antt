-- Where name and data of a node are, and that they lie inside the image. Assumes nothing.
use mathlib.Core.Path.{◌≡◌, refl, sym, ap, ◌∙◌}
use mathlib.Core.Bool.{Bool, true, false, cond}
use mathlib.Core.List.{List, []}
use Prim.Native.Nat.{ℕ, ◌+◌, ◌-◌, ◌*◌, ◌≤◌, ◌<◌}
use native.Mathlib.Omega.{arith}
use lib.Dec.{eqb}
use lib.ListN.{length, get_or, take, drop}
use borrow.Author.Tests.{eq-eqb, ne_eqb}
use mathlib.Core.Logic.{⊎_elim}
use Rattle.aff_format.proofs.ClimbLaws.{absurd_bool, at_zero}
use Rattle.aff_format.specs.Recorded.{name_from, recorded_entry}
use Rattle.aff_reader.proofs.BelongsLaws.{belongs_record, string_within}
use Rattle.aff_format.specs.Bytes.{Octets, part}
use Rattle.aff_format.specs.Strings.{up_to_zero}
use Rattle.aff_format.proofs.BytesLaws.{octets_nil, octets_take, octets_part}
use Rattle.aff_format.proofs.StringsLaws.{take_up_to_zero}
use Rattle.aff_format.specs.Kind.{element_size, is_void}
use Rattle.aff_format.specs.declared.entry.Entry.{Entry}
use Rattle.aff_reader.specs.Belongs.{ReaderBelongs, reader_belongs}
use Rattle.aff_reader.specs.Reader.{no_span}
use Rattle.aff_reader.specs.declared.reader.Span.{Span}
use Rattle.aff_reader.specs.declared.reader.Reader.{Reader}
use Rattle.aff_nodes.specs.Recall.{symbols_end, name_at, name_span, data_span}

pub part_between : (image : List ℕ) (from size : ℕ) → part from (from + size - from) image ≡ part from size image
part_between image from size = let e : from + size - from ≡ size = omega arith in rw e

-- The name of a node of an image of bytes is bytes.
pub name_octets : (image : List ℕ) (reader : Reader) (strings entries : List ℕ) → Octets image → (k : ℕ) → Octets (name_at image reader strings entries k)
unfolding name_at name_from
name_octets image reader strings entries o k = go (eqb k 0)
  where
    from : ℕ
    from = get_or strings (recorded_entry image entries k).string 0

    run : List ℕ
    run = part from (symbols_end reader - from) image

    go : (b : Bool) → Octets (cond b [] (up_to_zero run))
    go true = octets_nil
    go false = rw (take_up_to_zero run) at (octets_take (length (up_to_zero run)) run (octets_part from (symbols_end reader - from) image o))

module _ (image entries : List ℕ) (node : ℕ) (e : Entry) (is : e ≡ recorded_entry image entries node) where
  pub data_void : {s : Span} → is_void e.kind ≡ true → s ≡ no_span → s ≡ data_span image entries node
  unfolding data_span
  data_void v h = h ∙ rw (ap (λ (x : Entry). is_void x.kind) (sym is) ∙ v)

  pub data_full : is_void e.kind ≡ false → (size : ℕ) → size ≡ element_size e.kind
      → ◌≡◌ {A = Span} (record { offset = e.offset; size = e.count * size }) (data_span image entries node)
  unfolding data_span
  data_full v size h = rw (ap (λ (x : Entry). is_void x.kind) (sym is) ∙ v, h, is)

-- For a record that belongs, both lie inside the image.
module _ {image : List ℕ} {reader : Reader} {strings entries : List ℕ} (b : ReaderBelongs image reader strings entries) (node : ℕ) (there : node ≤ reader.nodes) where
  -- The root is Void.
  not_root : is_void (recorded_entry image entries node).kind ≡ false → 0 < node
  unfolding recorded_entry
  not_root v = ⊎_elim (λ (z : node ≡ 0). absurd_bool (sym v ∙ rw z)) (λ h. h) (at_zero (λ k. k) node)

  pub data_ends : is_void (recorded_entry image entries node).kind ≡ false
      → (recorded_entry image entries node).offset + (recorded_entry image entries node).count * element_size (recorded_entry image entries node).kind ≤ length image
  data_ends v = b.node_data node (not_root v) there v

  pub data_within : (data_span image entries node).offset + (data_span image entries node).size ≤ length image
  unfolding data_span
  data_within = go (is_void (recorded_entry image entries node).kind) refl
    where
      go : (v : Bool) → is_void (recorded_entry image entries node).kind ≡ v → (data_span image entries node).offset + (data_span image entries node).size ≤ length image
      go true v = rw v (omega arith)
      go false v = rw v (data_ends v)

  -- The name's place and its end.
  pub name_from_lem : 0 < node → get_or strings (recorded_entry image entries node).string 0 ≤ symbols_end reader
  name_from_lem h = let p = b.string_before_end (recorded_entry image entries node).string (b.string_exists node h there) in omega arith

  pub name_within : (name_span image reader strings entries node).offset + (name_span image reader strings entries node).size ≤ length image
  unfolding name_span name_at
  name_within =
      ⊎_elim (λ (z : node ≡ 0). rw (eq-eqb node 0 z) (omega arith))
      (λ (h : 0 < node).
      let w = string_within b (recorded_entry image entries node).string (b.string_exists node h there) in
      rw (ne_eqb node 0 (λ q. omega arith)) (omega (arith, w, b.symbols_inside)))
      (at_zero (λ k. k) node)

-- The same by the test itself, for an attribute to name.
module _ (image : List ℕ) (reader : Reader) (strings entries : List ℕ) (belongs : reader_belongs image reader strings entries ≡ true) (node : ℕ) (there : node ≤ reader.nodes) where
  pub name_begins : 0 < node → get_or strings (recorded_entry image entries node).string 0 ≤ symbols_end reader
  name_begins = name_from_lem (belongs_record belongs) node there

  pub data_lies : (data_span image entries node).offset + (data_span image entries node).size ≤ length image
  data_lies = data_within (belongs_record belongs) node there

-- The root's name, and another's.
module _ (image : List ℕ) (reader : Reader) (strings entries : List ℕ) (node : ℕ) where
  pub name_root : {s : Span} → node ≡ 0 → s ≡ no_span → s ≡ name_span image reader strings entries node
  unfolding name_span
  name_root z h = h ∙ rw (eq-eqb node 0 z)

  pub name_other : (e : Entry) (from end : ℕ) (name : List ℕ) → (node ≡ 0 → ⊥) → e ≡ recorded_entry image entries node → from ≡ get_or strings e.string 0
      → end ≡ symbols_end reader → name ≡ up_to_zero (take (end - from) (drop from image))
      → ◌≡◌ {A = Span} (record { offset = from; size = length name }) (name_span image reader strings entries node)
  unfolding name_span name_at name_from
  name_other e from end name other is h g run = rw (ne_eqb node 0 other, run, g, h, is)
