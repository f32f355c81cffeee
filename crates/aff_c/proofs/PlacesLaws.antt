-- The places that C programs get: from `break_places` and demand 2 of the crate `aff`. Assumes nothing.
use mathlib.Core.Path.{◌≡◌, refl, sym, ap, ◌∙◌}
use mathlib.Core.Bool.{true}
use mathlib.Core.List.{List}
use mathlib.Core.Logic.{◌↔◌, inl, inr}
use Prim.Native.Nat.{ℕ, ◌≤◌, ◌<◌}
use native.Mathlib.Omega.{arith}
use lib.ListN.{length, get_or}
use lib.Seq.{get_or-set_same}
use borrow.Author.Tests.{le-leb}
use Rattle.aff_format.specs.Edition.{edition_by}
use Rattle.aff_format.specs.Answer.{Answer, accepted, refused, refusal_at, refusal_with}
use Rattle.aff_format.specs.Breaks.{Breaks}
use Rattle.aff_format.specs.Path.{WellFormed}
use Rattle.aff_format.specs.Rule.{FirstFails, AllHold}
use Rattle.aff_format.specs.declared.refusal.RefusalCode.{RefusalCode}
use Rattle.aff_open.specs.Faults.{rules_before10}
use Rattle.aff_open.specs.Opening.{open_answer}
use Rattle.aff_open.specs.Rules.{FirstBadLink}
use Rattle.aff_open.specs.Sections.{edition_in, strings_in, nodes_in}
use Rattle.aff_reader.specs.Belongs.{ReaderBelongs}
use Rattle.aff_reader.specs.declared.reader.Reader.{Reader}
use Rattle.aff_read.specs.Paths.{lookup_answer}
use Rattle.aff.specs.BreakPlaces.{SecondBy10}
use Rattle.aff.specs.Rules.{lookup_rules}
use Rattle.aff.proofs.BreakPlacesLaws.{break_places}
use Rattle.aff.proofs.Demand1Laws.{demand1}
use Rattle.aff.proofs.Demand2Laws.{demand2}
use Rattle.aff_format.specs.Subkey.{IsSubkey}
use Rattle.aff_areas.specs.Belongs.{WriterBelongs}
use Rattle.aff_areas.specs.Writer.{writer_edition, stopped}
use Rattle.aff_areas.specs.declared.writer.Writer.{Writer}
use Rattle.aff_make.specs.Make.{made_writer}
use Rattle.aff_c.specs.Writing.{given, make_returned, numbers_left, numbers_made}
use Rattle.aff_c.specs.Opening.{code_of_answer, numbers_of, number_returned, record_left}
use Rattle.aff_c.specs.Reading.{number_by, place_by}
use Rattle.aff_c.specs.Places.{PlacesInC}

-- A refusal by 14 with place p: its second number is 0.
whole : (a : Answer ℕ) (p : ℕ) → SecondBy10 ℕ a → number_by a ≡ 14 → place_by a ≡ p → a ≡ refused (refusal_at 14 p)
whole (accepted n) p z e f = absurd (omega arith)
whole (refused t) p z e f =
    let s : t.second ≡ 0 = z t refl (λ g. omega arith) in
    ap refused (rw (← e, ← f, ← s))

-- The same of a make, whose place is in numbers[0].
whole_made : (numbers : List ℕ) (next halted : Writer) → 0 < length numbers → (a : Answer ℕ) (p : ℕ) → SecondBy10 ℕ a → number_by a ≡ 14
    → get_or (numbers_left numbers a next halted) 0 0 ≡ p → a ≡ refused (refusal_at 14 p)
whole_made numbers next halted long (accepted n) p z e f = absurd (omega arith)
whole_made numbers next halted long (refused t) p z e f =
    let g : t.place ≡ p = sym (get_or-set_same numbers 0 t.place 0 long) ∙ (rw e at f) in whole (refused t) p z e g

make_place : (buffer numbers kept text tree : List ℕ) (parent : ℕ) (name : List ℕ) → 0 < length numbers
    → WriterBelongs (length buffer) (given buffer numbers kept text tree) text tree → (given buffer numbers kept text tree).live ≡ true
    → parent ≤ (given buffer numbers kept text tree).nodes → (p : ℕ)
    → ((number_by (make_returned buffer numbers kept text tree parent name) ≡ 14) × (get_or (numbers_made buffer numbers kept text tree parent name) 0 0 ≡ p))
    ↔ Breaks (IsSubkey (writer_edition (given buffer numbers kept text tree))) name p
unfolding numbers_made
make_place buffer numbers kept text tree parent name long b live there p =
    let w = given buffer numbers kept text tree in
    let m = break_places.make (length buffer) w text tree parent name b live there p in (
      λ (e, f).
          m.0
          (whole_made numbers (made_writer w text name) (stopped w) long (make_returned buffer numbers kept text tree parent name) p
          ((break_places.writing_second buffer w text tree).make parent name) e f),
      λ h.
          let q = m.1 h in
          (ap number_by q, ap (λ (a : Answer ℕ). get_or (numbers_left numbers a (made_writer w text name) (stopped w)) 0 0) q ∙ get_or-set_same numbers 0 p 0 long),
    )

lookup_place : (image : List ℕ) (r : Reader) (strings entries path : List ℕ) → ReaderBelongs image r strings entries → (p : ℕ)
    → ((number_by (lookup_answer image r strings entries path) ≡ 14) × (place_by (lookup_answer image r strings entries path) ≡ p))
    ↔ Breaks (WellFormed (edition_by r.edition)) path p
lookup_place image r strings entries path b p =
    let m = (demand2.reads image r strings entries b).malformed path p in (
      λ (e, f). m.0 (whole (lookup_answer image r strings entries path) p ((break_places.reading_second image r strings entries).lookup path) e f),
      λ h. let q = m.1 h in (ap number_by q, ap place_by q),
    )

other_place : (image : List ℕ) (r : Reader) (strings entries path : List ℕ) (a : Answer ℕ)
    → ((t : RefusalCode) → a ≡ refused t → FirstFails (lookup_rules image r strings entries path) t) → (number_by a ≡ 14 → ⊥) → place_by a ≡ 0
other_place image r strings entries path (accepted n) f other = refl
other_place image r strings entries path (refused t) f other = go (f t refl)
  where
    go : FirstFails (lookup_rules image r strings entries path) t → t.place ≡ 0
    go (inl h) = ap (λ (u : RefusalCode). u.place) (sym h.1)
    go (inr (h, inl k)) = absurd (other (ap (λ (u : RefusalCode). u.number) (sym k.1)))
    go (inr (h, inr (k, inl l))) = ap (λ (u : RefusalCode). u.place) (sym l.1)
    go (inr (h, inr (k, inr (l, none)))) = absurd none

module _ (image form strings entries output : List ℕ) (long : 13 ≤ length output) where
  abbrev answer : Answer Reader
  answer = open_answer image form (length strings) (length entries)

  returned : number_returned image form strings entries output ≡ (code_of_answer answer).number
  unfolding number_returned
  returned = rw (le-leb 13 (length output) long)

  first_is : get_or (record_left image form strings entries output) 0 0 ≡ (code_of_answer answer).place
  unfolding record_left numbers_of
  first_is = rw (le-leb 13 (length output) long)

  last_is : get_or (record_left image form strings entries output) 12 0 ≡ (code_of_answer answer).second
  unfolding record_left numbers_of
  last_is = rw (le-leb 13 (length output) long)

  by_10 : (a : Answer Reader) → (code_of_answer a).number ≡ 10 → a ≡ refused (refusal_with 10 (code_of_answer a).place (code_of_answer a).second)
  by_10 (accepted r) e = absurd (omega arith)
  by_10 (refused t) e = ap refused (rw (← e))

  by_others : (a : Answer Reader) → SecondBy10 Reader a → ((code_of_answer a).number ≡ 10 → ⊥) → (code_of_answer a).second ≡ 0
  by_others (accepted r) z other = refl
  by_others (refused t) z other = z t refl other

  opening_10 : number_returned image form strings entries output ≡ 10
      → AllHold (rules_before10 image form (length strings) (length entries))
      × FirstBadLink (edition_in image) (strings_in (edition_in image) image) (nodes_in (edition_in image) image)
      (get_or (record_left image form strings entries output) 0 0) (get_or (record_left image form strings entries output) 12 0)
  opening_10 e =
      rw (first_is, last_is) ((break_places.opening image form (length strings) (length entries) (code_of_answer answer).place (code_of_answer answer).second).0 (by_10 answer (sym returned ∙ e)))

  opening_others : (number_returned image form strings entries output ≡ 10 → ⊥) → get_or (record_left image form strings entries output) 12 0 ≡ 0
  opening_others other = last_is ∙ by_others answer (break_places.opening_second image form (length strings) (length entries)) (λ e. other (returned ∙ e))

pub places_in_c : PlacesInC
places_in_c =
    record {
      lookup = lookup_place;
      lookup_other = λ image r strings entries path.
          other_place image r strings entries path _ (λ t. (((demand1.reading image r strings entries).lookup path).refuses t).0);
      make = make_place;
      opening = opening_10;
      opening_other = opening_others;
    }
