-- Where names and paths break: from the laws of the grammars, of 10 and of 14; that no other number has a second number, from the rules of each call.
-- Assumes nothing.
use mathlib.Core.Path.{◌≡◌, refl, sym, ◌∙◌}
use mathlib.Core.Bool.{true}
use mathlib.Core.List.{List, ◌∷◌}
use mathlib.Core.Logic.{◌↔◌}
use Prim.Native.Nat.{ℕ, ◌+◌, ◌≤◌}
use borrow.Author.Tests.{le-ltb}
use Rattle.aff_format.specs.Answer.{refused, refusal_at, first_wrong}
use Rattle.aff_format.specs.Breaks.{Breaks}
use Rattle.aff_format.specs.Element.{decoded}
use Rattle.aff_format.specs.Subkey.{subkey_from, check_grammar, IsSubkey}
use Rattle.aff_format.specs.declared.kind.Kind.{Kind}
use Rattle.aff_format.proofs.BreaksLaws.{subkey_breaks, path_breaks, no_subkey_breaks, no_path_breaks, breaks_once}
use Rattle.aff_format.proofs.RefusalLaws.{rows_second}
use Rattle.aff_format.proofs.RuleLaws.{by_second}
use Rattle.aff_format.proofs.SubkeyLaws.{reports_14}
use Rattle.aff_open.specs.Faults.{rules}
use Rattle.aff_open.specs.Opening.{open_answer}
use Rattle.aff_open.proofs.FaultLaws.{refused_10, rules_second}
use Rattle.aff_reader.specs.declared.reader.Reader.{Reader}
use Rattle.aff_areas.specs.Belongs.{WriterBelongs}
use Rattle.aff_areas.specs.Writer.{writer_edition}
use Rattle.aff_areas.specs.declared.writer.Writer.{Writer}
use Rattle.aff_areas.proofs.BelongsLaws.{record_belongs}
use Rattle.aff_make.specs.Make.{named_checks, make_answer}
use Rattle.aff_write.specs.Begin.{begin_answer}
use Rattle.aff.specs.BreakPlaces.{SecondBy10, BreakPlaces}
use Rattle.aff.specs.Demand1.{EachReading, EachWriting}
use Rattle.aff.proofs.RulesLaws.{opening_by, decode_by, reading_by, begin_by, writing_by}

module _ (size : ℕ) (w : Writer) (text tree : List ℕ) (parent : ℕ) (name : List ℕ)
    (b : WriterBelongs size w text tree) (live : w.live ≡ true) (there : parent ≤ w.nodes) where
  -- 24, 22 and 15 find nothing wrong, so 14 is next.
  from_14 : first_wrong (check_grammar (subkey_from (writer_edition w) 0 name) ∷ named_checks w text tree parent name) (w.nodes + 1) ≡ make_answer size w text tree parent name
  unfolding make_answer
  from_14 = rw (record_belongs b, live, le-ltb w.nodes parent there)

  make_breaks : (p : ℕ) → (make_answer size w text tree parent name ≡ refused (refusal_at 14 p)) ↔ Breaks (IsSubkey (writer_edition w)) name p
  make_breaks p =
      let r = reports_14 (subkey_from (writer_edition w) 0 name) (named_checks w text tree parent name) (w.nodes + 1) p refl in
      let s = subkey_breaks (writer_edition w) name p in
      (λ h. s.0 (r.0 (from_14 ∙ h)), λ h. sym from_14 ∙ r.1 (s.1 h))

-- ---- The second number, by the rules of each call.

opening_second : (image form : List ℕ) (strings entries : ℕ) → SecondBy10 _ (open_answer image form strings entries)
opening_second image form strings entries =
    by_second (rules image form strings entries) (open_answer image form strings entries) (opening_by image form strings entries) (rules_second image form strings entries)

reading_second : (image : List ℕ) (r : Reader) (strings entries : List ℕ) → EachReading SecondBy10 image r strings entries
reading_second image r strings entries =
    let b = reading_by image r strings entries in
    record {
      name = λ node. by_second _ _ (b.name node) (λ _. refl, (λ _. refl, tt));
      kind = λ node. by_second _ _ (b.kind node) (λ _. refl, (λ _. refl, tt));
      count = λ node. by_second _ _ (b.count node) (λ _. refl, (λ _. refl, tt));
      view = λ node. by_second _ _ (b.view node) (λ _. refl, (λ _. refl, tt));
      element = λ node index. by_second _ _ (b.element node index) (λ _. refl, (λ _. refl, (λ _. refl, tt)));
      path = λ node size. by_second _ _ (b.path node size) (λ _. refl, (λ _. refl, (λ _. refl, tt)));
      lookup = λ path. by_second _ _ (b.lookup path) (λ _. refl, (λ _. refl, (λ _. refl, tt)));
      listing = λ choice size. by_second _ _ (b.listing choice size) (λ _. refl, (λ _. refl, tt));
    }

decode_second : (kind : Kind) (bytes : List ℕ) (index : ℕ) → SecondBy10 _ (decoded kind bytes index)
decode_second kind bytes index = by_second _ _ (decode_by kind bytes index) (λ _. refl, tt)

begin_second : (edition : ℕ) (buffer form text tree : List ℕ) (allowance : ℕ) → SecondBy10 _ (begin_answer edition buffer form text tree allowance)
begin_second edition buffer form text tree allowance =
    by_second _ _ (begin_by edition buffer form text tree allowance) (λ _. refl, (λ _. refl, (λ _. refl, (λ _. refl, tt))))

writing_second : (buffer : List ℕ) (w : Writer) (text tree : List ℕ) → EachWriting SecondBy10 buffer w text tree
writing_second buffer w text tree =
    let b = writing_by buffer w text tree in
    record {
      make = λ parent name. by_second _ _ (b.make parent name) (λ _. refl, (λ _. refl, (λ _. refl, (λ _. refl, (λ _. refl, (λ _. refl, (λ _. refl, tt)))))));
      put = λ node type bytes allowance.
          by_second _ _ (b.put node type bytes allowance) (λ _. refl, (λ _. refl, (λ _. refl, (λ _. refl, (λ _. refl, (λ _. refl, (λ _. refl, tt)))))));
      close = λ allowance. by_second _ _ (b.close allowance) (λ _. refl, (λ _. refl, (λ _. refl, tt)));
    }

pub break_places : BreakPlaces
break_places =
    record {
      subkey_breaks = subkey_breaks;
      path_breaks = path_breaks;
      no_subkey = no_subkey_breaks;
      no_path = no_path_breaks;
      one_place = breaks_once;
      make = make_breaks;
      opening = refused_10;
      opening_second = opening_second;
      reading_second = reading_second;
      decode_second = decode_second;
      begin_second = begin_second;
      writing_second = writing_second;
      row_second = rows_second;
    }
