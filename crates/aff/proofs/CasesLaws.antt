-- Document 01's table of cases holds, row by row: paths and subkeys by computing in each edition, numbers by computing, entries by the law of
-- their lengths. Assumes nothing.
use mathlib.Core.Path.{◌≡◌, refl, sym, ap, ◌∙◌}
use mathlib.Core.Bool.{true, false, not}
use mathlib.Core.List.{List, [], ◌∷◌, ◌++◌}
use Prim.Native.Nat.{ℕ, ◌+◌}
use native.Mathlib.Numerals.{add-one}
use lib.Dec.{ltb}
use lib.ListN.{drop}
use borrow.Author.Tests.{le-ltb}
use Rattle.aff_format.specs.Edition.{editions, edition_by}
use Rattle.aff_format.specs.Answer.{accepted, refused, Check, check, refusal, refusal_at, first_wrong}
use Rattle.aff_format.specs.Bytes.{same_bytes}
use Rattle.aff_format.specs.Element.{decoded, element_at}
use Rattle.aff_format.specs.Kind.{entry_size}
use Rattle.aff_format.specs.Lowest.{lowest_from, is_at}
use Rattle.aff_format.specs.Number.{be_of, twos_complement}
use Rattle.aff_format.specs.Path.{between_slashes, parts_from, path_grammar, is_path, root}
use Rattle.aff_format.specs.Subkey.{narrow_first, rest_of_subkey, subkey_from, break_place, is_subkey, narrow_next, wide}
use Rattle.aff_format.specs.declared.edition.Edition.{Edition}
use Rattle.aff_format.specs.declared.edition.Edition.TheVariants.{One, Two, Three}
use Rattle.aff_format.specs.declared.kind.Kind.{Kind}
use Rattle.aff_format.specs.declared.kind.Kind.TheVariants.{Void, Int}
use Rattle.std.specs.Prelude.{Some}
use Rattle.aff_format.specs.declared.refusal.RefusalCode.{RefusalCode}
use Rattle.aff_format.proofs.AnswerLaws.{Others, others_both}
use Rattle.aff_format.proofs.EntryLaws.{length_entry_bytes}
use Rattle.aff_format.proofs.PathLaws.{path_complete}
use Rattle.aff_format.proofs.SubkeyLaws.{sound_is}
use Rattle.aff_reader.specs.Belongs.{reader_belongs}
use Rattle.aff_reader.specs.declared.reader.Reader.{Reader}
use Rattle.aff_reader.proofs.BelongsLaws.{record_belongs as reader-belongs}
use Rattle.aff_read.specs.Paths.{lowest_or0, found, lookup_answer}
use Rattle.aff_read.proofs.LookupLaws.{lookup_malformed, lookup_belongs, lookup_at}
use Rattle.aff_format.proofs.EditionLaws.{each_edition}
use Rattle.aff_areas.specs.Belongs.{writer_checks}
use Rattle.aff_areas.proofs.BelongsLaws.{record_belongs}
use Rattle.aff_make.specs.Make.{named_checks, make_answer}
use Rattle.aff.specs.Demand1.{NotBy}
use Rattle.aff.proofs.Demand1Laws.{others_not}
use Rattle.aff.specs.Cases.{subkey_case, not_subkey_case, entry_case, Holds, EachHolds, case_table, wide_table, LookupIs, MakeIs, Taken, NoName, EntryTakes, passing, NameBytes}

-- A path that breaks in an edition is 14 with its place.
no_path : (e : Edition) (path : List ℕ) (p : ℕ) → path_grammar e path ≡ Some p → LookupIs e path (refused (refusal_at 14 p))
no_path e path p h image reader strings entries b is = (lookup_malformed image reader strings entries path b p).1 (rw is h)

-- What is no subkey is 14 as a child's name.
no_child : (e : Edition) (name : List ℕ) (p : ℕ) → subkey_from e 0 name ≡ Some p → MakeIs e name (refused (refusal_at 14 p))
unfolding make_answer
no_child e name p h size writer text tree parent b is live there = rw (record_belongs b, live, le-ltb writer.nodes parent there, is, h)

no_name : (e : Edition) (name : List ℕ) (p : ℕ) → is_subkey e name ≡ false → subkey_from e 0 name ≡ Some p → NoName p e name
no_name e name p n h = record { no_subkey = n; as_child = no_child e name p h }

-- A check that finds nothing wrong changes no answer.
pass_over : {A : Type 0} (before : List Check) (t : RefusalCode) (after : List Check) (a : A) → first_wrong (before ++ (check false t ∷ after)) a ≡ first_wrong (before ++ after) a
pass_over [] t after a = refl
pass_over (check true q ∷ before) t after a = refl
pass_over (check false q ∷ before) t after a = pass_over before t after a

-- So a call whose check for 14 finds nothing wrong is never refused by 14.
never_14 : {A : Type 0} (before after : List Check) (a : A) (t : RefusalCode) → Others 14 before → Others 14 after → NotBy 14 (first_wrong (before ++ (check false t ∷ after)) a)
never_14 before after a t o p u h = others_not 14 (before ++ after) a (others_both 14 before after o p) u (sym (pass_over before t after a) ∙ h)

-- What is a path of one subkey, and a subkey, is never 14.
taken : (e : Edition) (name : List ℕ) → is_path e (47 ∷ name) ≡ true → is_subkey e name ≡ true → Taken e name
unfolding lookup_answer make_answer
taken e name path is =
    record {
      subkey = is;
      in_path = λ image reader strings entries q.
          rw (q, path)
          (never_14 (check (not (reader_belongs image reader strings entries)) (refusal 24) ∷ [])
          (check (not (is_at (found image reader strings entries (47 ∷ name)))) (refusal 15) ∷ []) (lowest_or0 (found image reader strings entries (47 ∷ name)))
          (refusal_at 14 (break_place (path_grammar e (47 ∷ name)))) refl refl);
      as_child = λ size writer text tree parent q.
          rw (q, is)
          (never_14 (writer_checks size writer text tree ++ (check (ltb writer.nodes parent) (refusal 15) ∷ [])) (named_checks writer text tree parent name) (writer.nodes + 1)
          (refusal_at 14 (break_place (subkey_from e 0 name))) refl refl);
    }

-- The root is the lowest node, and has the path `/`.
root_found : (image : List ℕ) (reader : Reader) (strings entries : List ℕ) → found image reader strings entries (47 ∷ []) ≡ Some 0
unfolding found lowest_from same_bytes
root_found image reader strings entries = rw (add-one reader.nodes)

root_looked : (e : Edition) → LookupIs e (47 ∷ []) (accepted 0)
root_looked e image reader strings entries b is =
    let path = sound_is _ (path_complete (edition_by reader.edition) (47 ∷ []) (root refl)) in
    sym
    (lookup_at image reader strings entries (47 ∷ []) path 0 (root_found image reader strings entries)
    ∙ lookup_belongs image reader strings entries (47 ∷ []) (reader-belongs b))

entry_takes : (kind : Kind) → EntryTakes kind (entry_size kind)
entry_takes kind e is = length_entry_bytes e ∙ ap entry_size is

-- Paths that are malformed in every edition.
empty_path : (e : Edition) → LookupIs e [] (refused (refusal_at 14 0))
unfolding path_grammar
empty_path e = no_path e [] 0 refl

empty_subkey : (e : Edition) → LookupIs e (47 ∷ 47 ∷ 97 ∷ []) (refused (refusal_at 14 1))
unfolding between_slashes parts_from path_grammar subkey_from
empty_subkey e = no_path e (47 ∷ 47 ∷ 97 ∷ []) 1 refl

empty_last : (e : Edition) → LookupIs e (47 ∷ 97 ∷ 47 ∷ []) (refused (refusal_at 14 3))
unfolding between_slashes parts_from path_grammar narrow_first wide rest_of_subkey subkey_from
empty_last =
    each_edition (λ e. LookupIs e (47 ∷ 97 ∷ 47 ∷ []) (refused (refusal_at 14 3)))
    (no_path One (47 ∷ 97 ∷ 47 ∷ []) 3 refl, (no_path Two (47 ∷ 97 ∷ 47 ∷ []) 3 refl, (no_path Three (47 ∷ 97 ∷ 47 ∷ []) 3 refl, tt)))

pub cases_hold : EachHolds case_table
unfolding between_slashes parts_from path_grammar narrow_first wide rest_of_subkey subkey_from decoded element_at twos_complement be_of
cases_hold =
    let digit : Holds (not_subkey_case (One ∷ Two ∷ []) (57 ∷ 97 ∷ []) 0) = (
      (no_name One (57 ∷ 97 ∷ []) 0 refl refl, (no_name Two (57 ∷ 97 ∷ []) 0 refl refl, tt)),
      (no_path One (47 ∷ 57 ∷ 97 ∷ []) 1 refl, (no_path Two (47 ∷ 57 ∷ 97 ∷ []) 1 refl, tt)),
    ) in
    let low : Holds (subkey_case editions (95 ∷ [])) =
    (taken One (95 ∷ []) refl refl, (taken Two (95 ∷ []) refl refl, (taken Three (95 ∷ []) refl refl, tt))) in
    let entries : Holds (entry_case 13 25) = (entry_takes Void, entry_takes Int) in
    let from_5 : EachHolds (drop 4 case_table) = (digit, (low, (refl, (refl, (refl, (entries, tt)))))) in
    (root_looked, (empty_path, (empty_subkey, (empty_last, from_5))))

pub wide_cases_hold : EachHolds wide_table
unfolding between_slashes parts_from path_grammar wide rest_of_subkey subkey_from
wide_cases_hold = (
  (taken Three (57 ∷ 97 ∷ []) refl refl, tt),
  (
    (taken Three (32 ∷ []) refl refl, tt),
    (
      (taken Three (255 ∷ []) refl refl, tt),
      (
        (no_name Three [] 0 refl refl, tt),
        (
          (no_name Three (97 ∷ 47 ∷ 98 ∷ []) 1 refl refl, tt),
          (
            ((no_name Three (97 ∷ 0 ∷ 98 ∷ []) 1 refl refl, tt), (no_path Three (47 ∷ 97 ∷ 0 ∷ 98 ∷ []) 2 refl, tt)),
            tt,
          ),
        ),
      ),
    ),
  ),
)

-- By computation, byte by byte.
pub bytes_of_names : NameBytes
unfolding passing narrow_first narrow_next wide
bytes_of_names = record { begin_1 = refl; begin_2 = refl; follow_1 = refl; follow_2 = refl; begin_3 = refl; follow_3 = refl }
