-- What a lookup answers: the lowest node with the path, or 15 where no node has it. Each says what the other says. Assumes nothing.
use mathlib.Core.Path.{◌≡◌, refl, sym, ap, ◌∙◌}
use mathlib.Core.Bool.{Bool, true, false, not}
use mathlib.Core.List.{List, [], ◌∷◌}
use mathlib.Core.Logic.{◌↔◌}
use Prim.Native.Nat.{ℕ, ◌+◌, ◌≤◌}
use native.Mathlib.Nat.{le_antisymm}
use native.Mathlib.Omega.{arith}
use lib.Dec.{ltb}
use borrow.Author.Tests.{ltb-true, ltb-false}
use Rattle.aff_format.specs.Edition.{edition_by}
use Rattle.aff_format.specs.Answer.{Answer, accepted, refused, check, refusal, refusal_at}
use Rattle.aff_format.specs.Bytes.{same_bytes}
use Rattle.aff_format.specs.Lowest.{is_at}
use Rattle.aff_format.specs.Path.{path_grammar, is_path}
use Rattle.std.specs.Prelude.{Option, Some, None}
use Rattle.aff_format.proofs.AnswerLaws.{not_both}
use Rattle.aff_format.proofs.LowestLaws.{lowest_is, none_holds}
use Rattle.aff_format.proofs.SameLaws.{same_eq, same_ne}
use Rattle.aff_format.proofs.SubkeyLaws.{sound_is, reports_14}
use Rattle.aff_reader.specs.Belongs.{ReaderBelongs, reader_belongs}
use Rattle.aff_reader.specs.declared.reader.Reader.{Reader}
use Rattle.aff_reader.proofs.BelongsLaws.{record_belongs}
use Rattle.aff_read.specs.Paths.{lowest_or0, found, lookup_answer, lookup_of_answer}
use Rattle.aff_read.specs.Lookup.{LowestWith, NoneWith}
use Rattle.aff_nodes.specs.Recall.{path_at}

module _ (image : List ℕ) (reader : Reader) (strings entries path : List ℕ) where
  abbrev answer : Answer ℕ
  answer = lookup_answer image reader strings entries path

  abbrev answer_of : Answer ℕ
  answer_of = lookup_of_answer image reader strings entries path

  -- Each check in its turn.
  pub lookup_belongs : reader_belongs image reader strings entries ≡ true → answer_of ≡ answer
  unfolding lookup_answer lookup_of_answer
  lookup_belongs h = rw h

  pub lookup_breaks : (p : ℕ) → path_grammar (edition_by reader.edition) path ≡ Some p → refused (refusal_at 14 p) ≡ answer_of
  unfolding lookup_of_answer
  lookup_breaks p h = rw h

  module _ (sound : path_grammar (edition_by reader.edition) path ≡ None) where
    pub lookup_none : found image reader strings entries path ≡ None → refused (refusal 15) ≡ answer_of
    unfolding lookup_of_answer
    lookup_none h = rw (sound, h)

    pub lookup_at : (n : ℕ) → found image reader strings entries path ≡ Some n → accepted n ≡ answer_of
    unfolding lookup_of_answer
    lookup_at n h = rw (sound, h)

-- There is one lowest at most.
lowest_least : {image : List ℕ} {reader : Reader} {strings entries path : List ℕ} {m n : ℕ}
    → LowestWith image reader strings entries path n → LowestWith image reader strings entries path m → m ≤ n
lowest_least {m = m} {n = n} w v = go (ltb n m) refl
  where
    go : (t : Bool) → ltb n m ≡ t → m ≤ n
    go true h = absurd (v.least n (ltb-true n m h) w.has)
    go false h = ltb-false n m h

module _ (image : List ℕ) (reader : Reader) (strings entries path : List ℕ) where
  abbrev has_path : ℕ → Bool
  has_path k = same_bytes (path_at image reader strings entries k) path

  found_lowest : (n : ℕ) → found image reader strings entries path ≡ Some n → LowestWith image reader strings entries path n
  unfolding found
  found_lowest n h =
      let l = lowest_is has_path (reader.nodes + 1) 0 n h in
      record {
        exists = omega (arith, l.most);
        has = same_eq _ _ l.holds;
        least = λ k m. same_ne _ _ (l.before k (omega arith) m);
      }

  found_none : found image reader strings entries path ≡ None → NoneWith image reader strings entries path
  unfolding found
  found_none h = λ k m. same_ne _ _ (none_holds has_path (reader.nodes + 1) 0 h k (omega arith) (omega arith))

  module _ (b : ReaderBelongs image reader strings entries) (p : is_path (edition_by reader.edition) path ≡ true) where
    -- What is answered, by what is found.
    data Looked : Type 0 where
      at : (n : ℕ) → accepted n ≡ lookup_answer image reader strings entries path → LowestWith image reader strings entries path n → Looked
      none : refused (refusal 15) ≡ lookup_answer image reader strings entries path → NoneWith image reader strings entries path → Looked

    belonging : lookup_of_answer image reader strings entries path ≡ lookup_answer image reader strings entries path
    belonging = lookup_belongs image reader strings entries path (record_belongs b)

    sound : path_grammar (edition_by reader.edition) path ≡ None
    sound = sound_is (path_grammar (edition_by reader.edition) path) p

    looked : Looked
    looked = go (found image reader strings entries path) refl
      where
        go : (l : Option ℕ) → found image reader strings entries path ≡ l → Looked
        go (Some n) h = at n (lookup_at image reader strings entries path sound n h ∙ belonging) (found_lowest n h)
        go None h = none (lookup_none image reader strings entries path sound h ∙ belonging) (found_none h)

    -- Accepted is n exactly where n is the lowest node with the path.
    pub lookup_accepts : (n : ℕ) → (lookup_answer image reader strings entries path ≡ accepted n) ↔ LowestWith image reader strings entries path n
    lookup_accepts n = go looked
      where
        go : Looked → (lookup_answer image reader strings entries path ≡ accepted n) ↔ LowestWith image reader strings entries path n
        go (at m f w) = (λ e. let q : m ≡ n = cc in rw (sym q) w, λ v. sym f ∙ ap accepted (le_antisymm (lowest_least v w) (lowest_least w v)))
        go (none f w) = (λ e. not_both (f ∙ e), λ v. absurd (w n v.exists v.has))

    -- 15 exactly where no node has the path.
    pub lookup_absent : (lookup_answer image reader strings entries path ≡ refused (refusal 15)) ↔ NoneWith image reader strings entries path
    lookup_absent = go looked
      where
        go : Looked → (lookup_answer image reader strings entries path ≡ refused (refusal 15)) ↔ NoneWith image reader strings entries path
        go (at m f w) = (λ e. not_both (sym (f ∙ e)), λ v. absurd (v m w.exists w.has))
        go (none f w) = (λ _. w, λ _. sym f)

  -- 14 with place p exactly where the path breaks at p.
  pub lookup_malformed : ReaderBelongs image reader strings entries → (p : ℕ)
      → (lookup_answer image reader strings entries path ≡ refused (refusal_at 14 p)) ↔ (path_grammar (edition_by reader.edition) path ≡ Some p)
  unfolding lookup_of_answer
  lookup_malformed b p =
      let q = lookup_belongs image reader strings entries path (record_belongs b) in
      let r = reports_14 (path_grammar (edition_by reader.edition) path) (check (not (is_at (found image reader strings entries path))) (refusal 15) ∷ []) (lowest_or0 (found image reader strings entries path)) p refl in
      (λ h. r.0 (q ∙ h), λ h. sym q ∙ r.1 h)
