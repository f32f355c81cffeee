-- Parents, string numbers and names of the nodes: what the pass over them keeps, and the tests 27 and 10 to 13 by what they go by. Tests that
-- agree node by node have the same lowest node. Assumes nothing.
use mathlib.Core.Path.{◌≡◌, refl, sym, ap, ◌∙◌}
use mathlib.Core.Bool.{Bool, true, false, cond, not, ◌&&◌, ◌||◌}
use mathlib.Core.List.{List, []}
use mathlib.Core.Logic.{⊎_elim, ◌↔◌}
use Prim.Native.Nat.{ℕ, ◌+◌, ◌-◌, ◌≤◌, ◌<◌}
use native.Mathlib.Nat.{eq-or-lt_of_le}
use native.Mathlib.Omega.{arith}
use lib.Dec.{eqb, ltb, leb}
use lib.ListN.{length, get_or, set, take}
use lib.Seq.{get_or-set_same, get_or-set_other, get_or-take, length-take-le}
use borrow.Author.Tests.{eqb-true, eqb-false, ltb-true, ltb-false, leb-false, le-ltb, le-leb, lt-leb, not-false}
use Rattle.aff_format.specs.Bytes.{part, same_bytes}
use Rattle.aff_format.specs.Lowest.{lowest_from, is_at}
use Rattle.aff_format.specs.Strings.{is_in, index_in}
use Rattle.aff_format.specs.Subkey.{subkey_from, is_sound, break_place, is_subkey}
use Rattle.aff_format.specs.Recorded.{name_from}
use Rattle.aff_format.proofs.RecordedLaws.{name_part}
use Rattle.aff_format.proofs.SubkeyLaws.{sound_shift}
use Rattle.aff_format.specs.declared.edition.Edition.{Edition}
use Rattle.aff_format.specs.declared.entry.Entry.{Entry}
use Rattle.std.specs.Prelude.{Option, None}
use Rattle.aff_format.proofs.LowestLaws.{lowest_same, none_holds}
use Rattle.aff_format.proofs.SameLaws.{same_refl, ne_same}
use Rattle.aff_format.proofs.StringsLaws.{is_in_none, none_is_in, is_in_index_in, index_in_found}
use Rattle.aff_format.proofs.TestLaws.{or_false}
use Rattle.aff_tables.specs.passes.Distinct.{sibling_taken}
use Rattle.aff_format.specs.Entry.{no_parent, outside}
use Rattle.aff_tables.specs.Nodes.{Contents, link_wrong, name_break, climb_endless, name_taken, data_outside}
use Rattle.aff_tables.specs.passes.Results.{link_bad, Copied, AllDistinct}
use Rattle.aff_tables.specs.Tables.{repeats}
use Rattle.aff_tables.proofs.ParentLaws.{reaches_same}

-- A string judged where it lies in the image.
pub judged_name : (e : Edition) (image : List ℕ) (from end to : ℕ) (finding g : Option ℕ) → (from ≤ end) × (end ≤ length image)
    → to ≡ from + length (name_from image end from) → finding ≡ subkey_from e from (part from (to - from) image) → finding ≡ g
    → is_sound g ≡ is_subkey e (name_from image end from)
judged_name e image from end to finding g h t r q = rw (← q, r, name_part image end from to h.0 h.1 t, sound_shift e from (name_from image end from))

-- The second number of 10, by whether the string exists.
module _ (e : Edition) (strings : ℕ) (string : ℕ → List ℕ) (entry : Entry) where
  pub break_none : strings ≤ entry.string → 0 ≡ name_break e strings string entry
  unfolding name_break
  break_none h = rw (le-leb strings entry.string h)

  pub break_some : entry.string < strings → break_place (subkey_from e 0 (string entry.string)) ≡ name_break e strings string entry
  unfolding name_break
  break_some h = rw (lt-leb strings entry.string h)

-- Where they are judged, an entry is bad by the judgements where it is by the strings.
pub links_judged : (e : Edition) (c : Contents) (sound : List Bool) (r : Option ℕ)
    → ((i : ℕ) → i < c.strings → get_or sound i false ≡ is_subkey e (c.string i))
    → r ≡ lowest_from (λ k. link_bad c.nodes c.strings sound (c.entry k)) c.nodes 1
    → r ≡ lowest_from (link_wrong e c) c.nodes 1
unfolding link_wrong
links_judged e c sound r j q =
    q ∙ lowest_same _ _ c.nodes 1
    (λ k lo hi. ap (λ (b : Bool). no_parent c.nodes (c.entry k) || b) (go (c.entry k).string (leb c.strings (c.entry k).string) refl))
  where
    go : (s : ℕ) (b : Bool) → leb c.strings s ≡ b → (b || not (get_or sound s false)) ≡ (b || not (is_subkey e (c.string s)))
    go s true h = refl
    go s false h = rw (j s (leb-false c.strings s h))

-- Parents and string numbers copied node by node.
set_copied : (l : List ℕ) (f : ℕ → ℕ) (k v : ℕ) → k < length l → ((j : ℕ) → 0 < j → j ≤ k - 1 → get_or l j 0 ≡ f j) → v ≡ f k
    → (j : ℕ) → 0 < j → j ≤ k → get_or (set l k v) j 0 ≡ f j
set_copied l f k v h c e j lo hi =
    ⊎_elim (λ (z : j ≡ k). rw z (get_or-set_same l k v 0 h ∙ e))
    (λ (z : j < k). get_or-set_other l k j v 0 (λ y. omega arith) ∙ c j lo (omega arith))
    (eq-or-lt_of_le hi)

module _ (entry : ℕ → Entry) (parents names : List ℕ) where
  pub copied_more : (k : ℕ) → k < length parents → k < length names → Copied entry (k - 1) parents names
      → (e : Entry) → e ≡ entry k → Copied entry k (set parents k e.parent) (set names k e.string)
  copied_more k p n c e q =
      record {
        parent = set_copied parents (λ j. (entry j).parent) k e.parent p c.parent (rw q);
        name = set_copied names (λ j. (entry j).string) k e.string n c.name (rw q);
      }

  pub copied_less : (m k : ℕ) → m ≤ k → Copied entry k parents names → Copied entry m parents names
  copied_less m k h c = record { parent = λ j lo hi. c.parent j lo (omega arith); name = λ j lo hi. c.name j lo (omega arith) }

-- 10: no link is wrong where each node's parent and string exist and the string is a subkey. And back.
module _ (e : Edition) (c : Contents) where
  abbrev pub Linkable : ℕ → Type 0
  Linkable k = ((c.entry k).parent ≤ c.nodes) × ((c.entry k).string < c.strings) × (is_subkey e (c.string (c.entry k).string) ≡ true)

  pub link_asks : (k : ℕ) → (link_wrong e c k ≡ false) ↔ Linkable k
  unfolding link_wrong
  link_asks k = (
    λ h.
        let (p, r) = or_false _ _ h in
        let (s, n) = or_false _ _ r in
        (ltb-false c.nodes (c.entry k).parent p, leb-false c.strings (c.entry k).string s, not-false (is_subkey e (c.string (c.entry k).string)) n),
    λ (p, s, n). rw (le-ltb c.nodes (c.entry k).parent p, lt-leb c.strings (c.entry k).string s, n),
  )

  pub links_clear : lowest_from (link_wrong e c) c.nodes 1 ≡ None → (k : ℕ) → 0 < k → k ≤ c.nodes → Linkable k
  links_clear h k lo hi = (link_asks k).0 (none_holds (link_wrong e c) c.nodes 1 h k (omega arith) (omega arith))

-- 12 by the copied numbers. (11: `copied_climbs`.)
pub copied_siblings : (c : Contents) (parents names : List ℕ) → Copied c.entry c.nodes parents names
    → ((k : ℕ) → 0 < k → k ≤ c.nodes → (c.entry k).string < c.strings) → AllDistinct c.strings c.string
    → lowest_from (sibling_taken parents names) c.nodes 1 ≡ lowest_from (name_taken c) c.nodes 1
unfolding sibling_taken name_taken
copied_siblings c parents names copied w d =
    lowest_same _ _ c.nodes 1
    (λ k lo hi.
    let m : k ≤ c.nodes = omega arith in
    ap is_at
    (lowest_same _ _ (k - 1) 1
    (λ j l h.
    let n : j ≤ c.nodes = omega arith in
    rw (copied.parent j l n, copied.parent k lo m, copied.name j l n, copied.name k lo m)
    (ap (λ (b : Bool). eqb (c.entry j).parent (c.entry k).parent && b)
    (same_number (c.entry j).string (c.entry k).string (d _ _ (w j l n) (w k lo m)))))))
  where
    same_number : (a b : ℕ) → (c.string a ≡ c.string b → a ≡ b) → eqb a b ≡ same_bytes (c.string a) (c.string b)
    same_number a b f = go (eqb a b) refl
      where
        go : (t : Bool) → eqb a b ≡ t → t ≡ same_bytes (c.string a) (c.string b)
        go true h = rw (eqb-true a b h) (sym (same_refl (c.string b)))
        go false h = sym (ne_same (c.string a) (c.string b) (λ q. eqb-false a b h (f q)))

-- Two contents with the same numbers of strings and of nodes that agree string by string and entry by entry.
pub record Alike (c d : Contents) : Type 0 where
  pub strings : c.strings ≡ d.strings
  pub nodes : c.nodes ≡ d.nodes
  pub string : (i : ℕ) → i < c.strings → c.string i ≡ d.string i
  pub entry : (k : ℕ) → 0 < k → k ≤ c.nodes → c.entry k ≡ d.entry k

-- The tests by such contents.
module _ {c d : Contents} (alike : Alike c d) where
  pub data_same : (from size : ℕ) → lowest_from (data_outside from size c.entry) c.nodes 1 ≡ lowest_from (data_outside from size d.entry) d.nodes 1
  data_same from size = lowest_same _ _ c.nodes 1 (λ k lo hi. ap (outside from size) (alike.entry k lo (omega arith))) ∙ rw alike.nodes

  pub climbs_same : ((k : ℕ) → 0 < k → k ≤ c.nodes → (c.entry k).parent ≤ c.nodes)
      → lowest_from (climb_endless c.nodes c.entry) c.nodes 1 ≡ lowest_from (climb_endless d.nodes d.entry) d.nodes 1
  unfolding climb_endless
  climbs_same w =
      lowest_same _ _ c.nodes 1
      (λ k lo hi.
      ap not (reaches_same (λ j. (c.entry j).parent) (λ j. (d.entry j).parent) c.nodes (λ j l h. rw (alike.entry j l h)) w c.nodes k (omega arith)))
      ∙ rw alike.nodes

  pub links_same : (e : Edition) → lowest_from (link_wrong e c) c.nodes 1 ≡ lowest_from (link_wrong e d) d.nodes 1
  unfolding link_wrong
  links_same e =
      lowest_same (link_wrong e c) (link_wrong e d) c.nodes 1
      (λ k lo hi.
      rw (alike.entry k lo (omega arith), ← alike.strings, ← alike.nodes)
      (ap (λ (b : Bool). no_parent c.nodes (d.entry k) || b) (go (d.entry k).string (leb c.strings (d.entry k).string) refl)))
      ∙ rw alike.nodes
    where
      go : (s : ℕ) (b : Bool) → leb c.strings s ≡ b → (b || not (is_subkey e (c.string s))) ≡ (b || not (is_subkey e (d.string s)))
      go s true h = refl
      go s false h = rw (alike.string s (leb-false c.strings s h))

  pub break_same : (e : Edition) (k : ℕ) → 0 < k → k ≤ c.nodes → name_break e c.strings c.string (c.entry k) ≡ name_break e d.strings d.string (d.entry k)
  unfolding name_break
  break_same e k lo hi = rw (alike.entry k lo hi, ← alike.strings) (go (d.entry k).string (leb c.strings (d.entry k).string) refl)
    where
      go : (s : ℕ) (b : Bool) → leb c.strings s ≡ b
          → cond b 0 (break_place (subkey_from e 0 (c.string s))) ≡ cond b 0 (break_place (subkey_from e 0 (d.string s)))
      go s true h = refl
      go s false h = rw (alike.string s (leb-false c.strings s h))

  pub names_same : ((k : ℕ) → 0 < k → k ≤ c.nodes → (c.entry k).string < c.strings)
      → lowest_from (name_taken c) c.nodes 1 ≡ lowest_from (name_taken d) d.nodes 1
  unfolding name_taken
  names_same w =
      lowest_same (name_taken c) (name_taken d) c.nodes 1
      (λ k lo hi.
      let m : k ≤ c.nodes = omega arith in
      ap is_at
      (lowest_same _ _ (k - 1) 1
      (λ j l h.
      let n : j ≤ c.nodes = omega arith in
      rw (alike.string (c.entry j).string (w j l n), alike.string (c.entry k).string (w k lo m), alike.entry j l n, alike.entry k lo m))))
      ∙ rw alike.nodes

-- 27: the test finds nothing wrong exactly where a string differs from each before it; where it does not, one before it is equal. Where the test finds
-- nothing wrong with any string, no two are equal.
module _ (ss : List (List ℕ)) where
  pub repeat_asks : (k : ℕ) → k < length ss → (repeats ss k ≡ false) ↔ ((i : ℕ) → i < k → get_or ss i [] ≡ get_or ss k [] → ⊥)
  unfolding repeats
  repeat_asks k h =
      let f = length-take-le k ss (omega arith) in (
        λ n i l q. is_in_none (get_or ss k []) (take k ss) i n (rw f l) (get_or-take k ss i [] l ∙ q),
        λ d. none_is_in (get_or ss k []) (take k ss) (λ i l q. let m : i < k = omega arith in d i m (sym (get_or-take k ss i [] m) ∙ q)),
      )

  pub repeat_found : (k : ℕ) → k < length ss → (((i : ℕ) → i < k → get_or ss i [] ≡ get_or ss k [] → ⊥) → ⊥)
      → (i : ℕ) × (i < k) × (get_or ss i [] ≡ get_or ss k [])
  unfolding repeats
  repeat_found k h d = go (is_in (get_or ss k []) (take k ss)) refl
    where
      go : (b : Bool) → is_in (get_or ss k []) (take k ss) ≡ b → (i : ℕ) × (i < k) × (get_or ss i [] ≡ get_or ss k [])
      go false q = absurd (d ((repeat_asks k h).0 q))
      go true q =
          let x = get_or ss k [] in
          let i = index_in x (take k ss) in
          let m : i < length (take k ss) = ltb-true _ _ (sym (is_in_index_in x (take k ss)) ∙ q) in
          let l : i < k = omega (arith, length-take-le k ss (omega arith)) in
          (i, l, sym (get_or-take k ss i [] l) ∙ index_in_found x (take k ss) m)

  pub distinct_by_repeats : lowest_from (repeats ss) (length ss) 0 ≡ None
      → (i j : ℕ) → i < length ss → j < length ss → get_or ss i [] ≡ get_or ss j [] → i ≡ j
  distinct_by_repeats h i j m n e = go (ltb i j) refl (ltb j i) refl
    where
      apart : (a b : ℕ) → a < b → b < length ss → get_or ss a [] ≡ get_or ss b [] → ⊥
      apart a b l n q = (repeat_asks b n).0 (none_holds (repeats ss) (length ss) 0 h b (omega arith) (omega arith)) a l q

      go : (s : Bool) → ltb i j ≡ s → (t : Bool) → ltb j i ≡ t → i ≡ j
      go true p t q = absurd (apart i j (ltb-true i j p) n e)
      go false p true q = absurd (apart j i (ltb-true j i q) m (sym e))
      go false p false q = omega (arith, ltb-false i j p, ltb-false j i q)
