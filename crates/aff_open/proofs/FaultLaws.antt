-- Each check of an opening asks for its rule, so the rules settle the opening's answer: it is accepted where all rules of document 01 hold, and
-- refused with the number and the place of the first that fails. Assumes nothing.
use mathlib.Core.Path.{◌≡◌, refl, sym, ap, subst, ◌∙◌}
use mathlib.Core.Bool.{Bool, true, false, cond, not, ◌&&◌, true≢false}
use mathlib.Core.List.{List, [], ◌++◌, append_assoc}
use mathlib.Core.Logic.{◌↔◌}
use Prim.Native.Nat.{ℕ, ◌+◌, ◌-◌, ◌≤◌, ◌<◌}
use native.Mathlib.Omega.{arith}
use lib.Dec.{eqb, ltb, leb}
use lib.ListN.{length, get_or, take}
use borrow.Author.Tests.{eqb-true, eq-eqb, ltb-false, le-ltb, leb-true, leb-false, le-leb, lt-leb, not-false}
use Rattle.aff_md5.specs.Md5.{md5}
use Rattle.aff_format.specs.Answer.{accepted, refused, refusal_at, refusal_with}
use Rattle.aff_format.specs.Bytes.{part, same_bytes}
use Rattle.aff_format.specs.Edition.{header_size, header_sum_at, least_header, has_counts, signature_text, is_known}
use Rattle.aff_format.specs.Limits.{image_limit, string_limit, node_limit}
use Rattle.aff_format.specs.Lowest.{lowest_from, is_at}
use Rattle.aff_format.specs.declared.section.Section.{Section}
use Rattle.aff_format.specs.declared.section.Section.TheVariants.{Symbol, Tree, Data}
use Rattle.aff_format.specs.declared.edition.Edition.{Edition}
use Rattle.aff_format.specs.declared.entry.Entry.{Entry}
use Rattle.aff_format.specs.Subkey.{subkey_from, is_sound, break_place}
use Rattle.aff_format.specs.declared.refusal.RefusalCode.{RefusalCode}
use Rattle.std.specs.Prelude.{Option, Some, None}
use Rattle.aff_format.proofs.BreaksLaws.{subkey_exact, subkey_breaks}
use Rattle.aff_format.proofs.ClimbLaws.{reaches_within}
use Rattle.aff_format.proofs.LowestLaws.{none_holds, holds_none, none_at}
use Rattle.aff_format.proofs.SameLaws.{same_eq, same_refl, ne_same}
use Rattle.aff_format.proofs.SubkeyLaws.{sound_is}
use Rattle.aff_format.specs.Rule.{Rule, AllHold, FirstFails, Settled, each_from}
use Rattle.aff_open.specs.Rules.{Inside, Summed, Counted, Unrepeated, FirstRepeat, Linked, NameBreak, no_string_is, sound_name, breaks, FirstBadLink, Climbs, NameFree, DataInside}
use Rattle.aff_open.specs.Faults.{rules_from11, node_rules, tree_rules, rules_from27, symbol_rules, section_rules, edition_rules, rules_before27, rules_before10, rules}
use Rattle.aff_tables.specs.Tables.{node_entry, is_empty, count_differs, repeats}
use Rattle.aff_tables.specs.Nodes.{Contents, contents_of, link_wrong, name_break, bad_link, climb_endless, name_taken, same_site, data_outside}
use Rattle.aff_open.specs.Opening.{lengths_wrong, nodes_checked, table_checks, form_checks, body_checks, up_to_tables, open_checks, open_answer, reader_for, entry_in, contents_in}
use Rattle.aff_open.specs.Sections.{text_edition, edition_in, section_offset, section_size, section_records, header_sum_wrong, ends_past, sum_wrong, strings_in, nodes_in, bytes_after_nodes}
use Rattle.aff_reader.specs.declared.reader.Reader.{Reader}
use Rattle.aff_tables.proofs.LinkLaws.{link_asks, repeat_asks, repeat_found}
use Rattle.aff_format.proofs.EntryLaws.{data_asks}
use Rattle.aff_open.proofs.TablesLaws.{lengths_right}
use Rattle.aff_format.proofs.RuleLaws.{AskFor, none, one, each, Each, settled, all_accept, first_refuses, EachSecondOf10, each_second, both_second, OtherNumbers, other_each, other_both, each_append, LowestFails, each_reported}
use Rattle.aff_open.proofs.SectionLaws.{known_is, text_known, known_text}
use Rattle.aff_tables.proofs.TreeTableLaws.{empty_is}

-- A law `..-asks`: a test finds nothing wrong exactly where its rule holds.

-- ---- Tests of each kind.

below_asks : (a b : ℕ) → (ltb a b ≡ false) ↔ (b ≤ a)
below_asks a b = (ltb-false a b, le-ltb a b)

same_asks : (a b : List ℕ) → (not (same_bytes a b) ≡ false) ↔ (a ≡ b)
same_asks a b = (λ h. same_eq a b (not-false _ h), λ h. rw (h, same_refl b))

-- A test of which no number in a range is found.
lowest_asks : (test : ℕ → Bool) (left k : ℕ) → (is_at (lowest_from test left k) ≡ false) ↔ Each (λ j. test j ≡ false) left k
lowest_asks test left k = (λ h. none_holds test left k (none_at _ h), λ h. ap is_at (holds_none test left k h))

-- ---- The header and the sections: 1 to 7.

pub lengths_asks : (image form : List ℕ) (strings entries : ℕ)
    → (lengths_wrong image form strings entries ≡ false) ↔ ((length form ≡ 12) × (strings ≡ string_limit) × (entries ≡ node_limit) × (length image ≤ image_limit))
unfolding lengths_wrong
lengths_asks image form strings entries = (
  λ h. let (f, s, e, i) = lengths_right image form strings entries h in (f, s, e, omega arith),
  λ (f, s, e, i). rw (eq-eqb (length form) 12 f, eq-eqb strings string_limit s, eq-eqb entries node_limit e, le-ltb image_limit (length image) i),
)

text_asks : (image : List ℕ) → (not (is_known (text_edition image)) ≡ false) ↔ ((e : Edition) × (take 20 image ≡ signature_text e))
text_asks image =
    (λ h. (edition_in image, text_known (edition_in image) image (known_is (text_edition image) h)), λ (e, t). rw (known_text e image t))

module _ (e : Edition) (s : Section) (image : List ℕ) where
  inside_asks : (ends_past e s image ≡ false) ↔ Inside e s image
  unfolding ends_past
  inside_asks = below_asks (length image) (section_offset e s image + section_size e s image)

  sum_asks : (sum_wrong e s image ≡ false) ↔ Summed e s image
  unfolding sum_wrong
  sum_asks = same_asks _ _

  count_asks : (n : ℕ) → (count_differs e (section_records e s image) n ≡ false) ↔ Counted e s image n
  unfolding count_differs
  count_asks n = go (has_counts e)
    where
      go : (b : Bool) → ((b && not (eqb (section_records e s image) n)) ≡ false) ↔ (b ≡ true → section_records e s image ≡ n)
      go true = (λ h q. eqb-true _ _ (not-false _ h), λ h. rw (eq-eqb _ _ (h refl)))
      go false = (λ h q. absurd (true≢false (sym q)), λ h. refl)

-- ---- The tables: 25 to 27, 9.

empty_asks : (l : List ℕ) → (not (is_empty l) ≡ false) ↔ (l ≡ [])
empty_asks l = (λ h. empty_is l (not-false _ h), λ h. rw h)

-- ---- The nodes: 11 and 12. (10 is `link_asks`, 13 `data_asks`.)

-- 11, where 10 holds of all nodes.
climb_asks : (e : Edition) (strings : List (List ℕ)) (entries : List Entry) → Each (Linked e strings entries) (length entries) 1
    → Each (λ k. (climb_endless (length entries) (node_entry entries) k ≡ false) ↔ Climbs entries k) (length entries) 1
unfolding climb_endless
climb_asks e strings entries linked k lo hi = (
  λ h. (length entries, not-false _ h),
  λ (steps, h).
      ap not (reaches_within (λ j. (node_entry entries j).parent) (length entries) (λ j l m. (linked j l (omega arith)).0) steps k (omega arith) h),
)

name_asks : (strings : List (List ℕ)) (entries : List Entry) (k : ℕ)
    → (name_taken (contents_of strings entries) k ≡ false) ↔ NameFree strings entries k
unfolding name_taken
name_asks strings entries k =
    let none = lowest_asks (same_site (contents_of strings entries) k) (k - 1) 1 in (
      λ h j lo hi. (site _ _ _ _).0 (none.0 h j lo (omega arith)),
      λ h. none.1 (λ j lo hi. (site _ _ _ _).1 (h j lo (omega arith))),
    )
  where
    site : (a b : ℕ) (x y : List ℕ) → ((eqb a b && same_bytes x y) ≡ false) ↔ (a ≡ b → x ≡ y → ⊥)
    site a b x y = (
      λ h p q. true≢false (sym (rw (eq-eqb a b p, q, same_refl y)) ∙ h),
      λ h. go (eqb a b) refl h,
    )
      where
        go : (t : Bool) → eqb a b ≡ t → (a ≡ b → x ≡ y → ⊥) → (t && same_bytes x y) ≡ false
        go true p h = ne_same x y (h (eqb-true a b p))
        go false p h = refl

-- The second number of 10 is the place at which the name breaks, or 0. And back.
module _ (e : Edition) (ss : List (List ℕ)) (es : List Entry) (k second : ℕ) where
  abbrev string : ℕ
  string = (node_entry es k).string

  abbrev name : List ℕ
  name = get_or ss string []

  abbrev in_name : ℕ
  in_name = name_break e (length ss) (λ i. get_or ss i []) (node_entry es k)

  break_is : in_name ≡ second → NameBreak e ss es k second
  unfolding name_break
  break_is h = go (leb (length ss) string) refl (subkey_from e 0 name) refl h
    where
      go : (b : Bool) → leb (length ss) string ≡ b → (g : Option ℕ) → subkey_from e 0 name ≡ g → cond b 0 (break_place g) ≡ second → NameBreak e ss es k second
      go true l g f q = no_string_is (leb-true (length ss) string l) (sym q)
      go false l None f q = sound_name (leb-false (length ss) string l) ((subkey_exact e name).0 (ap is_sound f)) (sym q)
      go false l (Some p) f q = breaks (leb-false (length ss) string l) ((subkey_breaks e name second).0 (f ∙ ap Some q))

  is_break : NameBreak e ss es k second → in_name ≡ second
  unfolding name_break
  is_break (no_string_is l q) = rw (le-leb (length ss) string l) (sym q)
  is_break (sound_name l s q) = rw (lt-leb (length ss) string l, sound_is (subkey_from e 0 name) ((subkey_exact e name).1 s)) (sym q)
  is_break (breaks l b) = rw (lt-leb (length ss) string l, (subkey_breaks e name second).1 b)

-- ---- In document 01's order.

module _ (e : Edition) (image : List ℕ) where
  abbrev nodes : ℕ
  nodes = length (nodes_in e image)

  abbrev contents : Contents
  contents = contents_in e image

  nodes_ask : AskFor (nodes_checked e image) (node_rules e image (strings_in e image) (nodes_in e image))
  nodes_ask =
      each (bad_link e contents) (link_wrong e contents) (Linked e (strings_in e image) (nodes_in e image)) nodes 1 (λ k lo hi. link_asks e contents k)
      (λ linked.
      each (refusal_at 11) (climb_endless nodes (entry_in e image)) (Climbs (nodes_in e image)) nodes 1 (climb_asks e (strings_in e image) (nodes_in e image) linked)
      (λ climbs.
      each (refusal_at 12) (name_taken contents) (NameFree (strings_in e image) (nodes_in e image)) nodes 1 (λ k lo hi. name_asks (strings_in e image) (nodes_in e image) k)
      (λ free.
      each (refusal_at 13) (data_outside (section_offset e Data image) (section_size e Data image) (entry_in e image)) (DataInside e image (nodes_in e image)) nodes 1
      (λ k lo hi. data_asks (section_offset e Data image) (section_size e Data image) (entry_in e image k))
      (λ inside. none))))

  -- The rules from the symbol table on.
  abbrev from_tables : List Rule
  from_tables = symbol_rules e image (strings_in e image) ++ rules_from27 e image (strings_in e image) (nodes_in e image)

  tables_ask : AskFor (table_checks e image ++ nodes_checked e image) from_tables
  tables_ask =
      one (below_asks string_limit (length (strings_in e image)))
      (λ h. one (count_asks e Symbol image (length (strings_in e image)))
      (λ h. each (refusal_at 27) (repeats (strings_in e image)) (Unrepeated (strings_in e image)) (length (strings_in e image)) 0
      (λ k lo hi. repeat_asks (strings_in e image) k (omega arith))
      (λ h. one (empty_asks (bytes_after_nodes e image))
      (λ h. one (count_asks e Tree image (length (nodes_in e image)))
      (λ h. nodes_ask)))))

  sections_ask : AskFor (body_checks e image ++ nodes_checked e image) (section_rules e image ++ from_tables)
  sections_ask =
      one (inside_asks e Symbol image)
      (λ h. one (inside_asks e Tree image)
      (λ h. one (inside_asks e Data image)
      (λ h. one (sum_asks e Symbol image)
      (λ h. one (sum_asks e Tree image)
      (λ h. one (sum_asks e Data image)
      (λ h. tables_ask))))))

  edition_asks : (form : List ℕ)
      → AskFor (form_checks e image form ++ (body_checks e image ++ nodes_checked e image)) (edition_rules e image form ++ (section_rules e image ++ from_tables))
  unfolding header_sum_wrong
  edition_asks form =
      one (below_asks (length image) (header_size e))
      (λ h. one (same_asks (part 20 12 image) form)
      (λ h. one (same_asks (part (header_sum_at e) 16 image) (md5 (take (header_sum_at e) image)))
      (λ h. sections_ask)))

module _ (image form : List ℕ) (strings entries : ℕ) where
  opening_asks : AskFor (open_checks image form strings entries) (rules image form strings entries)
  unfolding open_checks up_to_tables rules
  opening_asks =
      one (lengths_asks image form strings entries)
      (λ h. one (below_asks (length image) least_header)
      (λ h. one (text_asks image)
      (λ h. edition_asks (edition_in image) image form)))

  -- The rules settle the answer of an opening.
  pub opening_settled : Settled (rules image form strings entries) (reader_for (edition_in image) image) (open_answer image form strings entries)
  opening_settled = settled (reader_for (edition_in image) image) opening_asks

  -- So a refused opening reports number and place of the first rule that fails, and back.
  pub refused_first : {t : RefusalCode} → open_answer image form strings entries ≡ refused t → FirstFails (rules image form strings entries) t
  refused_first h = subst (Settled (rules image form strings entries) (reader_for (edition_in image) image)) h opening_settled

  pub first_refused : {t : RefusalCode} → FirstFails (rules image form strings entries) t → open_answer image form strings entries ≡ refused t
  first_refused f = first_refuses (rules image form strings entries) _ (open_answer image form strings entries) opening_settled f

  -- And it is accepted where all rules hold, and back.
  pub accepted_hold : {r : Reader} → open_answer image form strings entries ≡ accepted r → AllHold (rules image form strings entries)
  accepted_hold h = (subst (Settled (rules image form strings entries) (reader_for (edition_in image) image)) h opening_settled).0

  pub hold_accepted : AllHold (rules image form strings entries) → open_answer image form strings entries ≡ accepted (reader_for (edition_in image) image)
  hold_accepted h = all_accept (rules image form strings entries) _ (open_answer image form strings entries) opening_settled h

  -- 11 to 13 report no other number.
  nodes_other : (n : ℕ) → eqb 11 n ≡ false → eqb 12 n ≡ false → eqb 13 n ≡ false → (e : Edition) (ss : List (List ℕ)) (es : List Entry)
      → OtherNumbers n (rules_from11 e image ss es)
  nodes_other n p q r e ss es =
      other_each n (refusal_at 11) (λ _. p) _ _ (length es) 1
      (other_each n (refusal_at 12) (λ _. q) _ _ (length es) 1 (other_each n (refusal_at 13) (λ _. r) _ [] (length es) 1 tt))

  -- 27 is reported exactly where the rules before hold, with the lowest string of which its rule fails: no other rule reports this number.
  repeats_reported : (e : Edition) (ss : List (List ℕ)) (es : List Entry) (k : ℕ)
      → FirstFails (rules_before27 image form strings entries ++ rules_from27 e image ss es) (refusal_at 27 k)
      ↔ (AllHold (rules_before27 image form strings entries) × ((j : ℕ) × LowestFails (Unrepeated ss) (length ss) 0 j × (refusal_at 27 j ≡ refusal_at 27 k)))
  repeats_reported e ss es k =
      let n = length es in
      each_reported (refusal_at 27 k) (refusal_at 27) (Unrepeated ss) (tree_rules e image es ++ node_rules e image ss es) (rules_before27 image form strings entries)
      (length ss) 0
      (refl, (refl, (refl, (refl, (refl, (refl, (refl, (refl, (refl, (refl, (refl, (refl, (refl, (refl, tt))))))))))))))
      (refl, (refl, other_each 27 (bad_link e (contents_of ss es)) (λ _. refl) _ _ n 1 (nodes_other 27 refl refl refl e ss es)))

  -- So an opening is refused by 27 at string k exactly when that string equals an earlier one and no lower string does, and none of the rules before
  -- fails, those of 25 and 26 among them.
  pub refused_27 : (k : ℕ) → (open_answer image form strings entries ≡ refused (refusal_at 27 k))
      ↔ (AllHold (rules_before27 image form strings entries) × FirstRepeat (strings_in (edition_in image) image) k)
  unfolding rules
  refused_27 k =
      let ss = strings_in (edition_in image) image in
      let reported = repeats_reported (edition_in image) ss (nodes_in (edition_in image) image) k in (
        λ h.
            let (b, (j, f, q)) = reported.0 (refused_first h) in
            let same : j ≡ k = ap (λ (t : RefusalCode). t.place) q in
            let l : k < length ss = omega (arith, f.most, same) in
            (b, record { exists = l; earlier = repeat_found ss k l (subst (λ (i : ℕ). Unrepeated ss i → ⊥) same f.fails); lowest = λ i m. f.before i (omega arith) (omega (arith, same)) }),
        λ (b, r).
            first_refused
            (reported.1
            (b, (k, record { least = omega arith; most = omega (arith, r.exists); fails = λ u. let (i, l, q) = r.earlier in u i l q; before = λ j lo hi. r.lowest j hi }, refl))),
      )

  -- The rules before the nodes report no 10, and then come those of the nodes.
  abbrev strings_and_tree : List Rule
  strings_and_tree =
      each_from (refusal_at 27) (Unrepeated (strings_in (edition_in image) image)) (length (strings_in (edition_in image) image)) 0
      (tree_rules (edition_in image) image (nodes_in (edition_in image) image))

  before_other : OtherNumbers 10 (rules_before10 image form strings entries)
  before_other =
      other_both 10 (rules_before27 image form strings entries) strings_and_tree
      (refl, (refl, (refl, (refl, (refl, (refl, (refl, (refl, (refl, (refl, (refl, (refl, (refl, (refl, tt))))))))))))))
      (other_each 10 (refusal_at 27) (λ _. refl) (Unrepeated (strings_in (edition_in image) image)) (tree_rules (edition_in image) image (nodes_in (edition_in image) image))
      (length (strings_in (edition_in image) image)) 0 (refl, (refl, tt)))

  rules_nodes : rules image form strings entries
      ≡ rules_before10 image form strings entries ++ node_rules (edition_in image) image (strings_in (edition_in image) image) (nodes_in (edition_in image) image)
  unfolding rules
  rules_nodes =
      let e = edition_in image in
      let ss = strings_in e image in
      let nodes = node_rules e image ss (nodes_in e image) in
      ap (λ (rs : List Rule). rules_before27 image form strings entries ++ rs) (each_append (refusal_at 27) (Unrepeated ss) (tree_rules e image (nodes_in e image)) nodes (length ss) 0)
      ∙ sym (append_assoc (rules_before27 image form strings entries) strings_and_tree nodes)

  -- 10, in the same way: with node k and a second number exactly where the rules before hold, k is the lowest node of which its rule fails, and the number is
  -- the place at which its name breaks, or 0.
  pub refused_10 : (k second : ℕ) → (open_answer image form strings entries ≡ refused (refusal_with 10 k second))
      ↔ (AllHold (rules_before10 image form strings entries)
      × FirstBadLink (edition_in image) (strings_in (edition_in image) image) (nodes_in (edition_in image) image) k second)
  refused_10 k second =
      let e = edition_in image in
      let ss = strings_in e image in
      let es = nodes_in e image in
      let t = refusal_with 10 k second in
      let reported = each_reported t (bad_link e (contents_of ss es)) (Linked e ss es) (rules_from11 e image ss es) (rules_before10 image form strings entries) (length es) 1 before_other (nodes_other 10 refl refl refl e ss es) in (
        λ h.
            let (b, (j, f, q)) = reported.0 (subst (λ (rs : List Rule). FirstFails rs t) rules_nodes (refused_first h)) in
            let same : j ≡ k = ap (λ (u : RefusalCode). u.place) q in
            let named : name_break e (length ss) (λ i. get_or ss i []) (node_entry es j) ≡ second = ap (λ (u : RefusalCode). u.second) q in
            (b, subst (λ (i : ℕ). FirstBadLink e ss es i second) same (record { no_root = f.least; exists = omega (arith, f.most); bad = f.fails; lowest = f.before; in_name_is = break_is e ss es j second named })),
        λ (b, r).
            first_refused
            (subst (λ (rs : List Rule). FirstFails rs t) (sym rules_nodes)
            (reported.1
            (b, (k, record { least = r.no_root; most = omega (arith, r.exists); fails = r.bad; before = r.lowest }, ap (refusal_with 10 k) (is_break e ss es k second r.in_name_is))))),
      )

  -- No rule but 10's reports a second number.
  nodes_second : EachSecondOf10 (node_rules (edition_in image) image (strings_in (edition_in image) image) (nodes_in (edition_in image) image))
  nodes_second =
      let n = length (nodes_in (edition_in image) image) in
      each_second (bad_link (edition_in image) (contents_in (edition_in image) image)) (λ k other. absurd (other refl)) _ _ n 1
      (each_second (refusal_at 11) (λ k _. refl) _ _ n 1 (each_second (refusal_at 12) (λ k _. refl) _ _ n 1 (each_second (refusal_at 13) (λ k _. refl) _ [] n 1 tt)))

  pub rules_second : EachSecondOf10 (rules image form strings entries)
  unfolding rules
  rules_second =
      let ss = strings_in (edition_in image) image in
      both_second (rules_before27 image form strings entries) (rules_from27 (edition_in image) image ss (nodes_in (edition_in image) image))
      (λ _. refl, (λ _. refl, (λ _. refl, (λ _. refl, (λ _. refl, (λ _. refl, (λ _. refl, (λ _. refl, (λ _. refl, (λ _. refl, (λ _. refl, (λ _. refl, (λ _. refl, (λ _. refl, tt))))))))))))))
      (each_second (refusal_at 27) (λ k _. refl) (Unrepeated ss) _ (length ss) 0 (λ _. refl, (λ _. refl, nodes_second)))
