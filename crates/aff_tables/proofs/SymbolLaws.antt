-- The strings that begin at the places of a section's strings are its strings; and what the symbol table answers. Assumes nothing.
use mathlib.Core.Path.{◌≡◌, refl, sym, ap, ◌∙◌}
use mathlib.Core.Bool.{Bool, true, false, cond}
use mathlib.Core.List.{List, [], ◌∷◌}
use Prim.Native.Nat.{ℕ, ◌+◌, ◌≤◌, ◌<◌}
use native.Mathlib.Omega.{arith}
use lib.Dec.{leb, ltb}
use lib.ListN.{length, get_or, take, length-map}
use Rattle.std.proofs.lemmas.List.{ext_get_or, get_or-map}
use borrow.Author.Tests.{leb-true, le-ltb, ltb-false}
use Rattle.aff_format.specs.Answer.{accepted, refusal_at, first_wrong, Clear}
use Rattle.aff_format.specs.Bytes.{part, laid_over}
use Rattle.aff_format.specs.Limits.{string_limit}
use Rattle.aff_format.specs.Lowest.{lowest_from}
use Rattle.aff_format.specs.Strings.{strings_of, places_of}
use Rattle.aff_format.specs.declared.edition.Edition.{Edition}
use Rattle.std.specs.Prelude.{Option, Some, None, Result}
use Rattle.aff_format.proofs.AnswerLaws.{numbers_reported}
use Rattle.aff_format.proofs.BytesLaws.{length_part}
use Rattle.aff_format.proofs.LowestLaws.{clear_lowest, numbers_lowest}
use Rattle.aff_format.proofs.StringsLaws.{length_places_of, places_of_from, string_begins, string_in_section}
use Rattle.aff_tables.specs.passes.Distinct.{Places}
use Rattle.aff_tables.specs.Tables.{symbol_checks, count_differs, names_at, repeats}
use Rattle.aff_tables.specs.passes.Results.{split_of, counted_of, symbols_of}
use Rattle.aff_format.specs.Recorded.{recorded_string, name_from}
use Rattle.aff_tables.proofs.SlicedLaws.{sliced, sliced_part}
use Rattle.aff_format.specs.declared.refusal.Refusal.{Refusal}
use Rattle.aff_format.specs.Verdict.{answer_of}
use Rattle.aff_format.proofs.LaidLaws.{length_laid, laid_at, laid_front}

-- Strings by their places.

module _ (image : List ℕ) (from size : ℕ) where
  abbrev strings : List (List ℕ)
  strings = strings_of (part from size image)

  name_is : (i : ℕ) → i < length strings → name_from image (from + size) (get_or (places_of from strings) i 0) ≡ get_or strings i []
  unfolding name_from
  name_is i h = string_in_section image from size i h

  pub names_are : names_at image (from + size) (places_of from strings) ≡ strings
  names_are =
      let l = length_places_of from strings in
      let m = length-map (places_of from strings) (name_from image (from + size)) in
      ext_get_or [] (names_at image (from + size) (places_of from strings)) strings (m ∙ l)
      (λ i h. get_or-map (name_from image (from + size)) (places_of from strings) i 0 [] (omega arith) ∙ name_is i (omega arith))

  module _ (area : List ℕ) (fits : length strings ≤ length area) where
    pub string_recorded : (i : ℕ) → i < length strings → recorded_string image (from + size) (laid_over area (places_of from strings)) i ≡ get_or strings i []
    string_recorded i h = rw (laid_at area (places_of from strings) i (rw length_places_of h) (omega arith)) (name_is i h)

    pub places_inside : length strings ≤ 2048 → from + size ≤ length image → length image < 2147483648
        → Places image (from + size) (laid_over area (places_of from strings)) (length strings)
    places_inside f b s =
        record {
          few = f;
          listed = rw length_laid fits;
          inside = b;
          short = s;
          begins = λ k h.
              rw (laid_at area (places_of from strings) k (rw length_places_of h) (omega arith))
              (omega (arith, places_of_from from strings k h, string_begins (part from size image) k h, length_part from size image b));
        }

    -- Each string begins inside the section.
    pub string_placed : from + size ≤ length image → (i : ℕ) → i < length strings
        → (from ≤ get_or (laid_over area (places_of from strings)) i 0) × (get_or (laid_over area (places_of from strings)) i 0 < from + size)
    string_placed b i h =
        let p = laid_at area (places_of from strings) i (rw length_places_of h) (omega arith) in
        let q = places_of_from from strings i h in
        let z = string_begins (part from size image) i h in
        let n = length_part from size image b in
        (rw p (omega arith), rw p (omega arith))

-- The answers of the symbol table.

split_few : (limit n m : ℕ) → split_of limit n ≡ Some m → (m ≡ n) × (n ≤ limit)
split_few limit n m = go (leb n limit) refl
  where
    go : (b : Bool) → leb n limit ≡ b → cond b (Some n) None ≡ Some m → (m ≡ n) × (n ≤ limit)
    go true h q = (cc, leb-true n limit h)
    go false h q = absurd (let z : ◌≡◌ {A = ℕ} 0 1 = cc in omega arith)

-- The first fault is the refusal of the first check that finds something wrong.
pub symbols_reported : (e : Edition) (records : ℕ) (section : List ℕ)
    → answer_of (symbols_of e records section) ≡ first_wrong (symbol_checks e records section) (length (strings_of section))
symbols_reported e records section = go _ refl _ refl _ refl
  where
    go : (many : Bool) → ltb string_limit (length (strings_of section)) ≡ many
        → (differs : Bool) → count_differs e records (length (strings_of section)) ≡ differs
        → (low : Option ℕ) → lowest_from (repeats (strings_of section)) (length (strings_of section)) 0 ≡ low
        → answer_of (symbols_of e records section) ≡ first_wrong (symbol_checks e records section) (length (strings_of section))
    go true k differs m low q = rw k
    go false k true m low q = rw (k, m)
    go false k false m None q = rw (k, m, q)
    go false k false m (Some j) q = rw (k, m, q)

-- The numbers of the checks, in order.
pub symbol_numbers : (e : Edition) (records : ℕ) (section : List ℕ) → numbers_reported (symbol_checks e records section) ≡ 25 ∷ 26 ∷ 27 ∷ []
symbol_numbers e records section =
    ap (λ (ns : List ℕ). 25 ∷ 26 ∷ ns) (numbers_lowest 27 (refusal_at 27) (λ _. refl) (lowest_from (repeats (strings_of section)) (length (strings_of section)) 0) [])

-- What holds of a table with which nothing is wrong.
pub symbols_clear : (e : Edition) (records : ℕ) (section : List ℕ) → Clear (symbol_checks e records section)
    → (length (strings_of section) ≤ string_limit) × (lowest_from (repeats (strings_of section)) (length (strings_of section)) 0 ≡ None)
symbols_clear e records section (many, (_, repeated)) =
    (ltb-false _ _ many, (clear_lowest (refusal_at 27) (lowest_from (repeats (strings_of section)) (length (strings_of section)) 0) [] repeated).0)

-- What the table of a section reports, and its area where it accepts.
module _ (e : Edition) (records : ℕ) (image : List ℕ) (from size : ℕ) (area₀ area : List ℕ) where
  abbrev pub SymbolTable : Result ℕ Refusal → Type 0
  SymbolTable r =
      (r ≡ symbols_of e records (part from size image))
      × ((n : ℕ) → answer_of r ≡ accepted n → area ≡ laid_over area₀ (places_of from (strings_of (part from size image))))

module _ (e : Edition) (records : ℕ) (image : List ℕ) (from size : ℕ) (area₀ area : List ℕ) where
  abbrev names : List (List ℕ)
  names = strings_of (part from size image)

  module _ (long : length area₀ ≡ 2048) {p : Option ℕ} (parts : p ≡ split_of (length area₀) (length (strings_of (sliced image from size))))
      (laid : area ≡ laid_over area₀ (places_of from (strings_of (sliced image from size)))) where
    parts_are : split_of 2048 (length names) ≡ p
    parts_are = sym (parts ∙ rw (long, sliced_part image from size))

    area_is : area ≡ laid_over area₀ (places_of from names)
    area_is = laid ∙ rw (sliced_part image from size)

    module _ {n : ℕ} (few : p ≡ Some n) where
      number : (n ≡ length names) × (length names ≤ 2048)
      number = split_few 2048 (length names) n (parts_are ∙ few)

      pub table_places : from + size ≤ length image → length image < 2147483648 → Places image (from + size) area n
      table_places inside short =
          let f = number.1 in
          rw (number.0, area_is) (places_inside image from size area₀ (omega arith) f inside short)

      front : take n area ≡ places_of from names
      front =
          let f = number in
          let ps = places_of from names in
          let k : n ≡ length ps = f.0 ∙ sym (length_places_of from names) in
          let w : length ps ≤ length area₀ = omega arith in
          rw (k, area_is) (laid_front area₀ ps w)

      found : names_at image (from + size) (take n area) ≡ names
      found = rw front (names_are image from size)

      pub table_counted : {reported : Result ℕ Refusal} → reported ≡ counted_of e records (names_at image (from + size) (take n area)) n
          → SymbolTable e records image from size area₀ area reported
      table_counted q = let f = number in (q ∙ rw (found, f.0, le-ltb 2048 (length names) f.1), λ k a. area_is)
