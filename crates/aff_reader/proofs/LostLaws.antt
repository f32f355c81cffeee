-- What 24 asks of one string and of one node, in the terms of the passes that look for the lowest one lost: the places of strings and the entries
-- found. Assumes nothing.
use mathlib.Core.Path.{◌≡◌, refl, sym, ap, ◌∙◌}
use mathlib.Core.Bool.{Bool, true, false, not, ◌||◌, true≢false}
use mathlib.Core.List.{List, [], ◌∷◌}
use mathlib.Core.Logic.{◌↔◌, ⊎_elim}
use Prim.Native.Nat.{ℕ, suc, ◌+◌, ◌*◌, ◌≤◌, ◌<◌}
use native.Mathlib.Nat.{eq-or-lt_of_le, zero-add}
use native.Mathlib.Omega.{arith}
use lib.Dec.{leb, ltb}
use lib.ListN.{length, get_or, set, take}
use lib.Seq.{get_or-set_same, get_or-set_other}
use borrow.Author.Tests.{le-ltb, lt-leb, ltb-false, leb-false}
use Rattle.aff_format.specs.Kind.{element_size, is_void}
use Rattle.aff_format.specs.declared.entry.Entry.{Entry}
use Rattle.aff_format.specs.Lowest.{is_at, lowest_from, none_from}
use Rattle.std.specs.List.{position, position_from}
use Rattle.std.specs.Option.{is_some}
use Rattle.std.specs.Prelude.{Option, Some, None}
use Rattle.std.proofs.lemmas.Iterator.Adapters.{position_from-zero}
use Rattle.std.proofs.lemmas.List.{get_or-take, length-take-le}
use Rattle.aff_format.proofs.TestLaws.{or_false}
use Rattle.aff_reader.specs.Belongs.{string_lost, entry_lost, node_lost}
use Rattle.aff_reader.specs.declared.reader.Reader.{Reader}
use Rattle.aff_reader.specs.passes.Belongs.{ParentsCopied}
use Rattle.aff_format.specs.Entry.{or_none}
use Rattle.aff_format.specs.Recorded.{found_entry, recorded_entry}
use Rattle.aff_format.proofs.EntryLaws.{data_asks}
use Rattle.aff_format.proofs.RecordedLaws.{recorded_found}

-- ---- Strings.

-- A string that is not lost begins inside the section, and back.
module _ (from end : ℕ) (strings : List ℕ) (i : ℕ) where
  pub string_asks : (string_lost from end strings i ≡ false) ↔ ((from ≤ get_or strings i 0) × (get_or strings i 0 < end))
  unfolding string_lost
  string_asks = (
    λ h. let (b, e) = or_false _ _ h in (ltb-false _ _ b, leb-false _ _ e),
    λ (b, e). rw (le-ltb (get_or strings i 0) from b, lt-leb end (get_or strings i 0) e),
  )

-- The first of a list of places that a test passes is the lowest number of which a test of the same answers holds.
position_lowest : (p test : ℕ → Bool) (k : ℕ) (l : List ℕ) → ((i : ℕ) → i < length l → test (k + i) ≡ p (get_or l i 0)) → position_from p k l ≡ lowest_from test (length l) k
unfolding lowest_from
position_lowest p test k [] h = refl
position_lowest p test k (x ∷ l) h =
    let e : test k ≡ p x = ap test (let z : k ≡ k + 0 = omega arith in z) ∙ h 0 (omega arith) in
    rw (e, position_lowest p test (k + 1) l (λ i m. ap test (let z : k + 1 + i ≡ k + suc i = omega arith in z) ∙ h (suc i) (omega arith))) refl

-- The pass over the recorded strings decides.
pub strings_decide : (reader : Reader) (strings : List ℕ) (from end : ℕ) (found : Option ℕ) (b : Bool)
    → found ≡ position (λ place. ltb place from || leb end place) (take reader.strings strings) → reader.strings ≤ length strings → is_some found ≡ not b
    → none_from (string_lost from end strings) reader.strings 0 ≡ b
unfolding string_lost
strings_decide reader strings from end found b e few is =
    let p : ℕ → Bool = λ place. ltb place from || leb end place in
    let test = string_lost from end strings in
    let l = take reader.strings strings in
    let n : length l ≡ reader.strings = length-take-le reader.strings strings few in
    let f : found ≡ lowest_from test reader.strings 0 =
    e ∙ position_from-zero p l
    ∙ position_lowest p test 0 l (λ i m. ap test (zero-add i) ∙ ap p (sym (get_or-take reader.strings strings i 0 (omega arith))))
    ∙ ap (λ j. lowest_from test j 0) n in
    ap (λ o. not (is_at o)) (sym f) ∙ decides found b is
  where
    decides : (f : Option ℕ) (b : Bool) → is_some f ≡ not b → not (is_at f) ≡ b
    decides None true h = refl
    decides None false h = sym h
    decides (Some k) true h = sym h
    decides (Some k) false h = refl

-- ---- Nodes.

-- What an entry has that is not lost, and back.
pub record Kept (size strings nodes : ℕ) (e : Entry) : Type 0 where
  pub parent : e.parent ≤ nodes
  pub string : e.string < strings
  pub inside : is_void e.kind ≡ false → e.offset + e.count * element_size e.kind ≤ size

pub kept_entry : (size strings nodes : ℕ) (e : Entry) (f : Option Entry) → f ≡ Some e → Kept size strings nodes e → entry_lost size strings nodes f ≡ false
kept_entry size strings nodes e f q k =
    rw (q, le-ltb nodes e.parent k.parent, lt-leb strings e.string k.string)
    ((data_asks 0 size e).1 (λ v. let h = k.inside v in (omega arith, omega arith)))

pub entry_kept : (size strings nodes : ℕ) (f : Option Entry) → entry_lost size strings nodes f ≡ false
    → (f ≡ Some (or_none f)) × Kept size strings nodes (or_none f)
entry_kept size strings nodes None h = absurd (true≢false h)
entry_kept size strings nodes (Some e) h =
    let (p, r) = or_false _ _ h in
    let (s, d) = or_false _ _ r in
    (refl, record { parent = ltb-false _ _ p; string = leb-false _ _ s; inside = λ v. let w = ((data_asks 0 size e).0 d v).1 in omega arith })

module _ (image entries : List ℕ) (k : ℕ) {f : Option Entry} (found : f ≡ found_entry image entries k) where
  pub node_broken : (strings nodes : ℕ) → f ≡ None → node_lost image strings nodes entries k ≡ true
  unfolding node_lost
  node_broken strings nodes q = rw (← found, q)

  pub node_whole : (strings nodes : ℕ) (e : Entry) {b r : Bool} → f ≡ Some e → r ≡ entry_lost (length image) strings nodes (Some e) → r ≡ b
      → node_lost image strings nodes entries k ≡ b
  unfolding node_lost
  node_whole strings nodes e q t h = rw (← found, q) (sym t ∙ h)

  pub found_parent : 0 < k → (e : Entry) → f ≡ Some e → e.parent ≡ (recorded_entry image entries k).parent
  found_parent l e q = rw (recorded_found image entries k l, ← found, q)

-- One more parent copied.
pub copied_more : {entry : ℕ → Entry} {k m n : ℕ} {parents : List ℕ} → ParentsCopied entry k parents → k + 1 ≡ n → m ≡ n → n < length parents
    → {p : ℕ} → p ≡ (entry n).parent → ParentsCopied entry m (set parents n p)
copied_more {n = n} {parents = parents} c e f h {p} w =
    record {
      parent = λ j l b.
          ⊎_elim (λ (q : j ≡ n). rw (q, get_or-set_same parents n p 0 h) w)
          (λ (q : j < n). rw (get_or-set_other parents n j p 0 (λ z. omega arith)) (c.parent j l (omega arith)))
          (let z : j ≤ n = omega arith in eq-or-lt_of_le z);
    }
