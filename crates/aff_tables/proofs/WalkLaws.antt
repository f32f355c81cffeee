-- The walk over the entries of a section: what is left of the limit and of the section has the rest of its entries. Assumes nothing.
use mathlib.Core.Path.{◌≡◌, refl, ap, ◌∙◌}
use mathlib.Core.List.{List, [], ◌∷◌}
use Prim.Native.Nat.{ℕ, zero, suc, ◌+◌, ◌-◌, ◌≤◌, ◌<◌}
use native.Mathlib.Omega.{arith}
use lib.ListN.{length, set, drop, length-drop}
use lib.Seq.{drop-drop}
use Rattle.aff_format.specs.Entry.{entry_of}
use Rattle.aff_format.specs.Kind.{entry_size}
use Rattle.aff_format.specs.declared.entry.Entry.{Entry}
use Rattle.std.specs.Prelude.{Some, None, Result}
use Rattle.aff_format.proofs.EntryLaws.{entry_inside}
use Rattle.aff_format.proofs.KindLaws.{entry_size_bounds}
use Rattle.aff_tables.specs.passes.Results.{walk_of}
use Rattle.aff_tables.specs.Tables.{entries_in, bytes_after_entries, entry_places}
use Rattle.aff_format.specs.Bytes.{laid_over}
use Rattle.aff_format.specs.declared.refusal.Refusal.{Refusal}
use Rattle.aff_format.proofs.LaidLaws.{Laid, laid_store, laid_all}

pub length_entry_places : (at : ℕ) (es : List Entry) → length (entry_places at es) ≡ length es
unfolding entry_places
length_entry_places at [] = refl
length_entry_places at (e ∷ es) = ap suc (length_entry_places (at + entry_size e.kind) es)

pub entries_more : (limit : ℕ) (l : List ℕ) (e : Entry) → entry_of l ≡ Some e → entries_in (suc limit) l ≡ e ∷ entries_in limit (drop (entry_size e.kind) l)
unfolding entries_in
entries_more limit l e h = rw h

pub after_more : (limit : ℕ) (l : List ℕ) (e : Entry) → entry_of l ≡ Some e → bytes_after_entries (suc limit) l ≡ bytes_after_entries limit (drop (entry_size e.kind) l)
unfolding bytes_after_entries
after_more limit l e h = rw h

-- No entry more.
abbrev pub Over : ℕ → List ℕ → Type 0
Over limit l = (entries_in limit l ≡ []) × (bytes_after_entries limit l ≡ l)

pub over_broken : (limit : ℕ) (l : List ℕ) → entry_of l ≡ None → Over limit l
unfolding entries_in bytes_after_entries
over_broken zero l h = (refl, refl)
over_broken (suc limit) l h = (rw h, rw h)

-- n places are stored; `at` is where the next entry would begin.
pub record Walking (section : List ℕ) (first : ℕ) (area₀ area : List ℕ) (n at : ℕ) : Type 0 where
  pub at_end : at ≤ length section
  pub laid : Laid area₀ (entry_places first (entries_in (length area₀) section)) area n (entry_places (first + at) (entries_in (length area₀ - n) (drop at section)))
  pub rest : bytes_after_entries (length area₀ - n) (drop at section) ≡ bytes_after_entries (length area₀) section

-- The answer and the area of a walk.
abbrev pub Walk : List ℕ → ℕ → List ℕ → List ℕ → Result ℕ Refusal → Type 0
Walk section first area₀ area r =
    (r ≡ walk_of (length (entries_in (length area₀) section)) (bytes_after_entries (length area₀) section))
    × (area ≡ laid_over area₀ (entry_places first (entries_in (length area₀) section)))

module _ {section : List ℕ} {first : ℕ} {area₀ area : List ℕ} {n at : ℕ} (w : Walking section first area₀ area n at) where
  -- One entry more.
  pub walk_on : (e : Entry) → entry_of (drop at section) ≡ Some e → n < length area
      → Walking section first area₀ (set area n (first + at)) (n + 1) (at + entry_size e.kind)
  unfolding entry_places
  walk_on e h r =
      let l = w.laid.long in
      let m : length area₀ - n ≡ suc (length area₀ - (n + 1)) = omega arith in
      let d = drop-drop (entry_size e.kind) at section in
      let p : first + at + entry_size e.kind ≡ first + (at + entry_size e.kind) = omega arith in
      record {
        at_end = omega (arith, entry_inside (drop at section) e h, entry_size_bounds e.kind, length-drop at section);
        laid = laid_store (rw (m, entries_more (length area₀ - (n + 1)) (drop at section) e h, p, d) at w.laid) r;
        rest = rw (m, after_more (length area₀ - (n + 1)) (drop at section) e h, d) at w.rest;
      }

  pub walk_buffer : length area ≤ n → Over (length area₀ - n) (drop at section)
  unfolding entries_in bytes_after_entries
  walk_buffer h = let l = w.laid.long in let z : length area₀ - n ≡ 0 = omega arith in (rw z, rw z)

  module _ (o : Over (length area₀ - n) (drop at section)) where
    stored : (n ≡ length (entries_in (length area₀) section)) × (area ≡ laid_over area₀ (entry_places first (entries_in (length area₀) section)))
    unfolding entry_places
    stored =
        let f = laid_all (rw o.0 at w.laid) in
        (f.0 ∙ length_entry_places first (entries_in (length area₀) section), f.1.1)

    pub walk_over : Walk section first area₀ area (walk_of n (drop at section))
    walk_over = (rw (← stored.0, ← w.rest, o.1), stored.1)
