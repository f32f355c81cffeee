-- The checks of the nodes: by copied parents and string numbers, and by entries and strings that agree. Assumes nothing.
use mathlib.Core.Path.{◌≡◌, refl, sym, ap, ◌∙◌}
use mathlib.Core.List.{List, [], ◌∷◌}
use Prim.Native.Nat.{ℕ, ◌≤◌, ◌<◌}
use native.Mathlib.Omega.{arith}
use lib.ListN.{length}
use Rattle.aff_format.specs.Answer.{Answer, refused, refusal_at, refusal_with, first_wrong, Clear}
use Rattle.aff_format.specs.Limits.{node_limit}
use Rattle.aff_format.specs.Lowest.{lowest_from, check_lowest}
use Rattle.aff_format.specs.declared.edition.Edition.{Edition}
use Rattle.std.specs.Prelude.{Option, Some, None}
use Rattle.aff_format.specs.declared.refusal.RefusalCode.{RefusalCode}
use Rattle.aff_format.proofs.AnswerLaws.{numbers_reported}
use Rattle.aff_format.proofs.LowestLaws.{lowest_is, clear_lowest, numbers_lowest}
use Rattle.aff_tables.specs.passes.Climb.{ParentsExist}
use Rattle.aff_tables.specs.Nodes.{Contents, link_wrong, bad_link, climb_endless, name_taken, data_outside, node_checks}
use Rattle.aff_tables.specs.passes.Results.{Copied, copied_checks, AllDistinct}
use Rattle.aff_tables.proofs.LinkLaws.{links_clear, copied_siblings, Alike, links_same, break_same, climbs_same, names_same, data_same}
use Rattle.aff_tables.proofs.ParentLaws.{copied_linked, copied_climbs}

-- Sound links, copied.
module _ (e : Edition) (c : Contents) (parents names : List ℕ) (r : Option ℕ)
    (is : r ≡ lowest_from (link_wrong e c) c.nodes 1) (none : r ≡ None) (copied : Copied c.entry c.nodes parents names) where
  sound : lowest_from (link_wrong e c) c.nodes 1 ≡ None
  sound = sym is ∙ none

  up : (k : ℕ) → 0 < k → k ≤ c.nodes → (c.entry k).parent ≤ c.nodes
  up k lo hi = (links_clear e c sound k lo hi).0

  pub linked_by_copies : c.nodes ≤ node_limit → c.nodes < length parents → ParentsExist parents c.nodes
  linked_by_copies = copied_linked c.entry c.nodes parents copied.parent up

  -- The checks by the copies are the checks by the entries.
  pub checked_by_copies : {A : Type 0} (from size : ℕ) (v : A) → AllDistinct c.strings c.string
      → first_wrong (copied_checks from size parents names c.nodes c.entry) v ≡ first_wrong (node_checks e from size c) v
  checked_by_copies from size v apart =
      rw (
        sound,
        copied_climbs c.entry c.nodes parents copied.parent up,
        copied_siblings c parents names copied (λ k lo hi. (links_clear e c sound k lo hi).1) apart,
      )

three : {A : Type 0} (v : A) {b b' c c' d d' : Option ℕ} → b ≡ b' → c ≡ c' → d ≡ d'
    → first_wrong (check_lowest (refusal_at 11) b ∷ check_lowest (refusal_at 12) c ∷ check_lowest (refusal_at 13) d ∷ []) v
    ≡ first_wrong (check_lowest (refusal_at 11) b' ∷ check_lowest (refusal_at 12) c' ∷ check_lowest (refusal_at 13) d' ∷ []) v
three v q r s = λ i. first_wrong (check_lowest (refusal_at 11) (q i) ∷ check_lowest (refusal_at 12) (r i) ∷ check_lowest (refusal_at 13) (s i) ∷ []) v

-- Contents that agree are checked alike.
pub checked_alike : {A : Type 0} (e : Edition) (from size : ℕ) {c d : Contents} → Alike c d → (v : A)
    → first_wrong (node_checks e from size c) v ≡ first_wrong (node_checks e from size d) v
checked_alike {A} e from size {c} {d} alike v = go (lowest_from (link_wrong e c) c.nodes 1) refl
  where
    -- The answer where 10 finds `l`.
    by : Contents → Option ℕ → Answer A
    by x l =
        first_wrong
        (check_lowest (bad_link e x) l
        ∷ check_lowest (refusal_at 11) (lowest_from (climb_endless x.nodes x.entry) x.nodes 1)
        ∷ check_lowest (refusal_at 12) (lowest_from (name_taken x) x.nodes 1)
        ∷ check_lowest (refusal_at 13) (lowest_from (data_outside from size x.entry) x.nodes 1)
        ∷ [])
        v

    both : (l : Option ℕ) → lowest_from (link_wrong e c) c.nodes 1 ≡ l → by c l ≡ by d l
        → first_wrong (node_checks e from size c) v ≡ first_wrong (node_checks e from size d) v
    both l h q = ap (by c) h ∙ q ∙ sym (ap (by d) (sym (links_same alike e) ∙ h))

    go : (l : Option ℕ) → lowest_from (link_wrong e c) c.nodes 1 ≡ l → first_wrong (node_checks e from size c) v ≡ first_wrong (node_checks e from size d) v
    go (Some k) h =
        let l = lowest_is (link_wrong e c) c.nodes 1 k h in
        both (Some k) h (ap (λ (n : ℕ). refused (refusal_with 10 k n)) (break_same alike e k l.least (omega (arith, l.most))))
    go None h =
        let up : (k : ℕ) → 0 < k → k ≤ c.nodes → (c.entry k).parent ≤ c.nodes = λ k lo hi. (links_clear e c h k lo hi).0 in
        let named : (k : ℕ) → 0 < k → k ≤ c.nodes → (c.entry k).string < c.strings = λ k lo hi. (links_clear e c h k lo hi).1 in
        both None h (three v (climbs_same alike up) (names_same alike named) (data_same alike from size))

-- Accepted checks: no node has a fault.
four_clear : (report : ℕ → RefusalCode) (a b c d : Option ℕ)
    → Clear (check_lowest report a ∷ check_lowest (refusal_at 11) b ∷ check_lowest (refusal_at 12) c ∷ check_lowest (refusal_at 13) d ∷ [])
    → (a ≡ None) × (b ≡ None) × (c ≡ None) × (d ≡ None)
four_clear report a b c d h =
    let (p, f) = clear_lowest report a (check_lowest (refusal_at 11) b ∷ check_lowest (refusal_at 12) c ∷ check_lowest (refusal_at 13) d ∷ []) h in
    let (q, g) = clear_lowest (refusal_at 11) b (check_lowest (refusal_at 12) c ∷ check_lowest (refusal_at 13) d ∷ []) f in
    let (r, k) = clear_lowest (refusal_at 12) c (check_lowest (refusal_at 13) d ∷ []) g in
    (p, q, r, (clear_lowest (refusal_at 13) d [] k).0)

pub nodes_clear : (e : Edition) (from size : ℕ) (c : Contents) → Clear (node_checks e from size c)
    → (lowest_from (link_wrong e c) c.nodes 1 ≡ None) × (lowest_from (climb_endless c.nodes c.entry) c.nodes 1 ≡ None)
    × (lowest_from (name_taken c) c.nodes 1 ≡ None) × (lowest_from (data_outside from size c.entry) c.nodes 1 ≡ None)
nodes_clear e from size c =
    four_clear (bad_link e c) (lowest_from (link_wrong e c) c.nodes 1) (lowest_from (climb_endless c.nodes c.entry) c.nodes 1)
    (lowest_from (name_taken c) c.nodes 1) (lowest_from (data_outside from size c.entry) c.nodes 1)

-- The numbers of the checks, in order.
four_numbers : (report : ℕ → RefusalCode) → ((k : ℕ) → (report k).number ≡ 10) → (a b c d : Option ℕ)
    → numbers_reported (check_lowest report a ∷ check_lowest (refusal_at 11) b ∷ check_lowest (refusal_at 12) c ∷ check_lowest (refusal_at 13) d ∷ [])
    ≡ 10 ∷ 11 ∷ 12 ∷ 13 ∷ []
four_numbers report is a b c d =
    rw (
      numbers_lowest 10 report is a (check_lowest (refusal_at 11) b ∷ check_lowest (refusal_at 12) c ∷ check_lowest (refusal_at 13) d ∷ []),
      numbers_lowest 11 (refusal_at 11) (λ _. refl) b (check_lowest (refusal_at 12) c ∷ check_lowest (refusal_at 13) d ∷ []),
      numbers_lowest 12 (refusal_at 12) (λ _. refl) c (check_lowest (refusal_at 13) d ∷ []),
      numbers_lowest 13 (refusal_at 13) (λ _. refl) d [],
    )

pub node_numbers : (e : Edition) (from size : ℕ) (c : Contents) → numbers_reported (node_checks e from size c) ≡ 10 ∷ 11 ∷ 12 ∷ 13 ∷ []
node_numbers e from size c =
    four_numbers (bad_link e c) (λ _. refl) (lowest_from (link_wrong e c) c.nodes 1) (lowest_from (climb_endless c.nodes c.entry) c.nodes 1)
    (lowest_from (name_taken c) c.nodes 1) (lowest_from (data_outside from size c.entry) c.nodes 1)
