-- Rules in order, each with the refusal that is reported where it fails: document 01, 'Numbers handed back' and 'Order'.
use Rattle.std.specs.Prelude.{◌≡◌, List, [], ◌∷◌, ◌⊎◌, ◌↔◌, ℕ, zero, suc, ◌+◌}
use Rattle.aff_format.specs.Answer.{Answer, accepted, refused}
use Rattle.aff_format.specs.declared.refusal.RefusalCode.{RefusalCode}

-- A rule, and what is reported where it fails.
pub data Rule : Type 1 where
  rule : Type 0 → RefusalCode → Rule

-- Each of the rules holds.
abbrev pub AllHold : List Rule → Type 0
AllHold [] = Unit {0}
AllHold (rule holds reported ∷ rules) = holds × AllHold rules

-- A rule that fails reports t, and each rule before it holds.
abbrev pub FirstFails : List Rule → RefusalCode → Type 0
FirstFails [] t = ⊥
FirstFails (rule holds reported ∷ rules) t = ((holds → ⊥) × (reported ≡ t)) ⊎ (holds × FirstFails rules t)

-- The answer that rules settle: accepted where all hold, else refused by the first that fails.
abbrev pub Settled : {A : Type 0} → List Rule → A → Answer A → Type 0
Settled rules v (accepted w) = AllHold rules × (v ≡ w)
Settled rules v (refused t) = FirstFails rules t

-- One rule for each of the `left` numbers from k on, of nodes or strings, in ascending order; then more rules. `report k` is the refusal for
-- number k.
unfoldable pub each_from : (ℕ → RefusalCode) → (ℕ → Type 0) → ℕ → ℕ → List Rule → List Rule
each_from report holds zero k more = more
each_from report holds (suc left) k more = rule (holds k) (report k) ∷ each_from report holds left (k + 1) more

-- An answer by rules: accepted with v exactly when all of them hold and v is the right value; refused by t exactly when the first that fails reports t.
pub record By (rules : List Rule) {A : Type 0} (Right : A → Type 0) (answer : Answer A) : Type 0 where
  pub accepts : (v : A) → (answer ≡ accepted v) ↔ (AllHold rules × Right v)
  pub refuses : (t : RefusalCode) → (answer ≡ refused t) ↔ FirstFails rules t

-- The right value is this one.
abbrev pub Is : {A : Type 0} → A → A → Type 0
Is value v = v ≡ value
