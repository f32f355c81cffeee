-- Calls that store under an allowance: those stores were made that come first, so many as are allowed; 23 is reported exactly where some are
-- left. By how many the front of a list has. Assumes nothing.
use mathlib.Core.Path.{◌≡◌, refl, sym, ap, ◌∙◌}
use mathlib.Core.List.{List, [], ◌∷◌, ◌++◌}
use Prim.Native.Nat.{ℕ, zero, suc, ◌+◌, ◌-◌, ◌≤◌, ◌<◌}
use native.Mathlib.Omega.{arith}
use lib.Dec.{ltb}
use lib.ListN.{length, take, length-append}
use lib.Seq.{take_all}
use borrow.Author.Tests.{lt-ltb, le-ltb}
use Rattle.aff_format.specs.Answer.{Answer, accepted, refused, Check, check, refusal_at, unless, first_wrong}
use mathlib.Core.Bool.{Bool, true, false}
use Rattle.aff_areas.specs.Stores.{Store, apply_stores, buffer_after}
use Rattle.aff_areas.specs.Writer.{stopped, writer_after}
use Rattle.aff_areas.specs.declared.writer.Writer.{Writer}
use Rattle.aff_areas.proofs.StoreLaws.{apply_append, take_both}

-- The front of a list is shorter than it, or is all of it.
take_short : {A : Type 0} (k : ℕ) (l : List A) → length (take k l) < length l → (k < length l) × (length (take k l) ≡ k)
take_short zero l h = (h, refl)
take_short (suc k) [] h = absurd (omega arith)
take_short (suc k) (x ∷ l) h = let (a, b) = take_short k l (omega arith) in (omega arith, ap suc b)

take_long : {A : Type 0} (k : ℕ) (l : List A) → length l ≤ length (take k l) → (length l ≤ k) × (take k l ≡ l)
take_long zero [] h = (omega arith, refl)
take_long zero (x ∷ l) h = absurd (omega arith)
take_long (suc k) [] h = (omega arith, refl)
take_long {A} (suc k) (x ∷ l) h = let (a, b) = take_long k l (omega arith) in (omega arith, ap (λ (r : List A). x ∷ r) b)

-- What a call promises of its answer, its record and the buffer.
pub record WritingPromise (checks : List Check) (stores : List Store) (next given : Writer) (buffer₀ buffer₁ : List ℕ) (answer : Answer ℕ) (writer : Writer) : Type 0 where
  pub answer_is : answer ≡ first_wrong checks (length stores)
  pub writer_is : writer ≡ writer_after answer next given
  pub buffer_is : buffer₁ ≡ buffer_after answer stores buffer₀

-- 23.
abbrev pub spent_check : List Store → ℕ → List Check
spent_check stores allowance = check (ltb allowance (length stores)) (refusal_at 23 allowance) ∷ []

module _ (stores : List Store) (allowance made : ℕ) (buffer₀ buffer₁ : List ℕ) (m : made ≡ length (take allowance stores))
    (r : buffer₁ ≡ apply_stores buffer₀ (take allowance stores)) where
  -- Some are left.
  pub spent_answer : made < length stores → ◌≡◌ {A = Answer ℕ} (refused (refusal_at 23 made)) (first_wrong (spent_check stores allowance) (length stores))
  spent_answer h =
      let (a, b) = take_short allowance stores (omega arith) in
      let e : made ≡ allowance = m ∙ b in
      rw (e, lt-ltb allowance (length stores) a)

  pub spent_buffer : made < length stores → buffer₁ ≡ apply_stores buffer₀ (take made stores)
  spent_buffer h =
      let (a, b) = take_short allowance stores (omega arith) in
      r ∙ ap (λ (k : ℕ). apply_stores buffer₀ (take k stores)) (sym (m ∙ b))

  pub reported_spent : (next given : Writer) → made < length stores
      → WritingPromise (spent_check stores allowance) stores next given buffer₀ buffer₁ (refused (refusal_at 23 made)) (stopped given)
  reported_spent next given h = record { answer_is = spent_answer h; writer_is = refl; buffer_is = spent_buffer h }

  -- All were made.
  pub made_answer : length stores ≤ made → ◌≡◌ {A = Answer ℕ} (accepted made) (first_wrong (spent_check stores allowance) (length stores))
  made_answer h =
      let (a, b) = take_long allowance stores (omega arith) in
      let e : made ≡ length stores = m ∙ ap length b in
      rw (e, le-ltb allowance (length stores) a)

  pub made_buffer : length stores ≤ made → buffer₁ ≡ apply_stores buffer₀ (take made stores)
  made_buffer h =
      let (a, b) = take_long allowance stores (omega arith) in
      r ∙ ap (apply_stores buffer₀) (b ∙ sym (take_all made stores h))

  pub reported_made : (next given : Writer) → length stores ≤ made
      → WritingPromise (spent_check stores allowance) stores next given buffer₀ buffer₁ (accepted made) next
  reported_made next given h = record { answer_is = made_answer h; writer_is = refl; buffer_is = made_buffer h }

-- Where only 23 can refuse, the record is stopped in any case.
stopped_either : (given : Writer) (allowance n : ℕ) (b : Bool)
    → writer_after (unless b (refusal_at 23 allowance) (accepted n)) (stopped given) given ≡ stopped given
stopped_either given allowance n true = refl
stopped_either given allowance n false = refl

pub stopped_after_lem : (stores : List Store) (allowance : ℕ) (given : Writer) (answer : Answer ℕ) → answer ≡ first_wrong (spent_check stores allowance) (length stores)
    → writer_after answer (stopped given) given ≡ stopped given
stopped_after_lem stores allowance given answer e = rw e (stopped_either given allowance (length stores) (ltb allowance (length stores)))

-- Some stores and others after them under one allowance.
module _ (a b : List Store) (allowance first second : ℕ) (buffer₀ buffer₁ buffer₂ : List ℕ)
    (m₁ : first ≡ length (take allowance a)) (r₁ : buffer₁ ≡ apply_stores buffer₀ (take allowance a))
    (m₂ : second ≡ length (take (allowance - first) b)) (r₂ : buffer₂ ≡ apply_stores buffer₁ (take (allowance - first) b)) where
  two_taken : take allowance (a ++ b) ≡ take allowance a ++ take (allowance - first) b
  two_taken = take_both allowance a b ∙ ap (λ (n : ℕ). take allowance a ++ take (allowance - n) b) (sym m₁)

  pub two_made : first + second ≡ length (take allowance (a ++ b))
  two_made = sym (ap length two_taken ∙ length-append (take allowance a) (take (allowance - first) b) ∙ omega arith)

  pub two_buffer : buffer₂ ≡ apply_stores buffer₀ (take allowance (a ++ b))
  two_buffer =
      r₂
      ∙ ap (λ (r : List ℕ). apply_stores r (take (allowance - first) b)) r₁
      ∙ sym (apply_append buffer₀ (take allowance a) (take (allowance - first) b))
      ∙ ap (apply_stores buffer₀) (sym two_taken)
