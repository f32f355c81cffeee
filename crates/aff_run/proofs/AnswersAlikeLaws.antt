-- What is known of the answers of a run by its calls without their allowances, which were accepted, and the tree: all but the stores of puts where a close is accepted (`answers_by_lem`),
-- the numbers of nodes (`numbers_by_lem`), and which are accepted at all where neither 21 nor the padding can refuse (`oks_by_lem`). None depends on where the data end. By induction on the
-- calls, from the answers by the tree. Assumes nothing.
use mathlib.Core.Path.{◌≡◌, refl, sym, ap, ap₂, ◌∙◌}
use mathlib.Core.Bool.{Bool, true, false, cond, not, ◌&&◌, ◌||◌, true≢false}
use mathlib.Core.List.{List, [], ◌∷◌, ◌++◌, map}
use Prim.Native.Nat.{ℕ, ◌+◌, ◌-◌}
use native.Mathlib.Omega.{arith}
use lib.Dec.{eqb, ltb}
use lib.ListN.{length, length-append, length-set}
use borrow.Author.Tests.{le-ltb}
use Rattle.aff_format.specs.Align.{padding, aligned}
use Rattle.aff_format.specs.Answer.{Answer, accepted, refused, Check, check, refusal, refusal_at, first_wrong}
use Rattle.aff_format.specs.Kind.{kind_of, is_void}
use Rattle.aff_format.specs.Subkey.{subkey_from, check_grammar}
use Rattle.aff_format.specs.Tree.{Tree, tree_node}
use Rattle.aff_format.specs.declared.edition.Edition.{Edition}
use Rattle.aff_format.specs.declared.refusal.RefusalCode.{RefusalCode}
use Rattle.aff_format.proofs.AlignLaws.{padding_few}
use Rattle.aff_format.proofs.AnswerLaws.{not_both, passed_value, others_reported, never_reported, refused_up_to}
use Rattle.aff_format.proofs.TestLaws.{or_false}
use Rattle.aff_write.specs.Put.{wrong_data, data_kind}
use Rattle.aff_run.specs.TreeSizes.{with_child, with_data, size_of}
use Rattle.aff_run.specs.AnswersFromTree.{has_child, too_large, close_needs, call_checks, call_value, call_answer, is_spent, stops, AnswersFromTree}
use Rattle.aff_run.specs.BufferSize.{NoneBy}
use Rattle.aff_run.specs.CallsAlike.{without_allowance, accepted_of, but_stores, answers_but_stores, made_number, made_numbers, AmpleAllowance, AmplePuts}
use Rattle.aff_run.specs.Run.{Call, make, put, close, is_accepted, is_close, closed_by, apply_call, call_end}
use Rattle.aff_run.proofs.CallsAlikeLaws.{apply_without, close_without}

-- ---- Checks in order.

-- Whether checks accept does not depend on the value.
accepted_any : (checks : List Check) (v w : ℕ) → is_accepted (first_wrong checks v) ≡ is_accepted (first_wrong checks w)
accepted_any [] v w = refl
accepted_any (check true r ∷ checks) v w = refl
accepted_any (check false r ∷ checks) v w = accepted_any checks v w

-- ---- One call.

-- The checks that look neither at the end of data nor at the allowance.
abbrev pub common_checks : Edition → Tree → Call → List Check
common_checks e tree (make parent name) =
    check (ltb (length tree) parent) (refusal 15)
    ∷ check_grammar (subkey_from e 0 name)
    ∷ check (has_child tree parent name) (refusal 17)
    ∷ check (too_large (with_child tree parent name)) (refusal 20)
    ∷ []
common_checks e tree (put node type bytes allowance) =
    check (ltb (length tree) node) (refusal 15)
    ∷ check (eqb node 0 || not (is_void (tree_node tree node).kind)) (refusal 18)
    ∷ check (wrong_data (kind_of type) (length bytes)) (refusal 19)
    ∷ []
common_checks e tree (close allowance) = []

-- What an accepted call reports but for the stores of a put.
abbrev value_but : Edition → Tree → Call → ℕ
value_but e tree (make parent name) = length tree + 1
value_but e tree (put node type bytes allowance) = 0
value_but e tree (close allowance) = close_needs e tree

-- The answer but for the stores of a put, where it is not 23.
abbrev pub answer_by : Edition → Tree → Call → Bool → Answer ℕ
answer_by e tree c true = accepted (value_but e tree c)
answer_by e tree c false = first_wrong (common_checks e tree c ++ (check true (refusal 21) ∷ [])) 0

answer_without : (e : Edition) (tree : Tree) (c : Call) (ok : Bool) → answer_by e tree (without_allowance c) ok ≡ answer_by e tree c ok
answer_without e tree (make parent name) true = refl
answer_without e tree (make parent name) false = refl
answer_without e tree (put node type bytes allowance) true = refl
answer_without e tree (put node type bytes allowance) false = refl
answer_without e tree (close allowance) true = refl
answer_without e tree (close allowance) false = refl

but_refused : (c : Call) (t : RefusalCode) → but_stores c (refused t) ≡ refused t
but_refused (make parent name) t = refl
but_refused (put node type bytes allowance) t = refl
but_refused (close allowance) t = refl

module _ (e : Edition) (size end : ℕ) (tree : Tree) where
  -- A check of the allowance refuses by 23.
  by_allowance : (wrong : Bool) (allowance v : ℕ) {t : RefusalCode} → first_wrong (check wrong (refusal_at 23 allowance) ∷ []) v ≡ refused t → eqb t.number 23 ≡ true
  by_allowance true allowance v {t} h = let p : t ≡ refusal_at 23 allowance = cc in rw p
  by_allowance false allowance v h = not_both (sym h)

  accepted_by : (c : Call) {n : ℕ} → call_answer e size end tree c ≡ accepted n → but_stores c (accepted n) ≡ accepted (value_but e tree c)
  accepted_by (make parent name) h = ap accepted (sym (passed_value (call_checks e size end tree (make parent name)) (length tree + 1) h))
  accepted_by (put node type bytes allowance) h = refl
  accepted_by (close allowance) h = ap accepted (sym (passed_value (call_checks e size end tree (close allowance)) (close_needs e tree) h))

  -- 21 of a make and of a put.
  abbrev large_child : ℕ → List ℕ → Bool
  large_child parent name = ltb size (size_of end (with_child tree parent name))

  abbrev large_data : ℕ → ℕ → List ℕ → Bool
  large_data node type bytes = ltb size (size_of (aligned end + length bytes) (with_data tree node (data_kind (kind_of type)) bytes))

  refused_by_common : (c : Call) {t : RefusalCode} → call_answer e size end tree c ≡ refused t → eqb t.number 23 ≡ false → answer_by e tree c false ≡ refused t
  refused_by_common (make parent name) h n =
      refused_up_to (common_checks e tree (make parent name)) (large_child parent name) (refusal 21) [] (length tree + 1) 0 h (λ z. not_both (sym z))
  refused_by_common (put node type bytes allowance) h n =
      let stores = padding end + length bytes in
      refused_up_to (common_checks e tree (put node type bytes allowance)) (large_data node type bytes) (refusal 21) (check (ltb allowance stores) (refusal_at 23 allowance) ∷ [])
      stores 0 h (λ z. true≢false (sym (by_allowance (ltb allowance stores) allowance stores z) ∙ n))
  refused_by_common (close allowance) h n =
      absurd (true≢false (sym (by_allowance (ltb allowance (close_needs e tree)) allowance (close_needs e tree) h) ∙ n))

  unspent_by : (c : Call) (a : Answer ℕ) → a ≡ call_answer e size end tree c → is_spent a ≡ false → but_stores c a ≡ answer_by e tree c (is_accepted a)
  unspent_by c (accepted n) h s = accepted_by c (sym h)
  unspent_by c (refused t) h s = but_refused c t ∙ sym (refused_by_common c (sym h) s)

-- ---- All answers but the stores of puts.

abbrev pub answers_by : Edition → Bool → Tree → List Call → List Bool → List (Answer ℕ)
answers_by e stopped tree [] oks = []
answers_by e stopped tree (c ∷ cs) [] = []
answers_by e stopped tree (c ∷ cs) (ok ∷ oks) =
    cond stopped (refused (refusal 22)) (answer_by e tree c ok) ∷ answers_by e (stopped || (ok && is_close c)) (apply_call tree c ok) cs oks

-- A writer that is closed or stopped accepts no close.
stopped_closed : (e : Edition) (size end : ℕ) (tree : Tree) (cs : List Call) (answers : List (Answer ℕ)) → AnswersFromTree e size true end tree cs answers → closed_by cs answers ≡ false
stopped_closed e size end tree [] answers h = refl
stopped_closed e size end tree (c ∷ cs) [] h = refl
stopped_closed e size end tree (c ∷ cs) (a ∷ answers) h =
    let z : is_accepted a ≡ false = ap is_accepted h.0 in
    rw z (stopped_closed e size (call_end end c (is_accepted a)) (apply_call tree c (is_accepted a)) cs answers h.1)

-- So where one is accepted, the call before it is not 23.
not_spent : (a : Answer ℕ) (c : Call) (e : Edition) (size end : ℕ) (tree : Tree) (cs : List Call) (answers : List (Answer ℕ)) → AnswersFromTree e size (stops c a) end tree cs answers
    → ((is_accepted a && is_close c) || closed_by cs answers) ≡ true → is_spent a ≡ false
not_spent (accepted n) c e size end tree cs answers h z = refl
not_spent (refused t) c e size end tree cs answers h z = go (eqb t.number 23) h
  where
    go : (b : Bool) → AnswersFromTree e size b end tree cs answers → b ≡ false
    go true h = absurd (true≢false (sym z ∙ stopped_closed e size end tree cs answers h))
    go false h = refl

-- What is asked of the close, after a call.
closes_still : (a : Answer ℕ) (c : Call) (later : Bool) → ((is_accepted a && is_close c) || later) ≡ true → stops c a ≡ false → later ≡ true
closes_still a c later z s = rw (or_false (is_accepted a && is_close c) (is_spent a) s).0 at z

-- What is shown of a list of calls.
abbrev AnswersByOf : List Call → List (Answer ℕ) → Type 0
AnswersByOf cs answers = (e : Edition) (size : ℕ) (stopped : Bool) (end : ℕ) (tree : Tree) → AnswersFromTree e size stopped end tree cs answers → (stopped ≡ false → closed_by cs answers ≡ true)
    → answers_but_stores cs answers ≡ answers_by e stopped tree (map without_allowance cs) (accepted_of answers)

module _ (c : Call) (cs : List Call) (a : Answer ℕ) (answers : List (Answer ℕ)) (later : AnswersByOf cs answers) where
  -- The calls after c, by what c leaves.
  later_by : (e : Edition) (size : ℕ) (stopped asleep : Bool) (end : ℕ) (tree : Tree) → stopped ≡ asleep
      → AnswersFromTree e size stopped end (apply_call tree c (is_accepted a)) cs answers → (stopped ≡ false → closed_by cs answers ≡ true)
      → answers_but_stores cs answers ≡ answers_by e asleep (apply_call tree (without_allowance c) (is_accepted a)) (map without_allowance cs) (accepted_of answers)
  later_by e size stopped asleep end tree same h z =
      later e size stopped end (apply_call tree c (is_accepted a)) h z
      ∙ ap₂ (λ (b : Bool) (t : Tree). answers_by e b t (map without_allowance cs) (accepted_of answers)) same (sym (apply_without tree c (is_accepted a)))

  step_by_lem : AnswersByOf (c ∷ cs) (a ∷ answers)
  step_by_lem e size true end tree h z =
      ap₂ (λ (x : Answer ℕ) (xs : List (Answer ℕ)). x ∷ xs) (ap (but_stores c) h.0 ∙ but_refused c (refusal 22))
      (later_by e size true true (call_end end c (is_accepted a)) tree refl h.1 (λ q. absurd (true≢false q)))
  step_by_lem e size false end tree h z =
      let closes = z refl in
      let spent = not_spent a c e size _ _ cs answers h.1 closes in
      ap₂ (λ (x : Answer ℕ) (xs : List (Answer ℕ)). x ∷ xs)
      (unspent_by e size end tree c a h.0 spent ∙ sym (answer_without e tree c (is_accepted a)))
      (later_by e size (stops c a) (is_accepted a && is_close (without_allowance c)) (call_end end c (is_accepted a)) tree
      (rw (spent, close_without c) (or_none_lem (is_accepted a && is_close c))) h.1 (closes_still a c (closed_by cs answers) closes))
    where
      or_none_lem : (b : Bool) → (b || false) ≡ b
      or_none_lem true = refl
      or_none_lem false = refl

pub answers_by_lem : (cs : List Call) (answers : List (Answer ℕ)) → AnswersByOf cs answers
answers_by_lem [] answers e size stopped end tree h z = refl
answers_by_lem (c ∷ cs) [] e size stopped end tree h z = absurd h
answers_by_lem (c ∷ cs) (a ∷ answers) e size stopped end tree h z = step_by_lem c cs a answers (answers_by_lem cs answers) e size stopped end tree h z

-- ---- The numbers of nodes.

abbrev pub number_by : ℕ → Call → Bool → List ℕ → List ℕ
number_by k c false more = more
number_by k (make parent name) true more = (k + 1) ∷ more
number_by k (put node type bytes allowance) true more = more
number_by k (close allowance) true more = more

-- How many nodes there are after a call.
abbrev pub count_by : ℕ → Call → Bool → ℕ
count_by k c false = k
count_by k (make parent name) true = k + 1
count_by k (put node type bytes allowance) true = k
count_by k (close allowance) true = k

-- By how many nodes there are.
abbrev pub numbers_by : ℕ → List Call → List Bool → List ℕ
numbers_by k [] oks = []
numbers_by k (c ∷ cs) [] = []
numbers_by k (c ∷ cs) (ok ∷ oks) = number_by k c ok (numbers_by (count_by k c ok) cs oks)

number_without : (k : ℕ) (c : Call) (ok : Bool) (more : List ℕ) → number_by k (without_allowance c) ok more ≡ number_by k c ok more
number_without k c false more = refl
number_without k (make parent name) true more = refl
number_without k (put node type bytes allowance) true more = refl
number_without k (close allowance) true more = refl

count_without : (k : ℕ) (c : Call) (ok : Bool) → count_by k (without_allowance c) ok ≡ count_by k c ok
count_without k c false = refl
count_without k (make parent name) true = refl
count_without k (put node type bytes allowance) true = refl
count_without k (close allowance) true = refl

count_after : (tree : Tree) (c : Call) (ok : Bool) → length (apply_call tree c ok) ≡ count_by (length tree) c ok
count_after tree c false = refl
count_after tree (make parent name) true = length-append tree _
count_after tree (put node type bytes allowance) true = length-set tree (node - 1) _
count_after tree (close allowance) true = refl

-- An accepted make reports one more than there are.
number_reported : (e : Edition) (size : ℕ) (stopped : Bool) (end : ℕ) (tree : Tree) (c : Call) (a : Answer ℕ) (more : List ℕ)
    → a ≡ cond stopped (refused (refusal 22)) (call_answer e size end tree c) → made_number c a more ≡ number_by (length tree) c (is_accepted a) more
number_reported e size stopped end tree (make parent name) (refused t) more h = refl
number_reported e size stopped end tree (put node type bytes allowance) (refused t) more h = refl
number_reported e size stopped end tree (close allowance) (refused t) more h = refl
number_reported e size true end tree c (accepted n) more h = not_both (sym h)
number_reported e size false end tree (make parent name) (accepted n) more h =
    ap (λ (k : ℕ). k ∷ more) (sym (passed_value (call_checks e size end tree (make parent name)) (length tree + 1) (sym h)))
number_reported e size false end tree (put node type bytes allowance) (accepted n) more h = refl
number_reported e size false end tree (close allowance) (accepted n) more h = refl

pub numbers_by_lem : (cs : List Call) (answers : List (Answer ℕ)) (e : Edition) (size : ℕ) (stopped : Bool) (end : ℕ) (tree : Tree) → AnswersFromTree e size stopped end tree cs answers
    → made_numbers cs answers ≡ numbers_by (length tree) (map without_allowance cs) (accepted_of answers)
numbers_by_lem [] answers e size stopped end tree h = refl
numbers_by_lem (c ∷ cs) [] e size stopped end tree h = absurd h
numbers_by_lem (c ∷ cs) (a ∷ answers) e size stopped end tree h =
    let ok = is_accepted a in
    let n : length (apply_call tree c ok) ≡ count_by (length tree) (without_allowance c) ok = count_after tree c ok ∙ sym (count_without (length tree) c ok) in
    number_reported e size stopped end tree c a (made_numbers cs answers) h.0
    ∙ sym (number_without (length tree) c ok (made_numbers cs answers))
    ∙ ap (number_by (length tree) (without_allowance c) ok)
    (numbers_by_lem cs answers e size (stopped || stops c a) (call_end end c ok) (apply_call tree c ok) h.1 ∙ ap (λ (k : ℕ). numbers_by k (map without_allowance cs) (accepted_of answers)) n)

-- ---- Which are accepted, where no answer is 21 and the allowances cover the padding.

-- The checks that are left: those of a close look at its allowance.
abbrev plain_checks : Edition → Tree → Call → List Check
plain_checks e tree (make parent name) = common_checks e tree (make parent name)
plain_checks e tree (put node type bytes allowance) = common_checks e tree (put node type bytes allowance)
plain_checks e tree (close allowance) = check (ltb allowance (close_needs e tree)) (refusal_at 23 allowance) ∷ []

abbrev pub ok_by : Edition → Tree → Call → Bool
ok_by e tree c = is_accepted (first_wrong {A = ℕ} (plain_checks e tree c) 0)

abbrev pub oks_by : Edition → Bool → Tree → List Call → List Bool
oks_by e stopped tree [] = []
oks_by e stopped tree (c ∷ cs) =
    let ok = cond stopped false (ok_by e tree c) in
    ok ∷ oks_by e (stopped || is_close c) (apply_call tree c ok) cs

-- A close is accepted or refused by 23: after it the writer is closed or stopped.
close_stops : (e : Edition) (size end : ℕ) (tree : Tree) (allowance : ℕ) → stops (close allowance) (call_answer e size end tree (close allowance)) ≡ true
close_stops e size end tree allowance = go (ltb allowance (close_needs e tree))
  where
    go : (b : Bool) → stops (close allowance) (first_wrong (check b (refusal_at 23 allowance) ∷ []) (close_needs e tree)) ≡ true
    go true = refl
    go false = refl

-- Checks that report no 23 do not stop it.
unspent : (checks : List Check) (v : ℕ) → ((t : RefusalCode) → first_wrong checks v ≡ refused t → eqb t.number 23 ≡ false) → is_spent (first_wrong checks v) ≡ false
unspent checks v f = go (first_wrong checks v) refl
  where
    go : (a : Answer ℕ) → first_wrong checks v ≡ a → is_spent a ≡ false
    go (accepted n) h = refl
    go (refused t) h = f t h

no_stop : (c : Call) (a : Answer ℕ) → is_close c ≡ false → is_spent a ≡ false → stops c a ≡ false
no_stop c (accepted n) other spent = rw other
no_stop c (refused t) other spent = spent

module _ (e : Edition) (size end : ℕ) (tree : Tree) where
  -- The answer by the checks that are left.
  plain_answer : (c : Call) → AmpleAllowance c → ((t : RefusalCode) → call_answer e size end tree c ≡ refused t → t.number ≡ 21 → ⊥)
      → call_answer e size end tree c ≡ first_wrong (plain_checks e tree c) (call_value e size end tree c)
  plain_answer (make parent name) ample never =
      never_reported (common_checks e tree (make parent name)) (large_child e size end tree parent name) (refusal 21) [] (length tree + 1) never
  plain_answer (put node type bytes allowance) ample never =
      let stores = padding end + length bytes in
      let fits : ltb allowance stores ≡ false = le-ltb allowance stores (omega (arith, ample, padding_few end)) in
      let given : first_wrong (common_checks e tree (put node type bytes allowance) ++ (check (large_data e size end tree node type bytes) (refusal 21) ∷ check (ltb allowance stores) (refusal_at 23 allowance) ∷ [])) stores
      ≡ first_wrong (common_checks e tree (put node type bytes allowance) ++ (check (ltb allowance stores) (refusal_at 23 allowance) ∷ [])) stores =
      never_reported (common_checks e tree (put node type bytes allowance)) (large_data e size end tree node type bytes) (refusal 21) (check (ltb allowance stores) (refusal_at 23 allowance) ∷ []) stores never in
      given ∙ rw fits
  plain_answer (close allowance) ample never = refl

  plain_unspent : (c : Call) → is_close c ≡ false → is_spent (first_wrong (plain_checks e tree c) (call_value e size end tree c)) ≡ false
  plain_unspent (make parent name) o = unspent (common_checks e tree (make parent name)) (length tree + 1) (λ t h. others_reported 23 (common_checks e tree (make parent name)) refl (length tree + 1) h)
  plain_unspent (put node type bytes allowance) o =
      unspent (common_checks e tree (put node type bytes allowance)) (padding end + length bytes)
      (λ t h. others_reported 23 (common_checks e tree (put node type bytes allowance)) refl (padding end + length bytes) h)
  plain_unspent (close allowance) o = absurd (true≢false o)

  plain_ok : (c : Call) → AmpleAllowance c → ((t : RefusalCode) → call_answer e size end tree c ≡ refused t → t.number ≡ 21 → ⊥) → is_accepted (call_answer e size end tree c) ≡ ok_by e tree c
  plain_ok c ample never = ap is_accepted (plain_answer c ample never) ∙ accepted_any (plain_checks e tree c) (call_value e size end tree c) 0

  -- Only a close closes or stops the writer.
  plain_goes_on : (c : Call) → is_close c ≡ false → AmpleAllowance c → ((t : RefusalCode) → call_answer e size end tree c ≡ refused t → t.number ≡ 21 → ⊥)
      → stops c (call_answer e size end tree c) ≡ false
  plain_goes_on c other ample never =
      ap (stops c) (plain_answer c ample never) ∙ no_stop c (first_wrong (plain_checks e tree c) (call_value e size end tree c)) other (plain_unspent c other)

  plain_stops : (c : Call) → AmpleAllowance c → ((t : RefusalCode) → call_answer e size end tree c ≡ refused t → t.number ≡ 21 → ⊥) → stops c (call_answer e size end tree c) ≡ is_close c
  plain_stops (make parent name) ample never = plain_goes_on (make parent name) refl ample never
  plain_stops (put node type bytes allowance) ample never = plain_goes_on (put node type bytes allowance) refl ample never
  plain_stops (close allowance) ample never = close_stops e size end tree allowance

-- What is shown of a list of calls.
abbrev OksByOf : List Call → List (Answer ℕ) → Type 0
OksByOf cs answers = (e : Edition) (size : ℕ) (stopped : Bool) (end : ℕ) (tree : Tree) → AnswersFromTree e size stopped end tree cs answers → NoneBy 21 answers → AmplePuts cs
    → accepted_of answers ≡ oks_by e stopped tree cs

module _ (c : Call) (cs : List Call) (a : Answer ℕ) (answers : List (Answer ℕ)) (later : OksByOf cs answers) where
  step_ok : OksByOf (c ∷ cs) (a ∷ answers)
  step_ok e size true end tree h none ample =
      let z : is_accepted a ≡ false = ap is_accepted h.0 in
      let rest = later e size true (call_end end c (is_accepted a)) (apply_call tree c (is_accepted a)) h.1 none.1 ample.1 in
      ap₂ (λ (x : Bool) (oks : List Bool). x ∷ oks) z (rest ∙ ap (λ (x : Bool). oks_by e true (apply_call tree c x) cs) z)
  step_ok e size false end tree h none ample =
      let never : (t : RefusalCode) → call_answer e size end tree c ≡ refused t → t.number ≡ 21 → ⊥ = λ t q n. none.0 t (h.0 ∙ q) n in
      let ok : is_accepted a ≡ ok_by e tree c = ap is_accepted h.0 ∙ plain_ok e size end tree c ample.0 never in
      let stop : stops c a ≡ is_close c = ap (stops c) h.0 ∙ plain_stops e size end tree c ample.0 never in
      let rest = later e size (stops c a) (call_end end c (is_accepted a)) (apply_call tree c (is_accepted a)) h.1 none.1 ample.1 in
      ap₂ (λ (x : Bool) (oks : List Bool). x ∷ oks) ok
      (rest ∙ ap₂ (λ (s x : Bool). oks_by e s (apply_call tree c x) cs) stop ok)

pub oks_by_lem : (cs : List Call) (answers : List (Answer ℕ)) → length answers ≡ length cs → OksByOf cs answers
oks_by_lem [] [] n e size stopped end tree h none ample = refl
oks_by_lem [] (a ∷ answers) n e size stopped end tree h none ample = absurd (omega arith)
oks_by_lem (c ∷ cs) [] n e size stopped end tree h none ample = absurd h
oks_by_lem (c ∷ cs) (a ∷ answers) n e size stopped end tree h none ample = step_ok c cs a answers (oks_by_lem cs answers (omega arith)) e size stopped end tree h none ample
