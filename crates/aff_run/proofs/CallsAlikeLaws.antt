-- What calls describe depends on them but for their allowances, and on which were accepted: the tree, the layout of its data, whether they close it. Calls after other calls; answers
-- of calls that are the same but for their allowances. By induction on the calls, one line for each kind of call. Assumes nothing.
use mathlib.Core.Path.{◌≡◌, refl, sym, ap, ap₂, ◌∙◌}
use mathlib.Core.Bool.{Bool, true, false, ◌&&◌, ◌||◌, true≢false}
use mathlib.Core.List.{List, [], ◌∷◌, ◌++◌, map}
use Prim.Native.Nat.{ℕ, ◌+◌}
use Rattle.aff_format.specs.Answer.{Answer}
use Rattle.aff_format.specs.Tree.{Tree}
use Rattle.aff_format.specs.declared.edition.Edition.{Edition}
use Rattle.aff_run.specs.AnswersFromTree.{stops, AnswersFromTree}
use Rattle.aff_run.specs.BufferSize.{NoneBy, accepted_put, accepted_puts}
use Rattle.aff_run.specs.CallsAlike.{without_allowance, accepted_of, but_stores, answers_but_stores}
use Rattle.aff_run.specs.Run.{Call, make, put, close, State, step, after_call, answers_of, state_after, is_accepted, apply_call, tree_after, DataLayout, call_layout, layout_after, is_close, closed_by}

-- ---- By the calls without their allowances and which were accepted.

abbrev pub tree_by : Tree → List Call → List Bool → Tree
tree_by tree [] oks = tree
tree_by tree (c ∷ cs) [] = tree
tree_by tree (c ∷ cs) (ok ∷ oks) = tree_by (apply_call tree c ok) cs oks

abbrev pub layout_by : DataLayout → List Call → List Bool → DataLayout
layout_by l [] oks = l
layout_by l (c ∷ cs) [] = l
layout_by l (c ∷ cs) (ok ∷ oks) = layout_by (call_layout l c ok) cs oks

abbrev pub closes_by : List Call → List Bool → Bool
closes_by [] oks = false
closes_by (c ∷ cs) [] = false
closes_by (c ∷ cs) (ok ∷ oks) = (ok && is_close c) || closes_by cs oks

abbrev pub puts_by : List Call → List Bool → ℕ
puts_by [] oks = 0
puts_by (c ∷ cs) [] = 0
puts_by (c ∷ cs) (ok ∷ oks) = accepted_put c ok + puts_by cs oks

pub apply_without : (tree : Tree) (c : Call) (ok : Bool) → apply_call tree (without_allowance c) ok ≡ apply_call tree c ok
apply_without tree c false = refl
apply_without tree (make parent name) true = refl
apply_without tree (put node type bytes allowance) true = refl
apply_without tree (close allowance) true = refl

layout_without : (l : DataLayout) (c : Call) (ok : Bool) → call_layout l (without_allowance c) ok ≡ call_layout l c ok
layout_without l c false = refl
layout_without l (make parent name) true = refl
layout_without l (put node type bytes allowance) true = refl
layout_without l (close allowance) true = refl

pub close_without : (c : Call) → is_close (without_allowance c) ≡ is_close c
close_without (make parent name) = refl
close_without (put node type bytes allowance) = refl
close_without (close allowance) = refl

put_without : (c : Call) (ok : Bool) → accepted_put (without_allowance c) ok ≡ accepted_put c ok
put_without c false = refl
put_without (make parent name) true = refl
put_without (put node type bytes allowance) true = refl
put_without (close allowance) true = refl

pub tree_by_lem : (tree : Tree) (cs : List Call) (answers : List (Answer ℕ)) → tree_after tree cs answers ≡ tree_by tree (map without_allowance cs) (accepted_of answers)
tree_by_lem tree [] answers = refl
tree_by_lem tree (c ∷ cs) [] = refl
tree_by_lem tree (c ∷ cs) (a ∷ answers) =
    tree_by_lem (apply_call tree c (is_accepted a)) cs answers
    ∙ ap (λ (t : Tree). tree_by t (map without_allowance cs) (accepted_of answers)) (sym (apply_without tree c (is_accepted a)))

pub layout_by_lem : (l : DataLayout) (cs : List Call) (answers : List (Answer ℕ)) → layout_after l cs answers ≡ layout_by l (map without_allowance cs) (accepted_of answers)
layout_by_lem l [] answers = refl
layout_by_lem l (c ∷ cs) [] = refl
layout_by_lem l (c ∷ cs) (a ∷ answers) =
    layout_by_lem (call_layout l c (is_accepted a)) cs answers
    ∙ ap (λ (x : DataLayout). layout_by x (map without_allowance cs) (accepted_of answers)) (sym (layout_without l c (is_accepted a)))

pub closed_by_lem : (cs : List Call) (answers : List (Answer ℕ)) → closed_by cs answers ≡ closes_by (map without_allowance cs) (accepted_of answers)
closed_by_lem [] answers = refl
closed_by_lem (c ∷ cs) [] = refl
closed_by_lem (c ∷ cs) (a ∷ answers) = ap₂ (λ (x y : Bool). (is_accepted a && x) || y) (sym (close_without c)) (closed_by_lem cs answers)

pub puts_by_lem : (cs : List Call) (answers : List (Answer ℕ)) → accepted_puts cs answers ≡ puts_by (map without_allowance cs) (accepted_of answers)
puts_by_lem [] answers = refl
puts_by_lem (c ∷ cs) [] = refl
puts_by_lem (c ∷ cs) (a ∷ answers) = ap₂ (λ (x y : ℕ). x + y) (sym (put_without c (is_accepted a))) (puts_by_lem cs answers)

-- ---- Calls after other calls.

pub answers_split : (before : List Call) (s : State) (rest : List Call) → answers_of s (before ++ rest) ≡ answers_of s before ++ answers_of (state_after s before) rest
answers_split [] s rest = refl
answers_split (c ∷ before) s rest = ap (λ (xs : List (Answer ℕ)). (step s c).answer ∷ xs) (answers_split before (after_call s c) rest)

pub accepted_split : (xs ys : List (Answer ℕ)) → accepted_of (xs ++ ys) ≡ accepted_of xs ++ accepted_of ys
accepted_split [] ys = refl
accepted_split (x ∷ xs) ys = ap (λ (oks : List Bool). is_accepted x ∷ oks) (accepted_split xs ys)

pub tree_split : (before : List Call) (s : State) (tree : Tree) (rest : List Call) (more : List (Answer ℕ))
    → tree_after tree (before ++ rest) (answers_of s before ++ more) ≡ tree_after (tree_after tree before (answers_of s before)) rest more
tree_split [] s tree rest more = refl
tree_split (c ∷ before) s tree rest more = tree_split before (after_call s c) (apply_call tree c (is_accepted (step s c).answer)) rest more

pub layout_split : (before : List Call) (s : State) (l : DataLayout) (rest : List Call) (more : List (Answer ℕ))
    → layout_after l (before ++ rest) (answers_of s before ++ more) ≡ layout_after (layout_after l before (answers_of s before)) rest more
layout_split [] s l rest more = refl
layout_split (c ∷ before) s l rest more = layout_split before (after_call s c) (call_layout l c (is_accepted (step s c).answer)) rest more

pub closed_split : (before : List Call) (s : State) (rest : List Call) (more : List (Answer ℕ))
    → closed_by (before ++ rest) (answers_of s before ++ more) ≡ (closed_by before (answers_of s before) || closed_by rest more)
closed_split [] s rest more = refl
closed_split (c ∷ before) s rest more =
    ap (λ (b : Bool). (is_accepted (step s c).answer && is_close c) || b) (closed_split before (after_call s c) rest more)
    ∙ sym (or_third (is_accepted (step s c).answer && is_close c) (closed_by before (answers_of (after_call s c) before)) (closed_by rest more))
  where
    or_third : (a b c : Bool) → ((a || b) || c) ≡ (a || (b || c))
    or_third true b c = refl
    or_third false b c = refl

pub but_split : (before : List Call) (s : State) (rest : List Call) (more : List (Answer ℕ))
    → answers_but_stores (before ++ rest) (answers_of s before ++ more) ≡ answers_but_stores before (answers_of s before) ++ answers_but_stores rest more
but_split [] s rest more = refl
but_split (c ∷ before) s rest more = ap (λ (xs : List (Answer ℕ)). but_stores c (step s c).answer ∷ xs) (but_split before (after_call s c) rest more)

pub none_split : (before : List Call) (s : State) (number : ℕ) (more : List (Answer ℕ)) → NoneBy number (answers_of s before ++ more) → NoneBy number more
none_split [] s number more h = h
none_split (c ∷ before) s number more h = none_split before (after_call s c) number more h.1

-- Whether the writer is closed or stopped after some calls.
abbrev pub stopped_after : Bool → List Call → List (Answer ℕ) → Bool
stopped_after stopped [] answers = stopped
stopped_after stopped (c ∷ cs) [] = stopped
stopped_after stopped (c ∷ cs) (a ∷ answers) = stopped_after (stopped || stops c a) cs answers

pub from_tree_split : (before : List Call) (s : State) (e : Edition) (size : ℕ) (stopped : Bool) (l : DataLayout) (tree : Tree) (rest : List Call) (more : List (Answer ℕ))
    → AnswersFromTree e size stopped l.end tree (before ++ rest) (answers_of s before ++ more)
    → AnswersFromTree e size (stopped_after stopped before (answers_of s before)) (layout_after l before (answers_of s before)).end (tree_after tree before (answers_of s before)) rest more
from_tree_split [] s e size stopped l tree rest more h = h
from_tree_split (c ∷ before) s e size stopped l tree rest more h =
    let a = (step s c).answer in
    from_tree_split before (after_call s c) e size (stopped || stops c a) (call_layout l c (is_accepted a)) (apply_call tree c (is_accepted a)) rest more h.1

-- While it is neither, no close was accepted.
stopped_stays : (cs : List Call) (answers : List (Answer ℕ)) → stopped_after true cs answers ≡ true
stopped_stays [] answers = refl
stopped_stays (c ∷ cs) [] = refl
stopped_stays (c ∷ cs) (a ∷ answers) = stopped_stays cs answers

pub none_closed_yet : (cs : List Call) (answers : List (Answer ℕ)) (stopped : Bool) → stopped_after stopped cs answers ≡ false → closed_by cs answers ≡ false
none_closed_yet [] answers stopped h = refl
none_closed_yet (c ∷ cs) [] stopped h = refl
none_closed_yet (c ∷ cs) (a ∷ answers) true h = absurd (true≢false (sym (stopped_stays cs answers) ∙ h))
none_closed_yet (c ∷ cs) (a ∷ answers) false h = go (is_accepted a && is_close c) refl (none_closed_yet cs answers (stops c a) h)
  where
    go : (b : Bool) → (is_accepted a && is_close c) ≡ b → closed_by cs answers ≡ false → ((is_accepted a && is_close c) || closed_by cs answers) ≡ false
    go true e later = let z : stops c a ≡ true = rw e in absurd (true≢false (sym (stopped_stays cs answers) ∙ ap (λ (s : Bool). stopped_after s cs answers) (sym z) ∙ h))
    go false e later = rw e later
