-- The data end at most 7 bytes for each put after the header and the bytes put; and where a buffer holds the header and the most that all calls can add, none of them
-- is refused by 21. By induction on the calls, from the answers by the tree. Assumes nothing.
use mathlib.Core.Path.{◌≡◌, refl, sym, ap, ◌∙◌}
use mathlib.Core.Bool.{Bool, true, false, cond, not, ◌||◌, true≢false}
use mathlib.Core.List.{List, [], ◌∷◌, ◌++◌}
use Prim.Native.Nat.{ℕ, ◌+◌, ◌*◌, ◌≤◌}
use native.Mathlib.Omega.{arith}
use lib.Dec.{eqb, ltb}
use lib.ListN.{length}
use borrow.Author.Tests.{eq-eqb, eqb-false, le-ltb, ltb-false, not-false}
use Rattle.aff_format.specs.Align.{padding, aligned}
use Rattle.aff_format.specs.Answer.{Answer, accepted, refused, Check, check, refusal, refusal_at, Clear}
use Rattle.aff_format.specs.Kind.{kind_of, is_void}
use Rattle.aff_format.specs.Strings.{is_in}
use Rattle.aff_format.specs.Subkey.{subkey_from, check_grammar}
use Rattle.aff_format.specs.Tree.{Tree, tree_node}
use Rattle.aff_format.specs.declared.edition.Edition.{Edition}
use Rattle.aff_format.specs.declared.refusal.RefusalCode.{RefusalCode}
use Rattle.aff_format.proofs.AlignLaws.{padding_few}
use Rattle.aff_format.proofs.AnswerLaws.{not_both, passed, others_reported, check_reported, last_reported}
use Rattle.aff_format.proofs.TestLaws.{or_false}
use Rattle.aff_write.specs.Put.{wrong_data, data_kind}
use Rattle.aff_run.specs.TreeSizes.{with_child, with_data, names_of, size_of}
use Rattle.aff_run.specs.AnswersFromTree.{has_child, too_large, call_checks, call_value, call_answer, stops, AnswersFromTree}
use Rattle.aff_run.specs.BufferSize.{most_added, most_added_by, NoneBy, accepted_put, accepted_size, accepted_puts, accepted_sizes}
use Rattle.aff_run.specs.Run.{Call, make, put, close, State, step, after_call, answers_of, is_accepted, apply_call, DataLayout, call_end, call_layout, layout_after}
use Rattle.aff_run.proofs.MakeInvariantLaws.{size_child}
use Rattle.aff_run.proofs.PutInvariantLaws.{data_right, size_after}

-- ---- The end of data.

-- One call.
call_least : (end : ℕ) (c : Call) (ok : Bool) → end + accepted_size c ok ≤ call_end end c ok
call_least end c false = omega arith
call_least end (make parent name) true = omega arith
call_least end (put node type bytes allowance) true = omega arith
call_least end (close allowance) true = omega arith

call_most : (end : ℕ) (c : Call) (ok : Bool) → call_end end c ok ≤ end + accepted_size c ok + 7 * accepted_put c ok
call_most end c false = omega arith
call_most end (make parent name) true = omega arith
call_most end (put node type bytes allowance) true = omega (arith, padding_few end)
call_most end (close allowance) true = omega arith

pub end_least : (l : DataLayout) (cs : List Call) (answers : List (Answer ℕ)) → l.end + accepted_sizes cs answers ≤ (layout_after l cs answers).end
end_least l [] answers = omega arith
end_least l (c ∷ cs) [] = omega arith
end_least l (c ∷ cs) (a ∷ answers) = omega (arith, call_least l.end c (is_accepted a), end_least (call_layout l c (is_accepted a)) cs answers)

pub end_most : (l : DataLayout) (cs : List Call) (answers : List (Answer ℕ)) → (layout_after l cs answers).end ≤ l.end + accepted_sizes cs answers + 7 * accepted_puts cs answers
end_most l [] answers = omega arith
end_most l (c ∷ cs) [] = omega arith
end_most l (c ∷ cs) (a ∷ answers) = omega (arith, call_most l.end c (is_accepted a), end_most (call_layout l c (is_accepted a)) cs answers)

-- ---- The order of the calls.

pub most_swapped : (before : List Call) (c d : Call) (after : List Call) → most_added_by (before ++ (c ∷ d ∷ after)) ≡ most_added_by (before ++ (d ∷ c ∷ after))
most_swapped [] c d after = omega arith
most_swapped (b ∷ before) c d after = ap (λ (n : ℕ). most_added b + n) (most_swapped before c d after)

-- ---- Where a call can be refused by 21, and what an accepted one adds.

module _ (e : Edition) (size end : ℕ) (tree : Tree) where
  -- A child adds at most its entry and its name.
  child_most : (parent : ℕ) (name : List ℕ) → size_of end (with_child tree parent name) ≤ size_of end tree + most_added (make parent name)
  child_most parent name = rw (size_child end tree parent name) (go (is_in name (names_of tree)))
    where
      go : (b : Bool) → size_of end tree + 13 + cond b 0 (length name + 1) ≤ size_of end tree + (13 + length name + 1)
      go true = omega arith
      go false = omega arith

  -- Data of a Void node add at most 7 bytes besides their own and those of the entry.
  abbrev put_before : ℕ → ℕ → List ℕ → List Check
  put_before node type bytes =
      check (ltb (length tree) node) (refusal 15)
      ∷ check (eqb node 0 || not (is_void (tree_node tree node).kind)) (refusal 18)
      ∷ check (wrong_data (kind_of type) (length bytes)) (refusal 19)
      ∷ []

  data_most : (node type : ℕ) (bytes : List ℕ) (allowance : ℕ) → Clear (put_before node type bytes)
      → size_of (aligned end + length bytes) (with_data tree node (data_kind (kind_of type)) bytes) ≤ size_of end tree + most_added (put node type bytes allowance)
  data_most node type bytes allowance clear =
      let a = or_false (eqb node 0) (not (is_void (tree_node tree node).kind)) clear.1.0 in
      let f = eqb-false node 0 a.0 in
      rw (size_after tree node (data_kind (kind_of type)) bytes (omega (arith, f)) (ltb-false (length tree) node clear.0) (not-false (is_void (tree_node tree node).kind) a.1)
      (data_right (kind_of type) (length bytes) clear.1.1.0).0 end)
      (omega (arith, padding_few end))

  -- Where the most that the call can add fits the buffer, it is not refused by 21.
  call_fits : (c : Call) → size_of end tree + most_added c ≤ size → (t : RefusalCode) → call_answer e size end tree c ≡ refused t → t.number ≡ 21 → ⊥
  call_fits (make parent name) f t h n =
      let q = last_reported 21
      (check (ltb (length tree) parent) (refusal 15)
      ∷ check_grammar (subkey_from e 0 name)
      ∷ check (has_child tree parent name) (refusal 17)
      ∷ check (too_large (with_child tree parent name)) (refusal 20)
      ∷ [])
      refl (ltb size (size_of end (with_child tree parent name))) (refusal 21) (length tree + 1) h (eq-eqb t.number 21 n) in
      true≢false (sym q.1 ∙ le-ltb size (size_of end (with_child tree parent name)) (omega (arith, child_most parent name)))
  call_fits (put node type bytes allowance) f t h n =
      let after = size_of (aligned end + length bytes) (with_data tree node (data_kind (kind_of type)) bytes) in
      let q = check_reported 21 (put_before node type bytes) refl (ltb size after) (refusal 21) (check (ltb allowance (padding end + length bytes)) (refusal_at 23 allowance) ∷ []) refl
      (padding end + length bytes) h (eq-eqb t.number 21 n) in
      true≢false (sym q.1 ∙ le-ltb size after (omega (arith, data_most node type bytes allowance q.0)))
  call_fits (close allowance) f t h n =
      eqb-false t.number 21 (others_reported 21 (call_checks e size end tree (close allowance)) refl (call_value e size end tree (close allowance)) h) n

  -- An accepted call adds at most that.
  call_grows : (c : Call) {n : ℕ} → call_answer e size end tree c ≡ accepted n → size_of (call_end end c true) (apply_call tree c true) ≤ size_of end tree + most_added c
  call_grows (make parent name) h = child_most parent name
  call_grows (put node type bytes allowance) h =
      let clear = passed (call_checks e size end tree (put node type bytes allowance)) (padding end + length bytes) h in
      data_most node type bytes allowance (clear.0, (clear.1.0, (clear.1.1.0, tt)))
  call_grows (close allowance) h = omega arith

-- ---- The calls.

-- What is shown of each call: its answer is not 21, and the size afterwards is at most this.
call_after : (e : Edition) (size end : ℕ) (tree : Tree) (stopped : Bool) (c : Call) (a : Answer ℕ) → a ≡ cond stopped (refused (refusal 22)) (call_answer e size end tree c)
    → size_of (call_end end c (is_accepted a)) (apply_call tree c (is_accepted a)) ≤ size_of end tree + most_added c
call_after e size end tree stopped c (refused t) h = omega arith
call_after e size end tree true c (accepted n) h = not_both (sym h)
call_after e size end tree false c (accepted n) h = call_grows e size end tree c (sym h)

call_never : (e : Edition) (size end : ℕ) (tree : Tree) (stopped : Bool) (c : Call) (a : Answer ℕ) → a ≡ cond stopped (refused (refusal 22)) (call_answer e size end tree c)
    → size_of end tree + most_added c ≤ size → (t : RefusalCode) → a ≡ refused t → t.number ≡ 21 → ⊥
call_never e size end tree true c a h f t g n = let q : refusal 22 ≡ t = cc in let z : ◌≡◌ {A = ℕ} 22 21 = ap (λ (x : RefusalCode). x.number) q ∙ n in omega arith
call_never e size end tree false c a h f t g n = call_fits e size end tree c f t (sym h ∙ g) n

pub answers_fit : (cs : List Call) (s : State) (e : Edition) (size : ℕ) (stopped : Bool) (end : ℕ) (tree : Tree) → size_of end tree + most_added_by cs ≤ size
    → AnswersFromTree e size stopped end tree cs (answers_of s cs) → NoneBy 21 (answers_of s cs)
answers_fit [] s e size stopped end tree f h = tt
answers_fit (c ∷ cs) s e size stopped end tree f h =
    let a = (step s c).answer in (
      call_never e size end tree stopped c a h.0 (omega arith),
      answers_fit cs (after_call s c) e size (stopped || stops c a) (call_end end c (is_accepted a)) (apply_call tree c (is_accepted a))
          (omega (arith, call_after e size end tree stopped c a h.0)) h.1,
    )
