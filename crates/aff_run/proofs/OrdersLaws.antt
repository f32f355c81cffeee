-- A run with puts that follow each other: what it describes and answers, by the calls before them, the puts, and the calls after them (`parts`). Two such runs with the puts in two
-- orders: the layouts of their data. Assumes nothing.
use mathlib.Core.Path.{◌≡◌, refl, sym, ap, ap₂, ◌∙◌}
use mathlib.Core.Bool.{Bool, true, false, true≢false}
use mathlib.Core.List.{List, [], ◌∷◌, ◌++◌, map}
use Prim.Native.Nat.{ℕ, zero, suc, ◌+◌, ◌-◌, ◌<◌}
use native.Mathlib.Omega.{arith}
use lib.ListN.{length, get_or, set, take, drop, replicate, length-append, length-set}
use lib.Seq.{get_or-set_other, take-append_seam, drop-append_seam}
use borrow.Author.Tests.{ne_eqb, le-ltb}
use Rattle.aff_format.specs.Align.{aligned}
use Rattle.aff_format.specs.Answer.{Answer, accepted, refused}
use Rattle.aff_format.specs.Tree.{Tree}
use Rattle.aff_format.specs.declared.edition.Edition.{Edition}
use Rattle.aff_run.specs.BufferSize.{most_added_by, accepted_put}
use Rattle.aff_run.specs.CallsAlike.{without_allowance, accepted_of, AllAccepted, answers_but_stores}
use Rattle.aff_run.specs.Reordered.{PutData, put_with, puts_with, Reordered, Apart}
use Rattle.aff_run.specs.Run.{Call, make, put, close, State, after_call, answers_of, tree_after, DataLayout, call_end, call_layout, layout_after, closed_by}
use Rattle.aff_run.proofs.AnswersAlikeLaws.{number_by, count_by, numbers_by, ok_by, oks_by}
use Rattle.aff_run.proofs.CallsAlikeLaws.{layout_by, puts_by}
use Rattle.aff_run.proofs.StepLaws.{asleep_step, asleep_next}
use Rattle.aff_run.proofs.ReorderedLaws.{with_put, Fits, AllFit, all_after, apart_reordered, fit_reordered, put_all, tree_reordered, sum_of, length_reordered, end_all, next_reordered}

-- ---- Accepted answers.

pub length_answers : (s : State) (cs : List Call) → length (answers_of s cs) ≡ length cs
length_answers s [] = refl
length_answers s (c ∷ cs) = ap suc (length_answers (after_call s c) cs)

pub length_puts : (ds : List PutData) (allowance : ℕ → ℕ) → length (puts_with ds allowance) ≡ length ds
length_puts [] allowance = refl
length_puts (d ∷ ds) allowance = ap suc (length_puts ds (λ k. allowance (suc k)))

-- Two lists that are the same up to a seam and after it.
pub seam_take : {A : Type 0} (xs ys us vs : List A) → length xs ≡ length us → xs ++ ys ≡ us ++ vs → xs ≡ us
seam_take xs ys us vs n h = sym (take-append_seam xs ys) ∙ ap₂ (λ k l. take k l) n h ∙ take-append_seam us vs

pub seam_drop : {A : Type 0} (xs ys us vs : List A) → length xs ≡ length us → xs ++ ys ≡ us ++ vs → ys ≡ vs
seam_drop xs ys us vs n h = sym (drop-append_seam xs ys) ∙ ap₂ (λ k l. drop k l) n h ∙ drop-append_seam us vs

-- Answers are all accepted where others are that are accepted alike.
pub all_alike : (xs ys : List (Answer ℕ)) → accepted_of xs ≡ accepted_of ys → AllAccepted xs → AllAccepted ys
all_alike xs [] h all = tt
all_alike [] (y ∷ ys) h all = let n : ◌≡◌ {A = ℕ} 0 (suc (length (accepted_of ys))) = ap length h in absurd (omega arith)
all_alike (x ∷ xs) (y ∷ ys) h all = (
  sym (ap (λ (oks : List Bool). get_or oks 0 false) h) ∙ all.0,
  all_alike xs ys (ap (λ (oks : List Bool). drop 1 oks) h) all.1,
)

pub all_same : (xs ys : List (Answer ℕ)) → length xs ≡ length ys → AllAccepted xs → AllAccepted ys → accepted_of xs ≡ accepted_of ys
all_same [] [] n h i = refl
all_same [] (y ∷ ys) n h i = absurd (omega arith)
all_same (x ∷ xs) [] n h i = absurd (omega arith)
all_same (x ∷ xs) (y ∷ ys) n h i = ap₂ (λ (p : Bool) (r : List Bool). p ∷ r) (h.0 ∙ sym i.0) (all_same xs ys (omega arith) h.1 i.1)

-- A writer that is not live accepts none.
pub asleep_oks : (s : State) → s.writer.live ≡ false → (cs : List Call) → accepted_of (answers_of s cs) ≡ replicate (length cs) false
asleep_oks s h [] = refl
asleep_oks s h (c ∷ cs) = rw (asleep_next s h c, asleep_step s h c) (ap (λ (oks : List Bool). false ∷ oks) (asleep_oks s h cs))

-- ---- What accepted puts leave to the calls after them.

abbrev pub layout_all : DataLayout → List PutData → DataLayout
layout_all l [] = l
layout_all l (d ∷ ds) = layout_all (call_layout l (put_with d 0) true) ds

pub puts_tree : (ds : List PutData) (allowance : ℕ → ℕ) (answers more : List (Answer ℕ)) (later : List Call) (tree : Tree) → length answers ≡ length ds → AllAccepted answers
    → tree_after tree (puts_with ds allowance ++ later) (answers ++ more) ≡ tree_after (put_all tree ds) later more
puts_tree [] allowance [] more later tree n ok = refl
puts_tree [] allowance (a ∷ answers) more later tree n ok = absurd (omega arith)
puts_tree (d ∷ ds) allowance [] more later tree n ok = absurd (omega arith)
puts_tree (d ∷ ds) allowance (a ∷ answers) more later tree n ok =
    rw ok.0 (puts_tree ds (λ k. allowance (suc k)) answers more later _ (omega arith) ok.1)

pub puts_layout : (ds : List PutData) (allowance : ℕ → ℕ) (answers more : List (Answer ℕ)) (later : List Call) (l : DataLayout) → length answers ≡ length ds → AllAccepted answers
    → layout_after l (puts_with ds allowance ++ later) (answers ++ more) ≡ layout_after (layout_all l ds) later more
puts_layout [] allowance [] more later l n ok = refl
puts_layout [] allowance (a ∷ answers) more later l n ok = absurd (omega arith)
puts_layout (d ∷ ds) allowance [] more later l n ok = absurd (omega arith)
puts_layout (d ∷ ds) allowance (a ∷ answers) more later l n ok =
    rw ok.0 (puts_layout ds (λ k. allowance (suc k)) answers more later _ (omega arith) ok.1)

-- Puts close nothing, and but for their stores they answer the same.
pub puts_closed : (ds : List PutData) (allowance : ℕ → ℕ) (answers more : List (Answer ℕ)) (later : List Call) → length answers ≡ length ds
    → closed_by (puts_with ds allowance ++ later) (answers ++ more) ≡ closed_by later more
puts_closed [] allowance [] more later n = refl
puts_closed [] allowance (a ∷ answers) more later n = absurd (omega arith)
puts_closed (d ∷ ds) allowance [] more later n = absurd (omega arith)
puts_closed (d ∷ ds) allowance (accepted v ∷ answers) more later n = puts_closed ds (λ k. allowance (suc k)) answers more later (omega arith)
puts_closed (d ∷ ds) allowance (refused t ∷ answers) more later n = puts_closed ds (λ k. allowance (suc k)) answers more later (omega arith)

pub puts_but : (ds : List PutData) (allowance : ℕ → ℕ) (answers more : List (Answer ℕ)) (later : List Call) → length answers ≡ length ds → AllAccepted answers
    → answers_but_stores (puts_with ds allowance ++ later) (answers ++ more) ≡ replicate (length ds) (accepted 0) ++ answers_but_stores later more
puts_but [] allowance [] more later n ok = refl
puts_but [] allowance (a ∷ answers) more later n ok = absurd (omega arith)
puts_but (d ∷ ds) allowance [] more later n ok = absurd (omega arith)
puts_but (d ∷ ds) allowance (accepted v ∷ answers) more later n ok =
    ap (λ (xs : List (Answer ℕ)). accepted 0 ∷ xs) (puts_but ds (λ k. allowance (suc k)) answers more later (omega arith) ok.1)
puts_but (d ∷ ds) allowance (refused t ∷ answers) more later n ok = absurd (true≢false (sym ok.0))

-- The numbers of nodes do not depend on them at all.
pub puts_without : (ds : List PutData) (allowance : ℕ → ℕ) (later : List Call) → map without_allowance (puts_with ds allowance ++ later) ≡ puts_with ds (λ k. 0) ++ map without_allowance later
puts_without [] allowance later = refl
puts_without (d ∷ ds) allowance later = ap (λ (cs : List Call). put_with d 0 ∷ cs) (puts_without ds (λ k. allowance (suc k)) later)

puts_numbers : (ds : List PutData) (allowance : ℕ → ℕ) (k : ℕ) (later : List Call) (oks : List Bool) → numbers_by k (puts_with ds allowance ++ later) oks ≡ numbers_by k later (drop (length ds) oks)
puts_numbers [] allowance k later oks = refl
puts_numbers (d ∷ ds) allowance k [] [] = refl
puts_numbers (d ∷ ds) allowance k (c ∷ later) [] = refl
puts_numbers (d ∷ ds) allowance k later (true ∷ oks) = puts_numbers ds (λ i. allowance (suc i)) k later oks
puts_numbers (d ∷ ds) allowance k later (false ∷ oks) = puts_numbers ds (λ i. allowance (suc i)) k later oks

pub numbers_same : (before : List Call) (ds others : List PutData) (f g : ℕ → ℕ) (later : List Call) → length ds ≡ length others → (k : ℕ) (oks : List Bool)
    → numbers_by k (before ++ (puts_with ds f ++ later)) oks ≡ numbers_by k (before ++ (puts_with others g ++ later)) oks
numbers_same [] ds others f g later n k oks =
    puts_numbers ds f k later oks ∙ ap (λ (i : ℕ). numbers_by k later (drop i oks)) n ∙ sym (puts_numbers others g k later oks)
numbers_same (c ∷ before) ds others f g later n k [] = refl
numbers_same (c ∷ before) ds others f g later n k (ok ∷ oks) = ap (number_by k c ok) (numbers_same before ds others f g later n (count_by k c ok) oks)

-- The most that they add to a file is a sum.
pub puts_most : (ds : List PutData) (allowance : ℕ → ℕ) (later : List Call) → most_added_by (puts_with ds allowance ++ later) ≡ sum_of (λ d. 7 + length d.bytes + 12) ds + most_added_by later
puts_most [] allowance later = omega arith
puts_most (d ∷ ds) allowance later = omega (arith, puts_most ds (λ k. allowance (suc k)) later)

pub most_before : (before rest other : List Call) → most_added_by rest ≡ most_added_by other → most_added_by (before ++ rest) ≡ most_added_by (before ++ other)
most_before [] rest other h = h
most_before (c ∷ before) rest other h = omega (arith, most_before before rest other h)

-- ---- Two layouts of the same nodes.

pub end_all_lem : (l : DataLayout) (ds : List PutData) → (layout_all l ds).end ≡ end_all l.end ds
end_all_lem l [] = refl
end_all_lem l (d ∷ ds) = end_all_lem (call_layout l (put_with d 0) true) ds

length_all : (l : DataLayout) (ds : List PutData) → length (layout_all l ds).offsets ≡ length l.offsets
length_all l [] = refl
length_all l (d ∷ ds) = length_all (call_layout l (put_with d 0) true) ds ∙ length-set l.offsets (d.node - 1) _

-- Puts leave the places of other nodes.
offset_all : (tree : Tree) (l : DataLayout) (ds : List PutData) → AllFit tree ds → (n : ℕ) → 0 < n → Apart n ds → get_or (layout_all l ds).offsets (n - 1) 0 ≡ get_or l.offsets (n - 1) 0
offset_all tree l [] fit n lo apart = refl
offset_all tree l (d ∷ ds) fit n lo apart = offset_all tree (call_layout l (put_with d 0) true) ds fit.2 n lo apart.1 ∙ other d.node fit.0.above apart.0
  where
    other : (m : ℕ) → 0 < m → (n ≡ m → ⊥) → get_or (set l.offsets (m - 1) (aligned l.end)) (n - 1) 0 ≡ get_or l.offsets (n - 1) 0
    other m p f = get_or-set_other l.offsets (m - 1) (n - 1) (aligned l.end) 0 (λ e. f (omega (arith, e, lo, p)))

-- The next put begins at the same place in both, and so do the data of all nodes but some.
pub record Near (ds : List PutData) (l r : DataLayout) : Type 0 where
  pub next : aligned l.end ≡ aligned r.end
  pub count : length l.offsets ≡ length r.offsets
  pub places : (n : ℕ) → 0 < n → Apart n ds → get_or l.offsets (n - 1) 0 ≡ get_or r.offsets (n - 1) 0

pub near_reordered : (tree : Tree) (l : DataLayout) (ds others : List PutData) → Reordered ds others → AllFit tree ds → Near ds (layout_all l ds) (layout_all l others)
near_reordered tree l ds others r fit =
    record {
      next = ap aligned (end_all_lem l ds) ∙ next_reordered l.end ds others r ∙ ap aligned (sym (end_all_lem l others));
      count = length_all l ds ∙ sym (length_all l others);
      places = λ n lo apart. offset_all tree l ds fit n lo apart ∙ sym (offset_all tree l others (fit_reordered tree ds others r fit) n lo (apart_reordered n ds others r apart));
    }

-- A number more at the end of two lists, or the same number at one place of both, leaves the places where they agree.
snoc_agrees : (xs : List ℕ) (k : ℕ) → get_or (xs ++ (0 ∷ [])) k 0 ≡ get_or xs k 0
snoc_agrees [] zero = refl
snoc_agrees [] (suc k) = refl
snoc_agrees (x ∷ xs) zero = refl
snoc_agrees (x ∷ xs) (suc k) = snoc_agrees xs k

set_agrees : (xs ys : List ℕ) (i v k : ℕ) → length xs ≡ length ys → get_or xs k 0 ≡ get_or ys k 0 → get_or (set xs i v) k 0 ≡ get_or (set ys i v) k 0
set_agrees [] [] i v k n h = refl
set_agrees [] (y ∷ ys) i v k n h = absurd (omega arith)
set_agrees (x ∷ xs) [] i v k n h = absurd (omega arith)
set_agrees (x ∷ xs) (y ∷ ys) zero v zero n h = refl
set_agrees (x ∷ xs) (y ∷ ys) zero v (suc k) n h = h
set_agrees (x ∷ xs) (y ∷ ys) (suc i) v zero n h = h
set_agrees (x ∷ xs) (y ∷ ys) (suc i) v (suc k) n h = set_agrees xs ys i v k (omega arith) h

near_call : (ds : List PutData) (l r : DataLayout) (c : Call) (ok : Bool) → Near ds l r → Near ds (call_layout l c ok) (call_layout r c ok)
near_call ds l r c false near = near
near_call ds l r (make parent name) true near =
    record {
      next = near.next;
      count = length-append l.offsets (0 ∷ []) ∙ ap (λ (k : ℕ). k + 1) near.count ∙ sym (length-append r.offsets (0 ∷ []));
      places = λ n lo apart. snoc_agrees l.offsets (n - 1) ∙ near.places n lo apart ∙ sym (snoc_agrees r.offsets (n - 1));
    }
near_call ds l r (put node type bytes allowance) true near =
    record {
      next = ap (λ (k : ℕ). aligned (k + length bytes)) near.next;
      count = length-set l.offsets (node - 1) _ ∙ near.count ∙ sym (length-set r.offsets (node - 1) _);
      places = λ n lo apart.
          ap (λ (v : ℕ). get_or (set l.offsets (node - 1) v) (n - 1) 0) near.next
          ∙ set_agrees l.offsets r.offsets (node - 1) (aligned r.end) (n - 1) near.count (near.places n lo apart);
    }
near_call ds l r (close allowance) true near = near

pub near_later : (ds : List PutData) (cs : List Call) (oks : List Bool) (l r : DataLayout) → Near ds l r → Near ds (layout_by l cs oks) (layout_by r cs oks)
near_later ds [] oks l r near = near
near_later ds (c ∷ cs) [] l r near = near
near_later ds (c ∷ cs) (ok ∷ oks) l r near = near_later ds cs oks (call_layout l c ok) (call_layout r c ok) (near_call ds l r c ok near)

-- Ends that are the same stay so.
end_call : (l r : DataLayout) (c : Call) (ok : Bool) → l.end ≡ r.end → (call_layout l c ok).end ≡ (call_layout r c ok).end
end_call l r c ok h = ap (λ (k : ℕ). call_end k c ok) h

pub same_later : (cs : List Call) (oks : List Bool) (l r : DataLayout) → l.end ≡ r.end → (layout_by l cs oks).end ≡ (layout_by r cs oks).end
same_later [] oks l r h = h
same_later (c ∷ cs) [] l r h = h
same_later (c ∷ cs) (ok ∷ oks) l r h = same_later cs oks (call_layout l c ok) (call_layout r c ok) (end_call l r c ok h)

-- An accepted put makes them the same; calls with none leave them.
put_meets : (l r : DataLayout) (c : Call) (ok : Bool) → aligned l.end ≡ aligned r.end → 0 < accepted_put c ok → (call_layout l c ok).end ≡ (call_layout r c ok).end
put_meets l r c false h n = absurd (omega arith)
put_meets l r (make parent name) true h n = absurd (omega arith)
put_meets l r (put node type bytes allowance) true h n = ap (λ (k : ℕ). k + length bytes) h
put_meets l r (close allowance) true h n = absurd (omega arith)

no_put : (l : DataLayout) (c : Call) (ok : Bool) → accepted_put c ok ≡ 0 → (call_layout l c ok).end ≡ l.end
no_put l c false n = refl
no_put l (make parent name) true n = refl
no_put l (put node type bytes allowance) true n = absurd (omega arith)
no_put l (close allowance) true n = refl

pub ends_meet : (ds : List PutData) (cs : List Call) (oks : List Bool) (l r : DataLayout) → Near ds l r → 0 < puts_by cs oks → (layout_by l cs oks).end ≡ (layout_by r cs oks).end
ends_meet ds [] oks l r near n = absurd (omega arith)
ends_meet ds (c ∷ cs) [] l r near n = absurd (omega arith)
ends_meet ds (c ∷ cs) (ok ∷ oks) l r near n =
    go (accepted_put c ok) refl (λ m. ends_meet ds cs oks (call_layout l c ok) (call_layout r c ok) (near_call ds l r c ok near) m)
  where
    go : (k : ℕ) → accepted_put c ok ≡ k → (0 < puts_by cs oks → (layout_by l (c ∷ cs) (ok ∷ oks)).end ≡ (layout_by r (c ∷ cs) (ok ∷ oks)).end)
        → (layout_by l (c ∷ cs) (ok ∷ oks)).end ≡ (layout_by r (c ∷ cs) (ok ∷ oks)).end
    go zero e later = later (omega arith)
    go (suc k) e later = same_later cs oks (call_layout l c ok) (call_layout r c ok) (put_meets l r c ok near.next (omega arith))

pub ends_stay : (cs : List Call) (oks : List Bool) (l : DataLayout) → puts_by cs oks ≡ 0 → (layout_by l cs oks).end ≡ l.end
ends_stay [] oks l n = refl
ends_stay (c ∷ cs) [] l n = refl
ends_stay (c ∷ cs) (ok ∷ oks) l n = ends_stay cs oks (call_layout l c ok) (omega arith) ∙ no_put l c ok (omega arith)

-- ---- Which calls are accepted, where no answer is 21 and the allowances cover the padding.

-- A put that fits is accepted.
put_ok : (e : Edition) (tree : Tree) (d : PutData) (allowance : ℕ) → Fits tree d → ok_by e tree (put_with d allowance) ≡ true
put_ok e tree d allowance h =
    rw (
      le-ltb (length tree) d.node h.there,
      ne_eqb d.node 0 (λ z. absurd (omega (arith, h.above, z))),
      h.void,
      h.right,
    )

puts_ok : (e : Edition) (tree : Tree) (ds : List PutData) (allowance : ℕ → ℕ) (later : List Call) → AllFit tree ds
    → oks_by e false tree (puts_with ds allowance ++ later) ≡ replicate (length ds) true ++ oks_by e false (put_all tree ds) later
puts_ok e tree [] allowance later fit = refl
puts_ok e tree (d ∷ ds) allowance later fit =
    rw (put_ok e tree d (allowance 0) fit.0)
    (ap (λ (oks : List Bool). true ∷ oks) (puts_ok e (with_put tree d) ds (λ k. allowance (suc k)) later (all_after tree d ds fit.0.above fit.1 fit.2)))

puts_asleep : (e : Edition) (tree : Tree) (ds : List PutData) (allowance : ℕ → ℕ) (later : List Call)
    → oks_by e true tree (puts_with ds allowance ++ later) ≡ replicate (length ds) false ++ oks_by e true tree later
puts_asleep e tree [] allowance later = refl
puts_asleep e tree (d ∷ ds) allowance later = ap (λ (oks : List Bool). false ∷ oks) (puts_asleep e tree ds (λ k. allowance (suc k)) later)

-- So the other order accepts what the one accepts.
pub oks_reordered : (e : Edition) (stopped : Bool) (tree : Tree) (ds others : List PutData) (f g : ℕ → ℕ) (later : List Call) → Reordered ds others → AllFit tree ds
    → oks_by e stopped tree (puts_with ds f ++ later) ≡ oks_by e stopped tree (puts_with others g ++ later)
oks_reordered e false tree ds others f g later r fit =
    puts_ok e tree ds f later fit
    ∙ ap₂ (λ (n : ℕ) (t : Tree). replicate n true ++ oks_by e false t later) (length_reordered ds others r) (tree_reordered tree tree ds others r fit)
    ∙ sym (puts_ok e tree others g later (fit_reordered tree ds others r fit))
oks_reordered e true tree ds others f g later r fit =
    puts_asleep e tree ds f later
    ∙ ap (λ (n : ℕ). replicate n false ++ oks_by e true tree later) (length_reordered ds others r)
    ∙ sym (puts_asleep e tree others g later)
