-- Puts in another order. Where puts that follow each other are accepted, each is to a node of its own that was Void before them (`puts-after`), so they may come in any order: the tree
-- after them is the same (`tree_reordered`), and the data end before the same multiple of 8 (`next_reordered`). By induction on the puts. Assumes nothing.
use mathlib.Core.Path.{◌≡◌, refl, sym, ap, ◌∙◌, subst}
use mathlib.Core.Bool.{Bool, true, false, cond, not, ◌||◌, true≢false}
use mathlib.Core.List.{List, [], ◌∷◌, ◌++◌}
use Prim.Native.Nat.{ℕ, zero, suc, ◌+◌, ◌-◌, ◌%◌, ◌≤◌, ◌<◌}
use native.Mathlib.Omega.{arith}
use lib.Dec.{eqb}
use lib.ListN.{length, get_or, set, length-set}
use lib.Seq.{set_comm, get_or-set_same, get_or-set_other}
use borrow.Author.Tests.{eqb-false, ltb-false, not-false}
use Rattle.aff_format.specs.Align.{padding, aligned}
use Rattle.aff_format.specs.Answer.{Answer, accepted, refused, refusal, Clear}
use Rattle.aff_format.specs.Kind.{kind_of, element_size, is_void}
use Rattle.aff_format.specs.Tree.{Node, Tree, root, tree_node}
use Rattle.aff_format.specs.declared.edition.Edition.{Edition}
use Rattle.aff_format.specs.declared.kind.Kind.{Kind}
use Rattle.aff_format.specs.declared.kind.Kind.TheVariants.{Void, Char, Int, Double, Complex}
use Rattle.aff_format.proofs.AlignLaws.{aligned_multiple, padding_shift, aligned_shift, padding_agrees, agrees_padding}
use Rattle.aff_format.proofs.AnswerLaws.{not_both, passed}
use Rattle.aff_format.proofs.TestLaws.{or_false}
use Rattle.aff_write.specs.Put.{wrong_data, data_kind}
use Rattle.aff_run.specs.TreeSizes.{with_data}
use Rattle.aff_run.specs.AnswersFromTree.{call_checks, call_value, call_answer, stops, AnswersFromTree}
use Rattle.aff_run.specs.CallsAlike.{AllAccepted}
use Rattle.aff_run.specs.Reordered.{PutData, put_with, puts_with, Reordered, Apart, last_length, Eights}
use Rattle.aff_run.specs.Run.{Call, is_accepted, apply_call, call_end}
use Rattle.aff_run.proofs.PutInvariantLaws.{data_right}

-- ---- A put and the other nodes.

abbrev pub with_put : Tree → PutData → Tree
with_put tree d = with_data tree d.node (data_kind (kind_of d.type)) d.bytes

pub node_other : (tree : Tree) (m n : ℕ) (x : Node) → 0 < m → (m ≡ n → ⊥) → tree_node (set tree (m - 1) x) n ≡ tree_node tree n
node_other tree m zero x lo f = refl
node_other tree m (suc k) x lo f = get_or-set_other tree (m - 1) k x root (λ e. f (omega (arith, e)))

pub node_set : (tree : Tree) (m : ℕ) (x : Node) → 0 < m → m ≤ length tree → tree_node (set tree (m - 1) x) m ≡ x
node_set tree zero x lo hi = absurd (omega arith)
node_set tree (suc k) x lo hi =
    let e : suc k - 1 ≡ k = omega arith in
    ap (λ (i : ℕ). get_or (set tree i x) k root) e ∙ get_or-set_same tree k x root (omega arith)

abbrev pub filled : Node → Kind → List ℕ → Node
filled t kind bytes = record { parent = t.parent; name = t.name; kind = kind; bytes = bytes }

-- Two puts to different nodes change places.
puts_swapped : (tree : Tree) (c d : PutData) → 0 < c.node → 0 < d.node → (c.node ≡ d.node → ⊥) → with_put (with_put tree c) d ≡ with_put (with_put tree d) c
puts_swapped tree c d p q f =
    let x = filled (tree_node tree c.node) (data_kind (kind_of c.type)) c.bytes in
    let y = filled (tree_node tree d.node) (data_kind (kind_of d.type)) d.bytes in
    let g : d.node ≡ c.node → ⊥ = λ e. f (sym e) in
    ap (λ (t : Node). set (set tree (c.node - 1) x) (d.node - 1) (filled t (data_kind (kind_of d.type)) d.bytes)) (node_other tree c.node d.node x p f)
    ∙ set_comm tree (c.node - 1) (d.node - 1) x y (λ e. f (omega arith))
    ∙ ap (λ (t : Node). set (set tree (d.node - 1) y) (c.node - 1) (filled t (data_kind (kind_of c.type)) c.bytes)) (sym (node_other tree d.node c.node y q g))

-- ---- Puts that a tree takes.

-- The node is there and Void, and the data are right.
pub record Fits (tree : Tree) (d : PutData) : Type 0 where
  pub above : 0 < d.node
  pub there : d.node ≤ length tree
  pub void : is_void (tree_node tree d.node).kind ≡ true
  pub right : wrong_data (kind_of d.type) (length d.bytes) ≡ false

-- Each is to a node of its own.
abbrev pub AllFit : Tree → List PutData → Type 0
AllFit tree [] = Unit {0}
AllFit tree (d ∷ ds) = Fits tree d × Apart d.node ds × AllFit tree ds

-- It is so in any tree that is at least as long and has the same node there.
pub fits_in : (tree other : Tree) (d : PutData) → length tree ≤ length other → tree_node other d.node ≡ tree_node tree d.node → Fits tree d → Fits other d
fits_in tree other d more same h =
    record { above = h.above; there = omega (arith, h.there, more); void = ap (λ (t : Node). is_void t.kind) same ∙ h.void; right = h.right }

-- So a put to one node leaves what is asked of the others, both ways.
module _ (tree : Tree) (c d : PutData) (lo : 0 < c.node) (f : c.node ≡ d.node → ⊥) where
  same_length : length (with_put tree c) ≡ length tree
  same_length = length-set tree (c.node - 1) _

  same_node : tree_node (with_put tree c) d.node ≡ tree_node tree d.node
  same_node = node_other tree c.node d.node _ lo f

  fits_after : Fits tree d → Fits (with_put tree c) d
  fits_after = fits_in tree (with_put tree c) d (omega (arith, same_length)) same_node

  fits_before : Fits (with_put tree c) d → Fits tree d
  fits_before = fits_in (with_put tree c) tree d (omega (arith, same_length)) (sym same_node)

pub all_after : (tree : Tree) (c : PutData) (ds : List PutData) → 0 < c.node → Apart c.node ds → AllFit tree ds → AllFit (with_put tree c) ds
all_after tree c [] lo apart h = tt
all_after tree c (d ∷ ds) lo apart h = (fits_after tree c d lo apart.0 h.0, h.1, all_after tree c ds lo apart.1 h.2)

pub all_before : (tree : Tree) (c : PutData) (ds : List PutData) → 0 < c.node → Apart c.node ds → AllFit (with_put tree c) ds → AllFit tree ds
all_before tree c [] lo apart h = tt
all_before tree c (d ∷ ds) lo apart h = (fits_before tree c d lo apart.0 h.0, h.1, all_before tree c ds lo apart.1 h.2)

-- A node with data takes none.
pub taken_apart : (tree : Tree) (n : ℕ) (ds : List PutData) → is_void (tree_node tree n).kind ≡ false → AllFit tree ds → Apart n ds
taken_apart tree n [] h fit = tt
taken_apart tree n (d ∷ ds) h fit = (
  λ e. true≢false (sym fit.0.void ∙ ap (λ (k : ℕ). is_void (tree_node tree k).kind) (sym e) ∙ h),
  taken_apart tree n ds h fit.2,
)

-- ---- Another order.

apart_insert : (n : ℕ) (c : PutData) (front back : List PutData) → (n ≡ c.node → ⊥) → Apart n (front ++ back) → Apart n (front ++ (c ∷ back))
apart_insert n c [] back f apart = (f, apart)
apart_insert n c (d ∷ front) back f apart = (apart.0, apart_insert n c front back f apart.1)

pub apart_reordered : (n : ℕ) (ds others : List PutData) → Reordered ds others → Apart n ds → Apart n others
apart_reordered n [] others r apart = rw r tt
apart_reordered n (d ∷ ds) others r apart =
    let (front, back, is, rest) = r in
    subst (Apart n) (sym is) (apart_insert n d front back apart.0 (apart_reordered n ds (front ++ back) rest apart.1))

fit_insert : (tree : Tree) (c : PutData) (front back : List PutData) → Fits tree c → Apart c.node (front ++ back) → AllFit tree (front ++ back) → AllFit tree (front ++ (c ∷ back))
fit_insert tree c [] back h apart fit = (h, apart, fit)
fit_insert tree c (d ∷ front) back h apart fit = (
  fit.0,
  apart_insert d.node c front back (λ e. apart.0 (sym e)) fit.1,
  fit_insert tree c front back h apart.1 fit.2,
)

pub fit_reordered : (tree : Tree) (ds others : List PutData) → Reordered ds others → AllFit tree ds → AllFit tree others
fit_reordered tree [] others r fit = rw r tt
fit_reordered tree (d ∷ ds) others r fit =
    let (front, back, is, rest) = r in
    subst (AllFit tree) (sym is)
    (fit_insert tree d front back fit.0 (apart_reordered d.node ds (front ++ back) rest fit.1) (fit_reordered tree ds (front ++ back) rest fit.2))

-- The tree after some puts.
abbrev pub put_all : Tree → List PutData → Tree
put_all tree [] = tree
put_all tree (d ∷ ds) = put_all (with_put tree d) ds

-- A put may come first. The tree that the puts fit is another than the one that they are made in.
first_put : (fit tree : Tree) (c : PutData) (front back : List PutData) → 0 < c.node → Apart c.node (front ++ back) → AllFit fit (front ++ back)
    → put_all tree (front ++ (c ∷ back)) ≡ put_all (with_put tree c) (front ++ back)
first_put fit tree c [] back lo apart h = refl
first_put fit tree c (d ∷ front) back lo apart h =
    first_put fit (with_put tree d) c front back lo apart.1 h.2
    ∙ ap (λ (t : Tree). put_all t (front ++ back)) (puts_swapped tree d c h.0.above lo (λ e. apart.0 (sym e)))

pub tree_reordered : (fit tree : Tree) (ds others : List PutData) → Reordered ds others → AllFit fit ds → put_all tree ds ≡ put_all tree others
tree_reordered fit tree [] others r h = ap (put_all tree) (sym r)
tree_reordered fit tree (d ∷ ds) others r h =
    let (front, back, is, rest) = r in
    tree_reordered fit (with_put tree d) ds (front ++ back) rest h.2
    ∙ sym (first_put fit tree d front back h.0.above (apart_reordered d.node ds (front ++ back) rest h.1) (fit_reordered fit ds (front ++ back) rest h.2))
    ∙ ap (put_all tree) (sym is)

-- ---- Sums over puts.

abbrev pub sum_of : (PutData → ℕ) → List PutData → ℕ
sum_of w [] = 0
sum_of w (d ∷ ds) = w d + sum_of w ds

sum_insert : (w : PutData → ℕ) (c : PutData) (front back : List PutData) → sum_of w (front ++ (c ∷ back)) ≡ w c + sum_of w (front ++ back)
sum_insert w c [] back = refl
sum_insert w c (d ∷ front) back = omega (arith, sum_insert w c front back)

pub sum_reordered : (w : PutData → ℕ) (ds others : List PutData) → Reordered ds others → sum_of w ds ≡ sum_of w others
sum_reordered w [] others r = ap (sum_of w) (sym r)
sum_reordered w (d ∷ ds) others r =
    let (front, back, is, rest) = r in
    ap (λ (n : ℕ). w d + n) (sum_reordered w ds (front ++ back) rest) ∙ sym (sum_insert w d front back) ∙ ap (sum_of w) (sym is)

count_sum : (ds : List PutData) → length ds ≡ sum_of (λ d. 1) ds
count_sum [] = refl
count_sum (d ∷ ds) = omega (arith, count_sum ds)

pub length_reordered : (ds others : List PutData) → Reordered ds others → length ds ≡ length others
length_reordered ds others r = count_sum ds ∙ sum_reordered (λ d. 1) ds others r ∙ sym (count_sum others)

-- ---- The end of data.

abbrev pub end_all : ℕ → List PutData → ℕ
end_all end [] = end
end_all end (d ∷ ds) = end_all (aligned end + length d.bytes) ds

-- The next multiple of 8 after the data is one more sum: each put adds its length up to a multiple of 8.
next_all : (end : ℕ) (ds : List PutData) → aligned (end_all end ds) ≡ aligned end + sum_of (λ d. aligned (length d.bytes)) ds
next_all end [] = omega arith
next_all end (d ∷ ds) =
    next_all (aligned end + length d.bytes) ds
    ∙ omega (arith, aligned_shift (aligned end) (length d.bytes) (aligned_multiple end))

pub next_reordered : (end : ℕ) (ds others : List PutData) → Reordered ds others → aligned (end_all end ds) ≡ aligned (end_all end others)
next_reordered end ds others r =
    next_all end ds ∙ ap (λ (n : ℕ). aligned end + n) (sum_reordered (λ d. aligned (length d.bytes)) ds others r) ∙ sym (next_all end others)

-- What is missing up to it is the padding after the last put.
padding_last : (end : ℕ) (d : PutData) (ds : List PutData) → padding (end_all end (d ∷ ds)) ≡ padding (last_length (d ∷ ds))
padding_last end d [] = padding_shift (aligned end) (length d.bytes) (aligned_multiple end)
padding_last end d (f ∷ ds) = padding_last (aligned end + length d.bytes) f ds

-- So the data end at the same place exactly where the lengths of the last puts agree modulo 8.
pub end_reordered : (end : ℕ) (ds others : List PutData) → Reordered ds others → last_length ds % 8 ≡ last_length others % 8 → end_all end ds ≡ end_all end others
end_reordered end [] others r h = ap (end_all end) (sym r)
end_reordered end (d ∷ ds) [] r h = absurd (omega (arith, length_reordered (d ∷ ds) [] r))
end_reordered end (d ∷ ds) (f ∷ others) r h =
    let p : padding (end_all end (d ∷ ds)) ≡ padding (end_all end (f ∷ others)) =
    padding_last end d ds ∙ padding_agrees (last_length (d ∷ ds)) (last_length (f ∷ others)) h ∙ sym (padding_last end f others) in
    omega (arith, p, next_reordered end (d ∷ ds) (f ∷ others) r)

pub lengths_agree : (end : ℕ) (ds others : List PutData) → Reordered ds others → end_all end ds ≡ end_all end others → last_length ds % 8 ≡ last_length others % 8
lengths_agree end [] others r h = ap (λ (l : List PutData). last_length l % 8) (sym r)
lengths_agree end (d ∷ ds) [] r h = absurd (omega (arith, length_reordered (d ∷ ds) [] r))
lengths_agree end (d ∷ ds) (f ∷ others) r h =
    agrees_padding (last_length (d ∷ ds)) (last_length (f ∷ others)) (sym (padding_last end d ds) ∙ ap padding h ∙ padding_last end f others)

-- ---- Puts that are accepted in a run.

-- An accepted put found nothing wrong.
pub put_fits : (e : Edition) (size end : ℕ) (tree : Tree) (d : PutData) (allowance : ℕ) → Clear (call_checks e size end tree (put_with d allowance)) → Fits tree d
put_fits e size end tree d allowance clear =
    let o = or_false (eqb d.node 0) (not (is_void (tree_node tree d.node).kind)) clear.1.0 in
    let z = eqb-false d.node 0 o.0 in
    record {
      above = omega (arith, z);
      there = ltb-false (length tree) d.node clear.0;
      void = not-false (is_void (tree_node tree d.node).kind) o.1;
      right = clear.1.1.0;
    }

-- Its node then has data.
pub now_taken : (tree : Tree) (d : PutData) → Fits tree d → is_void (tree_node (with_put tree d) d.node).kind ≡ false
now_taken tree d h =
    ap (λ (t : Node). is_void t.kind) (node_set tree d.node (filled (tree_node tree d.node) (data_kind (kind_of d.type)) d.bytes) h.above h.there)
    ∙ (data_right (kind_of d.type) (length d.bytes) h.right).0

-- What accepted puts and the calls after them are answered by, and that the puts fit.
pub record PutsMade (e : Edition) (size : ℕ) (stopped : Bool) (end : ℕ) (tree : Tree) (ds : List PutData) (later : List Call) (more : List (Answer ℕ)) : Type 0 where
  pub fit : AllFit tree ds
  pub rest : AnswersFromTree e size stopped (end_all end ds) (put_all tree ds) later more

one_made : (e : Edition) (size : ℕ) (stopped : Bool) (end : ℕ) (tree : Tree) (d : PutData) (allowance : ℕ) (ds : List PutData) (later : List Call) (a : Answer ℕ) (more : List (Answer ℕ))
    → a ≡ cond stopped (refused (refusal 22)) (call_answer e size end tree (put_with d allowance)) → is_accepted a ≡ true
    → PutsMade e size (stopped || stops (put_with d allowance) a) (call_end end (put_with d allowance) (is_accepted a)) (apply_call tree (put_with d allowance) (is_accepted a)) ds later more
    → PutsMade e size stopped end tree (d ∷ ds) later more
one_made e size stopped end tree d allowance ds later (refused t) more h ok made = absurd (true≢false (sym ok))
one_made e size true end tree d allowance ds later (accepted n) more h ok made = not_both (sym h)
one_made e size false end tree d allowance ds later (accepted n) more h ok made =
    let one = put_fits e size end tree d allowance (passed (call_checks e size end tree (put_with d allowance)) (call_value e size end tree (put_with d allowance)) (sym h)) in
    let apart = taken_apart (with_put tree d) d.node ds (now_taken tree d one) made.fit in
    record { fit = (one, apart, all_before tree d ds one.above apart made.fit); rest = made.rest }

pub puts_made : (ds : List PutData) (allowance : ℕ → ℕ) (later : List Call) (answers more : List (Answer ℕ)) → length answers ≡ length ds → AllAccepted answers
    → (e : Edition) (size : ℕ) (stopped : Bool) (end : ℕ) (tree : Tree) → AnswersFromTree e size stopped end tree (puts_with ds allowance ++ later) (answers ++ more)
    → PutsMade e size stopped end tree ds later more
puts_made [] allowance later [] more n ok e size stopped end tree h = record { fit = tt; rest = h }
puts_made [] allowance later (a ∷ answers) more n ok e size stopped end tree h = absurd (omega arith)
puts_made (d ∷ ds) allowance later [] more n ok e size stopped end tree h = absurd (omega arith)
puts_made (d ∷ ds) allowance later (a ∷ answers) more n ok e size stopped end tree h =
    one_made e size stopped end tree d (allowance 0) ds later a more h.0 ok.0
    (puts_made ds (λ k. allowance (suc k)) later answers more (omega arith) ok.1 e size (stopped || stops (put_with d (allowance 0)) a)
    (call_end end (put_with d (allowance 0)) (is_accepted a)) (apply_call tree (put_with d (allowance 0)) (is_accepted a)) h.1)

-- ---- Doubles and Complex numbers.

eight_size : (k : Kind) (n : ℕ) → 8 ≤ element_size k → n % element_size k ≡ 0 → n % 8 ≡ 0
eight_size Void n e h = absurd (omega arith)
eight_size Char n e h = absurd (omega arith)
eight_size Int n e h = absurd (omega arith)
eight_size Double n e h = h
eight_size Complex n e h = omega arith

-- The last put has whole elements, so its length is a multiple of 8.
eights_last : (tree : Tree) (ds : List PutData) → AllFit tree ds → Eights ds → last_length ds % 8 ≡ 0
eights_last tree [] fit eights = refl
eights_last tree (d ∷ []) fit eights =
    eight_size (data_kind (kind_of d.type)) (length d.bytes) eights.0 (data_right (kind_of d.type) (length d.bytes) fit.0.right).1
eights_last tree (d ∷ f ∷ ds) fit eights = eights_last tree (f ∷ ds) fit.2 eights.1

eights_insert : (c : PutData) (front back : List PutData) → 8 ≤ element_size (data_kind (kind_of c.type)) → Eights (front ++ back) → Eights (front ++ (c ∷ back))
eights_insert c [] back e h = (e, h)
eights_insert c (d ∷ front) back e h = (h.0, eights_insert c front back e h.1)

eights_reordered : (ds others : List PutData) → Reordered ds others → Eights ds → Eights others
eights_reordered [] others r h = rw r tt
eights_reordered (d ∷ ds) others r h =
    let (front, back, is, rest) = r in
    subst Eights (sym is) (eights_insert d front back h.0 (eights_reordered ds (front ++ back) rest h.1))

pub eights_agree : (tree : Tree) (ds others : List PutData) → Reordered ds others → AllFit tree ds → Eights ds → last_length ds % 8 ≡ last_length others % 8
eights_agree tree ds others r fit h =
    eights_last tree ds fit h ∙ sym (eights_last tree others (fit_reordered tree ds others r fit) (eights_reordered ds others r h))
