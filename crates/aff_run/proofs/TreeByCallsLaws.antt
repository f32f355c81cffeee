-- The tree that calls describe is that of the accepted makes, in their order, with the data of the accepted puts: a put may be moved after the makes that follow it. So it is known node by node
-- (`tree_from`). By induction on the calls, from the answers by the tree. Assumes nothing.
use mathlib.Core.Path.{◌≡◌, refl, sym, ap, ◌∙◌, subst}
use mathlib.Core.Bool.{Bool, true, false, cond, ◌||◌, true≢false}
use mathlib.Core.List.{List, [], ◌∷◌, ◌++◌}
use Prim.Native.Nat.{ℕ, zero, suc, ◌+◌, ◌-◌, ◌≤◌}
use native.Mathlib.Omega.{arith}
use lib.Dec.{eqb}
use lib.ListN.{length, get_or, set, length-append, length-set}
use lib.Seq.{set-append_left}
use borrow.Author.Tests.{eqb-true, eqb-false}
use Rattle.aff_format.specs.Answer.{Answer, accepted, refused, refusal}
use Rattle.aff_format.specs.Kind.{kind_code, kind_of}
use Rattle.aff_format.specs.Tree.{Node, Tree, root, tree_node}
use Rattle.aff_format.specs.declared.edition.Edition.{Edition}
use Rattle.std.specs.Prelude.{Option, Some, None}
use Rattle.aff_format.specs.declared.kind.Kind.{Kind}
use Rattle.aff_format.specs.declared.kind.Kind.TheVariants.{Void}
use Rattle.aff_format.proofs.AnswerLaws.{not_both, passed}
use Rattle.aff_format.proofs.KindLaws.{code_of_kind}
use Rattle.aff_write.specs.Put.{wrong_data, data_kind}
use Rattle.aff_run.specs.TreeSizes.{with_child}
use Rattle.aff_run.specs.AnswersFromTree.{call_checks, call_value, call_answer, stops, AnswersFromTree}
use Rattle.aff_run.specs.Reordered.{PutData, put_with, Reordered, Apart, MakeData, makes_of, puts_of, NodesMade, NodesPut, TreeFrom}
use Rattle.aff_run.specs.Run.{Call, make, put, close, State, answers_of, is_accepted, apply_call, tree_after, call_end}
use Rattle.aff_run.proofs.MakeInvariantLaws.{node_old, node_new}
use Rattle.aff_run.proofs.ReorderedLaws.{with_put, node_other, node_set, filled, Fits, AllFit, fits_in, all_after, all_before, taken_apart, put_all, put_fits, now_taken, tree_reordered}
use Rattle.aff_run.proofs.StepLaws.{asleep_step, asleep_next}

-- ---- A put and later makes.

abbrev child : MakeData → Node
child m = record { parent = m.parent; name = m.name; kind = Void; bytes = [] }

-- The tree with some nodes more.
abbrev pub make_all : Tree → List MakeData → Tree
make_all tree [] = tree
make_all tree (m ∷ ms) = make_all (with_child tree m.parent m.name) ms

fits_child : (tree : Tree) (d : PutData) (m : MakeData) → Fits tree d → Fits (with_child tree m.parent m.name) d
fits_child tree d m h =
    fits_in tree (with_child tree m.parent m.name) d (omega (arith, length-append tree (child m ∷ []))) (node_old tree (child m) d.node h.there) h

put_child : (tree : Tree) (d : PutData) (m : MakeData) → Fits tree d → with_put (with_child tree m.parent m.name) d ≡ with_child (with_put tree d) m.parent m.name
put_child tree d m h =
    ap (λ (t : Node). set (tree ++ (child m ∷ [])) (d.node - 1) (filled t (data_kind (kind_of d.type)) d.bytes)) (node_old tree (child m) d.node h.there)
    ∙ set-append_left tree (child m ∷ []) (d.node - 1) _ (omega (arith, h.above, h.there))

fits_makes : (tree : Tree) (d : PutData) (ms : List MakeData) → Fits tree d → Fits (make_all tree ms) d
fits_makes tree d [] h = h
fits_makes tree d (m ∷ ms) h = fits_makes (with_child tree m.parent m.name) d ms (fits_child tree d m h)

put_makes : (tree : Tree) (d : PutData) (ms : List MakeData) → Fits tree d → with_put (make_all tree ms) d ≡ make_all (with_put tree d) ms
put_makes tree d [] h = refl
put_makes tree d (m ∷ ms) h =
    put_makes (with_child tree m.parent m.name) d ms (fits_child tree d m h) ∙ ap (λ (t : Tree). make_all t ms) (put_child tree d m h)

-- ---- Calls.

-- First the accepted makes, then the accepted puts, each to a node of its own.
pub record MakesFirst (tree : Tree) (cs : List Call) (answers : List (Answer ℕ)) : Type 0 where
  pub fit : AllFit (make_all tree (makes_of cs answers)) (puts_of cs answers)
  pub is : tree_after tree cs answers ≡ put_all (make_all tree (makes_of cs answers)) (puts_of cs answers)

-- A put before calls of which this holds.
put_first : (tree : Tree) (d : PutData) (allowance : ℕ) (cs : List Call) (n : ℕ) (answers : List (Answer ℕ)) → Fits tree d → MakesFirst (with_put tree d) cs answers
    → MakesFirst tree (put_with d allowance ∷ cs) (accepted n ∷ answers)
put_first tree d allowance cs n answers one rest =
    let ms = makes_of cs answers in
    let ds = puts_of cs answers in
    let made = make_all tree ms in
    let moved = sym (put_makes tree d ms one) in
    let here = fits_makes tree d ms one in
    let after = subst (λ (t : Tree). AllFit t ds) moved rest.fit in
    let apart = taken_apart (with_put made d) d.node ds (now_taken made d here) after in
    record { fit = (here, apart, all_before made d ds here.above apart after); is = rest.is ∙ ap (λ (t : Tree). put_all t ds) moved }

call_first : (e : Edition) (size : ℕ) (stopped : Bool) (end : ℕ) (tree : Tree) (c : Call) (cs : List Call) (a : Answer ℕ) (answers : List (Answer ℕ))
    → a ≡ cond stopped (refused (refusal 22)) (call_answer e size end tree c) → MakesFirst (apply_call tree c (is_accepted a)) cs answers → MakesFirst tree (c ∷ cs) (a ∷ answers)
call_first e size stopped end tree c cs (refused t) answers h rest = record { fit = rest.fit; is = rest.is }
call_first e size true end tree c cs (accepted n) answers h rest = not_both (sym h)
call_first e size false end tree (make parent name) cs (accepted n) answers h rest = record { fit = rest.fit; is = rest.is }
call_first e size false end tree (put node type bytes allowance) cs (accepted n) answers h rest =
    let d : PutData = record { node = node; type = type; bytes = bytes } in
    put_first tree d allowance cs n answers
    (put_fits e size end tree d allowance (passed (call_checks e size end tree (put_with d allowance)) (call_value e size end tree (put_with d allowance)) (sym h))) rest
call_first e size false end tree (close allowance) cs (accepted n) answers h rest = record { fit = rest.fit; is = rest.is }

pub makes_first : (cs : List Call) (answers : List (Answer ℕ)) (e : Edition) (size : ℕ) (stopped : Bool) (end : ℕ) (tree : Tree) → AnswersFromTree e size stopped end tree cs answers
    → MakesFirst tree cs answers
makes_first [] answers e size stopped end tree h = record { fit = tt; is = refl }
makes_first (c ∷ cs) [] e size stopped end tree h = absurd h
makes_first (c ∷ cs) (a ∷ answers) e size stopped end tree h =
    call_first e size stopped end tree c cs a answers h.0
    (makes_first cs answers e size (stopped || stops c a) (call_end end c (is_accepted a)) (apply_call tree c (is_accepted a)) h.1)

-- The same makes in the same order, and the same puts in any order, describe one tree.
pub tree_by_calls : (cs others : List Call) (answers answers' : List (Answer ℕ)) → MakesFirst [] cs answers → MakesFirst [] others answers' → makes_of cs answers ≡ makes_of others answers'
    → Reordered (puts_of cs answers) (puts_of others answers') → tree_after [] cs answers ≡ tree_after [] others answers'
tree_by_calls cs others answers answers' one other same r =
    one.is
    ∙ tree_reordered (make_all [] (makes_of cs answers)) (make_all [] (makes_of cs answers)) (puts_of cs answers) (puts_of others answers') r one.fit
    ∙ ap (λ (ms : List MakeData). put_all (make_all [] ms) (puts_of others answers')) same
    ∙ sym other.is

-- A writer that is not live accepts none.
pub asleep_first : (s : State) → s.writer.live ≡ false → (tree : Tree) (cs : List Call) → MakesFirst tree cs (answers_of s cs)
asleep_first s h tree [] = record { fit = tt; is = refl }
asleep_first s h tree (c ∷ cs) =
    rw (asleep_next s h c, asleep_step s h c)
    (let rest = asleep_first s h tree cs in record { fit = rest.fit; is = rest.is })

-- ---- Node by node.

-- Makes leave the nodes before them; the next one is the new node's.
node_makes : (tree : Tree) (ms : List MakeData) (k : ℕ) → k ≤ length tree → tree_node (make_all tree ms) k ≡ tree_node tree k
node_makes tree [] k hi = refl
node_makes tree (m ∷ ms) k hi =
    node_makes (with_child tree m.parent m.name) ms k (omega (arith, length-append tree (child m ∷ []))) ∙ node_old tree (child m) k hi

length_makes : (tree : Tree) (ms : List MakeData) → length (make_all tree ms) ≡ length tree + length ms
length_makes tree [] = omega arith
length_makes tree (m ∷ ms) = length_makes (with_child tree m.parent m.name) ms ∙ omega (arith, length-append tree (child m ∷ []))

made_nodes : (tree : Tree) (ms : List MakeData) (k : ℕ) → k ≡ suc (length tree) → NodesMade (make_all tree ms) k ms
made_nodes tree [] k e = tt
made_nodes tree (m ∷ ms) k e =
    let more = with_child tree m.parent m.name in
    let n : length more ≡ length tree + 1 = length-append tree (child m ∷ []) in
    let here : tree_node (make_all more ms) k ≡ child m =
    node_makes more ms k (omega (arith, n, e)) ∙ ap (tree_node more) e ∙ node_new tree (child m) in
    (ap (λ (t : Node). t.parent) here, ap (λ (t : Node). t.name) here, made_nodes more ms (suc k) (omega (arith, n, e)))

-- Made nodes are Void.
abbrev AllVoid : Tree → Type 0
AllVoid tree = (n : ℕ) → ((tree_node tree n).kind ≡ Void) × ((tree_node tree n).bytes ≡ [])

snoc_void : (tree : Tree) (t : Node) → t.kind ≡ Void → t.bytes ≡ [] → ((k : ℕ) → ((get_or tree k root).kind ≡ Void) × ((get_or tree k root).bytes ≡ []))
    → (k : ℕ) → ((get_or (tree ++ (t ∷ [])) k root).kind ≡ Void) × ((get_or (tree ++ (t ∷ [])) k root).bytes ≡ [])
snoc_void [] t v b h zero = (v, b)
snoc_void [] t v b h (suc k) = h k
snoc_void (x ∷ tree) t v b h zero = h zero
snoc_void (x ∷ tree) t v b h (suc k) = snoc_void tree t v b (λ i. h (suc i)) k

void_makes : (tree : Tree) (ms : List MakeData) → AllVoid tree → AllVoid (make_all tree ms)
void_makes tree [] h = h
void_makes tree (m ∷ ms) h = void_makes (with_child tree m.parent m.name) ms (λ n. snoc_void (root ∷ tree) (child m) refl refl h n)

-- Puts leave parents and names, and the nodes that they are not to.
abbrev SameSite : Node → Node → Type 0
SameSite t u = (t.parent ≡ u.parent) × (t.name ≡ u.name)

site_put : (tree : Tree) (d : PutData) → Fits tree d → (k : ℕ) → SameSite (tree_node (with_put tree d) k) (tree_node tree k)
site_put tree d h k = go (eqb d.node k) refl
  where
    go : (b : Bool) → eqb d.node k ≡ b → SameSite (tree_node (with_put tree d) k) (tree_node tree k)
    go true e =
        let q = eqb-true d.node k e in
        let new = filled (tree_node tree d.node) (data_kind (kind_of d.type)) d.bytes in
        let at : tree_node (with_put tree d) k ≡ new = ap (tree_node (with_put tree d)) (sym q) ∙ node_set tree d.node new h.above h.there in
        (ap (λ (t : Node). t.parent) at ∙ ap (λ (i : ℕ). (tree_node tree i).parent) q, ap (λ (t : Node). t.name) at ∙ ap (λ (i : ℕ). (tree_node tree i).name) q)
    go false e =
        let at = node_other tree d.node k (filled (tree_node tree d.node) (data_kind (kind_of d.type)) d.bytes) h.above (eqb-false d.node k e) in
        (ap (λ (t : Node). t.parent) at, ap (λ (t : Node). t.name) at)

sites_put : (tree : Tree) (ds : List PutData) → AllFit tree ds → (k : ℕ) → SameSite (tree_node (put_all tree ds) k) (tree_node tree k)
sites_put tree [] fit k = (refl, refl)
sites_put tree (d ∷ ds) fit k =
    let rest = sites_put (with_put tree d) ds (all_after tree d ds fit.0.above fit.1 fit.2) k in
    let one = site_put tree d fit.0 k in
    (rest.0 ∙ one.0, rest.1 ∙ one.1)

made_kept : (tree after : Tree) (ms : List MakeData) (k : ℕ) → ((i : ℕ) → SameSite (tree_node after i) (tree_node tree i)) → NodesMade tree k ms → NodesMade after k ms
made_kept tree after [] k same h = tt
made_kept tree after (m ∷ ms) k same h = ((same k).0 ∙ h.0, (same k).1 ∙ h.1, made_kept tree after ms (suc k) same h.2)

length_put_all : (tree : Tree) (ds : List PutData) → length (put_all tree ds) ≡ length tree
length_put_all tree [] = refl
length_put_all tree (d ∷ ds) = length_put_all (with_put tree d) ds ∙ length-set tree (d.node - 1) _

node_apart : (fit tree : Tree) (ds : List PutData) (n : ℕ) → AllFit fit ds → Apart n ds → tree_node (put_all tree ds) n ≡ tree_node tree n
node_apart fit tree [] n h apart = refl
node_apart fit tree (d ∷ ds) n h apart = node_apart fit (with_put tree d) ds n h.2 apart.1 ∙ node_other tree d.node n _ h.0.above (λ e. apart.0 (sym e))

-- A type that holds data is that of its kind.
type_shown : (type n : ℕ) → wrong_data (kind_of type) n ≡ false → kind_code (data_kind (kind_of type)) ≡ type
type_shown type n h = go (kind_of type) refl
  where
    go : (f : Option Kind) → kind_of type ≡ f → kind_code (data_kind (kind_of type)) ≡ type
    go (Some k) e = ap (λ (f : Option Kind). kind_code (data_kind f)) e ∙ code_of_kind type k e
    go None e = absurd (true≢false (ap (λ (f : Option Kind). wrong_data f n) (sym e) ∙ h))

put_nodes : (tree : Tree) (ds : List PutData) → AllFit tree ds → NodesPut (put_all tree ds) ds
put_nodes tree [] fit = tt
put_nodes tree (d ∷ ds) fit =
    let new = filled (tree_node tree d.node) (data_kind (kind_of d.type)) d.bytes in
    let at : tree_node (put_all (with_put tree d) ds) d.node ≡ new =
    node_apart tree (with_put tree d) ds d.node fit.2 fit.1 ∙ node_set tree d.node new fit.0.above fit.0.there in (
      ap (λ (t : Node). kind_code t.kind) at ∙ type_shown d.type (length d.bytes) fit.0.right,
      ap (λ (t : Node). t.bytes) at,
      put_nodes (with_put tree d) ds (all_after tree d ds fit.0.above fit.1 fit.2),
    )

pub tree_from : (cs : List Call) (answers : List (Answer ℕ)) → MakesFirst [] cs answers → TreeFrom (makes_of cs answers) (puts_of cs answers) (tree_after [] cs answers)
tree_from cs answers h =
    let ms = makes_of cs answers in
    let ds = puts_of cs answers in
    let made = make_all [] ms in
    subst (TreeFrom ms ds) (sym h.is)
    (record {
      count = length_put_all made ds ∙ length_makes [] ms ∙ omega arith;
      made = made_kept made (put_all made ds) ms 1 (sites_put made ds h.fit) (made_nodes [] ms 1 refl);
      filled = put_nodes made ds h.fit;
      void = λ n apart.
          let same = node_apart made made ds n h.fit apart in
          let none = void_makes [] ms no_nodes n in
          (ap (λ (t : Node). t.kind) same ∙ none.0, ap (λ (t : Node). t.bytes) same ∙ none.1);
    })
  where
    no_nodes : AllVoid []
    no_nodes zero = (refl, refl)
    no_nodes (suc k) = (refl, refl)
