-- Two puts may change places: request C-23. In two runs after one begin the same calls are made, but two puts to different nodes that follow each other have changed places. Where the
-- same calls of both runs are accepted, both puts and a close among them, both buffers show the same tree. The files may differ in their bytes, in the places of data, and in length.
-- The request's words, and the names that say them here:
--   a run as in demand 3                                a `Run` with any calls (`with_calls`)
--   two puts to different nodes that follow each other  `TwoPuts`: the calls with them are `one_order` and `other_order`
--   both accepted in both orders                        `PairAccepted` of one run, and `SameAccepted`
--   any later sequence of calls                         `later_one`, and the same but for its allowances in the other order, `later_other`
--   accepted in both runs up to close                   `SameAccepted`, and `run_closed` of one run
--   two files showing the same tree, node for node and  `SameTree`: both buffers show one tree, by the `Shows` of demand 3
--   data byte for data byte
-- After that the same of any number of puts in any order, what else agrees, when the other order is accepted at all, and what of a run the tree depends on.
use Rattle.std.specs.Prelude.{◌≡◌, refl, true, false, List, [], ◌∷◌, ◌++◌, map, ℕ, ◌+◌, ◌-◌, ◌%◌, ◌≤◌, ◌<◌, length, get_or, take, drop}
use Rattle.aff_format.specs.Align.{aligned}
use Rattle.aff_format.specs.Edition.{header_size, edition_by}
use Rattle.aff_format.specs.Tree.{Tree}
use Rattle.aff_read.specs.Shows.{Shows}
use Rattle.aff_run.specs.BufferSize.{most_added_by, accepted_puts}
use Rattle.aff_run.specs.CallsAlike.{without_allowance, accepted_of, AllAccepted, answers_but_stores, made_numbers, AmplePuts}
use Rattle.aff_run.specs.Reordered.{PutData, put_with, puts_with, Reordered, Apart, last_length, Eights, makes_of, puts_of, TreeFrom}
use Rattle.aff_run.specs.Run.{Call, put, close, Run, with_calls, run_answers, run_state, run_tree, run_layout, run_closed}
use Rattle.aff.specs.DataPlaces.{described_file}

-- ---- Two puts in both orders.

-- Two puts to different nodes that follow each other, with the calls before and after them. (That the nodes differ is asked as the request has it. Where both puts are accepted they do: a
-- second put to a node is 18.) With padding a put may need other stores in the other order, so its allowance may be another there, and those of the later calls too.
pub record TwoPuts : Type 0 where
  pub before : List Call
  pub left : PutData
  pub right : PutData
  pub nodes_differ : left.node ≡ right.node → ⊥
  -- In the one order: the allowances of the two puts, and the calls after them. In the other, the same calls but for their allowances.
  pub left_one : ℕ
  pub right_one : ℕ
  pub later_one : List Call
  pub left_other : ℕ
  pub right_other : ℕ
  pub later_other : List Call
  pub later_same : map without_allowance later_one ≡ map without_allowance later_other

abbrev pub one_order : TwoPuts → List Call
one_order p = p.before ++ (put_with p.left p.left_one ∷ put_with p.right p.right_one ∷ p.later_one)

abbrev pub other_order : TwoPuts → List Call
other_order p = p.before ++ (put_with p.right p.right_other ∷ put_with p.left p.left_other ∷ p.later_other)

-- The same calls of two runs are accepted.
abbrev pub SameAccepted : Run → Run → Type 0
SameAccepted one other = accepted_of (run_answers one) ≡ accepted_of (run_answers other)

-- The two calls of a run after its first k were accepted.
pub record PairAccepted (run : Run) (k : ℕ) : Type 0 where
  pub first : get_or (accepted_of (run_answers run)) k false ≡ true
  pub second : get_or (accepted_of (run_answers run)) (k + 1) false ≡ true

-- Both runs are closed and describe one tree. Both buffers, as the runs leave them, open with the form that begin was given and show it: `Shows` is that of demand 3, so name, path,
-- type, count and bytes of every node agree, and every other number is 15 in both.
pub record SameTree (one other : Run) : Type 0 where
  pub shown : Tree
  pub one_describes : run_tree one ≡ shown
  pub other_describes : run_tree other ≡ shown
  pub one_closed : run_closed one ≡ true
  pub other_closed : run_closed other ≡ true
  pub one_shows : Shows (run_state one).buffer one.form shown
  pub other_shows : Shows (run_state other).buffer other.form shown

abbrev pub PutOrder : Type 0
PutOrder = (run : Run) (p : TwoPuts)
    → let one = with_calls run (one_order p) in
    let other = with_calls run (other_order p) in
    SameAccepted one other → PairAccepted one (length p.before) → run_closed one ≡ true → SameTree one other

-- The request's own words: the same calls with the same allowances, a close the last of them, and from the two puts on all accepted in both runs.
abbrev pub PutOrderLiteral : Type 0
PutOrderLiteral = (run : Run) (before calls : List Call) (m n t u : ℕ) (b c : List ℕ) (j k closes : ℕ)
    → let later = calls ++ (close closes ∷ []) in
    let one = with_calls run (before ++ (put m t b j ∷ put n u c k ∷ later)) in
    let other = with_calls run (before ++ (put n u c k ∷ put m t b j ∷ later)) in
    (m ≡ n → ⊥) → AllAccepted (drop (length before) (run_answers one)) → AllAccepted (drop (length before) (run_answers other))
    → SameTree one other

-- ---- Any number of puts in any order.

-- Puts that follow each other, with the calls before and after them, in two orders. Allowances may differ.
pub record TwoOrders : Type 0 where
  pub before : List Call
  pub puts_one : List PutData
  pub puts_other : List PutData
  pub reordered : Reordered puts_one puts_other
  pub allowance_one : ℕ → ℕ
  pub later_one : List Call
  pub allowance_other : ℕ → ℕ
  pub later_other : List Call
  pub later_same : map without_allowance later_one ≡ map without_allowance later_other

-- The calls from the puts on, and all calls.
abbrev pub puts_on : List PutData → (ℕ → ℕ) → List Call → List Call
puts_on puts allowance later = puts_with puts allowance ++ later

abbrev pub run_one : Run → TwoOrders → Run
run_one run o = with_calls run (o.before ++ puts_on o.puts_one o.allowance_one o.later_one)

abbrev pub run_other : Run → TwoOrders → Run
run_other run o = with_calls run (o.before ++ puts_on o.puts_other o.allowance_other o.later_other)

-- Two puts are a case of it: with this the calls are `one_order` and `other_order`.
abbrev pub as_orders : TwoPuts → TwoOrders
as_orders p =
    record {
      before = p.before;
      puts_one = p.left ∷ p.right ∷ [];
      puts_other = p.right ∷ p.left ∷ [];
      reordered = (p.right ∷ [], [], refl, ([], [], refl, refl));
      allowance_one = λ k. get_or (p.left_one ∷ p.right_one ∷ []) k 0;
      later_one = p.later_one;
      allowance_other = λ k. get_or (p.right_other ∷ p.left_other ∷ []) k 0;
      later_other = p.later_other;
      later_same = p.later_same;
    }

-- The makes of both runs report the same node numbers, so a caller's numbers stay good. For this neither the puts nor a close need be accepted.
abbrev pub Numbers : Type 0
Numbers = (run : Run) (o : TwoOrders) → SameAccepted (run_one run o) (run_other run o)
    → made_numbers (run_one run o).calls (run_answers (run_one run o)) ≡ made_numbers (run_other run o).calls (run_answers (run_other run o))

-- The puts of a run were accepted. (So they are to different nodes, by 18.)
abbrev pub PutsAccepted : Run → TwoOrders → Type 0
PutsAccepted run o = AllAccepted (take (length o.puts_one) (drop (length o.before) (run_answers run)))

abbrev pub PutsReordered : Type 0
PutsReordered = (run : Run) (o : TwoOrders) → SameAccepted (run_one run o) (run_other run o) → PutsAccepted (run_one run o) o
    → run_closed (run_one run o) ≡ true → SameTree (run_one run o) (run_other run o)

-- All answers are then the same but for the stores that accepted puts report: the numbers of makes, the stores of closes, and every refusal with its place.
abbrev pub SameAnswers : Type 0
SameAnswers = (run : Run) (o : TwoOrders) → SameAccepted (run_one run o) (run_other run o) → PutsAccepted (run_one run o) o
    → run_closed (run_one run o) ≡ true
    → answers_but_stores (run_one run o).calls (run_answers (run_one run o)) ≡ answers_but_stores (run_other run o).calls (run_answers (run_other run o))

-- ---- Where the data are.

-- The last put of the one order and that of the other agree in length modulo 8. Of two puts these are the two.
abbrev pub LengthsAgree : TwoOrders → Type 0
LengthsAgree o = last_length o.puts_one % 8 ≡ last_length o.puts_other % 8

-- So do accepted puts of Doubles and Complex numbers, in any number.
abbrev pub EightsAgree : Type 0
EightsAgree = (run : Run) (o : TwoOrders) → PutsAccepted (run_one run o) o → Eights o.puts_one → LengthsAgree o

-- How many puts after them were accepted.
abbrev pub puts_after : Run → TwoOrders → ℕ
puts_after run o = accepted_puts o.later_one (drop (length o.puts_one) (drop (length o.before) (run_answers run)))

pub record PlacesInBoth (o : TwoOrders) (one other : Run) : Type 0 where
  -- Both describe one tree.
  pub tree_same : run_tree one ≡ run_tree other
  -- The next multiple of 8 after the data is the same in both. So the ends of data differ by at most 7, and the next put begins at the same place.
  pub next_same : aligned (run_layout one).end ≡ aligned (run_layout other).end
  pub one_near : (run_layout one).end ≤ (run_layout other).end + 7
  pub other_near : (run_layout other).end ≤ (run_layout one).end + 7
  -- The ends are the same exactly where these lengths agree modulo 8, or where a later put was accepted.
  pub by_lengths : LengthsAgree o → (run_layout one).end ≡ (run_layout other).end
  pub by_later : 0 < puts_after one o → (run_layout one).end ≡ (run_layout other).end
  pub only_so : puts_after one o ≡ 0 → (run_layout one).end ≡ (run_layout other).end → LengthsAgree o
  -- The data of all other nodes are at the same places.
  pub elsewhere : (n : ℕ) → 0 < n → Apart n o.puts_one → get_or (run_layout one).offsets (n - 1) 0 ≡ get_or (run_layout other).offsets (n - 1) 0

-- For this no close is asked.
abbrev pub OrderPlaces : Type 0
OrderPlaces = (run : Run) (o : TwoOrders) → SameAccepted (run_one run o) (run_other run o) → PutsAccepted (run_one run o) o
    → PlacesInBoth o (run_one run o) (run_other run o)

-- Where one is accepted, the files (`described_file` in DataPlaces.antt) differ in length by as much as the ends of data.
abbrev pub OrderSizes : Type 0
OrderSizes = (run : Run) (o : TwoOrders) → SameAccepted (run_one run o) (run_other run o) → PutsAccepted (run_one run o) o → run_closed (run_one run o) ≡ true
    → length (described_file (run_one run o)) + (run_layout (run_other run o)).end ≡ length (described_file (run_other run o)) + (run_layout (run_one run o)).end

-- ---- What one order accepts, the other accepts.

-- Where the puts are accepted in both orders, and these lengths agree modulo 8: every later answer is the same, accepted or not, for the same calls with the same allowances.
abbrev pub LaterAlike : Type 0
LaterAlike = (run : Run) (o : TwoOrders) → PutsAccepted (run_one run o) o → PutsAccepted (run_other run o) o → LengthsAgree o → o.later_one ≡ o.later_other
    → drop (length o.puts_one) (drop (length o.before) (run_answers (run_one run o))) ≡ drop (length o.puts_one) (drop (length o.before) (run_answers (run_other run o)))

-- Buffer and allowances that suffice for both orders: the buffer holds the header and the most that the calls add (`BufferSuffices` in DataPlaces.antt); each put from these on has, in both
-- orders, an allowance for its bytes and 7 more; the later calls are the same with the same allowances.
pub record Ample (run : Run) (o : TwoOrders) : Type 0 where
  pub buffer : header_size (edition_by run.edition) + most_added_by (run_one run o).calls ≤ length run.buffer
  pub allowances_one : AmplePuts (puts_on o.puts_one o.allowance_one o.later_one)
  pub allowances_other : AmplePuts (puts_on o.puts_other o.allowance_other o.later_other)
  pub later : o.later_one ≡ o.later_other

-- Where the puts are then accepted in the one order, the same calls are accepted in both. Nothing is assumed of the answers of the other.
abbrev pub AcceptedAlike : Type 0
AcceptedAlike = (run : Run) (o : TwoOrders) → Ample run o → PutsAccepted (run_one run o) o → SameAccepted (run_one run o) (run_other run o)

-- So the data may be delivered in any order: with such a buffer and such allowances the file of every other order opens and shows the same tree.
abbrev pub AnyOrder : Type 0
AnyOrder = (run : Run) (o : TwoOrders) → Ample run o → PutsAccepted (run_one run o) o → run_closed (run_one run o) ≡ true → SameTree (run_one run o) (run_other run o)

-- ---- Puts anywhere among the makes.

-- The tree that a run describes, node by node: node k has the parent and the name of accepted make k, and the type and the bytes of the accepted put to it; a node with no such put is Void.
abbrev pub TreeOfCalls : Type 0
TreeOfCalls = (run : Run) → TreeFrom (makes_of run.calls (run_answers run)) (puts_of run.calls (run_answers run)) (run_tree run)

-- So the tree that a file shows depends on the accepted makes in their order and on the accepted puts in any order. It depends on nothing else of a run: not on where the puts are among the
-- makes, nor on refused calls, edition, form, buffer, areas and allowances. Each file opens with its own form.
abbrev pub TreeByCalls : Type 0
TreeByCalls = (one other : Run) → run_closed one ≡ true → run_closed other ≡ true → makes_of one.calls (run_answers one) ≡ makes_of other.calls (run_answers other)
    → Reordered (puts_of one.calls (run_answers one)) (puts_of other.calls (run_answers other)) → SameTree one other

pub record PutOrders : Type 0 where
  pub put_order : PutOrder
  pub literal : PutOrderLiteral
  pub numbers : Numbers
  pub puts_reordered : PutsReordered
  pub same_answers : SameAnswers
  pub eights_agree : EightsAgree
  pub places : OrderPlaces
  pub sizes : OrderSizes
  pub later_alike : LaterAlike
  pub accepted_alike : AcceptedAlike
  pub any_order : AnyOrder
  pub tree_of_calls : TreeOfCalls
  pub tree_by_calls : TreeByCalls
