-- Puts in two orders. A run is taken apart into the calls before the puts, the puts, and the calls after them (`parts`); the two runs share the first part. What the calls describe, and
-- what they answer but for the stores of puts, depends on which are accepted (`aff_run`, CallsAlikeLaws and AnswersAlikeLaws) and on the tree after the puts, which is the same in every
-- order (ReorderedLaws). The rest is demand 3, twice. Assumes nothing.
use mathlib.Core.Path.{◌≡◌, refl, sym, ap, ap₂, ◌∙◌, subst}
use mathlib.Core.Bool.{Bool, true, false, ◌&&◌, ◌||◌, or-true, true≢false}
use mathlib.Core.List.{List, [], ◌∷◌, ◌++◌, map}
use Prim.Native.Nat.{ℕ, zero, suc, ◌+◌, ◌-◌}
use native.Mathlib.Omega.{arith}
use lib.Dec.{eqb}
use lib.ListN.{length, get_or, take, drop, replicate, length-append, length-map}
use lib.Seq.{take-append_seam, drop-append_seam}
use Rattle.aff_format.specs.Align.{aligned}
use Rattle.aff_format.specs.Answer.{Answer, accepted, refused}
use Rattle.aff_format.specs.Edition.{header_size, edition_by}
use Rattle.aff_format.specs.Tree.{Tree}
use Rattle.aff_format.proofs.AlignLaws.{next_near}
use Rattle.aff_read.specs.Shows.{Shows}
use Rattle.aff_run.specs.AnswersFromTree.{AnswersFromTree, AllWrongRecord}
use Rattle.aff_run.specs.BufferSize.{most_added_by, NoneBy, accepted_puts}
use Rattle.aff_run.specs.CallsAlike.{without_allowance, accepted_of, AllAccepted, answers_but_stores, made_numbers, AmplePuts}
use Rattle.aff_run.specs.Reordered.{PutData, put_with, puts_with}
use Rattle.aff_run.specs.Run.{Call, make, put, close, State, Step, step, after_call, answers_of, state_after, is_accepted, tree_after, DataLayout, no_data, layout_after, is_close, closed_by, Run, with_calls, run_begin, run_start, run_answers, run_stores, run_state, run_tree, run_layout, run_closed}
use Rattle.aff_run.specs.TreeSizes.{size_of}
use Rattle.aff_run.proofs.AnswersAlikeLaws.{answers_by, answers_by_lem, numbers_by, numbers_by_lem, oks_by, oks_by_lem}
use Rattle.aff_run.proofs.AnswersFromTreeLaws.{run_from_tree, run_spent, run_refused, expected, answers_expected}
use Rattle.aff_run.proofs.BeginRefusedLaws.{asleep, none_closed}
use Rattle.aff_run.proofs.CallsAlikeLaws.{tree_by, layout_by, closes_by, puts_by, tree_by_lem, layout_by_lem, closed_by_lem, puts_by_lem, answers_split, accepted_split, tree_split, layout_split, closed_split, but_split, none_split, stopped_after, from_tree_split, none_closed_yet}
use Rattle.aff_run.proofs.OrdersLaws.{length_answers, length_puts, seam_take, seam_drop, all_alike, all_same, asleep_oks, layout_all, puts_tree, puts_layout, puts_closed, puts_but, puts_without, numbers_same, puts_most, most_before, end_all_lem, Near, near_reordered, near_later, same_later, ends_meet, ends_stay, oks_reordered}
use Rattle.aff_run.proofs.ReorderedLaws.{AllFit, put_all, tree_reordered, sum_reordered, length_reordered, end_all, end_reordered, lengths_agree, PutsMade, puts_made, eights_agree}
use Rattle.aff_run.proofs.StepLaws.{asleep_step, asleep_after}
use Rattle.aff_run.proofs.TreeByCallsLaws.{MakesFirst, makes_first, asleep_first, tree_from, tree_by_calls}
use Rattle.aff.specs.PutOrder.{TwoPuts, one_order, SameAccepted, PairAccepted, SameTree, PutOrder, PutOrderLiteral, TwoOrders, puts_on, run_one, run_other, as_orders, Numbers, PutsAccepted, PutsReordered, SameAnswers, LengthsAgree, EightsAgree, puts_after, PlacesInBoth, OrderPlaces, OrderSizes, LaterAlike, Ample, AcceptedAlike, AnyOrder, TreeOfCalls, TreeByCalls, PutOrders}
use Rattle.aff.proofs.DataPlacesLaws.{buffer_suffices, data_places}
use Rattle.aff.proofs.Demand3Laws.{demand3}

-- ---- One run with puts that follow each other.

-- The calls before the puts, the puts with their allowances, and the calls after them.
record Parts : Type 0 where
  before : List Call
  ds : List PutData
  allowance : ℕ → ℕ
  later : List Call

abbrev parts_of : List Call → List PutData → (ℕ → ℕ) → List Call → Parts
parts_of before ds allowance later = record { before = before; ds = ds; allowance = allowance; later = later }

-- Those of the two orders.
abbrev one_parts : TwoOrders → Parts
one_parts o = parts_of o.before o.puts_one o.allowance_one o.later_one

abbrev other_parts : TwoOrders → Parts
other_parts o = parts_of o.before o.puts_other o.allowance_other o.later_other

module _ (run : Run) (b : Parts) where
  abbrev it : Run
  it = with_calls run (b.before ++ (puts_with b.ds b.allowance ++ b.later))

  -- What each part is given, and what it answers.
  abbrev given : State
  given = state_after (run_start run) b.before

  abbrev first : List (Answer ℕ)
  first = answers_of (run_start run) b.before

  abbrev puts : List (Answer ℕ)
  puts = answers_of given (puts_with b.ds b.allowance)

  abbrev last : List (Answer ℕ)
  last = answers_of (state_after given (puts_with b.ds b.allowance)) b.later

  parts : run_answers it ≡ first ++ (puts ++ last)
  parts = answers_split b.before (run_start run) (puts_with b.ds b.allowance ++ b.later) ∙ ap (λ (xs : List (Answer ℕ)). first ++ xs) (answers_split (puts_with b.ds b.allowance) given b.later)

  length_first : length first ≡ length b.before
  length_first = length_answers (run_start run) b.before

  count_puts : length puts ≡ length b.ds
  count_puts = length_answers given (puts_with b.ds b.allowance) ∙ length_puts b.ds b.allowance

  from_puts : drop (length b.before) (run_answers it) ≡ puts ++ last
  from_puts = ap₂ (λ (k : ℕ) (xs : List (Answer ℕ)). drop k xs) (sym length_first) parts ∙ drop-append_seam first (puts ++ last)

  puts_part : (n : ℕ) → n ≡ length b.ds → take n (drop (length b.before) (run_answers it)) ≡ puts
  puts_part n e = ap₂ (λ (k : ℕ) (xs : List (Answer ℕ)). take k xs) (e ∙ sym count_puts) from_puts ∙ take-append_seam puts last

  last_part : (n : ℕ) → n ≡ length b.ds → drop n (drop (length b.before) (run_answers it)) ≡ last
  last_part n e = ap₂ (λ (k : ℕ) (xs : List (Answer ℕ)). drop k xs) (e ∙ sym count_puts) from_puts ∙ drop-append_seam puts last

  -- Tree and layout before the puts; whether the writer is closed or stopped there.
  abbrev tree_before : Tree
  tree_before = tree_after [] b.before first

  abbrev layout_before : DataLayout
  layout_before = layout_after (no_data (header_size (edition_by run.edition))) b.before first

  abbrev stopped_before : Bool
  stopped_before = stopped_after false b.before first

  closed_is : run_closed it ≡ (closed_by b.before first || closed_by b.later last)
  closed_is =
      ap (closed_by it.calls) parts
      ∙ closed_split b.before (run_start run) (puts_with b.ds b.allowance ++ b.later) (puts ++ last)
      ∙ ap (λ (z : Bool). closed_by b.before first || z) (puts_closed b.ds b.allowance puts last b.later count_puts)

  module _ (ok : AllAccepted puts) where
    tree_is : run_tree it ≡ tree_after (put_all tree_before b.ds) b.later last
    tree_is =
        ap (tree_after [] it.calls) parts
        ∙ tree_split b.before (run_start run) [] (puts_with b.ds b.allowance ++ b.later) (puts ++ last)
        ∙ puts_tree b.ds b.allowance puts last b.later tree_before count_puts ok

    layout_is : run_layout it ≡ layout_after (layout_all layout_before b.ds) b.later last
    layout_is =
        let none = no_data (header_size (edition_by run.edition)) in
        ap (layout_after none it.calls) parts
        ∙ layout_split b.before (run_start run) none (puts_with b.ds b.allowance ++ b.later) (puts ++ last)
        ∙ puts_layout b.ds b.allowance puts last b.later layout_before count_puts ok

    but_is : answers_but_stores it.calls (run_answers it) ≡ answers_but_stores b.before first ++ (replicate (length b.ds) (accepted 0) ++ answers_but_stores b.later last)
    but_is =
        ap (answers_but_stores it.calls) parts
        ∙ but_split b.before (run_start run) (puts_with b.ds b.allowance ++ b.later) (puts ++ last)
        ∙ ap (λ (xs : List (Answer ℕ)). answers_but_stores b.before first ++ xs) (puts_but b.ds b.allowance puts last b.later count_puts ok)

  -- ---- After an accepted begin.

  module _ {n : ℕ} (h : (run_begin run).answer ≡ accepted n) where
    from_here : AnswersFromTree (edition_by run.edition) (length run.buffer) stopped_before layout_before.end tree_before (puts_with b.ds b.allowance ++ b.later) (puts ++ last)
    from_here =
        from_tree_split b.before (run_start run) (edition_by run.edition) (length run.buffer) false (no_data (header_size (edition_by run.edition))) []
        (puts_with b.ds b.allowance ++ b.later) (puts ++ last)
        (subst (AnswersFromTree (edition_by run.edition) (length run.buffer) false (header_size (edition_by run.edition)) [] it.calls) parts (run_from_tree it h))

    made : AllAccepted puts → PutsMade (edition_by run.edition) (length run.buffer) stopped_before layout_before.end tree_before b.ds b.later last
    made ok = puts_made b.ds b.allowance b.later puts last count_puts ok (edition_by run.edition) (length run.buffer) stopped_before layout_before.end tree_before from_here

    -- Where a close is accepted: the answers after the puts but for the stores of puts.
    last_but : AllAccepted puts → run_closed it ≡ true
        → answers_but_stores b.later last ≡ answers_by (edition_by run.edition) stopped_before (put_all tree_before b.ds) (map without_allowance b.later) (accepted_of last)
    last_but ok c =
        answers_by_lem b.later last (edition_by run.edition) (length run.buffer) stopped_before (end_all layout_before.end b.ds) (put_all tree_before b.ds) (made ok).rest
        (λ s. rw (none_closed_yet b.before first false s) at (sym closed_is ∙ c))

    -- Where no answer is 21 and the allowances cover the padding: which are accepted.
    oks_are : NoneBy 21 (puts ++ last) → AmplePuts (puts_with b.ds b.allowance ++ b.later)
        → accepted_of (puts ++ last) ≡ oks_by (edition_by run.edition) stopped_before tree_before (puts_with b.ds b.allowance ++ b.later)
    oks_are none ample =
        let count : length (puts ++ last) ≡ length (puts_with b.ds b.allowance ++ b.later) =
        length-append puts last
        ∙ ap₂ (λ (x y : ℕ). x + y) (length_answers given (puts_with b.ds b.allowance)) (length_answers (state_after given (puts_with b.ds b.allowance)) b.later)
        ∙ sym (length-append (puts_with b.ds b.allowance) b.later) in
        oks_by_lem (puts_with b.ds b.allowance ++ b.later) (puts ++ last) count (edition_by run.edition) (length run.buffer) stopped_before layout_before.end tree_before from_here none ample

-- ---- The puts fit the tree before them, whatever begin answers.

none_accepted : (s : State) → s.writer.live ≡ false → (c : Call) (cs : List Call) → AllAccepted (answers_of s (c ∷ cs)) → ⊥
none_accepted s h c cs ok = true≢false (sym ok.0 ∙ ap (λ (t : Step). is_accepted t.answer) (asleep_step s h c))

fit_by : (a : Answer ℕ) (run : Run) (before : List Call) (ds : List PutData) (allowance : ℕ → ℕ) (later : List Call) → (run_begin run).answer ≡ a
    → AllAccepted (puts run (parts_of before ds allowance later)) → AllFit (tree_before run (parts_of before ds allowance later)) ds
fit_by a run before [] allowance later h ok = tt
fit_by (accepted n) run before (d ∷ ds) allowance later h ok = (made run (parts_of before (d ∷ ds) allowance later) h ok).fit
fit_by (refused t) run before (d ∷ ds) allowance later h ok =
    absurd
    (none_accepted (run_start run) (asleep run t h) (put_with d (allowance 0)) (puts_with ds (λ k. allowance (suc k))) (rw (asleep_after (run_start run) (asleep run t h) before) at ok))

-- Demand 3 of all stores: the buffer that a closed run leaves shows the tree described.
all_shown : (run : Run) → run_closed run ≡ true → Shows (run_state run).buffer run.form (run_tree run)
all_shown run c =
    let k = demand3 run (length (run_stores run)) (omega arith) in
    subst (λ (buffer : List ℕ). Shows buffer run.form (run_tree run)) (k.all_left refl) (k.all_made refl c)

-- Of two closed runs that describe one tree.
both_show : (one other : Run) → run_tree one ≡ run_tree other → run_closed one ≡ true → run_closed other ≡ true → SameTree one other
both_show one other same c d =
    record {
      shown = run_tree one;
      one_describes = refl;
      other_describes = sym same;
      one_closed = c;
      other_closed = d;
      one_shows = all_shown one c;
      other_shows = subst (Shows (run_state other).buffer other.form) (sym same) (all_shown other d);
    }

-- ---- Two runs with the puts in two orders.

module _ (run : Run) (o : TwoOrders) where
  abbrev one : Run
  one = run_one run o

  abbrev other : Run
  other = run_other run o

  abbrev puts_of_one : List (Answer ℕ)
  puts_of_one = puts run (one_parts o)

  abbrev puts_of_other : List (Answer ℕ)
  puts_of_other = puts run (other_parts o)

  abbrev last_one : List (Answer ℕ)
  last_one = last run (one_parts o)

  abbrev last_other : List (Answer ℕ)
  last_other = last run (other_parts o)

  -- What both share.
  abbrev shared : List (Answer ℕ)
  shared = first run (one_parts o)

  abbrev shared_tree : Tree
  shared_tree = tree_before run (one_parts o)

  abbrev shared_layout : DataLayout
  shared_layout = layout_before run (one_parts o)

  parts_one : run_answers one ≡ shared ++ (puts_of_one ++ last_one)
  parts_one = parts run (one_parts o)

  parts_other : run_answers other ≡ shared ++ (puts_of_other ++ last_other)
  parts_other = parts run (other_parts o)

  same_count : length o.puts_one ≡ length o.puts_other
  same_count = length_reordered o.puts_one o.puts_other o.reordered

  same_puts : length puts_of_one ≡ length puts_of_other
  same_puts =
      count_puts run (one_parts o)
      ∙ same_count
      ∙ sym (count_puts run (other_parts o))

  -- The puts of a run were accepted.
  puts_one : PutsAccepted one o → AllAccepted puts_of_one
  puts_one = subst AllAccepted (puts_part run (one_parts o) (length o.puts_one) refl)

  puts_other : PutsAccepted other o → AllAccepted puts_of_other
  puts_other = subst AllAccepted (puts_part run (other_parts o) (length o.puts_one) same_count)

  fit : AllAccepted puts_of_one → AllFit shared_tree o.puts_one
  fit = fit_by (run_begin run).answer run o.before o.puts_one o.allowance_one o.later_one refl

  same_tree : AllAccepted puts_of_one → put_all shared_tree o.puts_one ≡ put_all shared_tree o.puts_other
  same_tree ok = tree_reordered shared_tree shared_tree o.puts_one o.puts_other o.reordered (fit ok)

  -- ---- The same calls are accepted.

  module _ (alike : SameAccepted one other) (ok : AllAccepted puts_of_one) where
    -- Part by part.
    alike_after : accepted_of puts_of_one ++ accepted_of last_one ≡ accepted_of puts_of_other ++ accepted_of last_other
    alike_after =
        let split : (xs ys : List (Answer ℕ)) → accepted_of (shared ++ (xs ++ ys)) ≡ accepted_of shared ++ (accepted_of xs ++ accepted_of ys) =
        λ xs ys. accepted_split shared (xs ++ ys) ∙ ap (λ (oks : List Bool). accepted_of shared ++ oks) (accepted_split xs ys) in
        seam_drop (accepted_of shared) (accepted_of puts_of_one ++ accepted_of last_one) (accepted_of shared) (accepted_of puts_of_other ++ accepted_of last_other) refl
        (sym (split puts_of_one last_one) ∙ ap accepted_of (sym parts_one) ∙ alike ∙ ap accepted_of parts_other ∙ split puts_of_other last_other)

    same_oks : length (accepted_of puts_of_one) ≡ length (accepted_of puts_of_other)
    same_oks = length-map puts_of_one is_accepted ∙ same_puts ∙ sym (length-map puts_of_other is_accepted)

    alike_last : accepted_of last_one ≡ accepted_of last_other
    alike_last = seam_drop (accepted_of puts_of_one) (accepted_of last_one) (accepted_of puts_of_other) (accepted_of last_other) same_oks alike_after

    ok_other : AllAccepted puts_of_other
    ok_other = all_alike puts_of_one puts_of_other (seam_take (accepted_of puts_of_one) (accepted_of last_one) (accepted_of puts_of_other) (accepted_of last_other) same_oks alike_after) ok

    describe_same : run_tree one ≡ run_tree other
    describe_same =
        tree_is run (one_parts o) ok
        ∙ tree_by_lem (put_all shared_tree o.puts_one) o.later_one last_one
        ∙ (λ i. tree_by (same_tree ok i) (o.later_same i) (alike_last i))
        ∙ sym (tree_by_lem (put_all shared_tree o.puts_other) o.later_other last_other)
        ∙ sym (tree_is run (other_parts o) ok_other)

    closed_same : run_closed one ≡ run_closed other
    closed_same =
        closed_is run (one_parts o)
        ∙ ap (λ (b : Bool). closed_by o.before shared || b)
        (closed_by_lem o.later_one last_one ∙ (λ i. closes_by (o.later_same i) (alike_last i)) ∙ sym (closed_by_lem o.later_other last_other))
        ∙ sym (closed_is run (other_parts o))

    -- ---- A close is accepted.

    -- Demand 3 of all stores, twice.
    one_tree : run_closed one ≡ true → SameTree one other
    one_tree c = both_show one other describe_same c (sym closed_same ∙ c)

    one_answers : run_closed one ≡ true → {n : ℕ} → (run_begin run).answer ≡ accepted n
        → answers_but_stores one.calls (run_answers one) ≡ answers_but_stores other.calls (run_answers other)
    one_answers c h =
        let e = edition_by run.edition in
        let asleep = stopped_before run (one_parts o) in
        let same : answers_but_stores o.later_one last_one ≡ answers_but_stores o.later_other last_other =
        last_but run (one_parts o) h ok c
        ∙ (λ i. answers_by e asleep (same_tree ok i) (o.later_same i) (alike_last i))
        ∙ sym (last_but run (other_parts o) h ok_other (sym closed_same ∙ c)) in
        but_is run (one_parts o) ok
        ∙ (λ i. answers_but_stores o.before shared ++ (replicate (same_count i) (accepted 0) ++ same i))
        ∙ sym (but_is run (other_parts o) ok_other)

    -- ---- Where the data are.

    abbrev one_layout : DataLayout
    one_layout = layout_all shared_layout o.puts_one

    abbrev other_layout : DataLayout
    other_layout = layout_all shared_layout o.puts_other

    -- The layouts of both runs go on from these in the same way.
    abbrev going : DataLayout → DataLayout
    going l = layout_by l (map without_allowance o.later_one) (accepted_of last_one)

    layout_one : run_layout one ≡ going one_layout
    layout_one = layout_is run (one_parts o) ok ∙ layout_by_lem one_layout o.later_one last_one

    layout_other : run_layout other ≡ going other_layout
    layout_other =
        layout_is run (other_parts o) ok_other
        ∙ layout_by_lem other_layout o.later_other last_other
        ∙ sym (λ i. layout_by other_layout (o.later_same i) (alike_last i))

    near : Near o.puts_one one_layout other_layout
    near = near_reordered shared_tree shared_layout o.puts_one o.puts_other o.reordered (fit ok)

    puts_later : puts_after one o ≡ puts_by (map without_allowance o.later_one) (accepted_of last_one)
    puts_later =
        ap (accepted_puts o.later_one) (last_part run (one_parts o) (length o.puts_one) refl)
        ∙ puts_by_lem o.later_one last_one

    -- What holds of the ends in `going` holds of those of the runs.
    ends_from : (going one_layout).end ≡ (going other_layout).end → (run_layout one).end ≡ (run_layout other).end
    ends_from h = ap (λ (l : DataLayout). l.end) layout_one ∙ h ∙ sym (ap (λ (l : DataLayout). l.end) layout_other)

    ends_to : (run_layout one).end ≡ (run_layout other).end → (going one_layout).end ≡ (going other_layout).end
    ends_to h = sym (ap (λ (l : DataLayout). l.end) layout_one) ∙ h ∙ ap (λ (l : DataLayout). l.end) layout_other

    placed : PlacesInBoth o one other
    placed =
        let cs = map without_allowance o.later_one in
        let oks = accepted_of last_one in
        let after = near_later o.puts_one cs oks one_layout other_layout near in
        let next : aligned (run_layout one).end ≡ aligned (run_layout other).end =
        ap (λ (l : DataLayout). aligned l.end) layout_one ∙ after.next ∙ sym (ap (λ (l : DataLayout). aligned l.end) layout_other) in
        record {
          tree_same = describe_same;
          next_same = next;
          one_near = next_near (run_layout one).end (run_layout other).end next;
          other_near = next_near (run_layout other).end (run_layout one).end (sym next);
          by_lengths = λ h.
              ends_from
              (same_later cs oks one_layout other_layout
              (end_all_lem shared_layout o.puts_one ∙ end_reordered shared_layout.end o.puts_one o.puts_other o.reordered h ∙ sym (end_all_lem shared_layout o.puts_other)));
          by_later = λ n. ends_from (ends_meet o.puts_one cs oks one_layout other_layout near (omega (arith, n, puts_later)));
          only_so = λ n h.
              let none : puts_by cs oks ≡ 0 = sym puts_later ∙ n in
              lengths_agree shared_layout.end o.puts_one o.puts_other o.reordered
              (sym (end_all_lem shared_layout o.puts_one)
              ∙ sym (ends_stay cs oks one_layout none)
              ∙ ends_to h
              ∙ ends_stay cs oks other_layout none
              ∙ end_all_lem shared_layout o.puts_other);
          elsewhere = λ n lo apart.
              ap (λ (l : DataLayout). get_or l.offsets (n - 1) 0) layout_one
              ∙ after.places n lo apart
              ∙ sym (ap (λ (l : DataLayout). get_or l.offsets (n - 1) 0) layout_other);
        }

  -- ---- The lengths agree.

  last_by : (a : Answer ℕ) → (run_begin run).answer ≡ a → AllAccepted puts_of_one → AllAccepted puts_of_other → LengthsAgree o → o.later_one ≡ o.later_other → last_one ≡ last_other
  last_by (accepted n) h ok taken_other agree same =
      let e = edition_by run.edition in
      let size = length run.buffer in
      let asleep = stopped_before run (one_parts o) in
      let count : (s : State) (cs : List Call) → length (answers_of s cs) ≡ length cs = length_answers in
      answers_expected o.later_one e size asleep (end_all shared_layout.end o.puts_one) (put_all shared_tree o.puts_one) last_one (count _ o.later_one)
      (made run (one_parts o) h ok).rest
      ∙ (λ i. expected e size asleep (end_reordered shared_layout.end o.puts_one o.puts_other o.reordered agree i) (same_tree ok i) (same i))
      ∙ sym
      (answers_expected o.later_other e size asleep (end_all shared_layout.end o.puts_other) (put_all shared_tree o.puts_other) last_other (count _ o.later_other)
      (made run (other_parts o) h taken_other).rest)
  last_by (refused t) h ok _ agree same =
      let z = asleep run t h in
      let still : (cs : List Call) → state_after (state_after (run_start run) o.before) cs ≡ run_start run =
      λ cs. ap (λ (s : State). state_after s cs) (asleep_after (run_start run) z o.before) ∙ asleep_after (run_start run) z cs in
      ap (λ (s : State). answers_of s o.later_one) (still (puts_with o.puts_one o.allowance_one))
      ∙ ap (answers_of (run_start run)) same
      ∙ sym (ap (λ (s : State). answers_of s o.later_other) (still (puts_with o.puts_other o.allowance_other)))

  -- ---- The buffer and the allowances suffice.

  -- After a refused begin nothing is accepted.
  length_calls : o.later_one ≡ o.later_other → length one.calls ≡ length other.calls
  length_calls same =
      let count : (ds : List PutData) (f : ℕ → ℕ) (later : List Call) → length (o.before ++ (puts_with ds f ++ later)) ≡ length o.before + (length ds + length later) =
      λ ds f later. length-append o.before (puts_with ds f ++ later) ∙ ap (λ (n : ℕ). length o.before + n) (length-append (puts_with ds f) later ∙ ap (λ (n : ℕ). n + length later) (length_puts ds f)) in
      count o.puts_one o.allowance_one o.later_one
      ∙ (λ i. length o.before + (same_count i + length (same i)))
      ∙ sym (count o.puts_other o.allowance_other o.later_other)

  -- The most that the calls add is the same.
  most_same : o.later_one ≡ o.later_other → most_added_by one.calls ≡ most_added_by other.calls
  most_same same =
      most_before o.before (puts_on o.puts_one o.allowance_one o.later_one) (puts_on o.puts_other o.allowance_other o.later_other)
      (puts_most o.puts_one o.allowance_one o.later_one
      ∙ (λ i. sum_reordered (λ d. 7 + length d.bytes + 12) o.puts_one o.puts_other o.reordered i + most_added_by (same i))
      ∙ sym (puts_most o.puts_other o.allowance_other o.later_other))

  module _ (ample : Ample run o) where
    -- No answer of either run is 21.
    none_one : NoneBy 21 (puts_of_one ++ last_one)
    none_one = none_split o.before (run_start run) 21 (puts_of_one ++ last_one) (subst (NoneBy 21) parts_one (buffer_suffices one ample.buffer).1)

    none_other : NoneBy 21 (puts_of_other ++ last_other)
    none_other =
        none_split o.before (run_start run) 21 (puts_of_other ++ last_other)
        (subst (NoneBy 21) parts_other (buffer_suffices other (omega (arith, ample.buffer, most_same ample.later))).1)

    oks_by_begin : (a : Answer ℕ) → (run_begin run).answer ≡ a → AllAccepted puts_of_one → SameAccepted one other
    oks_by_begin (accepted n) h ok =
        let e = edition_by run.edition in
        let asleep = stopped_before run (one_parts o) in
        let after : accepted_of (puts_of_one ++ last_one) ≡ accepted_of (puts_of_other ++ last_other) =
        oks_are run (one_parts o) h none_one ample.allowances_one
        ∙ oks_reordered e asleep shared_tree o.puts_one o.puts_other o.allowance_one o.allowance_other o.later_one o.reordered (fit ok)
        ∙ ap (λ (later : List Call). oks_by e asleep shared_tree (puts_with o.puts_other o.allowance_other ++ later)) ample.later
        ∙ sym (oks_are run (other_parts o) h none_other ample.allowances_other) in
        ap accepted_of parts_one
        ∙ accepted_split shared (puts_of_one ++ last_one)
        ∙ ap (λ (oks : List Bool). accepted_of shared ++ oks) after
        ∙ sym (accepted_split shared (puts_of_other ++ last_other))
        ∙ ap accepted_of (sym parts_other)
    oks_by_begin (refused t) h ok =
        let z = asleep run t h in
        asleep_oks (run_start run) z one.calls ∙ ap (λ (n : ℕ). replicate n false) (length_calls ample.later) ∙ sym (asleep_oks (run_start run) z other.calls)

  -- ---- The numbers of nodes.

  calls_without : (before : List Call) (ds : List PutData) (f : ℕ → ℕ) (later : List Call)
      → map without_allowance (before ++ (puts_with ds f ++ later)) ≡ map without_allowance before ++ (puts_with ds (λ k. 0) ++ map without_allowance later)
  calls_without [] ds f later = puts_without ds f later
  calls_without (c ∷ before) ds f later = ap (λ (cs : List Call). without_allowance c ∷ cs) (calls_without before ds f later)

  numbers_alike : SameAccepted one other
      → numbers_by 0 (map without_allowance one.calls) (accepted_of (run_answers one)) ≡ numbers_by 0 (map without_allowance other.calls) (accepted_of (run_answers other))
  numbers_alike alike =
      ap (λ (cs : List Call). numbers_by 0 cs (accepted_of (run_answers one))) (calls_without o.before o.puts_one o.allowance_one o.later_one)
      ∙ numbers_same (map without_allowance o.before) o.puts_one o.puts_other (λ k. 0) (λ k. 0) (map without_allowance o.later_one) same_count 0 (accepted_of (run_answers one))
      ∙ (λ i. numbers_by 0 (map without_allowance o.before ++ (puts_with o.puts_other (λ k. 0) ++ o.later_same i)) (alike i))
      ∙ ap (λ (cs : List Call). numbers_by 0 cs (accepted_of (run_answers other))) (sym (calls_without o.before o.puts_other o.allowance_other o.later_other))

-- Of any run.
no_numbers : (cs : List Call) (answers : List (Answer ℕ)) → AllWrongRecord answers → made_numbers cs answers ≡ numbers_by 0 (map without_allowance cs) (accepted_of answers)
no_numbers [] answers h = refl
no_numbers (c ∷ cs) [] h = refl
no_numbers (make parent name ∷ cs) (a ∷ answers) h = rw h.0 (no_numbers cs answers h.1)
no_numbers (put node type bytes allowance ∷ cs) (a ∷ answers) h = rw h.0 (no_numbers cs answers h.1)
no_numbers (close allowance ∷ cs) (a ∷ answers) h = rw h.0 (no_numbers cs answers h.1)

numbers_of_lem : (a : Answer ℕ) (run : Run) → (run_begin run).answer ≡ a → made_numbers run.calls (run_answers run) ≡ numbers_by 0 (map without_allowance run.calls) (accepted_of (run_answers run))
numbers_of_lem (accepted n) run h =
    numbers_by_lem run.calls (run_answers run) (edition_by run.edition) (length run.buffer) false (header_size (edition_by run.edition)) [] (run_from_tree run h)
numbers_of_lem (refused t) run h = go (eqb t.number 23) refl
  where
    go : (b : Bool) → eqb t.number 23 ≡ b → made_numbers run.calls (run_answers run) ≡ numbers_by 0 (map without_allowance run.calls) (accepted_of (run_answers run))
    go true e = numbers_by_lem run.calls (run_answers run) (edition_by run.edition) (length run.buffer) true (header_size (edition_by run.edition)) [] (run_spent run t h e)
    go false e = no_numbers run.calls (run_answers run) (run_refused run t h e).0

-- ---- The statements.

numbers : Numbers
numbers run o alike =
    numbers_of_lem (run_begin run).answer (run_one run o) refl ∙ numbers_alike run o alike ∙ sym (numbers_of_lem (run_begin run).answer (run_other run o) refl)

puts_reordered : PutsReordered
puts_reordered run o alike ok c = one_tree run o alike (puts_one run o ok) c

answers_by_begin : (a : Answer ℕ) (run : Run) (o : TwoOrders) → (run_begin run).answer ≡ a → SameAccepted (run_one run o) (run_other run o)
    → PutsAccepted (run_one run o) o → run_closed (run_one run o) ≡ true
    → answers_but_stores (run_one run o).calls (run_answers (run_one run o)) ≡ answers_but_stores (run_other run o).calls (run_answers (run_other run o))
answers_by_begin (accepted n) run o h alike ok c = one_answers run o alike (puts_one run o ok) c h
answers_by_begin (refused t) run o h alike ok c = absurd (true≢false (sym c ∙ none_closed (run_one run o) t h))

same_answers : SameAnswers
same_answers run o alike ok c = answers_by_begin (run_begin run).answer run o refl alike ok c

eights : EightsAgree
eights run o ok h = eights_agree (shared_tree run o) o.puts_one o.puts_other o.reordered (fit run o (puts_one run o ok)) h

places : OrderPlaces
places run o alike ok = placed run o alike (puts_one run o ok)

-- The size of a file is its end of data and what the tree needs.
sizes_by : (end end' : ℕ) (tree tree' : Tree) → tree ≡ tree' → size_of end tree + end' ≡ size_of end' tree' + end
unfolding size_of
sizes_by end end' tree tree' same = rw same (omega arith)

sizes : OrderSizes
sizes run o alike ok c =
    let t = one_tree run o alike (puts_one run o ok) c in
    let end = (run_layout (run_one run o)).end in
    let end' = (run_layout (run_other run o)).end in
    ap (λ (n : ℕ). n + end') (data_places.files_described (run_one run o) c).size
    ∙ sizes_by end end' (run_tree (run_one run o)) (run_tree (run_other run o)) (t.one_describes ∙ sym t.other_describes)
    ∙ sym (ap (λ (n : ℕ). n + end) (data_places.files_described (run_other run o) t.other_closed).size)

later_alike : LaterAlike
later_alike run o ok ok_other agree same =
    last_part run (one_parts o) (length o.puts_one) refl
    ∙ last_by run o (run_begin run).answer refl (puts_one run o ok) (puts_other run o ok_other) agree same
    ∙ sym (last_part run (other_parts o) (length o.puts_one) (same_count run o))

accepted_alike : AcceptedAlike
accepted_alike run o ample ok = oks_by_begin run o ample (run_begin run).answer refl (puts_one run o ok)

any_order : AnyOrder
any_order run o ample ok c = one_tree run o (accepted_alike run o ample ok) (puts_one run o ok) c

-- ---- Two puts.

-- Two answers after some others.
pair_at : (xs : List (Answer ℕ)) (a b : Answer ℕ) (more : List (Answer ℕ)) (k : ℕ) → length xs ≡ k
    → (get_or (accepted_of (xs ++ (a ∷ b ∷ more))) k false ≡ is_accepted a) × (get_or (accepted_of (xs ++ (a ∷ b ∷ more))) (k + 1) false ≡ is_accepted b)
pair_at [] a b more zero n = (refl, refl)
pair_at [] a b more (suc k) n = absurd (omega arith)
pair_at (x ∷ xs) a b more zero n = absurd (omega arith)
pair_at (x ∷ xs) a b more (suc k) n =
    let z = pair_at xs a b more k (omega arith) in
    let e : suc k + 1 ≡ suc (k + 1) = omega arith in
    (z.0, rw e z.1)

-- Both were accepted.
both_accepted : (run : Run) (p : TwoPuts) → PairAccepted (with_calls run (one_order p)) (length p.before) → AllAccepted (puts_of_one run (as_orders p))
both_accepted run p pair =
    let o = as_orders p in
    let a = get_or (puts_of_one run o) 0 (accepted 0) in
    let b = get_or (puts_of_one run o) 1 (accepted 0) in
    let at = pair_at (shared run o) a b (last_one run o) (length p.before) (length_answers (run_start run) p.before) in (
      sym at.0 ∙ sym (ap (λ (xs : List (Answer ℕ)). get_or (accepted_of xs) (length p.before) false) (parts_one run o)) ∙ pair.first,
      (
        sym at.1 ∙ sym (ap (λ (xs : List (Answer ℕ)). get_or (accepted_of xs) (length p.before + 1) false) (parts_one run o)) ∙ pair.second,
        tt,
      ),
    )

put_order : PutOrder
put_order run p alike pair c = one_tree run (as_orders p) alike (both_accepted run p pair) c

-- ---- The request's own words.

-- Calls that are all accepted, with a close the last of them, close the file.
close_last : (calls : List Call) (closes : ℕ) (s : State) → AllAccepted (answers_of s (calls ++ (close closes ∷ [])))
    → closed_by (calls ++ (close closes ∷ [])) (answers_of s (calls ++ (close closes ∷ []))) ≡ true
close_last [] closes s ok = rw ok.0
close_last (c ∷ calls) closes s ok =
    let z = close_last calls closes (after_call s c) ok.1 in
    rw z (or-true (is_accepted (step s c).answer && is_close c))

literal : PutOrderLiteral
literal run before calls m n t u b c j k closes differ ok ok_other =
    let later = calls ++ (close closes ∷ []) in
    let left : PutData = record { node = m; type = t; bytes = b } in
    let right : PutData = record { node = n; type = u; bytes = c } in
    let p : TwoPuts =
    record {
      before = before;
      left = left;
      right = right;
      nodes_differ = differ;
      left_one = j;
      right_one = k;
      later_one = later;
      left_other = j;
      right_other = k;
      later_other = later;
      later_same = refl;
    } in
    let o = as_orders p in
    let all : AllAccepted (puts_of_one run o ++ last_one run o) = subst AllAccepted (from_puts run (one_parts o)) ok in
    let all_other : AllAccepted (puts_of_other run o ++ last_other run o) = subst AllAccepted (from_puts run (other_parts o)) ok_other in
    let counted : length (last_one run o) ≡ length (last_other run o) = length_answers _ later ∙ sym (length_answers _ later) in
    let alike : SameAccepted (run_one run o) (run_other run o) =
    ap accepted_of (parts_one run o)
    ∙ accepted_split (shared run o) (puts_of_one run o ++ last_one run o)
    ∙ ap (λ (oks : List Bool). accepted_of (shared run o) ++ oks) (all_same (puts_of_one run o ++ last_one run o) (puts_of_other run o ++ last_other run o) (omega (arith, counted)) all all_other)
    ∙ sym (accepted_split (shared run o) (puts_of_other run o ++ last_other run o))
    ∙ ap accepted_of (sym (parts_other run o)) in
    let closed : run_closed (run_one run o) ≡ true =
    closed_is run (one_parts o)
    ∙ ap (λ (z : Bool). closed_by before (shared run o) || z) (close_last calls closes _ all.1.1)
    ∙ or-true (closed_by before (shared run o)) in
    one_tree run o alike (all.0, (all.1.0, tt)) closed

-- ---- Puts anywhere among the makes.

first_by : (a : Answer ℕ) (run : Run) → (run_begin run).answer ≡ a → MakesFirst [] run.calls (run_answers run)
first_by (accepted n) run h =
    makes_first run.calls (run_answers run) (edition_by run.edition) (length run.buffer) false (header_size (edition_by run.edition)) [] (run_from_tree run h)
first_by (refused t) run h = asleep_first (run_start run) (asleep run t h) [] run.calls

first_in : (run : Run) → MakesFirst [] run.calls (run_answers run)
first_in run = first_by (run_begin run).answer run refl

of_calls : TreeOfCalls
of_calls run = tree_from run.calls (run_answers run) (first_in run)

by_calls : TreeByCalls
by_calls one other c d makes puts =
    both_show one other (tree_by_calls one.calls other.calls (run_answers one) (run_answers other) (first_in one) (first_in other) makes puts) c d

pub put_orders : PutOrders
put_orders =
    record {
      put_order = put_order;
      literal = literal;
      numbers = numbers;
      puts_reordered = puts_reordered;
      same_answers = same_answers;
      eights_agree = eights;
      places = places;
      sizes = sizes;
      later_alike = later_alike;
      accepted_alike = accepted_alike;
      any_order = any_order;
      tree_of_calls = of_calls;
      tree_by_calls = by_calls;
    }
