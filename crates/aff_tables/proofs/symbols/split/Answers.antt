-- Each iteration and each end is one law of the walk `Splitting`.
use Rattle.std.proofs.Common.{arith}
use Rattle.aff_tables.proofs.SplitLaws.{split_skip, split_store, split_full, split_ended, split_last_full, split_last}
use Rattle.aff_tables.proofs.symbols.split.Goals.{then-byte-eq0+else-places-n, else-byte-eq0}
use Rattle.aff_tables.proofs.symbols.split.Goals as goal

pub loop-at-preserved : goal.loop-at-preserved
loop-at-preserved c =
    elim c.if-byte-eq0.branch [
      | then-byte-eq0+else-places-n w ↦
          rw (w.places-is, w.n-is, w.start-is) (split_store c.loop-at.invariant c.loop-at-test.true w.if-byte-eq0.true w.if-places-n.false)
      | else-byte-eq0 w ↦ rw (w.places-is, w.n-is, w.start-is) (split_skip c.loop-at.invariant c.loop-at-test.true w.if-byte-eq0.false)
    ]

pub returns-then-places-n : goal.returns-then-places-n
returns-then-places-n c =
    let w = split_full c.loop-at.invariant c.loop-at-test.true c.if-byte-eq0.true c.if-places-n.true in record { value = w.0; places_after = w.1 }

pub returns-then-start-section : goal.returns-then-start-section
returns-then-start-section c =
    let w = split_ended c.loop-at.invariant c.loop-at-test.false (omega (arith, c.loop-at.auto.at-end)) in record { value = w.0; places_after = w.1 }

pub returns-then-places-n-2 : goal.returns-then-places-n-2
returns-then-places-n-2 c =
    let w = split_last_full c.loop-at.invariant c.loop-at-test.false (λ e. omega arith) c.if-places-n-2.true in record { value = w.0; places_after = w.1 }

pub returns : goal.returns
returns c =
    let w = split_last c.loop-at.invariant c.loop-at-test.false (λ e. omega arith) c.if-places-n-2.false in record { value = w.0; places_after = w.1 }
