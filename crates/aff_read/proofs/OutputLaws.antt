-- A text at the front of an output, and the last check of a call that writes it. Assumes nothing.
use mathlib.Core.Path.{◌≡◌, sym, ◌∙◌}
use mathlib.Core.List.{List, [], ◌∷◌, ◌++◌}
use Prim.Native.Nat.{ℕ, ◌≤◌}
use native.Mathlib.Omega.{arith}
use lib.Dec.{ltb}
use lib.ListN.{length, take, drop, length-append, length-drop}
use lib.Seq.{take-append_seam, drop-append_seam}
use borrow.Author.Tests.{ltb-false}
use Rattle.aff_format.specs.Answer.{Answer, accepted, Check, check, refusal, first_wrong}
use Rattle.aff_format.proofs.AnswerLaws.{passed, passed_value, clear_both}
use Rattle.aff_read.specs.Paths.{front_written, Output}

-- A text at the front of an output, where it fits.
pub wrote : (a : Answer ℕ) (text out : List ℕ) → ((n : ℕ) → a ≡ accepted n → (n ≡ length text) × (length text ≤ length out)) → Output a text out (front_written a text out)
wrote a text out fits = record { by_refusal = λ t h. rw h; by_acceptance = by_acceptance }
  where
    by_acceptance : (n : ℕ) → a ≡ accepted n
        → (take n (front_written a text out) ≡ text) × (drop n (front_written a text out) ≡ drop n out) × (length (front_written a text out) ≡ length out)
    by_acceptance n h =
        let (e, l) = fits n h in
        let rest = drop (length text) out in
        rw (h, e)
        (take-append_seam text rest, drop-append_seam text rest, length-append text rest ∙ omega (arith, length-drop (length text) out))

-- A call whose last check is that its text fits.
pub text_fits : (checks : List Check) (limit size : ℕ) {n : ℕ} → first_wrong (checks ++ (check (ltb limit size) (refusal 21) ∷ [])) size ≡ accepted n → (n ≡ size) × (size ≤ limit)
text_fits checks limit size h =
    let last = check (ltb limit size) (refusal 21) ∷ [] in
    (sym (passed_value (checks ++ last) size h), ltb-false limit size (clear_both checks last (passed (checks ++ last) size h)).1.0)
