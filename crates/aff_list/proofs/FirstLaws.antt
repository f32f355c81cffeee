-- The first block of what is printed: a line by itself, or the lines that `fill` put there. Assumes nothing.
use mathlib.Core.Path.{◌≡◌, refl, sym, ap, ◌∙◌}
use mathlib.Core.List.{List, ◌++◌, append-nil}
use Prim.Native.Nat.{ℕ, ◌≤◌, ◌<◌}
use native.Mathlib.Omega.{arith}
use lib.ListN.{length, take, drop, length-append}
use lib.Seq.{drop_at, length-take-le}
use Rattle.aff_format.specs.Refusal.{number_of, place_of}
use Rattle.aff_format.specs.declared.refusal.Refusal.{Refusal}
use Rattle.std.specs.Prelude.{Result, Ok, Err}
use Rattle.aff_reader.specs.declared.reader.Reader.{Reader}
use Rattle.aff_listing.specs.declared.choice.Choice.{Choice}
use Rattle.aff_format.specs.passes.Written.{Written}
use Rattle.aff_format.proofs.WrittenLaws.{written_front, written_taken}
use Rattle.aff_list.specs.Lister.{input_limit, Ready, Fills, Starts, answer_of_prepared, lines_of, printed_text, refusal_line, too_long_line, listed, printed, rows_from}
use Rattle.aff_list.specs.declared.blocks.Prepared.{Prepared}
use Rattle.aff_list.proofs.PrintedLaws.{printed_long, printed_short, rows_end}
use Rattle.aff_list.proofs.ReadyLaws.{Decided, prepared_ready}

-- A text that is whole in the block, and has no lines of nodes.
starts_whole : {image : List ℕ} {reader : Reader} {strings entries text numbers : List ℕ} {lines used : ℕ} {before after : List ℕ}
    → lines ≡ 0 → Written 0 text before after used → Starts image reader strings entries text numbers lines 0 used before after
starts_whole {image} {reader} {strings} {entries} {text} {numbers} {lines} {used} {before} {after} z w =
    let (ends, area) = written_front w in
    record {
      few = omega arith;
      most = omega arith;
      inside = omega (arith, ap length area, length-append text (drop (length text) before));
      stays = rw (ends, area) (drop_at text (drop (length text) before) (length text) refl);
      whole = λ h. sym (written_taken w);
      goes_on = λ h. absurd (omega arith);
      full = λ h. absurd (omega arith);
      ready = λ h. absurd (omega arith);
    }

-- The lines from the first on.
starts_lines : {image : List ℕ} {reader : Reader} {strings entries text numbers : List ℕ} {lines next used : ℕ} {before after : List ℕ}
    → lines ≤ length numbers → text ≡ rows_from image reader strings entries (take lines numbers) 0 → Ready image reader strings entries (take lines numbers)
    → Fills image reader strings entries (take lines numbers) 0 next used before after → Starts image reader strings entries text numbers lines next used before after
starts_lines {image} {reader} {strings} {entries} {text} {numbers} {lines} {next} {used} {before} {after} few e r f =
    let size : length (take lines numbers) ≡ lines = length-take-le lines numbers few in
    record {
      few = few;
      most = omega (arith, f.most);
      inside = f.inside;
      stays = f.stays;
      whole = λ h. e ∙ f.text ∙ ap (λ (l : List ℕ). take used after ++ l) (rows_end image reader strings entries (take lines numbers) next (omega arith)) ∙ append-nil (take used after);
      goes_on = λ h. e ∙ f.text;
      full = λ h. f.full (omega arith);
      ready = λ h. r;
    }

-- What was decided of an input that is not too long, and then what was put into the block.
module _ (image : List ℕ) (choice : Choice) (strings entries numbers : List ℕ) (short : length image ≤ input_limit) (s : length strings ≡ 2048) (e : length entries ≡ 2048)
    (o : Result Prepared Refusal) {ss es ns : List ℕ} (b : Decided image choice strings entries numbers (answer_of_prepared o) (lines_of o) ss es ns) where
  listed_is : listed image choice strings entries ≡ printed_text image ss es choice (answer_of_prepared o)
  unfolding listed
  listed_is = rw (sym b.0, b.1.1.0, b.1.1.1.0)

  printed_is : printed choice image ≡ printed_text image ss es choice (answer_of_prepared o)
  printed_is = printed_short choice image strings entries short s e ∙ listed_is

  pub first_refused : (q : Refusal) → o ≡ Err q → {reader : Reader} {used : ℕ} {before after : List ℕ}
      → Written 0 (refusal_line (number_of q) (place_of q)) before after used
      → Starts image reader ss es (printed choice image) ns 0 0 used before after
  first_refused q h w = rw (printed_is ∙ ap (λ p. printed_text image ss es choice (answer_of_prepared p)) h) (starts_whole refl w)

  pub first_accepted : (p : Prepared) → o ≡ Ok p → {next used : ℕ} {before after : List ℕ}
      → Fills image p.reader ss es (take p.lines ns) 0 next used before after
      → Starts image p.reader ss es (printed choice image) ns p.lines next used before after
  first_accepted p h f =
      let l = prepared_ready image choice strings entries numbers o b p h in
      starts_lines l.few (printed_is ∙ ap (λ p. printed_text image ss es choice (answer_of_prepared p)) h ∙ rw l.ordered) (rw l.ordered l.ready) f

-- An input that is too long.
pub first_long : (image : List ℕ) (choice : Choice) → input_limit < length image → {reader : Reader} {strings entries numbers : List ℕ} {used : ℕ} {before after : List ℕ}
    → Written 0 too_long_line before after used → Starts image reader strings entries (printed choice image) numbers 0 0 used before after
first_long image choice h w = rw (printed_long choice image h) (starts_whole refl w)
