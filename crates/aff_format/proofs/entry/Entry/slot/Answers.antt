-- The numbers are written one after another, over zeros.
use Rattle.std.proofs.Common.{ℕ, ◌∷◌, replicate, refl, sym, ap}
use Rattle.aff_format.specs.Bytes.{spliced}
use Rattle.aff_format.specs.Number.{be_bytes}
use Rattle.aff_format.proofs.SlotLaws.{slot_void, slot_full}
use Rattle.aff_format.proofs.entry.Entry.slot.Goals as goal

pub returns-then-is_void : goal.returns-then-is_void
returns-then-is_void c =
    slot_void c.args.self (c.code.result ∷ replicate 24 0) c.put_be.new.out c.put_be-2.new.out
    (ap (λ (k : ℕ). k ∷ replicate 24 0) c.code.ensures) c.put_be.ensures (rw c.from.ensures at c.put_be-2.ensures) (sym c.if-is_void.ensures)

pub returns : goal.returns
returns c =
    slot_full c.args.self (c.code.result ∷ replicate 24 0) c.put_be.new.out c.put_be-2.new.out
    (ap (λ (k : ℕ). k ∷ replicate 24 0) c.code.ensures) c.put_be.ensures (rw c.from.ensures at c.put_be-2.ensures) (sym c.if-is_void.ensures)
    (spliced 13 (be_bytes 4 c.args.self.count) c.put_be-2.new.out) c.put_data.new.slot refl (rw c.from-2.ensures at c.put_data.ensures)
