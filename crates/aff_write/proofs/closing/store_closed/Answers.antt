-- What is stored is the closing stores, and their places lie inside the buffer.
use Rattle.std.proofs.Common.{◌≡◌, ℕ, ◌+◌, ◌≤◌, List, length, take, refl, sym, ap, ◌∙◌, arith}
use Rattle.std.proofs.Math.Seq.{length-take-le}
use Rattle.aff_format.specs.Edition.{most_header}
use Rattle.aff_areas.proofs.BelongsLaws.{belongs_record}
use Rattle.aff_areas.specs.Stores.{Store, apply_stores}
use Rattle.aff_areas.specs.Writer.{data_place}
use Rattle.aff_write.specs.Close.{close_header}
use Rattle.aff_write.proofs.CloseLaws.{used_length, closed_fits, stores_closed, length_close_stores}
use Rattle.aff_write.proofs.closing.store_closed.Goals as goal

pub store_file-requires : goal.store_file-requires
store_file-requires c =
    let w = c.args.held.now.given.writer in
    let b = belongs_record c.args.held.now.belongs in
    let f = closed_fits b in
    let h = c.data_place-from in
    let u = (ap length c.requires.symbols ∙ used_length b) in
    let k : length c.close_header-header.result ≡ most_header = omega arith in
    let m = length-take-le h.result c.close_header-header.result (omega (arith, h.ensures, k)) in
    let n : w.end + length c.args.symbols.now + length c.args.entries.now ≤ length c.args.buffer.now =
    omega (arith, f.0, u, ap length c.requires.entries, c.requires.sized) in
    record { header_some = omega (arith, m, h.ensures); header_inside = omega (arith, m, f.0, h.ensures, b.end_after_header, c.requires.sized); body_inside = n }

pub returns : goal.returns
returns c =
    let g = c.args.held.now.given in
    let w = g.writer in
    let b = belongs_record c.args.held.now.belongs in
    let i = c.args.buffer.now in
    let e = c.store_file.ensures in
    let h = c.data_place-from in
    let r = c.close_header-header in
    let u = (ap length c.requires.symbols ∙ used_length b) in
    let d : take h.result r.result ≡ close_header i w g.text.now g.tree.now = ap (λ (n : ℕ). take n r.result) h.ensures.value ∙ r.ensures in
    let s = stores_closed i w g.text.now g.tree.now w.end c.args.symbols.now c.args.entries.now (take h.result r.result) refl c.requires.symbols u c.requires.entries d in
    let k : length r.result ≡ most_header = omega arith in
    let m = length-take-le h.result r.result (omega (arith, h.ensures, k)) in
    let n = length_close_stores i w g.text.now g.tree.now (used_length b) (sym (ap length d) ∙ m ∙ h.ensures.value) in
    record {
      made = e.made ∙ ap (λ (x : List Store). length (take c.args.allowance x)) s;
      buffer = e.buffer ∙ ap (λ (x : List Store). apply_stores i (take c.args.allowance x)) s;
      needed = n ∙ ap (λ (x : List ℕ). w.text + length x + data_place w) (sym c.requires.entries);
    }
