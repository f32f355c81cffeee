-- The record and the areas as `open` leaves them, with our form.
use Rattle.std.proofs.Common.{rules, ap, refl, ◌∙◌}
use Rattle.aff_open.specs.Opening.{strings_after, entries_after}
use Rattle.test_dump.proofs.OpeningLaws.{handed}
use Rattle.test_dump.specs.Opening.{zeros}
use Rattle.test_dump.proofs.with_opened.Goals as goal

pub returns-in-Ok : goal.returns-in-Ok
returns-in-Ok g c =
    handed {image = c.args.image.now} (λ x. g.F.FnOnce.post c.args.act (x, tt) c.act.result) c.act.ensures (
      refl,
      search rules,
      c.open.ensures.strings ∙ ap (λ form. strings_after c.args.image.now form zeros zeros) c.form_for-form.ensures,
      c.open.ensures.entries ∙ ap (λ form. entries_after c.args.image.now form zeros zeros) c.form_for-form.ensures,
    )
