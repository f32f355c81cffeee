-- The lowest number of which a test holds: document 01 reports the lowest node that is wrong, and a lookup names the lowest node.
use Rattle.std.specs.Prelude.{Bool, true, false, cond, not, ℕ, zero, suc, ◌+◌, Option, Some, None}
use Rattle.aff_format.specs.Answer.{Check, check}
use Rattle.aff_format.specs.declared.refusal.RefusalCode.{RefusalCode}

-- Of the `left` numbers from k on.
unfoldable pub lowest_from : (ℕ → Bool) → ℕ → ℕ → Option ℕ
lowest_from test zero k = None
lowest_from test (suc left) k = cond (test k) (Some k) (lowest_from test left (k + 1))

-- Whether there is one.
abbrev pub is_at : Option ℕ → Bool
is_at None = false
is_at (Some k) = true

-- The check that reports the lowest: `report k` is the refusal for number k.
abbrev pub check_lowest : (ℕ → RefusalCode) → Option ℕ → Check
check_lowest report None = check false (report 0)
check_lowest report (Some k) = check true (report k)

abbrev pub none_from : (ℕ → Bool) → ℕ → ℕ → Bool
none_from test n first = not (is_at (lowest_from test n first))
