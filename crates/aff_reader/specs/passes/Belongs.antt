-- What the passes of 24 report to each other.
use Rattle.std.specs.Prelude.{◌≡◌, Bool, ◌&&◌, List, ℕ, ◌≤◌, ◌<◌, get_or}
use Rattle.aff_format.specs.Lowest.{none_from}
use Rattle.aff_format.specs.declared.entry.Entry.{Entry}
use Rattle.aff_reader.specs.Belongs.{span_inside, strings_belong, node_lost, climbs_belong}
use Rattle.aff_reader.specs.declared.reader.Reader.{Reader}

unfoldable pub sections_inside : List ℕ → Reader → Bool
sections_inside image reader = span_inside image reader.symbols && (span_inside image reader.tree && span_inside image reader.«data»)

-- Entries, then climbs; before them strings.
unfoldable pub nodes_belong : List ℕ → Reader → List ℕ → Bool
nodes_belong image reader entries =
    none_from (node_lost image reader.strings reader.nodes entries) reader.nodes 1 && climbs_belong image reader entries

unfoldable pub tables_belong : List ℕ → Reader → List ℕ → List ℕ → Bool
tables_belong image reader strings entries = strings_belong reader strings && nodes_belong image reader entries

-- Parents of the nodes 1 to n, copied.
pub record ParentsCopied (entry : ℕ → Entry) (n : ℕ) (parents : List ℕ) : Type 0 where
  pub parent : (k : ℕ) → 0 < k → k ≤ n → get_or parents k 0 ≡ (entry k).parent
