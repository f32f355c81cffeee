-- What is asked of each node: document 01, 'Numbers handed back', 10 to 13. Nodes are numbered from 1.
use Rattle.std.specs.Prelude.{Bool, cond, not, ◌&&◌, ◌||◌, List, [], ◌∷◌, ℕ, ◌-◌, eqb, length, get_or}
use Rattle.aff_format.specs.Answer.{Check, refusal_at, refusal_with}
use Rattle.aff_format.specs.Bytes.{same_bytes}
use Rattle.aff_format.specs.Entry.{no_parent, no_string, outside}
use Rattle.aff_format.specs.Lowest.{lowest_from, is_at, check_lowest}
use Rattle.aff_format.specs.Recorded.{recorded_string, recorded_entry}
use Rattle.aff_format.specs.Subkey.{subkey_from, break_place, is_subkey}
use Rattle.aff_format.specs.Tree.{reaches_by}
use Rattle.aff_format.specs.declared.edition.Edition.{Edition}
use Rattle.aff_format.specs.declared.entry.Entry.{Entry}
use Rattle.aff_format.specs.declared.refusal.RefusalCode.{RefusalCode}
use Rattle.aff_tables.specs.Tables.{node_entry}

-- The strings and nodes that a file has, or that are recorded: how many strings, string i, how many nodes besides the root, and the entry of node k.
pub record Contents : Type 0 where
  pub strings : ℕ
  pub string : ℕ → List ℕ
  pub nodes : ℕ
  pub entry : ℕ → Entry

-- Those of a list of strings and of a list of entries.
abbrev pub contents_of : List (List ℕ) → List Entry → Contents
contents_of strings entries = record { strings = length strings; string = λ i. get_or strings i []; nodes = length entries; entry = node_entry entries }

-- Those that two areas record: `strings` places of strings of a symbol section that ends at `end`, and `nodes` places of entries.
abbrev pub recorded_contents : List ℕ → ℕ → List ℕ → ℕ → List ℕ → ℕ → Contents
recorded_contents image end places strings entries nodes =
    record { strings = strings; string = recorded_string image end places; nodes = nodes; entry = recorded_entry image entries }

-- 10: parent or string number does not exist, or the string is no subkey.
unfoldable pub link_wrong : Edition → Contents → ℕ → Bool
link_wrong e c k =
    no_parent c.nodes (c.entry k) || (no_string c.strings (c.entry k) || not (is_subkey e (c.string (c.entry k).string)))

-- The place in a node's name, counted from the name's first byte, at which it breaks the rule for a subkey, whether the node's parent exists or not; 0
-- where its string does not exist or is a subkey (request C-18). `strings` is how many strings there are.
unfoldable pub name_break : Edition → ℕ → (ℕ → List ℕ) → Entry → ℕ
name_break e strings string entry = cond (no_string strings entry) 0 (break_place (subkey_from e 0 (string entry.string)))

-- 10 reports node k, and that place as its second number.
abbrev pub bad_link : Edition → Contents → ℕ → RefusalCode
bad_link e c k = refusal_with 10 k (name_break e c.strings c.string (c.entry k))

-- 11: the climb does not reach the root. (One that does takes no more steps than there are nodes: `reaches_within`.)
unfoldable pub climb_endless : ℕ → (ℕ → Entry) → ℕ → Bool
climb_endless nodes entry k = not (reaches_by (λ j. (entry j).parent) nodes k)

-- Node j has the parent and the name of node k.
abbrev pub same_site : Contents → ℕ → ℕ → Bool
same_site c k j = eqb (c.entry j).parent (c.entry k).parent && same_bytes (c.string (c.entry j).string) (c.string (c.entry k).string)

-- 12: a lower-numbered sibling has its name.
unfoldable pub name_taken : Contents → ℕ → Bool
name_taken c k = is_at (lowest_from (same_site c k) (k - 1) 1)

-- 13: data not inside the data section, `size` bytes from `from` on.
abbrev pub data_outside : ℕ → ℕ → (ℕ → Entry) → ℕ → Bool
data_outside from size entry k = outside from size (entry k)

-- 10 to 13, each over all nodes before the next, with the lowest node. The data section is `size` bytes from `from` on.
abbrev pub node_checks : Edition → ℕ → ℕ → Contents → List Check
node_checks e from size c =
    check_lowest (bad_link e c) (lowest_from (link_wrong e c) c.nodes 1)
    ∷ check_lowest (refusal_at 11) (lowest_from (climb_endless c.nodes c.entry) c.nodes 1)
    ∷ check_lowest (refusal_at 12) (lowest_from (name_taken c) c.nodes 1)
    ∷ check_lowest (refusal_at 13) (lowest_from (data_outside from size c.entry) c.nodes 1)
    ∷ []
