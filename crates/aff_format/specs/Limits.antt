-- Document 01, 'Layout of a file', 'Sizes'.
use Rattle.std.specs.Prelude.{ℕ}

-- The longest image, in bytes.
abbrev pub image_limit : ℕ
image_limit = 2147483647

-- The most strings, and the numbers in the reader's area of string places.
abbrev pub string_limit : ℕ
string_limit = 2048

-- The most nodes besides the root, and the numbers in the reader's area of entry places.
abbrev pub node_limit : ℕ
node_limit = 2048

-- The bytes of the writer's text area and of its tree area.
abbrev pub text_area : ℕ
text_area = 32768

abbrev pub tree_area : ℕ
tree_area = 51200
