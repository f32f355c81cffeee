-- Byte stores and the buffer that they leave: document 01, 'Writing keys'.
use Rattle.std.specs.Prelude.{cond, List, [], ◌∷◌, ℕ, ◌+◌, eqb, set, take}
use Rattle.aff_format.specs.Answer.{Answer, accepted, refused}

pub record Store : Type 0 where
  pub at : ℕ
  pub byte : ℕ

-- The buffer after some stores, the first of them first: each place holds the last byte stored to it, else its byte before.
unfoldable pub apply_stores : List ℕ → List Store → List ℕ
apply_stores buffer [] = buffer
apply_stores buffer (s ∷ ss) = apply_stores (set buffer s.at s.byte) ss

-- Bytes stored ascending from a place on.
unfoldable pub stores_from : ℕ → List ℕ → List Store
stores_from at [] = []
stores_from at (b ∷ bs) = record { at = at; byte = b } ∷ stores_from (at + 1) bs

-- How many stores an answer reports: all, where the call is accepted; at 23 those that were made; at another refusal none.
abbrev pub stores_reported : Answer ℕ → ℕ
stores_reported (accepted n) = n
stores_reported (refused t) = cond (eqb t.number 23) t.place 0

-- The buffer after a call that needs some stores: the first so many as it reports were made.
abbrev pub buffer_after : Answer ℕ → List Store → List ℕ → List ℕ
buffer_after answer stores buffer = apply_stores buffer (take (stores_reported answer) stores)
