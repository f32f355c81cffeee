-- A padded message: its length, its last bytes, and its whole blocks before them. Assumes nothing.
use Rattle.std.proofs.Common.{◌≡◌, ℕ, ◌+◌, ◌-◌, ◌*◌, ◌/◌, ◌%◌, ◌^◌, ◌<◌, ◌≤◌, List, [], ◌∷◌, ◌++◌, length, take, drop, set, replicate, ap, ◌∙◌, append_assoc, zero-add, add-one, arith, length-append, length-drop, take-append-drop, take_all, take-suc-set, sym, suc, refl}
use lib.ListN.{length-replicate, replicate-append-replicate}
use lib.Seq.{take_at, set_at}
use Rattle.std.proofs.lemmas.List.{drop-replicate}
use Rattle.aff_md5.specs.declared.State.{State}
use Rattle.aff_md5.specs.Md5.{le, padding, pad, zeros, start, all_blocks, output, md5}
use Rattle.aff_md5.proofs.Writing.{le_length}

-- the length of a padded list
pad_length : (s : List ℕ) (bits : ℕ) → length (pad s bits) ≡ length s + 1 + zeros (length s) + 8
unfolding pad padding
pad_length s bits = simp (length-append, length-replicate, le_length) (omega arith)

-- A buffer b₁ of 128 bytes that begins with s, whatever follows there: with 128 stored after s, z zeros after that (b₃) and the length in bits
-- after those (b₄), it begins with s padded.
pub padded : (s : List ℕ) (bits z : ℕ) (b₁ b₃ b₄ : List ℕ) → length s < 64 → z ≡ (119 - length s) % 64 → length b₁ ≡ 128
    → take (0 + length s) b₁ ≡ s → take (length s + 1 + z) b₃ ≡ take (length s + 1) (set b₁ (length s) 128) ++ replicate z 0
    → take (length s + 1 + z + 8) b₄ ≡ take (length s + 1 + z) b₃ ++ le 8 bits
    → take (length (pad s bits)) b₄ ≡ pad s bits
unfolding pad padding
padded s bits z b₁ b₃ b₄ h hz hl e₁ e₃ e₄ =
    let w : zeros (length s) ≡ z = omega arith in
    let i : length s < length b₁ = omega arith in
    let f : take (length s + 1) (set b₁ (length s) 128) ≡ s ++ (128 ∷ []) = rw (add-one, take-suc-set, rw zero-add at e₁) in
    rw (pad_length s bits, w, e₄, e₃, f) (simp append_assoc)

-- what the three writes of `last` leave in a zeroed buffer
pub padded_over_zeros : (s w : List ℕ) (bits e : ℕ) (b₁ b₂ : List ℕ) → length s < 64 → e ≡ length s + 1 + zeros (length s) + 8 → w ≡ le 8 bits
    → b₁ ≡ take 0 (replicate 128 0) ++ (s ++ drop (0 + length s) (replicate 128 0))
    → b₂ ≡ take (e - 8) (set b₁ (length s) 128) ++ (w ++ drop (e - 8 + length w) (set b₁ (length s) 128))
    → take (length (pad s bits)) b₂ ≡ pad s bits
unfolding pad padding
padded_over_zeros s w bits e b₁ b₂ h he hw e₁ e₂ =
    let n = length s in
    let a : List ℕ = replicate (zeros n) 0 in
    let c : List ℕ = replicate (127 - n - zeros n) 0 in
    let k : 128 - n ≡ suc (zeros n + (127 - n - zeros n)) = omega arith in
    let d : drop n (replicate 128 0) ≡ 0 ∷ (a ++ c) =
    rw (drop-replicate {X = ℕ} n 128 0, k) (ap (λ (l : List ℕ). 0 ∷ l) (sym (replicate-append-replicate (zeros n) (127 - n - zeros n) 0))) in
    let f : set b₁ n 128 ≡ (s ++ (128 ∷ a)) ++ c = rw (e₁, zero-add, d) (set_at s 0 (a ++ c) 128 n refl ∙ sym (append_assoc s (128 ∷ a) c)) in
    let m : length (s ++ (128 ∷ a)) ≡ e - 8 = simp (length-append, length-replicate) (omega arith) in
    let g : take (e - 8) (set b₁ n 128) ≡ s ++ (128 ∷ a) = rw f (take_at (s ++ (128 ∷ a)) c (e - 8) m) in
    let rest : List ℕ = drop (e - 8 + length w) (set b₁ n 128) in
    let q : b₂ ≡ (s ++ (128 ∷ (a ++ le 8 bits))) ++ rest = rw (e₂, g) (rw hw (simp append_assoc)) in
    rw q (take_at (s ++ (128 ∷ (a ++ le 8 bits))) rest _ refl)

-- the padding goes by the length modulo 64
padding_mod : (n j bits : ℕ) → 64 * j ≤ n → padding (n - 64 * j) bits ≡ padding n bits
unfolding padding
padding_mod n j bits h = let z : zeros (n - 64 * j) ≡ zeros n = omega arith in rw z

-- the whole blocks of a message, and then its last bytes padded, are the message padded
pad_whole : (m : List ℕ) (bits j : ℕ) → j ≡ length m / 64 → take (64 * j) m ++ pad (drop (64 * j) m) bits ≡ pad m bits
unfolding pad
pad_whole m bits j e =
    let h : 64 * j ≤ length m = omega arith in
    rw (length-drop, padding_mod (length m) j bits h, ← append_assoc (take (64 * j) m) (drop (64 * j) m), take-append-drop)

-- the same where s has the last bytes, and r begins with them padded, e bytes
pub padded_whole : (m s r : List ℕ) (bits j e : ℕ) → j ≡ length m / 64 → s ≡ take (length m - 64 * j) (drop (64 * j) m)
    → e ≡ length m % 64 + 1 + zeros (length m % 64) + 8 → take (length (pad s bits)) r ≡ pad s bits
    → take (64 * j) m ++ take e r ≡ pad m bits
padded_whole m s r bits j e hj hs he hr =
    let t : length (drop (64 * j) m) ≤ length m - 64 * j = simp length-drop (omega arith) in
    let d : length m - 64 * j ≡ length m % 64 = omega arith in
    let q : s ≡ drop (64 * j) m = hs ∙ take_all (length m - 64 * j) (drop (64 * j) m) t in
    let n : length (pad (drop (64 * j) m) bits) ≡ e = rw (pad_length, length-drop, d, he) (omega arith) in
    ap (λ l. take (64 * j) m ++ l) (rw (q, n) at hr) ∙ pad_whole m bits j hj

-- the digest from its parts: s and r as before, v the state after all blocks, and o its bytes
pub digested : (m s r o : List ℕ) (bits j e : ℕ) (v : State) → bits ≡ length m * 8 % 2 ^ 64 → j ≡ length m / 64
    → s ≡ take (length m - 64 * j) (drop (64 * j) m) → e ≡ length m % 64 + 1 + zeros (length m % 64) + 8
    → take (length (pad s bits)) r ≡ pad s bits → v ≡ all_blocks start (take (64 * j) m ++ take e r) → o ≡ output v → o ≡ md5 m
unfolding md5
digested m s r o bits j e v hb hj hs he hr hv ho = rw (ho, hv, padded_whole m s r bits j e hj hs he hr, hb)
