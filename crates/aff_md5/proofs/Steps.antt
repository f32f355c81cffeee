-- A block from its 64 steps. Assumes nothing.
use Rattle.std.proofs.Common.{◌≡◌, ℕ, List}
use Rattle.aff_md5.specs.declared.State.{State}
use Rattle.aff_md5.specs.Md5.{add, steps, compress}

-- a block from its 64 steps
pub done : (m : List ℕ) (h v : State) (a b c d : ℕ) → v ≡ steps m h 64 → a ≡ add h.a v.a → b ≡ add h.b v.b
    → c ≡ add h.c v.c → d ≡ add h.d v.d → ◌≡◌ {A = State} (record { a = a; b = b; c = c; d = d }) (compress h m)
unfolding compress
done m h v a b c d e ha hb hc hd = rw (ha, hb, hc, hd, e)
