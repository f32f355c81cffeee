-- Tests joined by 'and' and 'or'. By cases. Assumes nothing.
use mathlib.Core.Path.{◌≡◌, refl}
use mathlib.Core.Bool.{Bool, true, false, ◌&&◌, ◌||◌, true≢false, and-eq-true_iff}

pub both : (a b : Bool) → (a && b) ≡ true → (a ≡ true) × (b ≡ true)
both a b = (and-eq-true_iff a b).0

pub all_seven : (a b c d e f g : Bool) → (a && (b && (c && (d && (e && (f && g)))))) ≡ true
    → (a ≡ true) × (b ≡ true) × (c ≡ true) × (d ≡ true) × (e ≡ true) × (f ≡ true) × (g ≡ true)
all_seven a b c d e f g h =
    let p = both a (b && (c && (d && (e && (f && g))))) h in
    let q = both b (c && (d && (e && (f && g)))) p.1 in
    let r = both c (d && (e && (f && g))) q.1 in
    let s = both d (e && (f && g)) r.1 in
    let t = both e (f && g) s.1 in
    let u = both f g t.1 in
    (p.0, q.0, r.0, s.0, t.0, u.0, u.1)

pub or_false : (a b : Bool) → (a || b) ≡ false → (a ≡ false) × (b ≡ false)
or_false true b h = absurd (true≢false h)
or_false false b h = (refl, h)
