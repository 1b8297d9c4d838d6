-- Tests taken apart: what an 'and', an 'or' or a negated answer says of its parts, and cases on a test.
use mathlib.Core.Path.{◌≡◌, refl, sym, ◌∙◌}
use mathlib.Core.Logic.{◌⊎◌, inl, inr, ⊎_elim}
use mathlib.Core.Bool.{Bool, true, false, not, ◌&&◌, ◌||◌, false≢true, true≢false}
use Prim.Native.Nat.{ℕ, ◌≤◌, ◌<◌}
use lib.Dec.{ltb, leb, T}
use borrow.Author.Tests.{lt-ltb, le-ltb, leb-true, leb-false, ltb-true, ltb-false}

pub and_left : (a b : Bool) → a && b ≡ true → a ≡ true
and_left true b e = refl
and_left false b e = e

pub and_right : (a b : Bool) → a && b ≡ true → b ≡ true
and_right true b e = e
and_right false b e = absurd (false≢true e)

pub and_both : (a b : Bool) → a ≡ true → b ≡ true → a && b ≡ true
and_both a b e f = rw (e, f)

pub and_false : (b : Bool) → b && false ≡ false
and_false true = refl
and_false false = refl

pub or_true : (b : Bool) → b || true ≡ true
or_true true = refl
or_true false = refl

-- tests that hold together are the same
pub same_tests : (a b : Bool) → (a ≡ true → b ≡ true) → (b ≡ true → a ≡ true) → a ≡ b
same_tests true b f g = sym (f refl)
same_tests false true f g = g refl
same_tests false false f g = refl

-- the second of two, one of which holds, where the first does not; and the other way round
pub or_second : (a b : Bool) → a || b ≡ true → a ≡ false → b ≡ true
or_second true b e h = absurd (true≢false h)
or_second false b e h = e

pub or_first : (a b : Bool) → a || b ≡ true → b ≡ false → a ≡ true
or_first true b e h = refl
or_first false b e h = sym h ∙ e

-- a call answered r where b was meant, and the code tests `!r`
pub on : (r b : Bool) → r ≡ b → not r ≡ false → b ≡ true
on r true e h = refl
on true false e h = sym e
on false false e h = sym h

pub off : (r b : Bool) → r ≡ b → not r ≡ true → b ≡ false
off r false e h = refl
off true true e h = sym h
off false true e h = sym e

pub not_leb : (a b : ℕ) → not (leb a b) ≡ ltb b a
not_leb a b = go (leb a b) refl
  where
    go : (t : Bool) → leb a b ≡ t → not t ≡ ltb b a
    go true e = sym (le-ltb b a (leb-true a b e))
    go false e = sym (lt-ltb b a (leb-false a b e))

pub by_bool : (t : Bool) → (t ≡ true) ⊎ (t ≡ false)
by_bool true = inl refl
by_bool false = inr refl

pub lt_or_ge : (a b : ℕ) → (a < b) ⊎ (b ≤ a)
lt_or_ge a b = ⊎_elim (λ e. inl (ltb-true a b e)) (λ e. inr (ltb-false a b e)) (by_bool (ltb a b))

-- a test that computes to true holds, and the other way round
pub holds : (b : Bool) → b ≡ true → T b
holds true e = tt
holds false e = absurd (false≢true e)

pub told : (b : Bool) → T b → b ≡ true
told true t = refl
told false t = absurd t
