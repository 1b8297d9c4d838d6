-- Exactly one of four tests holds: it is the first that does, and no other.
use mathlib.Core.Bool.{Bool, true, false, true≢false}
use mathlib.Core.Path.{◌≡◌, refl, sym, ◌∙◌}
use Prim.Native.Nat.{ℕ, ◌+◌, ◌<◌, ◌≤◌}
use native.Mathlib.Omega.{arith}
use Rattle.quad.proofs.TreeLaws.{by_quadrant}
use Rattle.table.specs.Rules.{one}
use Rattle.table.specs.Nodes.{first_quadrant}

pub record One (g : ℕ → Bool) : Type 0 where
  pub small : first_quadrant g < 4
  pub holds : g (first_quadrant g) ≡ true
  pub only : (q : ℕ) → q < 4 → g q ≡ true → q ≡ first_quadrant g

pub one_le : (b : Bool) → one b ≤ 1
one_le true = omega arith
one_le false = omega arith

one_of : (g : ℕ → Bool) (a b c d : Bool) → g 0 ≡ a → g 1 ≡ b → g 2 ≡ c → g 3 ≡ d → one a + one b + one c + one d ≡ 1 → One g
unfolding first_quadrant
one_of g a b c d ea eb ec ed s = go a b c d ea eb ec ed s
  where
    no : (q k : ℕ) → g q ≡ true → g q ≡ false → q ≡ k
    no q k x y = absurd (true≢false (sym x ∙ y))

    go : (a b c d : Bool) → g 0 ≡ a → g 1 ≡ b → g 2 ≡ c → g 3 ≡ d → one a + one b + one c + one d ≡ 1 → One g
    go true false false false ea eb ec ed s = record {
      small = rw ea (omega arith);
      holds = rw ea ea;
      only = rw ea (by_quadrant _ (λ h. refl) (λ h. no 1 0 h eb) (λ h. no 2 0 h ec) (λ h. no 3 0 h ed));
    }
    go false true false false ea eb ec ed s = record {
      small = rw (ea, eb) (omega arith);
      holds = rw (ea, eb) eb;
      only = rw (ea, eb) (by_quadrant _ (λ h. no 0 1 h ea) (λ h. refl) (λ h. no 2 1 h ec) (λ h. no 3 1 h ed));
    }
    go false false true false ea eb ec ed s = record {
      small = rw (ea, eb, ec) (omega arith);
      holds = rw (ea, eb, ec) ec;
      only = rw (ea, eb, ec) (by_quadrant _ (λ h. no 0 2 h ea) (λ h. no 1 2 h eb) (λ h. refl) (λ h. no 3 2 h ed));
    }
    go false false false true ea eb ec ed s = record {
      small = rw (ea, eb, ec) (omega arith);
      holds = rw (ea, eb, ec) ed;
      only = rw (ea, eb, ec) (by_quadrant _ (λ h. no 0 3 h ea) (λ h. no 1 3 h eb) (λ h. no 2 3 h ec) (λ h. refl));
    }
    go false false false false ea eb ec ed s = absurd (omega arith)
    go true true c d ea eb ec ed s = absurd (omega (arith, one_le c))
    go true false true d ea eb ec ed s = absurd (omega arith)
    go true false false true ea eb ec ed s = absurd (omega arith)
    go false true true d ea eb ec ed s = absurd (omega arith)
    go false true false true ea eb ec ed s = absurd (omega arith)
    go false false true true ea eb ec ed s = absurd (omega arith)

pub one_of_four : (g : ℕ → Bool) → one (g 0) + one (g 1) + one (g 2) + one (g 3) ≡ 1 → One g
one_of_four g s = one_of g (g 0) (g 1) (g 2) (g 3) refl refl refl refl s
