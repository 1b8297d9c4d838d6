-- Stretches stored in a list: one right after another, one right before another, and apart; and one from the start on,
-- which lies over the list.
use mathlib.Core.List.{List, [], ◌∷◌, ◌++◌, append-nil}
use mathlib.Core.Path.{◌≡◌, refl, ap, ◌∙◌}
use Prim.Native.Nat.{ℕ, suc, ◌+◌, ◌≤◌, ◌<◌}
use native.Mathlib.Nat.{zero-add}
use native.Mathlib.Omega.{arith}
use lib.ListN.{length, set, length-append, length-drop, drop_of_length-le}
use lib.Seq.{sets, set_comm, sets-eq}
use Rattle.base.specs.Tab.{overlay}

-- stores right after others, stores right before others, and stores at places apart
pub sets_after : (l : List ℕ) (i j : ℕ) (vs ws : List ℕ) → j ≡ i + length vs → sets (sets l i vs) j ws ≡ sets l i (vs ++ ws)
sets_after l i j [] ws e = ap (λ (k : ℕ). sets l k ws) (omega arith)
sets_after l i j (v ∷ vs) ws e = sets_after (set l i v) (suc i) j vs ws (omega arith)

pub sets_behind : (l l₁ l₂ : List ℕ) (i j : ℕ) (vs ws : List ℕ) → l₁ ≡ sets l i vs → l₂ ≡ sets l₁ j ws → j ≡ i + length vs → l₂ ≡ sets l i (vs ++ ws)
sets_behind l l₁ l₂ i j vs ws e f h = f ∙ ap (λ (v : List ℕ). sets v j ws) e ∙ sets_after l i j vs ws h

set_before : (l : List ℕ) (i j v : ℕ) (ws : List ℕ) → i < j → set (sets l j ws) i v ≡ sets (set l i v) j ws
set_before l i j v [] lt = refl
set_before l i j v (w ∷ ws) lt =
    set_before (set l j w) i (suc j) v ws (omega arith) ∙ ap (λ (k : List ℕ). sets k (suc j) ws) (set_comm l j i w v (λ e. omega arith))

pub sets_apart : (l : List ℕ) (i j : ℕ) (vs ws : List ℕ) → i + length vs ≤ j → sets (sets l j ws) i vs ≡ sets (sets l i vs) j ws
sets_apart l i j [] ws le = refl
sets_apart l i j (v ∷ vs) ws le =
    ap (λ (k : List ℕ). sets k (suc i) vs) (set_before l i j v ws (omega arith)) ∙ sets_apart (set l i v) (suc i) j vs ws (omega arith)

pub sets_before : (l : List ℕ) (i j : ℕ) (vs ws : List ℕ) → j ≡ i + length vs → sets (sets l j ws) i vs ≡ sets l i (vs ++ ws)
sets_before l i j vs ws e = sets_apart l i j vs ws (omega arith) ∙ sets_after l i j vs ws e

-- four stretches, each stored behind the one before
pub sets_four : (l l₁ l₂ l₃ l₄ xs ys zs ws : List ℕ) (i j k m : ℕ) → l₁ ≡ sets l i xs → l₂ ≡ sets l₁ j ys → l₃ ≡ sets l₂ k zs → l₄ ≡ sets l₃ m ws
    → j ≡ i + length xs → k ≡ j + length ys → m ≡ k + length zs → l₄ ≡ sets l i (xs ++ (ys ++ (zs ++ ws)))
sets_four l l₁ l₂ l₃ l₄ xs ys zs ws i j k m e₁ e₂ e₃ e₄ ej ek em =
    let s₃ : l₄ ≡ sets l₂ k (zs ++ ws) = e₄ ∙ ap (λ (v : List ℕ). sets v m ws) e₃ ∙ sets_after l₂ k m zs ws em in
    let s₂ : l₄ ≡ sets l₁ j (ys ++ (zs ++ ws)) = s₃ ∙ ap (λ (v : List ℕ). sets v k (zs ++ ws)) e₂ ∙ sets_after l₁ j k ys (zs ++ ws) ek in
    s₂ ∙ ap (λ (v : List ℕ). sets v j (ys ++ (zs ++ ws))) e₁ ∙ sets_after l i j xs (ys ++ (zs ++ ws)) ej

-- a stretch stored from the start on lies over the list, which keeps its length; one of the list's own length replaces
-- it
pub sets_overlay : (new old : List ℕ) → length new ≤ length old → sets old 0 new ≡ overlay new old
sets_overlay new old le = rw zero-add at (sets-eq new old 0 (omega arith))

pub overlay_length : (new old : List ℕ) → length new ≤ length old → length (overlay new old) ≡ length old
overlay_length new old h = simp (length-append, length-drop) (omega arith)

pub overlay_all : (new old : List ℕ) → length old ≡ length new → overlay new old ≡ new
overlay_all new old e = rw (drop_of_length-le old {i = length new} (omega arith)) (append-nil new)
