-- What a leaf takes from the labels north and west of its top left pixel. Inner definitions: no outside call's
-- statement cites them.
use Rattle.std.specs.Prelude.{false, cond, List, ◌≡◌, ℕ, ◌-◌, ◌<◌, eqb}
use Rattle.quad.specs.Numbers.{black}
use Rattle.table.specs.Table.{nodes, node_type, is_fork}
use Rattle.table.specs.Nodes.{left_of, top_of}
use Rattle.ponds.specs.Words.{word_of}
use Rattle.ponds_sets.specs.Sets.{leading, place_of, Sets, Further}
use Rattle.ponds_sets.specs.Lines.{Label, Line, MetAt}

-- the first of two numbers that is not 0
unfoldable pub first_nonzero : ℕ → ℕ → ℕ
first_nonzero a b = cond (eqb a 0) b a

-- a for a black leaf's type, else 0
unfoldable pub black_of : ℕ → ℕ → ℕ
black_of kind a = cond (eqb kind black) a 0

-- 1 for a number that is not 0, and 1 for two that differ, else 0
unfoldable pub one_if_nonzero : ℕ → ℕ
one_if_nonzero a = cond (eqb a 0) 0 1

unfoldable pub differ_of : ℕ → ℕ → ℕ
differ_of a b = cond (eqb a b) 0 1

-- leaf p, of that type, is not placed yet; `north` and `west` are the labels beside its top left pixel
pub record Touching (W : List ℕ) (kind p north west place : ℕ) : Type 0 where
  pub n : ℕ
  pub T : List ℕ
  pub lead : ℕ → ℕ
  pub sets : Sets n T W lead
  pub node : p < nodes T
  pub leaf : is_fork T p ≡ false
  pub is : kind ≡ node_type T p
  pub free : kind ≡ black → word_of W p ≡ 0
  pub stands : place ≡ place_of n T p
  pub above : Line n T W lead (top_of n T p) (left_of n T p) (top_of n T p - 1) north
  pub before : Line n T W lead (left_of n T p) (left_of n T p - 1) (top_of n T p) west

-- the sets with p, and r, p's label: 0 for a white leaf. A black one has one leader with those beside its top left
-- pixel, and where it is not its own label it does not lead
pub record Touched (n : ℕ) (T W : List ℕ) (lead : ℕ → ℕ) (p : ℕ) (W' : List ℕ) (r : ℕ) : Type 0 where
  pub lead' : ℕ → ℕ
  pub further : Further n T W lead W' lead'
  pub rest : (i : ℕ) → (i ≡ p → ⊥) → word_of W i ≡ 0 → word_of W' i ≡ 0
  pub dry : (node_type T p ≡ black → ⊥) → (r ≡ 0) × (word_of W' p ≡ 0)
  pub label : node_type T p ≡ black → Label n T W' lead' r p
  pub met : node_type T p ≡ black → MetAt n T W' lead' p (left_of n T p) (top_of n T p)
  pub linked : node_type T p ≡ black → (r ≡ p → ⊥) → word_of W' p < leading

abbrev pub LabelsAs : List ℕ → ℕ → ℕ → ℕ → ℕ → ℕ → List ℕ → ℕ → Type 0
LabelsAs W kind p north west place W' r = (z : Touching W kind p north west place) → Touched z.n z.T W z.lead p W' r

-- 1 for a leaf that is its own label, else 0
unfoldable pub one_if_own : ℕ → ℕ → ℕ
one_if_own label p = cond (eqb label p) 1 0

-- the word of a fork: its mark where nothing under it leads, else 0
unfoldable pub mark_of : ℕ → ℕ
mark_of r = cond (eqb r 0) leading 0

-- 1 for what is neither 0 nor the label, else 0
unfoldable pub one_if_other : ℕ → ℕ → ℕ
one_if_other v label = cond (eqb v 0) 0 (cond (eqb v label) 0 1)
