-- Where the types of the largest blocks are noted, so that each is told once: a block's in its slot, and behind it
-- those of its four quarters, each with what is noted below it. Blocks are named by the place where they begin.
use Rattle.std.specs.Prelude.{cond, List, ◌≡◌, ℕ, zero, suc, ◌+◌, ◌-◌, ◌*◌, ◌/◌, ◌%◌, ◌^◌, ◌≤◌, ◌<◌, eqb, length, get_or}
use Rattle.base.specs.Tab.{sum}
use Rattle.quad.specs.Numbers.{top_level, fork_type}
use Rattle.quad.specs.Tree.{colour, size_of, tree_of}
use Rattle.raster.specs.Sums.{Colours}
use Rattle.raster_lanes.specs.Lanes.{window, eight_rows}

-- the slots of a block and of all blocks down to e levels below it
unfoldable pub slots_of : ℕ → ℕ
slots_of zero = 1
slots_of (suc e) = 4 * slots_of e + 1

-- where quadrant q begins of a block at place a whose quarters have the side h
unfoldable pub part_at : ℕ → ℕ → ℕ → ℕ → ℕ
part_at w a h q = a + q / 2 * h * w + q % 2 * h

-- the block of level l at place a has its type in slot s of K, and where it is a fork its quarters have theirs behind
-- it, down to e levels below it
unfoldable pub Noted : List ℕ → ℕ → List ℕ → ℕ → ℕ → ℕ → ℕ → Type 0
Noted R w K zero l s a = get_or K s 0 ≡ colour (tree_of (window R w a) l 0 0)
Noted R w K (suc e) l s a =
    (get_or K s 0 ≡ colour (tree_of (window R w a) l 0 0))
    × (colour (tree_of (window R w a) l 0 0) ≡ fork_type → (q : ℕ) → q < 4 → Noted R w K e (l - 1) (s + 1 + q * slots_of e) (part_at w a (2 ^ (l - 1)) q))

-- nothing but t slots from slot s on was written
abbrev pub Kept : List ℕ → List ℕ → ℕ → ℕ → Type 0
Kept before after s t = (i : ℕ) → (s ≤ i → i < s + t → ⊥) → get_or after i 0 ≡ get_or before i 0

-- the block was noted in slots from s on, and r is the number of its nodes
pub record NotedSize (R : List ℕ) (w a l s : ℕ) (before after : List ℕ) (r : ℕ) : Type 0 where
  pub nodes : r ≡ size_of (tree_of (window R w a) l 0 0)
  pub noted : Noted R w after (l - 3) l s a
  pub kept : Kept before after s (slots_of (l - 3))
  pub long : length after ≡ length before

-- the block of level l at place a lies on a raster of pixels, w wide
pub record Lies (R : List ℕ) (w a l : ℕ) : Type 0 where
  pub colours : Colours R
  pub ends : a + 2 ^ l * w + 2 ^ l ≤ length R + w
  pub few : length R ≤ 4 ^ top_level
  pub wide : w ≤ 2 ^ top_level

-- the type of a block whose quarters have those types
unfoldable pub joined_of : ℕ → ℕ → ℕ → ℕ → ℕ
joined_of a b c d = cond (eqb a b) (cond (eqb a c) (cond (eqb a d) a fork_type) fork_type) fork_type

-- the sums of the four quarters of a block of level 4 at place a
abbrev pub QuarterSums : List ℕ → ℕ → ℕ → ℕ → ℕ → ℕ → ℕ → Type 0
QuarterSums R w a nw ne sw se = (nw ≡ eight_rows R w a) × (ne ≡ eight_rows R w (a + 8)) × (sw ≡ eight_rows R w (a + 8 * w)) × (se ≡ eight_rows R w (a + 8 * w + 8))

-- the first q quarters of a block of level l at place a are noted, each in its slots behind slot s, and counted, with
-- one node for the block
pub record Parts (R : List ℕ) (w a l s q : ℕ) (before after : List ℕ) (nodes : ℕ) : Type 0 where
  pub few : q ≤ 4
  pub count : nodes ≡ 1 + sum (λ p. size_of (tree_of (window R w (part_at w a (2 ^ (l - 1)) p)) (l - 1) 0 0)) q
  pub noted : (p : ℕ) → p < q → Noted R w after (l - 1 - 3) (l - 1) (s + 1 + p * slots_of (l - 1 - 3)) (part_at w a (2 ^ (l - 1)) p)
  pub kept : Kept before after s (slots_of (l - 3))
  pub long : length after ≡ length before
