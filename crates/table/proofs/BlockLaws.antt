-- A node's block by climbing: each father link passed, from the node to the root, is one binary digit of its column and
-- of its row, the lowest first, and one level less. `Climbed` is the invariant of the loop that climbs, and the laws
-- are its start, one link more, its bounds and its end.
use mathlib.Core.List.{List}
use mathlib.Core.Path.{◌≡◌, refl, ap, sym, ◌∙◌}
use Prim.Native.Nat.{ℕ, ◌+◌, ◌-◌, ◌*◌, ◌/◌, ◌%◌, ◌^◌, ◌≤◌, ◌<◌}
use native.Mathlib.Nat.{mul-add, mul_assoc, mul_comm, one-mul, pow-succ', le-mul_of_pos_right}
use native.Mathlib.Omega.{arith}
use lib.Pow.{pow_pos, pow_mono}
use Rattle.quad.specs.Block.{column, row}
use Rattle.quad.specs.Numbers.{top_level}
use Rattle.quad.proofs.PathLaws.{column_lt, row_lt}
use Rattle.table.specs.declared.Block.{Block}
use Rattle.table.specs.Table.{nodes, father}
use Rattle.table.specs.Rules.{depth_to, Accepted, Asked}
use Rattle.table.specs.Nodes.{level_of, son_type, path_to}
use Rattle.table.specs.Blocks.{block_of}
use Rattle.table.proofs.RuleLaws.{depth_root}
use Rattle.table.proofs.AcceptedLaws.{father_below, son_type_lt, depth_le, depth_up}
use Rattle.table.proofs.NodeLaws.{path_root}
use Rattle.table.proofs.HolderLaws.{path_up, own_quadrants, own_depth}

-- from p as far as q: `unit` is 2 to the number of links passed, c and r are column and row of p's block within q's,
-- and l is n less the links passed
pub record Climbed (n : ℕ) (T : List ℕ) (p q unit c r l : ℕ) : Type 0 where
  pub node : q < nodes T
  pub across : c + unit * column (path_to T n q) ≡ column (path_to T n p)
  pub down : r + unit * row (path_to T n q) ≡ row (path_to T n p)
  pub size : unit * 2 ^ depth_to T n q ≡ 2 ^ depth_to T n p
  pub up : l + depth_to T n p ≡ n + depth_to T n q

-- one digit more of a column or a row
digit : (c u b x : ℕ) → c + b * u + u * 2 * x ≡ c + u * (b + 2 * x)
digit c u b x = omega (arith, mul-add u b (2 * x), mul_comm b u, mul_assoc u 2 x)

module _ (n : ℕ) (T : List ℕ) (acc : Accepted n T) where
  -- a node's block lies on the sheet
  pub column_below : (p : ℕ) → p < nodes T → column (path_to T n p) < 2 ^ depth_to T n p
  column_below p lt = rw (own_depth n T acc p lt) at (column_lt (path_to T n p) (own_quadrants n T acc p lt))

  pub row_below : (p : ℕ) → p < nodes T → row (path_to T n p) < 2 ^ depth_to T n p
  row_below p lt = rw (own_depth n T acc p lt) at (row_lt (path_to T n p) (own_quadrants n T acc p lt))

  -- so many blocks of a node's size lie across the sheet
  across_top : (p : ℕ) → 2 ^ depth_to T n p ≤ 2 ^ top_level
  across_top p = pow_mono {i = depth_to T n p} {j = top_level} (omega (arith, depth_le T n p, acc.sized.level))

  pub climbed_none : (p : ℕ) → p < nodes T → Climbed n T p p 1 0 0 n
  climbed_none p lt = record {
    node = lt;
    across = omega arith;
    down = omega arith;
    size = one-mul (2 ^ depth_to T n p);
    up = refl;
  }

  -- at the root
  climbed_all : (p q unit c r l : ℕ) → Climbed n T p q unit c r l → q ≡ 0 → (c ≡ column (path_to T n p)) × (r ≡ row (path_to T n p)) × (l ≡ level_of n T p)
  unfolding column row
  climbed_all p q unit c r l k z =
      let π : path_to T n q ≡ _ = ap (path_to T n) z ∙ path_root T n in
      (omega (arith, rw π at k.across), omega (arith, rw π at k.down), omega (arith, k.up, ap (depth_to T n) z, depth_root T n))

  -- one link more
  climbed_more : (p q unit c r l : ℕ) → Climbed n T p q unit c r l → 0 < q
      → Climbed n T p (father T q) (unit * 2) (c + son_type T q % 2 * unit) (r + son_type T q / 2 * unit) (l - 1)
  unfolding column row
  climbed_more p q unit c r l k pos =
      let f : ℕ = father T q in
      let d : ℕ = depth_to T n f in
      let s : ℕ = son_type T q in
      let π = path_up n T acc q k.node pos in
      let deep = depth_up n T acc q k.node pos in
      record {
        node = omega (arith, k.node, father_below n T acc q k.node pos);
        across = digit c unit (s % 2) (column (path_to T n f)) ∙ rw π at k.across;
        down = digit r unit (s / 2) (row (path_to T n f)) ∙ rw π at k.down;
        size = mul_assoc unit 2 (2 ^ d) ∙ ap (λ (w : ℕ). unit * w) (sym (pow-succ' 2 d)) ∙ rw deep at k.size;
        up = omega (arith, k.up, deep, depth_le T n p);
      }

  -- the numbers stay small
  small : (p q unit c r l : ℕ) → p < nodes T → Climbed n T p q unit c r l → (c < 2 ^ top_level) × (r < 2 ^ top_level) × (unit ≤ 2 ^ top_level)
  small p q unit c r l lt k =
      let top = across_top p in (
        omega (arith, k.across, column_below p lt, top),
        omega (arith, k.down, row_below p lt, top),
        omega (arith, k.size, le-mul_of_pos_right unit (pow_pos (depth_to T n q)), top),
      )

-- one turn of the climb, at a node q that is not the root: s is which son q is
pub record Turn (n : ℕ) (T : List ℕ) (p q unit c r l s : ℕ) : Type 0 where
  pub node : q < nodes T
  pub below : father T q < q
  pub son : s < 4
  pub column : c + s % 2 * unit < 2 ^ top_level
  pub row : r + s / 2 * unit < 2 ^ top_level
  pub size : unit * 2 ≤ 2 ^ top_level
  pub level : 0 < l
  pub next : (f : ℕ) → f ≡ father T q → Climbed n T p f (unit * 2) (c + s % 2 * unit) (r + s / 2 * unit) (l - 1)

pub turn : {n : ℕ} {T : List ℕ} {p q unit c r l s : ℕ} → Asked n T p → Climbed n T p q unit c r l → (q ≡ 0 → ⊥) → s ≡ son_type T q
    → Turn n T p q unit c r l s
turn {n} {T} {p} {q} {unit} {c} {r} {l} a k h e =
    let acc = a.accepted in
    let lt = k.node in
    let pos : 0 < q = omega arith in
    let more = climbed_more n T acc p q unit c r l k pos in
    let m = small n T acc p (father T q) (unit * 2) (c + son_type T q % 2 * unit) (r + son_type T q / 2 * unit) (l - 1) a.node more in
    rw e (record {
      node = lt;
      below = father_below n T acc q lt pos;
      son = son_type_lt n T acc q lt pos;
      column = m.0;
      row = m.1;
      size = m.2;
      level = omega (arith, k.up, depth_up n T acc q lt pos, depth_le T n p);
      next = λ f up. rw up more;
    })

-- so the climb ends with the node's block
pub block_is : (n : ℕ) (T : List ℕ) (p q unit c r l : ℕ) → Asked n T p → Climbed n T p q unit c r l → q ≡ 0
    → ◌≡◌ {A = Block} (record { column = c; row = r; level = l }) (block_of n T p)
unfolding block_of
block_is n T p q unit c r l a k z =
    let e = climbed_all n T a.accepted p q unit c r l k z in
    rw (block_of, e.0, e.1, e.2)

-- the block of a node of an accepted sheet: no wider than the sheet
pub record OnSheet (n : ℕ) (T : List ℕ) (p : ℕ) : Type 0 where
  pub column : column (path_to T n p) < 2 ^ top_level
  pub row : row (path_to T n p) < 2 ^ top_level
  pub level : level_of n T p ≤ top_level

pub on_sheet : {n : ℕ} {T : List ℕ} {p : ℕ} → Asked n T p → OnSheet n T p
on_sheet {n} {T} {p} a =
    let acc = a.accepted in
    let top = across_top n T acc p in
    record {
      column = omega (arith, column_below n T acc p a.node, top);
      row = omega (arith, row_below n T acc p a.node, top);
      level = omega (arith, acc.sized.level);
    }
