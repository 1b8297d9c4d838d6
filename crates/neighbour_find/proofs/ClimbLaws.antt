-- The search in an accepted table: a climb carries the moves back down, so that what is left to go and then those moves
-- lead where the direction leads from p; the descent takes them, one a link, and stays in a leaf.
use mathlib.Core.Bool.{Bool, true, false}
use mathlib.Core.List.{List, ◌∷◌}
use mathlib.Core.Path.{◌≡◌, refl, ap, sym, ◌∙◌}
use Prim.Native.Nat.{ℕ, zero, suc, ◌+◌, ◌-◌, ◌*◌, ◌/◌, ◌%◌, ◌^◌, ◌≤◌, ◌<◌}
use native.Mathlib.Nat.{add-zero, pow-succ', pow-le-pow_right}
use native.Mathlib.Omega.{arith}
use lib.ListN.{length}
use lib.Dec.{eqb}
use mathlib.Core.Logic.{⊎_elim}
use borrow.Author.Tests.{ne_eqb, eqb-true, lt-ltb}
use Rattle.base.proofs.BoolLaws.{by_bool}
use Rattle.std.proofs.Common.{Option, Some, None}
use Rattle.std.specs.Bool.{then_some}
use Rattle.quad.specs.Numbers.{top_level}
use Rattle.quad.specs.Direction.{adj_of}
use Rattle.table.specs.Table.{nodes, father, son, is_fork}
use Rattle.table.specs.Rules.{depth_to, Accepted}
use Rattle.table.specs.Nodes.{son_type, path_to, holder}
use Rattle.table.proofs.AcceptedLaws.{father_below, sons_of, son_type_lt, depth_up, depth_son}
use Rattle.table.proofs.NodeLaws.{path_root, holder_fork, holder_leaf}
use Rattle.table.proofs.HolderLaws.{path_up, own_path, own_depth}
use Rattle.neighbour.specs.declared.Climb.{Climb}
use Rattle.neighbour.specs.Neighbour.{At}
use Rattle.neighbour.specs.Search.{stay, way_to, direction_of, onward_of, mirror_of, Where, off, block, inner, moved, found_in, Sought, inward, Climbed, Ended, back_from}
use Rattle.neighbour.proofs.SearchLaws.{moved_stay, steers}

-- a direction as a way
pub way_is : (D e : ℕ) → D < stay → D ≡ e → Some D ≡ way_to e
way_is D e lt h = rw (← h, ne_eqb D stay (λ z. omega arith))

pub way_stays : (e : ℕ) → stay ≡ e → None ≡ way_to e
way_stays e h = rw (← h)

pub way_side : (D q : ℕ) (u : Bool) (r : Option ℕ) → D < 4 → u ≡ adj_of D q → r ≡ then_some u D → r ≡ way_to (onward_of D q)
unfolding onward_of
way_side D q true r lt e h = h ∙ rw (onward_of, lt-ltb D 4 lt, ← e, ne_eqb D stay (λ z. omega arith))
way_side D q false r lt e h = h ∙ rw (onward_of, lt-ltb D 4 lt, ← e)

-- and back: one that goes on is a direction, and no ninth
way_some : (D : ℕ) → Some D ≡ way_to D → D ≡ stay → ⊥
way_some D e h = let z : Some D ≡ None = e ∙ ap way_to h in cc

pub its_direction : (D : ℕ) → direction_of (way_to D) ≡ D
its_direction D = ⊎_elim (λ (h : eqb D stay ≡ true). rw (h, eqb-true D stay h)) (λ (h : eqb D stay ≡ false). rw h) (by_bool (eqb D stay))

-- one more move before the others
inward_inner : (k moves s : ℕ) (w : Where) → s < 4 → inward (suc k) (4 * moves + s) w ≡ inward k moves (inner s w)
unfolding inward
inward_inner k moves s w s4 =
    let d : (4 * moves + s) / 4 ≡ moves = omega arith in
    let m : (4 * moves + s) % 4 ≡ s = omega arith in
    rw (d, m)

inward_off : (k moves : ℕ) → inward k moves off ≡ off
unfolding inward inner
inward_off zero moves = refl
inward_off (suc k) moves = inward_off k (moves / 4)

-- the moves of a climb fit a word
moves_fit : (k moves : ℕ) → moves < 4 ^ k → k ≤ top_level → 4 * moves + 4 ≤ 4 * 4 ^ top_level
moves_fit k moves lt le = omega (arith, pow-le-pow_right {n = 4} (omega arith) {i = k} {j = top_level} le)

-- one turn of a climb that goes on, in the code's own values: f the father, q the quadrant
pub record Turn (n : ℕ) (T : List ℕ) (p level D : ℕ) (node above way moves q f : ℕ) : Type 0 where
  pub quadrant : q < 4
  pub falls : f < node
  pub father : f < nodes T
  pub high : above < top_level
  pub fits : 4 * moves + mirror_of way q < 4294967296
  pub small : mirror_of way q < 4
  pub next : Climbed n T p level D f (above + 1) (onward_of way q) (4 * moves + mirror_of way q)

module _ (n : ℕ) (T : List ℕ) (p level D : ℕ) (z : Sought n T p level D) where
  pub set_out : Climbed n T p level D p level D 0
  unfolding inward
  set_out =
      let e : level - level ≡ 0 = omega arith in
      record { node = z.node; low = omega arith; high = refl; way = z.way; few = rw e (omega arith); same = rw e }

  -- where the code has a direction left
  pub goes_on : (way : Option ℕ) (q l left moves : ℕ) → (way ≡ way_to (direction_of way)) × Climbed n T p level D q l (direction_of way) moves → way ≡ Some left
      → (left < stay) × Climbed n T p level D q l left moves
  goes_on way q l left moves h e =
      let v = rw e at h.1 in
      let s = way_some left (rw e at h.0) in
      (omega (arith, v.way, s), v)

  -- and where it has none
  pub goes_no_further : (way : Option ℕ) (q l moves : ℕ) → Climbed n T p level D q l (direction_of way) moves → way ≡ None → Climbed n T p level D q l stay moves
  goes_no_further way q l moves h e = rw e at h

  pub turn : (node above way moves q f : ℕ) → Climbed n T p level D node above way moves → (node ≡ 0 → ⊥) → q ≡ son_type T node → f ≡ father T node
      → Turn n T p level D node above way moves q f
  turn node above way moves q f c up eq ef =
      let acc = z.accepted in
      let pos : 0 < node = omega arith in
      let below = father_below n T acc node c.node pos in
      let q4 : q < 4 = rw eq (son_type_lt n T acc node c.node pos) in
      let st = steers way q c.way q4 in
      let d : depth_to T n node ≡ suc (depth_to T n f) = rw ef (depth_up n T acc node c.node pos) in
      let k : ℕ = above - level in
      let e : above + 1 - level ≡ suc k = omega (arith, c.low) in
      let rise : moved way (path_to T n node) ≡ inner (mirror_of way q) (moved (onward_of way q) (path_to T n f)) =
      rw (eq, ef, path_up n T acc node c.node pos) (unfold moved in refl) in
      let high : above < top_level = omega (arith, c.high, z.low, acc.sized.level) in
      let fits = moves_fit k moves c.few (omega arith) in
      record {
        quadrant = q4;
        falls = omega arith;
        father = omega (arith, c.node);
        high = high;
        fits = omega (arith, st.small);
        small = st.small;
        next = record {
          node = omega (arith, c.node);
          low = omega (arith, c.low);
          high = omega (arith, c.high);
          way = st.way;
          few = rw e (omega (arith, c.few, pow-succ' 4 k, st.small));
          same = c.same ∙ rw (rise, e) (sym (inward_inner k moves (mirror_of way q) (moved (onward_of way q) (path_to T n f)) st.small));
        };
      }

  -- nothing lies beside the whole sheet
  pub none_above : (q l left moves : ℕ) → Climbed n T p level D q l left moves → q ≡ 0 → (left ≡ stay → ⊥) → moved D (path_to T n p) ≡ off
  unfolding moved
  none_above q l left moves h e s =
      let w : moved left (path_to T n q) ≡ off = rw (e, path_root T n, moved, ne_eqb left stay s) in
      rw (h.same, w, inward_off (l - level) moves)

  pub none_found : (r : Option Climb) → Ended n T p level D r → r ≡ None → None ≡ found_in n T level (moved D (path_to T n p))
  unfolding Ended found_in
  none_found r h e = let z = rw e at h in rw (z, found_in)

  pub some_found : (r : Option Climb) (c : Climb) → Ended n T p level D r → r ≡ Some c → Climbed n T p level D c.node c.level stay c.moves
  unfolding Ended
  some_found r c h e = rw e at h

  -- from where the climb ended, its moves lead to the block
  pub leads : (c : Climb) → Climbed n T p level D c.node c.level stay c.moves → back_from n T c level ≡ moved D (path_to T n p)
  leads c h = sym (h.same ∙ rw (moved_stay (path_to T n c.node)))

-- a descent under way: at a node, with so many moves left
pub record Under (n : ℕ) (T : List ℕ) (target : Where) (level node its moves : ℕ) : Type 0 where
  pub path : List ℕ
  pub here : node ≡ holder T path
  pub below : node < nodes T
  pub size : length path ≡ depth_to T n node
  pub low : level ≤ its
  pub leads : inward (its - level) moves (block path) ≡ target

module _ (n : ℕ) (T : List ℕ) (acc : Accepted n T) (target : Where) (level : ℕ) where
  pub go_down : (c : Climb) → c.node < nodes T → level ≤ c.level → back_from n T c level ≡ target → Under n T target level c.node c.level c.moves
  go_down c lt le e = record {
    path = path_to T n c.node;
    here = sym (own_path n T acc c.node lt);
    below = lt;
    size = own_depth n T acc c.node lt;
    low = le;
    leads = e;
  }

  -- a son link more
  pub one_down : (node its moves s : ℕ) → Under n T target level node its moves → level < its → is_fork T node ≡ true → s ≡ son T node (moves % 4)
      → Under n T target level s (its - 1) (moves / 4)
  unfolding inward inner
  one_down node its moves s u lt f es =
      let q4 : moves % 4 < 4 = omega arith in
      let i = sons_of n T acc node u.below f (moves % 4) q4 in
      let d = depth_son n T acc node (moves % 4) u.below f q4 in
      let e : its - level ≡ suc (its - 1 - level) = omega arith in
      record {
        path = moves % 4 ∷ u.path;
        here = es ∙ rw u.here (sym (holder_fork T (moves % 4) u.path (rw u.here at f)));
        below = rw es i.below;
        size = rw es (ap suc u.size ∙ sym d);
        low = omega arith;
        leads = rw e at u.leads;
      }

  -- at the level itself
  pub arrived : (node its moves : ℕ) → Under n T target level node its moves → its ≤ level → At node its ≡ found_in n T level target
  unfolding inward found_in
  arrived node its moves u le =
      let e : its - level ≡ 0 = omega arith in
      let z : level + (length u.path - depth_to T n node) ≡ its = omega (arith, u.size, u.low) in
      rw (← u.leads, e, found_in, ← u.here, z)

  -- in a leaf the other moves stay
  stays_in : (k moves : ℕ) (path : List ℕ) → is_fork T (holder T path) ≡ false
      → found_in n T level (inward k moves (block path)) ≡ At (holder T path) (level + (length path + k - depth_to T n (holder T path)))
  unfolding inward inner found_in
  stays_in zero moves path f = simp add-zero refl
  stays_in (suc k) moves path f =
      let e = holder_leaf T (moves % 4) path f in
      let h = stays_in k (moves / 4) (moves % 4 ∷ path) (rw e f) in
      let z : suc (length path) + k ≡ length path + suc k = omega arith in
      rw (e, z) at h

  pub stopped : (node its moves : ℕ) → Under n T target level node its moves → is_fork T node ≡ false → At node its ≡ found_in n T level target
  stopped node its moves u f =
      let h = stays_in (its - level) moves u.path (rw u.here at f) in
      let z : level + (length u.path + (its - level) - depth_to T n node) ≡ its = omega (arith, u.size, u.low) in
      sym (rw (u.leads, ← u.here, z) at h)
