-- The eight neighbours of a fork's son, found at once: quadrant by quadrant they are computed from document 000's
-- tables, and they are the search's (`son_surrounds`).
use mathlib.Core.Bool.{true, false}
use mathlib.Core.List.{List, [], ◌∷◌}
use mathlib.Core.Logic.{⊎_elim}
use mathlib.Core.Path.{◌≡◌, refl, ap, sym, ◌∙◌}
use Prim.Native.Nat.{ℕ, zero, suc, ◌+◌, ◌-◌, ◌*◌, ◌/◌, ◌%◌, ◌<◌}
use native.Mathlib.Nat.{zero-add}
use native.Mathlib.Omega.{arith}
use lib.Dec.{eqb}
use mir.Val.{bool_byte}
use lib.ListN.{get_or, set, replicate, get_or-replicate}
use borrow.Author.Tests.{eqb-true, eqb-false}
use Rattle.std.proofs.Common.{Option, Some, None}
use Rattle.base.specs.Tab.{tab_from}
use Rattle.base.proofs.BoolLaws.{by_bool}
use Rattle.base.proofs.TabLaws.{tab_at}
use Rattle.quad.specs.Numbers.{fork_type}
use Rattle.table.specs.Table.{nodes, son, node_type, is_fork}
use Rattle.table.specs.Rules.{Accepted}
use Rattle.table.specs.Nodes.{level_of}
use Rattle.neighbour.specs.declared.Found.{Found}
use Rattle.neighbour.specs.Neighbour.{neighbour_found, At}
use Rattle.neighbour.specs.Search.{stay, onward_of, mirror_of}
use Rattle.neighbour_around.specs.SonBeside.{part_in}
use Rattle.neighbour.proofs.SearchLaws.{steers}
use Rattle.neighbour.proofs.FoundLaws.{found_facts}
use Rattle.neighbour_around.proofs.BesideLaws.{son_beside, stays_own, none_beside}
use Rattle.neighbour_around.specs.Surround.{node_or, part_of, InNodes, son_near, son_surround, Surrounds}

-- the one of two that a type picks
pub quarter_picked : (T : List ℕ) (w k kind which : ℕ) → kind ≡ node_type T w → which ≡ bool_byte (eqb kind fork_type) → get_or (w ∷ son T w k ∷ []) which 0 ≡ part_of T k w
unfolding part_of
quarter_picked T w k kind which is e =
    ⊎_elim
    (λ (h : eqb kind fork_type ≡ true).
    let f : is_fork T w ≡ true = rw is at h in
    rw (e, h, f))
    (λ (h : eqb kind fork_type ≡ false).
    let f : is_fork T w ≡ false = rw is at h in
    rw (e, h, f))
    (by_bool (eqb kind fork_type))

-- the eight as they are placed, one quadrant after the other
pub sons_placed : (T : List ℕ) (p q : ℕ) (near old : List ℕ) (a b c d e : ℕ) → q < 4 → old ≡ replicate 8 0
    → a ≡ part_of T (q + 1 - 2 * (q % 2)) (get_or near (3 - 2 * (q % 2)) 0) → b ≡ part_of T ((q + 2) % 4) (get_or near (2 * (q / 2)) 0)
    → c ≡ part_of T (3 - q) (get_or near (4 + q) 0) → d ≡ part_of T (3 - q) (get_or near (2 * (q / 2)) 0) → e ≡ part_of T (3 - q) (get_or near (3 - 2 * (q % 2)) 0)
    → set (set (set (set (set (set (set (set old (3 - 2 * (q % 2)) a) (2 * (q / 2)) b) (4 + q) c) (4 + (q + 1 - 2 * (q % 2))) d) (4 + (q + 2) % 4) e)
    (4 - (3 - 2 * (q % 2))) (son T p (q + 1 - 2 * (q % 2)))) (2 - 2 * (q / 2)) (son T p ((q + 2) % 4))) (4 + (3 - q)) (son T p (3 - q))
    ≡ son_surround T p q near
unfolding son_surround son_near onward_of mirror_of tab_from
sons_placed T p zero near old a b c d e q4 z ea eb ec ed ee = rw (z, ea, eb, ec, ed, ee) refl
sons_placed T p (suc zero) near old a b c d e q4 z ea eb ec ed ee = rw (z, ea, eb, ec, ed, ee) refl
sons_placed T p (suc (suc zero)) near old a b c d e q4 z ea eb ec ed ee = rw (z, ea, eb, ec, ed, ee) refl
sons_placed T p (suc (suc (suc zero))) near old a b c d e q4 z ea eb ec ed ee = rw (z, ea, eb, ec, ed, ee) refl
sons_placed T p (suc (suc (suc (suc q)))) near old a b c d e q4 z ea eb ec ed ee = absurd (omega arith)

-- a part of what was found has the part's number
pub part_number : (T : List ℕ) (x k : ℕ) → is_fork T x ≡ false → (g : Option Found) → node_or x (part_in T k g) ≡ part_of T k (node_or x g)
unfolding node_or part_in part_of
part_number T x k f None = rw f
part_number T x k f (Some g) =
    ⊎_elim (λ (h : is_fork T g.node ≡ true). rw h) (λ (h : is_fork T g.node ≡ false). rw h) (by_bool (is_fork T g.node))

brother_number : (T : List ℕ) (x p k l : ℕ) → is_fork T p ≡ true → node_or x (part_in T k (At p l)) ≡ son T p k
unfolding node_or part_in
brother_number T x p k l f = rw f

-- the eight of a fork's son are the search's
module _ {n : ℕ} {T : List ℕ} {x p : ℕ} {near : List ℕ} (acc : Accepted n T) (s : Surrounds n T x p near) (lt : p < nodes T) (f : is_fork T p ≡ true) (q : ℕ) (q4 : q < 4) where
  near_is : (D : ℕ) → D < stay → son_near T p q near D ≡ node_or x (neighbour_found n T (son T p q) D)
  unfolding son_near
  near_is D d =
      let k : ℕ = mirror_of D q in
      let step = son_beside n T acc p q D lt f q4 (omega arith) in
      ⊎_elim
      (λ (h : eqb (onward_of D q) stay ≡ true).
      let own : neighbour_found n T p (onward_of D q) ≡ At p (level_of n T p) = ap (neighbour_found n T p) (eqb-true _ _ h) ∙ stays_own n T acc p lt in
      rw h (sym (ap (node_or x) step ∙ ap (λ (g : Option Found). node_or x (part_in T k g)) own ∙ brother_number T x p k (level_of n T p) f)))
      (λ (h : eqb (onward_of D q) stay ≡ false).
      let m = (steers D q (omega arith) q4).way in
      let other : onward_of D q ≡ stay → ⊥ = eqb-false (onward_of D q) stay h in
      let e = s.each (onward_of D q) (omega (arith, m, other)) in
      rw (h, e) (sym (ap (node_or x) step ∙ part_number T x k s.leaf (neighbour_found n T p (onward_of D q)))))
      (by_bool (eqb (onward_of D q) stay))

  pub son_surrounds : Surrounds n T x (son T p q) (son_surround T p q near)
  unfolding son_surround
  son_surrounds = record {
    off = s.off;
    leaf = s.leaf;
    each = λ D d. tab_at (son_near T p q near) stay 0 D d ∙ ap (son_near T p q near) (zero-add D) ∙ near_is D d;
  }

-- a number for what was found is a node's
number_node : (n : ℕ) (T : List ℕ) (x p D : ℕ) → Accepted n T → p < nodes T → D < stay → x < nodes T → (g : Option Found) → neighbour_found n T p D ≡ g → node_or x g < nodes T
unfolding node_or
number_node n T x p D acc lt d h None e = h
number_node n T x p D acc lt d h (Some g) e = (found_facts n T acc p D lt (omega arith) g.node g.level e).below

pub surround_nodes : {n : ℕ} {T : List ℕ} {x p : ℕ} {near : List ℕ} → Accepted n T → p < nodes T → Surrounds n T x p near → InNodes T near
surround_nodes {n} {T} {x} {p} acc lt s D d = rw (s.each D d) (number_node n T x p D acc lt d s.off (neighbour_found n T p D) refl)

-- around the root there is nothing
pub root_surrounds : (n : ℕ) (T : List ℕ) (x : ℕ) → Accepted n T → x < nodes T → is_fork T x ≡ false → Surrounds n T x 0 (replicate 8 x)
unfolding node_or
root_surrounds n T x acc lt f = record { off = lt; leaf = f; each = λ D d. get_or-replicate 8 D x 0 d ∙ ap (node_or x) (none_beside n T acc D d) }
