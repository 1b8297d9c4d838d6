-- A sheet of one leaf: it has one node, and a black one is the one pond.
use mathlib.Core.Bool.{Bool, true, false}
use mathlib.Core.List.{List}
use mathlib.Core.Path.{◌≡◌, refl, ap, sym, ◌∙◌}
use Prim.Native.Nat.{ℕ, ◌≤◌, ◌<◌}
use native.Mathlib.Omega.{arith}
use lib.Dec.{eqb}
use lib.ListN.{length, get_or, set, length-set}
use lib.Seq.{get_or-set_same}
use borrow.Author.Tests.{eq-eqb, ne_eqb}
use Rattle.quad.specs.Numbers.{black}
use Rattle.quad.specs.Tree.{size_of}
use Rattle.table.specs.Table.{nodes, node_type, is_fork}
use Rattle.table.specs.Rules.{one, Accepted}
use Rattle.table.proofs.AcceptedLaws.{tree_leaf}
use Rattle.table.proofs.SizeLaws.{tree_size}
use Rattle.ponds.specs.Chain.{end}
use Rattle.ponds.proofs.ChainLaws.{chain_start, chain_end}
use Rattle.ponds.proofs.NodeLaws.{same_or_not}
use Rattle.ponds.specs.Entries.{leaf_at}
use Rattle.ponds.specs.Numbered.{Numbered}
use Rattle.ponds.proofs.LeafLaws.{leaf_node}

one_few : (b : Bool) (k : ℕ) → k ≡ one b → k ≤ 1
one_few true k e = omega (arith, e)
one_few false k e = omega (arith, e)

pub black_one : (T : List ℕ) (p k : ℕ) → k ≡ one (eqb (node_type T p) black) → k ≤ 1
black_one T p k e = one_few (eqb (node_type T p) black) k e

module _ {n : ℕ} {T : List ℕ} (acc : Accepted n T) (f : is_fork T 0 ≡ false) where
  one_node : nodes T ≡ 1
  one_node = sym (tree_size n T acc) ∙ rw (tree_leaf T n 0 f) (unfold size_of in refl)

  only : (p : ℕ) → p < nodes T → p ≡ 0
  only p l = omega (arith, l, one_node)

  module _ (W : List ℕ) (long : length W ≡ nodes T) (k : ℕ) (e : k ≡ one (eqb (node_type T 0) black)) where
    pub leaf_within : 0 < length W
    leaf_within = omega (arith, long, one_node)

    here : get_or (set W 0 k) 0 0 ≡ k
    here = get_or-set_same W 0 k 0 leaf_within

    wet : node_type T 0 ≡ black → k ≡ 1
    wet b = rw (eq-eqb (node_type T 0) black b) at e

    dry : (node_type T 0 ≡ black → ⊥) → k ≡ 0
    dry nb = rw (ne_eqb (node_type T 0) black nb) at e

    few : k ≤ 1
    few = one_few (eqb (node_type T 0) black) k e

    pub leaf_numbered : Numbered n T (set W 0 k) k
    leaf_numbered = record {
      each = length-set W 0 k ∙ long;
      dry = λ p l nb. let z = only p l in rw (z, here) (dry (λ b. nb (ap (node_type T) z ∙ b)));
      some = λ p w. let z = only p w.node in rw (z, here) (omega (arith, wet (ap (node_type T) (sym z) ∙ w.wet)));
      few = λ p w. let z = only p w.node in rw (z, here) (omega arith);
      one = λ p q c. let z = only p (chain_start n T p q c).node in let o = only q (chain_end n T p q c).node in rw (z, o);
      apart = λ p q wp wq h. let z = only p wp.node in let o = only q wq.node in rw (o ∙ sym z) (end wp);
      order = λ i a l pos h.
          let z = only (leaf_at n T i) (leaf_node n T acc i) in
          let v : get_or (set W 0 k) (leaf_at n T i) 0 ≡ k = rw z here in
          absurd (omega (arith, pos, h, v, few));
      all = λ a pos le.
          same_or_not (node_type T 0) black
          (λ b. (0, record { node = acc.sized.some; wet = b }, here ∙ omega (arith, wet b, pos, le)))
          (λ nb. absurd (omega (arith, dry nb, pos, le)));
    }
