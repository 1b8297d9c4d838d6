-- The fast way accepts exactly the tables with no fault (`sound_exactly`): what it accepts has none (SoundLaws), and of
-- a faultless table every node is seen, as many as its tree has.
use mathlib.Core.Bool.{Bool, true, false}
use mathlib.Core.List.{List}
use mathlib.Core.Logic.{⊎_elim}
use mathlib.Core.Path.{◌≡◌, refl, ap, sym, ◌∙◌}
use Prim.Native.Nat.{ℕ, zero, suc, ◌+◌, ◌-◌, ◌<◌}
use native.Mathlib.Omega.{arith}
use lib.Dec.{eqb}
use borrow.Author.Tests.{eq-eqb, ne_eqb, eqb-true}
use Rattle.base.proofs.BoolLaws.{by_bool}
use Rattle.base.proofs.CaseLaws.{past, through}
use Rattle.quad.specs.Numbers.{fork_type, none}
use Rattle.quad.specs.Tree.{like_types, size_of}
use Rattle.quad.proofs.TreeLaws.{by_quadrant, size_pos}
use Rattle.table.specs.Table.{nodes, father, son, node_type, is_fork}
use Rattle.table.specs.Rules.{depth_to, Sized, Accepted}
use Rattle.table.specs.Nodes.{tree_at}
use Rattle.table.specs.Links.{four_sons}
use Rattle.table_sound.specs.Seen.{like_leaves, fork_ok, leaf_ok, added, seen_of, sound_of}
use Rattle.table.proofs.RuleLaws.{depth_root}
use Rattle.table.proofs.AcceptedLaws.{tree_leaf, tree_fork, root_father, sons_of, leaf_sons, leaf_colour, son_type_only, not_alike, fork_deep, depth_son}
use Rattle.table.proofs.SizeLaws.{tree_size}
use Rattle.table_sound.proofs.SeenLaws.{sons_seen, seen_leaf, seen_fork, leaf_words_ok, added_all, fit_sons}
use Rattle.table_sound.proofs.SoundLaws.{sound_faultless}

module _ (n : ℕ) (T : List ℕ) (acc : Accepted n T) where
  -- no two sons are one node
  sons_apart : (p : ℕ) → p < nodes T → is_fork T p ≡ true → (i j : ℕ) → i < 4 → j < 4 → (i ≡ j → ⊥) → eqb (son T p i) (son T p j) ≡ false
  sons_apart p lt f i j i4 j4 h =
      ne_eqb _ _ (λ e.
      let a = sons_of n T acc p lt f i i4 in
      let b = sons_of n T acc p lt f j j4 in
      let k = son_type_only n T acc (son T p i) i a.below (omega arith) i4 (ap (λ (k : ℕ). son T k i) a.up) in
      let m = son_type_only n T acc (son T p i) j a.below (omega arith) j4 (ap (λ (k : ℕ). son T k j) a.up ∙ sym e) in
      h (k ∙ sym m))

  not_like : (p : ℕ) → p < nodes T → is_fork T p ≡ true → like_leaves T (four_sons T p) ≡ false
  unfolding like_leaves four_sons like_types
  not_like p lt f = go (like_leaves T (four_sons T p)) refl
    where
      go : (b : Bool) → like_leaves T (four_sons T p) ≡ b → b ≡ false
      go false e = refl
      go true e =
          let x = past (eqb (node_type T (son T p 0)) fork_type) _ e in
          let y = through (eqb (node_type T (son T p 0)) (node_type T (son T p 1))) _ x.1 in
          let z = through (eqb (node_type T (son T p 0)) (node_type T (son T p 2))) _ y.1 in
          absurd (not_alike n T acc p lt f x.0 (by_quadrant (λ (q : ℕ). node_type T (son T p q) ≡ node_type T (son T p 0)) refl
          (sym (eqb-true _ _ y.0)) (sym (eqb-true _ _ z.0)) (sym (eqb-true _ _ z.1))))

  fork_fits : (p : ℕ) → p < nodes T → is_fork T p ≡ true → fork_ok T p ≡ true
  fork_fits p lt f =
      let apart = sons_apart p lt f in
      fit_sons T p (record {
        sons = sons_of n T acc p lt f;
        apart = record {
          ab = apart 0 1 (omega arith) (omega arith) (λ e. omega arith);
          ac = apart 0 2 (omega arith) (omega arith) (λ e. omega arith);
          ad = apart 0 3 (omega arith) (omega arith) (λ e. omega arith);
          bc = apart 1 2 (omega arith) (omega arith) (λ e. omega arith);
          bd = apart 1 3 (omega arith) (omega arith) (λ e. omega arith);
          cd = apart 2 3 (omega arith) (omega arith) (λ e. omega arith);
        };
        unlike = not_like p lt f;
      })

  leaf_fits : (p : ℕ) → p < nodes T → is_fork T p ≡ false → leaf_ok T p ≡ true
  leaf_fits p lt f = leaf_words_ok T p (leaf_colour n T acc p lt f) (leaf_sons n T acc p lt f)

  seen_size : (l p : ℕ) → p < nodes T → l + depth_to T n p ≡ n → seen_of T l p ≡ size_of (tree_at T l p)
  unfolding size_of
  seen_size zero p lt d =
      ⊎_elim
      (λ (f : is_fork T p ≡ true). absurd (omega (arith, fork_deep n T acc p lt f)))
      (λ (f : is_fork T p ≡ false). rw (tree_leaf T 0 p f) (seen_leaf T 0 p f (leaf_fits p lt f)))
      (by_bool (is_fork T p))
  seen_size (suc l) p lt d =
      ⊎_elim
      (λ (f : is_fork T p ≡ true).
      let ih : (q : ℕ) → q < 4 → seen_of T l (son T p q) ≡ size_of (tree_at T l (son T p q)) =
      λ q q4. seen_size l (son T p q) (sons_of n T acc p lt f q q4).below (omega (arith, depth_son n T acc p q lt f q4)) in
      let k : suc l - 1 ≡ l = omega arith in
      let e : added (sons_seen T l p) 4 0 1 ≡ seen_of T (suc l) p = rw k at (seen_fork T (suc l) p f (λ z. omega arith) (fork_fits p lt f)) in
      let a = added_all (sons_seen T l p) (λ q q4. omega (arith, ih q q4, size_pos (tree_at T l (son T p q)))) in
      rw (tree_fork T l p f) (sym e ∙ a ∙ omega (arith, ih 0 (omega arith), ih 1 (omega arith), ih 2 (omega arith), ih 3 (omega arith))))
      (λ (f : is_fork T p ≡ false). rw (tree_leaf T (suc l) p f) (seen_leaf T (suc l) p f (leaf_fits p lt f)))
      (by_bool (is_fork T p))

  pub accepted_sound : sound_of n T ≡ true
  unfolding sound_of
  accepted_sound =
      let e = seen_size n 0 acc.sized.some (omega (arith, depth_root T n)) ∙ tree_size n T acc in
      rw (eq-eqb (father T 0) none (root_father n T acc), eq-eqb (nodes T) (seen_of T n 0) (sym e))

-- the fast way accepts exactly the tables with no fault
pub sound_exactly : (n : ℕ) (T : List ℕ) → Sized n T → (sound_of n T ≡ true → Accepted n T) × (Accepted n T → sound_of n T ≡ true)
sound_exactly n T sz = (λ e. record { sized = sz; faultless = sound_faultless n T sz e }, accepted_sound n T)
