-- Writing a block: a leaf's record, or a fork's and its sons' blocks one behind the other, are the records of the
-- tree's types.
use mathlib.Core.Bool.{true}
use mathlib.Core.List.{List, [], ◌∷◌, ◌++◌, append_assoc}
use mathlib.Core.Path.{◌≡◌, refl, ap, sym, ◌∙◌}
use Prim.Native.Nat.{ℕ, suc, ◌+◌, ◌-◌, ◌*◌, ◌≤◌, ◌<◌}
use native.Mathlib.Numerals.{add-one}
use native.Mathlib.Omega.{arith}
use lib.ListN.{length, length-append, get_or}
use lib.Seq.{sets, length-sets}
use borrow.Author.Tests.{ne_eqb}
use Rattle.base.proofs.SetsLaws.{sets_behind}
use Rattle.quad.specs.Numbers.{fork_type}
use Rattle.quad.specs.Tree.{Tree, leaf, fork, size_of, types_of}
use Rattle.quad.proofs.TreeLaws.{by_quadrant, size_pos, types_length}
use Rattle.table.specs.Table.{nodes, son, node_type, is_fork}
use Rattle.table.specs.Links.{SonsIn, four_types}
use Rattle.table.specs.Nodes.{tree_at}
use Rattle.table.proofs.AcceptedLaws.{sons_of, tree_leaf, tree_fork, type_byte, fork_above, son_at}
use Rattle.file.specs.File.{mark, node_mark, records}
use Rattle.file.specs.Writing.{Writable, OverPixels, Wrote, son_tree, types_to, SonsWrote}

pub records_append : (xs ys : List ℕ) → records (xs ++ ys) ≡ records xs ++ records ys
unfolding records
records_append [] ys = refl
records_append (x ∷ xs) ys = rw (records_append xs ys)

pub records_length : (xs : List ℕ) → length (records xs) ≡ 3 * length xs
unfolding records
records_length [] = refl
records_length (x ∷ xs) = omega (arith, records_length xs)

pub types_bytes : (t : Tree) → length (records (types_of t)) ≡ 3 * size_of t
types_bytes t = records_length (types_of t) ∙ ap (λ (k : ℕ). 3 * k) (types_length t)

-- one more record behind those that were written
record_after : (ks : List ℕ) (k at i : ℕ) (w v u : List ℕ) → v ≡ sets w at (records ks) → u ≡ sets v i (mark ∷ node_mark ∷ k ∷ [])
    → i ≡ at + 3 * length ks → u ≡ sets w at (records (ks ++ (k ∷ [])))
unfolding records
record_after ks k at i w v u e f h =
    sets_behind w v u at i (records ks) (records (k ∷ [])) e f (omega (arith, records_length ks)) ∙ ap (sets w at) (sym (records_append ks (k ∷ [])))

wrote_leaf : (k at : ℕ) (before after : List ℕ) → after ≡ sets before at (mark ∷ node_mark ∷ k ∷ []) → Wrote (leaf k) at before after (at + 3)
unfolding records types_of size_of
wrote_leaf k at before after e = record { next = refl; bytes = e }

pub wrote_length : {t : Tree} {at r : ℕ} {before after : List ℕ} → Wrote t at before after r → length after ≡ length before
wrote_length {t} {at} {before = before} h = ap length h.bytes ∙ length-sets before at (records (types_of t))

-- a node that is written
module _ (T : List ℕ) (l p at : ℕ) (w : List ℕ) (ok : Writable T l p at (length w)) where
  pub record_room : at + 3 ≤ length w
  record_room = omega (arith, ok.room, size_pos (tree_at T l p))

  module _ (k : ℕ) (e : k ≡ node_type T p) where
    pub kind_byte : k < 256
    kind_byte = omega (arith, type_byte ok.n T ok.place.accepted p ok.place.node)

    module _ (w₀ : List ℕ) (h₀ : w₀ ≡ sets w at (mark ∷ node_mark ∷ k ∷ [])) where
      same : length w₀ ≡ length w
      same = ap length h₀ ∙ length-sets w at (mark ∷ node_mark ∷ k ∷ [])

      pub writes_leaf : (k ≡ fork_type → ⊥) → Wrote (tree_at T l p) at w w₀ (at + 3)
      writes_leaf ne =
          rw (tree_leaf T l p (ne_eqb (node_type T p) fork_type (λ q. ne (e ∙ q))), ← e) (wrote_leaf k at w w₀ h₀)

pixels_size : (T : List ℕ) (p : ℕ) → is_fork T p ≡ true → size_of (tree_at T 1 p) ≡ 5
unfolding size_of tree_at
pixels_size T p f = rw (tree_fork T 0 p f)

-- a fork that is written, son by son
module _ (T : List ℕ) (l p at : ℕ) (w : List ℕ) (ok : Writable T l p at (length w)) (fk : is_fork T p ≡ true) where
  -- the level falls
  pub deep : 0 < l
  deep = fork_above ok.place fk

  pub lower : (m : ℕ) → l ≡ m → l - 1 < m
  lower m q = omega (arith, deep)

  tree : tree_at T l p ≡ fork (son_tree T l p 0) (son_tree T l p 1) (son_tree T l p 2) (son_tree T l p 3)
  unfolding son_tree
  tree =
      let s : l ≡ suc (l - 1) = omega (arith, deep) in
      ap (λ (j : ℕ). tree_at T j p) s ∙ tree_fork T (l - 1) p fk

  -- the types of a fork are its own and those of its four sons
  all_types : types_of (tree_at T l p) ≡ fork_type ∷ types_to T l p 4
  unfolding types_to types_of
  all_types = rw tree (simp append_assoc)

  all_size : size_of (tree_at T l p) ≡ 1 + length (types_to T l p 4)
  all_size = omega (arith, types_length (tree_at T l p), ap length all_types)

  more_types : (q : ℕ) → length (types_to T l p (suc q)) ≡ length (types_to T l p q) + size_of (son_tree T l p q)
  unfolding types_to
  more_types q = simp length-append (omega (arith, types_length (son_tree T l p q)))

  few_types : (q : ℕ) → q < 4 → length (types_to T l p (suc q)) ≤ length (types_to T l p 4)
  few_types =
      by_quadrant (λ (q : ℕ). length (types_to T l p (suc q)) ≤ length (types_to T l p 4))
      (omega (arith, more_types 1, more_types 2, more_types 3)) (omega (arith, more_types 2, more_types 3)) (omega (arith, more_types 3)) (omega arith)

  -- its own record stands, and then its sons' blocks
  module _ (w₀ : List ℕ) (h₀ : w₀ ≡ sets w at (mark ∷ node_mark ∷ fork_type ∷ [])) where
    headed : length w₀ ≡ length w
    headed = ap length h₀ ∙ length-sets w at (mark ∷ node_mark ∷ fork_type ∷ [])

    module _ (q next : ℕ) (w' : List ℕ) (q4 : q < 4) (so : SonsWrote T l p q (at + 3) w₀ w' next) where
      kept : length w' ≡ length w₀
      kept = ap length so.bytes ∙ length-sets w₀ (at + 3) (records (types_to T l p q))

      pub son_ok_lem : (s : ℕ) → s ≡ son T p q → Writable T (l - 1) s next (length w')
      unfolding son_tree
      son_ok_lem s e = rw e (record {
        n = ok.n;
        place = son_at ok.place fk q q4;
        room = omega (arith, so.next, kept, headed, ok.room, all_size, more_types q, few_types q q4);
      })

      pub son_room : next + 3 ≤ length w
      son_room = omega (arith, so.next, ok.room, all_size, more_types q, few_types q q4, size_pos (son_tree T l p q))

      -- a fork over four pixels among them
      pub pixels_ok : (s : ℕ) → s ≡ son T p q → is_fork T s ≡ true → l ≡ 2 → OverPixels T s × (next + 15 ≤ length w')
      pixels_ok s e f two =
          let go : Writable T (l - 1) s next (length w') = son_ok_lem s e in
          let one : l - 1 ≡ 1 = omega arith in
          let h : Writable T 1 s next (length w') = rw one at go in
          (record { n = h.n; place = h.place; over = f }, omega (arith, h.room, pixels_size T s f))

      pub pixels_here : (s r : ℕ) (w'' : List ℕ) → l ≡ 2 → Wrote (tree_at T 1 s) next w' w'' r → Wrote (tree_at T (l - 1) s) next w' w'' r
      pixels_here s r w'' two h =
          let one : l - 1 ≡ 1 = omega arith in
          rw one h

      pub son_wrote : (s r : ℕ) (w'' : List ℕ) → s ≡ son T p q → Wrote (tree_at T (l - 1) s) next w' w'' r → SonsWrote T l p (q + 1) (at + 3) w₀ w'' r
      unfolding son_tree types_to
      son_wrote s r w'' e h =
          let xs : List ℕ = types_to T l p q in
          let ys : List ℕ = types_of (tree_at T (l - 1) (son T p q)) in
          let h' : Wrote (tree_at T (l - 1) (son T p q)) next w' w'' r = rw e at h in
          rw (add-one q) (record {
            next = omega (arith, h'.next, so.next, more_types q);
            bytes = sets_behind w₀ w' w'' (at + 3) next (records xs) (records ys) so.bytes h'.bytes (omega (arith, so.next, records_length xs))
                ∙ ap (sets w₀ (at + 3)) (sym (records_append xs ys));
          })

    pub all_wrote : (q next : ℕ) (w' : List ℕ) → q ≡ 4 → SonsWrote T l p q (at + 3) w₀ w' next → Wrote (tree_at T l p) at w w' next
    unfolding records
    all_wrote q next w' e so =
        let so' : SonsWrote T l p 4 (at + 3) w₀ w' next = rw e at so in
        record {
          next = omega (arith, so'.next, all_size);
          bytes = sets_behind w w₀ w' at (at + 3) (mark ∷ node_mark ∷ fork_type ∷ []) (records (types_to T l p 4)) h₀ so'.bytes refl
              ∙ ap (λ (v : List ℕ). sets w at (records v)) (sym all_types);
        }

-- a fork over four pixels
module _ (T : List ℕ) (p : ℕ) (ok : OverPixels T p) where
  -- what reading its sons' types asks, and what it tells
  pub types_asked : (p < nodes T) × SonsIn T p
  types_asked = (ok.place.node, sons_of ok.n T ok.place.accepted p ok.place.node ok.over)

  module _ (kinds : List ℕ) (e : kinds ≡ four_types T p) where
    pub types_told : (get_or kinds 0 0 ≡ node_type T (son T p 0)) × (get_or kinds 1 0 ≡ node_type T (son T p 1)) × (get_or kinds 2 0 ≡ node_type T (son T p 2))
        × (get_or kinds 3 0 ≡ node_type T (son T p 3))
    unfolding four_types
    types_told = rw e (refl, refl, refl, refl)

    type_low : (q : ℕ) → q < 4 → node_type T (son T p q) < 256
    type_low q q4 = type_byte ok.n T ok.place.accepted (son T p q) (son_at ok.place ok.over q q4).node

    pub types_low : (get_or kinds 0 0 < 256) × (get_or kinds 1 0 < 256) × (get_or kinds 2 0 < 256) × (get_or kinds 3 0 < 256)
    types_low =
        let t = types_told in
        rw (t.0, t.1, t.2, t.3) (type_low 0 (omega arith), type_low 1 (omega arith), type_low 2 (omega arith), type_low 3 (omega arith))

  pub pixels_wrote : (a b c d at : ℕ) (w w₀ w₁ w₂ w₃ w₄ : List ℕ)
      → a ≡ node_type T (son T p 0) → b ≡ node_type T (son T p 1) → c ≡ node_type T (son T p 2) → d ≡ node_type T (son T p 3)
      → w₀ ≡ sets w at (mark ∷ node_mark ∷ fork_type ∷ []) → w₁ ≡ sets w₀ (at + 3) (mark ∷ node_mark ∷ a ∷ []) → w₂ ≡ sets w₁ (at + 6) (mark ∷ node_mark ∷ b ∷ [])
      → w₃ ≡ sets w₂ (at + 9) (mark ∷ node_mark ∷ c ∷ []) → w₄ ≡ sets w₃ (at + 12) (mark ∷ node_mark ∷ d ∷ []) → Wrote (tree_at T 1 p) at w w₄ (at + 15)
  unfolding records types_of size_of tree_at
  pixels_wrote a b c d at w w₀ w₁ w₂ w₃ w₄ ea eb ec ed e₀ e₁ e₂ e₃ e₄ =
      let k : ℕ = fork_type in
      let h₁ = record_after (k ∷ []) a at (at + 3) w w₀ w₁ e₀ e₁ refl in
      let h₂ = record_after (k ∷ a ∷ []) b at (at + 6) w w₁ w₂ h₁ e₂ refl in
      let h₃ = record_after (k ∷ a ∷ b ∷ []) c at (at + 9) w w₂ w₃ h₂ e₃ refl in
      let h₄ = record_after (k ∷ a ∷ b ∷ c ∷ []) d at (at + 12) w w₃ w₄ h₃ e₄ refl in
      rw (tree_fork T 0 p ok.over, ← ea, ← eb, ← ec, ← ed) (record { next = refl; bytes = h₄ })

-- nothing yet
pub none_wrote : (T : List ℕ) (l p at : ℕ) (w : List ℕ) → SonsWrote T l p 0 at w w at
unfolding types_to records
none_wrote T l p at w = record { next = omega arith; bytes = refl }
