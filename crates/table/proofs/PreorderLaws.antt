-- How the words of a tree come together in a table: a fork's parts in the order in which a pass writes them, its own
-- six words last. The words from node p on are then the tree's preorder words, and all other words are as they were.
use mathlib.Core.List.{List, [], ◌∷◌, ◌++◌, append_assoc}
use mathlib.Core.Path.{◌≡◌, refl, ap, ◌∙◌}
use Prim.Native.Nat.{ℕ, zero, suc, ◌+◌, ◌*◌, ◌≤◌, ◌<◌}
use native.Mathlib.Omega.{arith}
use lib.ListN.{length, set, length-append}
use lib.Seq.{sets, length-sets}
use Rattle.base.specs.Tab.{overlay}
use Rattle.base.proofs.SetsLaws.{sets_after, sets_apart, sets_before, sets_four, sets_overlay}
use Rattle.quad.specs.Numbers.{none, fork_type}
use Rattle.quad.specs.Tree.{Tree, leaf, fork, son_of, size_of}
use Rattle.table.specs.Preorder.{preorder, preorder_table}

-- a tree has six words for each node
pub preorder_length : (f p : ℕ) (t : Tree) → length (preorder f p t) ≡ 6 * size_of t
unfolding preorder size_of
preorder_length f p (leaf c) = refl
preorder_length f p (fork a b c d) =
    simp length-append
    (omega (
      arith,
      preorder_length p (p + 1) a,
      preorder_length p (p + 1 + size_of a) b,
      preorder_length p (p + 1 + size_of a + size_of b) c,
      preorder_length p (p + 1 + size_of a + size_of b + size_of c) d,
    ))

-- the table `after` is the table `before` with the tree t, under father f, written from node p on
abbrev pub Written : ℕ → ℕ → Tree → List ℕ → List ℕ → Type 0
Written f p t before after = after ≡ sets before (6 * p) (preorder f p t)

-- a leaf's six words
pub written_leaf : (c p f : ℕ) (before after : List ℕ) → after ≡ sets before (6 * p) (f ∷ none ∷ none ∷ none ∷ none ∷ c ∷ []) → Written f p (leaf c) before after
unfolding preorder
written_leaf c p f before after e = e

-- the four parts of a fork in their order, and its six words last
pub written_fork : (A B C D : Tree) (p f i j k m : ℕ) (U₀ U₁ U₂ U₃ U₄ after : List ℕ)
    → i ≡ p + 1 → j ≡ i + size_of A → k ≡ j + size_of B → m ≡ k + size_of C
    → Written p i A U₀ U₁ → Written p j B U₁ U₂ → Written p k C U₂ U₃ → Written p m D U₃ U₄
    → after ≡ sets U₄ (6 * p) (f ∷ i ∷ j ∷ k ∷ m ∷ fork_type ∷ []) → Written f p (fork A B C D) U₀ after
unfolding preorder
written_fork A B C D p f i j k m U₀ U₁ U₂ U₃ U₄ after ei ej ek em a b c d h =
    let wa = preorder p i A in
    let wb = preorder p j B in
    let wc = preorder p k C in
    let wd = preorder p m D in
    let la = preorder_length p i A in
    let lb = preorder_length p j B in
    let lc = preorder_length p k C in
    let e : U₄ ≡ sets U₀ (6 * i) (wa ++ (wb ++ (wc ++ wd))) =
    sets_four U₀ U₁ U₂ U₃ U₄ wa wb wc wd (6 * i) (6 * j) (6 * k) (6 * m) a b c d (omega arith) (omega arith) (omega arith) in
    let z : after ≡ sets U₀ (6 * p) ((f ∷ i ∷ j ∷ k ∷ m ∷ fork_type ∷ []) ++ (wa ++ (wb ++ (wc ++ wd)))) =
    h
    ∙ ap (λ (l : List ℕ). sets l (6 * p) (f ∷ i ∷ j ∷ k ∷ m ∷ fork_type ∷ [])) e
    ∙ sets_before U₀ (6 * p) (6 * i) (f ∷ i ∷ j ∷ k ∷ m ∷ fork_type ∷ []) (wa ++ (wb ++ (wc ++ wd))) (omega arith) in
    rw (em, ek, ej, ei) at z

-- as long as it was; and a tree written from node 0 on lies over the table's start
pub written_length : (f p : ℕ) (t : Tree) (before after : List ℕ) → Written f p t before after → length after ≡ length before
written_length f p t before after e = ap length e ∙ length-sets before (6 * p) (preorder f p t)

pub written_whole : (t : Tree) (before after : List ℕ) → 6 * size_of t ≤ length before → Written none 0 t before after → after ≡ overlay (preorder_table t) before
written_whole t before after le e =
    let n = preorder_length none 0 t in
    e ∙ sets_overlay (preorder_table t) before (omega arith)

-- The other order: a fork's father word, then for each son its number and its part, and the type last.
-- where a fork's son q stands, the fork being node p; so `son_node p t 4` is the node after the fork's parts
unfoldable pub son_node : ℕ → Tree → ℕ → ℕ
son_node p t zero = p + 1
son_node p t (suc q) = son_node p t q + size_of (son_of t q)

-- the numbers and the parts of the sons before son q
unfoldable pub numbers_to : ℕ → Tree → ℕ → List ℕ
numbers_to p t zero = []
numbers_to p t (suc q) = numbers_to p t q ++ (son_node p t q ∷ [])

unfoldable pub parts_to : ℕ → Tree → ℕ → List ℕ
parts_to p t zero = []
parts_to p t (suc q) = parts_to p t q ++ preorder p (son_node p t q) (son_of t q)

-- the table `after` is the table `before` with these numbers and parts, and k more numbers than parts
abbrev pub SonsWritten : ℕ → Tree → ℕ → ℕ → List ℕ → List ℕ → Type 0
SonsWritten p t k q before after = after ≡ sets (sets before (6 * p + 1) (numbers_to p t (q + k))) (6 * p + 6) (parts_to p t q)

module _ (p : ℕ) (t : Tree) where
  numbers_length : (q : ℕ) → length (numbers_to p t q) ≡ q
  unfolding numbers_to
  numbers_length zero = refl
  numbers_length (suc q) = simp length-append (omega (arith, numbers_length q))

  parts_length : (q : ℕ) → length (parts_to p t q) + 6 * (p + 1) ≡ 6 * son_node p t q
  unfolding parts_to son_node
  parts_length zero = omega arith
  parts_length (suc q) = simp length-append (omega (arith, parts_length q, preorder_length p (son_node p t q) (son_of t q)))

  -- one number more: it stands before the parts
  pub number_written : (q next : ℕ) (before after then : List ℕ) → q < 4 → next ≡ son_node p t q → SonsWritten p t 0 q before after
      → then ≡ set after (6 * p + 1 + q) next → SonsWritten p t 1 q before then
  unfolding numbers_to
  number_written q next before after then q4 e h g =
      let ns : List ℕ = numbers_to p t q in
      let z : q + 0 ≡ q = omega arith in
      let o : q + 1 ≡ suc q = omega arith in
      let h' : after ≡ sets (sets before (6 * p + 1) ns) (6 * p + 6) (parts_to p t q) = rw z at h in
      let put : then ≡ sets after (6 * p + 1 + q) (next ∷ []) = g in
      rw o
      (put ∙ ap (λ (l : List ℕ). sets l (6 * p + 1 + q) (next ∷ [])) h'
      ∙ sets_apart (sets before (6 * p + 1) ns) (6 * p + 1 + q) (6 * p + 6) (next ∷ []) (parts_to p t q) (omega arith)
      ∙ ap (λ (l : List ℕ). sets l (6 * p + 6) (parts_to p t q))
      (sets_after before (6 * p + 1) (6 * p + 1 + q) ns (next ∷ []) (omega (arith, numbers_length q)) ∙ ap (λ (k : ℕ). sets before (6 * p + 1) (ns ++ (k ∷ []))) e))

  -- one part more
  pub part_written : (q next : ℕ) (before after then : List ℕ) → next ≡ son_node p t q → SonsWritten p t 1 q before after
      → then ≡ sets after (6 * next) (preorder p next (son_of t q)) → SonsWritten p t 0 (q + 1) before then
  unfolding parts_to
  part_written q next before after then e h g =
      let o : q + 1 ≡ suc q = omega arith in
      let z : q + 1 + 0 ≡ q + 1 = omega arith in
      let base : List ℕ = sets before (6 * p + 1) (numbers_to p t (q + 1)) in
      let g' : then ≡ sets after (6 * son_node p t q) (preorder p (son_node p t q) (son_of t q)) = rw e at g in
      let all : then ≡ sets base (6 * p + 6) (parts_to p t q ++ preorder p (son_node p t q) (son_of t q)) =
      g' ∙ ap (λ (l : List ℕ). sets l (6 * son_node p t q) (preorder p (son_node p t q) (son_of t q))) h
      ∙ sets_after base (6 * p + 6) (6 * son_node p t q) (parts_to p t q) (preorder p (son_node p t q) (son_of t q)) (omega (arith, parts_length q)) in
      rw (z, o) (rw o at all)

append_four : (xs ys zs ws : List ℕ) → ((([] ++ xs) ++ ys) ++ zs) ++ ws ≡ xs ++ (ys ++ (zs ++ ws))
append_four xs ys zs ws = append_assoc (xs ++ ys) zs ws ∙ append_assoc xs ys (zs ++ ws)

pub sons_length : (p : ℕ) (t : Tree) (k q : ℕ) (before after : List ℕ) → SonsWritten p t k q before after → length after ≡ length before
sons_length p t k q before after h =
    ap length h ∙ length-sets (sets before (6 * p + 1) (numbers_to p t (q + k))) (6 * p + 6) (parts_to p t q) ∙ length-sets before (6 * p + 1) (numbers_to p t (q + k))

-- nothing yet, and the whole
pub none_written : (p : ℕ) (t : Tree) (before : List ℕ) → SonsWritten p t 0 0 before before
unfolding numbers_to parts_to
none_written p t before = refl

pub sons_written : (a b c d : Tree) (p f q : ℕ) (before first after then : List ℕ) → q ≡ 4 → first ≡ set before (6 * p) f
    → SonsWritten p (fork a b c d) 0 q first after → then ≡ set after (6 * p + 5) fork_type → Written f p (fork a b c d) before then
unfolding preorder numbers_to parts_to son_node son_of
sons_written a b c d p f q before first after then e₄ e h g =
    let t : Tree = fork a b c d in
    let ns : List ℕ = numbers_to p t 4 in
    let ps : List ℕ = parts_to p t 4 in
    let six : List ℕ = (f ∷ []) ++ (ns ++ (fork_type ∷ [])) in
    let h' : after ≡ sets (sets first (6 * p + 1) ns) (6 * p + 6) ps = rw e₄ at h in
    let own : sets (sets first (6 * p + 1) ns) (6 * p + 5) (fork_type ∷ []) ≡ sets before (6 * p) six =
    sets_after first (6 * p + 1) (6 * p + 5) ns (fork_type ∷ []) (omega (arith, numbers_length p t 4))
    ∙ ap (λ (l : List ℕ). sets l (6 * p + 1) (ns ++ (fork_type ∷ []))) e
    ∙ sets_after before (6 * p) (6 * p + 1) (f ∷ []) (ns ++ (fork_type ∷ [])) refl in
    let put : then ≡ sets after (6 * p + 5) (fork_type ∷ []) = g in
    put ∙ ap (λ (l : List ℕ). sets l (6 * p + 5) (fork_type ∷ [])) h'
    ∙ sets_apart (sets first (6 * p + 1) ns) (6 * p + 5) (6 * p + 6) (fork_type ∷ []) ps (omega arith)
    ∙ ap (λ (l : List ℕ). sets l (6 * p + 6) ps) own
    ∙ sets_after before (6 * p) (6 * p + 6) six ps refl
    ∙ ap (λ (l : List ℕ). sets before (6 * p) (six ++ l)) (append_four (preorder p _ a) (preorder p _ b) (preorder p _ c) (preorder p _ d))
