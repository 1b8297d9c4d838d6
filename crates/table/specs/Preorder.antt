-- The preorder table of a tree: a node before its sons, sons NW, NE, SW, SE (document 01: 'Building gives preorder
-- numbers').
use Rattle.std.specs.Prelude.{List, [], ◌∷◌, ◌++◌, ℕ, ◌+◌}
use Rattle.quad.specs.Numbers.{none, fork_type}
use Rattle.quad.specs.Tree.{Tree, leaf, fork, size_of}

-- the words of a tree whose root is node p and has father f
unfoldable pub preorder : ℕ → ℕ → Tree → List ℕ
preorder f p (leaf c) = f ∷ none ∷ none ∷ none ∷ none ∷ c ∷ []
preorder f p (fork a b c d) =
    let nw = p + 1 in
    let ne = nw + size_of a in
    let sw = ne + size_of b in
    let se = sw + size_of c in
    (f ∷ nw ∷ ne ∷ sw ∷ se ∷ fork_type ∷ []) ++ (preorder p nw a ++ (preorder p ne b ++ (preorder p sw c ++ preorder p se d)))

abbrev pub preorder_table : Tree → List ℕ
preorder_table t = preorder none 0 t
