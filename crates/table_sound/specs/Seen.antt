-- What is seen of a table from the root down (`table_seen`): inner definitions, by which the check accepts a sound
-- table fast. That they accept exactly the tables with no fault is proved (SoundExactly); no outside statement speaks
-- of them.
use Rattle.std.specs.Prelude.{Option, Some, None, Bool, false, not, ◌&&◌, cond, List, ℕ, zero, suc, ◌+◌, ◌<◌, leb, ltb, eqb, get_or}
use Rattle.std.specs.List.{All, list_all}
use Rattle.quad.specs.Numbers.{top_colour, none}
use Rattle.quad.specs.Tree.{like_types}
use Rattle.table.specs.Table.{nodes, father, son, node_type, is_fork}
use Rattle.table.specs.Links.{four_sons}

-- all are nodes
abbrev pub AllNodes : List ℕ → List ℕ → Type 0
AllNodes T sons = All (λ s. s < nodes T) sons

-- all lie above p and below N
unfoldable pub between : ℕ → ℕ → List ℕ → Bool
between p N sons = list_all (λ s. ltb p s && ltb s N) sons

-- no two of the four are the same
unfoldable pub different : List ℕ → Bool
different sons =
    let nw = get_or sons 0 0 in
    let ne = get_or sons 1 0 in
    let sw = get_or sons 2 0 in
    let se = get_or sons 3 0 in
    not (eqb nw ne) && not (eqb nw sw) && not (eqb nw se) && not (eqb ne sw) && not (eqb ne se) && not (eqb sw se)

-- all are k
unfoldable pub all_are : ℕ → List ℕ → Bool
all_are k words = list_all (λ w. eqb w k) words

-- p is the father of all
unfoldable pub father_of : List ℕ → ℕ → List ℕ → Bool
father_of T p sons = list_all (λ s. eqb (father T s) p) sons

-- the four are like leaves
unfoldable pub like_leaves : List ℕ → List ℕ → Bool
like_leaves T sons =
    like_types (node_type T (get_or sons 0 0)) (node_type T (get_or sons 1 0)) (node_type T (get_or sons 2 0)) (node_type T (get_or sons 3 0))

-- a fork's four sons are what they must be: different nodes above it whose father it is, and not like leaves
unfoldable pub fork_ok : List ℕ → ℕ → Bool
fork_ok T p =
    let sons = four_sons T p in
    between p (nodes T) sons && different sons && father_of T p sons && not (like_leaves T sons)

-- a leaf's type, and four son words that are None
unfoldable pub leaf_ok : List ℕ → ℕ → Bool
leaf_ok T p = leb (node_type T p) top_colour && all_are none (four_sons T p)

-- what the k sons from q on add to `all`; 0 where one of them adds nothing
unfoldable pub added : (ℕ → ℕ) → ℕ → ℕ → ℕ → ℕ
added g zero q all = all
added g (suc k) q all = cond (eqb (g q) 0) 0 (added g k (q + 1) (all + g q))

-- the nodes seen from p downwards, p at level l: 0 where something is wrong
unfoldable pub seen_of : List ℕ → ℕ → ℕ → ℕ
seen_of T zero p = cond (is_fork T p) 0 (cond (leaf_ok T p) 1 0)
seen_of T (suc l) p = cond (is_fork T p) (cond (fork_ok T p) (added (λ q. seen_of T l (son T p q)) 4 0 1) 0) (cond (leaf_ok T p) 1 0)

-- the same, or none where something is wrong
unfoldable pub some_seen : ℕ → Option ℕ
some_seen zero = None
some_seen (suc k) = Some (suc k)

-- the root has no father, and all nodes are seen from it
unfoldable pub sound_of : ℕ → List ℕ → Bool
sound_of n T = cond (eqb (father T 0) none) (eqb (nodes T) (seen_of T n 0)) false
