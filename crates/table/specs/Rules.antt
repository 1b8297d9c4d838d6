-- The check (document 01, 'Sheets and node tables'): the length, the six rules of a node in their order, and the first
-- fault in rising node number.
use Rattle.std.specs.Prelude.{Result, Ok, Err, Bool, true, false, not, cond, ◌&&◌, ◌||◌, List, ◌≡◌, ℕ, zero, suc, ◌+◌, ◌*◌, ◌≤◌, ◌<◌, leb, ltb, eqb, length}
use Rattle.answer.specs.declared.Refusal.{Refusal}
use Rattle.answer.specs.declared.Refusal.TheVariants.{BadLevel, WrongLength, BadNode, TooDeep, NeedlessFork, NoNode}
use Rattle.answer.specs.Numbers.{Outcome, and_then, unless}
use Rattle.quad.specs.Numbers.{top_level, top_colour, none, max_words}
use Rattle.table.specs.Table.{nodes, father, son, node_type, is_fork}

-- the number of father links from p to the root, or k where there are more
unfoldable pub depth_to : List ℕ → ℕ → ℕ → ℕ
depth_to T zero p = zero
depth_to T (suc k) p = elim (eqb p 0) [ true ↦ zero | false ↦ suc (depth_to T k (father T p)) ]

-- f holds of the k quadrants from q on
unfoldable pub all_of : (ℕ → Bool) → ℕ → ℕ → Bool
all_of f zero q = true
all_of f (suc k) q = f q && all_of f k (q + 1)

abbrev pub one : Bool → ℕ
one b = cond b 1 0

-- 1: type is 0, 1 or 2
unfoldable pub type_ok : List ℕ → ℕ → Bool
type_ok T p = leb (node_type T p) top_colour || is_fork T p

-- 2: node 0 has father None; any other has a father number below p
unfoldable pub father_ok : List ℕ → ℕ → Bool
father_ok T p = cond (eqb p 0) (eqb (father T p) none) (ltb (father T p) p)

-- how many of f's four son words are p
abbrev pub times_named : List ℕ → ℕ → ℕ → ℕ
times_named T f p = one (eqb (son T f 0) p) + one (eqb (son T f 1) p) + one (eqb (son T f 2) p) + one (eqb (son T f 3) p)

-- 3: for p above 0, exactly one of the father's four son words is p
unfoldable pub once_ok : List ℕ → ℕ → Bool
once_ok T p = eqb p 0 || eqb (times_named T (father T p) p) 1

-- a fork's son word lies above p and below N, and that son's father word is p
unfoldable pub son_ok : List ℕ → ℕ → ℕ → Bool
son_ok T p q = ltb p (son T p q) && (ltb (son T p q) (nodes T) && eqb (father T (son T p q)) p)

-- one son word: a fork's as above, a leaf's None
unfoldable pub word_ok : List ℕ → ℕ → ℕ → Bool
word_ok T p q = cond (is_fork T p) (son_ok T p q) (eqb (son T p q) none)

-- 4: all four son words are so
unfoldable pub sons_ok : List ℕ → ℕ → Bool
sons_ok T p = all_of (word_ok T p) 4 0

-- 5: a fork's depth is below n
unfoldable pub depth_ok : ℕ → List ℕ → ℕ → Bool
depth_ok n T p = not (is_fork T p) || ltb (depth_to T n p) n

-- son q has the type of son 0
unfoldable pub son_alike : List ℕ → ℕ → ℕ → Bool
son_alike T p q = eqb (node_type T (son T p q)) (node_type T (son T p 0))

-- 6: a fork's four sons are not all WHITE and not all BLACK: not four of one leaf's type
unfoldable pub mixed_ok : List ℕ → ℕ → Bool
mixed_ok T p = not (is_fork T p) || not (all_of (son_alike T p) 4 0 && leb (node_type T (son T p 0)) top_colour)

-- the code of the first of six rules that fails, 0 where none does
abbrev pub first_failed : Bool → Bool → Bool → Bool → Bool → Bool → ℕ
first_failed r₁ r₂ r₃ r₄ r₅ r₆ = cond r₁ (cond r₂ (cond r₃ (cond r₄ (cond r₅ (cond r₆ 0 5) 4) 3) 3) 3) 3

-- the code of node p's first fault, 0 where it has none
unfoldable pub fault_at : ℕ → List ℕ → ℕ → ℕ
fault_at n T p = first_failed (type_ok T p) (father_ok T p) (once_ok T p) (sons_ok T p) (depth_ok n T p) (mixed_ok T p)

-- a node's fault, by its code
abbrev pub fault_named : ℕ → ℕ → Refusal
fault_named code p = cond (eqb code 3) (BadNode p) (cond (eqb code 4) (TooDeep p) (NeedlessFork p))

abbrev pub faulty : ℕ → ℕ → Outcome
faulty code p = Err (fault_named code p)

-- whether a node obeys the rules, by its fault's code, and which it breaks first
abbrev pub obeyed : ℕ → ℕ → Result Unit Refusal
obeyed code p = cond (eqb code 0) (Ok tt) (Err (fault_named code p))

-- the first fault among the k nodes from p on; where there is none, the node after them
unfoldable pub fault_from : ℕ → List ℕ → ℕ → ℕ → Outcome
fault_from n T zero p = Ok p
fault_from n T (suc k) p = cond (eqb (fault_at n T p) 0) (fault_from n T k (p + 1)) (faulty (fault_at n T p) p)

-- the six rules over all nodes: the first fault decides
unfoldable pub faults_of : ℕ → List ℕ → Outcome
faults_of n T = fault_from n T (nodes T) 0

-- the length is a positive multiple of 6, at most 131,070
unfoldable pub length_ok : List ℕ → Bool
length_ok T = not (eqb (length T) 0) && (eqb (length T) (6 * nodes T) && leb (length T) max_words)

-- the tests for 1 and 2
unfoldable pub sizes_of : ℕ → List ℕ → Outcome
sizes_of n T = and_then (unless (ltb top_level n) (Err (BadLevel 0))) (unless (not (length_ok T)) (Err (WrongLength 0)))

-- the whole check
unfoldable pub check_of : ℕ → List ℕ → Outcome
check_of n T = and_then (sizes_of n T) (faults_of n T)

-- the tests of a call that is lent one word for each node: 1, 2 (the table, then the `words`), the check
unfoldable pub each_node_of : ℕ → List ℕ → ℕ → Outcome
each_node_of n T words = and_then (sizes_of n T) (and_then (unless (not (eqb words (nodes T))) (Err (WrongLength 1))) (faults_of n T))

-- the tests that every question about a node begins with: 1, 2, the check, 6
unfoldable pub asked_of : ℕ → List ℕ → ℕ → Outcome
asked_of n T p = and_then (check_of n T) (unless (leb (nodes T) p) (Err (NoNode p)))

-- level and length are good
pub record Sized (n : ℕ) (T : List ℕ) : Type 0 where
  pub level : n ≤ top_level
  pub some : 0 < nodes T
  pub few : length T ≤ max_words
  pub whole : length T ≡ 6 * nodes T

-- an accepted sheet: no node has a fault either
pub record Accepted (n : ℕ) (T : List ℕ) : Type 0 where
  pub sized : Sized n T
  pub faultless : (p : ℕ) → p < nodes T → fault_at n T p ≡ 0

-- a question about node p of an accepted sheet
pub record Asked (n : ℕ) (T : List ℕ) (p : ℕ) : Type 0 where
  pub accepted : Accepted n T
  pub node : p < nodes T

-- and the node is of level l
pub record AtLevel (n : ℕ) (T : List ℕ) (p l : ℕ) : Type 0 where
  pub accepted : Accepted n T
  pub node : p < nodes T
  pub level : l + depth_to T n p ≡ n
