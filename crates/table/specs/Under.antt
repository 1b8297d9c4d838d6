-- What holds of every node in or under a node.
use Rattle.std.specs.Prelude.{true, List, ◌≡◌, ℕ, zero, suc, ◌<◌}
use Rattle.table.specs.Table.{son, is_fork}

-- P holds of p, and of all under it, p having l levels below it
unfoldable pub Under : List ℕ → (ℕ → Type 0) → ℕ → ℕ → Type 0
Under T P zero p = P p
Under T P (suc l) p = P p × (is_fork T p ≡ true → (q : ℕ) → q < 4 → Under T P l (son T p q))
