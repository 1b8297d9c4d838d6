-- One step of the row walk (document 01, 'The row walk'; document 003), for any place and any words.
use Rattle.std.specs.Prelude.{Err, Bool, not, cond, ◌&&◌, ◌||◌, List, ◌≡◌, ℕ, ◌+◌, ◌-◌, ◌*◌, ◌/◌, ◌%◌, ◌^◌, eqb, ltb, leb}
use Rattle.answer.specs.declared.Refusal.TheVariants.{BadPlace}
use Rattle.answer.specs.Numbers.{Outcome, code_of, value_of, answers}
use Rattle.quad.specs.Numbers.{top_colour, fork_type}
use Rattle.quad.specs.Block.{quadrant_of}
use Rattle.table.specs.Table.{nodes, father, son, node_type}
use Rattle.table.specs.Rules.{sizes_of}
use Rattle.walk.specs.declared.Place.{Place}
use Rattle.walk.specs.declared.Stepped.{Stepped}
use Rattle.walk.specs.declared.Answer.TheVariants.{Moved, Run, EndRow, Done, Refused}

-- the start place of a sheet of level n
abbrev pub start : ℕ → Place
start n = record { n = n; node = 0; level = n; left = 0; x = 0; y = 0 }

-- a refused step hands back the place it was given, with the outcome's code and value
abbrev pub refuse : Place → Outcome → Stepped
refuse p o = record { place = p; answer = Refused (code_of o) (value_of o) }

-- level above n, node at or above N, x or y above 2^n, left not a multiple of 2^level, or left + 2^level above 2^n
unfoldable pub bad_place : ℕ → Place → Bool
bad_place count p =
    ltb p.n p.level
    || (leb count p.node
    || (ltb (2 ^ p.n) p.x
    || (ltb (2 ^ p.n) p.y
    || (not (eqb (p.left % 2 ^ p.level) 0)
    || ltb (2 ^ p.n) (p.left + 2 ^ p.level)))))

-- left ≤ x < left + 2^level
abbrev pub spans : Place → Bool
spans p = leb p.left p.x && ltb p.x (p.left + 2 ^ p.level)

-- half the side of the place's block
abbrev pub half : Place → ℕ
half p = 2 ^ (p.level - 1)

-- the son whose quarter holds (x, y): east if x / 2^(level - 1) is odd, south likewise by y
abbrev pub next_son : List ℕ → Place → ℕ
next_son T p = son T p.node (quadrant_of (p.x / half p) (p.y / half p))

-- at a node whose columns hold x: a leaf's run, or down to a son
unfoldable pub inside_of : List ℕ → Place → Stepped
inside_of T p =
    cond (leb (node_type T p.node) top_colour)
    (record {
      place = record { n = p.n; node = p.node; level = p.level; left = p.left; x = p.left + 2 ^ p.level; y = p.y };
      answer = Run (node_type T p.node) (p.left + 2 ^ p.level - p.x);
    })
    (cond (not (eqb (node_type T p.node) fork_type) || (eqb p.level 0 || leb (nodes T) (next_son T p)))
    (refuse p (Err BadPlace))
    (record {
      place = record { n = p.n; node = next_son T p; level = p.level - 1; left = p.left + p.x / half p % 2 * half p; x = p.x; y = p.y };
      answer = Moved;
    }))

-- at a node whose columns do not hold x: the row's end at the root's level, else up to the father
unfoldable pub outside_of : List ℕ → Place → Stepped
outside_of T p =
    cond (eqb p.level p.n)
    (record {
      place = record { n = p.n; node = p.node; level = p.level; left = p.left; x = 0; y = p.y + 1 };
      answer = EndRow;
    })
    (cond (leb (nodes T) (father T p.node))
    (refuse p (Err BadPlace))
    (record {
      place = record { n = p.n; node = father T p.node; level = p.level + 1; left = p.left - p.left % 2 ^ (p.level + 1); x = p.x; y = p.y };
      answer = Moved;
    }))

unfoldable pub step_of : List ℕ → Place → Stepped
step_of T p =
    cond (answers (sizes_of p.n T))
    (cond (bad_place (nodes T) p)
    (refuse p (Err BadPlace))
    (cond (eqb p.y (2 ^ p.n))
    (record { place = p; answer = Done })
    (cond (spans p) (inside_of T p) (outside_of T p))))
    (refuse p (sizes_of p.n T))

-- the step's promise: r is what the step from p gives
abbrev pub Steps : List ℕ → Place → Stepped → Type 0
Steps T p r = r ≡ step_of T p
