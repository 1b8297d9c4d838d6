-- One word for each node.
use Rattle.std.specs.Prelude.{List, ℕ, get_or}

-- the word of node p
abbrev pub word_of : List ℕ → ℕ → ℕ
word_of words p = get_or words p 0
