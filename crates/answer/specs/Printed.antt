-- A refusal in words, as the programs print it: `CODE VALUE`.
use Rattle.std.specs.Prelude.{List, ℕ, ◌++◌, Err, codes, decimal}
use Rattle.answer.specs.declared.Refusal.{Refusal}
use Rattle.answer.specs.Numbers.{code_of, value_of}

abbrev pub refusal_text : Refusal → List ℕ
refusal_text e = decimal (code_of (Err e)) ++ codes " " ++ decimal (value_of (Err e))
