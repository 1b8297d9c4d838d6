-- What every outside call's statement settles: there is no second outcome.
use mathlib.Core.List.{List}
use mathlib.Core.Path.{◌≡◌, ap, sym, ◌∙◌}
use Prim.Native.Nat.{ℕ}
use Rattle.answer.specs.Numbers.{Outcome, number_of}
use Rattle.ponds.specs.Entries.{words_of}
use Rattle.ponds_find.proofs.CallLaws.{one_finding}
use Rattle.sheet.specs.Calls.{Gives, Leaves, FindsPonds}

-- no second outcome: of sheet_check, sheet_neighbour, sheet_corner_leaf and sheet_diagonal_leaf
pub one_number : (o : Outcome) (r s : ℕ) → Gives o r → Gives o s → r ≡ s
unfolding Gives
one_number o r s a b = a ∙ sym b

-- and of each call that is lent a buffer to fill
pub one_outcome : {A : Type 0} (o : Outcome) (left after final : List A) (r s : ℕ) → Leaves o left r after → Leaves o left s final → (r ≡ s) × (after ≡ final)
one_outcome o left after final r s a b = (a.number ∙ sym b.number, a.buffer ∙ sym b.buffer)

-- and of sheet_ponds, which is lent two
pub one_pond_outcome : (n : ℕ) (T numbers reg a b a' b' : List ℕ) (r s : ℕ) → FindsPonds n T numbers reg r a b → FindsPonds n T numbers reg s a' b'
    → (r ≡ s) × (a ≡ a') × (b ≡ b')
one_pond_outcome n T numbers reg a b a' b' r s f g =
    let same = one_finding n T words_of 5 numbers reg f.outcome g.outcome a a' b b' f.slices g.slices in
    (f.number ∙ ap number_of same.0 ∙ sym g.number, same.1, same.2)
