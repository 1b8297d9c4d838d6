-- `neighbour_find::find`: up from p's own level, and back down by the moves that the climb carried.
use mathlib.Core.Path.{◌≡◌, ap, ◌∙◌}
use mathlib.Core.List.{List}
use Prim.Native.Nat.{ℕ, ◌<◌}
use Rattle.table.specs.Table.{nodes}
use Rattle.table.specs.Rules.{Accepted}
use Rattle.table.specs.Nodes.{level_of}
use Rattle.neighbour.specs.Search.{found_in, stay}
use Rattle.neighbour_find.proofs.ClimbLaws.{none_found, some_found, leads}
use Rattle.neighbour.proofs.FoundLaws.{sought, found_neighbour}
use Rattle.neighbour_find.proofs.find.Goals as goal

-- the sheet is accepted, by its type
asks : (n : ℕ) (T : List ℕ) → Accepted n T → (p level D : ℕ) → (p < nodes T) × (level ≡ level_of n T p) × (D < stay) → Accepted n T × (p < nodes T) × (level ≡ level_of n T p) × (D < stay)
asks n T a p level D r = (a, r.0, r.1, r.2)

pub ascend-requires : goal.ascend-requires
ascend-requires c = (sought _ _ _ _ _ (asks _ _ c.args.sheet.now.accepted _ _ _ c.requires), c.requires.2)

pub returns-in_err-top : goal.returns-in_err-top
returns-in_err-top c =
    let z = asks _ _ c.args.sheet.now.accepted _ _ _ c.requires in
    c.from_residual.ensures ∙ none_found _ _ _ _ _ (sought _ _ _ _ _ z) _ c.ascend.ensures c.in_err-top.was ∙ found_neighbour _ _ _ _ _ z

pub descend-requires : goal.descend-requires
descend-requires c =
    let z = asks _ _ c.args.sheet.now.accepted _ _ _ c.requires in
    let h = some_found _ _ _ _ _ (sought _ _ _ _ _ z) _ _ c.ascend.ensures c.in_ok-top.was in
    record { accepted = z.0; node = h.node; low = h.low }

pub returns : goal.returns
returns c =
    let z = asks _ _ c.args.sheet.now.accepted _ _ _ c.requires in
    let s = sought _ _ _ _ _ z in
    c.descend.ensures
    ∙ ap (found_in _ _ _) (leads _ _ _ _ _ s _ (some_found _ _ _ _ _ s _ _ c.ascend.ensures c.in_ok-top.was))
    ∙ found_neighbour _ _ _ _ _ z
