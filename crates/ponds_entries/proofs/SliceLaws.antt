-- The entries of a lent register while it is filled: each node passed changes one of them, or none.
use mathlib.Core.List.{List, [], ◌∷◌, ◌++◌}
use mathlib.Core.Path.{◌≡◌, refl}
use Prim.Native.Nat.{ℕ, zero, suc, ◌+◌, ◌≤◌, ◌<◌}
use native.Mathlib.Nat.{not-suc-le-zero}
use native.Mathlib.Omega.{arith}
use lib.ListN.{length, get_or, set, replicate, drop, length-append, length-drop, length-replicate, length-set}
use lib.Seq.{set-append_left}
use Rattle.base.specs.Tab.{overlay}
use Rattle.table.specs.Table.{nodes}
use Rattle.table.specs.Blocks.{block_of}
use Rattle.ponds.specs.declared.Pond.{Pond}
use Rattle.ponds.specs.Entries.{entries}
use Rattle.ponds_entry.specs.Gathered.{empty_pond, grown_of, gathered, gatherings, Fitting, Numbers}
use Rattle.ponds_entry.proofs.GatheredLaws.{ponds_length, ponds_at, gatherings_none, gatherings_same, gatherings_more, gathered_fits}
use Rattle.ponds_entry.proofs.EntryLaws.{gatherings_entries}

front : (es fs : List Pond) (i : ℕ) (d : Pond) → i < length es → get_or (es ++ fs) i d ≡ get_or es i d
front [] fs i d h = absurd (not-suc-le-zero h)
front (e ∷ es) fs zero d h = refl
front (e ∷ es) fs (suc i) d h = front es fs i d (omega arith)

module _ (n : ℕ) (table numbers : List ℕ) (count : ℕ) (before : List Pond) where
  -- the first p nodes are gathered
  unfoldable pub filled : ℕ → List Pond
  filled p = overlay (gatherings n table numbers p count) before

  -- all are empty before the first
  pub filled_none : replicate count empty_pond ++ drop count before ≡ filled 0
  unfolding filled
  filled_none = rw (gatherings_none n table numbers count, length-replicate)

  pub filled_length : (p : ℕ) → count ≤ length before → length (filled p) ≡ length before
  unfolding filled
  filled_length p h = simp (length-append, length-drop, ponds_length) (omega arith)

  -- once the last node is passed
  pub filled_all : Numbers n table numbers count → (p : ℕ) → p ≡ nodes table → filled p ≡ overlay (entries n table numbers count) before
  unfolding filled
  filled_all s p e = rw (e, gatherings_entries n table numbers count s)

  pub filled_same : (p : ℕ) → get_or numbers p 0 ≡ 0 → filled p ≡ filled (p + 1)
  unfolding filled
  filled_same p z = rw (gatherings_same n table numbers p count z)

  -- the entry that a node of number j + 1 finds
  module _ (p j : ℕ) (h : j < count) where
    abbrev es : List Pond
    es = gatherings n table numbers p count

    long : j < length es
    long = rw (ponds_length (λ k. gathered n table numbers k p) count 1) h

    pub filled_more : get_or numbers p 0 ≡ suc j → set (filled p) j (grown_of (get_or (filled p) j empty_pond) (block_of n table p)) ≡ filled (p + 1)
    unfolding filled
    filled_more is =
        let rest : List Pond = drop (length es) before in
        rw (
          gatherings_more n table numbers p count j h is,
          front es rest j empty_pond long,
          set-append_left es rest j (grown_of (get_or es j empty_pond) (block_of n table p)) long,
          length-set,
        )

    pub filled_fits : Numbers n table numbers count → p < nodes table → Fitting (get_or (filled p) j empty_pond) (block_of n table p)
    unfolding filled
    filled_fits s b =
        rw (front es (drop (length es) before) j empty_pond long, ponds_at (λ k. gathered n table numbers k p) count 1 j empty_pond h)
        (gathered_fits n table numbers count s (1 + j) p b)
