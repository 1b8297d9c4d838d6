-- Reading without a name for a fault: the place after four blocks is the one of the definition, and there is none where
-- the definition refuses them; block by block.
use Rattle.std.specs.Prelude.{Option, Some, None, slice_set}
use Rattle.std.specs.Option.{unwrap_or}
use mathlib.Core.Bool.{Bool, true, false, cond, false≢true}
use mathlib.Core.List.{List, [], ◌∷◌}
use mathlib.Core.Path.{◌≡◌, refl, ap, sym, ◌∙◌}
use Prim.Native.Nat.{ℕ, zero, suc, ◌+◌, ◌-◌, ◌≤◌, ◌<◌}
use native.Mathlib.Omega.{arith}
use lib.Dec.{ltb, eqb}
use lib.ListN.{length, get_or}
use borrow.Author.Tests.{ne_eqb, eqb-true, ltb-false, le-ltb, le-leb}
use Rattle.base.proofs.CaseLaws.{past, through}
use Rattle.answer.specs.declared.Refusal.{Refusal}
use Rattle.answer.specs.declared.Refusal.TheVariants.{TooDeep}
use Rattle.quad.specs.Numbers.{top_colour, fork_type, is_type}
use Rattle.quad.specs.Tree.{Tree, leaf, fork, colour, alike, like_types, types_of}
use Rattle.quad.proofs.TreeLaws.{alike_types, size_pos, types_length}
use Rattle.file.specs.File.{Got, got, bad, mark, node_mark, record_at, onward, four_at, block_at}
use Rattle.file.specs.Reading.{stands_at, place_after, end_of, then_after, rest_after}
use Rattle.file.proofs.SpeltLaws.{Stands, spelt_fits}
use Rattle.file.proofs.BlockLaws.{record_case, record_stands, block_spells, root_kind}

-- a record that stands
pub stands : (s : List ℕ) (at : ℕ) → at ≤ length s → stands_at s at ≡ true → Stands s at (get_or s (at + 2) 0) × (is_type (get_or s (at + 2) 0) ≡ true)
unfolding stands_at
stands s at le e =
    let a = past (ltb (length s - at) 3) _ e in
    let b = through (eqb (get_or s at 0) mark) _ a.1 in
    let c = through (eqb (get_or s (at + 1) 0) node_mark) _ b.1 in
    let l = ltb-false (length s - at) 3 a.0 in
    (record { fits = omega arith; first = eqb-true _ _ b.0; second = eqb-true _ _ c.0; kind = refl }, c.1)

-- the block that begins with it: a leaf, or the four blocks behind it
module _ (s : List ℕ) (l at : ℕ) (le : at ≤ length s) (ok : stands_at s at ≡ true) (k : ℕ) (e : k ≡ get_or s (at + 2) 0) where
  block_leaf : (k ≡ fork_type → ⊥) → block_at s l at ≡ got (at + 3) (leaf k)
  unfolding block_at
  block_leaf ne =
      let h = stands s at le ok in
      let f : (forked : Got) → record_at s at forked ≡ got (at + 3) (leaf k) =
      λ forked. record_stands s at forked (get_or s (at + 2) 0) h.0 h.1 ∙ rw (← e, ne_eqb k fork_type ne) in
      go l f
    where
      go : (m : ℕ) → ((forked : Got) → record_at s at forked ≡ got (at + 3) (leaf k)) → block_at s m at ≡ got (at + 3) (leaf k)
      go zero f = f _
      go (suc m) f = f _

  block_fork : k ≡ fork_type → (l ≡ 0 → ⊥) → block_at s l at ≡ four_at (block_at s (l - 1)) (at + 3)
  unfolding block_at
  block_fork fk nz =
      let h = stands s at le ok in
      let m : l ≡ suc (l - 1) = omega arith in
      ap (λ (j : ℕ). block_at s j at) m ∙ record_stands s at (four_at (block_at s (l - 1)) (at + 3)) (get_or s (at + 2) 0) h.0 h.1 ∙ rw (← e, fk)

-- what has a place after it was read
pub got_after : (g : Got) (r : ℕ) → Some r ≡ place_after g → (t : Tree) × (g ≡ got r t)
got_after (got i t) r e =
    let ir : i ≡ r = cc in
    (t, ap (λ (j : ℕ). got j t) ir)
got_after (bad o) r e = absurd (let z : ◌≡◌ {A = ℕ} 0 1 = cc in omega arith)

-- and what has none was refused
pub bad_after : (g : Got) → None ≡ place_after g → (o : Refusal) × (g ≡ bad o)
bad_after (got i t) e = absurd (let z : ◌≡◌ {A = ℕ} 0 1 = cc in omega arith)
bad_after (bad o) e = (o, refl)

-- and a block that ends at 0 was refused: what is read ends later
end_bad : (g : Got) → ((i : ℕ) (t : Tree) → g ≡ got i t → 0 < i) → end_of g ≡ 0 → (o : Refusal) × (g ≡ bad o)
end_bad (got i t) late e = absurd (omega (arith, late i t refl, e))
end_bad (bad o) late e = (o, refl)

-- the place after a block, as a number
pub end_told : (g : Got) → unwrap_or (place_after g) 0 ≡ end_of g
end_told (got i t) = refl
end_told (bad o) = refl

pub refused_exactly : (s : List ℕ) (l at : ℕ) → end_of (block_at s l at) ≡ 0 → (o : Refusal) × (block_at s l at ≡ bad o)
refused_exactly s l at = end_bad (block_at s l at) (λ i t e. omega (arith, (block_spells s l at i t e).next, size_pos t))

-- where no record stands no block is read
stands_told : (s : List ℕ) (at k : ℕ) → Stands s at k → is_type k ≡ true → stands_at s at ≡ true
unfolding stands_at
stands_told s at k h ok = rw (le-ltb (length s - at) 3 (omega (arith, h.fits)), h.first, h.second, h.kind) ok

record_refused : (s : List ℕ) (at : ℕ) → stands_at s at ≡ false → (forked : Got) → None ≡ place_after (record_at s at forked)
record_refused s at e forked =
    record_case s at forked (λ (g : Got). None ≡ place_after g) (λ o. refl) (λ h. absurd (false≢true (sym e ∙ stands_told s at fork_type h refl)))
    (λ k h le. absurd (false≢true (sym e ∙ stands_told s at k h (rw (le-leb k top_colour le)))))

pub block_refused : (s : List ℕ) (l at : ℕ) → false ≡ stands_at s at → None ≡ place_after (block_at s l at)
unfolding block_at
block_refused s zero at e = record_refused s at (sym e) _
block_refused s (suc l) at e = record_refused s at (sym e) _

-- a block that was read ends within the file
pub ends_within : (s : List ℕ) (l at i : ℕ) → at ≤ length s → Some i ≡ place_after (block_at s l at) → i ≤ length s
ends_within s l at i le e =
    let g = got_after (block_at s l at) i e in
    let h = block_spells s l at i g.0 g.1 in
    omega (arith, h.next, types_length g.0, spelt_fits s (types_of g.0) at le h.spelt)

-- the blocks that are left of four, one by one
module _ (s : List ℕ) (l q at : ℕ) (kinds : List ℕ) (R : Option ℕ) (inv : rest_after (block_at s l) (4 - q) q at kinds ≡ R) where
  module _ (q4 : q < 4) where
    turn : then_after (block_at s l at) (λ i t. rest_after (block_at s l) (4 - (q + 1)) (q + 1) i (slice_set kinds q (colour t))) ≡ R
    unfolding rest_after
    turn =
        let one : 4 - q ≡ suc (4 - (q + 1)) = omega arith in
        rw one at inv

    pub scan_refused : None ≡ place_after (block_at s l at) → None ≡ R
    scan_refused z = rw (bad_after (block_at s l at) z).1 at turn

    pub scan_on : (i k : ℕ) → Some i ≡ place_after (block_at s l at) → k ≡ get_or s (at + 2) 0 → rest_after (block_at s l) (4 - (q + 1)) (q + 1) i (slice_set kinds q k) ≡ R
    scan_on i k ends e =
        let g = got_after (block_at s l at) i ends in
        let c : k ≡ colour g.0 = e ∙ (root_kind s at g.0 (block_spells s l at i g.0 g.1).spelt).kind in
        rw c (rw g.1 at turn)

  -- none is left
  module _ (q4 : q ≡ 4) (u : Bool) (e : u ≡ like_types (get_or kinds 0 0) (get_or kinds 1 0) (get_or kinds 2 0) (get_or kinds 3 0)) where
    ended : rest_after (block_at s l) 0 q at kinds ≡ R
    ended =
        let none : 4 - q ≡ 0 = omega arith in
        rw none at inv

    pub ends_alike : u ≡ true → None ≡ R
    unfolding rest_after
    ends_alike h = rw (sym e ∙ h) at ended

    pub ends_unlike : u ≡ false → Some at ≡ R
    unfolding rest_after
    ends_unlike h = rw (sym e ∙ h) at ended

-- at first all four are left
after_cond : (t : Bool) (o : Refusal) (i : ℕ) (u : Tree) → cond t None (Some i) ≡ place_after (cond t (bad o) (got i u))
after_cond true o i u = refl
after_cond false o i u = refl

after_onward : (g : Got) (f : ℕ → Tree → Got) (h : ℕ → Tree → Option ℕ) → ((i : ℕ) (t : Tree) → g ≡ got i t → h i t ≡ place_after (f i t)) → then_after g h ≡ place_after (onward g f)
after_onward (got i t) f h e = e i t refl
after_onward (bad o) f h e = refl

pub four_after : (s : List ℕ) (l at : ℕ) → rest_after (block_at s l) 4 0 at (0 ∷ 0 ∷ 0 ∷ 0 ∷ []) ≡ place_after (four_at (block_at s l) at)
unfolding rest_after
four_after s l at =
    after_onward (block_at s l at) _ _ (λ i₁ a ea. after_onward (block_at s l i₁) _ _ (λ i₂ b _. after_onward (block_at s l i₂) _ _ (λ i₃ c _.
    after_onward (block_at s l i₃) _ _ (λ i₄ d _.
    let co = (block_spells s l at i₁ a ea).sound.coloured in
    ap (λ (t : Bool). cond t None (Some i₄)) (sym (alike_types a b c d co)) ∙ after_cond (alike a b c d) _ i₄ (fork a b c d)))))

-- the block that a record begins: a fork's four blocks, and four pixels where they are of level 0
module _ (s : List ℕ) (l at : ℕ) (le : at ≤ length s) (there : true ≡ stands_at s at) where
  pub fits_three : at + 3 ≤ length s
  fits_three = (stands s at le (sym there)).0.fits

  module _ (k : ℕ) (e : k ≡ get_or s (at + 2) 0) where
    pub leaf_ends : (k ≡ fork_type → ⊥) → Some (at + 3) ≡ place_after (block_at s l at)
    leaf_ends ne = ap place_after (sym (block_leaf s l at le (sym there) k e ne))

    pub fork_deep : k ≡ fork_type → l ≡ 0 → None ≡ place_after (block_at s l at)
    unfolding block_at
    fork_deep fk z =
        let h = stands s at le (sym there) in
        sym (ap (λ (j : ℕ). place_after (block_at s j at)) z ∙ ap place_after (record_stands s at (bad (TooDeep (at + 2))) (get_or s (at + 2) 0) h.0 h.1) ∙ rw (← e, fk))

    pub fork_ends : (o : Option ℕ) → k ≡ fork_type → (l ≡ 0 → ⊥) → o ≡ place_after (four_at (block_at s (l - 1)) (at + 3)) → o ≡ place_after (block_at s l at)
    fork_ends o fk nz h = h ∙ ap place_after (sym (block_fork s l at le (sym there) k e fk nz))

    pub pixels_end : (o : Option ℕ) → k ≡ fork_type → l ≡ 1 → o ≡ place_after (four_at (block_at s 0) (at + 3)) → o ≡ place_after (block_at s l at)
    pixels_end o fk one h =
        let z : l - 1 ≡ 0 = omega arith in
        let h' : o ≡ place_after (four_at (block_at s (l - 1)) (at + 3)) = rw z h in
        fork_ends o fk (λ n. omega arith) h'
