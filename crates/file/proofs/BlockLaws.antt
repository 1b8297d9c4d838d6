-- A block that was read: its bytes spell its tree's types, and the tree is of its level, reduced and coloured; and such
-- bytes are read as that tree.
use mathlib.Core.Bool.{true, false, cond}
use mathlib.Core.List.{List}
use mathlib.Core.Path.{◌≡◌, refl, ap, ◌∙◌}
use Prim.Native.Nat.{ℕ, zero, suc, ◌+◌, ◌*◌, ◌≤◌}
use native.Mathlib.Omega.{arith}
use lib.Dec.{leb, eqb}
use lib.ListN.{length, get_or}
use borrow.Author.Tests.{ne_eqb, le-leb, lt-leb, eqb-true, leb-true, leb-false}
use Rattle.base.proofs.BoolLaws.{or_first}
use Rattle.base.proofs.CaseLaws.{cond_case}
use Rattle.answer.specs.declared.Refusal.{Refusal}
use Rattle.answer.specs.declared.Refusal.TheVariants.{NeedlessFork}
use Rattle.quad.specs.Numbers.{top_colour, fork_type, is_type}
use Rattle.quad.specs.Tree.{Tree, leaf, fork, colour, Within, alike, Reduced, Coloured, size_of, types_of}
use Rattle.quad.proofs.TreeLaws.{types_length}
use Rattle.table.proofs.AcceptedLaws.{Sound}
use Rattle.file.specs.File.{Got, got, bad, mark, node_mark, record_at, onward, four_at, block_at}
use Rattle.file.proofs.SpeltLaws.{Stands, Spelt, spelt_append, spelt_parts}

-- a record: what holds of every fault, of what a fork gives and of each leaf
module _ (s : List ℕ) (at : ℕ) (forked : Got) where
  pub record_case : (P : Got → Type 0) → ((o : Refusal) → P (bad o)) → (Stands s at fork_type → P forked)
      → ((k : ℕ) → Stands s at k → k ≤ top_colour → P (got (at + 3) (leaf k))) → P (record_at s at forked)
  record_case P faults forks leaves =
      let k : ℕ = get_or s (at + 2) 0 in
      cond_case P (leb (length s) at) _ _ (λ _. faults _)
      (λ _. cond_case P (eqb (get_or s at 0) mark) _ _
      (λ e₁. cond_case P (leb (length s) (at + 1)) _ _ (λ _. faults _)
      (λ _. cond_case P (eqb (get_or s (at + 1) 0) node_mark) _ _
      (λ e₂. cond_case P (leb (length s) (at + 2)) _ _ (λ _. faults _)
      (λ inside. cond_case P (is_type k) _ _
      (λ ok.
      let stands : Stands s at k = record {
        fits = omega (arith, leb-false (length s) (at + 2) inside);
        first = eqb-true (get_or s at 0) mark e₁;
        second = eqb-true (get_or s (at + 1) 0) node_mark e₂;
        kind = refl;
      } in
      cond_case P (eqb k fork_type) _ _
      (λ e₃. forks (rw (eqb-true k fork_type e₃) at stands))
      (λ e₃. leaves k stands (leb-true k top_colour (or_first (leb k top_colour) (eqb k fork_type) ok e₃))))
      (λ _. faults _)))
      (λ _. faults _)))
      (λ _. faults _))

  pub record_stands : (k : ℕ) → Stands s at k → is_type k ≡ true → record_at s at forked ≡ cond (eqb k fork_type) forked (got (at + 3) (leaf k))
  record_stands k h ok =
      rw (
        lt-leb (length s) at (omega (arith, h.fits)),
        h.first,
        lt-leb (length s) (at + 1) (omega (arith, h.fits)),
        h.second,
        lt-leb (length s) (at + 2) (omega (arith, h.fits)),
        h.kind,
        ok,
      )

  pub record_fork : Stands s at fork_type → record_at s at forked ≡ forked
  record_fork h = record_stands fork_type h refl

  pub record_leaf : (k : ℕ) → Stands s at k → k ≤ top_colour → record_at s at forked ≡ got (at + 3) (leaf k)
  record_leaf k h le = record_stands k h (rw (le-leb k top_colour le)) ∙ rw (ne_eqb k fork_type (λ e. omega arith))

-- what a block that was read from a place is: the place after it and its tree
pub record Spells (s : List ℕ) (l at i : ℕ) (t : Tree) : Type 0 where
  pub next : i ≡ at + 3 * size_of t
  pub spelt : Spelt s at (types_of t)
  pub sound : Sound l t

-- what holds where a block was read
abbrev Each : (ℕ → Tree → Type 0) → Got → Type 0
Each P (got i t) = P i t
Each P (bad o) = Unit {0}

each_onward : (P Q : ℕ → Tree → Type 0) (g : Got) (next : ℕ → Tree → Got) → Each P g → ((i : ℕ) (t : Tree) → P i t → Each Q (next i t)) → Each Q (onward g next)
each_onward P Q (got i t) next h f = f i t h
each_onward P Q (bad o) next h f = tt

-- a fork's record and four blocks behind it
fork_spells : (s : List ℕ) (l at i₁ i₂ i₃ i₄ : ℕ) (a b c d : Tree) → Stands s at fork_type → Spells s l (at + 3) i₁ a → Spells s l i₁ i₂ b
    → Spells s l i₂ i₃ c → Spells s l i₃ i₄ d → alike a b c d ≡ false → Spells s (suc l) at i₄ (fork a b c d)
unfolding Spelt types_of Within Reduced Coloured size_of
fork_spells s l at i₁ i₂ i₃ i₄ a b c d stands pa pb pc pd e = record {
  next = omega (arith, pa.next, pb.next, pc.next, pd.next);
  spelt = (
    stands,
    spelt_append s (types_of a) _ (at + 3) i₁ (omega (arith, types_length a, pa.next)) pa.spelt
        (spelt_append s (types_of b) _ i₁ i₂ (omega (arith, types_length b, pb.next)) pb.spelt
        (spelt_append s (types_of c) _ i₂ i₃ (omega (arith, types_length c, pc.next)) pc.spelt pd.spelt)),
  );
  sound = record {
    within = (pa.sound.within, pb.sound.within, pc.sound.within, pd.sound.within);
    reduced = (e, pa.sound.reduced, pb.sound.reduced, pc.sound.reduced, pd.sound.reduced);
    coloured = (pa.sound.coloured, pb.sound.coloured, pc.sound.coloured, pd.sound.coloured);
  };
}

four_spells : (s : List ℕ) (l at : ℕ) (block : ℕ → Got) → ((i : ℕ) → Each (Spells s l i) (block i)) → Stands s at fork_type
    → Each (Spells s (suc l) at) (four_at block (at + 3))
four_spells s l at block h stands =
    let Q = Spells s (suc l) at in
    each_onward (Spells s l (at + 3)) Q (block (at + 3)) _ (h (at + 3)) (λ i₁ a pa.
    each_onward (Spells s l i₁) Q (block i₁) _ (h i₁) (λ i₂ b pb.
    each_onward (Spells s l i₂) Q (block i₂) _ (h i₂) (λ i₃ c pc.
    each_onward (Spells s l i₃) Q (block i₃) _ (h i₃) (λ i₄ d pd.
    cond_case (Each Q) (alike a b c d) (bad (NeedlessFork (i₃ + 2))) (got i₄ (fork a b c d)) (λ _. tt)
    (fork_spells s l at i₁ i₂ i₃ i₄ a b c d stands pa pb pc pd)))))

leaf_spells : (s : List ℕ) (l at k : ℕ) → Stands s at k → k ≤ top_colour → Spells s l at (at + 3) (leaf k)
unfolding Spelt types_of Within Reduced Coloured size_of
leaf_spells s l at k stands le = record { next = refl; spelt = (stands, tt); sound = record { within = tt; reduced = tt; coloured = le } }

each_spells : (s : List ℕ) (l at : ℕ) → Each (Spells s l at) (block_at s l at)
unfolding block_at
each_spells s zero at = record_case s at _ (Each (Spells s zero at)) (λ o. tt) (λ _. tt) (leaf_spells s zero at)
each_spells s (suc l) at =
    record_case s at _ (Each (Spells s (suc l) at)) (λ o. tt) (four_spells s l at (block_at s l) (each_spells s l)) (leaf_spells s (suc l) at)

pub block_spells : (s : List ℕ) (l at i : ℕ) (t : Tree) → block_at s l at ≡ got i t → Spells s l at i t
block_spells s l at i t e = rw e at (each_spells s l at)

-- the root's type byte
pub root_kind : (s : List ℕ) (at : ℕ) (t : Tree) → Spelt s at (types_of t) → Stands s at (colour t)
unfolding Spelt types_of colour
root_kind s at (leaf k) h = h.0
root_kind s at (fork _ _ _ _) h = h.0

-- and the other way round: bytes that spell a sound tree are read as it
read_in : (s : List ℕ) (l at : ℕ) (t : Tree) → Spelt s at (types_of t) → Within l t → Reduced t → Coloured t
    → block_at s l at ≡ got (at + 3 * size_of t) t
unfolding block_at Spelt types_of Within Reduced Coloured size_of
read_in s zero at (leaf k) h w r c = record_leaf s at _ k h.0 c
read_in s (suc l) at (leaf k) h w r c = record_leaf s at _ k h.0 c
read_in s zero at (fork a b c d) h w r co = absurd w
read_in s (suc l) at (fork a b c d) h w r co =
    let i₁ = at + 3 + 3 * size_of a in
    let i₂ = i₁ + 3 * size_of b in
    let i₃ = i₂ + 3 * size_of c in
    let pa = spelt_parts s (types_of a) _ (at + 3) i₁ (omega (arith, types_length a)) h.1 in
    let pb = spelt_parts s (types_of b) _ i₁ i₂ (omega (arith, types_length b)) pa.1 in
    let pc = spelt_parts s (types_of c) _ i₂ i₃ (omega (arith, types_length c)) pb.1 in
    let ea = read_in s l (at + 3) a pa.0 w.0 r.1 co.0 in
    let eb = read_in s l i₁ b pb.0 w.1 r.2 co.1 in
    let ec = read_in s l i₂ c pc.0 w.2 r.3 co.2 in
    let ed = read_in s l i₃ d pc.1 w.3 r.4 co.3 in
    let last : i₃ + 3 * size_of d ≡ at + 3 * (1 + (size_of a + (size_of b + (size_of c + size_of d)))) = omega arith in
    record_fork s at _ h.0 ∙ rw (ea, eb, ec, ed, r.0) (ap (λ (i : ℕ). got i (fork a b c d)) last)

pub block_read : (s : List ℕ) (l at : ℕ) (t : Tree) → Spelt s at (types_of t) → Sound l t → block_at s l at ≡ got (at + 3 * size_of t) t
block_read s l at t h sound = read_in s l at t h sound.within sound.reduced sound.coloured
