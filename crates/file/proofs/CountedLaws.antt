-- Four blocks by counting: their types counted one against the one before, with 0 for 'refused', give the same place.
use mathlib.Core.Bool.{Bool, true, false, cond, false≢true}
use mathlib.Core.List.{List}
use mathlib.Core.Logic.{⊎_elim}
use mathlib.Core.Path.{◌≡◌, ap, refl, sym, ◌∙◌}
use Prim.Native.Nat.{ℕ, zero, suc, ◌+◌, ◌≤◌}
use native.Mathlib.Omega.{arith}
use lib.Dec.{eqb}
use borrow.Author.Tests.{eq-eqb, ne_eqb, eqb-true, eqb-false}
use Rattle.base.proofs.BoolLaws.{by_bool}
use Rattle.base.proofs.CaseLaws.{past, through, cond_case}
use Rattle.answer.specs.declared.Refusal.{Refusal}
use Rattle.quad.specs.Numbers.{fork_type}
use Rattle.quad.specs.Tree.{Tree, fork, colour, alike, like_types}
use Rattle.quad.proofs.TreeLaws.{alike_types, type_le}
use Rattle.file.specs.File.{Got, got, bad, onward, four_at, block_at}
use Rattle.file.specs.Reading.{same_type, end_of, end_then, rest_end}
use Rattle.file.proofs.BlockLaws.{block_spells}

-- three types that are the one before are those of like leaves, and the other way round
same_le : (a b : ℕ) → same_type a b ≤ 1
same_le a b = cond_case (λ (k : ℕ). k ≤ 1) (eqb a b) 1 0 (λ _. omega arith) (λ _. omega arith)

same_eq : (a b : ℕ) → same_type a b ≡ 1 → a ≡ b
same_eq a b e =
    ⊎_elim (λ y. eqb-true a b y) (λ (n : eqb a b ≡ false). absurd (let z : ◌≡◌ {A = ℕ} 0 1 = rw n at e in omega arith)) (by_bool (eqb a b))

abbrev same_of : ℕ → ℕ → ℕ → ℕ → ℕ
same_of a b c d = 0 + same_type a 255 + same_type b a + same_type c b + same_type d c

module _ (a b c d : ℕ) (le : a ≤ fork_type) where
  first_new : same_type a 255 ≡ 0
  first_new = rw (ne_eqb a 255 (λ z. omega arith))

  same_three : like_types a b c d ≡ true → (same_of a b c d ≡ 3) × (d ≡ fork_type → ⊥)
  unfolding like_types
  same_three e =
      let f = past (eqb a fork_type) _ e in
      let x = through (eqb a b) _ f.1 in
      let y = through (eqb a c) _ x.1 in
      let ab = eqb-true a b x.0 in
      let ac = eqb-true a c y.0 in
      let ad = eqb-true a d y.1 in
      let p : eqb b a ≡ true = eq-eqb b a (sym ab) in
      let q : eqb c b ≡ true = eq-eqb c b (sym ac ∙ ab) in
      let r : eqb d c ≡ true = eq-eqb d c (sym ad ∙ ac) in
      (rw (first_new, p, q, r), λ z. eqb-false a fork_type f.0 (ad ∙ z))

  three_same : same_of a b c d ≡ 3 → (d ≡ fork_type → ⊥) → like_types a b c d ≡ true
  unfolding like_types
  three_same e ne =
      let n = first_new in
      let i = same_le b a in
      let j = same_le c b in
      let k = same_le d c in
      let ba : b ≡ a = same_eq b a (omega arith) in
      let cb : c ≡ b = same_eq c b (omega arith) in
      let dc : d ≡ c = same_eq d c (omega arith) in
      rw (ne_eqb a fork_type (λ z. ne (dc ∙ cb ∙ ba ∙ z)), eq-eqb a b (sym ba), eq-eqb a c (sym (cb ∙ ba))) (eq-eqb a d (sym (dc ∙ cb ∙ ba)))

  last_test : (i : ℕ) → cond (eqb d fork_type) i (cond (eqb (same_of a b c d) 3) 0 i) ≡ cond (like_types a b c d) 0 i
  last_test i = go (eqb d fork_type) (eqb (same_of a b c d) 3) (like_types a b c d) refl refl refl
    where
      go : (x y z : Bool) → eqb d fork_type ≡ x → eqb (same_of a b c d) 3 ≡ y → like_types a b c d ≡ z → cond x i (cond y 0 i) ≡ cond z 0 i
      go true y true ex ey ez = absurd ((same_three ez).1 (eqb-true d fork_type ex))
      go true y false ex ey ez = refl
      go false true true ex ey ez = refl
      go false true false ex ey ez = absurd (false≢true (sym ez ∙ three_same (eqb-true _ 3 ey) (eqb-false d fork_type ex)))
      go false false true ex ey ez = absurd (eqb-false _ 3 ey (same_three ez).0)
      go false false false ex ey ez = refl

-- at first all four are left
end_cond : (t : Bool) (o : Refusal) (i : ℕ) (u : Tree) → cond t 0 i ≡ end_of (cond t (bad o) (got i u))
end_cond true o i u = refl
end_cond false o i u = refl

end_onward : (g : Got) (f : ℕ → Tree → Got) (h : ℕ → Tree → ℕ) → ((i : ℕ) (t : Tree) → g ≡ got i t → h i t ≡ end_of (f i t)) → end_then g h ≡ end_of (onward g f)
end_onward (got i t) f h e = e i t refl
end_onward (bad o) f h e = refl

pub four_left : (s : List ℕ) (l at : ℕ) → rest_end (block_at s l) 4 at 255 0 ≡ end_of (four_at (block_at s l) at)
unfolding rest_end
four_left s l at =
    end_onward (block_at s l at) _ _ (λ i₁ a ea. end_onward (block_at s l i₁) _ _ (λ i₂ b _. end_onward (block_at s l i₂) _ _ (λ i₃ c _.
    end_onward (block_at s l i₃) _ _ (λ i₄ d _.
    let co = (block_spells s l at i₁ a ea).sound.coloured in
    last_test (colour a) (colour b) (colour c) (colour d) (type_le a co) i₄
    ∙ ap (λ (t : Bool). cond t 0 i₄) (sym (alike_types a b c d co)) ∙ end_cond (alike a b c d) _ i₄ (fork a b c d)))))
