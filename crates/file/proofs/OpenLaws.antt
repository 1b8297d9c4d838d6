-- A file that is accepted, taken apart: its header, its one block, its count, and no byte left over.
use Rattle.std.specs.Prelude.{Ok, Err}
use mathlib.Core.List.{List}
use mathlib.Core.Path.{◌≡◌, refl, ap, sym, ◌∙◌}
use Prim.Native.Nat.{ℕ, ◌+◌, ◌*◌}
use native.Mathlib.Omega.{arith}
use lib.Dec.{ltb, eqb}
use lib.ListN.{length, get_or}
use borrow.Author.Tests.{eqb-true, ltb-false}
use Rattle.base.proofs.CaseLaws.{cond_case}
use Rattle.answer.specs.declared.Refusal.TheVariants.{BadCount}
use Rattle.answer.specs.declared.Refusal.{Refusal}
use Rattle.answer.specs.Numbers.{Outcome}
use Rattle.quad.specs.Tree.{Tree, size_of, types_of}
use Rattle.quad.proofs.TreeLaws.{types_length}
use Rattle.file.specs.File.{Got, got, bad, Opened, opened, faulty, closed, block_at, open_of}
use Rattle.file.specs.Reading.{header_of, count_of}
use Rattle.file.proofs.SpeltLaws.{spelt_fits}
use Rattle.file.proofs.BlockLaws.{Spells, block_spells}
use Rattle.file.proofs.SurveyLaws.{Header, by_header, header_good, open_by}

pub record Whole (s : List ℕ) (n : ℕ) (t : Tree) : Type 0 where
  pub header : Header s
  pub level : get_or s 2 0 ≡ n
  pub count : count_of s ≡ size_of t
  pub block : block_at s n 5 ≡ got (5 + 3 * size_of t) t
  pub spells : Spells s n 5 (5 + 3 * size_of t) t
  pub ends : length s ≡ 5 + 3 * size_of t

no_fault : {A : Type 0} (o : Refusal) (n : ℕ) (t : Tree) → faulty o ≡ opened n t → A
no_fault o n t e = absurd (let z : ◌≡◌ {A = ℕ} 0 1 = cc in omega arith)

module _ (s : List ℕ) (n : ℕ) (t : Tree) where
  block_whole : Header s → (g : Got) → block_at s (get_or s 2 0) 5 ≡ g → closed s (get_or s 2 0) g ≡ opened n t → Whole s n t
  block_whole h (bad o) is = no_fault o n t
  block_whole h (got i u) is =
      let P : Opened → Type 0 = λ o. o ≡ opened n t → Whole s n t in
      cond_case P (eqb (count_of s) (size_of u)) _ (faulty (BadCount 3))
      (λ same. cond_case P (ltb i (length s)) (faulty (BadCount i)) (opened (get_or s 2 0) u) (λ _. no_fault (BadCount i) n t)
      (λ last e.
      let level : get_or s 2 0 ≡ n = cc in
      let ut : u ≡ t = cc in
      let is' : block_at s n 5 ≡ got i t = rw (level, ut) at is in
      let spells = block_spells s n 5 i t is' in
      let fits = spelt_fits s (types_of t) 5 h.long spells.spelt in
      record {
        header = h;
        level = level;
        count = eqb-true (count_of s) (size_of u) same ∙ ap size_of ut;
        block = rw spells.next at is';
        spells = rw spells.next at spells;
        ends = omega (arith, types_length t, spells.next, ltb-false i (length s) last);
      }))
      (λ _. no_fault (BadCount 3) n t)

  pub open_whole : open_of s ≡ opened n t → Whole s n t
  open_whole e = go (header_of s) refl (sym (open_by s) ∙ e)
    where
      go : (h : Outcome) → header_of s ≡ h → by_header s h ≡ opened n t → Whole s n t
      go (Ok k) is f =
          let h = header_good s k is in
          let level : k ≡ get_or s 2 0 = (let e : Ok k ≡ Ok (get_or s 2 0) = sym is ∙ h.is in cc) in
          block_whole h (block_at s (get_or s 2 0) 5) refl (rw level at f)
      go (Err o) is f = no_fault o n t f
