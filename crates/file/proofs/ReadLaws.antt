-- The first pass, answer by answer: what a record, or the block before it, says of the next, and that no place passes a
-- word.
use Rattle.std.specs.Prelude.{Result, Ok, Err}
use mathlib.Core.Bool.{Bool, true, false, cond}
use mathlib.Core.List.{List}
use mathlib.Core.Path.{◌≡◌, refl, ap, sym, ◌∙◌}
use Prim.Native.Nat.{ℕ, zero, suc, ◌+◌, ◌-◌, ◌*◌, ◌^◌, ◌≤◌, ◌<◌}
use native.Mathlib.Nat.{one-le-pow}
use native.Mathlib.Omega.{arith}
use lib.Dec.{leb, eqb}
use lib.ListN.{length, get_or}
use borrow.Author.Tests.{ne_eqb}
use Rattle.base.proofs.CaseLaws.{cond_case, cond_map}
use Rattle.base.proofs.PowLaws.{pow_less}
use Rattle.answer.specs.declared.Refusal.TheVariants.{TooDeep, NeedlessFork}
use Rattle.answer.specs.declared.Refusal.{Refusal}
use Rattle.quad.specs.Numbers.{fork_type, is_type}
use Rattle.quad.specs.Tree.{Tree, leaf, colour, alike, like_types, Coloured}
use Rattle.quad.proofs.TreeLaws.{size_le, alike_types}
use Rattle.file.specs.declared.Block.{Block}
use Rattle.file.specs.File.{Got, got, bad, mark, node_mark, marked, record_at, four_at, block_at}
use Rattle.file.specs.Reading.{marks_of, record_of, told, Reaches, FourReach}
use Rattle.file.proofs.BlockLaws.{block_spells}

-- two mark bytes, one tested after the other, are tested as one
abbrev pub behind : {A : Type 0} → (Refusal → A) → A → Result (Unit {0}) Refusal → A
behind refuse next (Ok u) = next
behind refuse next (Err e) = refuse e

pub marks_by : {A : Type 0} (s : List ℕ) (at second : ℕ) (refuse : Refusal → A) (next : A)
    → marked s at mark refuse (marked s (at + 1) second refuse next) ≡ behind refuse next (marks_of s at second)
unfolding marks_of
marks_by {A} s at second refuse next =
    let f : Result (Unit {0}) Refusal → A = behind refuse next in
    sym (cond_map f (leb (length s) at) _ _ _ _ refl
    (cond_map f (eqb (get_or s at 0) mark) _ _ _ _
    (cond_map f (leb (length s) (at + 1)) _ _ _ _ refl (cond_map f (eqb (get_or s (at + 1) 0) second) _ _ _ _ refl refl))
    refl))

-- what a record gives, a fork's left open
abbrev by_record : Got → Result Block Refusal → Got
by_record forked (Ok b) = cond (eqb b.kind fork_type) forked (got b.next (leaf b.kind))
by_record forked (Err o) = bad o

record_by : (s : List ℕ) (at : ℕ) (forked : Got) → record_at s at forked ≡ by_record forked (record_of s at)
unfolding record_of
record_by s at forked =
    let f : Result Block Refusal → Got = by_record forked in
    sym (cond_map f (leb (length s) at) _ _ _ _ refl
    (cond_map f (eqb (get_or s at 0) mark) _ _ _ _
    (cond_map f (leb (length s) (at + 1)) _ _ _ _ refl
    (cond_map f (eqb (get_or s (at + 1) 0) node_mark) _ _ _ _
    (cond_map f (leb (length s) (at + 2)) _ _ _ _ refl (cond_map f (is_type (get_or s (at + 2) 0)) _ _ _ _ refl refl)) refl)) refl))

deeper : List ℕ → ℕ → ℕ → Got
deeper s zero at = bad (TooDeep (at + 2))
deeper s (suc l) at = four_at (block_at s l) (at + 3)

block_by : (s : List ℕ) (l at : ℕ) → block_at s l at ≡ by_record (deeper s l at) (record_of s at)
unfolding block_at deeper
block_by s zero at = record_by s at _
block_by s (suc l) at = record_by s at _

abbrev next_of : ℕ → Result Block Refusal → ℕ
next_of d (Ok b) = b.next
next_of d (Err o) = d

next_record : (s : List ℕ) (at : ℕ) → next_of (at + 3) (record_of s at) ≡ at + 3
unfolding record_of
next_record s at =
    let P : Result Block Refusal → Type 0 = λ b. next_of (at + 3) b ≡ at + 3 in
    cond_case P (leb (length s) at) _ _ (λ _. refl)
    (λ _. cond_case P (eqb (get_or s at 0) mark) _ _
    (λ _. cond_case P (leb (length s) (at + 1)) _ _ (λ _. refl)
    (λ _. cond_case P (eqb (get_or s (at + 1) 0) node_mark) _ _
    (λ _. cond_case P (leb (length s) (at + 2)) _ _ (λ _. refl) (λ _. cond_case P (is_type (get_or s (at + 2) 0)) _ _ (λ _. refl) (λ _. refl)))
    (λ _. refl)))
    (λ _. refl))

record_next : (s : List ℕ) (at : ℕ) (b : Block) → Ok b ≡ record_of s at → b.next ≡ at + 3
record_next s at b e = rw (← e) at (next_record s at)

-- every block has a record
pub some_block : (l : ℕ) → 1 ≤ 4 ^ l
some_block l = one-le-pow l 4 (omega arith)

-- a block by its record
module _ (s : List ℕ) (l at : ℕ) where
  -- the four blocks behind a fork are a level lower
  pub four_lower : (m : ℕ) → 2 * l ≡ m → (l ≡ 0 → ⊥) → 2 * (l - 1) + 1 < m
  four_lower m e nz = omega arith

  pub block_wrong : (o : Refusal) → Err o ≡ record_of s at → Err o ≡ told (block_at s l at)
  block_wrong o e = rw (block_by s l at, ← e)

  module _ (b : Block) (e : Ok b ≡ record_of s at) where
    pub block_leaf : (b.kind ≡ fork_type → ⊥) → Ok b ≡ told (block_at s l at)
    block_leaf ne = rw (block_by s l at, ← e, ne_eqb b.kind fork_type ne) (unfold colour in refl)

    pub block_deep : b.kind ≡ fork_type → l ≡ 0 → Err (TooDeep (at + 2)) ≡ told (block_at s l at)
    block_deep f z = rw (block_by s l at, ← e, f, z) (unfold deeper in refl)

    pub block_fork : (r : Result Block Refusal) → b.kind ≡ fork_type → (l ≡ 0 → ⊥) → r ≡ told (four_at (block_at s (l - 1)) b.next) → r ≡ told (block_at s l at)
    block_fork r f nz e' =
        let le : l ≡ suc (l - 1) = omega arith in
        let ie : at + 3 ≡ b.next = sym (record_next s at b e) in
        let de : deeper s (suc (l - 1)) at ≡ four_at (block_at s (l - 1)) (at + 3) = unfold deeper in refl in
        let k : eqb b.kind fork_type ≡ true = rw f refl in
        e' ∙ sym (ap told (block_by s l at ∙ ap (by_record (deeper s l at)) (sym e) ∙ rw k refl ∙ ap (λ (m : ℕ). deeper s m at) le ∙ de
        ∙ ap (four_at (block_at s (l - 1))) ie))

    -- what the call on the four blocks behind it asks
    pub four_reach : Reaches l at → (l ≡ 0 → ⊥) → FourReach (l - 1) b.next
    four_reach h nz =
        omega (arith, pow_less 4 l (omega arith), record_next s at b e)

-- a block that was read, as the first pass tells it
pub record BlockRead (s : List ℕ) (l at : ℕ) (b : Block) : Type 0 where
  pub tree : Tree
  pub is : block_at s l at ≡ got b.next tree
  pub kind : colour tree ≡ b.kind
  pub coloured : Coloured tree
  pub near : b.next < at + 4 * 4 ^ l

pub found : (s : List ℕ) (l at : ℕ) (b : Block) → Ok b ≡ told (block_at s l at) → BlockRead s l at b
found s l at b e = go (block_at s l at) refl (sym e)
  where
    go : (g : Got) → block_at s l at ≡ g → told g ≡ Ok b → BlockRead s l at b
    go (got j t) is h =
        let bj : record { next = j; kind = colour t } ≡ b = cc in
        let ij : j ≡ b.next = ap (λ (x : Block). x.next) bj in
        let is' : block_at s l at ≡ got b.next t = rw ij at is in
        let spells = block_spells s l at b.next t is' in
        record { tree = t; is = is'; kind = ap (λ (x : Block). x.kind) bj; coloured = spells.sound.coloured; near = omega (arith, spells.next, size_le l t spells.sound.within) }
    go (bad o) is h = absurd (let z : ◌≡◌ {A = ℕ} 0 1 = cc in omega arith)

pub told_bad : (g : Got) (o : Refusal) → Err o ≡ told g → g ≡ bad o
told_bad (got j t) o f = absurd (let z : ◌≡◌ {A = ℕ} 0 1 = cc in omega arith)
told_bad (bad o') o f = cc

-- four blocks: the first that is bad decides, and each that was read says where the next one starts
module _ (s : List ℕ) (l at : ℕ) where
  pub four_1 : (o : Refusal) → Err o ≡ told (block_at s l at) → Err o ≡ told (four_at (block_at s l) at)
  four_1 o e = rw (told_bad (block_at s l at) o e)

  pub reach_1 : FourReach l at → Reaches l at
  reach_1 h = omega (arith, some_block l)

  module _ (b₁ : Block) (e₁ : Ok b₁ ≡ told (block_at s l at)) where
    nw : BlockRead s l at b₁
    nw = found s l at b₁ e₁

    pub four_2 : (o : Refusal) → Err o ≡ told (block_at s l b₁.next) → Err o ≡ told (four_at (block_at s l) at)
    four_2 o e = rw (nw.is, told_bad (block_at s l b₁.next) o e)

    pub reach_2 : FourReach l at → Reaches l b₁.next
    reach_2 h = omega (arith, some_block l, nw.near)

    module _ (b₂ : Block) (e₂ : Ok b₂ ≡ told (block_at s l b₁.next)) where
      ne : BlockRead s l b₁.next b₂
      ne = found s l b₁.next b₂ e₂

      pub four_3 : (o : Refusal) → Err o ≡ told (block_at s l b₂.next) → Err o ≡ told (four_at (block_at s l) at)
      four_3 o e = rw (nw.is, ne.is, told_bad (block_at s l b₂.next) o e)

      pub reach_3 : FourReach l at → Reaches l b₂.next
      reach_3 h = omega (arith, some_block l, nw.near, ne.near)

      module _ (b₃ : Block) (e₃ : Ok b₃ ≡ told (block_at s l b₂.next)) where
        sw : BlockRead s l b₂.next b₃
        sw = found s l b₂.next b₃ e₃

        pub four_4 : (o : Refusal) → Err o ≡ told (block_at s l b₃.next) → Err o ≡ told (four_at (block_at s l) at)
        four_4 o e = rw (nw.is, ne.is, sw.is, told_bad (block_at s l b₃.next) o e)

        pub reach_4 : FourReach l at → Reaches l b₃.next
        reach_4 h = omega (arith, some_block l, nw.near, ne.near, sw.near)

        module _ (b₄ : Block) (e₄ : Ok b₄ ≡ told (block_at s l b₃.next)) (u : Bool) (e : u ≡ like_types b₁.kind b₂.kind b₃.kind b₄.kind) where
          se : BlockRead s l b₃.next b₄
          se = found s l b₃.next b₄ e₄

          likes : alike nw.tree ne.tree sw.tree se.tree ≡ u
          likes =
              alike_types nw.tree ne.tree sw.tree se.tree nw.coloured ∙ rw (nw.kind, ne.kind, sw.kind, se.kind) (sym e)

          pub four_like : u ≡ true → Err (NeedlessFork (b₃.next + 2)) ≡ told (four_at (block_at s l) at)
          four_like h = rw (nw.is, ne.is, sw.is, se.is, likes ∙ h)

          pub four_read : u ≡ false → Ok (record { next = b₄.next; kind = fork_type }) ≡ told (four_at (block_at s l) at)
          four_read h = rw (nw.is, ne.is, sw.is, se.is, likes ∙ h) (unfold colour in refl)
