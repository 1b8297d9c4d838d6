-- The first pass over a whole file: header, block, count, and the bytes left over, by what each function gave.
use Rattle.std.specs.Prelude.{Result, Ok, Err, Some}
use mathlib.Core.List.{List}
use mathlib.Core.Path.{◌≡◌, refl, sym, ◌∙◌}
use Prim.Native.Nat.{ℕ, ◌+◌, ◌≤◌, ◌<◌}
use native.Mathlib.Omega.{arith}
use lib.Dec.{leb, ltb, eqb}
use lib.ListN.{length, get_or}
use borrow.Author.Tests.{eqb-true, leb-false, ltb-false}
use Rattle.base.proofs.CaseLaws.{cond_case, cond_map}
use Rattle.answer.specs.declared.Refusal.{Refusal}
use Rattle.answer.specs.Numbers.{Outcome}
use Rattle.quad.specs.Numbers.{top_level}
use Rattle.quad.specs.Tree.{Tree, size_of}
use Rattle.quad.proofs.TreeLaws.{size_le, pixels_top}
use Rattle.file.specs.declared.Block.{Block}
use Rattle.file.specs.declared.Contents.{Contents}
use Rattle.file.specs.File.{got, Opened, faulty, mark, sheet_mark, closed, block_at, open_of}
use Rattle.file.specs.Reading.{told, place_after, Reaches, marks_of, header_of, count_of, records_to, closing_of, contents_of}
use Rattle.file.proofs.BlockLaws.{Spells, block_spells}
use Rattle.file.proofs.ReadLaws.{found, told_bad}
use Rattle.file.proofs.ScanLaws.{got_after}

-- a header that answers
pub record Header (s : List ℕ) : Type 0 where
  pub first : get_or s 0 0 ≡ mark
  pub second : get_or s 1 0 ≡ sheet_mark
  pub level : get_or s 2 0 ≤ top_level
  pub long : 5 ≤ length s
  pub is : header_of s ≡ Ok (get_or s 2 0)

-- a whole file by its header
abbrev pub by_header : List ℕ → Outcome → Opened
by_header s (Ok n) = closed s n (block_at s n 5)
by_header s (Err o) = faulty o

pub open_by : (s : List ℕ) → open_of s ≡ by_header s (header_of s)
unfolding open_of header_of
open_by s =
    let f : Outcome → Opened = by_header s in
    sym (cond_map f (leb (length s) 0) _ _ _ _ refl
    (cond_map f (eqb (get_or s 0 0) mark) _ _ _ _
    (cond_map f (leb (length s) 1) _ _ _ _ refl
    (cond_map f (eqb (get_or s 1 0) sheet_mark) _ _ _ _
    (cond_map f (leb (length s) 2) _ _ _ _ refl
    (cond_map f (ltb top_level (get_or s 2 0)) _ _ _ _ refl
    (cond_map f (leb (length s) 3) _ _ _ _ refl (cond_map f (leb (length s) 4) _ _ _ _ refl refl))))
    refl))
    refl))

-- marks that are told as right
pub marks_good : (s : List ℕ) (at second : ℕ) → marks_of s at second ≡ Ok tt → (get_or s at 0 ≡ mark) × (get_or s (at + 1) 0 ≡ second)
unfolding marks_of
marks_good s at second =
    let P : Result (Unit {0}) Refusal → Type 0 = λ o. o ≡ Ok tt → (get_or s at 0 ≡ mark) × (get_or s (at + 1) 0 ≡ second) in
    let none : (o : Refusal) → P (Err o) = λ o e. absurd (let z : ◌≡◌ {A = ℕ} 0 1 = cc in omega arith) in
    cond_case P (leb (length s) at) _ _ (λ _. none _)
    (λ _. cond_case P (eqb (get_or s at 0) mark) _ _
    (λ a. cond_case P (leb (length s) (at + 1)) _ _ (λ _. none _)
    (λ _. cond_case P (eqb (get_or s (at + 1) 0) second) _ _
    (λ b _. (eqb-true (get_or s at 0) mark a, eqb-true (get_or s (at + 1) 0) second b))
    (λ _. none _)))
    (λ _. none _))

pub header_good : (s : List ℕ) (level : ℕ) → header_of s ≡ Ok level → Header s
unfolding header_of
header_good s level =
    let P : Outcome → Type 0 = λ o. o ≡ Ok level → o ≡ header_of s → Header s in
    let none : (o : Refusal) → P (Err o) = λ o e _. absurd (let z : ◌≡◌ {A = ℕ} 0 1 = cc in omega arith) in
    λ e. cond_case P (leb (length s) 0) _ _ (λ _. none _)
    (λ _. cond_case P (eqb (get_or s 0 0) mark) _ _
    (λ a. cond_case P (leb (length s) 1) _ _ (λ _. none _)
    (λ _. cond_case P (eqb (get_or s 1 0) sheet_mark) _ _
    (λ b. cond_case P (leb (length s) 2) _ _ (λ _. none _)
    (λ _. cond_case P (ltb top_level (get_or s 2 0)) _ _ (λ _. none _)
    (λ low. cond_case P (leb (length s) 3) _ _ (λ _. none _)
    (λ _. cond_case P (leb (length s) 4) _ _ (λ _. none _)
    (λ long _ is.
    record {
      first = eqb-true (get_or s 0 0) mark a;
      second = eqb-true (get_or s 1 0) sheet_mark b;
      level = ltb-false top_level (get_or s 2 0) low;
      long = omega (arith, leb-false (length s) 4 long);
      is = sym is;
    })))))
    (λ _. none _)))
    (λ _. none _)) e refl

-- what each function gave, and what the next asks
pub survey_stop : (s : List ℕ) (e : Refusal) → Err e ≡ header_of s → Err e ≡ contents_of (open_of s)
survey_stop s e h = rw (open_by s, ← h)

module _ (s : List ℕ) (level : ℕ) (ok : Ok level ≡ header_of s) where
  header : Header s
  header = header_good s level (sym ok)

  its_level : level ≡ get_or s 2 0
  its_level =
      let e : Ok level ≡ Ok (get_or s 2 0) = ok ∙ header.is in
      cc

  low : level ≤ top_level
  low = rw its_level header.level

  opens : open_of s ≡ closed s level (block_at s level 5)
  opens = open_by s ∙ rw (← ok)

  pub block_asks : Reaches level 5
  block_asks = omega (arith, low, pixels_top level low)

  pub close_long : 5 ≤ length s
  close_long = header.long

  -- the block that was read ends near, and then the file is closed
  module _ (i : ℕ) (t : Tree) (is : block_at s level 5 ≡ got i t) where
    spells : Spells s level 5 i t
    spells = block_spells s level 5 i t is

    ends_late : 5 ≤ i
    ends_late = omega (arith, spells.next)

    ends_near : i < 4294967296
    ends_near =
        omega (arith, spells.next, size_le level t spells.sound.within, pixels_top level low)

    closes : (c : Result Contents Refusal) → c ≡ closing_of s level i → c ≡ contents_of (open_of s)
    unfolding closing_of
    closes c g =
        let size : records_to i ≡ size_of t = omega (arith, spells.next) in
        g ∙ rw (opens, is, size)
        (sym (cond_map contents_of (eqb (count_of s) (size_of t)) _ _ _ _ (cond_map contents_of (ltb i (length s)) _ _ _ _ refl refl) refl))

  -- as the fast way read it
  module _ (i : ℕ) (sc : Some i ≡ place_after (block_at s level 5)) where
    scanned : (t : Tree) × (block_at s level 5 ≡ got i t)
    scanned = got_after (block_at s level 5) i sc

    pub scan_late : 5 ≤ i
    scan_late = ends_late i scanned.0 scanned.1

    pub scan_near : i < 4294967296
    scan_near = ends_near i scanned.0 scanned.1

    pub survey_scanned : (c : Result Contents Refusal) → c ≡ closing_of s level i → c ≡ contents_of (open_of s)
    survey_scanned = closes i scanned.0 scanned.1

  -- as it was read byte by byte
  pub survey_bad : (o : Refusal) → Err o ≡ told (block_at s level 5) → Err o ≡ contents_of (open_of s)
  survey_bad o f = rw (opens, told_bad (block_at s level 5) o f)

  module _ (b : Block) (f : Ok b ≡ told (block_at s level 5)) where
    pub close_start : 5 ≤ b.next
    close_start = let d = found s level 5 b f in ends_late b.next d.tree d.is

    pub survey_read : (c : Result Contents Refusal) → c ≡ closing_of s level b.next → c ≡ contents_of (open_of s)
    survey_read = let d = found s level 5 b f in closes b.next d.tree d.is
