-- One file for each tree: bytes open as the sheet of a tree exactly where they are that tree's file. Both ways go by
-- the bytes' spelling.
use mathlib.Core.List.{List, [], ◌∷◌, ◌++◌, append_assoc}
use mathlib.Core.Path.{◌≡◌, refl, ap, sym, ◌∙◌}
use Prim.Native.Nat.{ℕ, ◌+◌, ◌*◌, ◌/◌, ◌%◌, ◌^◌, ◌≤◌, ◌<◌}
use native.Mathlib.Nat.{add-zero}
use native.Mathlib.Numerals.{add-one}
use native.Mathlib.Omega.{arith}
use lib.ListN.{length, get_or, drop, length-append, drop_of_length-le}
use lib.Seq.{drop-cons, get_or-append-add}
use borrow.Author.Tests.{lt-leb, le-ltb, eq-eqb}
use Rattle.quad.specs.Numbers.{top_level}
use Rattle.quad.specs.Tree.{Tree, size_of, types_of, shade}
use Rattle.quad.proofs.PictureLaws.{one_picture_one_tree}
use Rattle.quad.proofs.TreeLaws.{types_length}
use Rattle.table.proofs.AcceptedLaws.{Sound}
use Rattle.file.specs.File.{mark, sheet_mark, node_mark, records, file_of, opened, open_of}
use Rattle.file.specs.Reading.{count_of}
use Rattle.file.proofs.SpeltLaws.{Spelt}
use Rattle.file.proofs.BlockLaws.{block_read}
use Rattle.file.proofs.OpenLaws.{open_whole}
use Rattle.file.proofs.WriteLaws.{types_bytes}

-- numbers that are bytes
abbrev pub Bytes : List ℕ → Type 0
Bytes s = (i : ℕ) → get_or s i 0 < 256

-- records spell their types
spelt_records : (ks before : List ℕ) (at : ℕ) → length before ≡ at → Spelt (before ++ records ks) at ks
unfolding Spelt records
spelt_records [] before at e = tt
spelt_records (k ∷ ks) before at e =
    let one : List ℕ = mark ∷ node_mark ∷ k ∷ [] in
    let s : List ℕ = before ++ (mark ∷ node_mark ∷ k ∷ records ks) in
    let at_byte : (j : ℕ) → get_or s (at + j) 0 ≡ get_or (mark ∷ node_mark ∷ k ∷ records ks) j 0 =
    λ j. ap (λ (i : ℕ). get_or s (i + j) 0) (sym e) ∙ get_or-append-add before (mark ∷ node_mark ∷ k ∷ records ks) j 0 in
    let first : get_or s at 0 ≡ mark = ap (λ (i : ℕ). get_or s i 0) (sym (add-zero at)) ∙ at_byte 0 in
    let more = spelt_records ks (before ++ one) (at + 3) (length-append before one ∙ omega arith) in (
      record { fits = simp length-append (omega arith); first = first; second = at_byte 1; kind = at_byte 2 },
      rw (append_assoc before one (records ks)) at more,
    )

-- and bytes that spell types to their end are the records
byte_on : (s : List ℕ) (at i v : ℕ) → at < length s → i ≡ at + 1 → get_or s at 0 ≡ v → drop at s ≡ v ∷ drop i s
byte_on s at i v lt e h = drop-cons s at 0 lt ∙ rw (h, e, add-one)

spelt_drop : (s ks : List ℕ) (at : ℕ) → Spelt s at ks → length s ≡ at + 3 * length ks → drop at s ≡ records ks
unfolding Spelt records
spelt_drop s [] at h e = drop_of_length-le s {i = at} (omega arith)
spelt_drop s (k ∷ ks) at h e =
    let b = h.0 in
    byte_on s at (at + 1) mark (omega arith) refl b.first
    ∙ ap (λ (l : List ℕ). mark ∷ l) (byte_on s (at + 1) (at + 2) node_mark (omega arith) (omega arith) b.second)
    ∙ ap (λ (l : List ℕ). mark ∷ node_mark ∷ l) (byte_on s (at + 2) (at + 3) k (omega arith) (omega arith) b.kind)
    ∙ ap (λ (l : List ℕ). mark ∷ node_mark ∷ k ∷ l) (spelt_drop s ks (at + 3) h.1 (omega arith))

-- a header and a block that spells a sound tree open as its sheet
pub opens : (s : List ℕ) (n : ℕ) (t : Tree) → get_or s 0 0 ≡ mark → get_or s 1 0 ≡ sheet_mark → get_or s 2 0 ≡ n → count_of s ≡ size_of t
    → length s ≡ 5 + 3 * size_of t → Spelt s 5 (types_of t) → n ≤ top_level → Sound n t → open_of s ≡ opened n t
unfolding open_of
opens s n t first second level count long spelt top sound =
    rw (
      lt-leb (length s) 0 (omega arith),
      first,
      lt-leb (length s) 1 (omega arith),
      second,
      lt-leb (length s) 2 (omega arith),
      level,
      le-ltb top_level n top,
      lt-leb (length s) 3 (omega arith),
      lt-leb (length s) 4 (omega arith),
      block_read s n 5 t spelt sound,
      eq-eqb (count_of s) (size_of t) count,
      le-ltb (5 + 3 * size_of t) (length s) (omega arith),
    )

pub file_length : (n : ℕ) (t : Tree) → length (file_of n t) ≡ 5 + 3 * size_of t
unfolding file_of
file_length n t = omega (arith, types_bytes t)

-- a sound tree's file opens as its sheet
pub file_opens : (n : ℕ) (t : Tree) → n ≤ top_level → Sound n t → open_of (file_of n t) ≡ opened n t
unfolding file_of
file_opens n t top sound =
    let head : List ℕ = mark ∷ sheet_mark ∷ n ∷ size_of t % 256 ∷ size_of t / 256 ∷ [] in
    opens (file_of n t) n t refl refl refl (omega arith) (file_length n t) (spelt_records (types_of t) head 5 refl) top sound

-- and every file that opens is the file of its tree, which is sound
pub record Exactly (s : List ℕ) (n : ℕ) (t : Tree) : Type 0 where
  pub is : s ≡ file_of n t
  pub level : n ≤ top_level
  pub sound : Sound n t

pub open_exactly : (s : List ℕ) (n : ℕ) (t : Tree) → Bytes s → open_of s ≡ opened n t → Exactly s n t
unfolding file_of
open_exactly s n t bytes e =
    let w = open_whole s n t e in
    let low : get_or s 3 0 ≡ size_of t % 256 = omega (arith, w.count, bytes 3) in
    let high : get_or s 4 0 ≡ size_of t / 256 = omega (arith, w.count, bytes 3) in
    let long = w.ends in
    let is : drop 0 s ≡ file_of n t =
    byte_on s 0 1 mark (omega arith) refl w.header.first
    ∙ ap (λ (l : List ℕ). mark ∷ l) (byte_on s 1 2 sheet_mark (omega arith) refl w.header.second)
    ∙ ap (λ (l : List ℕ). mark ∷ sheet_mark ∷ l) (byte_on s 2 3 n (omega arith) refl w.level)
    ∙ ap (λ (l : List ℕ). mark ∷ sheet_mark ∷ n ∷ l) (byte_on s 3 4 (size_of t % 256) (omega arith) refl low)
    ∙ ap (λ (l : List ℕ). mark ∷ sheet_mark ∷ n ∷ size_of t % 256 ∷ l) (byte_on s 4 5 (size_of t / 256) (omega arith) refl high)
    ∙ ap (λ (l : List ℕ). mark ∷ sheet_mark ∷ n ∷ size_of t % 256 ∷ size_of t / 256 ∷ l)
    (spelt_drop s (types_of t) 5 w.spells.spelt (omega (arith, types_length t))) in
    record { is = is; level = rw w.level at w.header.level; sound = w.spells.sound }

-- so there is one file for each picture
pub one_file : (s s' : List ℕ) (n : ℕ) (t t' : Tree) → Bytes s → Bytes s' → open_of s ≡ opened n t → open_of s' ≡ opened n t'
    → ((x y : ℕ) → x < 2 ^ n → y < 2 ^ n → shade n t x y ≡ shade n t' x y) → s ≡ s'
one_file s s' n t t' b b' e e' h =
    let x = open_exactly s n t b e in
    let x' = open_exactly s' n t' b' e' in
    let same : t ≡ t' =
    one_picture_one_tree n t t' x.sound.within x'.sound.within x.sound.reduced x'.sound.reduced h in
    x.is ∙ ap (file_of n) same ∙ sym x'.is
