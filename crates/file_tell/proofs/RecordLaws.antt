-- A byte and the two marks: what a call told of them, and what the definitions say then.
use Rattle.std.specs.Prelude.{Result, Ok, Err}
use Rattle.std.specs.Result.{IsErr, IsErrAnd}
use Rattle.std.proofs.lemmas.Result.{err_from_is_err_and}
use mathlib.Core.Bool.{Bool, true, false}
use mathlib.Core.List.{List}
use mathlib.Core.Path.{◌≡◌, refl, sym}
use Prim.Native.Nat.{ℕ, ◌+◌}
use native.Mathlib.Omega.{arith}
use lib.Dec.{eqb, leb}
use lib.ListN.{length, get_or}
use Rattle.base.proofs.CaseLaws.{cond_map, at_eq, at_ne}
use Rattle.answer.specs.declared.Refusal.{Refusal}
use Rattle.answer.specs.declared.Refusal.TheVariants.{Absent, BadByte}
use Rattle.file.specs.File.{mark, needed, marked}
use Rattle.file.specs.Reading.{byte_of, marks_of}
use Rattle.file.proofs.ReadLaws.{behind, marks_by}

-- what `?` gives back
pub back : {A : Type 0} (r : Result A Refusal) (e : Refusal) → IsErr r × IsErrAnd r (λ x. x ≡ e) → r ≡ Err e
back r e h =
    let p = err_from_is_err_and r h.1 in
    rw (p.1, p.2) refl

module _ {A : Type 0} (s : List ℕ) (at : ℕ) where
  -- a byte was needed
  pub byte_err : (next : Result A Refusal) (e : Refusal) → Err e ≡ byte_of s at → Err e ≡ needed s at Err next
  byte_err next e h = go (leb (length s) at) refl
    where
      go : (t : Bool) → leb (length s) at ≡ t → Err e ≡ needed s at Err next
      go true f =
          let g : ◌≡◌ {A = Result ℕ Refusal} (Err e) (Err (Absent at)) = rw f at h in
          rw f (cc)
      go false f = absurd (let z : ◌≡◌ {A = ℕ} 0 1 = (let g : ◌≡◌ {A = Result ℕ Refusal} (Err e) (Ok (get_or s at 0)) = rw f at h in cc) in omega arith)

  pub byte_ok : (next r : Result A Refusal) (b : ℕ) → Ok b ≡ byte_of s at → (b ≡ get_or s at 0 → r ≡ next) → r ≡ needed s at Err next
  byte_ok next r b h go_on = go (leb (length s) at) refl
    where
      go : (t : Bool) → leb (length s) at ≡ t → r ≡ needed s at Err next
      go true f = absurd (let z : ◌≡◌ {A = ℕ} 0 1 = (let g : ◌≡◌ {A = Result ℕ Refusal} (Ok b) (Err (Absent at)) = rw f at h in cc) in omega arith)
      go false f =
          let g : ◌≡◌ {A = Result ℕ Refusal} (Ok b) (Ok (get_or s at 0)) = rw f at h in
          rw f (go_on (cc))

  -- and it was to be a mark
  pub mark_wrong : (byte b : ℕ) (next : Result A Refusal) → Ok b ≡ byte_of s at → (b ≡ byte → ⊥) → Err (BadByte at) ≡ marked s at byte Err next
  mark_wrong byte b next h ne = byte_ok _ _ b h (λ e. at_ne (get_or s at 0) byte (Err (BadByte at)) next (Err (BadByte at)) (rw e at ne) refl)

  pub mark_right : (byte b : ℕ) (next r : Result A Refusal) → Ok b ≡ byte_of s at → b ≡ byte → r ≡ next → r ≡ marked s at byte Err next
  mark_right byte b next r h is g = byte_ok _ r b h (λ e. at_eq (get_or s at 0) byte r next (Err (BadByte at)) (rw e at is) g)

  -- two mark bytes, one tested after the other, were tested as one
  pub marks_err : (second : ℕ) (next : Result A Refusal) (e : Refusal) → Err e ≡ marks_of s at second → Err e ≡ marked s at mark Err (marked s (at + 1) second Err next)
  marks_err second next e h = rw (marks_by s at second Err next, ← h)

  pub marks_ok : (second : ℕ) (next r : Result A Refusal) (u : Unit {0}) → Ok u ≡ marks_of s at second → r ≡ next → r ≡ marked s at mark Err (marked s (at + 1) second Err next)
  marks_ok second next r u h g = rw (marks_by s at second Err next, ← h) g
