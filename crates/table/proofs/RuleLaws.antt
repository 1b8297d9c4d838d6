-- The six rules turn by turn, as the check's functions go through them.
use Rattle.std.specs.Prelude.{Ok, Err}
use mathlib.Core.Bool.{Bool, true, false, not, ◌&&◌}
use mathlib.Core.List.{List}
use mathlib.Core.Logic.{⊎_elim}
use mathlib.Core.Path.{◌≡◌, refl, ap, sym, ◌∙◌}
use Prim.Native.Nat.{ℕ, zero, suc, ◌+◌, ◌-◌, ◌*◌, ◌≤◌, ◌<◌}
use native.Mathlib.Nat.{add-zero, zero-add, eq-or-lt_of_le, not-suc-le-zero, eq-zero-or-pos}
use native.Mathlib.Omega.{arith}
use lib.Dec.{leb, ltb, eqb}
use lib.ListN.{length}
use borrow.Author.Tests.{eq-eqb, ne_eqb, eqb-true, ltb-true, lt-ltb, le-ltb, le-leb}
use Rattle.base.proofs.BoolLaws.{and_left, and_right, or_true, on, off}
use Rattle.answer.specs.declared.Refusal.{Refusal}
use Rattle.answer.specs.declared.Refusal.TheVariants.{BadLevel, WrongLength}
use Rattle.quad.specs.Numbers.{none, top_level, top_colour, fork_type, max_words}
use Rattle.table.specs.Table.{nodes, father, son, node_type, is_fork}
use Rattle.table.specs.Links.{Rising, SonIn, SonsIn}
use Rattle.table.specs.Rules.{
  depth_to,
  all_of,
  one,
  type_ok,
  father_ok,
  once_ok,
  son_ok,
  word_ok,
  sons_ok,
  depth_ok,
  mixed_ok,
  first_failed,
  fault_at,
  faulty,
  fault_named,
  obeyed,
  fault_from,
  length_ok,
  sizes_of,
}

-- the climb
module _ (T : List ℕ) where
  pub depth_none : (p : ℕ) → depth_to T 0 p ≡ 0
  unfolding depth_to
  depth_none p = refl

  pub depth_root : (k : ℕ) → depth_to T k 0 ≡ 0
  unfolding depth_to
  depth_root zero = refl
  depth_root (suc k) = refl

  pub depth_step : (k p : ℕ) → (p ≡ 0 → ⊥) → depth_to T (suc k) p ≡ suc (depth_to T k (father T p))
  unfolding depth_to
  depth_step k p h = rw (ne_eqb p 0 h, depth_to)

  -- one turn of it
  pub depth_more : (n k q : ℕ) → k < n → (q ≡ 0 → ⊥) → depth_to T (n - k) q ≡ suc (depth_to T (n - (k + 1)) (father T q))
  depth_more n k q lt h =
      let e : n - k ≡ suc (n - (k + 1)) = omega arith in
      rw e (depth_step (n - (k + 1)) q h)

pub rising_zero : (T : List ℕ) → Rising T 0
unfolding Rising
rising_zero T k lt pos = absurd (not-suc-le-zero lt)

pub rising_at : (T : List ℕ) (m k : ℕ) → Rising T m → k < m → (k ≡ 0 → ⊥) → father T k < k
unfolding Rising
rising_at T m k r lt h = r k lt (omega arith)

pub rising_more : (T : List ℕ) (p : ℕ) → Rising T p → father_ok T p ≡ true → Rising T (p + 1)
unfolding Rising father_ok
rising_more T p r e k lt pos =
    let le : k ≤ p = omega arith in
    ⊎_elim
    (λ (q : k ≡ p).
    let z : p ≡ 0 → ⊥ = λ w. omega arith in
    rw q (ltb-true _ _ (rw (ne_eqb p 0 z) at e)))
    (λ (l : k < p). r k l pos)
    (eq-or-lt_of_le le)

-- a test over four quadrants
module _ (f : ℕ → Bool) where
  pub all_none : (k q : ℕ) → k ≡ 0 → all_of f k q ≡ true
  unfolding all_of
  all_none k q e = rw e

  pub all_more : (n q : ℕ) → q < n → f q ≡ true → all_of f (n - q) q ≡ all_of f (n - (q + 1)) (q + 1)
  unfolding all_of
  all_more n q lt e =
      let s : n - q ≡ suc (n - (q + 1)) = omega arith in
      rw (s, e)

  pub all_fails : (n q : ℕ) → q < n → f q ≡ false → all_of f (n - q) q ≡ false
  unfolding all_of
  all_fails n q lt e =
      let s : n - q ≡ suc (n - (q + 1)) = omega arith in
      rw (s, e)

  pub all_at : (k q j : ℕ) → all_of f k q ≡ true → j < k → f (q + j) ≡ true
  unfolding all_of
  all_at zero q j e lt = absurd (not-suc-le-zero lt)
  all_at (suc k) q zero e lt = rw add-zero (and_left (f q) _ e)
  all_at (suc k) q (suc j) e lt =
      let s : q + suc j ≡ q + 1 + j = omega arith in
      rw s (all_at k (q + 1) j (and_right (f q) _ e) (omega arith))

-- rule 4 says where the sons of a fork are, and that a leaf has none
module _ (T : List ℕ) (p : ℕ) where
  son_in : (q : ℕ) → son_ok T p q ≡ true → SonIn T p q
  unfolding son_ok
  son_in q e =
      let a = ltb p (son T p q) in
      let b = ltb (son T p q) (nodes T) in
      let c = eqb (father T (son T p q)) p in
      let bc = and_right a (b && c) e in
      record {
        above = ltb-true _ _ (and_left a (b && c) e);
        below = ltb-true _ _ (and_left b c bc);
        up = eqb-true _ _ (and_right b c bc);
      }

  pub sons_in : is_fork T p ≡ true → sons_ok T p ≡ true → SonsIn T p
  unfolding sons_ok word_ok
  sons_in fk e q lt =
      let w : word_ok T p (0 + q) ≡ true = all_at (word_ok T p) 4 0 q e lt in
      son_in q (rw (zero-add, fk) at w)

  pub sons_none : is_fork T p ≡ false → sons_ok T p ≡ true → (q : ℕ) → q < 4 → son T p q ≡ none
  unfolding sons_ok word_ok
  sons_none lf e q lt =
      let w : word_ok T p (0 + q) ≡ true = all_at (word_ok T p) 4 0 q e lt in
      eqb-true _ _ (rw (zero-add, lf) at w)

-- the first of six
code_zero : (r₁ r₂ r₃ r₄ r₅ r₆ : Bool) → first_failed r₁ r₂ r₃ r₄ r₅ r₆ ≡ 0
    → (r₁ ≡ true) × (r₂ ≡ true) × (r₃ ≡ true) × (r₄ ≡ true) × (r₅ ≡ true) × (r₆ ≡ true)
code_zero true true true true true true e = (refl, refl, refl, refl, refl, refl)
code_zero true true true true true false e = absurd (omega arith)
code_zero true true true true false r₆ e = absurd (omega arith)
code_zero true true true false r₅ r₆ e = absurd (omega arith)
code_zero true true false r₄ r₅ r₆ e = absurd (omega arith)
code_zero true false r₃ r₄ r₅ r₆ e = absurd (omega arith)
code_zero false r₂ r₃ r₄ r₅ r₆ e = absurd (omega arith)

-- what a node without a fault obeys
pub record Passed (n : ℕ) (T : List ℕ) (p : ℕ) : Type 0 where
  pub kind : type_ok T p ≡ true
  pub up : father_ok T p ≡ true
  pub once : once_ok T p ≡ true
  pub sons : sons_ok T p ≡ true
  pub deep : depth_ok n T p ≡ true
  pub mixed : mixed_ok T p ≡ true

pub passed : (n : ℕ) (T : List ℕ) (p : ℕ) → fault_at n T p ≡ 0 → Passed n T p
unfolding fault_at
passed n T p e =
    let z = code_zero (type_ok T p) (father_ok T p) (once_ok T p) (sons_ok T p) (depth_ok n T p) (mixed_ok T p) e in
    record { kind = z.0; up = z.1; once = z.2; sons = z.3; deep = z.4; mixed = z.5 }

no_fault : (n : ℕ) (T : List ℕ) (p : ℕ) → Passed n T p → fault_at n T p ≡ 0
unfolding fault_at
no_fault n T p r = rw (fault_at, r.kind, r.up, r.once, r.sons, r.deep, r.mixed)

all_four : (g : ℕ → Bool) → ((q : ℕ) → q < 4 → g q ≡ true) → all_of g 4 0 ≡ true
unfolding all_of
all_four g h = rw (h 0 (omega arith), h 1 (omega arith), h 2 (omega arith), h 3 (omega arith))

-- rules 2 and 3, which a node keeps by its father's words
pub record Placed (T : List ℕ) (p : ℕ) : Type 0 where
  pub up : father_ok T p ≡ true
  pub once : once_ok T p ≡ true

-- a leaf and a fork, each where its father names it, have no fault
module _ (n : ℕ) (T : List ℕ) (p : ℕ) where
  pub leaf_passed : node_type T p ≤ top_colour → ((q : ℕ) → q < 4 → son T p q ≡ none) → Placed T p → fault_at n T p ≡ 0
  unfolding type_ok sons_ok word_ok depth_ok mixed_ok
  leaf_passed le words pl =
      let lf : is_fork T p ≡ false = ne_eqb (node_type T p) fork_type (λ e. omega arith) in
      no_fault n T p (record {
        kind = rw (le-leb (node_type T p) top_colour le);
        up = pl.up;
        once = pl.once;
        sons = all_four (word_ok T p) (λ q lt. rw (lf, eq-eqb (son T p q) none (words q lt)));
        deep = rw lf;
        mixed = rw lf;
      })

  pub fork_passed : is_fork T p ≡ true → SonsIn T p → depth_to T n p < n → mixed_ok T p ≡ true → Placed T p → fault_at n T p ≡ 0
  unfolding type_ok sons_ok word_ok son_ok depth_ok
  fork_passed fk sons deep mixed pl =
      no_fault n T p (record {
        kind = rw fk (or_true (leb (node_type T p) top_colour));
        up = pl.up;
        once = pl.once;
        sons =
            all_four (word_ok T p) (λ q lt.
            let i = sons q lt in
            rw (fk, lt-ltb p (son T p q) i.above, lt-ltb (son T p q) (nodes T) i.below, eq-eqb (father T (son T p q)) p i.up));
        deep = rw (fk, lt-ltb (depth_to T n p) n deep);
        mixed = mixed;
      })

-- the first fault, node by node
module _ (n : ℕ) (T : List ℕ) where
  pub from_none : (k p : ℕ) → k ≡ 0 → fault_from n T k p ≡ Ok p
  unfolding fault_from
  from_none k p e = rw e

  pub from_sound : (N p : ℕ) → p < N → fault_at n T p ≡ 0 → fault_from n T (N - p) p ≡ fault_from n T (N - (p + 1)) (p + 1)
  unfolding fault_from
  from_sound N p lt e =
      let s : N - p ≡ suc (N - (p + 1)) = omega arith in
      rw (s, fault_from, e)

  pub from_fault : (N p c : ℕ) → p < N → c ≡ fault_at n T p → (c ≡ 0 → ⊥) → fault_from n T (N - p) p ≡ faulty c p
  unfolding fault_from
  from_fault N p c lt e h =
      let s : N - p ≡ suc (N - (p + 1)) = omega arith in
      rw (s, fault_from, ← e, ne_eqb c 0 h)

-- what a node's rules tell of its fault
pub obeyed_ok : (code p : ℕ) (u : Unit) → Ok u ≡ obeyed code p → code ≡ 0
obeyed_ok code p u e =
    ⊎_elim (λ (z : code ≡ 0). z) (λ (z : 0 < code). let f : Ok u ≡ Err (fault_named code p) = rw (ne_eqb code 0 (λ q. omega arith)) at e in cc) (eq-zero-or-pos code)

pub obeyed_err : (code p : ℕ) (r : Refusal) → Err r ≡ obeyed code p → (code ≡ 0 → ⊥) × (r ≡ fault_named code p)
obeyed_err code p r e =
    ⊎_elim
    (λ (z : code ≡ 0). let f : Err r ≡ Ok tt = rw (eq-eqb code 0 z) at e in cc)
    (λ (z : 0 < code). let f : Err r ≡ Err (fault_named code p) = rw (ne_eqb code 0 (λ q. omega arith)) at e in (λ q. omega arith, cc))
    (eq-zero-or-pos code)

-- the length, test by test
module _ (T : List ℕ) where
  pub length_empty : length T ≡ 0 → false ≡ length_ok T
  unfolding length_ok
  length_empty e = rw (length_ok, eq-eqb (length T) 0 e)

  pub length_broken : (count : ℕ) → count ≡ nodes T → (length T ≡ 6 * count → ⊥) → false ≡ length_ok T
  unfolding length_ok
  length_broken count e h =
      let z : length T ≡ 0 → ⊥ = λ w. h (omega arith) in
      rw (length_ok, ne_eqb (length T) 0 z, ne_eqb (length T) (6 * nodes T) (λ w. h (w ∙ ap (λ (k : ℕ). 6 * k) (sym e))))

  pub length_whole : (count : ℕ) → count ≡ nodes T → (length T ≡ 0 → ⊥) → length T ≡ 6 * count → leb (length T) max_words ≡ length_ok T
  unfolding length_ok
  length_whole count e h w = rw (length_ok, ne_eqb (length T) 0 h, eq-eqb (length T) (6 * nodes T) (w ∙ ap (λ (k : ℕ). 6 * k) e))

  pub size_level : (n : ℕ) → top_level < n → Err (BadLevel 0) ≡ sizes_of n T
  unfolding sizes_of
  size_level n h = rw (sizes_of, lt-ltb top_level n h)

  pub size_length : (n : ℕ) (u : Bool) → n ≤ top_level → u ≡ length_ok T → not u ≡ true → Err (WrongLength 0) ≡ sizes_of n T
  unfolding sizes_of
  size_length n u h e f = rw (sizes_of, le-ltb top_level n h, off u (length_ok T) e f)

  pub size_good : (n : ℕ) (u : Bool) → n ≤ top_level → u ≡ length_ok T → not u ≡ false → Ok 0 ≡ sizes_of n T
  unfolding sizes_of
  size_good n u h e f = rw (sizes_of, le-ltb top_level n h, on u (length_ok T) e f)

-- rule 3: what the four counts of `names` come to
pub once_named : (T : List ℕ) (f p a b c d : ℕ) → f ≡ father T p → (p ≡ 0 → ⊥) → (a ≡ one (eqb (son T f 0) p)) → (b ≡ one (eqb (son T f 1) p))
    → (c ≡ one (eqb (son T f 2) p)) → (d ≡ one (eqb (son T f 3) p)) → eqb (a + b + c + d) 1 ≡ once_ok T p
unfolding once_ok
once_named T f p a b c d e z ea eb ec ed = rw (once_ok, ne_eqb p 0 z, ← e, ea, eb, ec, ed)

-- rule 2, passed by a call, at node p
pub rising_on : (T : List ℕ) (p : ℕ) (u : Bool) → Rising T p → u ≡ father_ok T p → not u ≡ false → Rising T (p + 1)
rising_on T p u r e h = rising_more T p r (on u (father_ok T p) e h)
