-- The fast check, function by function: what each return says of the definitions, what a fork is whose sons fit, and
-- that no count passes a word.
use mathlib.Core.Bool.{Bool, true, false, cond, ◌&&◌}
use mathlib.Core.List.{List, [], ◌∷◌}
use mathlib.Core.Path.{◌≡◌, refl, sym, ◌∙◌}
use Prim.Native.Nat.{ℕ, zero, suc, ◌+◌, ◌-◌, ◌*◌, ◌^◌, ◌≤◌, ◌<◌}
use native.Mathlib.Nat.{pow-le-pow_right, pow-succ'}
use native.Mathlib.Omega.{arith}
use lib.Dec.{ltb, eqb}
use lib.ListN.{get_or}
use borrow.Author.Tests.{leb-true, ltb-true, le-leb, lt-ltb, eq-eqb, ne_eqb, eqb-true, not-true}
use Rattle.base.proofs.BoolLaws.{and_left, and_right, same_tests}
use Rattle.base.proofs.CaseLaws.{cond_case}
use Rattle.quad.specs.Numbers.{top_level, top_colour, fork_type, none}
use Rattle.quad.proofs.TreeLaws.{by_quadrant}
use Rattle.table.specs.Table.{nodes, father, son, node_type, is_fork}
use Rattle.table.specs.Links.{SonsIn, four_sons}
use Rattle.table.proofs.TypeLaws.{told_leaf}
use Rattle.table_sound.specs.Seen.{AllNodes, between, different, all_are, father_of, like_leaves, leaf_ok, fork_ok, added, seen_of, some_seen, sound_of}
use Rattle.std.specs.Prelude.{Option, Some, None}
use Rattle.std.specs.Option.{option_eq}
use Rattle.std.specs.List.{list_all}
use Rattle.std.proofs.lemmas.List.Sums.{AllPass-from_list_all}

-- a test that the four sons of p pass, each of them passes; and the other way round
module _ (f : ℕ → Bool) (T : List ℕ) (p : ℕ) where
  pub all_passed : list_all f (four_sons T p) ≡ true → (q : ℕ) → q < 4 → f (son T p q) ≡ true
  unfolding four_sons
  all_passed e =
      let b = and_right _ _ e in
      let c = and_right _ _ b in
      let d = and_right _ _ c in
      by_quadrant (λ (q : ℕ). f (son T p q) ≡ true) (and_left _ _ e) (and_left _ _ b) (and_left _ _ c) (and_left _ _ d)

  pub all_pass : ((q : ℕ) → q < 4 → f (son T p q) ≡ true) → list_all f (four_sons T p) ≡ true
  unfolding four_sons
  all_pass h = rw (h 0 (omega arith), h 1 (omega arith), h 2 (omega arith), h 3 (omega arith))

-- those that lie between p and N are nodes
pub between_nodes : (T sons : List ℕ) (p N : ℕ) → N ≡ nodes T → between p N sons ≡ true → AllNodes T sons
unfolding between
between_nodes T sons p N h e =
    λ k d lt.
    let a = AllPass-from_list_all (λ s. ltb p s && ltb s N) sons e k d lt in
    rw (← h) (ltb-true (get_or sons k d) N (and_right (ltb p (get_or sons k d)) (ltb (get_or sons k d) N) a))

-- what the sons of p add, p at the level above l
abbrev pub sons_seen : List ℕ → ℕ → ℕ → ℕ → ℕ
sons_seen T l p q = seen_of T l (son T p q)

-- adding up, son by son
module _ (g : ℕ → ℕ) where
  pub added_none : (k q all : ℕ) → k ≡ 0 → all ≡ added g k q all
  unfolding added
  added_none k q all e = rw e

  pub added_stop : (q all : ℕ) → q < 4 → g q ≡ 0 → 0 ≡ added g (4 - q) q all
  unfolding added
  added_stop q all lt e =
      let s : 4 - q ≡ suc (4 - (q + 1)) = omega arith in
      rw (s, e)

  pub added_more : (q all x : ℕ) → q < 4 → x ≡ g q → (x ≡ 0 → ⊥) → added g (4 - (q + 1)) (q + 1) (all + x) ≡ added g (4 - q) q all
  unfolding added
  added_more q all x lt e h =
      let s : 4 - q ≡ suc (4 - (q + 1)) = omega arith in
      rw (s, ← e, ne_eqb x 0 h)

-- one node, by its type
module _ (T : List ℕ) (l p : ℕ) where
  pub seen_leaf : is_fork T p ≡ false → leaf_ok T p ≡ true → seen_of T l p ≡ 1
  unfolding seen_of
  seen_leaf f e = by_level l
    where
      by_level : (k : ℕ) → seen_of T k p ≡ 1
      by_level zero = rw (f, e)
      by_level (suc k) = rw (f, e)

  pub seen_no_leaf : is_fork T p ≡ false → leaf_ok T p ≡ false → seen_of T l p ≡ 0
  unfolding seen_of
  seen_no_leaf f e = by_level l
    where
      by_level : (k : ℕ) → seen_of T k p ≡ 0
      by_level zero = rw (f, e)
      by_level (suc k) = rw (f, e)

  pub seen_low : is_fork T p ≡ true → l ≡ 0 → 0 ≡ seen_of T l p
  unfolding seen_of
  seen_low f e = rw (e, f)

  pub seen_unfit : is_fork T p ≡ true → fork_ok T p ≡ false → 0 ≡ seen_of T l p
  unfolding seen_of
  seen_unfit f e = by_level l
    where
      by_level : (k : ℕ) → 0 ≡ seen_of T k p
      by_level zero = rw f
      by_level (suc k) = rw (f, e)

  pub seen_fork : is_fork T p ≡ true → (l ≡ 0 → ⊥) → fork_ok T p ≡ true → added (sons_seen T (l - 1) p) 4 0 1 ≡ seen_of T l p
  unfolding seen_of
  seen_fork f h e =
      let s : l ≡ suc (l - 1) = omega arith in
      go (l - 1) l s
    where
      go : (k m : ℕ) → m ≡ suc k → added (sons_seen T k p) 4 0 1 ≡ seen_of T m p
      go k m s = rw (s, f, e)

-- a number that is seen, or none; and the other way round
pub none_seen : (x : ℕ) → x ≡ 0 → None ≡ some_seen x
unfolding some_seen
none_seen x e = rw e

pub some_is : (x k : ℕ) → k ≡ x → 0 < k → Some k ≡ some_seen x
unfolding some_seen
some_is zero k e h = absurd (omega arith)
some_is (suc x) k e h = rw e

pub none_told : (x : ℕ) → None ≡ some_seen x → x ≡ 0
unfolding some_seen
none_told zero e = refl
none_told (suc x) e = cc

pub some_told : (x k : ℕ) → Some k ≡ some_seen x → (k ≡ x) × (0 < k)
unfolding some_seen
some_told zero k e = cc
some_told (suc x) k e = let w : k ≡ suc x = cc in (w, omega arith)

-- as many are seen as there are nodes
pub whole_seen : (N M x : ℕ) (r : Option ℕ) (b : Bool) → N ≡ M → 0 < M → r ≡ some_seen x → b ≡ option_eq eqb r (Some N) → b ≡ eqb M x
unfolding some_seen
whole_seen N M zero r b h pos e f = f ∙ rw e (sym (ne_eqb M 0 (λ z. omega arith)))
whole_seen N M (suc x) r b h pos e f = f ∙ rw (e, h) (same_tests (eqb (suc x) M) (eqb M (suc x)) (λ z. eq-eqb M (suc x) (sym (eqb-true (suc x) M z))) (λ z. eq-eqb (suc x) M (sym (eqb-true M (suc x) z))))

-- no two of four numbers are the same
pub record Apart (a b c d : ℕ) : Type 0 where
  pub ab : eqb a b ≡ false
  pub ac : eqb a c ≡ false
  pub ad : eqb a d ≡ false
  pub bc : eqb b c ≡ false
  pub bd : eqb b d ≡ false
  pub cd : eqb c d ≡ false

different_apart : (T : List ℕ) (p : ℕ) → different (four_sons T p) ≡ true → Apart (son T p 0) (son T p 1) (son T p 2) (son T p 3)
unfolding different four_sons
different_apart T p e =
    let v = and_left _ _ e in
    let u = and_left _ _ v in
    let z = and_left _ _ u in
    let y = and_left _ _ z in
    record {
      ab = not-true _ (and_left _ _ y);
      ac = not-true _ (and_right _ _ y);
      ad = not-true _ (and_right _ _ z);
      bc = not-true _ (and_right _ _ u);
      bd = not-true _ (and_right _ _ v);
      cd = not-true _ (and_right _ _ e);
    }

-- and the other way round
different_true : (T : List ℕ) (p : ℕ) → Apart (son T p 0) (son T p 1) (son T p 2) (son T p 3) → different (four_sons T p) ≡ true
unfolding different four_sons
different_true T p h = rw (h.ab, h.ac, h.ad, h.bc, h.bd, h.cd)

pub added_all : (g : ℕ → ℕ) → ((q : ℕ) → q < 4 → 0 < g q) → added g 4 0 1 ≡ 1 + (g 0 + g 1 + g 2 + g 3)
unfolding added
added_all g h =
    let z : (q : ℕ) → q < 4 → eqb (g q) 0 ≡ false = λ q q4. ne_eqb (g q) 0 (λ e. omega (arith, h q q4)) in
    rw (z 0 (omega arith), z 1 (omega arith), z 2 (omega arith), z 3 (omega arith)) (omega arith)

-- what the sons of a fork are that fit
pub record SonsFit (T : List ℕ) (p : ℕ) : Type 0 where
  pub sons : SonsIn T p
  pub apart : Apart (son T p 0) (son T p 1) (son T p 2) (son T p 3)
  pub unlike : like_leaves T (four_sons T p) ≡ false

pub sons_fit : (T : List ℕ) (p : ℕ) → fork_ok T p ≡ true → SonsFit T p
unfolding fork_ok between father_of
sons_fit T p e =
    let x = and_left _ _ e in
    let y = and_left _ _ x in
    let b = all_passed (λ s. ltb p s && ltb s (nodes T)) T p (and_left _ _ y) in
    let f = all_passed (λ s. eqb (father T s) p) T p (and_right _ _ x) in
    record {
      sons = λ q q4. record {
        above = ltb-true p _ (and_left _ _ (b q q4));
        below = ltb-true _ (nodes T) (and_right _ _ (b q q4));
        up = eqb-true _ p (f q q4);
      };
      apart = different_apart T p (and_right _ _ y);
      unlike = not-true _ (and_right _ _ e);
    }

pub fit_sons : (T : List ℕ) (p : ℕ) → SonsFit T p → fork_ok T p ≡ true
unfolding fork_ok between father_of
fit_sons T p s =
    let x = all_pass (λ s. ltb p s && ltb s (nodes T)) T p (λ q q4. rw (lt-ltb p _ (s.sons q q4).above, lt-ltb _ (nodes T) (s.sons q q4).below)) in
    let y = different_true T p s.apart in
    let z = all_pass (λ s. eqb (father T s) p) T p (λ q q4. eq-eqb _ p (s.sons q q4).up) in
    rw (x, y, z, s.unlike)

-- what the words of a leaf are; and the other way round
pub leaf_words_of : (T : List ℕ) (p : ℕ) → leaf_ok T p ≡ true → (node_type T p ≤ top_colour) × ((q : ℕ) → q < 4 → son T p q ≡ none)
unfolding leaf_ok all_are
leaf_words_of T p e =
    let a = all_passed (λ w. eqb w none) T p (and_right _ _ e) in
    (leb-true (node_type T p) top_colour (and_left _ _ e), λ q q4. eqb-true _ none (a q q4))

pub leaf_words_ok : (T : List ℕ) (p : ℕ) → node_type T p ≤ top_colour → ((q : ℕ) → q < 4 → son T p q ≡ none) → leaf_ok T p ≡ true
unfolding leaf_ok all_are
leaf_words_ok T p h w = rw (le-leb (node_type T p) top_colour h, all_pass (λ w. eqb w none) T p (λ q q4. eq-eqb _ none (w q q4)))

-- of any four words, one by one
pub all_are_lem : (k a b c d : ℕ) → all_are k (a ∷ b ∷ c ∷ d ∷ []) ≡ true → (a ≡ k) × (b ≡ k) × (c ≡ k) × (d ≡ k)
unfolding all_are
all_are_lem k a b c d e =
    let x = and_right (eqb a k) _ e in
    let y = and_right (eqb b k) _ x in
    let z = and_right (eqb c k) _ y in
    (eqb-true a k (and_left _ _ e), eqb-true b k (and_left _ _ x), eqb-true c k (and_left _ _ y), eqb-true d k (and_left _ _ z))

pub all_are_true : (k a b c d : ℕ) → a ≡ k → b ≡ k → c ≡ k → d ≡ k → all_are k (a ∷ b ∷ c ∷ d ∷ []) ≡ true
unfolding all_are
all_are_true k a b c d ea eb ec ed = rw (eq-eqb a k ea, eq-eqb b k eb, eq-eqb c k ec, eq-eqb d k ed)

pub leaf_words_lem : (T : List ℕ) (p k a b c d : ℕ) (r : Bool) → k ≡ node_type T p → k ≤ top_colour → a ≡ son T p 0 → b ≡ son T p 1 → c ≡ son T p 2 → d ≡ son T p 3
    → r ≡ all_are none (a ∷ b ∷ c ∷ d ∷ []) → r ≡ leaf_ok T p
unfolding leaf_ok four_sons
leaf_words_lem T p k a b c d r e h ea eb ec ed f = f ∙ rw (leaf_ok, ← e, le-leb k top_colour h, ea, eb, ec, ed)

pub node_of_son : (T : List ℕ) (p q : ℕ) → fork_ok T p ≡ true → q < 4 → son T p q < nodes T
node_of_son T p q e q4 = ((sons_fit T p e).sons q q4).below

-- no more than 2 · 4^l nodes are seen from level l
added_few : (g : ℕ → ℕ) (m : ℕ) → ((q : ℕ) → g q ≤ m) → (k q all : ℕ) → added g k q all ≤ all + k * m
unfolding added
added_few g m h zero q all = omega arith
added_few g m h (suc k) q all =
    cond_case (λ (r : ℕ). r ≤ all + suc k * m) (eqb (g q) 0) 0 (added g k (q + 1) (all + g q)) (λ e. omega arith)
    (λ e. omega (arith, added_few g m h k (q + 1) (all + g q), h q))

leaf_few : (T : List ℕ) (p m : ℕ) → 0 < m → cond (leaf_ok T p) 1 0 ≤ m
leaf_few T p m h = cond_case (λ (r : ℕ). r ≤ m) (leaf_ok T p) 1 0 (λ e. omega arith) (λ e. omega arith)

seen_few : (T : List ℕ) (l p : ℕ) → seen_of T l p + 1 ≤ 2 * 4 ^ l
unfolding seen_of
seen_few T zero p =
    let f = cond_case (λ (r : ℕ). r ≤ 1) (is_fork T p) 0 (cond (leaf_ok T p) 1 0) (λ e. omega arith) (λ e. leaf_few T p 1 (omega arith)) in
    omega (arith, f)
seen_few T (suc l) p =
    let m : ℕ = 2 * 4 ^ l - 1 in
    let pos = pow-le-pow_right {n = 4} (omega arith) {i = 0} {j = l} (omega arith) in
    let b = added_few (λ q. seen_of T l (son T p q)) m (λ q. omega (arith, seen_few T l (son T p q))) 4 0 1 in
    let f = cond_case (λ (r : ℕ). r ≤ 1 + 4 * m) (is_fork T p) (cond (fork_ok T p) (added (λ q. seen_of T l (son T p q)) 4 0 1) 0) (cond (leaf_ok T p) 1 0)
    (λ e. cond_case (λ (r : ℕ). r ≤ 1 + 4 * m) (fork_ok T p) _ 0 (λ e. b) (λ e. omega arith)) (λ e. leaf_few T p (1 + 4 * m) (omega arith)) in
    omega (arith, f, pow-succ' 4 l, pos)

abbrev pub most : ℕ
most = 2 * 4 ^ top_level

pub seen_most : (T : List ℕ) (l p x : ℕ) → x ≡ seen_of T l p → l ≤ top_level → x ≤ most
seen_most T l p x e h = omega (arith, e, seen_few T l p, pow-le-pow_right {n = 4} (omega arith) {i = l} {j = top_level} h)

-- a son's node, type and part, as the loop reads them
pub son_seen : (T : List ℕ) (l p q s x : ℕ) → s ≡ son T p q → x ≡ seen_of T l s → x ≡ sons_seen T l p q
son_seen T l p q s x e f = f ∙ rw e

-- the whole, return by return
module _ (n : ℕ) (T : List ℕ) (f : ℕ) (e : f ≡ father T 0) where
  pub sound_father : (f ≡ none → ⊥) → false ≡ sound_of n T
  unfolding sound_of
  sound_father h = rw (← e, ne_eqb f none h)

  pub sound_count : (N x : ℕ) → f ≡ none → N ≡ nodes T → x ≡ seen_of T n 0 → eqb N x ≡ sound_of n T
  unfolding sound_of
  sound_count N x h d g = rw (← e, eq-eqb f none h, d, g)

  pub sound_seen : (r : Bool) → f ≡ none → r ≡ eqb (nodes T) (seen_of T n 0) → r ≡ sound_of n T
  sound_seen r h g = g ∙ sound_count (nodes T) (seen_of T n 0) h refl refl

  pub sound_leaf : (N k : ℕ) → f ≡ none → N ≡ nodes T → k ≡ node_type T 0 → (k ≡ fork_type → ⊥) → leaf_ok T 0 ≡ true → eqb N 1 ≡ sound_of n T
  sound_leaf N k h d t z v = sound_count N 1 h d (sym (seen_leaf T n 0 (told_leaf T 0 k t z) v))

  pub sound_no_leaf : (k : ℕ) → f ≡ none → 0 < nodes T → k ≡ node_type T 0 → (k ≡ fork_type → ⊥) → leaf_ok T 0 ≡ false → false ≡ sound_of n T
  sound_no_leaf k h some t z v =
      sym (ne_eqb (nodes T) 0 (λ x. omega arith)) ∙ sound_count (nodes T) 0 h refl (sym (seen_no_leaf T n 0 (told_leaf T 0 k t z) v))

-- what `table_seen` gives back at its early returns
pub ruleset nothing_seen = (none_seen, seen_low, seen_unfit)

pub ruleset sound_told = (sound_father, sound_seen, sound_leaf, sound_no_leaf)
