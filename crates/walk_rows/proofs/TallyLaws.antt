-- The links of a walk, tallied step by step up to the first Done: there is one such number, and for an accepted sheet
-- it is 4H - 4·2^n. A walk under way carries the answers told and those left, so each step lowers the number left, and
-- the tally never passes 4·4^n.
use mathlib.Core.List.{List, [], ◌∷◌, ◌++◌, append_assoc}
use mathlib.Core.Path.{◌≡◌, refl, ap, sym, ◌∙◌}
use Prim.Native.Nat.{ℕ, zero, suc, ◌+◌, ◌*◌, ◌^◌, ◌≤◌, ◌<◌}
use native.Mathlib.Nat.{pow-succ', pow-le-pow_right, pow-le-pow_left}
use native.Mathlib.Omega.{arith}
use lib.ListN.{length, length-append}
use Rattle.quad.specs.Numbers.{top_level}
use Rattle.quad.specs.Tree.{Tree, leaf, fork, sides_of}
use Rattle.table.specs.Rules.{Accepted}
use Rattle.table.specs.Nodes.{tree_at}
use Rattle.walk.specs.declared.Place.{Place}
use Rattle.walk.specs.declared.Stepped.{Stepped}
use Rattle.walk.specs.declared.Answer.{Answer}
use Rattle.walk.specs.declared.Answer.TheVariants.{Done}
use Rattle.walk.specs.Walk.{start, step_of, Steps}
use Rattle.walk_rows.specs.Whole.{Walked, here, step, Tallied, start_at, whole_walk}
use Rattle.walk_rows.specs.Rows.{moves, stops, tally, sides}
use Rattle.walk_rows.proofs.PassLaws.{then}
use Rattle.walk_rows.proofs.WholeLaws.{walked_whole, done, same_walk}
use Rattle.walk_rows.proofs.CountLaws.{tally_append, whole_links, whole_stops}
use Rattle.walk_rows.proofs.DemandLaws.{walk_exact}

-- no second number, whatever the table
pub one_tally : (n : ℕ) (T : List ℕ) (r q : ℕ) → Tallied n T r → Tallied n T q → r ≡ q
one_tally n T r q a b =
    a.links ∙ ap (tally moves) (same_walk a.walked b.walked a.unbroken b.unbroken a.done b.done) ∙ sym b.links

-- and of an accepted sheet the number is document 01's
pub tally_exact : (n : ℕ) (T : List ℕ) (r : ℕ) → Accepted n T → Tallied n T r → r + 4 * 2 ^ n ≡ 4 * sides n T
tally_exact n T r acc a =
    ap (λ (k : ℕ). k + 4 * 2 ^ n) (a.links ∙ ap (tally moves) (walk_exact n T acc a.told a.last a.walked a.unbroken a.done)) ∙ whole_links n T acc

-- the sum of the leaves' sides is at most the number of pixels
sides_most : (l : ℕ) (t : Tree) → sides_of l t ≤ 4 ^ l
unfolding sides_of
sides_most l (leaf c) = pow-le-pow_left {n = 2} {m = 4} (omega arith) l
sides_most zero (fork a b c d) = omega arith
sides_most (suc l) (fork a b c d) = omega (arith, pow-succ' 4 l, sides_most l a, sides_most l b, sides_most l c, sides_most l d)

-- the steps from a place before the first that stops, of k at most
unfoldable pub steps_from : ℕ → List ℕ → Place → ℕ
steps_from zero T p = 0
steps_from (suc k) T p = elim (stops (step_of T p).answer) [ zero ↦ suc (steps_from k T (step_of T p).place) | suc j ↦ 0 ]

steps_are : {T : List ℕ} {p r : Place} {us : List Answer} (k : ℕ) → Walked T p us r → tally stops us ≡ 0 → (step_of T r).answer ≡ Done → length us ≤ k
    → steps_from k T p ≡ length us
unfolding steps_from tally
steps_are zero here h d le = refl
steps_are (suc k) here h d le = rw (steps_from, d)
steps_are zero (step a q e w) h d le = absurd (omega arith)
steps_are (suc k) (step a q e w) h d le =
    let go : stops a ≡ 0 = omega arith in
    rw (steps_from, e, go, e) (ap suc (steps_are k w (omega arith) d (omega arith)))

-- a walk that is not at Done goes on with its step's answer
onward : {T : List ℕ} {p r : Place} {us : List Answer} (s : Stepped) → Walked T p us r → (step_of T r).answer ≡ Done → Steps T p s → (s.answer ≡ Done → ⊥)
    → (more : List Answer) × (us ≡ s.answer ∷ more) × Walked T s.place more r
onward s here d e f = absurd (f (ap (λ (s : Stepped). s.answer) e ∙ d))
onward s (step a q g w) d e f = rw (e ∙ g) (_, refl, w)

-- a walk over the whole sheet, under way: at p it has told `told`, with so many links, and `rest` is left
pub record UnderWay (n : ℕ) (T : List ℕ) (p : Place) (moved : ℕ) : Type 0 where
  pub told : List Answer
  pub rest : List Answer
  pub walked : Walked T (start n) told p
  pub ends : Walked T p rest (start_at n (2 ^ n))
  pub whole : told ++ rest ≡ whole_walk n T
  pub links : moved ≡ tally moves told

-- the steps left to it
abbrev pub steps_left : ℕ → List ℕ → Place → ℕ
steps_left n T p = steps_from (length (whole_walk n T)) T p

module _ (n : ℕ) (T : List ℕ) (acc : Accepted n T) where
  ended : (step_of T (start_at n (2 ^ n))).answer ≡ Done
  ended = ap (λ (s : Stepped). s.answer) (done n T acc)

  -- at the start place nothing is told
  pub set_out : (p : Place) → p ≡ start n → UnderWay n T p 0
  unfolding tally
  set_out p e = rw e (record { told = []; rest = whole_walk n T; walked = here; ends = walked_whole n T acc; whole = refl; links = refl })

  module _ (p : Place) (links : ℕ) (u : UnderWay n T p links) where
    unstopped : tally stops u.told + tally stops u.rest ≡ 0
    unstopped = sym (tally_append stops u.told u.rest) ∙ ap (tally stops) u.whole ∙ whole_stops n T acc

    rest_le : length u.rest ≤ length (whole_walk n T)
    rest_le = omega (arith, length-append u.told u.rest, ap length u.whole)

    -- one more link fits a word
    pub links_few : links < 4294967295
    links_few =
        omega (
          arith,
          u.links,
          tally_append moves u.told u.rest,
          ap (tally moves) u.whole,
          whole_links n T acc,
          sides_most n (tree_at T n 0),
          pow-le-pow_right {n = 4} (omega arith) {i = n} {j = top_level} acc.sized.level,
        )

    module _ (s : Stepped) (e : Steps T p s) where
      -- at Done the links are those of the walk
      pub arrived : s.answer ≡ Done → Tallied n T links
      arrived d = record {
        told = u.told;
        last = p;
        walked = u.walked;
        unbroken = omega (arith, unstopped);
        done = sym (ap (λ (s : Stepped). s.answer) e) ∙ d;
        links = u.links;
      }

      -- else it goes on: a link more where the step moved, and a step less
      pub gone_on : (s.answer ≡ Done → ⊥) → (more : ℕ) → more ≡ links + moves s.answer → UnderWay n T s.place more
      unfolding tally
      gone_on going more f =
          let o = onward s u.ends ended e going in
          record {
            told = u.told ++ (s.answer ∷ []);
            rest = o.0;
            walked = then u.walked (step s.answer s.place (sym e) here);
            ends = o.2;
            whole = append_assoc u.told (s.answer ∷ []) o.0 ∙ ap (λ (us : List Answer). u.told ++ us) (sym o.1) ∙ u.whole;
            links = f ∙ omega (arith, u.links, tally_append moves u.told (s.answer ∷ []));
          }

      pub step_less : (s.answer ≡ Done → ⊥) → steps_left n T s.place < steps_left n T p
      unfolding tally
      step_less going =
          let o = onward s u.ends ended e going in
          let k = length (whole_walk n T) in
          let one_less = ap length o.1 in
          let here = steps_are k u.ends (omega (arith, unstopped)) ended rest_le in
          let there = steps_are k o.2 (omega (arith, unstopped, ap (tally stops) o.1)) ended (omega (arith, rest_le, one_less)) in
          omega (arith, here, there, one_less)
