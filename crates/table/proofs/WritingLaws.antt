-- A tree written from a node on: a leaf, a fork whose parts come before its own words, and a fork whose own words come
-- with its parts.
use mathlib.Core.List.{List}
use mathlib.Core.Path.{◌≡◌, refl, ap, sym, ◌∙◌}
use Prim.Native.Nat.{ℕ, suc, ◌+◌, ◌*◌, ◌≤◌, ◌<◌}
use native.Mathlib.Omega.{arith}
use lib.ListN.{length, set, length-set}
use lib.Seq.{sets}
use Rattle.quad.specs.Numbers.{fork_type, max_words}
use Rattle.quad.specs.Tree.{Tree, leaf, fork, son_of, colour, Coloured, size_of}
use Rattle.quad.proofs.TreeLaws.{leaf_by_type, size_pos}
use Rattle.table.specs.Writing.{node_words, leaf_words, Ready, Put}
use Rattle.table.proofs.PreorderLaws.{son_node, SonsWritten, none_written, number_written, part_written, sons_length, sons_written}
use Rattle.table.proofs.PreorderLaws.{written_leaf, written_fork, written_length}
use Rattle.table.proofs.PreorderAccepted.{node_end}

-- a node that is ready
pub node_room : {t : Tree} {p words : ℕ} → Ready t p words → 6 * p + 6 ≤ words
node_room {t} r = omega (arith, r.room, size_pos t)

pub node_fits : {t : Tree} {p words : ℕ} → Ready t p words → p < max_words
node_fits {t} r = omega (arith, r.few, size_pos t)

pub put_length : {t : Tree} {f p r : ℕ} {before after : List ℕ} → Put t f p before after r → length after ≡ length before
put_length {t} {f} {p} {before = before} {after = after} h = written_length f p t before after h.words

-- a leaf
pub leaf_put : (t : Tree) (k p f r : ℕ) (before after : List ℕ) → t ≡ leaf k → r ≡ p + 1 → after ≡ sets before (6 * p) (leaf_words f k)
    → Put t f p before after r
leaf_put t k p f r before after e is h = rw e (record { next = unfold size_of in is; words = written_leaf k p f before after h })

pub type_put : (t : Tree) (k p f r : ℕ) (before after : List ℕ) → k ≡ colour t → (k ≡ fork_type → ⊥) → r ≡ p + 1
    → after ≡ sets before (6 * p) (leaf_words f k) → Put t f p before after r
type_put t k p f r before after e z is h = leaf_put t k p f r before after (leaf_by_type t (λ q. z (e ∙ q)) ∙ ap leaf (sym e)) is h

-- a fork whose parts were written one after the other, and its own words last
module _ (A B C D : Tree) (p : ℕ) where
  module _ (words : ℕ) (r : Ready (fork A B C D) p words) where
    pub ready_first : Ready A (p + 1) words
    unfolding size_of
    ready_first = record { room = omega (arith, r.room); few = omega (arith, r.few) }

    module _ (b : ℕ) (eb : b ≡ p + 1 + size_of A) where
      pub ready_second : Ready B b words
      unfolding size_of
      ready_second = record { room = omega (arith, r.room); few = omega (arith, r.few) }

      module _ (c : ℕ) (ec : c ≡ b + size_of B) where
        pub ready_third : Ready C c words
        unfolding size_of
        ready_third = record { room = omega (arith, r.room); few = omega (arith, r.few) }

        pub ready_fourth : (d : ℕ) → d ≡ c + size_of C → Ready D d words
        unfolding size_of
        ready_fourth d ed = record { room = omega (arith, r.room); few = omega (arith, r.few) }

  pub fork_put : (f b c d r : ℕ) (U₀ U₁ U₂ U₃ U₄ after : List ℕ) → Put A p (p + 1) U₀ U₁ b → Put B p b U₁ U₂ c → Put C p c U₂ U₃ d → Put D p d U₃ U₄ r
      → after ≡ sets U₄ (6 * p) (node_words f (p + 1) b c d fork_type) → Put (fork A B C D) f p U₀ after r
  fork_put f b c d r U₀ U₁ U₂ U₃ U₄ after pa pb pc pd h = record {
    next = unfold size_of in omega (arith, pa.next, pb.next, pc.next, pd.next);
    words = written_fork A B C D p f (p + 1) b c d U₀ U₁ U₂ U₃ U₄ after refl pa.next pb.next pc.next pa.words pb.words pc.words pd.words h;
  }

-- a tree that is a fork
pub record Forked (t : Tree) : Type 0 where
  pub a : Tree
  pub b : Tree
  pub c : Tree
  pub d : Tree
  pub is : t ≡ fork a b c d

pub forked : (t : Tree) → Coloured t → colour t ≡ fork_type → Forked t
unfolding Coloured colour
forked (leaf k) h e = absurd (omega arith)
forked (fork a b c d) h e = record { a = a; b = b; c = c; d = d; is = refl }

-- The other order: the fork's father word is written, then each son's number and part in turn, and its type last. The
-- sons before son q are in the table, which had the words `first` before them, and son q is to be node `next`: what a
-- loop over the sons keeps.
pub record InTurn (t : Tree) (p q next : ℕ) (first now : List ℕ) : Type 0 where
  pub few : q ≤ 4
  pub is : next ≡ son_node p t q
  pub written : SonsWritten p t 0 q first now

pub none_put : (t : Tree) (p : ℕ) (first : List ℕ) → InTurn t p 0 (p + 1) first first
none_put t p first = record { few = omega arith; is = unfold son_node in refl; written = none_written p t first }

module _ {t : Tree} {p : ℕ} (k : Forked t) (w : List ℕ) (ready : Ready t p (length w)) where
  -- each son ends before the fork does, and the last where it does
  son_end : (q : ℕ) → q < 4 → son_node p t q + size_of (son_of t q) ≤ p + size_of t
  son_end q lt = rw k.is (node_end p k.a k.b k.c k.d q lt)

  sons_end : (q : ℕ) → q ≡ 4 → son_node p t q ≡ p + size_of t
  unfolding son_node son_of size_of
  sons_end q e = rw (k.is, e) (omega arith)

  module _ (f : ℕ) where
    kept : (j q : ℕ) (w' : List ℕ) → SonsWritten p t j q (set w (6 * p) f) w' → length w' ≡ length w
    kept j q w' so = sons_length p t j q _ w' so ∙ length-set w (6 * p) f

    module _ {q next : ℕ} {w' : List ℕ} (turn : InTurn t p q next (set w (6 * p) f) w') where
      -- the type has room
      pub type_room : 6 * p + 5 < length w'
      type_room = omega (arith, node_room ready, kept 0 q w' turn.written)

      -- and so has a son's number
      pub number_room : q < 4 → 6 * p + 1 + q < length w'
      number_room q4 = omega (arith, node_room ready, kept 0 q w' turn.written)

      module _ (q4 : q < 4) where
        numbered : SonsWritten p t 1 q (set w (6 * p) f) (set w' (6 * p + 1 + q) next)
        numbered = number_written p t q next _ w' _ q4 turn.is turn.written refl

        -- its number written, the son itself is ready
        pub son_ready : Ready (son_of t q) next (length (set w' (6 * p + 1 + q) next))
        son_ready =
            let h = son_end q q4 in
            record { room = omega (arith, ready.room, h, turn.is, kept 1 q _ numbered); few = omega (arith, ready.few, h, turn.is) }

        -- and, put, takes the loop on
        pub son_put : {w₂ : List ℕ} {r : ℕ} → Put (son_of t q) p next (set w' (6 * p + 1 + q) next) w₂ r → InTurn t p (q + 1) r (set w (6 * p) f) w₂
        unfolding son_node
        son_put {w₂} h =
            let o : q + 1 ≡ suc q = omega arith in
            record {
              few = omega arith;
              is = rw o (omega (arith, h.next, turn.is));
              written = part_written p t q next _ _ w₂ turn.is numbered h.words;
            }

      -- all four sons and the type put, the fork is
      pub sons_put : 4 ≤ q → Put t f p w (set w' (6 * p + 5) fork_type) next
      sons_put done =
          let e : q ≡ 4 = omega (arith, turn.few) in
          let same : SonsWritten p (fork k.a k.b k.c k.d) 0 q (set w (6 * p) f) w' = rw k.is at turn.written in
          record {
            next = turn.is ∙ sons_end q e;
            words = rw k.is (sons_written k.a k.b k.c k.d p f q w _ w' _ e refl same refl);
          }
