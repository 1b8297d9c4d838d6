-- The second pass: a block that was read is a leaf, or a fork over four blocks whose records follow; each of these may
-- be linked in its turn.
use mathlib.Core.List.{List, [], ◌++◌}
use mathlib.Core.Path.{◌≡◌, refl, ap, sym, ◌∙◌}
use Prim.Native.Nat.{ℕ, zero, suc, ◌+◌, ◌-◌, ◌*◌, ◌≤◌, ◌<◌}
use native.Mathlib.Omega.{arith}
use lib.ListN.{length, get_or, set, length-append}
use lib.Seq.{sets}
use Rattle.base.proofs.SetsLaws.{sets_behind}
use Rattle.quad.specs.Numbers.{fork_type, top_colour, max_words}
use Rattle.quad.specs.Tree.{Tree, leaf, fork, colour, son_of, Within, Reduced, Coloured, size_of, types_of}
use Rattle.quad.proofs.TreeLaws.{by_quadrant, type_le, types_length}
use Rattle.table.specs.Preorder.{preorder}
use Rattle.table.specs.Writing.{node_words, leaf_words, Ready, Put}
use Rattle.table.proofs.PreorderLaws.{son_node}
use Rattle.table.proofs.WritingLaws.{type_put, Forked, InTurn, son_ready, son_put}
use Rattle.file.specs.File.{got, block_at}
use Rattle.file.specs.Linking as linking
use Rattle.file.specs.Linking.{record_place, tree_in, Linked}
use Rattle.file_read.specs.Linking.{tree_on, BlockToLink, ForkToLink, BlockLinked}
use Rattle.file.proofs.SpeltLaws.{Stands, Spelt, spelt_parts}
use Rattle.file_scan.proofs.PixelLaws.{pixel_of}
use Rattle.file.proofs.BlockLaws.{Spells, block_spells, root_kind, block_read}

-- a tree that was read at node p's record, and is ready
pub linkable : {s : List ℕ} {l p words : ℕ} (t : Tree) → block_at s l (record_place p) ≡ got (record_place (p + size_of t)) t → Ready t p words → BlockToLink s l p words
linkable t e r = record { read = rw e; ready = rw e r }

-- what is asked and promised of a block, said of its tree, and back
pub to_link : {s : List ℕ} {l p words : ℕ} → linking.Ready s l p words → BlockToLink s l p words
to_link h = linkable h.tree h.is (record { room = h.room; few = h.few })

pub fork_to_link : {s : List ℕ} {l p words : ℕ} → linking.Ready s l p words × (get_or s (record_place p + 2) 0 ≡ fork_type) → ForkToLink s l p words
fork_to_link h = record { block = to_link h.0; fork = h.1 }

pub link_ready : {s : List ℕ} {l p words : ℕ} → BlockToLink s l p words → linking.Ready s l p words
link_ready {s} {l} {p} b = record { tree = tree_on s l p; is = b.read; room = b.ready.room; few = b.ready.few }

pub fork_ready : {s : List ℕ} {l p words : ℕ} → ForkToLink s l p words → linking.Ready s l p words × (get_or s (record_place p + 2) 0 ≡ fork_type)
fork_ready k = (link_ready k.block, k.fork)

pub linked : (t : Tree) {f p r : ℕ} {before after : List ℕ} → Put t f p before after r → Linked t f p before after r
linked t h = record { next = h.next; words = h.words }

pub put_of : (t : Tree) {f p r : ℕ} {before after : List ℕ} → Linked t f p before after r → Put t f p before after r
put_of t h = record { next = h.next; words = h.words }

-- a fork of level l that was read at node p's record: its sons were read at theirs
record ForkRead (s : List ℕ) (l p : ℕ) (t : Tree) : Type 0 where
  pub fork : Forked t
  pub deep : 0 < l
  pub nw : block_at s (l - 1) (record_place (p + 1)) ≡ got (record_place (p + 1 + size_of fork.a)) fork.a
  pub ne : block_at s (l - 1) (record_place (p + 1 + size_of fork.a)) ≡ got (record_place (p + 1 + size_of fork.a + size_of fork.b)) fork.b
  pub sw : block_at s (l - 1) (record_place (p + 1 + size_of fork.a + size_of fork.b))
      ≡ got (record_place (p + 1 + size_of fork.a + size_of fork.b + size_of fork.c)) fork.c
  pub se : block_at s (l - 1) (record_place (p + 1 + size_of fork.a + size_of fork.b + size_of fork.c))
      ≡ got (record_place (p + 1 + size_of fork.a + size_of fork.b + size_of fork.c + size_of fork.d)) fork.d

module _ (s : List ℕ) where
  read_as : (l at i : ℕ) (t : Tree) → i ≡ at + 3 * size_of t → Spelt s at (types_of t) → Within l t → Reduced t → Coloured t → block_at s l at ≡ got i t
  read_as l at i t e h w r c = rw e (block_read s l at t h (record { within = w; reduced = r; coloured = c }))

  forked_in : (l p : ℕ) (t : Tree) → Spelt s (record_place p) (types_of t) → Within l t → Reduced t → Coloured t → colour t ≡ fork_type → ForkRead s l p t
  unfolding Spelt types_of Within Reduced Coloured colour
  forked_in l p (leaf k) h w r co e = absurd (omega arith)
  forked_in zero p (fork a b c d) h w r co e = absurd w
  forked_in (suc l) p (fork a b c d) h w r co e =
      let i₀ = record_place (p + 1) in
      let i₁ = record_place (p + 1 + size_of a) in
      let i₂ = record_place (p + 1 + size_of a + size_of b) in
      let i₃ = record_place (p + 1 + size_of a + size_of b + size_of c) in
      let at : record_place p + 3 ≡ i₀ = omega arith in
      let down : suc l - 1 ≡ l = omega arith in
      let pa = spelt_parts s (types_of a) (types_of b ++ (types_of c ++ types_of d)) i₀ i₁ (omega (arith, types_length a)) (rw at at h.1) in
      let pb = spelt_parts s (types_of b) (types_of c ++ types_of d) i₁ i₂ (omega (arith, types_length b)) pa.1 in
      let pc = spelt_parts s (types_of c) (types_of d) i₂ i₃ (omega (arith, types_length c)) pb.1 in
      record {
        fork = record { a = a; b = b; c = c; d = d; is = refl };
        deep = omega arith;
        nw = rw down (read_as l i₀ i₁ a (omega arith) pa.0 w.0 r.1 co.0);
        ne = rw down (read_as l i₁ i₂ b (omega arith) pb.0 w.1 r.2 co.1);
        sw = rw down (read_as l i₂ i₃ c (omega arith) pc.0 w.2 r.3 co.2);
        se = rw down (read_as l i₃ _ d (omega arith) pc.1 w.3 r.4 co.3);
      }

-- a block that may be linked: what its type byte says of its tree
module _ {s : List ℕ} {l p words : ℕ} (b : BlockToLink s l p words) where
  its_spells : Spells s l (record_place p) (record_place (p + size_of (tree_on s l p))) (tree_on s l p)
  its_spells = block_spells s l (record_place p) _ (tree_on s l p) b.read

  its_root : Stands s (record_place p) (colour (tree_on s l p))
  its_root = root_kind s (record_place p) (tree_on s l p) its_spells.spelt

  -- what reading its type byte asks
  pub type_asks : record_place p + 3 ≤ length s
  type_asks = its_root.fits

  module _ {k : ℕ} (e : k ≡ get_or s (record_place p + 2) 0) where
    kind_is : k ≡ colour (tree_on s l p)
    kind_is = e ∙ its_root.kind

    pub kind_le : k ≤ fork_type
    kind_le = rw kind_is (type_le (tree_on s l p) its_spells.sound.coloured)

    pub links_put : {f : ℕ} {before after : List ℕ} → (k ≡ fork_type → ⊥) → after ≡ sets before (6 * p) (leaf_words f k) → BlockLinked s l f p before after (p + 1)
    links_put {f} {before} {after} ne h = type_put (tree_on s l p) k p f _ before after kind_is ne refl h

    pub links_leaf : {f : ℕ} {before after : List ℕ} → (k ≡ fork_type → ⊥) → after ≡ sets before (6 * p) (leaf_words f k) → Linked (tree_in (block_at s l (record_place p))) f p before after (p + 1)
    links_leaf ne h = linked (tree_on s l p) (links_put ne h)

-- a fork: its sons were read, one after the other
module _ {s : List ℕ} {l p words : ℕ} (b : ForkToLink s l p words) where
  its_parts : ForkRead s l p (tree_on s l p)
  its_parts =
      let h = its_spells b.block in
      forked_in s l p (tree_on s l p) h.spelt h.sound.within h.sound.reduced h.sound.coloured (sym (kind_is b.block refl) ∙ b.fork)

  pub its_fork : Forked (tree_on s l p)
  its_fork = its_parts.fork

  -- the level falls
  pub deeper : 0 < l
  deeper = its_parts.deep

  son_read : (q : ℕ) → q < 4
      → block_at s (l - 1) (record_place (son_node p (tree_on s l p) q))
      ≡ got (record_place (son_node p (tree_on s l p) q + size_of (son_of (tree_on s l p) q))) (son_of (tree_on s l p) q)
  unfolding son_node son_of
  son_read =
      let h = its_parts in
      rw h.fork.is (by_quadrant _ h.nw h.ne h.sw h.se)

-- a son's turn in the loop, its number being written
module _ {s : List ℕ} {l p : ℕ} (w : List ℕ) (b : ForkToLink s l p (length w)) (f : ℕ) {q next : ℕ} {w' : List ℕ}
    (turn : InTurn (tree_on s l p) p q next (set w (6 * p) f) w') (q4 : q < 4) (m : ℕ) (em : l - 1 ≡ m) where
  -- the son is of level m
  here : block_at s m (record_place next) ≡ got (record_place (next + size_of (son_of (tree_on s l p) q))) (son_of (tree_on s l p) q)
  here = rw (← em, turn.is) (son_read b q q4)

  pub son_to_link : BlockToLink s m next (length (set w' (6 * p + 1 + q) next))
  son_to_link = linkable (son_of (tree_on s l p) q) here (son_ready (its_fork b) w b.block.ready f turn q4)

  pub son_forked : {k : ℕ} → k ≡ get_or s (record_place next + 2) 0 → k ≡ fork_type → ForkToLink s m next (length (set w' (6 * p + 1 + q) next))
  son_forked e fk = record { block = son_to_link; fork = sym e ∙ fk }

  pub son_linked : {w₂ : List ℕ} {r : ℕ} → Linked (tree_in (block_at s m (record_place next))) p next (set w' (6 * p + 1 + q) next) w₂ r → InTurn (tree_on s l p) p (q + 1) r (set w (6 * p) f) w₂
  son_linked h = son_put (its_fork b) w b.block.ready f turn q4 (rw (ap tree_in here) at (put_of (tree_on s m next) h))

-- a pixel that was read
pixel_read : (s : List ℕ) (i r k : ℕ) (t : Tree) → block_at s 0 (record_place i) ≡ got r t → k ≡ get_or s (record_place i + 2) 0
    → (t ≡ leaf k) × (record_place i + 3 ≤ length s) × (k ≤ top_colour)
pixel_read s i r k t is f =
    let h = pixel_of s (record_place i) r t is in
    let c : colour t ≡ k = sym (f ∙ h.stands.kind) in
    (h.is ∙ ap leaf c, h.stands.fits, rw c at h.low)

-- a fork over four pixels that was read: its tree, by the types behind its record
pub record Pixels (s : List ℕ) (p a b c d : ℕ) (t : Tree) : Type 0 where
  pub is : t ≡ fork (leaf a) (leaf b) (leaf c) (leaf d)
  pub fits : record_place p + 15 ≤ length s
  pub nw : a ≤ top_colour
  pub ne : b ≤ top_colour
  pub sw : c ≤ top_colour
  pub se : d ≤ top_colour

-- the type byte of pixel q of a fork at node p, and the words of the pixels before it
pub pixel_byte : List ℕ → ℕ → ℕ → ℕ
pixel_byte s p q = get_or s (record_place (p + 1 + q) + 2) 0

pub pixel_words : List ℕ → ℕ → ℕ → List ℕ
pixel_words s p zero = []
pixel_words s p (suc q) = pixel_words s p q ++ leaf_words p (pixel_byte s p q)

pixel_length : (s : List ℕ) (p q : ℕ) → length (pixel_words s p q) ≡ 6 * q
unfolding pixel_words
pixel_length s p zero = refl
pixel_length s p (suc q) = length-append (pixel_words s p q) _ ∙ omega (arith, pixel_length s p q)

-- a fork over four pixels was written over the words `before`, with its pixels before node `next`
pub record PixelsPut (s : List ℕ) (p f next : ℕ) (before after : List ℕ) : Type 0 where
  pub from : p + 1 ≤ next
  pub to : next ≤ p + 5
  pub words : after ≡ sets before (6 * p) (node_words f (p + 1) (p + 2) (p + 3) (p + 4) fork_type ++ pixel_words s p (next - (p + 1)))

pub none_of_pixels : {s : List ℕ} {p f : ℕ} {w w' : List ℕ} → w' ≡ sets w (6 * p) (node_words f (p + 1) (p + 2) (p + 3) (p + 4) fork_type) → PixelsPut s p f (p + 1) w w'
unfolding pixel_words
none_of_pixels {s} {p} e =
    let z : p + 1 - (p + 1) ≡ 0 = omega arith in
    record { from = omega arith; to = omega arith; words = rw z e }

pub pixel_put : {s : List ℕ} {p f next k : ℕ} {w w₁ w₂ : List ℕ} → PixelsPut s p f next w w₁ → next < p + 5 → k ≡ get_or s (record_place next + 2) 0
    → w₂ ≡ sets w₁ (6 * next) (leaf_words p k) → PixelsPut s p f (next + 1) w w₂
unfolding pixel_words pixel_byte
pixel_put {s} {p} {f} {next} {k} {w} {w₁} {w₂} put lt ek e =
    let q : ℕ = next - (p + 1) in
    let own : List ℕ = node_words f (p + 1) (p + 2) (p + 3) (p + 4) fork_type in
    let more : next + 1 - (p + 1) ≡ suc q = omega (arith, put.from) in
    let here : p + 1 + q ≡ next = omega (arith, put.from) in
    let behind : w₂ ≡ sets w (6 * p) ((own ++ pixel_words s p q) ++ leaf_words p k) =
    sets_behind w w₁ w₂ (6 * p) (6 * next) (own ++ pixel_words s p q) (leaf_words p k) put.words e (omega (arith, pixel_length s p q, put.from)) in
    record { from = omega (arith, put.from); to = omega arith; words = rw (more, here, ← ek) behind }

pixel_kind : (s : List ℕ) (p q i : ℕ) → p + 1 + q ≡ i → pixel_byte s p q ≡ get_or s (record_place i + 2) 0
unfolding pixel_byte
pixel_kind s p q i e = ap (λ (j : ℕ). get_or s (record_place j + 2) 0) e

module _ {s : List ℕ} {p words : ℕ} (k : ForkToLink s 1 p words) where
  pub pixels : {a b c d : ℕ} → a ≡ get_or s (record_place (p + 1) + 2) 0 → b ≡ get_or s (record_place (p + 1 + 1) + 2) 0 → c ≡ get_or s (record_place (p + 1 + 1 + 1) + 2) 0
      → d ≡ get_or s (record_place (p + 1 + 1 + 1 + 1) + 2) 0 → Pixels s p a b c d (tree_on s 1 p)
  unfolding size_of
  pixels {a} {b} {c} {d} ea eb ec ed =
      let h = its_parts k in
      let pa = pixel_read s (p + 1) _ a h.fork.a h.nw ea in
      let pb = pixel_read s (p + 1 + 1) _ b h.fork.b (rw pa.0 at h.ne) eb in
      let pc = pixel_read s (p + 1 + 1 + 1) _ c h.fork.c (rw (pa.0, pb.0) at h.sw) ec in
      let pd = pixel_read s (p + 1 + 1 + 1 + 1) _ d h.fork.d (rw (pa.0, pb.0, pc.0) at h.se) ed in
      record { is = h.fork.is ∙ rw (pa.0, pb.0, pc.0, pd.0); fits = omega (arith, pd.1); nw = pa.2; ne = pb.2; sw = pc.2; se = pd.2 }

  pub pixels_fit : record_place p + 15 ≤ length s
  pixels_fit = (pixels refl refl refl refl).fits

  five : size_of (tree_on s 1 p) ≡ 5
  unfolding size_of
  five = ap size_of (pixels refl refl refl refl).is

  pub pixels_room : 6 * p + 30 ≤ words
  pixels_room = omega (arith, k.block.ready.room, five)

  pub pixels_few : p + 5 ≤ max_words
  pixels_few = omega (arith, k.block.ready.few, five)

  -- its words were put one node after the other
  pub pixels_linked : {f a b c d : ℕ} {w w₀ w₁ w₂ w₃ w₄ : List ℕ} → a ≡ get_or s (record_place (p + 1) + 2) 0 → b ≡ get_or s (record_place (p + 1 + 1) + 2) 0
      → c ≡ get_or s (record_place (p + 1 + 1 + 1) + 2) 0 → d ≡ get_or s (record_place (p + 1 + 1 + 1 + 1) + 2) 0
      → w₀ ≡ sets w (6 * p) (node_words f (p + 1) (p + 1 + 1) (p + 1 + 1 + 1) (p + 1 + 1 + 1 + 1) fork_type)
      → w₁ ≡ sets w₀ (6 * (p + 1)) (leaf_words p a) → w₂ ≡ sets w₁ (6 * (p + 1 + 1)) (leaf_words p b)
      → w₃ ≡ sets w₂ (6 * (p + 1 + 1 + 1)) (leaf_words p c) → w₄ ≡ sets w₃ (6 * (p + 1 + 1 + 1 + 1)) (leaf_words p d)
      → Linked (tree_in (block_at s 1 (record_place p))) f p w w₄ (p + 1 + 1 + 1 + 1 + 1)
  unfolding size_of preorder
  pixels_linked {f} {a} {b} {c} {d} {w} {w₀} {w₁} {w₂} {w₃} {w₄} ea eb ec ed e₀ e₁ e₂ e₃ e₄ =
      let own : List ℕ = node_words f (p + 1) (p + 1 + 1) (p + 1 + 1 + 1) (p + 1 + 1 + 1 + 1) fork_type in
      let nw : List ℕ = own ++ preorder p (p + 1) (leaf a) in
      let ne : List ℕ = nw ++ preorder p (p + 1 + 1) (leaf b) in
      let sw : List ℕ = ne ++ preorder p (p + 1 + 1 + 1) (leaf c) in
      let h₁ = sets_behind w w₀ w₁ (6 * p) (6 * (p + 1)) own (preorder p (p + 1) (leaf a)) e₀ e₁ (omega arith) in
      let h₂ = sets_behind w w₁ w₂ (6 * p) (6 * (p + 1 + 1)) nw (preorder p (p + 1 + 1) (leaf b)) h₁ e₂ (omega arith) in
      let h₃ = sets_behind w w₂ w₃ (6 * p) (6 * (p + 1 + 1 + 1)) ne (preorder p (p + 1 + 1 + 1) (leaf c)) h₂ e₃ (omega arith) in
      let h₄ = sets_behind w w₃ w₄ (6 * p) (6 * (p + 1 + 1 + 1 + 1)) sw (preorder p (p + 1 + 1 + 1 + 1) (leaf d)) h₃ e₄ (omega arith) in
      rw (pixels ea eb ec ed).is (record { next = omega arith; words = h₄ })

  -- all four of its pixels are put
  pub all_linked : {f next : ℕ} {w w' : List ℕ} → PixelsPut s p f next w w' → p + 5 ≤ next → Linked (tree_in (block_at s 1 (record_place p))) f p w w' (p + 5)
  unfolding size_of preorder pixel_words
  all_linked {f} {next} {w} {w'} put h =
      let t = pixels {a = pixel_byte s p 0} {b = pixel_byte s p 1} {c = pixel_byte s p 2} {d = pixel_byte s p 3} (pixel_kind s p 0 (p + 1) (omega arith)) (pixel_kind s p 1 (p + 1 + 1) (omega arith))
      (pixel_kind s p 2 (p + 1 + 1 + 1) (omega arith)) (pixel_kind s p 3 (p + 1 + 1 + 1 + 1) (omega arith)) in
      let four : next - (p + 1) ≡ 4 = omega (arith, put.to) in
      let e₂ : p + 2 ≡ p + 1 + 1 = omega arith in
      let e₃ : p + 3 ≡ p + 1 + 1 + 1 = omega arith in
      let e₄ : p + 4 ≡ p + 1 + 1 + 1 + 1 = omega arith in
      let words : w' ≡ sets w (6 * p) (node_words f (p + 1) (p + 1 + 1) (p + 1 + 1 + 1) (p + 1 + 1 + 1 + 1) fork_type ++ pixel_words s p 4) = rw (four, e₂, e₃, e₄) at put.words in
      rw t.is (record { next = omega arith; words = words })
