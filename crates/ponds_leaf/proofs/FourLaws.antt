-- The four pixels of a fork: each gets its label from those before it, and then the lines are written, once.
use mathlib.Core.Bool.{true}
use mathlib.Core.List.{List}
use mathlib.Core.Path.{◌≡◌, refl, ap, sym, ◌∙◌}
use Prim.Native.Nat.{ℕ, ◌+◌, ◌*◌, ◌<◌}
use native.Mathlib.Omega.{arith}
use lib.ListN.{length, get_or, set, length-set}
use lib.Seq.{get_or-set_same, get_or-set_other}
use borrow.Author.Tests.{eq-eqb}
use Rattle.quad.specs.Numbers.{fork_type}
use Rattle.table.specs.Table.{son, node_type, is_fork}
use Rattle.table.specs.Links.{four_sons}
use Rattle.table.proofs.AcceptedLaws.{fork_above, son_at}
use Rattle.table.proofs.SonsLaws.{son_read}
use Rattle.ponds.proofs.NodeLaws.{same_or_not}
use Rattle.ponds_sets.specs.Lines.{across}
use Rattle.ponds_sets.specs.Touch.{first_nonzero, one_if_own, Touching, LabelsAs}
use Rattle.ponds_sets.specs.Walk.{LinesFilled, written, Coming, Goes, ToLeaf, PastLeaf}
use Rattle.ponds_sets.proofs.TouchLaws.{nonzero_second}
use Rattle.ponds_sides.proofs.LeafLaws.{leaf_touching, leaf_touched, pixel_past, filled_one}
use Rattle.ponds_leaf.proofs.ForkLaws.{pixels_room, Firsts, firsts_none, first_other, son_leaf, firsts_leaf, firsts_still}

-- a fork of four pixels
module _ (T W L : List ℕ) (p x y : ℕ) (f : is_fork T p ≡ true) (c₀ c₁ c₂ c₃ : ℕ) (e₀ : c₀ ≡ son T p 0) (e₁ : c₁ ≡ son T p 1) (e₂ : c₂ ≡ son T p 2) (e₃ : c₃ ≡ son T p 3) where
  abbrev Some : ℕ → List ℕ → List ℕ → ℕ → Type 0
  Some q W' L' r = Firsts T W L p x y 1 1 0 q W' L' r

  -- the sons of a fork of level 1 are leaves
  pub pixel_leaf : Coming T W L p x y 1 → (q : ℕ) → q < 4 → (c k : ℕ) → c ≡ son T p q → k ≡ node_type T c → k ≡ fork_type → ⊥
  pixel_leaf z q q4 c k ec ek e =
      let d = son_at z.at f q q4 in
      omega (arith, fork_above d (eq-eqb (node_type T (son T p q)) fork_type (ap (node_type T) (sym ec) ∙ sym ek ∙ e)))

  module _ (z : Coming T W L p x y 1) (k₀ k₁ k₂ k₃ : ℕ) (t₀ : k₀ ≡ node_type T c₀) (t₁ : k₁ ≡ node_type T c₁) (t₂ : k₂ ≡ node_type T c₂) (t₃ : k₃ ≡ node_type T c₃) where
    pub four_none : Some 0 W L 0
    four_none = firsts_none T W L p x y 1 f 1 0 refl refl

    pub four_first : ToLeaf W L k₀ c₀ 1 x y
    four_first =
        son_leaf T W L p x y 1 f 1 0 refl refl 0 (omega arith) W L 0 four_none c₀ x y e₀ (omega arith) (omega arith) k₀ 1 t₀ (pixel_leaf z 0 (omega arith) c₀ k₀ e₀ t₀) refl z

    module _ (W₁ L₁ : List ℕ) (a : ℕ) (g₀ : PastLeaf W L k₀ c₀ 1 x y W₁ L₁ a) where
      four_one : Some 1 W₁ L₁ (first_nonzero 0 a)
      four_one =
          firsts_leaf T W L p x y 1 f 1 0 refl refl 0 (omega arith) W L 0 four_none c₀ x y e₀ (omega arith) (omega arith) k₀ 1 t₀
          (pixel_leaf z 0 (omega arith) c₀ k₀ e₀ t₀) refl W₁ L₁ a g₀ _ refl

      pub four_second : ToLeaf W₁ L₁ k₁ c₁ 1 (x + 1) y
      four_second =
          son_leaf T W L p x y 1 f 1 0 refl refl 1 (omega arith) W₁ L₁ (first_nonzero 0 a) four_one c₁ (x + 1) y e₁ (omega arith) (omega arith) k₁ 1 t₁
          (pixel_leaf z 1 (omega arith) c₁ k₁ e₁ t₁) refl z

      module _ (W₂ L₂ : List ℕ) (b : ℕ) (g₁ : PastLeaf W₁ L₁ k₁ c₁ 1 (x + 1) y W₂ L₂ b) where
        four_two : Some 2 W₂ L₂ (first_nonzero (first_nonzero 0 a) b)
        four_two =
            firsts_leaf T W L p x y 1 f 1 0 refl refl 1 (omega arith) W₁ L₁ (first_nonzero 0 a) four_one c₁ (x + 1) y e₁ (omega arith) (omega arith) k₁ 1 t₁
            (pixel_leaf z 1 (omega arith) c₁ k₁ e₁ t₁) refl W₂ L₂ b g₁ _ refl

        pub four_third : ToLeaf W₂ L₂ k₂ c₂ 1 x (y + 1)
        four_third =
            son_leaf T W L p x y 1 f 1 0 refl refl 2 (omega arith) W₂ L₂ (first_nonzero (first_nonzero 0 a) b) four_two c₂ x (y + 1) e₂ (omega arith) (omega arith) k₂ 1 t₂
            (pixel_leaf z 2 (omega arith) c₂ k₂ e₂ t₂) refl z

        module _ (W₃ L₃ : List ℕ) (c : ℕ) (g₂ : PastLeaf W₂ L₂ k₂ c₂ 1 x (y + 1) W₃ L₃ c) where
          four_three : Some 3 W₃ L₃ (first_nonzero (first_nonzero (first_nonzero 0 a) b) c)
          four_three =
              firsts_leaf T W L p x y 1 f 1 0 refl refl 2 (omega arith) W₂ L₂ (first_nonzero (first_nonzero 0 a) b) four_two c₂ x (y + 1) e₂ (omega arith) (omega arith) k₂ 1 t₂
              (pixel_leaf z 2 (omega arith) c₂ k₂ e₂ t₂) refl W₃ L₃ c g₂ _ refl

          pub four_fourth : ToLeaf W₃ L₃ k₃ c₃ 1 (x + 1) (y + 1)
          four_fourth =
              son_leaf T W L p x y 1 f 1 0 refl refl 3 (omega arith) W₃ L₃ (first_nonzero (first_nonzero (first_nonzero 0 a) b) c) four_three c₃ (x + 1) (y + 1) e₃ (omega arith) (omega arith)
              k₃ 1 t₃ (pixel_leaf z 3 (omega arith) c₃ k₃ e₃ t₃) refl z

          module _ (W₄ L₄ : List ℕ) (d : ℕ) (g₃ : PastLeaf W₃ L₃ k₃ c₃ 1 (x + 1) (y + 1) W₄ L₄ d) where
            four_all : Some 4 W₄ L₄ (first_nonzero (first_nonzero (first_nonzero (first_nonzero 0 a) b) c) d)
            four_all =
                firsts_leaf T W L p x y 1 f 1 0 refl refl 3 (omega arith) W₃ L₃ (first_nonzero (first_nonzero (first_nonzero 0 a) b) c) four_three c₃ (x + 1) (y + 1) e₃ (omega arith) (omega arith)
                k₃ 1 t₃ (pixel_leaf z 3 (omega arith) c₃ k₃ e₃ t₃) refl W₄ L₄ d g₃ _ refl

            pub four_gone : (r : ℕ) → r ≡ a + b + c + d → Goes T W L p x y 1 W₄ L₄ r
            four_gone r er =
                firsts_still T W L p x y 1 f 1 0 refl refl W₄ L₄ r
                (λ k.
                first_other r
                (λ o.
                nonzero_second _ d (nonzero_second _ c (nonzero_second _ b (nonzero_second 0 a refl ∙ omega (arith, er, o)) ∙ omega (arith, er, o)) ∙ omega (arith, er, o)) ∙ omega (arith, er, o))
                (four_all k))

-- a pixel that has its label, the lines telling of it
abbrev after : List ℕ → ℕ → ℕ → ℕ → List ℕ
after L x y v = set (set L x v) (across + y) v

pixel_touched : {W L : List ℕ} {kind p x y : ℕ} → length L ≡ 2 * across → x < across → y < across → (north west place : ℕ) → north ≡ get_or L x 0
    → west ≡ get_or L (across + y) 0 → place ≡ across * y + x → (W' : List ℕ) (label : ℕ) → LabelsAs W kind p north west place W' label
    → PastLeaf W L kind p 1 x y W' (after L x y label) (one_if_own label p)
pixel_touched {L = L} {p = p} {x = x} {y = y} long lx ly north west place en ew ep W' label t z =
    pixel_past W' label (after L x y label) (one_if_own label p) (filled_one L label x y long lx ly) refl z (leaf_touched z north west place en ew ep W' label t)

-- the lines as they are written in the end
module _ (L : List ℕ) (x y b c d : ℕ) (long : length L ≡ 2 * across) (lx : x + 1 < across) (ly : y + 1 < across) where
  abbrev A : List ℕ
  A = set L x c

  abbrev B : List ℕ
  B = set A (x + 1) d

  abbrev C : List ℕ
  C = set B (across + y) b

  size-A : length A ≡ 256
  size-A = length-set L x c ∙ long

  size-B : length B ≡ 256
  size-B = length-set A (x + 1) d ∙ size-A

  size-C : length C ≡ 256
  size-C = length-set B (across + y) b ∙ size-B

  written_long : length (written L x y b c d) ≡ length L
  written_long = length-set C (across + y + 1) d ∙ size-C ∙ sym long

  -- what the last two writes leave, and the first two
  late : (i : ℕ) → (i ≡ across + y → ⊥) → (i ≡ across + y + 1 → ⊥) → get_or (written L x y b c d) i 0 ≡ get_or B i 0
  late i s t = get_or-set_other C (across + y + 1) i d 0 t ∙ get_or-set_other B (across + y) i b 0 s

  written_west : get_or (written L x y b c d) x 0 ≡ c
  written_west =
      late x (λ e. omega (arith, e, lx)) (λ e. omega (arith, e, lx)) ∙ get_or-set_other A (x + 1) x d 0 (λ e. omega (arith, e)) ∙ get_or-set_same L x c 0 (omega (arith, lx, long))

  written_east : get_or (written L x y b c d) (x + 1) 0 ≡ d
  written_east =
      late (x + 1) (λ e. omega (arith, e, lx)) (λ e. omega (arith, e, lx)) ∙ get_or-set_same A (x + 1) d 0 (omega (arith, lx, size-A))

  written_north : get_or (written L x y b c d) (across + y) 0 ≡ b
  written_north =
      get_or-set_other C (across + y + 1) (across + y) d 0 (λ e. omega (arith, e)) ∙ get_or-set_same B (across + y) b 0 (omega (arith, ly, size-B))

  written_south : get_or (written L x y b c d) (across + y + 1) 0 ≡ d
  written_south = get_or-set_same C (across + y + 1) d 0 (omega (arith, ly, size-C))

  written_rest : (i : ℕ) → (i ≡ x → ⊥) → (i ≡ x + 1 → ⊥) → (i ≡ across + y → ⊥) → (i ≡ across + y + 1 → ⊥) → get_or (written L x y b c d) i 0 ≡ get_or L i 0
  written_rest i s t u v = late i u v ∙ get_or-set_other A (x + 1) i d 0 t ∙ get_or-set_other L x i c 0 s

-- the sons as they are read, and what the lines tell before them
module _ (T W L : List ℕ) (p x y : ℕ) (f : is_fork T p ≡ true) (sons : List ℕ) (es : sons ≡ four_sons T p) (k₀ k₁ k₂ k₃ : ℕ) (t₀ : k₀ ≡ node_type T (get_or sons 0 0))
    (t₁ : k₁ ≡ node_type T (get_or sons 1 0)) (t₂ : k₂ ≡ node_type T (get_or sons 2 0)) (t₃ : k₃ ≡ node_type T (get_or sons 3 0)) (n₀ n₁ w₀ w₁ : ℕ) (en₀ : n₀ ≡ get_or L x 0)
    (en₁ : n₁ ≡ get_or L (x + 1) 0) (ew₀ : w₀ ≡ get_or L (across + y) 0) (ew₁ : w₁ ≡ get_or L (across + (y + 1)) 0) (place : ℕ) (ep : place ≡ across * y + x)
    (z : Coming T W L p x y 1) where
  abbrev c₀ : ℕ
  c₀ = get_or sons 0 0

  abbrev c₁ : ℕ
  c₁ = get_or sons 1 0

  abbrev c₂ : ℕ
  c₂ = get_or sons 2 0

  abbrev c₃ : ℕ
  c₃ = get_or sons 3 0

  e₀ : c₀ ≡ son T p 0
  e₀ = son_read T p sons es 0 (omega arith)

  e₁ : c₁ ≡ son T p 1
  e₁ = son_read T p sons es 1 (omega arith)

  e₂ : c₂ ≡ son T p 2
  e₂ = son_read T p sons es 2 (omega arith)

  e₃ : c₃ ≡ son T p 3
  e₃ = son_read T p sons es 3 (omega arith)

  four_room : (x + 1 < across) × (y + 1 < across)
  four_room = let k = pixels_room z f in (omega (arith, k.0), omega (arith, k.1))

  lx : x + 1 < across
  lx = four_room.0

  ly : y + 1 < across
  ly = four_room.1

  pub touching_first : Touching W k₀ c₀ n₀ w₀ place
  touching_first = leaf_touching (four_first T W L p x y f c₀ c₁ c₂ c₃ e₀ e₁ e₂ e₃ z k₀ k₁ k₂ k₃ t₀ t₁ t₂ t₃) _ _ _ en₀ ew₀ ep

  module _ (W₁ : List ℕ) (a : ℕ) (h₀ : LabelsAs W k₀ c₀ n₀ w₀ place W₁ a) where
    abbrev L₁ : List ℕ
    L₁ = after L x y a

    F₁ : LinesFilled L a x y 1 L₁
    F₁ = filled_one L a x y z.long (omega (arith, lx)) (omega (arith, ly))

    long₁ : length L₁ ≡ 2 * across
    long₁ = F₁.long ∙ z.long

    g₀ : PastLeaf W L k₀ c₀ 1 x y W₁ L₁ (one_if_own a c₀)
    g₀ = pixel_touched z.long (omega (arith, lx)) (omega (arith, ly)) _ _ place en₀ ew₀ ep W₁ a h₀

    -- what the second pixel asks for is told by the lines after the first
    north₁ : n₁ ≡ get_or L₁ (x + 1) 0
    north₁ = en₁ ∙ sym (F₁.rest (x + 1) (λ s t. omega (arith, t)) (λ s t. omega (arith, s, lx)))

    west₁ : a ≡ get_or L₁ (across + y) 0
    west₁ = sym (F₁.west y (omega arith) (omega arith))

    pub touching_second : Touching W₁ k₁ c₁ n₁ a (place + 1)
    touching_second =
        leaf_touching (four_second T W L p x y f c₀ c₁ c₂ c₃ e₀ e₁ e₂ e₃ z k₀ k₁ k₂ k₃ t₀ t₁ t₂ t₃ W₁ L₁ (one_if_own a c₀) g₀) _ _ _ north₁ west₁ (omega (arith, ep))

    module _ (W₂ : List ℕ) (b : ℕ) (h₁ : LabelsAs W₁ k₁ c₁ n₁ a (place + 1) W₂ b) where
      abbrev L₂ : List ℕ
      L₂ = after L₁ (x + 1) y b

      F₂ : LinesFilled L₁ b (x + 1) y 1 L₂
      F₂ = filled_one L₁ b (x + 1) y long₁ lx (omega (arith, ly))

      long₂ : length L₂ ≡ 2 * across
      long₂ = F₂.long ∙ long₁

      g₁ : PastLeaf W₁ L₁ k₁ c₁ 1 (x + 1) y W₂ L₂ (one_if_own b c₁)
      g₁ = pixel_touched long₁ lx (omega (arith, ly)) _ _ (place + 1) north₁ west₁ (omega (arith, ep)) W₂ b h₁

      north₂ : a ≡ get_or L₂ x 0
      north₂ = sym (F₂.rest x (λ s t. omega (arith, s)) (λ s t. omega (arith, s, lx)) ∙ F₁.north x (omega arith) (omega arith))

      west₂ : w₁ ≡ get_or L₂ (across + (y + 1)) 0
      west₂ =
          ew₁
          ∙ sym
          (F₂.rest (across + (y + 1)) (λ s t. omega (arith, t, lx)) (λ s t. omega (arith, t))
          ∙ F₁.rest (across + (y + 1)) (λ s t. omega (arith, t, lx)) (λ s t. omega (arith, t)))

      pub touching_third : Touching W₂ k₂ c₂ a w₁ (place + across)
      touching_third =
          leaf_touching (four_third T W L p x y f c₀ c₁ c₂ c₃ e₀ e₁ e₂ e₃ z k₀ k₁ k₂ k₃ t₀ t₁ t₂ t₃ W₁ L₁ (one_if_own a c₀) g₀ W₂ L₂ (one_if_own b c₁) g₁) _ _ _ north₂ west₂
          (omega (arith, ep))

      module _ (W₃ : List ℕ) (c : ℕ) (h₂ : LabelsAs W₂ k₂ c₂ a w₁ (place + across) W₃ c) where
        abbrev L₃ : List ℕ
        L₃ = after L₂ x (y + 1) c

        F₃ : LinesFilled L₂ c x (y + 1) 1 L₃
        F₃ = filled_one L₂ c x (y + 1) long₂ (omega (arith, lx)) ly

        g₂ : PastLeaf W₂ L₂ k₂ c₂ 1 x (y + 1) W₃ L₃ (one_if_own c c₂)
        g₂ = pixel_touched long₂ (omega (arith, lx)) ly _ _ (place + across) north₂ west₂ (omega (arith, ep)) W₃ c h₂

        north₃ : b ≡ get_or L₃ (x + 1) 0
        north₃ = sym (F₃.rest (x + 1) (λ s t. omega (arith, t)) (λ s t. omega (arith, s, lx)) ∙ F₂.north (x + 1) (omega arith) (omega arith))

        west₃ : c ≡ get_or L₃ (across + (y + 1)) 0
        west₃ = sym (F₃.west (y + 1) (omega arith) (omega arith))

        pub touching_fourth : Touching W₃ k₃ c₃ b c (place + across + 1)
        touching_fourth =
            leaf_touching
            (four_fourth T W L p x y f c₀ c₁ c₂ c₃ e₀ e₁ e₂ e₃ z k₀ k₁ k₂ k₃ t₀ t₁ t₂ t₃ W₁ L₁ (one_if_own a c₀) g₀ W₂ L₂ (one_if_own b c₁) g₁ W₃ L₃ (one_if_own c c₂) g₂) _ _ _
            north₃ west₃ (omega (arith, ep))

        module _ (W₄ : List ℕ) (d : ℕ) (h₃ : LabelsAs W₃ k₃ c₃ b c (place + across + 1) W₄ d) where
          -- the lines as they are written tell what they would tell after the fourth
          F₄ : LinesFilled L₃ d (x + 1) (y + 1) 1 (written L x y b c d)
          F₄ = record {
            long = written_long L x y b c d z.long lx ly ∙ sym (F₃.long ∙ F₂.long ∙ F₁.long);
            north = λ u s t. let e : u ≡ x + 1 = omega (arith, s, t) in rw e (written_east L x y b c d z.long lx ly);
            west = λ v s t. let e : across + v ≡ across + y + 1 = omega (arith, s, t) in rw e (written_south L x y b c d z.long lx ly);
            rest = λ i s t.
                same_or_not i x
                (λ e. rw e (written_west L x y b c d z.long lx ly ∙ sym (F₃.north x (omega arith) (omega arith))))
                (λ nx.
                same_or_not i (across + y)
                (λ e.
                rw e
                (written_north L x y b c d z.long lx ly
                ∙ sym (F₃.rest (across + y) (λ u v. omega (arith, v, lx)) (λ u v. omega (arith, u)) ∙ F₂.west y (omega arith) (omega arith))))
                (λ ny.
                written_rest L x y b c d z.long lx ly i nx (λ e. s (omega (arith, e)) (omega (arith, e))) ny (λ e. t (omega (arith, e)) (omega (arith, e)))
                ∙ sym
                (F₃.rest i (λ u v. nx (omega (arith, u, v))) (λ u v. t (omega (arith, u)) (omega (arith, v)))
                ∙ F₂.rest i (λ u v. s u v) (λ u v. ny (omega (arith, u, v)))
                ∙ F₁.rest i (λ u v. nx (omega (arith, u, v))) (λ u v. ny (omega (arith, u, v))))));
          }

          g₃ : PastLeaf W₃ L₃ k₃ c₃ 1 (x + 1) (y + 1) W₄ (written L x y b c d) (one_if_own d c₃)
          g₃ k =
              pixel_past W₄ d (written L x y b c d) (one_if_own d c₃) F₄ refl k
              (leaf_touched k b c (place + across + 1) north₃ west₃ (omega (arith, ep)) W₄ d h₃)

          pub pixels_gone : (L' : List ℕ) → L' ≡ written L x y b c d → (r : ℕ) → r ≡ one_if_own a c₀ + one_if_own b c₁ + one_if_own c c₂ + one_if_own d c₃
              → Goes T W L p x y 1 W₄ L' r
          pixels_gone L' el r er =
              rw el
              (four_gone T W L p x y f c₀ c₁ c₂ c₃ e₀ e₁ e₂ e₃ z k₀ k₁ k₂ k₃ t₀ t₁ t₂ t₃ W₁ L₁ (one_if_own a c₀) g₀ W₂ L₂ (one_if_own b c₁) g₁ W₃ L₃ (one_if_own c c₂) g₂ W₄
              (written L x y b c d) (one_if_own d c₃) g₃ r er)
