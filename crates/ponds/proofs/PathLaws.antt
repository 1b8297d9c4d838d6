-- Chains of black leaves and paths of black pixels are the same thing: beside pixels have leaves that share a length of
-- side, and within a leaf's block any pixel is reached from any other, along the row and then along the column.
use mathlib.Core.List.{List}
use mathlib.Core.Logic.{⊎_elim}
use mathlib.Core.Path.{◌≡◌, refl, sym, ◌∙◌}
use Prim.Native.Nat.{ℕ, zero, suc, ◌+◌, ◌-◌, ◌*◌, ◌/◌, ◌^◌, ◌≤◌, ◌<◌}
use native.Mathlib.Nat.{div-mul-le_self, div-lt_iff_lt-mul, div-eq_of_lt-le}
use native.Mathlib.Omega.{arith}
use lib.Pow.{pow_pos}
use Rattle.base.proofs.BoolLaws.{lt_or_ge}
use Rattle.quad.specs.Direction.{east_step, south_step}
use Rattle.quad.specs.Block.{path_of}
use Rattle.table.specs.Rules.{Accepted}
use Rattle.table.specs.Nodes.{holder, pixel}
use Rattle.neighbour.specs.Containing.{Contains, opposite}
use Rattle.neighbour.proofs.BackLaws.{cancels}
use Rattle.neighbour.proofs.SmallestLaws.{holder_contains}
use Rattle.neighbour.proofs.SideLaws.{on_sheet, leaf_holds}
use Rattle.ponds.specs.Chain.{Water, Chain, end, link}
use Rattle.ponds.proofs.ChainLaws.{straight_back}
use Rattle.ponds.specs.Paths.{Wet, Path, stop, step}
use Rattle.ponds.proofs.LeafLaws.{black_leaf}

module _ (n : ℕ) (f : ℕ → ℕ → ℕ) where
  pub path_start : (x y u v : ℕ) → Path n f x y u v → Wet n f x y
  path_start x y u v (stop w) = w
  path_start x y u v (step D side w e s more) = w

  path_joined : (x y u v s t : ℕ) → Path n f x y u v → Path n f u v s t → Path n f x y s t
  path_joined x y u v s t (stop w) more = more
  path_joined x y u v s t (step D side w east south rest) more = step D side w east south (path_joined (x + east_step D - 1) (y + south_step D - 1) u v s t rest more)

  path_back : (x y u v : ℕ) → Path n f x y u v → Path n f u v x y
  path_back x y u v (stop w) = stop w
  path_back x y u v (step D side w east south rest) =
      let k = cancels D (omega arith) in
      let X : ℕ = x + east_step D - 1 in
      let Y : ℕ = y + south_step D - 1 in
      let bx : X + east_step (opposite D) - 1 ≡ x = omega (arith, k.east) in
      let by : Y + south_step (opposite D) - 1 ≡ y = omega (arith, k.south) in
      path_joined u v X Y x y (path_back X Y u v rest)
      (step (opposite D) (straight_back D side) (path_start X Y u v rest) (omega (arith, k.east)) (omega (arith, k.south)) (rw (bx, by) (stop w)))

  -- a path of one picture is one of another that looks the same
  pub same_path : (g : ℕ → ℕ → ℕ) → ((x y : ℕ) → x < 2 ^ n → y < 2 ^ n → f x y ≡ g x y) → (x y u v : ℕ) → Path n f x y u v → Path n g x y u v
  same_path g same x y u v (stop w) = stop (record { across = w.across; down = w.down; wet = sym (same x y w.across w.down) ∙ w.wet })
  same_path g same x y u v (step D side w east south rest) =
      step D side (record { across = w.across; down = w.down; wet = sym (same x y w.across w.down) ∙ w.wet }) east south
      (same_path g same (x + east_step D - 1) (y + south_step D - 1) u v rest)

  -- what does not change from one black pixel to the next does not change along a path
  pub path_keeps : (g : ℕ → ℕ → ℕ)
      → ((x y D : ℕ) → D < 4 → Wet n f x y → 0 < x + east_step D → 0 < y + south_step D → Wet n f (x + east_step D - 1) (y + south_step D - 1)
      → g x y ≡ g (x + east_step D - 1) (y + south_step D - 1))
      → (x y u v : ℕ) → Path n f x y u v → g x y ≡ g u v
  path_keeps g keeps x y u v (stop w) = refl
  path_keeps g keeps x y u v (step D side w east south rest) =
      let X : ℕ = x + east_step D - 1 in
      let Y : ℕ = y + south_step D - 1 in
      keeps x y D side w east south (path_start X Y u v rest) ∙ path_keeps g keeps X Y u v rest

  -- pixels that follow one another on side D, the first k + 1 of them black
  slide : (D : ℕ) → D < 4 → (X Y : ℕ → ℕ) → ((j : ℕ) → 0 < X j + east_step D) → ((j : ℕ) → 0 < Y j + south_step D)
      → ((j : ℕ) → X (suc j) ≡ X j + east_step D - 1) → ((j : ℕ) → Y (suc j) ≡ Y j + south_step D - 1)
      → (k : ℕ) → ((j : ℕ) → j ≤ k → Wet n f (X j) (Y j)) → Path n f (X 0) (Y 0) (X k) (Y k)
  slide D side X Y east south ex ey zero w = stop (w 0 (omega arith))
  slide D side X Y east south ex ey (suc k) w =
      path_joined (X 0) (Y 0) (X k) (Y k) (X (suc k)) (Y (suc k))
      (slide D side X Y east south ex ey k (λ j le. w j (omega arith)))
      (step D side (w k (omega arith)) (east k) (south k) (rw (← (ex k), ← (ey k)) (stop (w (suc k) (omega arith)))))

  -- to the east, and to the south
  eastward : (x y k : ℕ) → ((j : ℕ) → j ≤ k → Wet n f (x + j) y) → Path n f x y (x + k) y
  unfolding east_step south_step
  eastward x y k w =
      let z : x + 0 ≡ x = omega arith in
      rw z at
      (slide 1 (omega arith) (λ j. x + j) (λ j. y) (λ j. omega arith) (λ j. omega arith) (λ j. omega arith) (λ j. omega arith) k w)

  southward : (x y k : ℕ) → ((j : ℕ) → j ≤ k → Wet n f x (y + j)) → Path n f x y x (y + k)
  unfolding east_step south_step
  southward x y k w =
      let z : y + 0 ≡ y = omega arith in
      rw z at
      (slide 2 (omega arith) (λ j. x) (λ j. y + j) (λ j. omega arith) (λ j. omega arith) (λ j. omega arith) (λ j. omega arith) k w)

-- what lies between two numbers of one quotient has that quotient
between : (a b c k q : ℕ) → a ≤ b → b ≤ c → a / 2 ^ k ≡ q → c / 2 ^ k ≡ q → b / 2 ^ k ≡ q
between a b c k q lo hi ea ec =
    let low : q * 2 ^ k ≤ a = rw ea at (div-mul-le_self a (2 ^ k)) in
    let high : c < (q + 1) * 2 ^ k = (div-lt_iff_lt-mul {k = 2 ^ k} {x = c} {y = q + 1} (pow_pos k)).0 (omega arith) in
    div-eq_of_lt-le {k = q} (2 ^ k) (omega arith) (omega arith)

module _ (n : ℕ) (T : List ℕ) (acc : Accepted n T) where
  -- the leaf of the pixel (x, y)
  abbrev leaf_of : ℕ → ℕ → ℕ
  leaf_of x y = holder T (path_of n x y)

  wet_leaf : (x y : ℕ) → Wet n (pixel n T) x y → Water T (leaf_of x y)
  unfolding pixel
  wet_leaf x y w = record { node = (holder_contains n T acc n x y w.across w.down).node; wet = w.wet }

  -- a pixel of a black leaf
  leaf_wet : (p x y : ℕ) → Water T p → Contains n T p n x y → Wet n (pixel n T) x y
  unfolding pixel
  leaf_wet p x y w c =
      let s = on_sheet n T acc p n x y c in
      record { across = s.0; down = s.1; wet = rw (leaf_holds n T acc p n x y c (black_leaf T p w.wet)) w.wet }

  pub path_chain : (x y u v : ℕ) → Path n (pixel n T) x y u v → Chain n T (leaf_of x y) (leaf_of u v)
  path_chain x y u v (stop w) = end (wet_leaf x y w)
  path_chain x y u v (step D side w east south rest) =
      let X : ℕ = x + east_step D - 1 in
      let Y : ℕ = y + south_step D - 1 in
      let next = path_start n (pixel n T) X Y u v rest in
      link (wet_leaf x y w)
      (record {
        side = D;
        x = x;
        y = y;
        straight = side;
        touch = record {
          east = east;
          south = south;
          here = holder_contains n T acc n x y w.across w.down;
          beyond = holder_contains n T acc n X Y next.across next.down;
        };
      })
      (path_chain X Y u v rest)

  -- within a block, along a row and along a column
  module _ (p : ℕ) (w : Water T p) where
    along_row : (x u y : ℕ) → x ≤ u → Contains n T p n x y → Contains n T p n u y → Path n (pixel n T) x y u y
    along_row x u y le c d =
        let e : x + (u - x) ≡ u = omega arith in
        rw e at
        (eastward n (pixel n T) x y (u - x)
        (λ j h. leaf_wet p (x + j) y w (record {
          node = c.node;
          inside = record {
            large = c.inside.large;
            across = between x (x + j) u _ _ (omega arith) (omega arith) c.inside.across d.inside.across;
            down = c.inside.down;
          };
        })))

    along_column : (x y v : ℕ) → y ≤ v → Contains n T p n x y → Contains n T p n x v → Path n (pixel n T) x y x v
    along_column x y v le c d =
        let e : y + (v - y) ≡ v = omega arith in
        rw e at
        (southward n (pixel n T) x y (v - y)
        (λ j h. leaf_wet p x (y + j) w (record {
          node = c.node;
          inside = record {
            large = c.inside.large;
            across = c.inside.across;
            down = between y (y + j) v _ _ (omega arith) (omega arith) c.inside.down d.inside.down;
          };
        })))

    within : (x y u v : ℕ) → Contains n T p n x y → Contains n T p n u v → Path n (pixel n T) x y u v
    within x y u v c d =
        let corner : Contains n T p n u y =
        record { node = c.node; inside = record { large = c.inside.large; across = d.inside.across; down = c.inside.down } } in
        path_joined n (pixel n T) x y u y u v
        (⊎_elim (λ (l : x < u). along_row x u y (omega arith) c corner) (λ (g : u ≤ x). path_back n (pixel n T) u y x y (along_row u x y g corner c)) (lt_or_ge x u))
        (⊎_elim (λ (l : y < v). along_column u y v (omega arith) corner d) (λ (g : v ≤ y). path_back n (pixel n T) u v u y (along_column u v y g d corner)) (lt_or_ge y v))

  pub chain_path : (p q : ℕ) → Chain n T p q → (x y u v : ℕ) → Contains n T p n x y → Contains n T q n u v → Path n (pixel n T) x y u v
  chain_path p q (end w) x y u v c d = within p w x y u v c d
  chain_path p q (link {q = k} w s more) x y u v c d =
      let t = s.touch in
      let X : ℕ = s.x + east_step s.side - 1 in
      let Y : ℕ = s.y + south_step s.side - 1 in
      path_joined n (pixel n T) x y s.x s.y u v (within p w x y s.x s.y c t.here)
      (step s.side s.straight (leaf_wet p s.x s.y w t.here) t.east t.south (chain_path k q more X Y u v t.beyond d))
