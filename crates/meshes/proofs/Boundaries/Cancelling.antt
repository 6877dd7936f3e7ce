-- The sides of triangles that fit a piece cancel to its boundary.
use Rattle.std.proofs.Common.{◌≡◌, inl, inr, refl, sym, ap, subst, ◌∙◌, ℕ, zero, suc, ◌<◌, ℤ, pos, ◌+ℤ◌, List, [], ◌∷◌, ◌++◌, length, arith}
use Rattle.std.proofs.lemmas.Int.{ints}
use Rattle.plane.specs.Point.{Point}
use Rattle.rings.proofs.Vertices.{number_of}
use Rattle.rings.specs.Prelude.{Has, IsSimple}
use Rattle.meshes.proofs.Boundaries.Rounds.{first_after, last_before, sum_rotated, sum_with_vertex}
use Rattle.meshes.proofs.Boundaries.Sums.{sum_of_tri}
use Rattle.meshes.proofs.Ears.{ear_law, is_rest}
use Rattle.meshes.proofs.Joins.{edge_rotated, fits_rotated}
use Rattle.meshes.proofs.Sides.{edge_of_step, one_number, step_of_edge}
use Rattle.meshes.proofs.TreeLeaves.{by_turns, leaves_law}
use Rattle.meshes.specs.Boundary.{IsOdd, SidesCancelLaw, sum_round, sum_sides}
use Rattle.meshes.specs.Prelude.{FitsPiece, HasSide, IsPieceEdge, piece_points, tri_at}
use Rattle.meshes.specs.declared.tri.Tri.{Tri}
use Rattle.meshes.specs.Laws.{IsEarOff, without}

-- ---- numbers

-- sums in another order
exchanged : (a b s r : ℤ) → s ≡ b +ℤ r → a +ℤ s ≡ b +ℤ (a +ℤ r)
exchanged a b s r e = omega (arith, ints)

turned_sum : (a b c s : ℤ) → s ≡ a +ℤ (b +ℤ c) → s ≡ b +ℤ (c +ℤ a)
turned_sum a b c s e = omega (arith, ints)

nothing_more : (a b c : ℤ) → (a +ℤ (b +ℤ c)) +ℤ pos 0 ≡ a +ℤ (b +ℤ (c +ℤ pos 0))
nothing_more a b c = omega (arith, ints)

-- ---- one triangle and the others

module _ (φ : ℕ → ℕ → ℤ) where
  -- a sum over triangles is that of one of them and that of the others
  sum_without : (k : ℕ) (tris : List Tri) → k < length tris → sum_sides φ tris ≡ sum_of_tri φ (tri_at tris k) +ℤ sum_sides φ (without k tris)
  sum_without k [] below = absurd (omega (arith, below))
  sum_without zero (t ∷ ts) below = refl
  sum_without (suc k) (t ∷ ts) below =
      exchanged (sum_of_tri φ t) (sum_of_tri φ (tri_at ts k)) (sum_sides φ ts) (sum_sides φ (without k ts))
      (sum_without k ts (omega (arith, below)))

  module _ (corners : List Point) (piece : List ℕ) (tris : List Tri) (fits : FitsPiece corners piece tris) where
    -- the sum round a triangle, from any of its corners on
    sum_of_corners : (k : ℕ) → k < length tris → (x y z : ℕ) → HasSide (tri_at tris k) x y → HasSide (tri_at tris k) y z
        → sum_of_tri φ (tri_at tris k) ≡ φ x y +ℤ (φ y z +ℤ φ z x)
    sum_of_corners k below x y z first second =
        let t = tri_at tris k in
        by_turns corners t (fits.triangles k below).counterclockwise x y z first second
        (λ a b c. sum_of_tri φ t ≡ φ a b +ℤ (φ b c +ℤ φ c a)) (λ a b c e. turned_sum (φ a b) (φ b c) (φ c a) (sum_of_tri φ t) e) refl

-- ---- one triangle

-- a piece that one triangle fits has three vertices
three_of : (piece : List ℕ) → length piece ≡ 3 → (x : ℕ) × (y : ℕ) × (z : ℕ) × (piece ≡ x ∷ y ∷ z ∷ [])
three_of [] e = absurd (omega (arith, e))
three_of (x ∷ []) e = absurd (omega (arith, e))
three_of (x ∷ y ∷ []) e = absurd (omega (arith, e))
three_of (x ∷ y ∷ z ∷ []) e = (x, y, z, refl)
three_of (x ∷ y ∷ z ∷ w ∷ ws) e = absurd (omega (arith, e))

module _ (φ : ℕ → ℕ → ℤ) (corners : List Point) (t : Tri) where
  -- two of its edges are sides of the triangle
  side_of : (piece : List ℕ) → FitsPiece corners piece (t ∷ []) → (i j : ℕ) → IsPieceEdge piece i j → HasSide t i j
  side_of piece fits i j e =
      let (k, one) = fits.edges i j e in
      let first : k ≡ 0 = omega (arith, one.in_list) in
      subst (λ n. HasSide (tri_at (t ∷ []) n) i j) first one.has

  -- so their sums are one
  cancel_one : (piece : List ℕ) → FitsPiece corners piece (t ∷ []) → sum_sides φ (t ∷ []) ≡ sum_round φ piece
  cancel_one piece fits =
      let (x, y, z, is) = three_of piece (omega (arith, fits.count)) in
      let named = subst (λ zs. FitsPiece corners zs (t ∷ [])) is fits in
      let first = side_of (x ∷ y ∷ z ∷ []) named x y (edge_of_step x (y ∷ z ∷ []) x y (inl (refl, refl))) in
      let second = side_of (x ∷ y ∷ z ∷ []) named y z (edge_of_step x (y ∷ z ∷ []) y z (inr (inl (refl, refl)))) in
      ap (λ s. s +ℤ pos 0) (sum_of_corners φ corners (x ∷ y ∷ z ∷ []) (t ∷ []) named 0 (omega arith) x y z first second)
      ∙ nothing_more (φ x y) (φ y z) (φ z x) ∙ ap (sum_round φ) (sym is)

-- ---- an ear and the others

module _ (φ : ℕ → ℕ → ℤ) (odd : IsOdd φ) (corners : List Point) where
  -- a vertex of a simple piece that is read from it on is not among the others
  tip_new : (v : ℕ) (zs : List ℕ) → IsSimple (piece_points corners (v ∷ zs)) → ¬ Has zs v
  tip_new v zs simple has =
      let (r, within, is) = number_of zs v has in
      omega (arith, one_number corners (v ∷ zs) simple (suc r) 0 (omega (arith, within)) (omega arith) (is 0))

  -- a piece that is read from the tip of an ear on, and the piece without the tip
  sum_with_tip : (u v w : ℕ) (zs : List ℕ) → 1 < length (v ∷ zs) → IsSimple (piece_points corners (v ∷ zs)) → IsPieceEdge (v ∷ zs) u v
      → IsPieceEdge (v ∷ zs) v w → sum_round φ (v ∷ zs) ≡ (φ u v +ℤ (φ v w +ℤ φ w u)) +ℤ sum_round φ zs
  sum_with_tip u v w [] more simple first second = absurd (omega (arith, more))
  sum_with_tip u v w (z ∷ ms) more simple first second =
      let new = tip_new v (z ∷ ms) simple in
      let last = last_before v z ms new u (step_of_edge v (z ∷ ms) u v first) in
      let next = first_after v z ms new w (step_of_edge v (z ∷ ms) v w second) in
      sum_with_vertex φ odd v z ms
      ∙ (λ i. (φ (last i) v +ℤ (φ v (next i) +ℤ φ (next i) (last i))) +ℤ sum_round φ (z ∷ ms))

  -- the sums of the ear and the others, where theirs is that of the rest
  cancel_ear : (piece : List ℕ) (tris : List Tri) → FitsPiece corners piece tris → (k l : ℕ) → k < length tris → (o : IsEarOff corners piece tris k l)
      → sum_sides φ (without k tris) ≡ sum_round φ (o.before ++ o.after) → sum_sides φ tris ≡ sum_round φ piece
  cancel_ear piece tris fits k l below o rest =
      let named = subst (λ zs. FitsPiece corners zs tris) o.tip fits in
      let turned = fits_rotated corners o.before (o.v ∷ o.after) tris named in
      let first = edge_rotated o.before (o.v ∷ o.after) o.u o.v (subst (λ zs. IsPieceEdge zs o.u o.v) o.tip o.ear.first_edge) in
      let second = edge_rotated o.before (o.v ∷ o.after) o.v o.w (subst (λ zs. IsPieceEdge zs o.v o.w) o.tip o.ear.second_edge) in
      let zs = o.after ++ o.before in
      let more : 1 < length (o.v ∷ zs) = omega (arith, turned.count, below) in
      let part = φ o.u o.v +ℤ (φ o.v o.w +ℤ φ o.w o.u) in
      let whole_sum : sum_round φ piece ≡ part +ℤ sum_round φ zs =
      ap (sum_round φ) o.tip ∙ sum_rotated φ o.before (o.v ∷ o.after) ∙ sum_with_tip o.u o.v o.w zs more turned.simple first second in
      let ear_sum = sum_of_corners φ corners piece tris fits k below o.u o.v o.w o.ear.first_side o.ear.second_side in
      let others : sum_sides φ (without k tris) ≡ sum_round φ zs = rest ∙ sum_rotated φ o.before o.after in
      sum_without φ k tris below ∙ (λ i. ear_sum i +ℤ others i) ∙ sym whole_sum

  -- ---- all triangles

  -- by the number of triangles
  cancel : (n : ℕ) (piece : List ℕ) (tris : List Tri) → length tris ≡ n → FitsPiece corners piece tris → sum_sides φ tris ≡ sum_round φ piece
  cancel n [] tris e fits = absurd (omega (arith, fits.count))
  cancel n (v ∷ vs) [] e fits =
      let one = fits.edges v _ (record { place = 0; in_piece = omega arith; from = refl; to = refl }) in
      absurd (omega (arith, one.1.in_list))
  cancel n (v ∷ vs) (t ∷ []) e fits = cancel_one φ corners t (v ∷ vs) fits
  cancel zero (v ∷ vs) (t ∷ s ∷ ts) e fits = absurd (omega (arith, e))
  cancel (suc n) (v ∷ vs) (t ∷ s ∷ ts) e fits =
      let tris = t ∷ s ∷ ts in
      let (k, l, differ, leaf, other) = leaves_law tris fits.tree (omega arith) in
      let ear = ear_law corners (v ∷ vs) tris fits k leaf in
      let count = (is_rest k tris leaf.in_list).count in
      cancel_ear (v ∷ vs) tris fits k leaf.neighbour leaf.in_list ear
      (cancel n (ear.before ++ ear.after) (without k tris) (omega (arith, count, e)) ear.rest)

pub sides_cancel : SidesCancelLaw
sides_cancel corners piece tris fits φ odd = cancel φ odd corners (length tris) piece tris refl fits
