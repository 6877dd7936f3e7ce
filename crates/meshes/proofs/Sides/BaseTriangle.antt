-- One triangle fits the piece of its three corners.
use Rattle.std.proofs.Common.{◌≡◌, inl, inr, refl, sym, subst, ◌∙◌, ℕ, zero, suc, ◌<◌, List, [], ◌∷◌, arith}
use Rattle.std.specs.Prelude.{◌↔◌}
use Rattle.integer_algebra.proofs.SignSteps.{positive_not_zero}
use Rattle.plane.proofs.Meetings.{meet_only_at_from}
use Rattle.plane.proofs.Turns.{determinant_same_ends, determinant_same_first, determinant_same_last, determinant_shift, determinant_shift_back}
use Rattle.plane.specs.Prelude.{IsLeft, IsPoint, IsStraight, Point, Triple, whole}
use Rattle.rings.specs.Prelude.{IsIn, IsSimple, vertex}
use Rattle.ring_laws.proofs.Triangles.{in_of_in_triangle, in_triangle_of_in}
use Rattle.meshes.proofs.Sides.PieceSteps.{edge_of_step, step_of_edge}
use Rattle.meshes.proofs.Walks.{IsPath, IsPlace, Touch, tree_of_paths}
use Rattle.meshes.specs.Prelude.{FitsPiece, HasSide, IsInTri, IsPieceEdge, IsSideOfOne, IsTree, IsTriOf, piece_points, tri_at}
use Rattle.meshes.specs.declared.tri.Tri.{Tri}

-- ---- three points that turn

module _ (a b c : Point) (left : IsLeft (whole a) (whole b) (whole c)) where
  -- they turn from each of them on,
  from_second : ¬ IsStraight (whole b) (whole c) (whole a)
  from_second e = positive_not_zero left (sym (determinant_shift (whole a) (whole b) (whole c)) ∙ e)

  from_third : ¬ IsStraight (whole c) (whole a) (whole b)
  from_third e = positive_not_zero left (sym (determinant_shift_back (whole a) (whole b) (whole c)) ∙ e)

  -- are different,
  first_two : ¬ (a ≡ b)
  first_two e = positive_not_zero left (subst (λ x. IsStraight (whole x) (whole b) (whole c)) (sym e) (determinant_same_first (whole b) (whole c)))

  last_two : ¬ (b ≡ c)
  last_two e = positive_not_zero left (subst (λ x. IsStraight (whole a) (whole x) (whole c)) (sym e) (determinant_same_last (whole a) (whole c)))

  outer_two : ¬ (c ≡ a)
  outer_two e = positive_not_zero left (subst (λ x. IsStraight (whole a) (whole b) (whole x)) (sym e) (determinant_same_ends (whole a) (whole b)))

  -- and make a simple ring
  triangle_simple : IsSimple (a ∷ b ∷ c ∷ [])
  triangle_simple zero (suc zero) h k (inl e) = first_two e
  triangle_simple zero (suc zero) h k (inr (inl e)) = last_two e
  triangle_simple zero (suc zero) h k (inr (inr s)) =
      s.not_between refl (meet_only_at_from a b c (inl (positive_not_zero left)) s.point s.rational s.on_first s.on_second)
  triangle_simple zero (suc (suc zero)) h k (inl e) = first_two e
  triangle_simple zero (suc (suc zero)) h k (inr (inl e)) = outer_two e
  triangle_simple zero (suc (suc zero)) h k (inr (inr s)) =
      s.not_round refl refl (meet_only_at_from c a b (inl from_third) s.point s.rational s.on_second s.on_first)
  triangle_simple (suc zero) (suc (suc zero)) h k (inl e) = last_two e
  triangle_simple (suc zero) (suc (suc zero)) h k (inr (inl e)) = outer_two e
  triangle_simple (suc zero) (suc (suc zero)) h k (inr (inr s)) =
      s.not_between refl (meet_only_at_from b c a (inl from_second) s.point s.rational s.on_first s.on_second)
  triangle_simple i zero h k clash = omega arith
  triangle_simple i (suc (suc (suc j))) h k clash = omega arith
  triangle_simple (suc i) (suc zero) h k clash = omega arith
  triangle_simple (suc (suc i)) (suc (suc zero)) h k clash = omega arith

-- ---- the tree of one triangle

module _ (t : Tri) where
  -- a path in it goes nowhere
  no_step : (a : ℕ) (bs : List ℕ) (c : ℕ) → a < 1 → IsPath (IsPlace (t ∷ [])) (Touch (t ∷ [])) a bs c → bs ≡ []
  no_step a [] c h p = refl
  no_step a (b ∷ bs) c h p = absurd (p.2.0 (omega (arith, p.0)))

  -- so one triangle is a tree
  single_tree : IsTree (t ∷ [])
  single_tree = tree_of_paths (t ∷ []) (λ a c h k. record { path = []; is_path = omega arith; only = λ other p. no_step a other c h p })

-- ---- the piece

module _ (corners : List Point) (i j k : ℕ) (left : IsLeft (whole (vertex corners i)) (whole (vertex corners j)) (whole (vertex corners k))) where
  -- the triangle
  abbrev the_tri : Tri
  the_tri = record { a = i; b = j; c = k }

  -- a side of it
  side_of_one : (x y : ℕ) → HasSide the_tri x y → IsSideOfOne (the_tri ∷ []) x y 0
  side_of_one x y s = record { in_list = omega arith; has = s; only = λ l h t. omega arith }

  -- is an edge of the piece
  edge_of_side : (x y l : ℕ) → l < 1 → HasSide (tri_at (the_tri ∷ []) l) x y → IsPieceEdge (i ∷ j ∷ k ∷ []) x y
  edge_of_side x y zero h s = edge_of_step i (j ∷ k ∷ []) x y s
  edge_of_side x y (suc l) h s = absurd (omega arith)

  -- its corners are those of the piece
  is_tri : (l : ℕ) → l < 1 → IsTriOf corners (i ∷ j ∷ k ∷ []) (tri_at (the_tri ∷ []) l)
  is_tri zero h = record {
    has_a = (0, omega arith, refl);
    has_b = (1, omega arith, refl);
    has_c = (2, omega arith, refl);
    counterclockwise = left;
  }
  is_tri (suc l) h = absurd (omega arith)

  -- its points are those in the piece
  single_covers : (p : Triple) → IsPoint p
      → IsIn (piece_points corners (i ∷ j ∷ k ∷ [])) p ↔ ((l : ℕ) × (l < 1) × IsInTri corners (tri_at (the_tri ∷ []) l) p)
  single_covers p at_p =
      (λ h. (0, omega arith, in_triangle_of_in (vertex corners i) (vertex corners j) (vertex corners k) left p at_p h), covered)
    where
      covered : ((l : ℕ) × (l < 1) × IsInTri corners (tri_at (the_tri ∷ []) l) p) → IsIn (piece_points corners (i ∷ j ∷ k ∷ [])) p
      covered (zero, h, t) = in_of_in_triangle (vertex corners i) (vertex corners j) (vertex corners k) left p at_p t
      covered (suc l, h, t) = absurd (omega arith)

  -- so it fits the piece
  pub fits_triangle : FitsPiece corners (i ∷ j ∷ k ∷ []) (record { a = i; b = j; c = k } ∷ [])
  fits_triangle = record {
    simple = triangle_simple (vertex corners i) (vertex corners j) (vertex corners k) left;
    count = refl;
    triangles = is_tri;
    edges = λ x y e. (0, side_of_one x y (step_of_edge i (j ∷ k ∷ []) x y e));
    inner_sides = λ x y l h s inner. absurd (inner (edge_of_side x y l h s));
    covers = single_covers;
    apart = λ p at_p l m order within h. omega arith;
    tree = single_tree the_tri;
  }
