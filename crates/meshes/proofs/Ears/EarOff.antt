-- The triangles other than an ear fit the piece without its tip.
use Rattle.std.proofs.Common.{◌≡◌, ◌⊎◌, inl, inr, sym, ap, subst, ◌∙◌, ℕ, ◌<◌, List, [], ◌∷◌, length, arith}
use Rattle.std.specs.List.{Contains}
use Rattle.std.specs.Prelude.{◌↔◌}
use Rattle.std.proofs.lemmas.Bool.{cases_eq}
use Rattle.plane.specs.Point.{IsPoint, Point, Triple, whole}
use Rattle.rings.specs.Prelude.{IsIn, vertex}
use Rattle.ring_laws.proofs.Triangles.{in_of_in_triangle, first_in_triangle, last_in_triangle, middle_in_triangle}
use Rattle.meshes.proofs.Ears.EarCut.{ear_cut, ear_left, others_lie, rest_ring, tip_off}
use Rattle.meshes.proofs.Ears.LeafTaken.{IsRest, rest_of_one, rest_of_shared, rest_of_two, rest_tree, same_new}
use Rattle.meshes.proofs.Joins.{contains_cases, contains_first, contains_rest, part_of_edge, second_diagonal, second_part_cases}
use Rattle.meshes.proofs.Parts.{side_in, inside_one, paved}
use Rattle.meshes.proofs.Sides.{step_of_edge}
use Rattle.meshes.proofs.TreeLeaves.{closed_of_sides, side_is_one}
use Rattle.meshes.specs.Prelude.{FitsPiece, HasSide, IsInTri, IsPieceEdge, IsSideOfOne, IsSideOfTwo, IsStrictlyInTri, IsTriOf}
use Rattle.meshes.specs.Prelude.{piece_points, tri_at}
use Rattle.meshes.specs.declared.tri.Tri.{Tri}
use Rattle.meshes.specs.Laws.{IsEar, IsLeaf}

module _ (corners : List Point) (u v w : ℕ) (ms : List ℕ) (tris : List Tri) (fits : FitsPiece corners (u ∷ v ∷ w ∷ ms) tris)
    (k l : ℕ) (ear : IsEar (u ∷ v ∷ w ∷ ms) tris k l u v w) (rest : List Tri) (f g : ℕ → ℕ) (r : IsRest tris rest k f g) where
  -- the neighbour is another triangle
  other : ¬ (l ≡ k)
  other e = ear.base.different (sym e)

  -- the ear has its sides alone but for the base
  has_alone : (i j n : ℕ) → IsPieceEdge (u ∷ v ∷ w ∷ ms) i j → HasSide (tri_at tris k) i j → n < length tris
      → HasSide (tri_at tris n) i j ⊎ HasSide (tri_at tris n) j i → n ≡ k
  has_alone i j n edge has within side =
      let (m, one) = fits.edges i j edge in one.only n within side ∙ sym (one.only k ear.base.in_list (inl has))

  -- ---- corners

  -- a vertex of the piece other than the tip is one of the rest
  in_rest : (i : ℕ) → Contains (u ∷ v ∷ w ∷ ms) i → ¬ (i ≡ v) → Contains (u ∷ w ∷ ms) i
  in_rest i h not = elim (contains_cases u (v ∷ w ∷ ms) i h) [
    | inl e ↦ subst (Contains (u ∷ w ∷ ms)) e (contains_first u (w ∷ ms))
    | inr h ↦ elim (contains_cases v (w ∷ ms) i h) [
      | inl e ↦ absurd (not (sym e))
      | inr h ↦ contains_rest u (w ∷ ms) i h
    ]
  ]

  -- so the other triangles have their corners in the rest
  tri_of_rest : (n : ℕ) → n < length tris → ¬ (n ≡ k) → IsTriOf corners (u ∷ w ∷ ms) (tri_at tris n)
  tri_of_rest n within not =
      let t = tri_at tris n in
      let is = fits.triangles n within in
      let A = vertex corners t.a in
      let B = vertex corners t.b in
      let C = vertex corners t.c in
      let off : (i : ℕ) → IsInTri corners t (whole (vertex corners i)) → ¬ (i ≡ v) =
      λ i h e. tip_off corners u v w ms tris fits k l ear n within not (subst (λ x. IsInTri corners t (whole (vertex corners x))) e h) in
      record {
        has_a = in_rest t.a is.has_a (off t.a (first_in_triangle A B C is.counterclockwise));
        has_b = in_rest t.b is.has_b (off t.b (middle_in_triangle A B C is.counterclockwise));
        has_c = in_rest t.c is.has_c (off t.c (last_in_triangle A B C is.counterclockwise));
        counterclockwise = is.counterclockwise;
      }

  -- ---- edges

  -- an edge of the piece that is a side of the ear goes to or from the tip
  at_tip : (i j : ℕ) → IsPieceEdge (u ∷ v ∷ w ∷ ms) i j → HasSide (tri_at tris k) i j → (i ≡ v) ⊎ (j ≡ v)
  at_tip i j edge has =
      elim (side_is_one corners (tri_at tris k) (fits.triangles k ear.base.in_list).counterclockwise u v w ear.first_side ear.second_side i j has) [
        | inl e ↦ inr e.1
        | inr e ↦ elim e [
          | inl e ↦ inl e.0
          | inr e ↦
              let back = subst (λ x. HasSide (tri_at tris l) j x) (sym e.0) (subst (λ x. HasSide (tri_at tris l) x w) (sym e.1) ear.base.other_has) in
              absurd (other (has_alone i j l edge has ear.base.other_in_list (inr back)))
        ]
      ]

  -- an edge of the rest is a side of one of the other triangles
  edges_of_rest : ((i j : ℕ) → IsPieceEdge (u ∷ w ∷ ms) i j → (¬ (i ≡ v)) × (¬ (j ≡ v)))
      → (i j : ℕ) → IsPieceEdge (u ∷ w ∷ ms) i j → (n : ℕ) × IsSideOfOne rest i j n
  edges_of_rest ends i j edge = elim (second_part_cases u (v ∷ []) w ms i j edge) [
    | inr e ↦
        let one = rest_of_shared tris rest k f g r w u l ear.base in
        (g l, subst (λ x. IsSideOfOne rest x j (g l)) (sym e.0) (subst (λ y. IsSideOfOne rest u y (g l)) (sym e.1) one))
    | inl old ↦
        let (n, one) = fits.edges i j old in
        let not : ¬ (n ≡ k) = λ e. elim (at_tip i j old (subst (λ x. HasSide (tri_at tris x) i j) e one.has)) [
          | inl tip ↦ (ends i j edge).0 tip
          | inr tip ↦ (ends i j edge).1 tip
        ] in
        (g n, rest_of_one tris rest k f g r i j n not one)
  ]

  -- an edge of the ear's part is a side of the ear
  side_of_ear : (i j : ℕ) → IsPieceEdge (u ∷ v ∷ w ∷ []) i j → HasSide (tri_at tris k) i j
  side_of_ear i j e = elim (step_of_edge u (v ∷ w ∷ []) i j e) [
    | inl s ↦ named s ear.first_side
    | inr s ↦ elim s [ inl s ↦ named s ear.second_side | inr s ↦ named s ear.base.has ]
  ]
    where
      named : {x y : ℕ} → (x ≡ i) × (y ≡ j) → HasSide (tri_at tris k) x y → HasSide (tri_at tris k) i j
      named {x} {y} s h = subst (λ a. HasSide (tri_at tris k) a j) s.0 (subst (λ b. HasSide (tri_at tris k) x b) s.1 h)

  -- a side of another triangle that is no edge of the rest is no edge of the piece,
  not_old : (i j n : ℕ) → n < length tris → ¬ (n ≡ k) → HasSide (tri_at tris n) i j → ¬ IsPieceEdge (u ∷ w ∷ ms) i j → ¬ IsPieceEdge (u ∷ v ∷ w ∷ ms) i j
  not_old i j n within not has inner old = elim (part_of_edge u (v ∷ []) w ms i j old) [
    | inl first ↦ not (has_alone i j n old (side_of_ear i j first) within (inl has))
    | inr second ↦ inner second
  ]

  -- and it is not shared with the ear
  not_with_ear : (i j n : ℕ) → n < length tris → ¬ (n ≡ k) → HasSide (tri_at tris n) i j → ¬ IsPieceEdge (u ∷ w ∷ ms) i j → ¬ HasSide (tri_at tris k) j i
  not_with_ear i j n within not has inner back =
      elim (side_is_one corners (tri_at tris k) (fits.triangles k ear.base.in_list).counterclockwise u v w ear.first_side ear.second_side j i back) [
        | inl e ↦ not (has_alone u v n ear.first_edge ear.first_side within (inr (named e.1 e.0 has)))
        | inr e ↦ elim e [
          | inl e ↦ not (has_alone v w n ear.second_edge ear.second_side within (inr (named e.1 e.0 has)))
          | inr e ↦ inner (subst (λ x. IsPieceEdge (u ∷ w ∷ ms) x j) (sym e.1) (subst (λ y. IsPieceEdge (u ∷ w ∷ ms) u y) (sym e.0) (second_diagonal u (v ∷ []) w ms)))
        ]
      ]
    where
      named : {x y : ℕ} → i ≡ x → j ≡ y → HasSide (tri_at tris n) i j → HasSide (tri_at tris n) x y
      named {x} {y} e f h = subst (λ a. HasSide (tri_at tris n) a y) e (subst (λ b. HasSide (tri_at tris n) i b) f h)

  -- so it is a side of two of the others
  inner_of_rest : (i j m : ℕ) → m < length rest → HasSide (tri_at rest m) i j → ¬ IsPieceEdge (u ∷ w ∷ ms) i j → (o : ℕ) × IsSideOfTwo rest i j m o
  inner_of_rest i j m within has inner =
      let n = f m in
      let in_list = r.old_in m within in
      let old_has = subst (λ t. HasSide t i j) (sym (r.same m within)) has in
      let (o, two) = fits.inner_sides i j n in_list old_has (not_old i j n in_list (r.old_not m) old_has inner) in
      let not : ¬ (o ≡ k) = λ e. not_with_ear i j n in_list (r.old_not m) old_has inner (subst (λ x. HasSide (tri_at tris x) j i) e two.other_has) in
      (g o, subst (λ x. IsSideOfTwo rest i j x (g o)) (r.back m) (rest_of_two tris rest k f g r i j n o (r.old_not m) not two))

  -- ---- points

  -- a point of the rest is in another triangle
  in_other : (p : Triple) → IsPoint p → IsIn (rest_ring corners u v w ms tris fits k l ear) p → (n : ℕ) × (n < length tris) × (¬ (n ≡ k)) × IsInTri corners (tri_at tris n) p
  in_other p at_p h =
      let cut = ear_cut corners u v w ms tris fits k l ear in
      let (n, within, t) = (fits.covers p at_p).0 ((cut.covers p at_p).1 (inr h)) in
      elim (cases_eq n k) [
        | inr not ↦ (n, within, not, t)
        | inl same ↦
            let U = vertex corners u in
            let V = vertex corners v in
            let W = vertex corners w in
            let in_ear = closed_of_sides corners (tri_at tris k) (fits.triangles k ear.base.in_list).counterclockwise u v w ear.first_side ear.second_side p
            (subst (λ x. IsInTri corners (tri_at tris x) p) same t) in
            let on = cut.common p at_p (in_of_in_triangle U V W (ear_left corners u v w ms tris fits k l ear) p at_p in_ear) h in
            (l, ear.base.other_in_list, other, side_in corners (u ∷ v ∷ w ∷ ms) tris (paved fits) l u w ear.base.other_in_list (inl ear.base.other_has) p at_p on)
      ]

  -- the triangles of the rest cover it
  covers_rest : (p : Triple) → IsPoint p → IsIn (piece_points corners (u ∷ w ∷ ms)) p ↔ ((m : ℕ) × (m < length rest) × IsInTri corners (tri_at rest m) p)
  covers_rest p at_p = (
    λ h.
        let (n, within, not, t) = in_other p at_p h in
        (g n, r.new_in n within not, subst (λ x. IsInTri corners x p) (sym (same_new tris rest k f g r n within not)) t),
    covered,
  )
    where
      covered : ((m : ℕ) × (m < length rest) × IsInTri corners (tri_at rest m) p) → IsIn (piece_points corners (u ∷ w ∷ ms)) p
      covered (m, within, t) =
          others_lie corners u v w ms tris fits k l ear (f m) (r.old_in m within) (r.old_not m) p at_p
          (subst (λ x. IsInTri corners x p) (sym (r.same m within)) t)

  -- and are apart
  apart_rest : (p : Triple) → IsPoint p → (m n : ℕ) → m < n → n < length rest
      → ¬ (IsStrictlyInTri corners (tri_at rest m) p × IsStrictlyInTri corners (tri_at rest n) p)
  apart_rest p at_p m n less within h =
      let in_m : m < length rest = omega arith in
      let differ : ¬ (f m ≡ f n) = λ e. let same : m ≡ n = sym (r.back m) ∙ ap g e ∙ r.back n in omega arith in
      inside_one corners (u ∷ v ∷ w ∷ ms) tris (paved fits) (f m) (f n) (r.old_in m in_m) (r.old_in n within) differ p at_p
      (subst (λ t. IsStrictlyInTri corners t p) (sym (r.same m in_m)) h.0) (subst (λ t. IsStrictlyInTri corners t p) (sym (r.same n within)) h.1)

  -- so they fit it
  pub fits_rest : IsLeaf tris k → ((i j : ℕ) → IsPieceEdge (u ∷ w ∷ ms) i j → (¬ (i ≡ v)) × (¬ (j ≡ v))) → FitsPiece corners (u ∷ w ∷ ms) rest
  fits_rest leaf ends = record {
    simple = (ear_cut corners u v w ms tris fits k l ear).second_simple;
    count = omega (arith, r.count, fits.count);
    triangles = λ m within. subst (IsTriOf corners (u ∷ w ∷ ms)) (r.same m within) (tri_of_rest (f m) (r.old_in m within) (r.old_not m));
    edges = edges_of_rest ends;
    inner_sides = inner_of_rest;
    covers = covers_rest;
    apart = apart_rest;
    tree = rest_tree tris rest k f g r leaf fits.tree;
  }
