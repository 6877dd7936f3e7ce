-- A vertex of the ring strictly between two points of a walk that see each other is an end of a side that the walk crosses between them.
use Rattle.std.proofs.Common.{◌≡◌, ◌⊎◌, inl, inr, true, sym, subst, ◌∙◌, ℕ, zero, suc, ◌+◌, ◌<◌, ◌≤◌, ℤ, pos, ◌+ℤ◌, ◌*ℤ◌, ◌<ℤ◌, ◌≤ℤ◌, List, length, arith}
use Rattle.std.proofs.lemmas.Int.{ints}
use Rattle.std.specs.List.{range_with_len}
use Rattle.integer_algebra.proofs.SignSteps.{mean_last_positive}
use Rattle.integer_algebra.proofs.Signs.{lt_or_le}
use Rattle.plane.proofs.Lists.{in_range}
use Rattle.plane.proofs.Points.{same_sym, whole_is_point}
use Rattle.plane.proofs.Segments.{later_between, on_first_end, on_nested, on_reversed, on_same_point, on_total, within_from}
use Rattle.plane.proofs.Turns.{determinant_along, determinant_same_ends, determinant_same_last, determinant_shift}
use Rattle.plane.specs.Prelude.{determinant, IsPoint, IsSame, On, Point, Triple, whole}
use Rattle.rings.proofs.Simple.{same_or_not}
use Rattle.rings.specs.Prelude.{Sees, vertex}
use Rattle.ring_laws.proofs.Triangles.{between_in_triangle}
use Rattle.meshes.proofs.Parts.{opposite}
use Rattle.meshes.specs.Prelude.{Fits, HasCorner, HasSideBetween, IsInTri, IsWalk, tri_at}
use Rattle.meshes.specs.declared.tri.Tri.{Tri}
use Rattle.meshes.specs.Laws.{CrossesSide, walk_tri}
use Rattle.funnels.proofs.Bends.{corner_turns, in_angle, level_is_vertex}
use Rattle.funnels.proofs.Corners.{at_corner, corner_of, end_of_its_side}
use Rattle.funnels.proofs.DeadEnds.{meets_on_part}

-- where a mean of numbers that are not negative is 0, one that weighs is 0
none_weighs : (k l m z f g : ℤ) → pos 0 <ℤ k → pos 0 ≤ℤ l → pos 0 <ℤ m → k *ℤ z ≡ l *ℤ f +ℤ m *ℤ g → pos 0 ≤ℤ f → pos 0 ≤ℤ g → z ≡ pos 0
    → g ≡ pos 0
none_weighs k l m z f g hk hl hm e hf hg none =
    elim (lt_or_le (pos 0) g) [
      | inl some ↦ let h = mean_last_positive k l m z f g hk hl hm e hf some in absurd (omega (arith, ints, h, none))
      | inr le ↦ omega (arith, ints, le, hg)
    ]

module _ (corners : List Point) (tris : List Tri) (fits : Fits corners tris) where
  -- ---- one triangle

  module _ (k : ℕ) (within : k < length tris) where
    -- what is on a side of a triangle is in it
    pub side_in_triangle : (i j : ℕ) → HasSideBetween (tri_at tris k) i j → (z : Triple) → IsPoint z
        → On z (whole (vertex corners i)) (whole (vertex corners j)) → IsInTri corners (tri_at tris k) z
    side_in_triangle i j (inl s) z at_z on = (opposite corners (tri_at tris k) (fits.triangles k within).counterclockwise i j s).1.side z at_z on
    side_in_triangle i j (inr s) z at_z on =
        (opposite corners (tri_at tris k) (fits.triangles k within).counterclockwise j i s).1.side z at_z
        (on_reversed z (whole (vertex corners i)) (whole (vertex corners j)) on)

    -- a corner is not strictly between two points of the triangle
    corner_not_between : (x : ℕ) → HasCorner (tri_at tris k) x → (p q : Triple) → IsPoint p → IsPoint q → IsInTri corners (tri_at tris k) p
        → IsInTri corners (tri_at tris k) q → On (whole (vertex corners x)) p q → ¬ IsSame (whole (vertex corners x)) p
        → ¬ IsSame (whole (vertex corners x)) q → ⊥
    corner_not_between x corner p q at_p at_q in_p in_q on not_p not_q =
        let at = at_corner (tri_at tris k) x corner in
        let V = whole (vertex corners x) in
        let A = whole (vertex corners at.after) in
        let B = whole (vertex corners at.before) in
        let w = within_from V p q (whole_is_point (vertex corners x)) at_p at_q on not_p not_q in
        let c = w.combination in
        let angle_p = in_angle corners tris fits k within true at.before x at.after at.sides p in_p in
        let angle_q = in_angle corners tris fits k within true at.before x at.after at.sides q in_q in
        let first : determinant V A q ≡ pos 0 =
        none_weighs c.k c.l c.m (determinant V A V) (determinant V A p) (determinant V A q) c.k_positive c.l_nonnegative w.last_weighs
        (determinant_along V p q c V A) angle_p.from_after angle_q.from_after (determinant_same_ends V A) in
        let back : (y : Triple) → determinant B V y ≡ determinant V y B = λ y. sym (determinant_shift B V y) in
        let last : determinant B V q ≡ pos 0 =
        none_weighs c.k c.l c.m (determinant B V V) (determinant B V p) (determinant B V q) c.k_positive c.l_nonnegative w.last_weighs
        (determinant_along V p q c B V) (rw (back p) angle_p.to_before) (rw (back q) angle_q.to_before) (determinant_same_last B V) in
        not_q (same_sym (level_is_vertex true (vertex corners x) A B q (corner_turns corners tris fits k within true at.before x at.after at.sides)
        first (sym (back q) ∙ last)))

    -- nor is a vertex
    vertex_not_between : (x : ℕ) → x < length corners → (p q : Triple) → IsPoint p → IsPoint q → IsInTri corners (tri_at tris k) p
        → IsInTri corners (tri_at tris k) q → On (whole (vertex corners x)) p q → ¬ IsSame (whole (vertex corners x)) p
        → ¬ IsSame (whole (vertex corners x)) q → ⊥
    vertex_not_between x is_vertex p q at_p at_q in_p in_q on not_p not_q =
        let t = tri_at tris k in
        let inside : IsInTri corners t (whole (vertex corners x)) =
        between_in_triangle (vertex corners t.a) (vertex corners t.b) (vertex corners t.c) (whole (vertex corners x)) p q
        (whole_is_point (vertex corners x)) at_p at_q in_p in_q on in
        let corner = corner_of corners (range_with_len 0 (length corners)) tris fits k x within (in_range (length corners) x is_vertex) inside in
        corner_not_between x corner p q at_p at_q in_p in_q on not_p not_q

  -- ---- a walk

  module _ (walk : List ℕ) (w : IsWalk tris walk) (from to : ℕ → ℕ)
      (crosses : (m : ℕ) → m + 1 < length walk → CrossesSide tris walk m (from m) (to m)) where
    -- vertex x is an end of a side that the walk crosses from place k on and before place l
    pub record IsEndBetween (k l x : ℕ) : Type 0 where
      pub place : ℕ
      pub not_before : k ≤ place
      pub before : place < l
      pub is_end : (x ≡ from place) ⊎ (x ≡ to place)

    -- one before an earlier place is one before a later
    later_end : (k l x : ℕ) → IsEndBetween k l x → IsEndBetween k (suc l) x
    later_end k l x e = record { place = e.place; not_before = e.not_before; before = omega (arith, e.before); is_end = e.is_end }

    -- a vertex strictly between points of the walk that see each other is such an end
    pub end_between : (n k l : ℕ) → k + n ≡ l → l < length walk → (x : ℕ) → x < length corners → (p q : Triple) → IsPoint p → IsPoint q
        → IsInTri corners (walk_tri tris walk k) p → IsInTri corners (walk_tri tris walk l) q → Sees corners p q
        → On (whole (vertex corners x)) p q → ¬ IsSame (whole (vertex corners x)) p → ¬ IsSame (whole (vertex corners x)) q → IsEndBetween k l x
    end_between zero k l e below x is_vertex p q at_p at_q in_p in_q sees on not_p not_q =
        let same : k ≡ l = omega (arith, e) in
        absurd (vertex_not_between _ (w.in_list l below) x is_vertex p q at_p at_q
        (subst (λ n. IsInTri corners (walk_tri tris walk n) p) same in_p) in_q on not_p not_q)
    end_between (suc n) k zero e below x is_vertex p q at_p at_q in_p in_q sees on not_p not_q = absurd (omega (arith, e))
    end_between (suc n) k (suc l) e below x is_vertex p q at_p at_q in_p in_q sees on not_p not_q =
        let V = whole (vertex corners x) in
        let at_V = whole_is_point (vertex corners x) in
        let I = whole (vertex corners (from l)) in
        let J = whole (vertex corners (to l)) in
        let c = crosses l (omega (arith, below)) in
        let meet = meets_on_part walk k (suc l) (omega (arith, e)) below tris w corners fits l (from l) (to l) (omega (arith, e)) (omega arith) c
        p q at_p at_q in_p in_q sees in
        let z = meet.point in
        let at_z = meet.rational in
        let here : IsSame V z → IsEndBetween k (suc l) x = λ same. record {
          place = l;
          not_before = omega (arith, e);
          before = omega arith;
          is_end =
              let on_side : On V I J = on_same_point at_z (same_sym same) meet.on_second in
              elim c.of_this [
                | inl s ↦ end_of_its_side corners (range_with_len 0 (length corners)) tris fits _ (from l) (to l) x (w.in_list l (omega (arith, below)))
                    s (in_range (length corners) x is_vertex) on_side
                | inr s ↦ elim (end_of_its_side corners (range_with_len 0 (length corners)) tris fits _ (to l) (from l) x (w.in_list l (omega (arith, below)))
                    s (in_range (length corners) x is_vertex) (on_reversed V I J on_side)) [
                      | inl h ↦ inr h
                      | inr h ↦ inl h
                    ]
              ];
        } in
        elim (same_or_not V z) [
          | inl same ↦ here same
          | inr differ ↦ elim (on_total V z p q at_V at_z at_p at_q on meet.on_first) [
            | inl before ↦
                later_end k l x (end_between n k l (omega (arith, e)) (omega (arith, below)) x is_vertex p z at_p at_z in_p
                (side_in_triangle _ (w.in_list l (omega (arith, below))) (from l) (to l) c.of_this z at_z meet.on_second)
                (λ y at_y on_y. sees y at_y (on_nested y p z p q at_y at_p at_z at_p at_q (on_first_end p q) meet.on_first on_y))
                before not_p differ)
            | inr after ↦
                absurd (vertex_not_between _ (w.in_list (suc l) below) x is_vertex z q at_z at_q
                (side_in_triangle _ (w.in_list (suc l) below) (from l) (to l)
                (subst (λ n. HasSideBetween (walk_tri tris walk n) (from l) (to l)) (omega arith) c.of_next) z at_z meet.on_second)
                in_q (later_between z p V q at_z at_p at_V at_q after on) differ not_q)
          ]
        ]
