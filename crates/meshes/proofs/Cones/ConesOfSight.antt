-- The cones of sight along a walk over the triangles of a mesh: at its start, beyond a side, and on the edges of the ring.
use Rattle.std.proofs.Common.{◌≡◌, inl, inr, sym, ap, subst, ◌∙◌, List, [], ◌∷◌, ◌++◌, length, get_or, length-append, ℕ, ◌+◌, ◌-◌, ◌<◌}
use Rattle.std.proofs.Common.{◌↔◌, arith, refl, Some, None}
use Rattle.std.proofs.lemmas.List.{get_or_append_left, get_or_push}
use Rattle.std.specs.List.{range_with_len}
use Rattle.std.specs.Prelude.{Option}
use Rattle.integer_algebra.proofs.SignSteps.{negative_not_zero, zero_not_negative, zero_not_positive}
use Rattle.plane.proofs.Points.{whole_is_point}
use Rattle.plane.proofs.Turns.{determinant_same_first}
use Rattle.plane.specs.Prelude.{IsPoint, On, Point, Triple, whole}
use Rattle.rings.proofs.Vertices.{vertex_mod}
use Rattle.rings.specs.Prelude.{Sees, vertex}
use Rattle.rings.specs.Visible.{IsPart, IsUnseen}
use Rattle.meshes.proofs.Cones.BeyondSides.{end_cone, side_cone, window_cone}
use Rattle.meshes.proofs.Cones.Held.{held}
use Rattle.meshes.proofs.Cones.NarrowedViews.{side_view}
use Rattle.meshes.proofs.Cones.PartEnds.{none_seen, part_seen}
use Rattle.meshes.proofs.Cones.SideReach.{IsBeyondSide, end_below, is_beyond_side, sees_one_end}
use Rattle.meshes.proofs.Cones.SideViews.{SideView, hidden, one_end, through_window, whole_side}
use Rattle.meshes.proofs.Parts.{side_in, paved}
use Rattle.meshes.proofs.Sides.{edge_of_one}
use Rattle.meshes.proofs.Sight.{sees_in_triangle, shared_from}
use Rattle.meshes.specs.Cone.{Cone, IsConeOf, IsPartEnd, narrowed}
use Rattle.meshes.specs.Prelude.{Fits, HasSide, HasSideBetween, IsInTri, IsSideOfOne, IsWalkBetween, tri_at}
use Rattle.meshes.specs.declared.tri.Tri.{Tri}
use Rattle.meshes.specs.Laws.{walk_tri}

-- the cone in a triangle beyond a side, by the view of the side
cone_by_view : (corners : List Point) (tris : List Tri) (l : ℕ) (q a b : Point) → IsBeyondSide corners (tri_at tris l) q a b
    → (sight : Option Cone) → SideView corners q a b sight → IsConeOf corners tris q l sight
cone_by_view corners tris l q a b beyond sight (hidden e unseen) =
    subst (IsConeOf corners tris q l) (sym e) (λ x at_x in_x sees.
    let over = (beyond.seen_over x at_x in_x).0 sees in
    unseen over.point over.rational over.on_side over.seen)
cone_by_view corners tris l q a b beyond sight (through_window cone e w) =
    subst (IsConeOf corners tris q l) (sym e) (window_cone corners (tri_at tris l) q a b beyond cone w)
cone_by_view corners tris l q a b beyond sight (whole_side e flat seen) =
    subst (IsConeOf corners tris q l) (sym e) (side_cone corners (tri_at tris l) q a b beyond flat seen)
cone_by_view corners tris l q a b beyond sight (one_end c e which right seen) =
    subst (IsConeOf corners tris q l) (sym e) (end_cone corners (tri_at tris l) q a b beyond right c which seen)

module _ (corners : List Point) (tris : List Tri) (fits : Fits corners tris) (q : Point) (home : ℕ)
    (in_home : IsInTri corners (tri_at tris home) (whole q)) where
  -- q sees all of a triangle that it is in
  pub home_cone : home < length tris → IsConeOf corners tris q home (Some (record { left = q; right = q }))
  home_cone below =
      let Q = whole q in
      record {
        seen = λ x at_x in_x. (
          λ sees. held (zero_not_positive (determinant_same_first Q x)) (zero_not_negative (determinant_same_first Q x)),
          λ holds. sees_in_triangle corners tris fits home below Q x (whole_is_point q) at_x in_home in_x,
        );
        in_order = λ right. negative_not_zero right (determinant_same_first Q Q);
        place = inl in_home;
      }

  module _ (k : ℕ) (walk : List ℕ) (there : IsWalkBetween tris home k walk) (i j : ℕ) (sight : Option Cone)
      (cone : IsConeOf corners tris q k sight) where
    -- the view of a side by which the walk did not come
    view_out : HasSide (tri_at tris k) i j → ((m : ℕ) → m + 1 < length walk → ¬ HasSideBetween (walk_tri tris walk m) i j)
        → SideView corners q (vertex corners j) (vertex corners i) (narrowed q sight (vertex corners j) (vertex corners i))
    view_out has outer =
        let k_below = end_below corners tris fits q home in_home k walk there in
        side_view corners tris k q (vertex corners j) (vertex corners i) (record {
          side = side_in corners (range_with_len 0 (length corners)) tris (paved fits) k i j k_below (inl has);
          sees = sees_in_triangle corners tris fits k k_below;
          only = sees_one_end corners tris fits q home in_home k walk there i j has outer;
        }) sight cone

    -- ---- beyond a side

    module _ (l : ℕ) (on : IsWalkBetween tris home l (walk ++ l ∷ [])) (has : HasSide (tri_at tris k) i j)
        (has_beyond : HasSide (tri_at tris l) j i) where
      -- the walk came by another side
      outer_side : (m : ℕ) → m + 1 < length walk → ¬ HasSideBetween (walk_tri tris walk m) i j
      outer_side m before between =
          let some = there.is_walk.some in
          let long = length-append walk (l ∷ []) in
          let front = λ (n : ℕ) (h : n < length walk). get_or_append_left walk (l ∷ []) 0 n h in
          let back : get_or (walk ++ l ∷ []) (length walk) 0 ≡ l = get_or_push walk l 0 (length walk) refl in
          let l_below = end_below corners tris fits q home in_home l (walk ++ l ∷ []) on in
          let k_below = end_below corners tris fits q home in_home k walk there in
          let not_on = λ (n : ℕ) (h : n < length walk) (same : get_or walk n 0 ≡ l).
          on.is_walk.once n (length walk) h (omega (arith, long)) (front n h ∙ same ∙ sym back) in
          let differ : ¬ (k ≡ l) = λ same. not_on (length walk - 1) (omega (arith, some)) (there.last ∙ same) in
          let all = range_with_len 0 (length corners) in
          let two = shared_from corners all tris fits i j k l k_below l_below differ has (inr has_beyond) in
          elim (two.only (get_or walk m 0) (there.is_walk.in_list m (omega arith)) between) [
            | inl same ↦ there.is_walk.once m (length walk - 1) (omega arith) (omega (arith, some)) (same ∙ sym there.last)
            | inr same ↦ not_on m (omega arith) same
          ]

      -- q sees into the next triangle through the narrowed cone
      pub cone_beyond : IsConeOf corners tris q l (narrowed q sight (vertex corners j) (vertex corners i))
      cone_beyond =
          cone_by_view corners tris l q (vertex corners j) (vertex corners i)
          (is_beyond_side corners tris fits q home in_home k l walk there on i j has has_beyond)
          (narrowed q sight (vertex corners j) (vertex corners i)) (view_out has outer_side)

    -- ---- on an edge of the ring

    module _ (one : IsSideOfOne tris i j k) where
      -- which goes to the next vertex
      next_vertex : vertex corners j ≡ vertex corners (i + 1)
      next_vertex = ap (vertex corners) (edge_of_one corners tris fits i j k one).1 ∙ vertex_mod corners (i + 1)

      -- the view of the edge
      edge_view : SideView corners q (vertex corners j) (vertex corners i) (narrowed q sight (vertex corners j) (vertex corners i))
      edge_view = view_out one.has (λ m before between.
          there.is_walk.once m (length walk - 1) (omega arith) (omega (arith, there.is_walk.some))
          (one.only (get_or walk m 0) (there.is_walk.in_list m (omega arith)) between ∙ sym there.last))

      -- where the narrowed cone is none, q sees nothing of the edge,
      pub edge_unseen : narrowed q sight (vertex corners j) (vertex corners i) ≡ None → IsUnseen corners (whole q) i
      edge_unseen none =
          subst (λ p. (x : Triple) → IsPoint x → On x (whole (vertex corners i)) (whole p) → ¬ Sees corners (whole q) x) next_vertex
          (none_seen corners q (vertex corners j) (vertex corners i) _ edge_view none)

      -- and else it sees the part between the ends that the cone tells
      pub edge_part : (c : Cone) → narrowed q sight (vertex corners j) (vertex corners i) ≡ Some c → (first last : Triple)
          → IsPartEnd q c.right (vertex corners i) (vertex corners j) (vertex corners i) first
          → IsPartEnd q c.left (vertex corners i) (vertex corners j) (vertex corners j) last → IsPart corners (whole q) i first last
      edge_part c some first last is_first is_last =
          let part = part_seen corners q (vertex corners j) (vertex corners i) _ edge_view c some first last is_first is_last in
          record {
            first_rational = is_first.rational;
            last_rational = is_last.rational;
            in_order = part.in_order;
            seen = subst
                (λ p. (x : Triple) → IsPoint x → (On x (whole (vertex corners i)) (whole p) × Sees corners (whole q) x) ↔ On x first last)
                next_vertex part.seen;
          }
