-- Two chains that pass a side that a walk crosses, each ahead of the other, pass the side before it too; but they do not begin at one
-- point, so it can't be.
use Rattle.std.proofs.Common.{◌≡◌, inl, inr, sym, subst, ap, ◌∙◌, Bool, not, ℕ, zero, suc, ◌+◌, ◌<◌, List, length, get_or, pos, ◌<ℤ◌, arith}
use Rattle.std.specs.List.{range_with_len}
use Rattle.plane.proofs.Points.{whole_is_point}
use Rattle.plane.proofs.Segments.{on_first_end, on_reversed, on_nested}
use Rattle.plane.specs.Prelude.{IsPoint, Meet, On, Point, Triple, whole}
use Rattle.rings.specs.Prelude.{IsInner, point_at, Sees, vertex}
use Rattle.meshes.proofs.Parts.{side_in, paved}
use Rattle.meshes.specs.Prelude.{Fits, IsInTri, IsWalk}
use Rattle.meshes.specs.declared.tri.Tri.{Tri}
use Rattle.meshes.specs.Laws.{CrossesSide, walk_tri}
use Rattle.funnels.proofs.Bends.{not_ahead_of_itself}
use Rattle.funnels.proofs.DeadEnds.{HasSideOn, corner_at_side, crossed_back, crossed_before, crossed_shared, meets_on_part}
use Rattle.funnels.proofs.Passing.Advanced.{advanced, advanced_other}
use Rattle.funnels.proofs.Passing.BentWays.{head_ahead}
use Rattle.funnels.proofs.Passing.WalkedBack.{AreAt, ComeTo, IsAlong, IsBefore, after_bend, at_flipped, before_place}
use Rattle.funnels.proofs.Vertices.{shared_side_back}
use Rattle.funnels.specs.Corner.{HasCornerOn}
use Rattle.funnels.specs.Fanned.{turning}
use Rattle.funnels.specs.Passing.{ArePassing}

module _ (corners : List Point) (tris : List Tri) (fits : Fits corners tris) (walk : List ℕ) (w : IsWalk tris walk) where
  -- ---- the ways meet the side before

  module _ (chain : List Point) (along : IsAlong corners tris fits walk w chain) (a m n : ℕ) (e : m + 1 ≡ n) (next : a + 1 < length chain)
      (before : IsBefore corners tris fits walk w chain along a n) (within : n < length walk) (x : Triple) (at_x : IsPoint x)
      (on : On x (whole (point_at chain (a + 1))) (whole (point_at chain a))) (inside : IsInTri corners (walk_tri tris walk n) x) where
    -- the head sees each point of the way to it,
    sees_way : Sees corners (whole (point_at chain a)) x
    sees_way y at_y on_y =
        let P = whole (point_at chain (a + 1)) in
        let H = whole (point_at chain a) in
        along.is_bent.chain.sees a next y at_y
        (on_nested y H x H P at_y (whole_is_point (point_at chain a)) at_x (whole_is_point (point_at chain a)) (whole_is_point (point_at chain (a + 1)))
        (on_first_end H P) (on_reversed x P H on) on_y)

    -- so from a point of the next triangle on it meets the side that is crossed before
    pub way_meets : (i j : ℕ) → CrossesSide tris walk m i j → Meet (whole (point_at chain a)) x (whole (vertex corners i)) (whole (vertex corners j))
    way_meets i j c =
        let (k, order, first) = before_place corners tris fits walk w chain along a n m e (omega arith) before in
        meets_on_part walk k n (omega arith) within tris w corners fits m i j order (omega arith) c (whole (point_at chain a)) x
        (whole_is_point (point_at chain a)) at_x first inside sees_way

  -- ---- one triangle back

  module _ (side : Bool) (m n : ℕ) (e : m + 1 ≡ n) (c d : List Point) (along : IsAlong corners tris fits walk w c)
      (along_too : IsAlong corners tris fits walk w d) (s : AreAt corners tris fits walk w side n c d)
      (before : IsBefore corners tris fits walk w c along s.a n) (before_too : IsBefore corners tris fits walk w d along_too s.b n) where
    in_walk : n < length walk
    in_walk = omega (arith, s.crossed.has_next)

    -- the points where the two ways pass are in the triangle
    passed_in : (x : Triple) → IsPoint x → On x (whole (vertex corners s.far)) (whole (vertex corners s.own)) → IsInTri corners (walk_tri tris walk n) x
    passed_in x at_x on =
        side_in corners (range_with_len 0 (length corners)) tris (paved fits) (get_or walk n 0) s.far s.own (w.in_list n in_walk) s.crossed.of_this
        x at_x on

    first_meets : (i j : ℕ) → CrossesSide tris walk m i j → Meet (whole (point_at c s.a)) s.x (whole (vertex corners i)) (whole (vertex corners j))
    first_meets =
        way_meets c along s.a m n e s.next before in_walk s.x s.passing.one.rational s.passing.one.on_way
        (passed_in s.x s.passing.one.rational s.passing.one.on_side)

    second_meets : (i j : ℕ) → CrossesSide tris walk m i j → Meet (whole (point_at d s.b)) s.z (whole (vertex corners i)) (whole (vertex corners j))
    second_meets =
        way_meets d along_too s.b m n e s.next_too before_too in_walk s.z s.passing.other.rational s.passing.other.on_way
        (passed_in s.z s.passing.other.rational (on_reversed s.z (whole (vertex corners s.own)) (whole (vertex corners s.far)) s.passing.other.on_side))

    -- they pass the next side at other points
    abbrev IsNext : ℕ → ℕ → Triple → Triple → Type 0
    IsNext far own x z =
        ArePassing side corners far own (point_at c (s.a + 1)) (point_at c s.a) (IsInner c s.a) x (point_at d (s.b + 1)) (point_at d s.b) (IsInner d s.b) z

    at_next : (far own : ℕ) (x z : Triple) → CrossesSide tris walk m far own → HasSideOn side (walk_tri tris walk m) far own → IsNext far own x z
        → ComeTo corners tris fits walk w side m (m + 1) (m + 1) c d along along_too
    at_next far own x z crossed has passing = (
      record {
        far = far;
        own = own;
        a = s.a;
        b = s.b;
        x = x;
        z = z;
        crossed = crossed;
        has = has;
        next = s.next;
        next_too = s.next_too;
        passing = passing;
      },
      subst (IsBefore corners tris fits walk w c along s.a) (sym e) before,
      subst (IsBefore corners tris fits walk w d along_too s.b) (sym e) before_too,
    )

    module _ (tip : ℕ) (corner : HasCornerOn side (walk_tri tris walk n) s.far s.own tip) where
      -- beside the far end,
      at_far : CrossesSide tris walk m s.far tip → HasSideOn side (walk_tri tris walk m) s.far tip
          → ComeTo corners tris fits walk w side m (m + 1) (m + 1) c d along along_too
      at_far crossed has =
          let one = first_meets s.far tip crossed in
          let other = second_meets s.far tip crossed in
          at_next s.far tip one.point other.point crossed has
          (advanced corners tris fits side (get_or walk n 0) s.far s.own tip (w.in_list n in_walk) corner
          (shared_side_back (crossed_shared corners tris fits walk w m s.far tip crossed))
          (point_at c (s.a + 1)) (point_at c s.a) (IsInner c s.a) s.x (point_at d (s.b + 1)) (point_at d s.b) (IsInner d s.b) s.z s.passing
          one.point one.rational (on_reversed one.point (whole (point_at c s.a)) s.x one.on_first) one.on_second
          other.point other.rational (on_reversed other.point (whole (point_at d s.b)) s.z other.on_first) other.on_second)

      -- and beside the own end
      at_own : CrossesSide tris walk m tip s.own → HasSideOn side (walk_tri tris walk m) tip s.own
          → ComeTo corners tris fits walk w side m (m + 1) (m + 1) c d along along_too
      at_own crossed has =
          let back = crossed_back corners tris fits walk w m tip s.own crossed in
          let one = first_meets s.own tip back in
          let other = second_meets s.own tip back in
          at_next tip s.own one.point other.point crossed has
          (advanced_other corners tris fits side (get_or walk n 0) s.far s.own tip (w.in_list n in_walk) corner
          (crossed_shared corners tris fits walk w m tip s.own crossed)
          (point_at c (s.a + 1)) (point_at c s.a) (IsInner c s.a) s.x (point_at d (s.b + 1)) (point_at d s.b) (IsInner d s.b) s.z s.passing
          one.point one.rational (on_reversed one.point (whole (point_at c s.a)) s.x one.on_first) one.on_second
          other.point other.rational (on_reversed other.point (whole (point_at d s.b)) s.z other.on_first) other.on_second)

    -- so they pass the side before, whichever it is
    moved_back : ComeTo corners tris fits walk w side m (m + 1) (m + 1) c d along along_too
    moved_back =
        let (tip, corner) = corner_at_side side (walk_tri tris walk n) s.far s.own s.has in
        elim (crossed_before corners tris fits walk w n s.far s.own s.crossed side tip m e corner) [
          | inl h ↦ at_far tip corner h.0 h.1
          | inr h ↦ at_own tip corner h.0 h.1
        ]

  -- ---- at the first side

  -- no triangle comes before the first
  at_first : (chain : List Point) (along : IsAlong corners tris fits walk w chain) (a : ℕ) → IsBefore corners tris fits walk w chain along a 0 → a ≡ 0
  at_first chain along a (inl none) = none
  at_first chain along a (inr before) = absurd (omega arith)

  -- both chains begin at one point there
  no_first : (side : Bool) (c d : List Point) (along : IsAlong corners tris fits walk w c) (along_too : IsAlong corners tris fits walk w d)
      → point_at c 0 ≡ point_at d 0 → ¬ ComeTo corners tris fits walk w side 0 0 0 c d along along_too
  no_first side c d along along_too firsts (s, before, before_too) =
      let same : point_at d s.b ≡ point_at c s.a =
      ap (point_at d) (at_first d along_too s.b before_too) ∙ sym firsts ∙ ap (point_at c) (sym (at_first c along s.a before)) in
      let p = point_at c (s.a + 1) in
      let h = point_at c s.a in
      let ahead = head_ahead side p h (point_at d (s.b + 1)) (point_at d s.b) s.passing.apart s.z s.passing.other.rational s.passing.other.on_way
      s.passing.one.other_ahead in
      not_ahead_of_itself side p (whole h) (subst (λ (v : Point). pos 0 <ℤ turning side p (whole h) (whole v)) same ahead)

  -- so there are no such chains
  pub none_at : (n : ℕ) (side : Bool) (c d : List Point) (along : IsAlong corners tris fits walk w c) (along_too : IsAlong corners tris fits walk w d)
      → point_at c 0 ≡ point_at d 0 → ¬ ComeTo corners tris fits walk w side n (n + 1) (n + 1) c d along along_too
  none_at zero side c d along along_too firsts s =
      let one = at_flipped corners tris fits walk w side 0 0 1 c d along along_too (after_bend corners tris fits walk w side 0 1 c d along along_too s) in
      no_first (not side) d c along_too along (sym firsts) (after_bend corners tris fits walk w (not side) 0 0 d c along_too along one)
  none_at (suc m) side c d along along_too firsts s =
      let n = suc m in
      let one = at_flipped corners tris fits walk w side n n (n + 1) c d along along_too
      (after_bend corners tris fits walk w side n (n + 1) c d along along_too s) in
      let (t, before, before_too) = after_bend corners tris fits walk w (not side) n n d c along_too along one in
      none_at m (not side) d c along_too along (sym firsts)
      (moved_back (not side) m n (omega arith) d c along_too along t before before_too)
