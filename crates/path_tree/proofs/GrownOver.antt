-- Points of a funnel by their names: the source by its own, and the others as corners.
-- The funnel of a triangle that is entered over a side: its numbers, how many there are, and what comes before a point that is reached.
-- What is before the vertices, in a list by their numbers: writes to it, and the corners of the home triangle.
-- A tree of paths over the first places of an order outward: at home, at one more place, and at all.
use Rattle.std.proofs.Common.{◌≡◌, ◌≢◌, inl, inr, sym, ap, subst, ◌∙◌, List, length, ℕ, ◌<◌, slice_index, Some, arith, ◌+◌, ◌≤◌, get_or}
use Rattle.std.proofs.Common.{Option, None, set, slice_index_or, refl, [], ◌∷◌, ◌++◌, ◌%◌}
use Rattle.std.proofs.lemmas.Bool.{cases_eq}
use Rattle.std.proofs.lemmas.List.{get_or_read, length-map, get_or-set_other, get_or-set_same, get_or_append_left, get_or_at, length-append}
use Rattle.std.proofs.lemmas.List.{length-set}
use Rattle.plane.specs.Point.{Point, whole}
use Rattle.rings.proofs.Vertices.{vertex_in_range}
use Rattle.rings.specs.From.{IsPredecessor}
use Rattle.rings.specs.Ring.{vertex, origin}
use Rattle.meshes.proofs.Sides.{two_fewer, one_at_edge}
use Rattle.meshes.specs.Fits.{Fits, IsInTri}
use Rattle.meshes.specs.Side.{tri_at, HasCorner}
use Rattle.meshes.specs.declared.tri.Tri.{Tri}
use Rattle.funnels.proofs.Bends.{corner_in}
use Rattle.funnels.proofs.Corners.{side_corners}
use Rattle.funnels.specs.Funnel.{IsReachedFrom}
use Rattle.exact_plane.specs.Spot.{point_named}
use Rattle.exact_plane.specs.declared.turns.Spot.{Spot}
use Rattle.exact_plane.specs.declared.turns.Spot.TheVariants.{Corner, Start}
use Rattle.tri_mesh.specs.Outward.{IsOutward, at_place}
use Rattle.tri_mesh.specs.declared.outward.Outward.{Outward}
use Rattle.path_tree.proofs.NextFunnels.{apart, beyond_at, corner_had, from_start, third_below}
use Rattle.path_tree.proofs.FunnelNumbers.{corner_point, source_point}
use Rattle.path_tree.proofs.ReachedBefore.{before_third, before_point, number_of_source}
use Rattle.path_tree.proofs.Doors.{corner_below}
use Rattle.path_tree.specs.Entered.{IsFromStart, IsFunnelTo, left_of, right_of, third_of}
use Rattle.path_tree.specs.Listed.{IsTriangleBeyond, IsFunnelAt, Listed, point_of, listed_points}
use Rattle.path_tree.specs.Growing.{AreThirdPlaces, IsGrownOver, IsThirdFrom, KeepsFunnelTo}
use Rattle.path_tree.specs.Grown.{IsFromNamed, Names, IsEntered, IsGrownFrom, KeepsFunnel, NamedTree, funnel_at, before_at}

module _ (corners : List Point) (start : Point) (tris : List Tri) (i j d : ℕ) (fits : Fits corners tris) (f : Listed)
    (w : IsFunnelAt corners start i j d f) (h : ℕ) (within : h < length f.list) (n number : ℕ) (name : Spot)
    (count : n ≡ length corners) (is : number ≡ slice_index f.list h) (corner : number ≢ n → name ≡ Corner number)
    (source : number ≡ n → name ≡ Start) where
  -- the point of the number at the place
  abbrev there : Point
  there = point_of corners start (slice_index f.list h)

  -- is named by it
  pub named_by_number : Names corners start name there
  named_by_number = elim (cases_eq number n) [
    | inl same ↦
        subst (λ s. Names corners start s there) (sym (source same))
        (ap (point_of corners start) (sym is ∙ same ∙ count) ∙ source_point corners start)
    | inr other ↦
        let le = w.numbers h 0 within in
        let below : number < length corners = omega (arith, le, is, other, count) in
        subst (λ s. Names corners start s there) (sym (corner other)) (
          below,
          sym (corner_point corners start number below) ∙ ap (point_of corners start) is,
          λ same. other (is ∙ number_of_source corners start tris i j d fits f w h within same ∙ sym count),
        )
  ]

  -- so what comes before the third corner beyond is named by it where that is reached from the place
  pub third_named : (k m : ℕ) → IsTriangleBeyond tris k i j m → IsReachedFrom (listed_points corners start f.list) f.apex h (whole (vertex corners m))
      → IsFromNamed corners start (vertex corners m) (Some name)
  third_named k m beyond reached =
      (there, named_by_number, before_third corners start tris k i j m d fits beyond f w h reached)

-- A triangle without a funnel is the home.
home_of_none : (corners : List Point) (start : Point) (tris : List Tri) (home k : ℕ) (o : Option Listed)
    → KeepsFunnel corners start tris home k o → ((f : Listed) → o ≢ Some f) → k ≡ home
home_of_none corners start tris home k None is none = is
home_of_none corners start tris home k (Some f) kept none = absurd (none f refl)

module _ (corners : List Point) (start : Point) (tris : List Tri) (tree : NamedTree) (grown : IsGrownFrom corners start tris tree)
    (funnels : List (Option Listed)) (same : funnels ≡ tree.funnels) (k : ℕ) (below : k < length tris) (o : Option Listed)
    (read : o ≡ get_or funnels k o) where
  -- What is read for triangle k is what the tree keeps for it,
  kept_of_read : KeepsFunnel corners start tris grown.home k o
  kept_of_read =
      let inside : k < length funnels = omega (arith, below, grown.triangles, ap length same) in
      let there : funnel_at tree k ≡ o = ap (λ fs. get_or fs k None) (sym same) ∙ sym (get_or_read funnels k o inside read None) in
      subst (KeepsFunnel corners start tris grown.home k) there (grown.funnels k below)

  -- so a funnel is its own,
  pub entered_of_read : (f : Listed) → o ≡ Some f → IsEntered corners start tris k f
  entered_of_read f some = (subst (KeepsFunnel corners start tris grown.home k) some kept_of_read).1

  -- and a triangle without one has the start in it
  pub home_of_read : ((f : Listed) → o ≢ Some f) → IsInTri corners (tri_at tris k) (whole start)
  home_of_read none =
      let home = home_of_none corners start tris grown.home k o kept_of_read none in
      subst (λ h. IsInTri corners (tri_at tris h) (whole start)) (sym home) grown.in_home

module _ (corners : List Point) (start : Point) (tris : List Tri) (k : ℕ) (f : Listed) (e : IsEntered corners start tris k f) where
  -- its funnel has a point,
  pub entered_some : 0 < length f.list
  entered_some = omega (arith, e.funnel.funnel.funnel.apex_within, length-map f.list (point_of corners start))

  -- and fewer than there are corners
  pub entered_few : length f.list + 1 ≤ length corners
  entered_few = omega (arith, e.funnel.few, e.few)

  -- where a point of the triangle is reached from a place of it,
  module _ (fits : Fits corners tris) (h : ℕ) (y : Point) (reached : IsReachedFrom (listed_points corners start f.list) f.apex h (whole y)) where
    -- the point there
    abbrev near : Point
    near = point_of corners start (slice_index f.list h)

    -- has the name of its number, and comes before, where it is another
    pub near_is : IsInTri corners (tri_at tris k) (whole y) → (m i : ℕ) (s : Spot) → m ≡ length tris → i ≡ slice_index f.list h
        → (i ≢ m + 2 → s ≡ Corner i) → (i ≡ m + 2 → s ≡ Start)
        → (x : Point) × Names corners start s x × (x ≢ y → IsPredecessor corners start y x)
    near_is inside m i s count is corner source =
        let n : m + 2 ≡ length corners = omega (arith, count, two_fewer corners tris fits) in
        let within : h < length f.list = omega (arith, reached.within, length-map f.list (point_of corners start)) in (
          near,
          named_by_number corners start tris e.left e.right e.diagonals fits f e.funnel h within (m + 2) i s n is corner source,
          before_point corners start tris k e.left e.right e.third e.diagonals fits e.beyond f e.funnel h y inside reached,
        )

module _ (corners : List Point) (start : Point) where
  -- the list has what is before vertex i
  abbrev pub HasParent : List (Option Spot) → ℕ → Type 0
  HasParent before i = IsFromNamed corners start (vertex corners i) (slice_index_or before i None)

  module _ (before : List (Option Spot)) (i : ℕ) (value : Option Spot) (below : i < length before)
      (right : IsFromNamed corners start (vertex corners i) value) where
    -- where this is written for one vertex, the others keep what they have,
    pub parent_written : (j : ℕ) → (j ≢ i → HasParent before j) → HasParent (set before i value) j
    parent_written j other = elim (cases_eq j i) [
      | inl same ↦
          subst (HasParent (set before i value)) (sym same)
          (subst (IsFromNamed corners start (vertex corners i)) (sym (get_or-set_same before i value None below)) right)
      | inr differ ↦
          subst (IsFromNamed corners start (vertex corners j)) (sym (get_or-set_other before i j value None differ)) (other differ)
    ]

  -- and so for one more of some vertices
  pub parents_more : (before : List (Option Spot)) (list : List ℕ) (count : ℕ) (value : Option Spot) → slice_index list count < length before
      → IsFromNamed corners start (vertex corners (slice_index list count)) value
      → ((k : ℕ) → k < count → HasParent before (slice_index list k))
      → (k : ℕ) → k < count + 1 → HasParent (set before (slice_index list count) value) (slice_index list k)
  parents_more before list count value below right had k less =
      parent_written before (slice_index list count) value below right (slice_index list k) (λ differ. elim (cases_eq k count) [
        | inl same ↦ absurd (differ (λ t. slice_index list (same t)))
        | inr other ↦ had k (omega (arith, less, other))
      ])

  -- what is before each point of a triangle with the start is so before its corners
  pub home_parent : (tris : List Tri) (k i : ℕ) (goal : Point) (value : Option Spot) → Fits corners tris → k < length tris → HasCorner (tri_at tris k) i
      → (IsInTri corners (tri_at tris k) (whole (point_named corners start goal (Corner i)))
      → IsFromNamed corners start (point_named corners start goal (Corner i)) value)
      → IsFromNamed corners start (vertex corners i) value
  home_parent tris k i goal value fits within has straight =
      let named = vertex_in_range corners i origin (corner_below corners tris fits k within i has) in
      subst (λ y. IsFromNamed corners start y value) (sym named)
      (straight (subst (λ y. IsInTri corners (tri_at tris k) (whole y)) named (corner_in corners tris fits k within i has)))

module _ (corners : List Point) (start : Point) (tris : List Tri) (order : List Outward) (from : IsFromStart corners start tris order) where
  -- at home it has what is before the three corners, and no funnel
  pub grown_at_home : (tree : NamedTree) → length tree.before ≡ length corners → length tree.funnels ≡ length tris
      → ((i : ℕ) → HasCorner (tri_at tris (at_place order 0)) i → IsFromNamed corners start (vertex corners i) (before_at tree i))
      → funnel_at tree (at_place order 0) ≡ None
      → IsGrownOver corners start tris order 1 tree
  grown_at_home tree vertices triangles parents none = record {
    vertices = vertices;
    parents = λ p i less has.
        let home : p ≡ 0 = omega (arith, less) in
        parents i (subst (λ q. HasCorner (tri_at tris (at_place order q)) i) home has);
    triangles = triangles;
    funnels = λ p less.
        let home : p ≡ 0 = omega (arith, less) in
        subst (λ q. KeepsFunnelTo corners start tris order q (funnel_at tree (at_place order q))) (sym home)
        (subst (KeepsFunnelTo corners start tris order 0) (sym none) refl);
  }

  -- so any place stands for that
  pub thirds_at_home : (tree : NamedTree) → funnel_at tree (at_place order 0) ≡ None → (place : ℕ) (places : List ℕ) → places ≡ place ∷ []
      → AreThirdPlaces corners start tris order 1 tree places
  thirds_at_home tree none place places is = record {
    each = ap length is;
    reached = λ p less f some.
        let home : p ≡ 0 = omega (arith, less) in
        absurd (cc (none, subst (λ q. funnel_at tree (at_place order q) ≡ Some f) home some));
  }

  module _ (p : ℕ) (later : 0 < p) (below : p < length order) (tree : NamedTree) (grown : IsGrownOver corners start tris order p tree) where
    -- At one more place it has grown with the parent of the third corner, and the funnel.
    pub grown_more : (m : ℕ) (value : Option Spot) (f : Listed) → m ≡ third_of tris order p → IsFromNamed corners start (vertex corners m) value
        → IsFunnelTo corners start tris order p f
        → IsGrownOver corners start tris order (p + 1)
        (record { before = set tree.before m value; funnels = set tree.funnels (at_place order p) (Some f) })
    grown_more m value f third right w =
        let corner_within = third_below corners start tris order from p later below in
        let within = from.outward.in_list p below in
        record {
          vertices = length-set tree.before m value ∙ grown.vertices;
          parents = λ q i less has.
              parent_written corners start tree.before m value (omega (arith, third, corner_within, grown.vertices)) right i
              (λ differ. corner_had corners start tris order from p later below (HasParent corners start tree.before) grown.parents q i less has
              (λ e. differ (e ∙ sym third)));
          triangles = length-set tree.funnels (at_place order p) (Some f) ∙ grown.triangles;
          funnels = λ q less. elim (cases_eq q p) [
            | inl same ↦
                subst (λ r. KeepsFunnelTo corners start tris order r
                (slice_index_or (set tree.funnels (at_place order p) (Some f)) (at_place order r) None)) (sym same)
                (subst (KeepsFunnelTo corners start tris order p)
                (sym (get_or-set_same tree.funnels (at_place order p) (Some f) None (omega (arith, within, grown.triangles))))
                (later, w))
            | inr differ ↦
                let before : q < p = omega (arith, less, differ) in
                subst (KeepsFunnelTo corners start tris order q)
                (sym (get_or-set_other tree.funnels (at_place order p) (at_place order q) (Some f) None
                (λ e. apart corners start tris order from p q before below (sym e)))) (grown.funnels q before)
          ];
        }

    -- and so are the places from which third corners are reached, with that of this one
    pub thirds_more : (places : List ℕ) → AreThirdPlaces corners start tris order p tree places → (m : ℕ) (value : Option Spot) (f : Listed)
        (place : ℕ) → IsThirdFrom corners start tris order p f place
        → AreThirdPlaces corners start tris order (p + 1)
        (record { before = set tree.before m value; funnels = set tree.funnels (at_place order p) (Some f) }) (places ++ place ∷ [])
    thirds_more places before m value f place here =
        let within = from.outward.in_list p below in
        record {
          each = length-append places (place ∷ []) ∙ omega (arith, before.each);
          reached = λ q less g is. elim (cases_eq q p) [
            | inl same ↦
                let at : Some f ≡ Some g =
                sym (get_or-set_same tree.funnels (at_place order p) (Some f) None (omega (arith, within, grown.triangles)))
                ∙ subst (λ r. slice_index_or (set tree.funnels (at_place order p) (Some f)) (at_place order r) None ≡ Some g) same is in
                let g_is : f ≡ g = cc at in
                let last : slice_index (places ++ place ∷ []) p ≡ place = get_or_at places place [] 0 p before.each in
                subst (λ r. IsThirdFrom corners start tris order r g (slice_index (places ++ place ∷ []) r)) (sym same)
                (subst (IsThirdFrom corners start tris order p g) (sym last) (subst (λ h. IsThirdFrom corners start tris order p h place) g_is here))
            | inr differ ↦
                let earlier : q < p = omega (arith, less, differ) in
                let was = sym (get_or-set_other tree.funnels (at_place order p) (at_place order q) (Some f) None
                (λ e. apart corners start tris order from p q earlier below (sym e))) ∙ is in
                subst (IsThirdFrom corners start tris order q g) (sym (get_or_append_left places (place ∷ []) 0 q (omega (arith, before.each, earlier))))
                (before.reached q earlier g was)
          ];
        }

  -- Each triangle but the first has its own funnel in the tree, and the first has none,
  keeps : (p : ℕ) → p < length order → (o : Option Listed) → KeepsFunnelTo corners start tris order p o
      → KeepsFunnel corners start tris (at_place order 0) (at_place order p) o
  keeps p below None home = ap (at_place order) home
  keeps p below (Some f) w = (
    λ same. let home = from.outward.once p 0 below from.some same in omega (arith, home, w.0),
    record {
      left = left_of tris order p;
      right = right_of tris order p;
      third = third_of tris order p;
      beyond = beyond_at corners start tris order from p w.0 below;
      diagonals = p;
      few = omega (arith, below, from.outward.count, two_fewer corners tris from.fits);
      funnel = w.1;
    },
  )

  -- and each vertex is a corner of some triangle: so at all places it has grown
  grown_over_all : (tree : NamedTree) → IsGrownOver corners start tris order (length order) tree → IsGrownFrom corners start tris tree
  grown_over_all tree grown = record {
    home = at_place order 0;
    in_list = from.outward.in_list 0 from.some;
    in_home = from.home;
    vertices = grown.vertices;
    parents = λ i below.
        let (k, one) = one_at_edge corners tris from.fits i below in
        let (p, within, is) = from.outward.all k one.in_list in
        let has = (side_corners (tri_at tris k) i ((i + 1) % length corners) one.has).0 in
        grown.parents p i within (subst (λ l. HasCorner (tri_at tris l) i) (sym is) has);
    triangles = grown.triangles;
    funnels = λ k below.
        let (p, within, is) = from.outward.all k below in
        subst (λ l. KeepsFunnel corners start tris (at_place order 0) l (funnel_at tree l)) is
        (keeps p within (funnel_at tree (at_place order p)) (grown.funnels p within));
  }

-- At the first place there is no funnel,
none_kept : (corners : List Point) (start : Point) (tris : List Tri) (order : List Outward) (o : Option Listed)
    → KeepsFunnelTo corners start tris order 0 o → o ≡ None
none_kept corners start tris order None home = refl
none_kept corners start tris order (Some f) w = absurd (omega (arith, w.0))

-- so a tree that has grown outward from the home has none for it
pub no_funnel_at_home : (corners : List Point) (start : Point) (tris : List Tri) (home : ℕ) (order : List Outward) (p : ℕ) (tree : NamedTree)
    → IsOutward tris home order → 0 < p → IsGrownOver corners start tris order p tree → funnel_at tree home ≡ None
no_funnel_at_home corners start tris home order p tree outward later grown =
    subst (λ k. funnel_at tree k ≡ None) outward.first (none_kept corners start tris order _ (grown.funnels 0 later))

-- One that has grown up to the last place of an order from a triangle with the start is grown from these corners.
pub grown_at_end : (corners : List Point) (start : Point) (tris : List Tri) (home : ℕ) (order : List Outward) (p end : ℕ) (tree : NamedTree)
    → Fits corners tris → home < length tris → IsInTri corners (tri_at tris home) (whole start) → IsOutward tris home order
    → end ≡ length order → end ≤ p → (1 ≤ end → p ≤ end) → IsGrownOver corners start tris order p tree
    → IsGrownFrom corners start tris tree
grown_at_end corners start tris home order p end tree fits within in_start outward count least most grown =
    let last : p ≡ length order = omega (arith, count, least, most, outward.count, within) in
    grown_over_all corners start tris order (from_start corners start tris home order fits within in_start outward) tree
    (subst (λ q. IsGrownOver corners start tris order q tree) last grown)
