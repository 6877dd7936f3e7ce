-- Numbers of corners and of the source: the points that they stand for, their names, and the places of a list.
-- The numbers of the first funnel: of the source between the ends of a side of its triangle, or at one of them.
-- The numbers of the next funnel: on the left that of the third corner, and those from the place on from which it is reached; on the right those
-- to that place, and that corner's.
use Rattle.std.proofs.Common.{◌≡◌, inl, inr, refl, sym, ap, subst, ◌∙◌, ℕ, ◌%◌, ◌<◌, ◌≤◌, List, [], ◌∷◌, length, get_or, slice_index}
use Rattle.std.proofs.Common.{arith, ◌++◌, drop, ◌+◌, ◌-◌, add-one, take, min}
use Rattle.std.proofs.Math.Nat.{mod-eq_of_lt}
use Rattle.std.proofs.lemmas.List.{get_or-map, get_or_append_left, get_or_push, length-map, drop-map, get_or-drop, length-append}
use Rattle.std.proofs.lemmas.List.{length-drop, get_or-take, length-take-le, map-append, take-map}
use Rattle.std.proofs.lemmas.List.Elements.{All-drop, All-append, All-take}
use Rattle.plane.specs.Point.{Point, Triple, whole}
use Rattle.rings.specs.Chain.{point_at}
use Rattle.rings.specs.Ring.{origin, vertex}
use Rattle.meshes.proofs.Sides.{ends_below}
use Rattle.meshes.proofs.TreeLeaves.{next_corner}
use Rattle.meshes.specs.Fits.{Fits, IsSideOfTwo, IsInTri}
use Rattle.meshes.specs.Side.{HasSide, tri_at}
use Rattle.meshes.specs.declared.tri.Tri.{Tri}
use Rattle.funnels.proofs.Chains.{step_left, step_right, start_at_left, start_at_right, start_between}
use Rattle.funnels.proofs.Funnels.{next_left_old, next_right_old}
use Rattle.funnels.proofs.Trees.{first_right, length_rightward, first_left, length_leftward}
use Rattle.funnels.specs.Funnel.{IsReachedFrom}
use Rattle.funnels.specs.OpenFunnel.{IsOpenFunnel, right_behind, left_behind}
use Rattle.path_tree.proofs.Lists.{more_numbers, none_of_both, one_number}
use Rattle.path_tree.specs.Listed.{AreNumbers, IsFunnelAt, Listed, point_of, listed_points, IsTriangleBeyond}

module _ (corners : List Point) (start : Point) where
  -- a corner's number stands for the vertex,
  pub corner_point : (i : ℕ) → i < length corners → point_of corners start i ≡ vertex corners i
  corner_point i below =
      let same : i % length corners ≡ i = mod-eq_of_lt below in
      get_or_append_left corners (start ∷ []) origin i below ∙ sym (ap (λ k. get_or corners k origin) same)

  -- and the count of the corners for the source
  pub source_point : point_of corners start (length corners) ≡ start
  source_point = get_or_push corners start origin (length corners) refl

  -- the point at a place is that of the number there
  pub point_there : (list : List ℕ) (h : ℕ) → h < length list
      → point_at (listed_points corners start list) h ≡ point_of corners start (slice_index list h)
  point_there list h below = get_or-map (point_of corners start) list h 0 origin below

  -- a place from which a point is reached is one of the list
  pub place_within : (list : List ℕ) (a h : ℕ) (y : Triple) → IsReachedFrom (listed_points corners start list) a h y → h < length list
  place_within list a h y reached = omega (arith, reached.within, length-map list (point_of corners start))

  -- and so is the place of an apex
  pub apex_in_list : (i j d : ℕ) (f : Listed) → IsFunnelAt corners start i j d f → f.apex < length f.list
  apex_in_list i j d f w = omega (arith, w.funnel.funnel.apex_within, length-map f.list (point_of corners start))

module _ (corners : List Point) (start : Point) (tris : List Tri) (k i j m next d : ℕ) (fits : Fits corners tris)
    (beyond : IsTriangleBeyond tris k i j m) (f : Listed) (w : IsFunnelAt corners start i j d f) (h : ℕ)
    (reached : IsReachedFrom (listed_points corners start f.list) f.apex h (whole (vertex corners m))) where
  -- the points
  abbrev ns : List Point
  ns = listed_points corners start f.list

  -- ---- to the left

  module _ (shared : IsSideOfTwo tris j m k next) where
    -- the next list
    abbrev list_left : List ℕ
    list_left = m ∷ drop h f.list

    -- the corner is a vertex,
    corner_below_left : m < length corners
    corner_below_left = (ends_below corners tris fits k j m shared.in_list shared.has).1

    -- so the list stands for the corner, and the points from the place on
    points_are_left : listed_points corners start list_left ≡ vertex corners m ∷ drop h ns
    points_are_left =
        let first = corner_point corners start m corner_below_left in
        let rest = sym (drop-map (point_of corners start) h f.list) in
        λ t. first t ∷ rest t

    -- the chain to it begins at the start,
    begins_left :
        point_at (w.before ++ right_behind ns f.apex (h - f.apex) ++ point_at (listed_points corners start list_left) (f.apex - h + 1) ∷ []) 0 ≡ start
    begins_left =
        let place : h + (f.apex - h) ≡ f.apex + (h - f.apex) = omega arith in
        first_right origin w.before (point_at ns) f.apex (h - f.apex) (point_at (listed_points corners start list_left) (f.apex - h + 1))
        (ap (λ ps. point_at ps (f.apex - h + 1)) points_are_left
        ∙ next_left_old ns (vertex corners m) h (f.apex - h) ∙ ap (point_at ns) place)
        ∙ w.begins

    -- with its own number where nothing is before it,
    source_left : w.before ++ right_behind ns f.apex (h - f.apex) ≡ [] → slice_index list_left (f.apex - h + 1) ≡ length corners
    source_left none =
        let both = none_of_both w.before (right_behind ns f.apex (h - f.apex)) none in
        let place : h + (f.apex - h) ≡ f.apex = omega (arith, both.1, length_rightward (point_at ns) f.apex (h - f.apex)) in
        ap (slice_index list_left) (add-one (f.apex - h)) ∙ get_or-drop h f.list (f.apex - h) 0 ∙ ap (slice_index f.list) place
        ∙ w.source both.0

    -- and it is the next funnel
    pub funnel_to_left : IsFunnelAt corners start m j (d + 1) (record { list = list_left; apex = f.apex - h + 1 })
    funnel_to_left = record {
      before = w.before ++ right_behind ns f.apex (h - f.apex);
      funnel = subst (λ ps. IsOpenFunnel corners (w.before ++ right_behind ns f.apex (h - f.apex)) ps (f.apex - h + 1) m j) (sym points_are_left)
          (step_left corners tris fits k i j m beyond.diagonal.in_list beyond.diagonal.has
          beyond.right beyond.left (k, beyond.from, inl beyond.diagonal) w.before ns f.apex w.funnel h reached (k, next, inr shared));
      begins = begins_left;
      source = source_left;
      numbers = more_numbers (length corners) m (drop h f.list) (omega (arith, corner_below_left))
          (All-drop (λ n. n ≤ length corners) h f.list w.numbers);
      few = omega (
        arith,
        w.few,
        place_within corners start f.list f.apex h (whole (vertex corners m)) reached,
        apex_in_list corners start i j d f w,
        length-append w.before (right_behind ns f.apex (h - f.apex)),
        length_rightward (point_at ns) f.apex (h - f.apex),
        length-drop h f.list,
      );
    }

  -- ---- to the right

  module _ (shared : IsSideOfTwo tris m i k next) where
    -- the next list
    abbrev list_right : List ℕ
    list_right = take (h + 1) f.list ++ m ∷ []

    -- the corner is a vertex,
    corner_below_right : m < length corners
    corner_below_right = (ends_below corners tris fits k m i shared.in_list shared.has).0

    -- so the list stands for the points to the place, and the corner
    points_are_right : listed_points corners start list_right ≡ take (h + 1) ns ++ vertex corners m ∷ []
    points_are_right = map-append (point_of corners start) (take (h + 1) f.list) (m ∷ [])
        ∙ ap (λ ps. ps ++ point_of corners start m ∷ []) (sym (take-map (point_of corners start) (h + 1) f.list))
        ∙ ap (λ v. take (h + 1) ns ++ v ∷ []) (corner_point corners start m corner_below_right)

    -- the chain to it begins at the start,
    begins_right : point_at (w.before ++ left_behind ns f.apex (f.apex - h) ++ point_at (listed_points corners start list_right) (min f.apex h) ∷ []) 0
        ≡ start
    begins_right =
        let place : min f.apex h ≡ f.apex - (f.apex - h) = omega arith in
        first_left origin w.before (point_at ns) f.apex (f.apex - h) (point_at (listed_points corners start list_right) (min f.apex h))
        (ap (λ ps. point_at ps (min f.apex h)) points_are_right
        ∙ next_right_old ns (vertex corners m) h reached.within (min f.apex h) (omega arith) ∙ ap (point_at ns) place)
        ∙ w.begins

    -- with its own number where nothing is before it,
    source_right : w.before ++ left_behind ns f.apex (f.apex - h) ≡ [] → slice_index list_right (min f.apex h) ≡ length corners
    source_right none =
        let both = none_of_both w.before (left_behind ns f.apex (f.apex - h)) none in
        let place : min f.apex h ≡ f.apex = omega (arith, both.1, length_leftward (point_at ns) f.apex (f.apex - h)) in
        ap (slice_index list_right) place
        ∙ get_or_append_left (take (h + 1) f.list) (m ∷ []) 0 f.apex
        (omega (arith, length-take-le (h + 1) f.list (omega (arith, place_within corners start f.list f.apex h (whole (vertex corners m)) reached)), place))
        ∙ get_or-take (h + 1) f.list f.apex 0 (omega (arith, place)) ∙ w.source both.0

    -- and it is the next funnel
    pub funnel_to_right : IsFunnelAt corners start i m (d + 1) (record { list = list_right; apex = min f.apex h })
    funnel_to_right = record {
      before = w.before ++ left_behind ns f.apex (f.apex - h);
      funnel = subst (λ ps. IsOpenFunnel corners (w.before ++ left_behind ns f.apex (f.apex - h)) ps (min f.apex h) i m) (sym points_are_right)
          (step_right corners tris fits k i j m beyond.diagonal.in_list beyond.diagonal.has
          beyond.right beyond.left (k, beyond.from, inl beyond.diagonal) w.before ns f.apex w.funnel h reached (k, next, inr shared));
      begins = begins_right;
      source = source_right;
      numbers = All-append (λ n. n ≤ length corners) (take (h + 1) f.list) (m ∷ [])
          (All-take (λ n. n ≤ length corners) (h + 1) f.list w.numbers) (one_number (length corners) m (omega (arith, corner_below_right)));
      few = omega (
        arith,
        w.few,
        place_within corners start f.list f.apex h (whole (vertex corners m)) reached,
        apex_in_list corners start i j d f w,
        length-append w.before (left_behind ns f.apex (f.apex - h)),
        length_leftward (point_at ns) f.apex (f.apex - h),
        length-append (take (h + 1) f.list) (m ∷ []),
        length-take-le (h + 1) f.list (omega (arith, place_within corners start f.list f.apex h (whole (vertex corners m)) reached)),
      );
    }

module _ (corners : List Point) (start : Point) (tris : List Tri) (home next l r : ℕ) (fits : Fits corners tris)
    (in_start : IsInTri corners (tri_at tris home) (whole start)) (shared : IsSideOfTwo tris r l home next) where
  -- both ends are corners,
  ends : (r < length corners) × (l < length corners)
  ends = ends_below corners tris fits home r l shared.in_list shared.has

  -- there is a third corner,
  third : (m : ℕ) × HasSide (tri_at tris home) l m × HasSide (tri_at tris home) m r
  third = next_corner (tri_at tris home) r l shared.has

  -- and the numbers stand for the points
  left_is : point_of corners start l ≡ vertex corners l
  left_is = corner_point corners start l ends.1

  right_is : point_of corners start r ≡ vertex corners r
  right_is = corner_point corners start r ends.0

  module _ (n : ℕ) (count : n ≡ length corners) where
    source_is : point_of corners start n ≡ start
    source_is = subst (λ k. point_of corners start k ≡ start) (sym count) (source_point corners start)

    -- such numbers are a first funnel, with the source at the apex and nothing before it:
    first_of : (list : List ℕ) (a : ℕ) → IsOpenFunnel corners [] (listed_points corners start list) a l r
        → point_at (listed_points corners start list) a ≡ start → slice_index list a ≡ n → AreNumbers (length corners) list → length list ≤ 3
        → IsFunnelAt corners start l r 1 (record { list = list; apex = a })
    first_of list a funnel begins source numbers few = record {
      before = [];
      funnel = funnel;
      begins = begins;
      source = λ _. source ∙ count;
      numbers = numbers;
      few = omega (arith, few);
    }

    -- the source and the right end are in the bound
    to_right : AreNumbers (length corners) (n ∷ r ∷ [])
    to_right = more_numbers (length corners) n (r ∷ []) (omega (arith, count)) (one_number (length corners) r (omega (arith, ends.0)))

    -- between the ends,
    pub first_between : ¬ (start ≡ vertex corners l) → ¬ (start ≡ vertex corners r)
        → IsFunnelAt corners start l r 1 (record { list = l ∷ n ∷ r ∷ []; apex = 1 })
    first_between not_left not_right = first_of (l ∷ n ∷ r ∷ []) 1
        (subst (λ ps. IsOpenFunnel corners [] ps 1 l r) (λ t. sym left_is t ∷ sym source_is t ∷ sym right_is t ∷ [])
        (start_between corners tris fits home l r third.0 shared.in_list shared.has third.1 third.2 (home, next, inr shared) start
        in_start not_left not_right))
        source_is refl (more_numbers (length corners) l (n ∷ r ∷ []) (omega (arith, ends.1)) to_right) (omega arith)

    -- at the left one,
    pub first_at_left : start ≡ vertex corners l → IsFunnelAt corners start l r 1 (record { list = n ∷ r ∷ []; apex = 0 })
    first_at_left same = first_of (n ∷ r ∷ []) 0
        (subst (λ ps. IsOpenFunnel corners [] ps 0 l r) (λ t. sym source_is t ∷ sym right_is t ∷ [])
        (start_at_left corners tris fits home l r third.0 shared.in_list shared.has third.1 third.2 (home, next, inr shared) start
        in_start same))
        source_is refl to_right (omega arith)

    -- and at the right one
    pub first_at_right : start ≡ vertex corners r → IsFunnelAt corners start l r 1 (record { list = l ∷ n ∷ []; apex = 1 })
    first_at_right same = first_of (l ∷ n ∷ []) 1
        (subst (λ ps. IsOpenFunnel corners [] ps 1 l r) (λ t. sym left_is t ∷ sym source_is t ∷ [])
        (start_at_right corners tris fits home l r third.0 shared.in_list shared.has third.1 third.2 (home, next, inr shared) start
        in_start same))
        source_is refl
        (more_numbers (length corners) l (n ∷ []) (omega (arith, ends.1)) (one_number (length corners) n (omega (arith, count))))
        (omega arith)
