-- The funnel at the door of a triangle, from home and from an earlier door, with its apex; and the climbs in it.
use Rattle.std.proofs.Common.{◌≡◌, ◌↔◌, inl, inr, refl, sym, ap, subst, ◌∙◌, ℕ, ◌+◌, ◌-◌, ◌<◌, ◌≤◌, min, max}
use Rattle.std.proofs.Common.{List, [], ◌∷◌, ◌++◌, length, take, drop, slice_index, slice_index_or, add-one, arith}
use Rattle.std.proofs.lemmas.Bool.{cases_eq}
use Rattle.std.proofs.lemmas.List.{get_or-drop, get_or-take, get_or_read, get_or_append_left, length-append, length-map, length-take-le, length-drop}
use Rattle.std.proofs.lemmas.List.Elements.{All-append, All-cons, All-drop, All-nil, All-take}
use Rattle.std.specs.List.{All}
use Rattle.plane.specs.Point.{Point}
use Rattle.rings.proofs.Simple.{apart_of_simple}
use Rattle.rings.proofs.Vertices.{one_to_one}
use Rattle.rings.specs.Chain.{point_at}
use Rattle.rings.specs.From.{IsPredecessor}
use Rattle.rings.specs.Ring.{vertex}
use Rattle.meshes.specs.Side.{tri_at, HasCorner}
use Rattle.meshes.specs.declared.tri.Tri.{Tri}
use Rattle.funnels.proofs.Corners.{side_corners}
use Rattle.funnels.proofs.OneChain.{one_before}
use Rattle.tri_mesh.specs.Outward.{at_place}
use Rattle.tri_mesh.specs.declared.outward.Outward.{Outward}
use Rattle.funnels.proofs.Trees.{before_differs}
use Rattle.funnels.proofs.Vertices.{fitted_simple}
use Rattle.path_tree.proofs.NextFunnels.{beyond_at, earlier, ends_at, toward_below, few_points, funnel_from_home, funnel_on_left}
use Rattle.path_tree.proofs.NextFunnels.{funnel_on_right}
use Rattle.path_tree.proofs.FunnelNumbers.{first_at_left, first_at_right, first_between, funnel_to_left, funnel_to_right, corner_point}
use Rattle.path_tree.proofs.FunnelNumbers.{point_there, source_point}
use Rattle.path_tree.proofs.Doors.{corner_below}
use Rattle.path_tree.specs.Entered.{IsFromStart, IsFunnelTo, left_of, right_of, third_of, toward}
use Rattle.path_tree.specs.Listed.{Listed, point_of, listed_points}
use Rattle.pair_cut.proofs.FunnelPaths.{apex_alone, before_on_left, before_on_right}
use Rattle.pair_cut.specs.Climbs.{AreClimbs, IsClimb, IsVertexAt, from_left, from_right}
use Rattle.pair_cut.specs.Doors.{HasFunnel, IsApex, IsGrownTo, IsOnWay, IsSeen, IsTangentTo}
use Rattle.pair_cut.specs.Rows.{IsNumberBefore}
use Rattle.pair_cut.specs.declared.climb.Tangent.{Tangent}

-- what is seen on the way to a place is seen on that to a later one
seen_later : (corners : List Point) (tris : List Tri) (order : List Outward) (q p k : ℕ) → q ≤ p → IsSeen corners tris order q k
    → IsSeen corners tris order p k
seen_later corners tris order q p k le (inl source) = inl source
seen_later corners tris order q p k le (inr (r, less, has)) = inr (r, omega (arith, less, le), has)

-- the number that a row tells for a vertex is that of the one point that comes before it
next_told : (ring : List Point) (i x b : ℕ) (t u : Point) → vertex ring x ≡ t → IsNumberBefore ring i x b
    → IsPredecessor ring (vertex ring i) t u → IsVertexAt ring b u
next_told ring i x b t u is told before = elim told [
  | inl start ↦ absurd (before_differs ring (vertex ring i) t u before (sym start.0 ∙ is))
  | inr other ↦ (
    other.in_ring,
    one_before ring (vertex ring i) t (vertex ring b) u
        (subst (λ p. IsPredecessor ring (vertex ring i) p (vertex ring b)) is other.before) before,
  )
]

module _ (corners : List Point) (i : ℕ) (tris : List Tri) (order : List Outward) (from : IsFromStart corners (vertex corners i) tris order)
    (vertex_in : i < length corners) where
  abbrev start : Point
  start = vertex corners i

  -- vertices are at different points
  one_vertex : (j k : ℕ) → j < length corners → k < length corners → vertex corners j ≡ vertex corners k → j ≡ k
  one_vertex = one_to_one (vertex corners) (length corners) (apart_of_simple corners (fitted_simple corners tris from.fits)).distinct

  module _ (home : HasCorner (tri_at tris (at_place order 0)) i) (p : ℕ) (later : 0 < p) (below : p < length order) where
    -- ---- climbs

    module _ (f : Listed) (has : HasFunnel corners i tris order p f) where
      abbrev ns : List Point
      ns = listed_points corners (vertex corners i) f.list

      ns_long : length ns ≡ length f.list
      ns_long = length-map f.list (point_of corners start)

      -- the vertex at a point of the funnel is on the way
      vertex_on_way : (h x : ℕ) → h < length ns → IsVertexAt corners x (point_at ns h) → IsOnWay tris order p x
      vertex_on_way h x within is =
          let inside : h < length f.list = omega (arith, within, ns_long) in
          let number = slice_index f.list h in
          let there : point_at ns h ≡ point_of corners start number = point_there corners start f.list h inside in
          elim (has.seen h 0 inside) [
            | inl source ↦
                let same : i ≡ x = one_vertex i x vertex_in is.0
                (sym (source_point corners start) ∙ sym (ap (point_of corners start) source) ∙ sym there ∙ sym is.1) in
                (0, later, subst (HasCorner (tri_at tris (at_place order 0))) same home)
            | inr on ↦
                let (q, less, corner) = on in
                let number_in = corner_below corners tris from.fits (at_place order q)
                (from.outward.in_list q (omega (arith, less, below))) number corner in
                let same : number ≡ x = one_vertex number x number_in is.0
                (sym (corner_point corners start number number_in) ∙ sym there ∙ sym is.1) in
                (q, less, subst (HasCorner (tri_at tris (at_place order q))) same corner)
          ]

      module _ (before : List ℕ) (vertices : length before ≡ length corners)
          (told : (j : ℕ) → IsOnWay tris order p j → IsNumberBefore corners i j (slice_index before j))
          (apex : ℕ) (at_apex : IsVertexAt corners apex (point_at ns f.apex)) where
        -- so the row leads on from its points to the next ones,
        next_at : (h x : ℕ) (u : Point) → h < length ns → IsVertexAt corners x (point_at ns h) → IsPredecessor corners start (point_at ns h) u
            → IsVertexAt corners (slice_index before x) u
        next_at h x u within is =
            next_told corners i x (slice_index before x) (point_at ns h) u is.1 (told x (vertex_on_way h x within is))

        -- and only that at the apex has the apex's number
        apex_only : (h x : ℕ) → h < length ns → IsVertexAt corners x (point_at ns h) → (x ≡ apex) ↔ (h ≡ f.apex)
        apex_only h x within is = (
          λ same. apex_alone corners tris from.fits has.funnel.before ns f.apex (left_of tris order p) (right_of tris order p) has.funnel.funnel
              start has.funnel.begins h within (sym is.1 ∙ ap (vertex corners) same ∙ at_apex.1),
          λ same. one_vertex x apex is.0 at_apex.0 (is.1 ∙ ap (point_at ns) same ∙ sym at_apex.1),
        )

        few : length ns ≤ length corners
        few = omega (arith, ns_long, few_points corners start tris order from p f below has.funnel)

        apex_within : f.apex < length ns
        apex_within = has.funnel.funnel.funnel.apex_within

        on_left : IsClimb corners before (left_of tris order p) apex (from_left ns) (f.apex + 1)
        on_left = record {
          vertices = vertices;
          some = omega arith;
          few = omega (arith, apex_within, few);
          first = ((ends_at corners start tris order from p later below).0, sym has.funnel.funnel.funnel.first);
          goes_up = λ k x more is.
              next_at k x (point_at ns (k + 1)) (omega (arith, more, apex_within)) is
              (before_on_left corners tris from.fits has.funnel.before ns f.apex (left_of tris order p) (right_of tris order p) has.funnel.funnel
              start has.funnel.begins k (omega (arith, more, apex_within)) (omega (arith, more)));
          ends = λ k x inside is.
              let both = apex_only k x (omega (arith, inside, apex_within)) is in
              (λ same. ap (λ n. n + 1) (both.0 same), λ last. both.1 (omega (arith, last)));
        }

        on_right : IsClimb corners before (right_of tris order p) apex (from_right ns) (length ns - f.apex)
        on_right =
            let first : length ns - 1 ≡ length ns - 1 - 0 = omega arith in
            record {
              vertices = vertices;
              some = omega (arith, apex_within);
              few = omega (arith, few);
              first = (
                (ends_at corners start tris order from p later below).1,
                sym has.funnel.funnel.funnel.last ∙ ap (point_at ns) first,
              );
              goes_up = λ k x more is.
                  let place : length ns - 1 - k - 1 ≡ length ns - 1 - (k + 1) = omega arith in
                  subst (λ h. IsVertexAt corners (slice_index before x) (point_at ns h)) place
                  (next_at (length ns - 1 - k) x (point_at ns (length ns - 1 - k - 1)) (omega (arith, apex_within)) is
                  (before_on_right corners tris from.fits has.funnel.before ns f.apex (left_of tris order p) (right_of tris order p)
                  has.funnel.funnel start has.funnel.begins (length ns - 1 - k) (omega (arith, apex_within)) (omega (arith, more))));
              ends = λ k x inside is.
                  let both = apex_only (length ns - 1 - k) x (omega (arith, apex_within)) is in (
                    λ same. let h = both.0 same in omega (arith, h, inside, apex_within),
                    λ last. both.1 (omega (arith, last, inside, apex_within)),
                  );
            }

        pub climbs : AreClimbs corners before (left_of tris order p) (right_of tris order p) apex ns f.apex
        climbs = record {
          within = apex_within;
          few = few;
          at_apex = at_apex;
          on_left = on_left;
          on_right = on_right;
        }

    -- ---- funnels

    -- The ends of the door are on the way.
    ends_on_way : IsOnWay tris order p (left_of tris order p) × IsOnWay tris order p (right_of tris order p)
    ends_on_way =
        let joined = from.outward.joined p later below in
        let shared = side_corners (tri_at tris (at_place order (toward order p))) (right_of tris order p) (left_of tris order p) joined.shared in
        ((toward order p, joined.earlier, shared.1), (toward order p, joined.earlier, shared.0))

    -- The source is an apex of a first funnel,
    first_apex : (list : List ℕ) (a : ℕ) → IsFunnelTo corners start tris order p (record { list = list; apex = a })
        → All (IsSeen corners tris order p) list → a < length list → slice_index list a ≡ length corners → IsApex corners i tris order p i
    first_apex list a w seen within source = record {
      f = record { list = list; apex = a };
      has = record { funnel = w; seen = seen };
      is = (
        vertex_in,
        sym (point_there corners start list a within ∙ ap (point_of corners start) source ∙ source_point corners start),
      );
    }

    -- so of the door from home
    pub apex_from_home : toward order p ≡ 0 → IsApex corners i tris order p i
    apex_from_home at_home =
        let l = left_of tris order p in
        let r = right_of tris order p in
        let n = length corners in
        let P = IsSeen corners tris order p in
        let ends = ends_at corners start tris order from p later below in
        let right = All-cons P r [] (inr ends_on_way.1) (All-nil P) in
        let to_right = All-cons P n (r ∷ []) (inl refl) right in
        let funnel = λ (f : Listed). funnel_from_home corners start tris order from p later below at_home l r f refl refl in
        elim (cases_eq i l) [
          | inl at_left ↦
              first_apex (n ∷ r ∷ []) 0 (funnel (record { list = n ∷ r ∷ []; apex = 0 })
              (λ some k next fits in_start side.
              first_at_left corners start some k next l r fits in_start side n refl (ap (vertex corners) at_left))) to_right (omega arith) refl
          | inr not_left ↦ elim (cases_eq i r) [
            | inl at_right ↦
                first_apex (l ∷ n ∷ []) 1 (funnel (record { list = l ∷ n ∷ []; apex = 1 })
                (λ some k next fits in_start side.
                first_at_right corners start some k next l r fits in_start side n refl (ap (vertex corners) at_right)))
                (All-cons P l (n ∷ []) (inr ends_on_way.0) (All-cons P n [] (inl refl) (All-nil P))) (omega arith) refl
            | inr not_right ↦
                first_apex (l ∷ n ∷ r ∷ []) 1 (funnel (record { list = l ∷ n ∷ r ∷ []; apex = 1 })
                (λ some k next fits in_start side.
                first_between corners start some k next l r fits in_start side n refl
                (λ same. not_left (one_vertex i l vertex_in ends.0 same)) (λ same. not_right (one_vertex i r vertex_in ends.1 same))))
                (All-cons P l (n ∷ r ∷ []) (inr ends_on_way.0) to_right) (omega arith) refl
          ]
        ]

    -- and from an earlier door those of the next ones are the tangent's, which the row keeps
    module _ (inner : 0 < toward order p) (before : List ℕ) (tangents : List Tangent) (grown : IsGrownTo corners i tris order p before tangents)
        (t : Tangent) (read : t ≡ slice_index_or tangents (toward order p) t) where
      abbrev q : ℕ
      q = toward order p

      before_p : q < p
      before_p = earlier corners start tris order from p later below

      to : IsTangentTo corners i tris order q t
      to = subst (IsTangentTo corners i tris order q)
          (sym (get_or_read tangents q t (omega (arith, before_p, below, grown.places)) read _)) (grown.tangents_told q inner before_p)

      abbrev m : ℕ
      m = third_of tris order q

      abbrev list : List ℕ
      list = to.f.list

      abbrev a : ℕ
      a = to.f.apex

      abbrev h : ℕ
      h = to.tangent.place

      list_long : length (listed_points corners start list) ≡ length list
      list_long = length-map list (point_of corners start)

      place_in : h < length list
      place_in = omega (arith, to.tangent.reached.within, list_long)

      apex_in : a < length list
      apex_in = omega (arith, to.has.funnel.funnel.funnel.apex_within, list_long)

      seen : All (IsSeen corners tris order p) list
      seen = λ k d within. seen_later corners tris order q p _ (omega (arith, before_p)) (to.has.seen k d within)

      -- the third corner there is on the way
      third_seen : IsSeen corners tris order p m
      third_seen =
          let beyond = beyond_at corners start tris order from q inner (toward_below corners start tris order from p later below) in
          inr (q, before_p, (side_corners (tri_at tris (at_place order q)) _ m beyond.right).1)

      -- where the next list has a number of the list, the vertex at its point stays
      stays : (next : List ℕ) (k l x : ℕ) → k < length next → l < length list → slice_index next k ≡ slice_index list l
          → IsVertexAt corners x (point_at (listed_points corners start list) l) → IsVertexAt corners x (point_at (listed_points corners start next) k)
      stays next k l x within inside same is = (
        is.0,
        is.1 ∙ point_there corners start list l inside ∙ ap (point_of corners start) (sym same) ∙ sym (point_there corners start next k within),
      )

      -- on the right,
      pub apex_on_right : right_of tris order p ≡ m → IsApex corners i tris order p t.right
      apex_on_right same =
          let next = take (h + 1) list ++ m ∷ [] in
          let long = length-append (take (h + 1) list) (m ∷ []) in
          let front = length-take-le (h + 1) list (omega (arith, place_in)) in
          let P = IsSeen corners tris order p in
          record {
            f = record { list = next; apex = min a h };
            has = record {
              funnel = funnel_on_right corners start tris order from p later below inner to.f to.has.funnel h to.tangent.reached
                  (right_of tris order p) m refl refl (record { list = next; apex = min a h }) same
                  (λ beyond reached side.
                  funnel_to_right corners start tris (at_place order q) (left_of tris order q) (right_of tris order q) m (at_place order p) q from.fits
                  beyond to.f to.has.funnel h reached side);
              seen = All-append P (take (h + 1) list) (m ∷ []) (All-take P (h + 1) list seen) (All-cons P m [] third_seen (All-nil P));
            };
            is = stays next (min a h) (min a h) t.right (omega (arith, long, front, place_in)) (omega (arith, place_in))
                (get_or_append_left (take (h + 1) list) (m ∷ []) 0 (min a h) (omega (arith, front))
                ∙ get_or-take (h + 1) list (min a h) 0 (omega arith)) to.tangent.right;
          }

      -- and on the left
      pub apex_on_left : ¬ (right_of tris order p ≡ m) → IsApex corners i tris order p t.left
      apex_on_left other =
          let next = m ∷ drop h list in
          let long = length-drop h list in
          let place : h + (a - h) ≡ max a h = omega arith in
          let P = IsSeen corners tris order p in
          record {
            f = record { list = next; apex = a - h + 1 };
            has = record {
              funnel = funnel_on_left corners start tris order from p later below inner to.f to.has.funnel h to.tangent.reached
                  (right_of tris order p) m refl refl (record { list = next; apex = a - h + 1 }) other
                  (λ beyond reached side.
                  funnel_to_left corners start tris (at_place order q) (left_of tris order q) (right_of tris order q) m (at_place order p) q from.fits
                  beyond to.f to.has.funnel h reached side);
              seen = All-cons P m (drop h list) third_seen (All-drop P h list seen);
            };
            is = stays next (a - h + 1) (max a h) t.left (omega (arith, long, place_in, apex_in)) (omega (arith, place_in, apex_in))
                (ap (slice_index next) (add-one (a - h)) ∙ get_or-drop h list (a - h) 0 ∙ ap (slice_index list) place) to.tangent.left;
          }
