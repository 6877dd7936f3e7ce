-- One more triangle that is reached, over a side of one that was.
use Rattle.std.proofs.Common.{◌≡◌, inl, inr, refl, sym, ap, subst, ◌∙◌, ℕ, ◌+◌, ◌<◌, ◌≤◌, List, [], ◌∷◌, ◌++◌, length, length-append, map, arith}
use Rattle.std.proofs.Common.{None, Some}
use Rattle.std.proofs.Math.ListN.{length-map}
use Rattle.std.proofs.lemmas.Bool.{cases_eq}
use Rattle.std.proofs.lemmas.List.{get_or-map, get_or_append_left, get_or_push}
use Rattle.std.specs.Prelude.{Option}
use Rattle.plane.specs.Point.{Point, whole}
use Rattle.rings.specs.Ring.{vertex}
use Rattle.meshes.proofs.Cones.{cone_beyond, home_cone}
use Rattle.meshes.proofs.Sides.{ends_below}
use Rattle.meshes.specs.Cone.{Cone, IsConeOf, narrowed}
use Rattle.meshes.specs.Fits.{Fits, IsInTri, IsSideOfOne}
use Rattle.meshes.specs.Mesh.{side_begin, side_end}
use Rattle.meshes.specs.Side.{tri_at}
use Rattle.meshes.specs.declared.tri.Tri.{Tri}
use Rattle.tri_mesh.proofs.Neighbours.{has_side_numbered}
use Rattle.plane.proofs.Lists.{few_numbers}
use Rattle.see_cone.proofs.SidesBeyond.{differs_beyond, not_beyond_two, one_beyond, touch_beyond}
use Rattle.see_cone.proofs.WaysHome.{forth_of, home_from, one_from, reached_beside}
use Rattle.see_cone.specs.Reached.{AreDone, AreNewBeyond, AreReached, IsAcrossSide, IsBeyondFirst, IsReachGrown, IsTriReached, IsReachedAt, IsNextHomeward}
use Rattle.see_cone.specs.Reached.{IsSideReached, cone_there, reached_at, tri_there}
use Rattle.see_cone.specs.declared.reached.Reached.{Reached}

-- what was reached stays so
pub stays_reached : (a b : List Reached) (New : ℕ → Type 0) → IsReachGrown a b New → (k : ℕ) → IsTriReached a k → IsTriReached b k
stays_reached a b New grown k is = (is.0, omega (arith, grown.longer, is.1), ap (λ (o : Reached). o.tri) (grown.kept is.0 is.1) ∙ is.2)

-- nothing more
pub grown_none : (a : List Reached) (New : ℕ → Type 0) → IsReachGrown a a New
grown_none a New = record { longer = omega arith; kept = λ p h. refl; added = λ l is. inl is }

-- beyond one more side
pub grown_beyond : (tris : List Tri) (k sides : ℕ) (a b c : List Reached) → IsReachGrown a b (IsBeyondFirst tris k sides)
    → IsReachGrown b c (IsAcrossSide tris k sides) → IsReachGrown a c (IsBeyondFirst tris k (sides + 1))
grown_beyond tris k sides a b c first second = record {
  longer = omega (arith, first.longer, second.longer);
  kept = λ p h. second.kept p (omega (arith, first.longer)) ∙ first.kept p h;
  added = λ l is. elim (second.added l is) [
    | inl was ↦ elim (first.added l was) [
      | inl old ↦ inl old
      | inr new ↦ inr (new.0, omega (arith, new.1), new.2)
    ]
    | inr here ↦ inr (sides, omega arith, here)
  ];
}

module _ {corners : List Point} {tris : List Tri} (fits : Fits corners tris) {q : Point} where
  -- from one place alone
  pub reached_one : (home : ℕ) (sight : Option Cone) → home < length tris → IsInTri corners (tri_at tris home) (whole q)
      → sight ≡ Some (record { left = q; right = q }) → AreReached corners tris q (record { tri = home; from = home; cone = sight } ∷ []) 0
  reached_one home sight below in_home is = record {
    some = omega arith;
    in_home = in_home;
    at_places = λ p h.
        let first : p ≡ 0 = omega arith in
        rw first (record {
          in_list = below;
          from = home_from tris fits.tree home below;
          from_place = λ some. absurd (omega arith);
          cone = subst (IsConeOf corners tris q home) (sym is) (home_cone corners tris fits q home in_home below);
        });
    once = λ p r h g same. omega arith;
  }

  module _ {reached : List Reached} {bound : ℕ} (are : AreReached corners tris q reached bound) where
    abbrev home : ℕ
    home = tri_there reached 0

    pub home_below : home < length tris
    home_below = (are.at_places 0 are.some).in_list

    -- the ends of the sides of each are corners
    pub side_below : (p : ℕ) → p < length reached → (side : ℕ) → side < 3
        → (let t = tri_at tris (tri_there reached p) in (side_begin t side < length corners) × (side_end t side < length corners))
    side_below p h side few =
        let k = tri_there reached p in
        let t = tri_at tris k in
        ends_below corners tris fits k (side_begin t side) (side_end t side) (are.at_places p h).in_list (has_side_numbered t side few)

    -- a higher bound
    pub reached_above : (above : ℕ) → bound ≤ above → AreReached corners tris q reached above
    reached_above above less = record {
      some = are.some;
      in_home = are.in_home;
      at_places = λ p h.
          let at = are.at_places p h in
          record {
            in_list = at.in_list;
            from = at.from;
            from_place = λ some. let m = at.from_place some in (m.0, omega (arith, m.1), m.2, m.3);
            cone = at.cone;
          };
      once = are.once;
    }

    -- there are as many as triangles at most
    pub few_reached : length reached ≤ length tris
    few_reached =
        let numbers = map (λ (o : Reached). o.tri) reached in
        let long : length numbers ≡ length reached = length-map reached (λ (o : Reached). o.tri) in
        let at = λ (i : ℕ) (h : i < length reached). get_or-map (λ (o : Reached). o.tri) reached i (record { tri = 0; from = 0; cone = None }) 0 h in
        let few : length numbers ≤ length tris = few_numbers numbers (length tris)
        (λ i h. let below : i < length reached = omega arith in rw (at i below) (are.at_places i below).in_list)
        (λ i j before h same.
        let i_below : i < length reached = omega arith in
        let j_below : j < length reached = omega arith in
        let one = are.once i j i_below j_below (sym (at i i_below) ∙ same ∙ at j j_below) in
        omega arith) in
        omega arith

    -- the triangle from which one was reached was reached
    pub from_reached : (p : ℕ) → p < length reached → IsTriReached reached (reached_at reached p).from
    from_reached p below = elim (cases_eq p 0) [
      | inl first ↦
          let at = are.at_places 0 are.some in
          let is : (reached_at reached 0).from ≡ home =
          one_from tris fits.tree home home_below home (reached_at reached 0).from home home_below at.from (home_from tris fits.tree home home_below) in
          rw first (0, are.some, sym is)
      | inr other ↦ let m = (are.at_places p below).from_place (omega arith) in (m.0, m.2, m.3)
    ]

    module _ (p : ℕ) (below : p < length reached) (side : ℕ) (number : side < 3) (l : ℕ) (beyond : IsAcrossSide tris (tri_there reached p) side l) where
      abbrev k : ℕ
      k = tri_there reached p

      k_below : k < length tris
      k_below = (are.at_places p below).in_list

      differs : ¬ (l ≡ k)
      differs = differs_beyond corners tris fits k k_below side l number beyond

      -- a triangle beyond a side, other than that from which this one was reached, is reached from it,
      pub from_beyond : ¬ (l ≡ (reached_at reached p).from) → IsNextHomeward tris home k l
      from_beyond other =
          reached_beside tris fits.tree home home_below k (reached_at reached p).from l k_below beyond.in_list (are.at_places p below).from
          (touch_beyond tris k side l number beyond) differs other

      -- has its cone,
      pub cone_over : IsNextHomeward tris home k l → (sight : Option Cone) → IsConeOf corners tris q k sight
          → IsConeOf corners tris q l (narrowed q sight (vertex corners (side_end (tri_at tris k) side)) (vertex corners (side_begin (tri_at tris k) side)))
      cone_over from sight cone =
          let t = tri_at tris k in
          let way = forth_of tris fits.tree home home_below k l k_below beyond.in_list differs from in
          cone_beyond corners tris fits q home are.in_home k way.walk way.near (side_begin t side) (side_end t side) sight cone
          l way.far (has_side_numbered t side number) beyond.has

      -- and was not reached before, where all were from earlier places
      pub not_reached : bound ≤ p → ¬ (l ≡ (reached_at reached p).from) → ¬ IsTriReached reached l
      not_reached early other (j, j_below, is) =
          let from = from_beyond other in
          elim (cases_eq j 0) [
            | inl first ↦
                let e : home ≡ l = rw first at is in
                let same : k ≡ home = one_from tris fits.tree home home_below home k home home_below
                (subst (IsNextHomeward tris home k) (sym e) from) (home_from tris fits.tree home home_below) in
                differs (sym e ∙ sym same)
            | inr later ↦
                let at = are.at_places j j_below in
                let m = at.from_place (omega arith) in
                let same : k ≡ (reached_at reached j).from = one_from tris fits.tree home home_below l k (reached_at reached j).from beyond.in_list
                from (subst (IsNextHomeward tris home (reached_at reached j).from) is at.from) in
                let one : m.0 ≡ p = are.once m.0 p m.2 below (m.3 ∙ sym same) in
                omega (arith, m.1)
          ]

    -- ---- one more

    module _ (o : Reached) (in_list : o.tri < length tris) (new : ¬ IsTriReached reached o.tri) (from : IsNextHomeward tris home o.from o.tri)
        (m : ℕ) (m_early : m < bound) (m_below : m < length reached) (m_is : tri_there reached m ≡ o.from)
        (cone : IsConeOf corners tris q o.tri o.cone) where
      abbrev pub more : List Reached
      more = reached ++ o ∷ []

      pub length_more : length more ≡ length reached + 1
      length_more = length-append reached (o ∷ [])

      pub at_earlier : (p : ℕ) → p < length reached → reached_at more p ≡ reached_at reached p
      at_earlier p h = get_or_append_left reached (o ∷ []) (record { tri = 0; from = 0; cone = None }) p h

      pub at_last : (p : ℕ) → p ≡ length reached → reached_at more p ≡ o
      at_last p is = get_or_push reached o (record { tri = 0; from = 0; cone = None }) p (sym is)

      -- the triangle at an earlier place
      tri_earlier : (p : ℕ) → p < length reached → tri_there more p ≡ tri_there reached p
      tri_earlier p h = ap (λ (x : Reached). x.tri) (at_earlier p h)

      -- a place by what is there
      place_by : (p : ℕ) (x : Reached) → reached_at more p ≡ x → x.tri < length tris → IsNextHomeward tris home x.from x.tri
          → (0 < p → (n : ℕ) × (n < bound) × (n < length reached) × (tri_there reached n ≡ x.from)) → IsConeOf corners tris q x.tri x.cone
          → IsReachedAt corners tris q more bound p
      place_by p x is x_below x_from x_place x_cone = record {
        in_list = subst (λ (y : Reached). y.tri < length tris) (sym is) x_below;
        from = subst (λ (y : Reached). IsNextHomeward tris (tri_there more 0) y.from y.tri) (sym is)
            (subst (λ h. IsNextHomeward tris h x.from x.tri) (sym (tri_earlier 0 are.some)) x_from);
        from_place = λ some.
            let n = x_place some in
            (n.0, n.1, omega (arith, length_more, n.2), tri_earlier n.0 n.2 ∙ n.3 ∙ ap (λ (y : Reached). y.from) (sym is));
        cone = subst (λ (y : Reached). IsConeOf corners tris q y.tri y.cone) (sym is) x_cone;
      }

      place_more : (p : ℕ) → p < length more → IsReachedAt corners tris q more bound p
      place_more p h = elim (cases_eq p (length reached)) [
        | inl last ↦ place_by p o (at_last p last) in_list from (λ some. (m, m_early, m_below, m_is)) cone
        | inr other ↦
            let earlier : p < length reached = omega (arith, length_more) in
            let at = are.at_places p earlier in
            place_by p (reached_at reached p) (at_earlier p earlier) at.in_list at.from at.from_place at.cone
      ]

      -- the new one is none of the earlier ones
      not_last : (p : ℕ) → p < length reached → ¬ (tri_there more p ≡ o.tri)
      not_last p h same = new (p, h, ap (λ (x : Reached). x.tri) (sym (at_earlier p h)) ∙ same)

      once_more : (p r : ℕ) → p < length more → r < length more → tri_there more p ≡ tri_there more r → p ≡ r
      once_more p r h g same =
          let tri = λ (x : Reached). x.tri in
          elim (cases_eq p (length reached)) [
            | inl p_last ↦ elim (cases_eq r (length reached)) [
              | inl r_last ↦ omega arith
              | inr other ↦ absurd (not_last r (omega (arith, length_more)) (sym same ∙ ap tri (at_last p p_last)))
            ]
            | inr p_other ↦ elim (cases_eq r (length reached)) [
              | inl r_last ↦ absurd (not_last p (omega (arith, length_more)) (same ∙ ap tri (at_last r r_last)))
              | inr r_other ↦
                  let p_in : p < length reached = omega (arith, length_more) in
                  let r_in : r < length reached = omega (arith, length_more) in
                  are.once p r p_in r_in (ap tri (sym (at_earlier p p_in)) ∙ same ∙ ap tri (at_earlier r r_in))
            ]
          ]

      pub reached_more : AreReached corners tris q more bound
      reached_more = record {
        some = omega (arith, length_more);
        in_home = subst (λ h. IsInTri corners (tri_at tris h) (whole q)) (sym (tri_earlier 0 are.some)) are.in_home;
        at_places = place_more;
        once = once_more;
      }

      pub is_more : IsTriReached more o.tri
      is_more = (length reached, omega (arith, length_more), ap (λ (x : Reached). x.tri) (at_last (length reached) refl))

      pub grown_more : (New : ℕ → Type 0) → New o.tri → IsReachGrown reached more New
      grown_more New is_new = record {
        longer = omega (arith, length_more);
        kept = at_earlier;
        added = λ l is. elim (cases_eq is.0 (length reached)) [
          | inl last ↦
              inr (subst New (ap (λ (x : Reached). x.tri) (sym (at_last is.0 last)) ∙ is.2) is_new)
          | inr other ↦
              let earlier : is.0 < length reached = omega (arith, length_more, is.1) in
              inl (is.0, earlier, ap (λ (x : Reached). x.tri) (sym (at_earlier is.0 earlier)) ∙ is.2)
        ];
      }

  -- ---- the sides of a triangle

  module _ {reached : List Reached} {bound : ℕ} (are : AreReached corners tris q reached bound) (p : ℕ) (below : p < length reached)
      (p_early : p < bound) (side : ℕ) (number : side < 3) where
    -- the triangle at the place
    abbrev at : ℕ
    at = tri_there reached p

    at_below : at < length tris
    at_below = (are.at_places p below).in_list

    -- beyond a side of one triangle there is none
    pub none_done : IsSideOfOne tris (side_begin (tri_at tris at) side) (side_end (tri_at tris at) side) at → IsSideReached tris reached at side
    none_done one l beyond =
        absurd (differs_beyond corners tris fits at at_below side l number beyond (one.only l beyond.in_list (inr beyond.has)))

    module _ (l : ℕ) (beyond : IsAcrossSide tris at side l) where
      -- a side is done where the triangle beyond it was reached
      pub reached_done : (after : List Reached) → IsTriReached after l → IsSideReached tris after at side
      reached_done after is m over = subst (IsTriReached after) (one_beyond corners tris fits at at_below side l m beyond over) is

      -- as that from which this one was reached was
      pub back_done : l ≡ (reached_at reached p).from → IsSideReached tris reached at side
      back_done same = reached_done reached (subst (IsTriReached reached) (sym same) (from_reached are p below))

      -- another one is reached now
      module _ (other : ¬ (l ≡ (reached_at reached p).from)) (new : ¬ IsTriReached reached l) (cone : Option Cone)
          (is : cone ≡ narrowed q (cone_there reached p) (vertex corners (side_end (tri_at tris at) side)) (vertex corners (side_begin (tri_at tris at) side))) where
        abbrev over : Reached
        over = record { tri = l; from = at; cone = cone }

        from : IsNextHomeward tris (tri_there reached 0) at l
        from = from_beyond are p below side number l beyond other

        seen : IsConeOf corners tris q l cone
        seen = subst (IsConeOf corners tris q l) (sym is)
            (cone_over are p below side number l beyond from (cone_there reached p) (are.at_places p below).cone)

        pub over_all : AreReached corners tris q (reached ++ over ∷ []) bound
            × (IsReachGrown reached (reached ++ over ∷ []) (IsAcrossSide tris at side) × IsSideReached tris (reached ++ over ∷ []) at side)
        over_all = (
          reached_more are over beyond.in_list new from p p_early below refl seen,
          (
            grown_more are over beyond.in_list new from p p_early below refl seen (IsAcrossSide tris at side) beyond,
            reached_done (reached ++ over ∷ []) (is_more are over beyond.in_list new from p p_early below refl seen),
          ),
        )

  -- what is beyond the next side is new still
  pub new_beyond : {a b : List Reached} {p : ℕ} (side : ℕ) → p < length a → side < 3 → AreReached corners tris q a p
      → IsReachGrown a b (IsBeyondFirst tris (tri_there a p) side) → AreNewBeyond tris b p side
  new_beyond {a} {b} {p} side below number are grown l beyond other is =
      let same = grown.kept p below in
      let k = tri_there a p in
      let here : IsAcrossSide tris k side l = subst (λ (x : Reached). IsAcrossSide tris x.tri side l) same beyond in
      let not_from : ¬ (l ≡ (reached_at a p).from) = subst (λ (x : Reached). ¬ (l ≡ x.from)) same other in
      elim (grown.added l is) [
        | inl old ↦ not_reached are p below side number l here (omega arith) not_from old
        | inr new ↦ not_beyond_two corners tris fits k (are.at_places p below).in_list new.0 side l new.1 number new.2 here
      ]

-- where all sides of the triangle at one more place are done
pub done_more : (tris : List Tri) (a b : List Reached) (New : ℕ → Type 0) (n : ℕ) → n < length a → IsReachGrown a b New → AreDone tris a n
    → (¬ (cone_there a n ≡ None) → (side : ℕ) → side < 3 → IsSideReached tris b (tri_there a n) side) → AreDone tris b (n + 1)
done_more tris a b New n below grown done here p early p_below cone side number = elim (cases_eq p n) [
  | inl last ↦
      let same : reached_at b p ≡ reached_at a n = subst (λ m. reached_at b m ≡ reached_at a n) (sym last) (grown.kept n below) in
      subst (λ (x : Reached). IsSideReached tris b x.tri side) (sym same)
      (here (subst (λ (x : Reached). ¬ (x.cone ≡ None)) same cone) side number)
  | inr other ↦
      let in_a : p < length a = omega arith in
      let same = grown.kept p in_a in
      subst (λ (x : Reached). IsSideReached tris b x.tri side) (sym same)
      (λ l beyond. stays_reached a b New grown l
      (done p (omega arith) in_a (subst (λ (x : Reached). ¬ (x.cone ≡ None)) same cone) side number l beyond))
]

-- the first sides of a triangle are done, and one more
pub sides_done : (tris : List Tri) (k side : ℕ) (a b : List Reached) (New : ℕ → Type 0) → IsReachGrown a b New
    → ((t : ℕ) → t < side → IsSideReached tris a k t) → IsSideReached tris b k side → (t : ℕ) → t < side + 1 → IsSideReached tris b k t
sides_done tris k side a b New grown before here t h = elim (cases_eq t side) [
  | inl last ↦ subst (IsSideReached tris b k) (sym last) here
  | inr other ↦ λ l beyond. stays_reached a b New grown l (before t (omega arith) l beyond)
]

-- a place with no cone is done
pub done_skip : (tris : List Tri) (reached : List Reached) (n : ℕ) → cone_there reached n ≡ None → AreDone tris reached n → AreDone tris reached (n + 1)
done_skip tris reached n none done p early below cone side number = elim (cases_eq p n) [
  | inl last ↦ absurd (cone (ap (cone_there reached) last ∙ none))
  | inr other ↦ done p (omega arith) below cone side number
]
