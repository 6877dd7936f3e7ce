-- Where all sides of the triangles that are seen are done, of each triangle that was not reached nothing is seen; and what the cones tell of
-- the edges.
-- What the cones of the triangles that were reached tell of all edges, in their order; and the edges between two of them.
use Rattle.std.proofs.Common.{◌≡◌, ◌⊎◌, inl, inr, refl, sym, subst, ℕ, ◌+◌, ◌%◌, ◌<◌, List, [], ◌∷◌, length, Some, None, ap, ◌∙◌, zero, suc}
use Rattle.std.proofs.Common.{◌-◌, ◌≤◌, arith}
use Rattle.std.specs.Prelude.{Option}
use Rattle.std.proofs.lemmas.Bool.{cases_eq, cases_lt}
use Rattle.std.proofs.lemmas.List.{get_or_default, get_or_past}
use Rattle.plane.specs.Point.{Point, whole}
use Rattle.rings.specs.Visible.{IsUnseen, AreParts, Part}
use Rattle.meshes.proofs.Cones.{cone_beyond, edge_part, edge_unseen}
use Rattle.meshes.proofs.Sides.{edge_of_one, one_at_edge}
use Rattle.meshes.proofs.Walks.{IsPath, IsPlace, Touch, share_back, tree_of_walks}
use Rattle.meshes.specs.Cone.{Cone, IsConeOf}
use Rattle.meshes.specs.Fits.{Fits, IsSideOfOne}
use Rattle.meshes.specs.Mesh.{side_begin, side_end}
use Rattle.meshes.specs.Side.{tri_at}
use Rattle.meshes.specs.declared.tri.Tri.{Tri}
use Rattle.tri_mesh.proofs.Neighbours.{has_side_numbered, numbered_side}
use Rattle.see_cone.proofs.FirstParts.{first_gap, first_none, parts_of_all}
use Rattle.see_cone.proofs.ReachedMore.{home_below}
use Rattle.see_cone.proofs.SidesBeyond.{beyond_touch}
use Rattle.see_cone.proofs.WaysHome.{forth}
use Rattle.see_cone.specs.Reached.{AreAllReached, IsAcrossSide, IsTriReached, cone_there, tri_there, AreSorted, placed_at}
use Rattle.see_cone.specs.Told.{IsConeTold, AreFirstParts, AreTold, edge_or}
use Rattle.see_cone.specs.declared.edges.Placed.{Placed}
use Rattle.see_cone.specs.declared.reached.Reached.{Reached}

-- there is a cone or not
pub none_or_not : (sight : Option Cone) → (sight ≡ None) ⊎ (¬ (sight ≡ None))
none_or_not None = inl refl
none_or_not (Some c) = inr (λ e. absurd cc)

module _ (corners : List Point) (tris : List Tri) (fits : Fits corners tris) (q : Point) (reached : List Reached)
    (all : AreAllReached corners tris q reached) where
  abbrev home : ℕ
  home = tri_there reached 0

  at_home : home < length tris
  at_home = home_below fits all.are

  -- a triangle was reached, or of it nothing is seen
  abbrev pub IsReachedOrUnseen : ℕ → Type 0
  IsReachedOrUnseen k = IsTriReached reached k ⊎ IsConeOf corners tris q k None

  -- it is so beyond a triangle of which nothing is seen,
  unseen_beyond : (k l : ℕ) (rest : List ℕ) → k < length tris → l < length tris → IsPath (IsPlace tris) (Touch tris) l (k ∷ rest) home
      → (side : ℕ) → side < 3 → IsAcrossSide tris k side l → IsConeOf corners tris q k None → IsConeOf corners tris q l None
  unseen_beyond k l rest k_below l_below path side number beyond none =
      let t = tri_at tris k in
      let way = forth tris fits.tree home at_home k l rest k_below l_below path in
      cone_beyond corners tris fits q home all.are.in_home k way.walk way.near (side_begin t side) (side_end t side) None none
      l way.far (has_side_numbered t side number) beyond.has

  -- and beyond one that was reached,
  beyond_reached : (k l : ℕ) (rest : List ℕ) → k < length tris → l < length tris → IsPath (IsPlace tris) (Touch tris) l (k ∷ rest) home
      → (side : ℕ) → side < 3 → IsAcrossSide tris k side l → IsTriReached reached k → IsReachedOrUnseen l
  beyond_reached k l rest k_below l_below path side number beyond (p, below, is) = elim (none_or_not (cone_there reached p)) [
    | inl none ↦
        let cone : IsConeOf corners tris q (tri_there reached p) None =
        subst (IsConeOf corners tris q (tri_there reached p)) none (all.are.at_places p below).cone in
        inr (unseen_beyond k l rest k_below l_below path side number beyond (subst (λ m. IsConeOf corners tris q m None) is cone))
    | inr some ↦
        inl (all.done p below below some side number l (subst (λ m. IsAcrossSide tris m side l) (sym is) beyond))
  ]

  -- so along each path to the home
  along_path : (k : ℕ) (rest : List ℕ) → k < length tris → IsPath (IsPlace tris) (Touch tris) k rest home → IsReachedOrUnseen k
  along_path k [] below path = inl (0, all.are.some, sym path)
  along_path k (b ∷ bs) below path =
      let touch : Touch tris b k = share_back (tri_at tris k) (tri_at tris b) path.1 in
      let (side, number, beyond) = beyond_touch corners tris fits b path.0 k below touch path.2.0 in
      elim (along_path b bs path.0 path.3) [
        | inl is ↦ beyond_reached b k bs path.0 below path side number beyond is
        | inr none ↦ inr (unseen_beyond b k bs path.0 below path side number beyond none)
      ]

  -- and everywhere
  pub reached_or_unseen : (k : ℕ) → k < length tris → IsReachedOrUnseen k
  reached_or_unseen k below =
      let one = tree_of_walks tris fits.tree k home below at_home in
      along_path k one.path below one.is_path

  -- ---- the edges

  -- the cone of a triangle tells what q sees of its edges
  pub edge_told : (i j k : ℕ) (cone : Option Cone) → IsSideOfOne tris i j k → IsConeOf corners tris q k cone → IsConeTold corners q i cone
  edge_told i j k cone one is =
      let walk = fits.tree home k at_home one.in_list in
      let end : j ≡ (i + 1) % length corners = (edge_of_one corners tris fits i j k one).1 in
      let alone : IsSideOfOne tris i ((i + 1) % length corners) k = subst (λ e. IsSideOfOne tris i e k) end one in
      record {
        unseen = edge_unseen corners tris fits q home all.are.in_home k walk.walk walk.between i ((i + 1) % length corners) cone is alone;
        part = edge_part corners tris fits q home all.are.in_home k walk.walk walk.between i ((i + 1) % length corners) cone is alone;
      }

  -- of an edge of a triangle that is unseen nothing is seen
  pub edge_of_unseen : (i j k : ℕ) → IsSideOfOne tris i j k → IsConeOf corners tris q k None → IsUnseen corners (whole q) i
  edge_of_unseen i j k one none = (edge_told i j k None one none).unseen refl

module _ (corners : List Point) (tris : List Tri) (fits : Fits corners tris) (q : Point) (reached : List Reached) (edges : List Placed)
    (all : AreAllReached corners tris q reached) (sorted : AreSorted tris reached edges) where
  -- an edge of a triangle that was reached, and is none of these, is unseen,
  other_reached : (i e p : ℕ) → p < length reached → IsSideOfOne tris i e (tri_there reached p)
      → ((j : ℕ) → j < length edges → ¬ ((placed_at edges j).edge ≡ i)) → IsUnseen corners (whole q) i
  other_reached i e p below one other = elim (none_or_not (cone_there reached p)) [
    | inl none ↦
        edge_of_unseen corners tris fits q reached all i e (tri_there reached p) one
        (subst (IsConeOf corners tris q (tri_there reached p)) none (all.are.at_places p below).cone)
    | inr some ↦
        let t = tri_at tris (tri_there reached p) in
        let (side, number, begins, ends) = numbered_side t i e one.has in
        let (j, j_below, is) = sorted.are.all p below some side number (rw (begins, ends) one) in
        absurd (other j j_below
        (ap (λ (x : Placed). x.edge) (get_or_default edges j (record { edge = 0; place = 0 }) (record { edge = side_begin t side; place = p }) j_below ∙ is)
        ∙ begins))
  ]

  -- and so is each other edge
  others : (i : ℕ) → i < length corners → ((j : ℕ) → j < length edges → ¬ ((placed_at edges j).edge ≡ i)) → IsUnseen corners (whole q) i
  others i below other =
      let (k, one) = one_at_edge corners tris fits i below in
      elim (reached_or_unseen corners tris fits q reached all k one.in_list) [
        | inl at ↦
            other_reached i ((i + 1) % length corners) at.0 at.1
            (subst (λ m. IsSideOfOne tris i ((i + 1) % length corners) m) (sym at.2) one) other
        | inr none ↦ edge_of_unseen corners tris fits q reached all i ((i + 1) % length corners) k one none
      ]

  -- so they are told
  pub are_told : AreTold corners q reached edges
  are_told = record {
    in_ring = λ j h.
        let at = sorted.are.placed j h in
        (edge_of_one corners tris fits (placed_at edges j).edge at.end (tri_there reached (placed_at edges j).place) at.alone).0;
    below = λ j h. (sorted.are.placed j h).below;
    told = λ j h.
        let at = sorted.are.placed j h in
        let p = (placed_at edges j).place in
        edge_told corners tris fits q reached all (placed_at edges j).edge at.end (tri_there reached p) (cone_there reached p) at.alone
        (all.are.at_places p at.below).cone;
    rising = sorted.rising;
    others = others;
  }

module _ (corners : List Point) (q : Point) (reached : List Reached) (edges : List Placed) (told : AreTold corners q reached edges) where
  -- the number of an edge, where there is one
  pub number_there : (j : ℕ) → j < length edges → edge_or (length corners) edges j ≡ (placed_at edges j).edge
  number_there j h =
      ap (λ (x : Placed). x.edge) (get_or_default edges j (record { edge = length corners; place = 0 }) (record { edge = 0; place = 0 }) h)

  -- there are not more before an edge than its number
  edges_before : (j : ℕ) → j < length edges → j ≤ (placed_at edges j).edge
  edges_before zero h = omega arith
  edges_before (suc j) h = omega (arith, edges_before j (omega arith), told.rising j (suc j) (omega arith) h)

  pub few_edges : length edges ≤ length corners
  few_edges = elim (cases_eq (length edges) 0) [
    | inl none ↦ omega arith
    | inr some ↦
        let last : length edges - 1 < length edges = omega arith in
        omega (arith, edges_before (length edges - 1) last, told.in_ring (length edges - 1) last)
  ]

  -- what is between an edge, or the first number, and the next edge is none of these
  between : (j i : ℕ) → j ≤ length edges → ((l : ℕ) → l < j → (placed_at edges l).edge < i) → i < edge_or (length corners) edges j
      → (l : ℕ) → l < length edges → ¬ ((placed_at edges l).edge ≡ i)
  between j i within before less l l_below same = elim (cases_lt l j) [
    | inl earlier ↦ omega (arith, before l earlier)
    | inr later ↦
        let j_below : j < length edges = omega arith in
        let here = number_there j j_below in
        elim (cases_eq j l) [
          | inl one ↦ omega (arith, ap (λ m. (placed_at edges m).edge) one)
          | inr other ↦ omega (arith, told.rising j l (omega arith) l_below)
        ]
  ]

  -- all edges are below their count
  number_within : (j : ℕ) → edge_or (length corners) edges j ≤ length corners
  number_within j = elim (cases_lt j (length edges)) [
    | inl h ↦ omega (arith, number_there j h, told.in_ring j h)
    | inr h ↦ omega (arith, ap (λ (x : Placed). x.edge) (get_or_past edges j (record { edge = length corners; place = 0 }) h))
  ]

  -- the next number is higher
  next_higher : (j : ℕ) → j < length edges → (placed_at edges j).edge + 1 ≤ edge_or (length corners) edges (j + 1)
  next_higher j h = elim (cases_lt (j + 1) (length edges)) [
    | inl next ↦ omega (arith, number_there (j + 1) next, told.rising j (j + 1) (omega arith) next)
    | inr end ↦
        omega (arith, told.in_ring j h, ap (λ (x : Placed). x.edge) (get_or_past edges (j + 1) (record { edge = length corners; place = 0 }) end))
  ]

  -- of the edges before the first one no part is seen,
  pub parts_start : AreFirstParts corners (whole q) (edge_or (length corners) edges 0) []
  parts_start =
      first_gap corners (whole q) 0 [] (first_none corners (whole q)) (edge_or (length corners) edges 0) (omega arith)
      (λ i after less. told.others i (omega (arith, number_within 0)) (between 0 i (omega arith) (λ l h. absurd (omega arith)) less))

  -- nor of those between an edge and the next one
  pub parts_next : (j : ℕ) → j < length edges → (parts : List Part) → AreFirstParts corners (whole q) ((placed_at edges j).edge + 1) parts
      → AreFirstParts corners (whole q) (edge_or (length corners) edges (j + 1)) parts
  parts_next j below parts are =
      first_gap corners (whole q) ((placed_at edges j).edge + 1) parts are (edge_or (length corners) edges (j + 1)) (next_higher j below)
      (λ i after less. told.others i (omega (arith, number_within (j + 1)))
      (between (j + 1) i (omega arith)
      (λ l h. elim (cases_eq l j) [
        | inl last ↦ omega (arith, ap (λ m. (placed_at edges m).edge) last)
        | inr other ↦ omega (arith, told.rising l j (omega arith) below)
      ]) less))

  -- after the last one there is none
  pub parts_end : (j : ℕ) → length edges ≤ j → (parts : List Part) → AreFirstParts corners (whole q) (edge_or (length corners) edges j) parts
      → AreParts corners (whole q) parts
  parts_end j past parts are =
      parts_of_all corners (whole q) parts
      (subst (λ n. AreFirstParts corners (whole q) n parts)
      (ap (λ (x : Placed). x.edge) (get_or_past edges j (record { edge = length corners; place = 0 }) past)) are)
