-- The numbers of a row, and the table that the rows make.
-- A row that grows outward from the home triangle: at home, at one more place, and at all.
-- A row that was read from a table, and a number from the row.
use Rattle.std.proofs.Common.{◌≡◌, ◌≢◌, inl, inr, refl, sym, subst, ◌∙◌, ℕ, ◌*◌, ◌<◌, ◌≤◌, List, [], ◌∷◌, ◌++◌, length, map, arith, ap, ◌+◌}
use Rattle.std.proofs.Common.{replicate, set, slice_index, get_or}
use Rattle.std.proofs.lemmas.Bool.{cases_lt, cases_eq}
use Rattle.std.proofs.lemmas.List.{get_or_append_left, get_or_push, length-map, length_push, map_push, get_or-replicate, get_or-set_other}
use Rattle.std.proofs.lemmas.List.{get_or-set_same, length-replicate, length-set, get_or-map, get_or_read}
use Rattle.std.proofs.lemmas.Nat.{mul-le}
use Rattle.plane.specs.Point.{Point}
use Rattle.rings.proofs.Simple.{apart_of_simple}
use Rattle.rings.proofs.Vertices.{one_to_one}
use Rattle.rings.specs.From.{IsPredecessor}
use Rattle.rings.specs.Ring.{vertex}
use Rattle.rings.specs.Simple.{IsSimple}
use Rattle.meshes.proofs.Sides.{one_at_edge}
use Rattle.meshes.specs.Fits.{Fits}
use Rattle.meshes.specs.Side.{tri_at, HasCorner}
use Rattle.meshes.specs.declared.tri.Tri.{Tri}
use Rattle.funnels.proofs.Bends.{corner_in}
use Rattle.funnels.proofs.Corners.{side_corners}
use Rattle.funnels.proofs.Trees.{before_differs, before_at_home}
use Rattle.funnels.proofs.Vertices.{fitted_long, fitted_simple}
use Rattle.tri_mesh.specs.Outward.{IsOutward, at_place}
use Rattle.tri_mesh.specs.declared.outward.Outward.{Outward}
use Rattle.shared_seq.specs.Digits.{binary_digits}
use Rattle.path_tree.proofs.NextFunnels.{beyond_at, corner_had, from_start, third_below}
use Rattle.path_tree.proofs.FunnelNumbers.{point_there}
use Rattle.path_tree.proofs.ReachedBefore.{before_third}
use Rattle.path_tree.proofs.StepCounts.{home_steps, three_digits}
use Rattle.path_tree.proofs.Doors.{corner_below}
use Rattle.path_tree.specs.Entered.{IsFromStart, left_of, right_of, third_of}
use Rattle.path_tree.specs.Listed.{point_of}
use Rattle.pair_cut.specs.Doors.{IsGrownTo, IsTangentTo, tangent_at}
use Rattle.pair_cut.specs.Pairs.{IsBeforeVertex, IsMadeFor, pair_before}
use Rattle.pair_cut.specs.Rows.{AreRows, IsNumberBefore, IsRow, IsTable}
use Rattle.pair_cut.specs.declared.climb.Tangent.{Tangent}

-- each vertex is a corner of a triangle of a mesh
pub corner_of_some : (corners : List Point) (tris : List Tri) → Fits corners tris → (i : ℕ) → i < length corners
    → (k : ℕ) × (k < length tris) × HasCorner (tri_at tris k) i
corner_of_some corners tris fits i h =
    let (k, one) = one_at_edge corners tris fits i h in (k, one.in_list, (side_corners (tri_at tris k) i _ one.has).0)

-- ---- one number

module _ (ring : List Point) (simple : IsSimple ring) (i x : ℕ) where
  -- before vertex i itself it is i,
  pub itself_told : IsNumberBefore ring i i x → x ≡ i
  itself_told told = elim told [
    | inl at ↦ at.1
    | inr other ↦ absurd (before_differs ring (vertex ring i) (vertex ring i) (vertex ring x) other.before refl)
  ]

  -- and before another the one that comes before
  pub other_told : (j : ℕ) → i < length ring → j < length ring → i ≢ j → IsNumberBefore ring i j x → IsBeforeVertex ring i j x
  other_told j h k differ told = elim told [
    | inl at ↦ absurd (differ (one_to_one (vertex ring) (length ring) (apart_of_simple ring simple).distinct i j h k (sym at.0)))
    | inr other ↦ other
  ]

-- ---- all rows, as they are seen

module _ {X : Type 0} (f : X → List ℕ) (ring : List Point) (rows : List X) (are : AreRows ring (map f rows)) where
  -- after the rows that there are comes the next,
  pub rows_more : (row : X) (i : ℕ) → length rows ≡ i → IsRow ring i (f row) → AreRows ring (map f (rows ++ row ∷ []))
  rows_more row i count next =
      let seen = map f rows in
      let all : length seen ≡ i = length-map rows f ∙ count in
      subst (AreRows ring) (sym (map_push f rows row))
      (λ j below. elim (cases_lt j (length seen)) [
        | inl less ↦ subst (IsRow ring j) (sym (get_or_append_left seen (f row ∷ []) [] j less)) (are j less)
        | inr last ↦
            let at : length seen ≡ j = omega (arith, below, length_push seen (f row), last) in
            subst (IsRow ring j) (sym (get_or_push seen (f row) [] j at)) (subst (λ n. IsRow ring n (f row)) (sym all ∙ at) next)
      ])

  -- and as many as there are vertices are a table
  pub table_of_rows : (tris : List Tri) → Fits ring tris → length rows ≡ length ring → IsMadeFor ring (map f rows)
  table_of_rows tris fits count =
      let all : length (map f rows) ≡ length ring = length-map rows f ∙ count in
      record {
        some = fitted_long ring tris fits;
        simple = fitted_simple ring tris fits;
        rows = all;
        row = λ i h. (are i (omega (arith, h, all))).count;
        itself = λ i h. (are i (omega (arith, h, all))).itself;
        others = λ i j h k differ. (are i (omega (arith, h, all))).others j k differ;
      }

-- some rows take no more steps than all
pub rows_paid : (i n b : ℕ) → i ≤ n → i * (200 * n * (b * b)) ≤ 200 * (n * n) * (b * b)
rows_paid i n b le = omega (arith, mul-le i (200 * n * (b * b)) n (200 * n * (b * b)) le (omega arith))

-- an order outward from a triangle with vertex i at a corner is one from that vertex
pub from_vertex : (corners : List Point) (i : ℕ) (tris : List Tri) (k : ℕ) (order : List Outward) → Fits corners tris → k < length tris
    → HasCorner (tri_at tris k) i → IsOutward tris k order → IsFromStart corners (vertex corners i) tris order
from_vertex corners i tris k order fits within has =
    from_start corners (vertex corners i) tris k order fits within (corner_in corners tris fits k within i has)

module _ (corners : List Point) (i : ℕ) (tris : List Tri) (order : List Outward) (from : IsFromStart corners (vertex corners i) tris order) where
  abbrev start : Point
  start = vertex corners i

  -- what the row has is told
  abbrev HasNumber : List ℕ → ℕ → Type 0
  HasNumber before j = IsNumberBefore corners i j (slice_index before j)

  -- ---- at home

  -- vertex i comes before each corner there
  home_told : i < length corners → HasCorner (tri_at tris (at_place order 0)) i → (j : ℕ) → HasCorner (tri_at tris (at_place order 0)) j
      → IsNumberBefore corners i j i
  home_told vertex_in home j has = elim (cases_eq j i) [
    | inl same ↦ inl (ap (vertex corners) same, refl)
    | inr other ↦
        let simple = fitted_simple corners tris from.fits in
        let home_in = from.outward.in_list 0 from.some in
        let below = corner_below corners tris from.fits (at_place order 0) home_in j has in
        inr (record {
          in_ring = vertex_in;
          before = before_at_home corners tris from.fits (at_place order 0) home_in start (vertex corners j) from.home
              (corner_in corners tris from.fits (at_place order 0) home_in j has)
              (λ same. other (one_to_one (vertex corners) (length corners) (apart_of_simple corners simple).distinct j i below vertex_in
              (sym same)));
        })
  ]

  -- so a row of that number alone has grown so far
  pub grown_at_home : i < length corners → HasCorner (tri_at tris (at_place order 0)) i → (count : ℕ) → count ≡ length corners
      → (tangents : List Tangent) → length tangents ≡ length order → IsGrownTo corners i tris order 1 (replicate count i) tangents
  grown_at_home vertex_in home count all tangents places = record {
    vertices = length-replicate count i ∙ all;
    told = λ j on.
        let (q, less, has) = on in
        let first : q ≡ 0 = omega (arith, less) in
        let at_home = subst (λ r. HasCorner (tri_at tris (at_place order r)) j) first has in
        let below = corner_below corners tris from.fits (at_place order 0) (from.outward.in_list 0 from.some) j at_home in
        subst (IsNumberBefore corners i j) (sym (get_or-replicate count j i 0 (omega (arith, below, all))))
        (home_told vertex_in home j at_home);
    places = places;
    tangents_told = λ q later less. absurd (omega (arith, later, less));
  }

  -- ---- at one more place

  module _ (p : ℕ) (later : 0 < p) (below : p < length order) (before : List ℕ) (tangents : List Tangent)
      (grown : IsGrownTo corners i tris order p before tangents) where
    module _ (t : Tangent) (to : IsTangentTo corners i tris order p t) where
      -- the vertex from which the third corner is reached comes before it,
      third_told : IsNumberBefore corners i (third_of tris order p) t.near
      third_told =
          let h = to.tangent.place in
          let inside : h < length to.f.list =
          omega (arith, to.tangent.reached.within, length-map to.f.list (point_of corners start)) in
          inr (record {
            in_ring = to.tangent.near.0;
            before = subst (IsPredecessor corners start (vertex corners (third_of tris order p)))
                (sym (to.tangent.near.1 ∙ point_there corners start to.f.list h inside))
                (before_third corners start tris (at_place order p) (left_of tris order p) (right_of tris order p) (third_of tris order p) p
                from.fits (beyond_at corners start tris order from p later below) to.f to.has.funnel h to.tangent.reached);
          })

      -- and with it the row has grown over that place
      pub grown_more : (m : ℕ) → m ≡ third_of tris order p
          → IsGrownTo corners i tris order (p + 1) (set before m t.near) (set tangents p t)
      grown_more m third =
          let m_below = third_below corners start tris order from p later below in
          record {
            vertices = length-set before m t.near ∙ grown.vertices;
            told = λ j on. elim (cases_eq j m) [
              | inl same ↦
                  subst (HasNumber (set before m t.near)) (sym same)
                  (subst (IsNumberBefore corners i m) (sym (get_or-set_same before m t.near 0 (omega (arith, third, m_below, grown.vertices))))
                  (subst (λ k. IsNumberBefore corners i k t.near) (sym third) third_told))
              | inr other ↦
                  let (q, less, has) = on in
                  subst (IsNumberBefore corners i j) (sym (get_or-set_other before m j t.near 0 other))
                  (corner_had corners start tris order from p later below (HasNumber before) (λ r k less has. grown.told k (r, less, has)) q j less has
                  (λ e. other (e ∙ sym third)))
            ];
            places = length-set tangents p t ∙ grown.places;
            tangents_told = λ q some less. elim (cases_eq q p) [
              | inl same ↦
                  subst (λ r. IsTangentTo corners i tris order r (tangent_at (set tangents p t) r)) (sym same)
                  (subst (IsTangentTo corners i tris order p) (sym (get_or-set_same tangents p t _ (omega (arith, below, grown.places)))) to)
              | inr differ ↦
                  subst (IsTangentTo corners i tris order q) (sym (get_or-set_other tangents p q t _ differ))
                  (grown.tangents_told q some (omega (arith, less, differ)))
            ];
          }

  -- ---- at all places

  -- each vertex is on the way, so it is the row of vertex i
  pub row_of_grown : i < length corners → (p : ℕ) → p ≡ length order → (before : List ℕ) (tangents : List Tangent)
      → IsGrownTo corners i tris order p before tangents → IsRow corners i before
  row_of_grown vertex_in p last before tangents grown =
      let simple = fitted_simple corners tris from.fits in
      let told = λ (j : ℕ) (below : j < length corners).
      let (k, within, has) = corner_of_some corners tris from.fits j below in
      let (q, less, is) = from.outward.all k within in
      grown.told j (q, omega (arith, less, last), subst (λ l. HasCorner (tri_at tris l) j) (sym is) has) in
      record {
        count = grown.vertices;
        itself = itself_told corners simple i (slice_index before i) (told i vertex_in);
        others = λ j below differ. other_told corners simple i (slice_index before j) j vertex_in below differ (told j below);
      }

-- A step for each vertex at each place is few at a thousand vertices or so.
pub places_paid : (p n : ℕ) → p ≤ n → n ≤ 1024 → p * n ≤ 200 * n * (binary_digits n * binary_digits n)
places_paid p n le few =
    let b = binary_digits n in
    let enough : p ≤ 200 * (binary_digits n * binary_digits n) = elim (cases_lt n 4) [
      | inl small ↦ elim (cases_lt 0 n) [
        | inl some ↦ omega (arith, le, small, home_steps n some)
        | inr none ↦ omega (arith, le, none)
      ]
      | inr more ↦
          let three = three_digits n more in
          omega (arith, le, few, mul-le 3 3 b b three three)
    ] in
    omega (arith, mul-le p n (200 * (b * b)) n enough (omega arith))

module _ {X : Type 0} (f : X → List ℕ) (rows : List X) (before : List (List ℕ)) (same : map f rows ≡ before) (kept : IsTable (map f rows))
  where
    -- what is seen of it is a table,
    pub table_of : IsTable before
    table_of = subst IsTable same kept

    -- with as many rows
    pub rows_of : length rows ≡ length before
    rows_of = sym (length-map rows f) ∙ ap length same

    module _ (i : ℕ) (h : i < length before) (row : X) (read : row ≡ get_or rows i row) where
      -- the row is row i of it,
      row_is : f row ≡ get_or before i []
      row_is =
          ap f read ∙ sym (get_or-map f rows i row [] (omega (arith, h, rows_of))) ∙ ap (λ l. get_or l i []) same

      -- with as many numbers as there are rows,
      pub row_long : length (f row) ≡ length before
      row_long = let m = table_of.made in ap length row_is ∙ m.row i (omega (arith, h, m.rows)) ∙ sym m.rows

      -- and each is the one of the table
      pub number_is : (j x : ℕ) → j < length before → x ≡ get_or (f row) j x → x ≡ pair_before before i j
      number_is j x below is = get_or_read (f row) j x (omega (arith, below, row_long)) is 0 ∙ ap (λ l. get_or l j 0) row_is
