-- What comes before the last point of a path: in the triangle of the source, and beyond the diagonal of an open funnel.
-- In a simple ring the front of a path is a path: a path without its last point is the path to the one before; and back, the path to what
-- comes before a point and that point make the path to it. So a path has no point twice.
-- Chains with bends as paths, in a ring that triangles fit: within one triangle, and beyond a diagonal, by the point of the funnel from which a
-- point is reached, and on.
-- The way from a source over the apex of a funnel to one of its points: where it begins, and how long it is.
use Rattle.std.proofs.Common.{◌≡◌, refl, ap, ◌∙◌, List, [], ◌∷◌, ◌++◌, length, ℕ, zero, suc, ◌+◌, ◌-◌, min, get_or, arith, sym, subst, ◌≤◌}
use Rattle.std.proofs.Common.{◌<◌, take}
use Rattle.std.proofs.lemmas.List.{append-nil, append_assoc, get_or_append_left, get_or_push, length-append}
use Rattle.plane.proofs.Points.{whole_is_point}
use Rattle.plane.specs.Point.{Point, whole}
use Rattle.rings.specs.Prelude.{IsBentChain, IsIn, IsPath, IsSimple, IsTaut, origin, point_at, vertex}
use Rattle.rings.specs.From.{IsPredecessor}
use Rattle.meshes.proofs.Sight.{sees_in_triangle, triangle_in_ring}
use Rattle.meshes.specs.Prelude.{Fits, HasSide, IsInTri, tri_at}
use Rattle.meshes.specs.declared.tri.Tri.{Tri}
use Rattle.funnels.proofs.Bends.{chain_more, last_end_in}
use Rattle.funnels.proofs.Chains.{one_bent, chain_on, corner_differs, reached_bends, sees_reached}
use Rattle.funnels.proofs.OneChain.{bent_is_path, front_and_last, front_at, front_bent, front_length}
use Rattle.funnels.proofs.Vertices.{fitted_long, fitted_simple, IsSharedSide}
use Rattle.funnels.specs.Funnel.{IsReachedFrom}
use Rattle.funnels.specs.OpenFunnel.{left_behind, leftward, right_behind, rightward, IsOpenFunnel}

-- the points on the way to the one at place h, without that one
abbrev pub way_to : List Point → List Point → ℕ → ℕ → List Point
way_to before ns a h = before ++ left_behind ns a (a - h) ++ right_behind ns (min a h) (h - min a h)

-- the first of some items stays first where others come after it
pub first_stays : {A : Type 0} (none : A) (before : List A) (x : A) (rest : List A)
    → get_or (before ++ x ∷ rest) 0 none ≡ get_or (before ++ x ∷ []) 0 none
first_stays none [] x rest = refl
first_stays none (y ∷ before) x rest = refl

-- so the way to the left begins where that to the apex does,
pub first_left : {A : Type 0} (none : A) (before : List A) (at : ℕ → A) (a c : ℕ) (v : A) → v ≡ at (a - c)
    → get_or (before ++ leftward at a c ++ v ∷ []) 0 none ≡ get_or (before ++ at a ∷ []) 0 none
first_left none before at a zero v is =
    let place : a - 0 ≡ a = omega arith in
    ap (λ xs. get_or (xs ++ v ∷ []) 0 none) (append-nil before)
    ∙ ap (λ x. get_or (before ++ x ∷ []) 0 none) (is ∙ ap at place)
first_left none before at a (suc c) v is =
    ap (λ xs. get_or xs 0 none) (append_assoc before (leftward at a (suc c)) (v ∷ []))
    ∙ first_stays none before (at a) (leftward at (a - 1) c ++ v ∷ [])

-- and the way to the right
pub first_right : {A : Type 0} (none : A) (before : List A) (at : ℕ → A) (a c : ℕ) (v : A) → v ≡ at (a + c)
    → get_or (before ++ rightward at a c ++ v ∷ []) 0 none ≡ get_or (before ++ at a ∷ []) 0 none
first_right none before at a zero v is =
    let place : a + 0 ≡ a = omega arith in
    ap (λ xs. get_or (xs ++ v ∷ []) 0 none) (append-nil before)
    ∙ ap (λ x. get_or (before ++ x ∷ []) 0 none) (is ∙ ap at place)
first_right none before at a (suc c) v is =
    ap (λ xs. get_or xs 0 none) (append_assoc before (rightward at a (suc c)) (v ∷ []))
    ∙ first_stays none before (at a) (rightward at (a + 1) c ++ v ∷ [])

-- and that to each place,
pub first_on_way : {A : Type 0} (none : A) (before : List A) (at : ℕ → A) (a h : ℕ)
    → get_or (before ++ leftward at a (a - h) ++ rightward at (min a h) (h - min a h) ++ at h ∷ []) 0 none
    ≡ get_or (before ++ at a ∷ []) 0 none
first_on_way none before at a h =
    let right_place : h ≡ min a h + (h - min a h) = omega arith in
    let left_place : min a h ≡ a - (a - h) = omega arith in
    first_right none (before ++ leftward at a (a - h)) at (min a h) (h - min a h) (at h) (ap at right_place)
    ∙ first_left none before at a (a - h) (at (min a h)) (ap at left_place)

-- as on the points of a funnel
pub way_begins : (before ns : List Point) (a h : ℕ)
    → point_at (way_to before ns a h ++ point_at ns h ∷ []) 0 ≡ point_at (before ++ point_at ns a ∷ []) 0
way_begins before ns a h = first_on_way origin before (point_at ns) a h

-- there are so many places to the left,
pub length_leftward : {A : Type 0} (at : ℕ → A) (a c : ℕ) → length (leftward at a c) ≡ c
length_leftward at a zero = refl
length_leftward at a (suc c) = ap suc (length_leftward at (a - 1) c)

-- and to the right
pub length_rightward : {A : Type 0} (at : ℕ → A) (a c : ℕ) → length (rightward at a c) ≡ c
length_rightward at a zero = refl
length_rightward at a (suc c) = ap suc (length_rightward at (a + 1) c)

-- and in a simple ring the path from it to itself
pub path_of_one : (ring : List Point) → 3 ≤ length ring → IsSimple ring → (s : Point) → IsIn ring (whole s) → IsPath ring s s (s ∷ [])
path_of_one ring some simple s inside = bent_is_path ring some simple (s ∷ []) (one_bent ring s inside) s s refl refl

module _ (corners : List Point) (tris : List Tri) (fits : Fits corners tris) where
  -- a chain with bends is the path,
  pub path_of_bent : (chain : List Point) → IsBentChain corners chain → (s t : Point) → point_at chain 0 ≡ s
      → point_at chain (length chain - 1) ≡ t → IsPath corners s t chain
  path_of_bent = bent_is_path corners (fitted_long corners tris fits) (fitted_simple corners tris fits)

  module _ (way : List Point) (s : Point) where
    -- and the last but one is before the last
    pub before_of_bent : (q y : Point) → IsBentChain corners (way ++ q ∷ y ∷ []) → point_at (way ++ q ∷ []) 0 ≡ s
        → IsPredecessor corners s y q
    before_of_bent q y bent first =
        let front = way ++ q ∷ [] in
        let all = front ++ y ∷ [] in
        let same : all ≡ way ++ q ∷ y ∷ [] = append_assoc way (q ∷ []) (y ∷ []) in
        let count = length-append front (y ∷ []) in
        let front_count = length-append way (q ∷ []) in
        record {
          path = all;
          is_path = path_of_bent all (subst (IsBentChain corners) (sym same) bent) s y
              (ap (λ ps. point_at ps 0) same ∙ first_stays origin way q (y ∷ []) ∙ first)
              (get_or_push front y origin (length all - 1) (omega (arith, count)));
          more = omega (arith, count, front_count);
          is = get_or_append_left front (y ∷ []) origin (length all - 2) (omega (arith, count, front_count))
              ∙ get_or_push way q origin (length all - 2) (omega (arith, count, front_count));
        }

-- ---- paths within one triangle; and beyond a diagonal: the path to the point of the funnel from which a point is reached, and on

module _ (corners : List Point) (tris : List Tri) (fits : Fits corners tris) (k : ℕ) (within : k < length tris) where
  -- to another point of its triangle the path from a source goes straight
  pub before_at_home : (s y : Point) → IsInTri corners (tri_at tris k) (whole s) → IsInTri corners (tri_at tris k) (whole y)
      → ¬ (s ≡ y) → IsPredecessor corners s y s
  before_at_home s y in_s in_y differ =
      let alone = one_bent corners s (triangle_in_ring corners tris fits k within (whole s) (whole_is_point s) in_s) in
      before_of_bent corners tris fits [] s s y
      (chain_more (s ∷ []) s y refl corners alone
      (sees_in_triangle corners tris fits k within (whole s) (whole y) (whole_is_point s) (whole_is_point y) in_s in_y)
      differ (triangle_in_ring corners tris fits k within (whole y) (whole_is_point y) in_y) (λ two. absurd (omega (arith, two)))) refl

  -- the triangle is beyond the diagonal from i to j, with an open funnel there
  module _ (i j m : ℕ) (first : HasSide (tri_at tris k) i j) (second : HasSide (tri_at tris k) j m) (third : HasSide (tri_at tris k) m i)
      (diagonal : IsSharedSide tris i j) (before ns : List Point) (a : ℕ) (o : IsOpenFunnel corners before ns a i j)
      (s : Point) (begins : point_at (before ++ point_at ns a ∷ []) 0 ≡ s) (h : ℕ) where
    module _ (y : Point) (inside : IsInTri corners (tri_at tris k) (whole y)) (reached : IsReachedFrom ns a h (whole y))
        (differ : ¬ (point_at ns h ≡ y)) where
      -- the chain goes on to a point that is reached
      chain : IsBentChain corners (way_to before ns a h ++ point_at ns h ∷ y ∷ [])
      chain =
          let l = vertex corners i in
          let r = vertex corners j in
          let seen = sees_reached corners corners (tri_at tris k) (triangle_in_ring corners tris fits k within)
          (fits.triangles k within).counterclockwise i j first l r refl refl ns a o.funnel o.sight h (whole y) (whole_is_point y)
          inside reached in
          chain_on corners ns a l r o.funnel o.sight before o.bent h reached.within y seen differ
          (reached_bends corners tris fits k i j m within first second third diagonal before ns a o.funnel o.bent o.ends h y inside
          reached seen differ)

      -- so what comes before it is the point from which it is reached,
      pub before_reached : IsPredecessor corners s y (point_at ns h)
      before_reached =
          before_of_bent corners tris fits (way_to before ns a h) s (point_at ns h) y chain (way_begins before ns a h ∙ begins)

    -- the third corner is reached in this way
    pub before_corner : IsReachedFrom ns a h (whole (vertex corners m)) → IsPredecessor corners s (vertex corners m) (point_at ns h)
    before_corner reached =
        before_reached (vertex corners m) (last_end_in corners tris fits k within j m second) reached
        (corner_differs corners tris fits k i j m within first second third ns a o.funnel h reached)

module _ (ring : List Point) (some : 3 ≤ length ring) (simple : IsSimple ring) (s t : Point) (path : List Point)
    (is : IsPath ring s t path) where
  -- the path is taut
  taut : IsTaut ring s t path
  taut = (is path).1 refl

  -- the first points of it are the path to the last of them,
  pub front_is_path : (k : ℕ) → k < length path → IsPath ring s (point_at path k) (take (k + 1) path)
  front_is_path k within =
      let long = front_length path (k + 1) (omega arith) in
      let at = front_at path (k + 1) (omega arith) in
      bent_is_path ring some simple (take (k + 1) path) (front_bent path (k + 1) (omega arith) ring (omega arith) taut.bent) s
      (point_at path k) (at 0 (omega arith) ∙ taut.first)
      (ap (point_at (take (k + 1) path)) (omega (arith, long)) ∙ at k (omega arith))

  -- and no two of its points are equal
  pub path_differs : (i j : ℕ) → i < j → j < length path → ¬ (point_at path i ≡ point_at path j)
  path_differs i j less within same =
      let one = front_is_path i (omega arith) in
      let other = subst (λ x. IsPath ring s x (take (j + 1) path)) (sym same) (front_is_path j within) in
      let equal : take (j + 1) path ≡ take (i + 1) path = (one (take (j + 1) path)).0 ((other (take (j + 1) path)).1 refl) in
      omega (arith, ap length equal, front_length path (i + 1) (omega arith), front_length path (j + 1) (omega arith))

-- nothing comes before the start itself
pub before_differs : (ring : List Point) (s t x : Point) → IsPredecessor ring s t x → ¬ (s ≡ t)
before_differs ring s t x before same = omega (arith, before.more, ((before.is_path before.path).1 refl).single same)

module _ (ring : List Point) (some : 3 ≤ length ring) (simple : IsSimple ring) (s t x : Point) (before : IsPredecessor ring s t x)
    (path : List Point) (is : IsPath ring s x path) where
  -- the path to what comes before a point goes on to it
  pub path_goes_on : IsPath ring s t (path ++ t ∷ [])
  path_goes_on =
      let all = before.path in
      let k = length all - 2 in
      let front = take (length all - 1) all in
      let place : k + 1 ≡ length all - 1 = omega (arith, before.more) in
      let front_path = subst (λ n. IsPath ring s (point_at all k) (take n all)) place
      (front_is_path ring some simple s t all before.is_path k (omega (arith, before.more))) in
      let there = subst (λ p. IsPath ring s p front) before.is front_path in
      let same : front ≡ path = (is front).0 ((there front).1 refl) in
      let last : point_at all (length all - 1) ≡ t = (taut ring some simple s t all before.is_path).last in
      let split = front_and_last all (omega (arith, before.more)) in
      subst (IsPath ring s t) (split ∙ ap (λ ps. ps ++ point_at all (length all - 1) ∷ []) same ∙ ap (λ p. path ++ p ∷ []) last)
      before.is_path
