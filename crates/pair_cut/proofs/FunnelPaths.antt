-- The paths to the points of a funnel: what comes before each of them is the next one toward the apex.
use Rattle.std.proofs.Common.{◌≡◌, refl, ap, subst, ◌∙◌, ℕ, zero, suc, ◌+◌, ◌-◌, ◌<◌, min, List, [], ◌∷◌, ◌++◌, length, arith}
use Rattle.std.proofs.lemmas.List.{get_or-append-add, get_or_append_left, get_or_push, length-append}
use Rattle.plane.specs.Point.{Point}
use Rattle.rings.specs.Chain.{IsPath, point_at}
use Rattle.rings.specs.From.{IsPredecessor}
use Rattle.rings.specs.Ring.{origin, vertex}
use Rattle.meshes.specs.Fits.{Fits}
use Rattle.meshes.specs.declared.tri.Tri.{Tri}
use Rattle.funnels.proofs.Chains.{chain_to}
use Rattle.funnels.proofs.OneChain.{bent_is_path}
use Rattle.funnels.proofs.Trees.{length_leftward, length_rightward, way_begins, way_to}
use Rattle.funnels.proofs.Vertices.{fitted_long, fitted_simple}
use Rattle.funnels.specs.OpenFunnel.{IsOpenFunnel, left_behind, leftward, right_behind, rightward}

-- what is at a place on the way to the left,
leftward_at : (at : ℕ → Point) (b c k : ℕ) → k < c → point_at (leftward at b c) k ≡ at (b - k)
leftward_at at b zero k less = absurd (omega (arith, less))
leftward_at at b (suc c) zero less = let place : b ≡ b - 0 = omega arith in ap at place
leftward_at at b (suc c) (suc k) less =
    let place : b - 1 - k ≡ b - suc k = omega arith in
    leftward_at at (b - 1) c k (omega (arith, less)) ∙ ap at place

-- and to the right
rightward_at : (at : ℕ → Point) (b c k : ℕ) → k < c → point_at (rightward at b c) k ≡ at (b + k)
rightward_at at b zero k less = absurd (omega (arith, less))
rightward_at at b (suc c) zero less = let place : b ≡ b + 0 = omega arith in ap at place
rightward_at at b (suc c) (suc k) less =
    let place : b + 1 + k ≡ b + suc k = omega arith in
    rightward_at at (b + 1) c k (omega (arith, less)) ∙ ap at place

module _ (corners : List Point) (tris : List Tri) (fits : Fits corners tris) (before ns : List Point) (a i j : ℕ)
    (o : IsOpenFunnel corners before ns a i j) (s : Point) (begins : point_at (before ++ point_at ns a ∷ []) 0 ≡ s) where
  module _ (h : ℕ) (within : h < length ns) where
    -- the points on the way to the point at place h, and that point
    abbrev way : List Point
    way = way_to before ns a h

    abbrev path : List Point
    path = way ++ point_at ns h ∷ []

    -- with the points that are left behind on each side
    abbrev left : List Point
    left = left_behind ns a (a - h)

    abbrev right : List Point
    right = right_behind ns (min a h) (h - min a h)

    front_long : length (before ++ left) ≡ length before + (a - h)
    front_long = omega (arith, length-append before left, length_leftward (point_at ns) a (a - h))

    way_long : length way ≡ length before + (a - h) + (h - min a h)
    way_long = omega (arith, front_long, length-append (before ++ left) right, length_rightward (point_at ns) (min a h) (h - min a h))

    path_long : length path ≡ length way + 1
    path_long = omega (arith, length-append way (point_at ns h ∷ []))

    -- are the path to it
    path_to : IsPath corners s (point_at ns h) path
    path_to =
        bent_is_path corners (fitted_long corners tris fits) (fitted_simple corners tris fits) path
        (chain_to corners ns a (vertex corners i) (vertex corners j) o.funnel o.sight before o.bent h within) s (point_at ns h)
        (way_begins before ns a h ∙ begins)
        (get_or_push way (point_at ns h) origin (length path - 1) (omega (arith, path_long)))

    -- so the last on the way comes before it:
    last_before : (x : Point) → 0 < length way → point_at way (length way - 1) ≡ x → IsPredecessor corners s (point_at ns h) x
    last_before x some is =
        let place : length path - 2 ≡ length way - 1 = omega (arith, path_long) in
        record {
          path = path;
          is_path = path_to;
          more = omega (arith, path_long, some);
          is = get_or_append_left way (point_at ns h ∷ []) origin (length path - 2) (omega (arith, path_long, some))
              ∙ ap (point_at way) place ∙ is;
        }

    -- on the left the next one to the right,
    pub before_on_left : h < a → IsPredecessor corners s (point_at ns h) (point_at ns (h + 1))
    before_on_left less =
        let place : length way - 1 ≡ length before + (a - h - 1) = omega (arith, way_long, less) in
        let there : a - (a - h - 1) ≡ h + 1 = omega (arith, less) in
        last_before (point_at ns (h + 1)) (omega (arith, way_long, less))
        (ap (point_at way) place
        ∙ get_or_append_left (before ++ left) right origin (length before + (a - h - 1)) (omega (arith, front_long, less))
        ∙ get_or-append-add before left (a - h - 1) origin
        ∙ leftward_at (point_at ns) a (a - h) (a - h - 1) (omega (arith, less)) ∙ ap (point_at ns) there)

    -- and on the right the next one to the left
    pub before_on_right : a < h → IsPredecessor corners s (point_at ns h) (point_at ns (h - 1))
    before_on_right less =
        let k = h - min a h - 1 in
        let place : length way - 1 ≡ length (before ++ left) + (h - min a h - 1) = omega (arith, way_long, front_long, less) in
        let there : min a h + (h - min a h - 1) ≡ h - 1 = omega (arith, less) in
        last_before (point_at ns (h - 1)) (omega (arith, way_long, less))
        (ap (point_at way) place ∙ get_or-append-add (before ++ left) right k origin
        ∙ rightward_at (point_at ns) (min a h) (h - min a h) k (omega (arith, less)) ∙ ap (point_at ns) there)

  -- and no other place has the apex's point
  pub apex_alone : (h : ℕ) → h < length ns → point_at ns h ≡ point_at ns a → h ≡ a
  apex_alone h within same =
      let apex_in = o.funnel.apex_within in
      let there = subst (λ p. IsPath corners s p (path h within)) same (path_to h within) in
      let equal : path h within ≡ path a apex_in =
      (path_to a apex_in (path h within)).0 ((there (path h within)).1 refl) in
      omega (arith, ap length equal, path_long h within, path_long a apex_in, way_long h within, way_long a apex_in)
