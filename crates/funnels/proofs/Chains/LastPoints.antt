-- The last of some points, and chains with bends that go on from it.
use Rattle.std.proofs.Common.{◌≡◌, refl, sym, subst, ap, ◌∙◌, List, [], ◌∷◌, ◌++◌, length, ◌-◌, ◌≤◌, arith}
use Rattle.std.proofs.lemmas.List.{get_or_append_left, get_or_push, length-append}
use Rattle.plane.proofs.Points.{whole_is_point}
use Rattle.plane.proofs.Segments.{on_last_end}
use Rattle.plane.specs.Point.{Point, whole}
use Rattle.rings.specs.Prelude.{IsBend, IsBentChain, origin, point_at, Sees}
use Rattle.funnels.proofs.Bends.{chain_more}
use Rattle.funnels.specs.OpenFunnel.{IsLastOf}

-- none is the last of no points,
pub no_last : (q : Point) → ¬ IsLastOf [] q
no_last q (front, e) =
    let none : 0 ≡ length (front ++ q ∷ []) = ap length e in
    absurd (omega (arith, none, length-append front (q ∷ [])))

-- of some points one is,
has_last : (p : Point) (points : List Point) → IsLastOf (p ∷ points) (point_at (p ∷ points) (length points))
has_last p [] = ([], refl)
has_last p (x ∷ points) =
    let (front, e) = has_last x points in
    (p ∷ front, ap (λ rest. p ∷ rest) e)

-- and where one comes after others, it is the last
pub last_of_more : (points : List Point) (v q : Point) → IsLastOf (points ++ v ∷ []) q → q ≡ v
last_of_more points v q (front, e) =
    let same : length (points ++ v ∷ []) ≡ length (front ++ q ∷ []) = ap length e in
    sym (get_or_push front q origin (length points)
    (omega (arith, same, length-append points (v ∷ []), length-append front (q ∷ []))))
    ∙ sym (ap (λ ps. point_at ps (length points)) e) ∙ get_or_push points v origin (length points) refl

-- so what the last of some points has, the last but one has where one more comes,
before_end : (P : Point → Type 0) (points : List Point) (v : Point) → ((q : Point) → IsLastOf points q → P q)
    → 2 ≤ length (points ++ v ∷ []) → P (point_at (points ++ v ∷ []) (length (points ++ v ∷ []) - 2))
before_end P [] v all two = absurd (omega (arith, two))
before_end P (p ∷ points) v all two =
    let place : length ((p ∷ points) ++ v ∷ []) - 2 ≡ length points = omega (arith, length-append (p ∷ points) (v ∷ [])) in
    let same = ap (point_at ((p ∷ points) ++ v ∷ [])) place
    ∙ get_or_append_left (p ∷ points) (v ∷ []) origin (length points) (omega arith) in
    subst P (sym same) (all (point_at (p ∷ points) (length points)) (has_last p points))

-- and a chain goes on to what its last point sees, with a bend there between that and the point before
pub goes_on : (ring points : List Point) (v y : Point) → IsBentChain ring (points ++ v ∷ []) → Sees ring (whole v) (whole y)
    → ¬ (v ≡ y) → ((q : Point) → IsLastOf points q → IsBend ring q v y) → IsBentChain ring (points ++ v ∷ [] ++ y ∷ [])
goes_on ring points v y bent sees differ bend =
    let end : length points ≡ length (points ++ v ∷ []) - 1 = omega (arith, length-append points (v ∷ [])) in
    chain_more (points ++ v ∷ []) v y (get_or_push points v origin (length (points ++ v ∷ []) - 1) end) ring bent sees differ
    (sees (whole y) (whole_is_point y) (on_last_end (whole v) (whole y)))
    (before_end (λ q. IsBend ring q v y) points v bend)
