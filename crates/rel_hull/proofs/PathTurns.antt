-- The turn of two paths from where they part, by the turn of what is left of them.
use Rattle.std.proofs.Common.{◌≡◌, inl, inr, ℕ, ◌+◌, ◌<◌, ◌≤◌, List, ◌∷◌, ◌++◌, length, take, drop, sym, ap, ◌∙◌, arith}
use Rattle.std.proofs.lemmas.List.{drop_more, get_or-take, take-append-drop, take-take}
use Rattle.exact_plane.proofs.Directions.{zero_of_straight}
use Rattle.exact_plane.specs.Direction.{turn_of}
use Rattle.exact_plane.specs.declared.direction.Direction.{Direction}
use Rattle.exact_plane.specs.declared.direction.Direction.TheVariants.{Straight}
use Rattle.plane.proofs.Points.{whole_is_point}
use Rattle.plane.specs.Point.{Point, whole}
use Rattle.plane.specs.Segment.{On}
use Rattle.rel_hull.proofs.OnLine.{one_in_middle}
use Rattle.rel_hull.specs.PathTurn.{IsPathTurn, IsTurnApart, IsTurnAt, second_nearer, turn_on}
use Rattle.rings.specs.Chain.{point_at}
use Rattle.rings.specs.Ring.{origin}

-- on one line, where neither of two other cases is: the second next point is nearer
pub otherwise_second : (v p q : Point) (first second : List Point) (turn : Direction)
    → turn_of (whole v) (whole p) (whole q) ≡ Straight → ¬ On (whole v) (whole p) (whole q) → ¬ On (whole p) (whole v) (whole q)
    → turn ≡ turn_on v q second → IsTurnApart v p first q second turn
otherwise_second v p q first second turn straight apart further is =
    elim (one_in_middle (whole v) (whole p) (whole q) (whole_is_point v) (whole_is_point p) (whole_is_point q) (zero_of_straight _ straight)) [
      | inl on ↦ absurd (apart on)
      | inr on ↦ elim on [ inl k ↦ absurd (further k) | inr k ↦ second_nearer apart k is ]
    ]

-- a list, its point at a place, and what is before and after
split_at : (points : List Point) (m : ℕ) → m < length points → points ≡ take m points ++ point_at points m ∷ drop (m + 1) points
split_at points m h = sym (take-append-drop m points) ∙ ap (λ (rest : List Point). take m points ++ rest) (drop_more points m origin h)

-- two lists that have k points in common, and so m before the last of these
pub parted_after : (a b : List Point) (k m : ℕ) (turn : Direction) → m + 1 ≡ k → k ≤ length a → k ≤ length b → take k a ≡ take k b
    → IsTurnAt (point_at a m) (drop k a) (drop k b) turn → IsPathTurn a b turn
parted_after a b k m turn next in_first in_second same turned =
    let first : m < length a = omega arith in
    let second : m < length b = omega arith in
    let below : m < k = omega arith in
    let least : m ≤ k = omega arith in
    let front : take m b ≡ take m a = sym (take-take m k b least) ∙ ap (take m) (sym same) ∙ take-take m k a least in
    let last : point_at b m ≡ point_at a m =
    sym (get_or-take k b m origin below) ∙ ap (λ (c : List Point). point_at c m) (sym same) ∙ get_or-take k a m origin below in
    record {
      front = take m a;
      last = point_at a m;
      first_rest = drop k a;
      second_rest = drop k b;
      is_first = rw next at (split_at a m first);
      is_second = rw (next, front, last) at (split_at b m second);
      turned = turned;
    }
