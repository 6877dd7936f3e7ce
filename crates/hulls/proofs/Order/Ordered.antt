-- Points to the left of one another, seen from t, whose paths go first along a ray from t or to the right of it.
use Rattle.std.proofs.Common.{◌≡◌, ◌≢◌, inl, inr, refl, sym, ap, subst, ◌∙◌, ◌<◌, ◌≤◌, List, [], ◌∷◌, ◌++◌, length, drop, arith}
use Rattle.plane.specs.Point.{Point}
use Rattle.rings.specs.Prelude.{IsBentChain, IsPath, IsSimple, point_at}
use Rattle.hulls.proofs.Joined.{path_is_taut, rest_at}
use Rattle.hulls.proofs.Order.Followed.{AreAhead, left_follows, IsLeftOf, TurnsLeft}
use Rattle.hulls.proofs.Order.Starts.{IsRightOn, ahead_of_ray}
use Rattle.hulls.specs.Turning.{IsToLeft, StartsRight}

-- ---- two lists that part

-- where two lists part, and that the second goes on to the left there
record Parting (one other : List Point) : Type 0 where
  front : List Point
  v : Point
  p : Point
  q : Point
  first : List Point
  second : List Point
  is_first : one ≡ front ++ v ∷ p ∷ first
  is_second : other ≡ front ++ v ∷ q ∷ second
  differ : p ≢ q
  turns : TurnsLeft v p first q second

-- ways of which one is to the left part somewhere,
parting_of : (v : Point) (one other : List Point) → IsLeftOf v one other → Parting (v ∷ one) (v ∷ other)
parting_of v [] other h = absurd h
parting_of v (p ∷ first) [] h = absurd h
parting_of v (p ∷ first) (q ∷ second) (inl h) = record {
  front = [];
  v = v;
  p = p;
  q = q;
  first = first;
  second = second;
  is_first = refl;
  is_second = refl;
  differ = h.0;
  turns = h.1;
}
parting_of v (p ∷ first) (q ∷ second) (inr h) =
    let rest = parting_of p first second h.1 in
    record {
      front = v ∷ rest.front;
      v = rest.v;
      p = rest.p;
      q = rest.q;
      first = rest.first;
      second = rest.second;
      is_first = ap (λ ps. v ∷ ps) rest.is_first;
      is_second = ap (λ x. v ∷ x ∷ second) (sym h.0) ∙ ap (λ ps. v ∷ ps) rest.is_second;
      differ = rest.differ;
      turns = rest.turns;
    }

module _ (v p q : Point) (first second : List Point) (differ : p ≢ q) (turns : TurnsLeft v p first q second) where
  -- and where they part after a front, they are so
  left_after : (x : Point) (front : List Point) → IsLeftOf x (front ++ v ∷ p ∷ first) (front ++ v ∷ q ∷ second)
  left_after x [] = inr (refl, inl (differ, turns))
  left_after x (z ∷ front) = inr (refl, left_after z front)

  -- from the first point of that
  left_from_first : (front : List Point) →
      IsLeftOf (point_at (front ++ v ∷ p ∷ first) 0) (drop 1 (front ++ v ∷ p ∷ first)) (drop 1 (front ++ v ∷ q ∷ second))
  left_from_first [] = inl (differ, turns)
  left_from_first (z ∷ front) = left_after z front

-- ---- paths

-- a list with a point is that and the others
first_and_rest : (points : List Point) → 0 < length points → points ≡ point_at points 0 ∷ drop 1 points
first_and_rest [] h = absurd (omega arith)
first_and_rest (p ∷ rest) h = refl

module _ (ring : List Point) (t u : Point) (path : List Point) (is : IsPath ring t u path) where
  -- the path from t begins with it
  pub path_begins : path ≡ t ∷ drop 1 path
  path_begins =
      let taut = path_is_taut ring t u path is in
      first_and_rest path taut.bent.chain.some ∙ ap (λ x. x ∷ drop 1 path) taut.first

  -- and has bends
  path_bent : IsBentChain ring (t ∷ drop 1 path)
  path_bent = subst (IsBentChain ring) path_begins (path_is_taut ring t u path is).bent

  -- it is the only one
  only_path : (other : List Point) → IsPath ring t u other → other ≡ path
  only_path other is_too = (is other).0 (path_is_taut ring t u other is_too)

-- the path begins where it starts to the right
next_is_right : (ring : List Point) (t e u : Point) (starts : StartsRight ring t e u) → IsRightOn t e (point_at (drop 1 starts.step.path) 0)
next_is_right ring t e u starts =
    let path = starts.step.path in
    subst (IsRightOn t e) (sym (rest_at path 1 0 1 (omega arith) ∙ starts.step.is_next)) starts.side

module _ (ring : List Point) (t u v : Point) (one other : List Point) (is : IsPath ring t u one) (is_other : IsPath ring t v other) where
  -- where v is to the left of u, the path to it is to the left of that to u,
  pub left_of_paths : IsToLeft ring t u v → IsLeftOf t (drop 1 one) (drop 1 other)
  left_of_paths h =
      let same = only_path ring t u one is _ h.is_first in
      let same_other = only_path ring t v other is_other _ h.is_second in
      subst (λ ps. IsLeftOf t (drop 1 one) (drop 1 ps)) same_other
      (subst (λ ps. IsLeftOf t (drop 1 ps) (drop 1 (h.front ++ h.v ∷ h.q ∷ h.second))) same
      (subst (λ x. IsLeftOf x (drop 1 (h.front ++ h.v ∷ h.p ∷ h.first)) (drop 1 (h.front ++ h.v ∷ h.q ∷ h.second)))
      (path_is_taut ring t u _ h.is_first).first (left_from_first h.v h.p h.q h.first h.second h.differ h.turns h.front)))

  -- and nowhere else
  pub left_by_paths : IsLeftOf t (drop 1 one) (drop 1 other) → IsToLeft ring t u v
  left_by_paths left =
      let parting = parting_of t (drop 1 one) (drop 1 other) left in
      record {
        front = parting.front;
        v = parting.v;
        p = parting.p;
        q = parting.q;
        first = parting.first;
        second = parting.second;
        is_first = subst (IsPath ring t u) (path_begins ring t u one is ∙ parting.is_first) is;
        is_second = subst (IsPath ring t v) (path_begins ring t v other is_other ∙ parting.is_second) is_other;
        differ = parting.differ;
        turns = parting.turns;
      }

-- where three paths start ahead of one line, what is to the left of one that is to the left of another is to the left of that
pub ordered_ahead : (ring : List Point) → 3 ≤ length ring → IsSimple ring → (t u v w : Point) (one two three : List Point) → IsPath ring t u one
    → IsPath ring t v two → IsPath ring t w three → AreAhead t (point_at (drop 1 one) 0) (point_at (drop 1 two) 0) (point_at (drop 1 three) 0)
    → IsToLeft ring t u v → IsToLeft ring t v w → IsToLeft ring t u w
ordered_ahead ring some simple t u v w one two three is_one is_two is_three ahead h k =
    left_by_paths ring t u w one three is_one is_three
    (left_follows ring some simple t (drop 1 one) (drop 1 two) (drop 1 three) (path_bent ring t u one is_one) (path_bent ring t v two is_two)
    (path_bent ring t w three is_three) ahead (left_of_paths ring t u v one two is_one is_two h) (left_of_paths ring t v w two three is_two is_three k))

-- so it is where they start along one ray or to the right of it
pub ordered : (ring : List Point) → 3 ≤ length ring → IsSimple ring → (t e u v w : Point) → t ≢ e → StartsRight ring t e u
    → StartsRight ring t e v → StartsRight ring t e w → IsToLeft ring t u v → IsToLeft ring t v w → IsToLeft ring t u w
ordered ring some simple t e u v w differ right_u right_v right_w h k =
    let one = right_u.step in
    let two = right_v.step in
    let three = right_w.step in
    let ahead = ahead_of_ray t e differ _ _ _ (next_is_right ring t e u right_u) (next_is_right ring t e v right_v)
    (next_is_right ring t e w right_w) in
    ordered_ahead ring some simple t u v w one.path two.path three.path one.is_path two.is_path three.is_path ahead h k
