-- Where two paths from one point change places, the second is to the other side of the first.
-- Where two lists from one point part, and that they do so once.
-- Of two paths from one point the second is not to both sides of the first.
use Rattle.std.proofs.Common.{sym, List, ◌≡◌, ◌≢◌, inl, inr, refl, subst, ap, ◌∙◌, ◌<◌, [], ◌∷◌, ◌++◌, length, drop, arith}
use Rattle.integer_algebra.proofs.SignSteps.{turned_negative, turned_positive, negative_not_zero, positive_not_negative, positive_not_zero}
use Rattle.plane.proofs.Order.{point_or_other}
use Rattle.plane.proofs.Points.{same_whole, whole_is_point}
use Rattle.plane.proofs.Segments.{on_antisym, on_is_straight}
use Rattle.plane.proofs.Turns.{determinant_swap_last, straight_swap_last}
use Rattle.plane.specs.Prelude.{IsLeft, IsRight, IsStraight, On, Point, Triple, whole}
use Rattle.rings.specs.Chain.{IsPath, point_at}
use Rattle.hulls.proofs.Order.{same_first}
use Rattle.hulls.specs.Turning.{IsTo, IsToLeft, IsToRight, TurnsTo, apart, first_nearer, second_nearer}

-- a left turn is a right one to the points in the other order,
pub right_of_left : (v p q : Triple) → IsLeft v p q → IsRight v q p
right_of_left v p q h = turned_negative (determinant_swap_last v p q) h

-- and a right one a left one
left_of_right : (v p q : Triple) → IsRight v p q → IsLeft v q p
left_of_right v p q h = turned_positive (determinant_swap_last v p q) h

module _ (Side Other : Triple → Triple → Triple → Type 0) (swap : (v p q : Triple) → Side v p q → Other v q p) where
  -- so the ways on may change places,
  ways_exchanged : (v p : Point) (first : List Point) (q : Point) (second : List Point) → TurnsTo Side Other v p first q second
      → TurnsTo Other Side v q second p first
  ways_exchanged v p first q second (apart h) = apart (swap _ _ _ h)
  ways_exchanged v p first q second (first_nearer r rest on is h) = second_nearer r rest on is h
  ways_exchanged v p first q second (second_nearer r rest on is h) = first_nearer r rest on is h

  -- and the paths
  paths_exchanged : (ring : List Point) (a b c : Point) → IsTo Side Other ring a b c → IsTo Other Side ring a c b
  paths_exchanged ring a b c to = record {
    front = to.front;
    v = to.v;
    p = to.q;
    q = to.p;
    first = to.second;
    second = to.first;
    is_first = to.is_second;
    is_second = to.is_first;
    differ = λ e. to.differ (sym e);
    turns = ways_exchanged to.v to.p to.first to.q to.second to.turns;
  }

-- where c is to the left of b, b is to the right of c,
pub exchanged : (ring : List Point) (a b c : Point) → IsToLeft ring a b c → IsToRight ring a c b
exchanged ring a b c to = paths_exchanged IsLeft IsRight right_of_left ring a b c to

-- and the other way round
pub exchanged_back : (ring : List Point) (a b c : Point) → IsToRight ring a b c → IsToLeft ring a c b
exchanged_back ring a b c to = paths_exchanged IsRight IsLeft left_of_right ring a b c to

-- ---- where they part

-- how two lists from one point go on
pub data Fork (one other : List Point) : Type 0 where
  alike : one ≡ other → Fork one other
  first_ends : (x : Point) (rest : List Point) → other ≡ one ++ x ∷ rest → Fork one other
  second_ends : (x : Point) (rest : List Point) → one ≡ other ++ x ∷ rest → Fork one other
  parted : (front : List Point) (v p q : Point) (first second : List Point) → one ≡ front ++ v ∷ p ∷ first
      → other ≡ front ++ v ∷ q ∷ second → p ≢ q → Fork one other

-- with a point before them they go on in the same way
fork_after : (u : Point) (one other : List Point) → Fork one other → Fork (u ∷ one) (u ∷ other)
fork_after u one other (alike e) = alike (ap (λ xs. u ∷ xs) e)
fork_after u one other (first_ends x rest e) = first_ends x rest (ap (λ xs. u ∷ xs) e)
fork_after u one other (second_ends x rest e) = second_ends x rest (ap (λ xs. u ∷ xs) e)
fork_after u one other (parted front v p q first second e f differ) =
    parted (u ∷ front) v p q first second (ap (λ xs. u ∷ xs) e) (ap (λ xs. u ∷ xs) f) differ

-- lists after one point go on in one of these ways,
fork_of_rests : (u : Point) (xs ys : List Point) → Fork (u ∷ xs) (u ∷ ys)
fork_of_rests u [] [] = alike refl
fork_of_rests u [] (y ∷ ys) = first_ends y ys refl
fork_of_rests u (x ∷ xs) [] = second_ends x xs refl
fork_of_rests u (x ∷ xs) (y ∷ ys) = elim (point_or_other x y) [
  | inl same ↦ subst (λ z. Fork (u ∷ x ∷ xs) (u ∷ z ∷ ys)) same (fork_after u (x ∷ xs) (x ∷ ys) (fork_of_rests x xs ys))
  | inr differ ↦ parted [] u x y xs ys refl refl differ
]

-- and so do lists that begin with one point
pub fork : (one other : List Point) → 0 < length one → 0 < length other → point_at one 0 ≡ point_at other 0 → Fork one other
fork [] other some some_too same = absurd (omega (arith, some))
fork (x ∷ xs) [] some some_too same = absurd (omega (arith, some_too))
fork (x ∷ xs) (y ∷ ys) some some_too same = subst (λ z. Fork (x ∷ xs) (z ∷ ys)) same (fork_of_rests x xs ys)

-- ---- that they do so once

-- two ways in which lists part are one way
pub record IsOneFork (v p : Point) (first : List Point) (q : Point) (second : List Point) (w x : Point) (rest : List Point) (y : Point)
    (rest_too : List Point) : Type 0 where
  pub same_v : v ≡ w
  pub same_p : p ≡ x
  pub same_q : q ≡ y
  pub same_first : first ≡ rest
  pub same_second : second ≡ rest_too

-- what comes after a front begins alike
begin_alike : (front : List Point) (v : Point) (xs ys : List Point) → point_at (front ++ v ∷ xs) 0 ≡ point_at (front ++ v ∷ ys) 0
begin_alike [] v xs ys = refl
begin_alike (u ∷ front) v xs ys = refl

module _ (v p : Point) (first : List Point) (q : Point) (second : List Point) (w x : Point) (rest : List Point) (y : Point)
    (rest_too : List Point) (differ : p ≢ q) (differ_too : x ≢ y) where
  -- lists that part do so in one way
  pub one_fork : (front other : List Point) → front ++ v ∷ p ∷ first ≡ other ++ w ∷ x ∷ rest → front ++ v ∷ q ∷ second ≡ other ++ w ∷ y ∷ rest_too
      → IsOneFork v p first q second w x rest y rest_too
  one_fork [] [] e f = record {
    same_v = ap (λ xs. point_at xs 0) e;
    same_p = ap (λ xs. point_at xs 1) e;
    same_q = ap (λ xs. point_at xs 1) f;
    same_first = ap (drop 2) e;
    same_second = ap (drop 2) f;
  }
  one_fork [] (u ∷ other) e f =
      absurd (differ (ap (λ xs. point_at xs 1) e ∙ begin_alike other w (x ∷ rest) (y ∷ rest_too) ∙ sym (ap (λ xs. point_at xs 1) f)))
  one_fork (u ∷ front) [] e f =
      absurd (differ_too (sym (ap (λ xs. point_at xs 1) e) ∙ begin_alike front v (p ∷ first) (q ∷ second) ∙ ap (λ xs. point_at xs 1) f))
  one_fork (u ∷ front) (z ∷ other) e f = one_fork front other (ap (drop 1) e) (ap (drop 1) f)

-- the ends of a segment and a point of it are on one line
straight_of_on : (v p q : Point) → On (whole p) (whole v) (whole q) → IsStraight (whole v) (whole q) (whole p)
straight_of_on v p q on = on_is_straight (whole p) (whole v) (whole q) (whole_is_point p) (whole_is_point v) (whole_is_point q) on

module _ (v p : Point) (first : List Point) (q : Point) (second : List Point) where
  -- two points on one ray aren't each before the other,
  nearer_one : p ≢ q → On (whole p) (whole v) (whole q) → On (whole q) (whole v) (whole p) → ⊥
  nearer_one differ on on_too =
      differ (same_whole p q (on_antisym (whole p) (whole q) (whole v) (whole_is_point p) (whole_is_point q) (whole_is_point v) on on_too))

  -- and a nearer one isn't to a side of the other,
  first_not_apart : On (whole p) (whole v) (whole q) → IsStraight (whole v) (whole p) (whole q)
  first_not_apart on = straight_swap_last (whole v) (whole q) (whole p) (straight_of_on v p q on)

  -- nor that to a side of it
  second_not_apart : On (whole q) (whole v) (whole p) → IsStraight (whole v) (whole p) (whole q)
  second_not_apart on = straight_of_on v q p on

  -- so two ways on aren't to both sides
  ways_not_both : p ≢ q → TurnsTo IsLeft IsRight v p first q second → ¬ TurnsTo IsRight IsLeft v p first q second
  ways_not_both differ (apart h) (apart k) = positive_not_negative h k
  ways_not_both differ (apart h) (first_nearer r rest on e k) = positive_not_zero h (first_not_apart on)
  ways_not_both differ (apart h) (second_nearer r rest on e k) = positive_not_zero h (second_not_apart on)
  ways_not_both differ (first_nearer r rest on e h) (apart k) = negative_not_zero k (first_not_apart on)
  ways_not_both differ (first_nearer r rest on e h) (first_nearer s rest_too on_too f k) =
      positive_not_negative k (subst (λ z. IsRight (whole v) (whole p) (whole z)) (same_first e f) h)
  ways_not_both differ (first_nearer r rest on e h) (second_nearer s rest_too on_too f k) = nearer_one differ on on_too
  ways_not_both differ (second_nearer r rest on e h) (apart k) = negative_not_zero k (second_not_apart on)
  ways_not_both differ (second_nearer r rest on e h) (first_nearer s rest_too on_too f k) = nearer_one differ on_too on
  ways_not_both differ (second_nearer r rest on e h) (second_nearer s rest_too on_too f k) =
      positive_not_negative (subst (λ z. IsLeft (whole v) (whole q) (whole z)) (same_first e f) h) k

-- there is one path
pub one_path : (ring : List Point) (s t : Point) (path other : List Point) → IsPath ring s t path → IsPath ring s t other → path ≡ other
one_path ring s t path other is is_too = (is_too path).0 ((is path).1 refl)

-- where c is to the left of b it is not to the right of it
pub not_both : (ring : List Point) (a b c : Point) → IsToLeft ring a b c → ¬ IsToRight ring a b c
not_both ring a b c to_left to_right =
    let l = to_left in
    let r = to_right in
    let one = one_fork l.v l.p l.first l.q l.second r.v r.p r.first r.q r.second l.differ r.differ l.front r.front
    (one_path ring a b (l.front ++ l.v ∷ l.p ∷ l.first) (r.front ++ r.v ∷ r.p ∷ r.first) l.is_first r.is_first)
    (one_path ring a c (l.front ++ l.v ∷ l.q ∷ l.second) (r.front ++ r.v ∷ r.q ∷ r.second) l.is_second r.is_second) in
    let turns : TurnsTo IsLeft IsRight r.v r.p r.first r.q r.second =
    subst (λ z. TurnsTo IsLeft IsRight r.v r.p r.first r.q z) one.same_second
    (subst (λ z. TurnsTo IsLeft IsRight r.v r.p r.first z l.second) one.same_q
    (subst (λ z. TurnsTo IsLeft IsRight r.v r.p z l.q l.second) one.same_first
    (subst (λ z. TurnsTo IsLeft IsRight r.v z l.first l.q l.second) one.same_p
    (subst (λ z. TurnsTo IsLeft IsRight z l.p l.first l.q l.second) one.same_v l.turns)))) in
    ways_not_both r.v r.p r.first r.q r.second r.differ turns r.turns
