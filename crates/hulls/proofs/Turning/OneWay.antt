-- Chains that part at a point: the points there, the bends, and which of three points on a line is between the others.
-- Where paths from one point part, they do not go on to the two ends of a segment through the point, unless it is on the path between
-- their ends.
-- Where two paths from one point go on along one ray, the one whose next point is nearer turns to a side there.
-- Of three free points the third is to the left of the second, seen from the first, or to the right.
use Rattle.std.proofs.Common.{◌≡◌, ◌⊎◌, inl, inr, subst, ◌+◌, ◌-◌, ◌<◌, List, ◌∷◌, ◌++◌, length, arith, refl, ◌∙◌, ◌≤◌, [], ◌≢◌, sym, ap}
use Rattle.integer_algebra.proofs.SignSteps.{negative_not_zero, positive_not_zero}
use Rattle.integer_algebra.proofs.Signs.{is_negative, is_positive, is_zero, sign}
use Rattle.plane.proofs.Order.{NotAfter, not_after_of_precedes, not_after_or_precedes}
use Rattle.plane.proofs.Points.{whole_is_point}
use Rattle.plane.proofs.Segments.{on_from_order, on_reversed, stays_left, stays_right, on_first_end}
use Rattle.plane.proofs.Turns.{straight_shift, straight_swap_first, straight_swap_last, determinant_same_ends}
use Rattle.plane.specs.Prelude.{determinant, IsLeft, IsRight, IsStraight, On, Point, Triple, whole}
use Rattle.rings.specs.Prelude.{IsBend, IsBentChain, IsPath, IsSimple, point_at}
use Rattle.funnels.proofs.OneChain.{bend_back}
use Rattle.hulls.proofs.Cones.{joined_one_side}
use Rattle.hulls.proofs.Joined.{at_first, at_second, both_length, on_path_of_joined, path_is_taut}
use Rattle.hulls.proofs.Turning.NotBoth.{exchanged, exchanged_back, alike, first_ends, fork, parted, second_ends}
use Rattle.hulls.specs.Joined.{IsOnPath}
use Rattle.hulls.specs.Turning.{IsTo, IsToLeft, IsToRight, TurnsTo, first_nearer, AreFree, apart}

-- ---- chains

module _ (ring front : List Point) (v p : Point) where
  -- a chain goes on from v to another point,
  pub goes_on : (first : List Point) → IsBentChain ring (front ++ v ∷ p ∷ first) → ¬ (v ≡ p)
  goes_on first bent =
      let n = length front in
      let at = at_second front (v ∷ p ∷ first) in
      subst (λ z. ¬ (v ≡ z)) (at (n + 1) 1 (omega arith))
      (subst (λ z. ¬ (z ≡ point_at (front ++ v ∷ p ∷ first) (n + 1))) (at n 0 (omega arith))
      (bent.chain.distinct n (omega (arith, both_length front (v ∷ p ∷ first)))))

  -- with a bend there after a point before it,
  pub bend_here : (first : List Point) → IsBentChain ring (front ++ v ∷ p ∷ first) → 0 < length front
      → IsBend ring (point_at front (length front - 1)) v p
  bend_here first bent some =
      let n = length front in
      let chain = front ++ v ∷ p ∷ first in
      let o = point_at front (n - 1) in
      let at = at_second front (v ∷ p ∷ first) in
      subst (λ z. IsBend ring o v z) (at (n + 1) 1 (omega arith))
      (subst (λ z. IsBend ring o z (point_at chain (n + 1))) (at n 0 (omega arith))
      (subst (λ z. IsBend ring z (point_at chain n) (point_at chain (n + 1))) (at_first front (v ∷ p ∷ first) (n - 1) (omega arith))
      (bent.bends n (record { not_first = some; not_last = omega (arith, both_length front (v ∷ p ∷ first)) }))))

  -- and one at the next point before another
  pub bend_next : (r : Point) (rest : List Point) → IsBentChain ring (front ++ v ∷ p ∷ r ∷ rest) → IsBend ring v p r
  bend_next r rest bent =
      let n = length front in
      let chain = front ++ v ∷ p ∷ r ∷ rest in
      let at = at_second front (v ∷ p ∷ r ∷ rest) in
      subst (λ z. IsBend ring v p z) (at (n + 1 + 1) 2 (omega arith))
      (subst (λ z. IsBend ring v z (point_at chain (n + 1 + 1))) (at (n + 1) 1 (omega arith))
      (subst (λ z. IsBend ring z (point_at chain (n + 1)) (point_at chain (n + 1 + 1))) (at (n + 1 - 1) 0 (omega arith))
      (bent.bends (n + 1) (record { not_first = omega arith; not_last = omega (arith, both_length front (v ∷ p ∷ r ∷ rest)) }))))

-- ---- three points on a line

-- one of two points isn't after the other
in_order : (p q : Point) → NotAfter (whole p) (whole q) ⊎ NotAfter (whole q) (whole p)
in_order p q = elim (not_after_or_precedes (whole p) (whole q)) [
  | inl h ↦ inl (not_after_of_precedes (whole p) (whole q) h)
  | inr h ↦ inr h
]

-- on a line a point is on the segment between one that isn't after it and one that it isn't after
between_ordered : (p a b : Point) → IsStraight (whole a) (whole b) (whole p) → NotAfter (whole a) (whole p) → NotAfter (whole p) (whole b)
    → On (whole p) (whole a) (whole b)
between_ordered p a b straight first last =
    on_from_order (whole p) (whole a) (whole b) straight (whole_is_point p) (whole_is_point a) (whole_is_point b) first last

-- p is on the way from v to q, q on that to p, or v between them
abbrev pub OneBetween : Point → Point → Point → Type 0
OneBetween v p q = On (whole p) (whole v) (whole q) ⊎ (On (whole q) (whole v) (whole p) ⊎ On (whole v) (whole p) (whole q))

module _ (v p q : Point) (straight : IsStraight (whole v) (whole p) (whole q)) where
  -- three points on a line are on it with the last two exchanged,
  straight_p : IsStraight (whole v) (whole q) (whole p)
  straight_p = straight_swap_last (whole v) (whole p) (whole q) straight

  -- also with v last
  straight_v : IsStraight (whole p) (whole q) (whole v)
  straight_v = straight_shift (whole v) (whole p) (whole q) straight

  -- where p isn't before v,
  ahead : NotAfter (whole v) (whole p) → OneBetween v p q
  ahead vp = elim (in_order p q) [
    | inl pq ↦ inl (between_ordered p v q straight_p vp pq)
    | inr qp ↦ elim (in_order v q) [
      | inl vq ↦ inr (inl (between_ordered q v p straight vq qp))
      | inr qv ↦ inr (inr (on_reversed (whole v) (whole q) (whole p)
          (between_ordered v q p (straight_swap_first (whole p) (whole q) (whole v) straight_v) qv vp)))
    ]
  ]

  -- where it isn't after v,
  behind : NotAfter (whole p) (whole v) → OneBetween v p q
  behind pv = elim (in_order p q) [
    | inr qp ↦ inl (on_reversed (whole p) (whole q) (whole v)
        (between_ordered p q v (straight_swap_first (whole v) (whole q) (whole p) straight_p) qp pv))
    | inl pq ↦ elim (in_order v q) [
      | inl vq ↦ inr (inr (between_ordered v p q straight_v pv vq))
      | inr qv ↦ inr (inl (on_reversed (whole q) (whole p) (whole v)
          (between_ordered q p v (straight_swap_first (whole v) (whole p) (whole q) straight) pq qv)))
    ]
  ]

  -- and so in any case
  pub one_between : OneBetween v p q
  one_between = elim (in_order v p) [ inl h ↦ ahead h | inr h ↦ behind h ]

-- p is strictly to the left of the line from v through o, and q to the right of it
abbrev AreAcross : Point → Point → Point → Point → Type 0
AreAcross v o p q = IsLeft (whole v) (whole o) (whole p) × IsRight (whole v) (whole o) (whole q)

-- a line through a point of a segment has the ends, where they aren't on it, on its two sides
two_sides : (v o p q : Point) → On (whole v) (whole p) (whole q) → ¬ IsStraight (whole v) (whole o) (whole p)
    → ¬ IsStraight (whole v) (whole o) (whole q) → AreAcross v o p q ⊎ AreAcross v o q p
two_sides v o p q on off_p off_q =
    let in_line = determinant_same_ends (whole v) (whole o) in
    let left = stays_left (whole v) (whole p) (whole q) (whole_is_point v) (whole_is_point p) (whole_is_point q) on (whole v) (whole o) in
    let right = stays_right (whole v) (whole p) (whole q) (whole_is_point v) (whole_is_point p) (whole_is_point q) on (whole v) (whole o) in
    elim (sign (determinant (whole v) (whole o) (whole p))) [
      | is_zero h ↦ absurd (off_p h)
      | is_positive h ↦ elim (sign (determinant (whole v) (whole o) (whole q))) [
        | is_zero k ↦ absurd (off_q k)
        | is_positive k ↦ absurd (positive_not_zero (left h k) in_line)
        | is_negative k ↦ inl (h, k)
      ]
      | is_negative h ↦ elim (sign (determinant (whole v) (whole o) (whole q))) [
        | is_zero k ↦ absurd (off_q k)
        | is_positive k ↦ inr (k, h)
        | is_negative k ↦ absurd (negative_not_zero (right h k) in_line)
      ]
    ]

module _ (ring : List Point) (some : 3 ≤ length ring) (simple : IsSimple ring) where
  -- from one point over v ways with bends there don't go on to the two ends of a segment through v
  not_between_later : (v o p q : Point) → IsBend ring o v p → IsBend ring o v q → ¬ On (whole v) (whole p) (whole q)
  not_between_later v o p q bend bend_too on =
      let back = bend_back ring o v p bend in
      let back_too = bend_back ring o v q bend_too in
      elim (two_sides v o p q on bend.turns bend_too.turns) [
        | inl sides ↦ joined_one_side ring simple some v p q o (inr back) (inr back_too) sides
        | inr sides ↦ joined_one_side ring simple some v q p o (inr back_too) (inr back) sides
      ]

  -- and at their first point it is on the path between the ends
  pub not_between : (a b c v p q : Point) (front first second : List Point) → IsPath ring a b (front ++ v ∷ p ∷ first)
      → IsPath ring a c (front ++ v ∷ q ∷ second) → ¬ IsOnPath ring b c a → ¬ On (whole v) (whole p) (whole q)
  not_between a b c v p q [] first second is_first is_second not_on on =
      let taut = path_is_taut ring a b (v ∷ p ∷ first) is_first in
      let taut_too = path_is_taut ring a c (v ∷ q ∷ second) is_second in
      let begins = taut.first in
      not_on (on_path_of_joined ring some simple a b c p q
      (record { path = v ∷ p ∷ first; is_path = is_first; more = omega arith; is_next = refl })
      (record { path = v ∷ q ∷ second; is_path = is_second; more = omega arith; is_next = refl })
      (inl (
        (λ e. goes_on ring [] v p first taut.bent (begins ∙ e)),
        (λ e. goes_on ring [] v q second taut_too.bent (begins ∙ e)),
        subst (λ z. On (whole z) (whole p) (whole q)) begins on,
      )))
  not_between a b c v p q (u ∷ front) first second is_first is_second not_on on =
      let taut = path_is_taut ring a b ((u ∷ front) ++ v ∷ p ∷ first) is_first in
      let taut_too = path_is_taut ring a c ((u ∷ front) ++ v ∷ q ∷ second) is_second in
      not_between_later v (point_at (u ∷ front) (length (u ∷ front) - 1)) p q (bend_here ring (u ∷ front) v p first taut.bent (omega arith))
      (bend_here ring (u ∷ front) v q second taut_too.bent (omega arith)) on

-- where the path to b goes on to c, b is on the path to c
pub ends_on : (ring : List Point) (a b c x : Point) (path rest : List Point) → IsPath ring a b path → IsPath ring a c (path ++ x ∷ rest)
    → IsOnPath ring a c b
ends_on ring a b c x path rest is is_longer =
    let taut = path_is_taut ring a b path is in
    let longer = path ++ x ∷ rest in
    let place = length path - 1 in
    let some = taut.bent.chain.some in
    let at : point_at longer place ≡ b = at_first path (x ∷ rest) place (omega arith) ∙ taut.last in
    record {
      path = longer;
      is_path = is_longer;
      place = place;
      within = omega (arith, both_length path (x ∷ rest));
      on = rw at (on_first_end (whole b) (whole (point_at longer (place + 1))));
    }

module _ (ring : List Point) (a b c v p q : Point) where
  -- where b is on the step from v of the path to c, it is on that path
  on_step : (front second : List Point) → IsPath ring a c (front ++ v ∷ q ∷ second) → On (whole b) (whole v) (whole q) → IsOnPath ring a c b
  on_step front second is on =
      let at = at_second front (v ∷ q ∷ second) in
      record {
        path = front ++ v ∷ q ∷ second;
        is_path = is;
        place = length front;
        within = omega (arith, both_length front (v ∷ q ∷ second));
        on = rw (at (length front) 0 (omega arith), at (length front + 1) 1 (omega arith)) on;
      }

  -- paths that part to a side
  pub part_to : (Side Other : Triple → Triple → Triple → Type 0) (front first second : List Point) → IsPath ring a b (front ++ v ∷ p ∷ first)
      → IsPath ring a c (front ++ v ∷ q ∷ second) → p ≢ q → TurnsTo Side Other v p first q second → IsTo Side Other ring a b c
  part_to Side Other front first second is_first is_second differ turns = record {
    front = front;
    v = v;
    p = p;
    q = q;
    first = first;
    second = second;
    is_first = is_first;
    is_second = is_second;
    differ = differ;
    turns = turns;
  }

  -- where p is before q, the path over p goes on from there to a side
  pub nearer : (front first second : List Point) → IsPath ring a b (front ++ v ∷ p ∷ first) → IsPath ring a c (front ++ v ∷ q ∷ second)
      → p ≢ q → On (whole p) (whole v) (whole q) → ¬ IsOnPath ring a c b → IsToLeft ring a b c ⊎ IsToRight ring a b c
  nearer front [] second is_first is_second differ on not_on =
      let path = front ++ v ∷ p ∷ [] in
      let taut = path_is_taut ring a b path is_first in
      let at = at_second front (v ∷ p ∷ []) (length path - 1) 1 (omega (arith, both_length front (v ∷ p ∷ []))) in
      absurd (not_on (on_step front second is_second (subst (λ z. On (whole z) (whole v) (whole q)) (sym at ∙ taut.last) on)))
  nearer front (r ∷ rest) second is_first is_second differ on not_on =
      let bend = bend_next ring front v p r rest (path_is_taut ring a b (front ++ v ∷ p ∷ r ∷ rest) is_first).bent in
      elim (sign (determinant (whole v) (whole p) (whole r))) [
        | is_zero h ↦ absurd (bend.turns (straight_swap_first (whole v) (whole p) (whole r) h))
        | is_negative h ↦ inl (part_to IsLeft IsRight front (r ∷ rest) second is_first is_second differ (first_nearer r rest on refl h))
        | is_positive h ↦ inr (part_to IsRight IsLeft front (r ∷ rest) second is_first is_second differ (first_nearer r rest on refl h))
      ]

module _ (ring : List Point) (some : 3 ≤ length ring) (simple : IsSimple ring) (a b c : Point) where
  -- paths to free points that part do so to a side
  parted_to_a_side : (v p q : Point) (front first second : List Point) → IsPath ring a b (front ++ v ∷ p ∷ first)
      → IsPath ring a c (front ++ v ∷ q ∷ second) → p ≢ q → AreFree ring a b c → IsToLeft ring a b c ⊎ IsToRight ring a b c
  parted_to_a_side v p q front first second is_first is_second differ free = elim (sign (determinant (whole v) (whole p) (whole q))) [
    | is_positive h ↦ inl (part_to ring a b c v p q IsLeft IsRight front first second is_first is_second differ (apart h))
    | is_negative h ↦ inr (part_to ring a b c v p q IsRight IsLeft front first second is_first is_second differ (apart h))
    | is_zero h ↦ elim (one_between v p q h) [
      | inl on ↦ nearer ring a b c v p q front first second is_first is_second differ on free.not_b
      | inr (inl on) ↦ elim (nearer ring a c b v q p front second first is_second is_first (λ e. differ (sym e)) on free.not_c) [
        | inl left ↦ inr (exchanged ring a c b left)
        | inr right ↦ inl (exchanged_back ring a c b right)
      ]
      | inr (inr on) ↦ absurd (not_between ring some simple a b c v p q front first second is_first is_second free.not_a on)
    ]
  ]

module _ (ring : List Point) (some : 3 ≤ length ring) (simple : IsSimple ring) where
  -- of three free points the third is to the left of the second or to the right of it
  pub one_way : (a b c : Point) (alpha beta : List Point) → IsPath ring a b alpha → IsPath ring a c beta → AreFree ring a b c
      → IsToLeft ring a b c ⊎ IsToRight ring a b c
  one_way a b c alpha beta is_first is_second free =
      let taut = path_is_taut ring a b alpha is_first in
      let taut_too = path_is_taut ring a c beta is_second in
      elim (fork alpha beta taut.bent.chain.some taut_too.bent.chain.some (taut.first ∙ sym taut_too.first)) [
        | alike e ↦ absurd (free.b_c (sym taut.last ∙ ap (λ xs. point_at xs (length xs - 1)) e ∙ taut_too.last))
        | first_ends x rest e ↦ absurd (free.not_b (ends_on ring a b c x alpha rest is_first (subst (IsPath ring a c) e is_second)))
        | second_ends x rest e ↦ absurd (free.not_c (ends_on ring a c b x beta rest is_second (subst (IsPath ring a b) e is_first)))
        | parted front v p q first second e f differ ↦
            parted_to_a_side ring some simple a b c v p q front first second (subst (IsPath ring a b) e is_first)
            (subst (IsPath ring a c) f is_second) differ free
      ]
