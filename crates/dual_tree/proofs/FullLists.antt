-- A chain with bends is what is left of its full list without the points at which the way goes straight on.
use Rattle.std.proofs.Common.{◌≡◌, ◌≢◌, inl, inr, true, refl, sym, subst, ap, ◌∙◌, suc, ℕ, ◌+◌, ◌-◌, ◌<◌, List, [], ◌∷◌, ◌++◌, length, arith}
use Rattle.plane.proofs.Points.{same_whole, whole_is_point}
use Rattle.plane.proofs.Segments.{on_first_end, on_last_end, on_reversed, straight_on}
use Rattle.plane.proofs.Turns.{determinant_same_ends, determinant_same_first, straight_swap_first}
use Rattle.plane.specs.Point.{Point, whole}
use Rattle.plane.specs.Segment.{On}
use Rattle.plane.specs.Turn.{IsStraight}
use Rattle.rings.specs.Chain.{IsBentChain, point_at}
use Rattle.rings.specs.Edge.{Has}
use Rattle.rings.specs.Full.{AreTouched, IsFull}
use Rattle.exact_plane.proofs.Directions.{straight_of_zero, zero_of_straight}
use Rattle.exact_plane.specs.declared.direction.Direction.{Direction}
use Rattle.exact_plane.specs.declared.direction.Direction.TheVariants.{Left, Right, Straight}
use Rattle.funnels.proofs.Bends.{AreOnRay, turning_from_ray, turning_to_ray}
use Rattle.dual_tree.specs.Laws.{FullWithoutStraightLaw}
use Rattle.dual_tree.specs.Straight.{left_after, unless_straight, without_straight}

-- ---- one point

-- a point is left out where the way goes straight on,
straight_left_out : (p q r : Point) (rest : List Point) → IsStraight (whole p) (whole q) (whole r)
    → left_after p (q ∷ r ∷ rest) ≡ left_after q (r ∷ rest)
straight_left_out p q r rest straight = ap (λ d. unless_straight d q (left_after q (r ∷ rest))) (straight_of_zero _ straight)

-- and stays where it turns
stays_unless : (d : Direction) (p : Point) (ps : List Point) → d ≢ Straight → unless_straight d p ps ≡ p ∷ ps
stays_unless Straight p ps turns = absurd (turns refl)
stays_unless Left p ps turns = refl
stays_unless Right p ps turns = refl

turn_stays : (p q r : Point) (rest : List Point) → ¬ IsStraight (whole p) (whole q) (whole r)
    → left_after p (q ∷ r ∷ rest) ≡ q ∷ left_after q (r ∷ rest)
turn_stays p q r rest turns = stays_unless _ q (left_after q (r ∷ rest)) (λ e. turns (zero_of_straight _ e))

-- ---- points on the way to the next point of a chain

-- p is on the way from a to b, and not b
record IsBefore (a b p : Point) : Type 0 where
  on : On (whole p) (whole a) (whole b)
  differ : ¬ (p ≡ b)

-- q is on the way from a to b, and not a
record IsAfter (a b q : Point) : Type 0 where
  on : On (whole q) (whole a) (whole b)
  differ : ¬ (q ≡ a)

module _ (a b : Point) where
  -- two of them and a point of the segment are on one line,
  in_line : (p q r : Point) → IsBefore a b p → IsBefore a b q → On (whole r) (whole a) (whole b) → IsStraight (whole p) (whole q) (whole r)
  in_line p q r first next on =
      straight_on (whole p) (whole q) (whole r) (whole a) (whole b) (whole_is_point p) (whole_is_point q) (whole_is_point r) (whole_is_point a)
      (whole_is_point b) first.on next.on on

  -- so the second is left out
  one_left_out : (p q : Point) (between tail : List Point) → IsBefore a b p → IsBefore a b q → ((u : Point) → Has between u → IsBefore a b u)
      → left_after p (q ∷ (between ++ b ∷ tail)) ≡ left_after q (between ++ b ∷ tail)
  one_left_out p q [] tail first next each = straight_left_out p q b tail (in_line p q b first next (on_last_end (whole a) (whole b)))
  one_left_out p q (r ∷ between) tail first next each =
      straight_left_out p q r (between ++ b ∷ tail) (in_line p q r first next (each r (inl refl)).on)

  -- all are, so from the last of them on what is left is the same
  all_left_out : (p : Point) (between tail : List Point) → IsBefore a b p → ((u : Point) → Has between u → IsBefore a b u)
      → (q : Point) × IsBefore a b q × (left_after p (between ++ b ∷ tail) ≡ left_after q (b ∷ tail))
  all_left_out p [] tail before each = (p, before, refl)
  all_left_out p (q ∷ between) tail before each =
      let next = each q (inl refl) in
      let onward : (u : Point) → Has between u → IsBefore a b u = λ u has. each u (inr has) in
      let (last, at_last, e) = all_left_out q between tail next onward in
      (last, at_last, one_left_out p q between tail before next onward ∙ e)

-- ---- the points of a chain

-- three points that are not on one line are different
differ_first : (a b c : Point) → ¬ IsStraight (whole b) (whole a) (whole c) → ¬ (a ≡ b)
differ_first a b c turns e =
    turns (subst (λ p. IsStraight (whole b) (whole p) (whole c)) (sym e) (determinant_same_first (whole b) (whole c)))

differ_last : (a b c : Point) → ¬ IsStraight (whole b) (whole a) (whole c) → ¬ (c ≡ b)
differ_last a b c turns e =
    turns (subst (λ p. IsStraight (whole b) (whole a) (whole p)) (sym e) (determinant_same_ends (whole b) (whole a)))

-- the way turns at b from a point before it to a point after it as from a to c
module _ (a b c : Point) (turns : ¬ IsStraight (whole b) (whole a) (whole c)) where
  ray : (p q : Point) → ¬ (p ≡ b) → ¬ (q ≡ b) → On (whole q) (whole b) (whole p) → AreOnRay (whole b) (whole q) (whole p)
  ray p q p_differs q_differs on = record {
    first_rational = whole_is_point q;
    last_rational = whole_is_point p;
    first_differs = λ same. q_differs (same_whole q b same);
    last_differs = λ same. p_differs (same_whole p b same);
    on_ray = inl on;
  }

  turn_between : (p q : Point) → IsBefore a b p → IsAfter b c q → ¬ IsStraight (whole p) (whole b) (whole q)
  turn_between p q before after straight =
      let first = ray a p (differ_first a b c turns) before.differ (on_reversed (whole p) (whole a) (whole b) before.on) in
      let last = ray c q (differ_last a b c turns) after.differ after.on in
      let from_a = (turning_from_ray b true (whole p) (whole a) (whole q) first).zero
      (straight_swap_first (whole p) (whole b) (whole q) straight) in
      turns ((turning_to_ray b true (whole q) (whole c) (whole a) last).zero from_a)

  -- so b stays
  bend_stays : (p : Point) (between tail : List Point) → IsBefore a b p → ((u : Point) → Has between u → IsAfter b c u)
      → left_after p (b ∷ (between ++ c ∷ tail)) ≡ b ∷ left_after b (between ++ c ∷ tail)
  bend_stays p [] tail before each =
      turn_stays p b c tail (turn_between p c before (record { on = on_last_end (whole b) (whole c); differ = differ_last a b c turns }))
  bend_stays p (q ∷ between) tail before each =
      turn_stays p b q (between ++ c ∷ tail) (turn_between p q before (each q (inl refl)))

-- ---- full lists

-- a full list begins with the first point of the chain
full_begins : (ring : List Point) (b : Point) (rest full : List Point) → IsFull ring (b ∷ rest) full → (tail : List Point) × (full ≡ b ∷ tail)
full_begins ring b [] full is = ([], is)
full_begins ring b (c ∷ rest) full (between, after, parts, touched, onward) = (between ++ after, parts)

-- the points of the chain turn at each inner one
abbrev TurnsAlways : List Point → Type 0
TurnsAlways chain = (k : ℕ) → suc (suc k) < length chain
    → ¬ IsStraight (whole (point_at chain (suc k))) (whole (point_at chain k)) (whole (point_at chain (suc (suc k))))

turns_always : (ring chain : List Point) → IsBentChain ring chain → TurnsAlways chain
turns_always ring chain bent k within straight =
    let before : suc k - 1 ≡ k = omega arith in
    let after : suc k + 1 ≡ suc (suc k) = omega arith in
    (bent.bends (suc k) (record { not_first = omega arith; not_last = omega (arith, within) })).turns (rw (before, after) straight)

module _ (ring : List Point) where
  before_of : (a b : Point) (between : List Point) → AreTouched ring a b between → (u : Point) → Has between u → IsBefore a b u
  before_of a b between touched u has = let v = (touched.vertices u).0 has in record { on = v.on; differ = v.not_last }

  after_of : (a b : Point) (between : List Point) → AreTouched ring a b between → (u : Point) → Has between u → IsAfter a b u
  after_of a b between touched u has = let v = (touched.vertices u).0 has in record { on = v.on; differ = v.not_first }

  -- what is left after the first point is the rest of the chain
  rest_left : (a b : Point) (rest between after : List Point) → ¬ (a ≡ b) → TurnsAlways (a ∷ b ∷ rest) → AreTouched ring a b between
      → IsFull ring (b ∷ rest) after → left_after a (between ++ after) ≡ b ∷ rest
  rest_left a b [] between after differ turns touched is =
      let (q, at, e) = all_left_out a b a between [] (record { on = on_first_end (whole a) (whole b); differ = differ })
      (before_of a b between touched) in
      ap (λ ps. left_after a (between ++ ps)) is ∙ e
  rest_left a b (c ∷ rest) between after differ turns touched (inner, end, parts, inner_touched, onward) =
      let turn = turns 0 (omega arith) in
      let (q, at, left) = all_left_out a b a between (inner ++ end) (record { on = on_first_end (whole a) (whole b); differ = differ })
      (before_of a b between touched) in
      let (tail, begins) = full_begins ring c rest end onward in
      let stays : left_after q (b ∷ (inner ++ end)) ≡ b ∷ left_after b (inner ++ end) =
      subst (λ ps. left_after q (b ∷ (inner ++ ps)) ≡ b ∷ left_after b (inner ++ ps)) (sym begins)
      (bend_stays a b c turn q inner tail at (after_of b c inner inner_touched)) in
      ap (λ ps. left_after a (between ++ ps)) parts ∙ left ∙ stays
      ∙ ap (λ ps. b ∷ ps) (rest_left b c rest inner end (λ e. differ_last a b c turn (sym e)) (λ k within. turns (suc k) (omega (arith, within)))
      inner_touched onward)

pub full_without_straight : FullWithoutStraightLaw
full_without_straight ring [] full bent is = ap without_straight is
full_without_straight ring (a ∷ []) full bent is = ap without_straight is
full_without_straight ring (a ∷ b ∷ rest) full bent (between, after, parts, touched, onward) =
    ap without_straight parts
    ∙ ap (λ ps. a ∷ ps) (rest_left ring a b rest between after (bent.chain.distinct 0 (omega arith)) (turns_always ring (a ∷ b ∷ rest) bent)
    touched onward)
