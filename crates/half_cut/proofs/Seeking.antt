-- A corner from which no other is farther to the right of a line, by the ways of its two sides.
use Rattle.std.proofs.Common.{◌≡◌, ◌≢◌, inl, inr, [], ◌∷◌, refl, sym, subst, ap, ◌∙◌, ℕ, ◌+◌, ◌-◌, ◌%◌, ◌<◌, ◌≤◌, List, length, ℤ, pos, ◌+ℤ◌, ◌-ℤ◌, ◌*ℤ◌, ◌<ℤ◌, ◌≤ℤ◌, arith}
use Rattle.std.proofs.Math.Nat.{add-mod_left, mod-eq_of_lt, mod-lt}
use Rattle.std.proofs.lemmas.Bool.{cases_eq}
use Rattle.std.proofs.lemmas.Int.{ints}
use Rattle.integer_algebra.proofs.Certificate.{◌⊞◌, ◌⊠◌}
use Rattle.integer_algebra.proofs.Polynomial.{var, lit, ◌⊕◌, ◌⊖◌, ◌⊗◌, same_value}
use Rattle.integer_algebra.proofs.SignSteps.{at_least_unless, at_most_unless, not_both, weak}
use Rattle.integer_algebra.proofs.Signs.{factor_nonnegative, mul_nonnegative}
use Rattle.plane.proofs.Order.{after, before, before_asym, compare_points, equal}
use Rattle.plane.proofs.Turns.{determinant_shift_back}
use Rattle.plane.specs.Convex.{corner}
use Rattle.plane.specs.Line.{cross_product}
use Rattle.plane.specs.Point.{IsPoint, Point, Triple, whole}
use Rattle.plane.specs.Region.{corner_at}
use Rattle.plane.specs.Turn.{IsStraight, determinant}
use Rattle.exact_plane.proofs.Directions.{left_of_positive, positive_of_left}
use Rattle.half_cut.proofs.Blocks.{mod_add}
use Rattle.half_cut.proofs.Links.{comes_to, length_rotated, on_at}
use Rattle.half_cut.proofs.TurnedBlocks.{convex_from, read_from}
use Rattle.half_cut.proofs.Ways.{IsAlong, along_down, along_of, along_up, by_two_in_x, by_two_in_y, farther, farther_from_line, farther_is, lines_turn, not_both_up, up_of_before, up_other}
use Rattle.half_cut.specs.Outline.{IsOnLine, IsRegionKept, IsRightOf, Line, from_place, line_at}
use Rattle.half_cut.specs.Seek.{AreEarlierSides, ComesBefore, IsFacing, IsUpward, TurnsLeftTo}

-- the two as rules
pub ruleset left_turns = (positive_of_left, left_of_positive)

-- ---- three vectors and a fourth

-- each is a sum of multiples of two others
three_vectors : (ux uy ox oy wx wy vx vy : ℤ) →
    (ux *ℤ oy -ℤ uy *ℤ ox) *ℤ (wx *ℤ vy -ℤ wy *ℤ vx) ≡
    (wx *ℤ oy -ℤ wy *ℤ ox) *ℤ (ux *ℤ vy -ℤ uy *ℤ vx) +ℤ (ux *ℤ wy -ℤ uy *ℤ wx) *ℤ (ox *ℤ vy -ℤ oy *ℤ vx)
three_vectors ux uy ox oy wx wy vx vy =
    same_value ((var 0 ⊗ var 3 ⊖ var 1 ⊗ var 2) ⊗ (var 4 ⊗ var 7 ⊖ var 5 ⊗ var 6))
    ((var 4 ⊗ var 3 ⊖ var 5 ⊗ var 2) ⊗ (var 0 ⊗ var 7 ⊖ var 1 ⊗ var 6)
    ⊕ (var 0 ⊗ var 5 ⊖ var 1 ⊗ var 4) ⊗ (var 2 ⊗ var 7 ⊖ var 3 ⊗ var 6))
    (ux ∷ uy ∷ ox ∷ oy ∷ wx ∷ wy ∷ vx ∷ vy ∷ []) refl

module _ (p q r t a b : Point) (c z : Triple) where
  -- so it is with the ways of three lines
  three_lines : cross_product p q r t *ℤ farther a b c z ≡
      cross_product a b r t *ℤ farther p q c z +ℤ cross_product p q a b *ℤ farther r t c z
  three_lines =
      ap (λ w. cross_product p q r t *ℤ w) (farther_is a b c z)
      ∙ three_vectors (q.x -ℤ p.x) (q.y -ℤ p.y) (t.x -ℤ r.x) (t.y -ℤ r.y) (b.x -ℤ a.x) (b.y -ℤ a.y)
      (z.X *ℤ c.W -ℤ c.X *ℤ z.W) (z.Y *ℤ c.W -ℤ c.Y *ℤ z.W)
      ∙ (λ i. cross_product a b r t *ℤ sym (farther_is p q c z) i +ℤ cross_product p q a b *ℤ sym (farther_is r t c z) i)

-- no farther to the right than a point that is not right
left_of_farther : (a b : Point) (c z : Triple) → IsPoint c → IsPoint z → pos 0 ≤ℤ determinant (whole a) (whole b) c → pos 0 ≤ℤ farther a b c z
    → pos 0 ≤ℤ determinant (whole a) (whole b) z
unfolding farther
left_of_farther a b c z at_c at_z left far =
    factor_nonnegative c.W (determinant (whole a) (whole b) z) at_c (omega (
      arith,
      ints,
      far,
      mul_nonnegative _ z.W left (weak at_z),
      mul_commutes,
    ))
  where
    mul_commutes : c.W *ℤ determinant (whole a) (whole b) z ≡ determinant (whole a) (whole b) z *ℤ c.W
    mul_commutes = omega (arith, ints)

-- where the way of a line is between those of the sides at a corner, no point that is right of neither side is right of the line,
-- unless the corner is
pub left_of_both : (p q r t a b : Point) (c z : Triple) → IsPoint c → IsPoint z → IsStraight (whole p) (whole q) c → IsStraight (whole r) (whole t) c
    → pos 0 ≤ℤ determinant (whole p) (whole q) z → pos 0 ≤ℤ determinant (whole r) (whole t) z
    → pos 0 <ℤ cross_product p q r t → pos 0 ≤ℤ cross_product a b r t → pos 0 ≤ℤ cross_product p q a b
    → pos 0 ≤ℤ determinant (whole a) (whole b) c → pos 0 ≤ℤ determinant (whole a) (whole b) z
left_of_both p q r t a b c z at_c at_z on_in on_out left_in left_out turned ahead back left =
    left_of_farther a b c z at_c at_z left
    (factor_nonnegative (cross_product p q r t) (farther a b c z) turned
    (subst (λ w. pos 0 ≤ℤ w) (sym (three_lines p q r t a b c z))
    (ahead ⊠ farther_from_line p q c z at_c on_in left_in ⊞ back ⊠ farther_from_line r t c z at_c on_out left_out)))

-- ---- the way of a line between those of two sides

-- one way turns to another as that does not to it
opposite : (l m : Line) → cross_product l.0 l.1 m.0 m.1 ≡ pos 0 -ℤ cross_product m.0 m.1 l.0 l.1
opposite l m =
    same_value ((var 6 ⊖ var 4) ⊗ (var 3 ⊖ var 1) ⊖ (var 7 ⊖ var 5) ⊗ (var 2 ⊖ var 0))
    (lit (pos 0) ⊖ ((var 2 ⊖ var 0) ⊗ (var 7 ⊖ var 5) ⊖ (var 3 ⊖ var 1) ⊗ (var 6 ⊖ var 4)))
    (m.0.x ∷ m.0.y ∷ m.1.x ∷ m.1.y ∷ l.0.x ∷ l.0.y ∷ l.1.x ∷ l.1.y ∷ []) refl

not_back : (l m : Line) → ¬ TurnsLeftTo l m → pos 0 ≤ℤ cross_product m.0 m.1 l.0 l.1
not_back l m not = let most = at_most_unless not in omega (arith, ints, opposite m l, most)

right_back : (l m : Line) → TurnsLeftTo l m → cross_product m.0 m.1 l.0 l.1 <ℤ pos 0
right_back l m left = omega (arith, ints, opposite m l, left)

-- the same way, from the second point to the first
abbrev pub turned : Line → Line
turned l = (l.1, l.0)

-- both ways turned round turn as before
both_round : (l m : Line) → cross_product l.1 l.0 m.1 m.0 ≡ cross_product l.0 l.1 m.0 m.1
both_round l m =
    same_value ((var 0 ⊖ var 2) ⊗ (var 5 ⊖ var 7) ⊖ (var 1 ⊖ var 3) ⊗ (var 4 ⊖ var 6))
    ((var 2 ⊖ var 0) ⊗ (var 7 ⊖ var 5) ⊖ (var 3 ⊖ var 1) ⊗ (var 6 ⊖ var 4))
    (l.0.x ∷ l.0.y ∷ l.1.x ∷ l.1.y ∷ m.0.x ∷ m.0.y ∷ m.1.x ∷ m.1.y ∷ []) refl

round_left : (l m : Line) → TurnsLeftTo l m → TurnsLeftTo (turned l) (turned m)
round_left l m left = subst (λ w. pos 0 <ℤ w) (sym (both_round l m)) left

round_again : (l m : Line) → TurnsLeftTo (turned l) (turned m) → TurnsLeftTo l m
round_again l m left = subst (λ w. pos 0 <ℤ w) (both_round l m) left

-- of three ways a multiple of one is a sum of multiples of the others: where one of these is taken off, and it and the sum go up, the
-- third does not go down
none_down : (l m o : Line) (k f g : ℤ) → pos 0 <ℤ k → f <ℤ pos 0 → pos 0 ≤ℤ g → IsUpward l → IsUpward m → IsUpward (turned o)
    → k *ℤ (l.1.x -ℤ l.0.x) ≡ f *ℤ (m.1.x -ℤ m.0.x) +ℤ g *ℤ (o.1.x -ℤ o.0.x)
    → k *ℤ (l.1.y -ℤ l.0.y) ≡ f *ℤ (m.1.y -ℤ m.0.y) +ℤ g *ℤ (o.1.y -ℤ o.0.y) → ⊥
none_down l m o k f g some less least up too down ex ey =
    not_both_up (o.1.x -ℤ o.0.x) (o.1.y -ℤ o.0.y) (o.0.x -ℤ o.1.x) (o.0.y -ℤ o.1.y)
    (up_other k f g _ _ _ _ _ _ some less least (up_of_before l.0 l.1 up) (up_of_before m.0 m.1 too) ex ey)
    (up_of_before o.1 o.0 down) (omega (arith, ints)) (omega (arith, ints))

-- a line between two others, into a corner and out of it
module _ (into out line : Line) where
  abbrev by_x : cross_product into.0 into.1 out.0 out.1 *ℤ (line.1.x -ℤ line.0.x) ≡
      cross_product line.0 line.1 out.0 out.1 *ℤ (into.1.x -ℤ into.0.x) +ℤ cross_product into.0 into.1 line.0 line.1 *ℤ (out.1.x -ℤ out.0.x)
  by_x = by_two_in_x (into.1.x -ℤ into.0.x) (into.1.y -ℤ into.0.y) (out.1.x -ℤ out.0.x) (out.1.y -ℤ out.0.y) (line.1.x -ℤ line.0.x) (line.1.y -ℤ line.0.y)

  abbrev by_y : cross_product into.0 into.1 out.0 out.1 *ℤ (line.1.y -ℤ line.0.y) ≡
      cross_product line.0 line.1 out.0 out.1 *ℤ (into.1.y -ℤ into.0.y) +ℤ cross_product into.0 into.1 line.0 line.1 *ℤ (out.1.y -ℤ out.0.y)
  by_y = by_two_in_y (into.1.x -ℤ into.0.x) (into.1.y -ℤ into.0.y) (out.1.x -ℤ out.0.x) (out.1.y -ℤ out.0.y) (line.1.x -ℤ line.0.x) (line.1.y -ℤ line.0.y)

  ahead_up : TurnsLeftTo into out → IsUpward line → IsUpward into → IsUpward (turned out) → ¬ TurnsLeftTo line into → ¬ TurnsLeftTo out line
  ahead_up turn up up_in down_out back left =
      none_down line into out _ _ _ turn (right_back out line left) (not_back line into back) up up_in down_out by_x by_y

  back_up : TurnsLeftTo into out → IsUpward line → IsUpward out → IsUpward (turned into) → ¬ TurnsLeftTo out line → ¬ TurnsLeftTo line into
  back_up turn up up_out down_in ahead left =
      none_down line out into _ _ _ turn (right_back line into left) (not_back out line ahead) up up_out down_in
      (omega (arith, ints, by_x)) (omega (arith, ints, by_y))

-- its way is between theirs
abbrev pub IsWayBetween : (into out line : Line) → Type 0
IsWayBetween into out line = (¬ TurnsLeftTo out line) × (¬ TurnsLeftTo line into)

module _ (into out line : Line) (turn : TurnsLeftTo into out) (differ : line.0 ≢ line.1) where
  ahead_down : IsUpward (turned line) → IsUpward (turned into) → IsUpward out → ¬ TurnsLeftTo line into → ¬ TurnsLeftTo out line
  ahead_down down down_in up_out back left =
      ahead_up (turned into) (turned out) (turned line) (round_left into out turn) down down_in up_out
      (λ h. back (round_again line into h)) (round_left out line left)

  back_down : IsUpward (turned line) → IsUpward (turned out) → IsUpward into → ¬ TurnsLeftTo out line → ¬ TurnsLeftTo line into
  back_down down down_out up_in ahead left =
      back_up (turned into) (turned out) (turned line) (round_left into out turn) down down_out up_in
      (λ h. ahead (round_again out line h)) (round_left line into left)

  not_left_both : TurnsLeftTo into line → ¬ TurnsLeftTo line into
  not_left_both left back = not_both (right_back into line left) (weak back)

  -- where it comes after the first, and not after the second,
  between_two : out.0 ≢ out.1 → ComesBefore into line → ¬ ComesBefore out line → IsWayBetween into out line
  between_two two first second = elim (compare_points line.0 line.1) [
    | equal e ↦ absurd (differ e)
    | before up ↦
        let left : IsUpward into × TurnsLeftTo into line = elim first [
          | inl h ↦ absurd (h.1 up)
          | inr h ↦ (h.0.1 up, h.1)
        ] in
        let back = not_left_both left.1 in
        elim (compare_points out.0 out.1) [
          | equal e ↦ absurd (two e)
          | before h ↦ (λ l. second (inr ((λ _. up, λ _. h), l)), back)
          | after h ↦ (ahead_up into out line turn up left.0 h back, back)
        ]
    | after down ↦ elim (compare_points out.0 out.1) [
      | equal e ↦ absurd (two e)
      | before h ↦ absurd (second (inl (h, before_asym line.1 line.0 down)))
      | after h ↦
          let ahead : ¬ TurnsLeftTo out line = λ l. second (inr
          ((λ u. absurd (before_asym out.1 out.0 h u), λ u. absurd (before_asym line.1 line.0 down u)), l)) in
          elim first [
            | inl g ↦ (ahead, back_down down h g.0 ahead)
            | inr g ↦ (ahead, not_left_both g.1)
          ]
    ]
  ]

  module _ (down_in : IsUpward (turned into)) (up_out : IsUpward out) where
    -- where the first goes down, the second goes up, and it does not come after that,
    between_first : ¬ ComesBefore out line → IsWayBetween into out line
    between_first second = elim (compare_points line.0 line.1) [
      | equal e ↦ absurd (differ e)
      | before up ↦
          let ahead : ¬ TurnsLeftTo out line = λ l. second (inr ((λ _. up, λ _. up_out), l)) in
          (ahead, back_up into out line turn up up_out down_in ahead)
      | after down ↦ absurd (second (inl (up_out, before_asym line.1 line.0 down)))
    ]

    -- or where it comes after the first
    between_last : ComesBefore into line → IsWayBetween into out line
    between_last (inl h) = absurd (before_asym into.1 into.0 down_in h.0)
    between_last (inr h) = elim (compare_points line.0 line.1) [
      | equal e ↦ absurd (differ e)
      | before up ↦ absurd (before_asym into.1 into.0 down_in (h.0.1 up))
      | after down ↦ (ahead_down down down_in up_out (not_left_both h.1), not_left_both h.1)
    ]

-- ---- at a corner of a region

module _ {cs : List Triple} {ls : List Line} {least : ℕ} (kept : IsRegionKept cs ls least) (three : 3 ≤ length cs) (at : ℕ)
    (in_at : at < length cs) where
  abbrev n : ℕ
  n = length cs

  -- the corner before it,
  abbrev place : ℕ
  place = (at + (n - 1)) % n

  in_place : place < n
  in_place = mod-lt (at + (n - 1)) (omega (arith, three))

  in_next : (at + 1) % n < n
  in_next = mod-lt (at + 1) (omega (arith, three))

  here_again : (place + 1) % n ≡ at
  here_again = mod_add (at + (n - 1)) 1 n ∙ ap (λ k. k % n) (omega (arith, in_at)) ∙ add-mod_left n at ∙ mod-eq_of_lt in_at

  many : length ls ≡ n
  many = kept.round.linked.as_many

  -- and the lines of both sides
  abbrev into : Line
  into = line_at ls place

  abbrev out : Line
  out = line_at ls at

  pub on_into : IsOnLine into (corner cs at)
  on_into = on_at {l = into} refl (ap (λ k. corner cs k) (sym here_again)) (comes_to cs ls 0 kept.round (omega arith) place in_place)

  pub on_out : IsOnLine out (corner cs at)
  on_out = kept.round.linked.begins at in_at

  left_of : (k i : ℕ) → k < n → i < n → pos 0 ≤ℤ determinant (whole (line_at ls k).0) (whole (line_at ls k).1) (corner cs i)
  left_of k i in_k in_i = at_least_unless (kept.beside k i (omega (arith, in_k, many)) in_i)

  -- the three corners turn left
  left_there : pos 0 <ℤ determinant (corner cs at) (corner_at cs (at + 1)) (corner cs place)
  left_there =
      let in_turned : at ≤ n = omega (arith, in_at) in
      let here : corner (from_place at cs) 0 ≡ corner cs at =
      read_from cs at 0 in_turned (omega (arith, three)) ∙ ap (λ k. corner cs k) (ap (λ k. k % n) (omega arith) ∙ mod-eq_of_lt in_at) in
      let next = read_from cs at 1 in_turned (omega (arith, three)) in
      let last = read_from cs at (n - 1) in_turned (omega (arith, three)) in
      let count = length_rotated cs at in_turned in
      subst (λ t. t) (λ i. pos 0 <ℤ determinant (here i) (next i) (last i))
      ((convex_from cs at kept.convex).left 0 1 (n - 1) (omega arith) (omega (arith, three)) (omega (arith, three, count)))

  -- the line out of the corner goes along its side,
  pub along_out : IsAlong out.0 out.1 (corner cs at) (corner_at cs (at + 1))
  along_out =
      along_of out.0 out.1 (corner cs at) (corner_at cs (at + 1)) (corner cs place) (kept.convex.rational at in_at)
      (kept.round.linked.two_points at (omega (arith, in_at, many))) on_out
      (comes_to cs ls 0 kept.round (omega arith) at in_at)
      left_there (left_of at place in_at in_place)

  left_back : pos 0 <ℤ determinant (corner cs place) (corner cs at) (corner_at cs (at + 1))
  left_back =
      subst (λ w. pos 0 <ℤ w) (sym (determinant_shift_back (corner cs at) (corner_at cs (at + 1)) (corner cs place))) left_there

  -- and so does the one into it
  pub along_into : IsAlong into.0 into.1 (corner cs place) (corner cs at)
  along_into =
      along_of into.0 into.1 (corner cs place) (corner cs at) (corner_at cs (at + 1)) (kept.convex.rational place in_place)
      (kept.round.linked.two_points place (omega (arith, in_place, many))) (kept.round.linked.begins place in_place) on_into left_back
      (left_of place ((at + 1) % n) in_place in_next)

  -- so one turns left to the other
  pub turned_there : pos 0 <ℤ cross_product into.0 into.1 out.0 out.1
  turned_there =
      lines_turn into.0 into.1 out.0 out.1 (corner cs place) (corner cs at) (corner_at cs (at + 1)) (kept.convex.rational at in_at) along_into
      along_out left_back

  -- and no corner is right of a line whose way is between the two, unless this one is
  pub none_right : (line : Line) → IsFacing line ls at → ¬ IsRightOf line (corner cs at) → (i : ℕ) → i < n → ¬ IsRightOf line (corner cs i)
  none_right line facing here i less right =
      let back = subst (λ k. ¬ TurnsLeftTo line (line_at ls ((at + (k - 1)) % k))) many facing.back in
      not_both right
      (left_of_both into.0 into.1 out.0 out.1 line.0 line.1 (corner cs at) (corner cs i) (kept.convex.rational at in_at)
      (kept.convex.rational i less) on_into on_out (left_of place i in_place less) (left_of at i in_at less) turned_there
      (not_back out line facing.ahead) (not_back line into back) (at_least_unless here))

  pub facing_there : (line : Line) → IsWayBetween into out line → IsFacing line ls at
  facing_there line between = record {
    ahead = between.0;
    back = subst (λ k. ¬ TurnsLeftTo line (line_at ls ((at + (k - 1)) % k))) (sym many) between.1;
  }

-- ---- at the least corner, and from there on

module _ {cs : List Triple} {ls : List Line} {from : ℕ} (kept : IsRegionKept cs ls from) (three : 3 ≤ length cs) where
  in_from : from < length cs
  in_from = kept.some (omega (arith, three))

  -- the side out of it goes up,
  pub up_out : IsUpward (line_at ls from)
  up_out = elim (compare_points (line_at ls from).0 (line_at ls from).1) [
    | before h ↦ h
    | equal e ↦ absurd (kept.round.linked.two_points from (omega (arith, in_from, kept.round.linked.as_many)) e)
    | after h ↦
        absurd (kept.least ((from + 1) % length cs) (mod-lt (from + 1) (omega (arith, three)))
        (along_down (along_out kept three from in_from) h))
  ]

  -- and the side into it down
  pub down_in : IsUpward (turned (line_at ls ((from + (length cs - 1)) % length cs)))
  down_in =
      let place : ℕ = (from + (length cs - 1)) % length cs in
      let in_place : place < length cs = mod-lt (from + (length cs - 1)) (omega (arith, three)) in
      elim (compare_points (line_at ls place).1 (line_at ls place).0) [
        | before h ↦ h
        | equal e ↦ absurd (kept.round.linked.two_points place (omega (arith, in_place, kept.round.linked.as_many)) (sym e))
        | after h ↦ absurd (kept.least place in_place (along_up (along_into kept three from in_from) h))
      ]

  -- where so many sides come before a way, it is between those of the sides at the next corner
  pub facing_at : (line : Line) → line.0 ≢ line.1 → {k : ℕ} → AreEarlierSides line ls from k → (at : ℕ) → at ≡ (from + k) % length ls
      → (at < length cs) × IsFacing line ls at
  facing_at line differ {k} sides at is =
      let many = kept.round.linked.as_many in
      let last = subst (λ n. 0 < k → ComesBefore (line_at ls ((from + (k - 1)) % n)) line) many sides.last in
      let next = subst (λ n. k < n → ¬ ComesBefore (line_at ls ((from + k) % n)) line) many sides.next in
      let place : at ≡ (from + k) % length cs = is ∙ ap (λ n. (from + k) % n) many in
      let in_at : at < length cs = subst (λ i. i < length cs) (sym place) (mod-lt (from + k) (omega (arith, three))) in
      let turns = turned_there kept three at in_at in (
        in_at,
        facing_there kept three at in_at line (elim (cases_eq k 0) [
          | inl none ↦
              let here : at ≡ from = place ∙ ap (λ i. i % length cs) (omega (arith, none)) ∙ mod-eq_of_lt in_from in
              between_first _ _ line turns differ (subst (λ i. IsUpward (turned (line_at ls ((i + (length cs - 1)) % length cs)))) (sym here) down_in)
              (subst (λ i. IsUpward (line_at ls i)) (sym here) up_out)
              (subst (λ i. ¬ ComesBefore (line_at ls i) line) (sym place) (next (omega (arith, none, three))))
          | inr some ↦
              let behind : (from + (k - 1)) % length cs ≡ (at + (length cs - 1)) % length cs =
              sym (ap (λ i. (i + (length cs - 1)) % length cs) place ∙ mod_add (from + k) (length cs - 1) (length cs)
              ∙ ap (λ i. i % length cs) (omega (arith, some, three)) ∙ add-mod_left (length cs) (from + (k - 1))) in
              let is_before = subst (λ i. ComesBefore (line_at ls i) line) behind (last (omega (arith, some))) in
              elim (cases_eq k (length cs)) [
                | inl all ↦
                    let here : at ≡ from = place ∙ ap (λ i. i % length cs) (omega (arith, all)) ∙ add-mod_left (length cs) from ∙ mod-eq_of_lt in_from in
                    between_last _ _ line turns differ (subst (λ i. IsUpward (turned (line_at ls ((i + (length cs - 1)) % length cs)))) (sym here) down_in)
                    (subst (λ i. IsUpward (line_at ls i)) (sym here) up_out) is_before
                | inr not_all ↦
                    between_two _ _ line turns differ (kept.round.linked.two_points at (omega (arith, in_at, many))) is_before
                    (subst (λ i. ¬ ComesBefore (line_at ls i) line) (sym place) (next (omega (arith, sides.within, many, not_all))))
              ]
        ]),
      )
