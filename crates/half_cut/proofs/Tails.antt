-- What a cut adds to the corners that stay: the meetings of the two sides that it crosses, with their lines.
use Rattle.std.proofs.Common.{◌≡◌, ◌≢◌, sym, subst, ap, ◌∙◌, ℕ, ◌+◌, ◌-◌, ◌%◌, ◌<◌, ◌≤◌, arith, false, IsTrue, List, [], ◌∷◌, ◌++◌, length, take, refl}
use Rattle.std.proofs.Math.Nat.{mod-eq_of_lt, mod_self}
use Rattle.std.proofs.lemmas.List.{append-nil, get_or-take, get_or_append_left, get_or_push, length-append, length-take-le, length_push}
use Rattle.std.specs.Prelude.{IfSome, None, Option, Some, is_some, option_to_list}
use Rattle.integer_algebra.proofs.Signs.{is_negative, is_positive, is_zero, sign}
use Rattle.plane.proofs.Regions.{Ends, at_corner, at_meeting, cut_of_polygon, cut_of_segment, meeting, not_parallel}
use Rattle.plane.specs.Convex.{corner}
use Rattle.plane.specs.Cut.{IsCut}
use Rattle.plane.specs.Point.{IsPoint, Triple, whole}
use Rattle.plane.specs.Region.{corner_at}
use Rattle.plane.specs.Turn.{IsStraight, determinant}
use Rattle.half_cut.proofs.Links.{on_at}
use Rattle.half_cut.specs.Meeting.{IsCutSide, IsLineMeeting, IsTail}
use Rattle.half_cut.specs.Outline.{AreLinked, ComesRound, IsOnLine, IsRightOf, Line, LineGoesOn, line_at}

-- what a cut adds to the corner c of a side that stays, where d goes
ends_found : (cut side : Line) (c d : Triple) (x : Option Triple) → side.0 ≢ side.1 → IsPoint c → IsPoint d → IsOnLine side c → IsOnLine side d
    → ¬ IsRightOf cut c → IsRightOf cut d → IsLineMeeting cut side c x → Ends (whole cut.0) (whole cut.1) c d (option_to_list x)
ends_found cut side c d (Some x) differ at_c at_d on_c on_d stays goes found =
    let left = found.some refl in
    at_meeting x left
    (meeting cut.0 cut.1 side.0 side.1 c d at_c at_d differ on_c on_d left goes x found.rational found.on_line found.on_cut) refl
ends_found cut side c d None differ at_c at_d on_c on_d stays goes found = elim (sign (determinant (whole cut.0) (whole cut.1) c)) [
  | is_negative h ↦ absurd (stays h)
  | is_zero h ↦ at_corner h refl
  | is_positive h ↦
      absurd (not_parallel cut.0 cut.1 side.0 side.1 c d at_c at_d differ on_c on_d h goes (found.none refl h))
]

-- where nothing is added, the corner is on the line
pub straight_of_none : (a b c d : Triple) (es : List Triple) → Ends a b c d es → es ≡ [] → IsStraight a b c
straight_of_none a b c d es (at_corner straight none) e = straight
straight_of_none a b c d es (at_meeting x left h one) e = absurd (cc (one, e))

-- so the cut goes on from the last corner that stays, or from what is added
pub goes_on_cut : (cut : Line) (cs : List Triple) (ls : List Line) (m : ℕ) (d : Triple) (x : Option Triple)
    → Ends (whole cut.0) (whole cut.1) (corner cs (m - 1)) d (option_to_list x) → IfSome x (IsOnLine (line_at ls (m - 1)))
    → IfSome x (IsStraight (whole cut.0) (whole cut.1)) → LineGoesOn cs ls m x cut
goes_on_cut cut cs ls m d None ends on_line on_cut = straight_of_none _ _ _ d [] ends refl
goes_on_cut cut cs ls m d (Some x) ends on_line on_cut = (on_cut, on_line)

-- where there is a meeting, the side's own line may go on from there
goes_on_same : (cs : List Triple) (ls : List Line) (m : ℕ) (x : Option Triple) → IsTrue (is_some x) → IfSome x (IsOnLine (line_at ls (m - 1)))
    → LineGoesOn cs ls m x (line_at ls (m - 1))
goes_on_same cs ls m None h on = absurd (cc h)
goes_on_same cs ls m (Some x) h on = (on, on)

-- nothing is no list
nothing_to_list : (x : Option Triple) → is_some x ≡ false → option_to_list x ≡ []
nothing_to_list None h = refl
nothing_to_list (Some x) h = absurd (cc h)

-- the line of the cut comes round to the first corner, or to what is added before it
comes_round_cut : (cut : Line) (ds : List Triple) (ks : List Line) (line : Line) (c d : Triple) (x : Option Triple) → corner ds 0 ≡ c
    → line_at ks (length ks - 1) ≡ cut → Ends (whole cut.0) (whole cut.1) c d (option_to_list x) → IfSome x (IsOnLine line)
    → IfSome x (IsStraight (whole cut.0) (whole cut.1)) → IsOnLine line c → ComesRound ds ks x line
comes_round_cut cut ds ks line c d None same last ends on_line on_cut round = on_at last same
    (straight_of_none (whole cut.0) (whole cut.1) c d [] ends refl)
comes_round_cut cut ds ks line c d (Some x) same last ends on_line on_cut round =
    (on_at {p = x} last refl on_cut, on_line, on_at {l = line} refl same round)

-- corners of which some stay and some go are two, or three and more
polygon_of : (cs : List Triple) (m : ℕ) → 0 < m → m < length cs → length cs ≢ 2 → 3 ≤ length cs
polygon_of cs m some rest many = omega (arith, some, rest, many)

-- what holds of the last of the first corners, or of one more,
last_or_more : (cs : List Triple) (m : ℕ) (x : Option Triple) (P : Triple → Type 0) → 0 < m → m ≤ length cs → (x ≡ None → P (corner cs (m - 1)))
    → IfSome x P → (let ds = take m cs ++ option_to_list x in P (corner ds (length ds - 1)))
last_or_more cs m None P some within alone more =
    let taken = length-take-le m cs within in
    subst P
    (sym (ap (λ (k : List Triple). corner k (length k - 1)) (append-nil (take m cs)) ∙ ap (λ k. corner (take m cs) (k - 1)) taken
    ∙ get_or-take m cs (m - 1) _ (omega (arith, some))))
    (alone refl)
last_or_more cs m (Some x) P some within alone more =
    let count = length_push (take m cs) x in
    subst P
    (sym (ap (λ k. corner (take m cs ++ x ∷ []) k) (omega (arith, count)) ∙ get_or_push (take m cs) x _ (length (take m cs)) refl)) more

-- and of one more, or of the first, when they are counted round
first_or_more : (ds : List Triple) (x : Option Triple) (P : Triple → Type 0) → 0 < length ds → (x ≡ None → P (corner ds 0)) → IfSome x P
    → P (corner_at (ds ++ option_to_list x) (length ds - 1 + 1))
first_or_more ds None P some alone more =
    subst P
    (sym (ap (λ (k : List Triple). corner_at k (length ds - 1 + 1)) (append-nil ds)
    ∙ ap (λ k. corner ds (k % length ds)) (omega (arith, some)) ∙ ap (λ k. corner ds k) (mod_self (length ds))))
    (alone refl)
first_or_more ds (Some x) P some alone more =
    let count = length_push ds x in
    let place : length ds - 1 + 1 ≡ length ds = omega (arith, some) in
    subst P
    (sym (ap (λ k. corner (ds ++ x ∷ []) (k % length (ds ++ x ∷ []))) place
    ∙ ap (λ k. corner (ds ++ x ∷ []) k) (mod-eq_of_lt (omega (arith, count))) ∙ get_or_push ds x _ (length ds) refl))
    more

-- ---- a whole cut, whose corners are read from the first that stays

-- with the line of the last that stays, and what it meets of the cut
module _ {cut : Line} {cs : List Triple} {ls : List Line} {m : ℕ} (t : IsTail cut cs ls m) {side : Line} (behind : side ≡ line_at ls (m - 1))
    {back : Option Triple} (found : IsLineMeeting cut side (corner cs (m - 1)) back) where
  linked : AreLinked cs ls
  linked = t.round.linked

  found_back : IsLineMeeting cut (line_at ls (m - 1)) (corner cs (m - 1)) back
  found_back = subst (λ (l : Line). IsLineMeeting cut l (corner cs (m - 1)) back) behind found

  -- the end after the last corner that stays
  pub ends_back : Ends (whole cut.0) (whole cut.1) (corner cs (m - 1)) (corner cs m) (option_to_list back)
  ends_back =
      ends_found cut (line_at ls (m - 1)) (corner cs (m - 1)) (corner cs m) back
      (linked.two_points (m - 1) (omega (arith, t.rest, linked.as_many))) (t.convex.rational (m - 1) (omega (arith, t.rest)))
      (t.convex.rational m t.rest) (linked.begins (m - 1) (omega (arith, t.rest)))
      (on_at {l = line_at ls (m - 1)} refl (ap (λ k. corner cs k) (omega (arith, t.some)))
      (linked.goes_on (m - 1) (omega (arith, t.some, t.rest))))
      (t.stay (m - 1) (omega (arith, t.some))) (t.go m (omega arith) t.rest) found_back

  -- from it the line of the cut goes on
  pub goes_on_whole : LineGoesOn cs ls m back cut
  goes_on_whole = goes_on_cut cut cs ls m (corner cs m) back ends_back found_back.on_line found_back.on_cut

  -- or that of the side, where there is a meeting
  pub goes_on_side : IsTrue (is_some back) → LineGoesOn cs ls m back side
  goes_on_side h = rw behind (goes_on_same cs ls m back h found_back.on_line)

  -- the first corner stays the first
  pub first_stays : corner (take m cs ++ option_to_list back) 0 ≡ corner cs 0
  first_stays =
      get_or_append_left (take m cs) (option_to_list back) _ 0 (omega (arith, t.some, length-take-le m cs (omega (arith, t.rest)))) ∙
      get_or-take m cs 0 _ t.some

  -- ---- a segment

  module _ (two : length cs ≡ 2) where
    one : m ≡ 1
    one = omega (arith, two, t.some, t.rest)

    -- what is left of it
    pub segment_left : IsCut (whole cut.0) (whole cut.1) cs (take m cs ++ option_to_list back)
    segment_left =
        subst (λ k. IsCut (whole cut.0) (whole cut.1) cs (take k cs ++ option_to_list back)) (sym one)
        (cut_of_segment (whole cut.0) (whole cut.1) cs t.convex two (t.stay 0 t.some) (t.go 1 (omega (arith, one)) (omega (arith, two)))
        (option_to_list back)
        (subst (λ k. Ends (whole cut.0) (whole cut.1) (corner cs (k - 1)) (corner cs k) (option_to_list back)) one ends_back))

    -- the side's line comes back to the first corner,
    pub side_comes_back : IsOnLine side (corner cs 0)
    side_comes_back =
        rw behind (subst (λ k. IsOnLine (line_at ls (k - 1)) (corner cs 0)) (sym one) (linked.begins 0 (omega (arith, two))))

    -- and the line of the cut, where there is no meeting
    pub cut_comes_back : is_some back ≡ false → IsOnLine cut (corner cs 0)
    cut_comes_back h =
        subst (λ k. IsOnLine cut (corner cs (k - 1))) one
        (straight_of_none (whole cut.0) (whole cut.1) (corner cs (m - 1)) (corner cs m) (option_to_list back) ends_back (nothing_to_list back h))

  -- ---- a polygon

  module _ (many : length cs ≢ 2) {end : Line} {front : Option Triple} {k : ℕ} (read : end ≡ line_at ls k) (at_end : k ≡ length ls - 1)
      (found_end : IsLineMeeting cut end (corner cs 0) front) where
    is_end : end ≡ line_at ls (length ls - 1)
    is_end = read ∙ ap (λ i. line_at ls i) at_end

    found_front : IsLineMeeting cut (line_at ls (length ls - 1)) (corner cs 0) front
    found_front = subst (λ (l : Line). IsLineMeeting cut l (corner cs 0) front) is_end found_end

    three : 3 ≤ length cs
    three = polygon_of cs m t.some t.rest many

    -- the end before the first corner
    pub ends_front : Ends (whole cut.0) (whole cut.1) (corner cs 0) (corner cs (length cs - 1)) (option_to_list front)
    ends_front =
        ends_found cut (line_at ls (length ls - 1)) (corner cs 0) (corner cs (length cs - 1)) front
        (linked.two_points (length ls - 1) (omega (arith, t.rest, linked.as_many))) (t.convex.rational 0 (omega (arith, t.rest)))
        (t.convex.rational (length cs - 1) (omega (arith, t.rest))) (t.round.closes (omega (arith, t.rest)))
        (on_at {p = corner cs (length cs - 1)} (ap (λ k. line_at ls (k - 1)) linked.as_many) refl
        (linked.begins (length cs - 1) (omega (arith, t.rest))))
        (t.stay 0 t.some) (t.go (length cs - 1) (omega (arith, t.rest)) (omega (arith, t.rest))) found_front

    -- what is left of it
    pub polygon_left : IsCut (whole cut.0) (whole cut.1) cs ((take m cs ++ option_to_list back) ++ option_to_list front)
    polygon_left = cut_of_polygon (whole cut.0) (whole cut.1) cs t.convex m t.some t.rest t.stay t.go three (option_to_list back) (option_to_list front)
        ends_back ends_front

    -- the last line comes round
    pub comes_round_whole : (ds : List Triple) (ks : List Line) → corner ds 0 ≡ corner cs 0 → line_at ks (length ks - 1) ≡ cut
        → ComesRound ds ks front end
    comes_round_whole ds ks same ends =
        rw is_end (comes_round_cut cut ds ks (line_at ls (length ls - 1)) (corner cs 0) (corner cs (length cs - 1)) front same ends ends_front
        found_front.on_line
        found_front.on_cut (t.round.closes (omega (arith, t.rest))))

    -- the side of the cut, from what is added behind or the last that stays to what is added before or the first
    pub cut_side : (let ds = take m cs ++ option_to_list back in
        IsCutSide cut (line_at ls (m - 1)) (line_at ls (length ls - 1)) (ds ++ option_to_list front) (length ds - 1))
    cut_side =
        let ds = take m cs ++ option_to_list back in
        let count = length-append (take m cs) (option_to_list back) in
        let taken = length-take-le m cs (omega (arith, t.rest)) in
        let some : 0 < length ds = omega (arith, count, taken, t.some) in
        let more = length-append ds (option_to_list front) in
        let same : corner (ds ++ option_to_list front) (length ds - 1) ≡ corner ds (length ds - 1) =
        get_or_append_left ds (option_to_list front) _ (length ds - 1) (omega (arith, some)) in
        let in_m : m ≤ length cs = omega (arith, t.rest) in
        record {
          within = omega (arith, some, more);
          from_cut = subst (IsOnLine cut) (sym same)
              (last_or_more cs m back (IsOnLine cut) t.some in_m
              (λ e. straight_of_none (whole cut.0) (whole cut.1) (corner cs (m - 1)) (corner cs m) (option_to_list back) ends_back (ap option_to_list e))
              found_back.on_cut);
          from_behind = subst (IsOnLine (line_at ls (m - 1))) (sym same)
              (last_or_more cs m back (IsOnLine (line_at ls (m - 1))) t.some in_m (λ _. linked.begins (m - 1) (omega (arith, t.rest)))
              found_back.on_line);
          to_cut = first_or_more ds front (IsOnLine cut) some
              (λ e. subst (IsOnLine cut) (sym first_stays)
              (straight_of_none (whole cut.0) (whole cut.1) (corner cs 0) (corner cs (length cs - 1)) (option_to_list front) ends_front (ap option_to_list e)))
              found_front.on_cut;
          to_before = first_or_more ds front (IsOnLine (line_at ls (length ls - 1))) some
              (λ _. subst (IsOnLine (line_at ls (length ls - 1))) (sym first_stays) (t.round.closes (omega (arith, t.rest))))
              found_front.on_line;
        }
