-- Lists of points on a segment that grow.
use Rattle.std.proofs.Common.{◌≡◌, ◌⊎◌, inl, inr, ℕ, ◌+◌, ◌<◌, List, [], ◌∷◌, ◌++◌, length, length-append, get_or, ap, sym, subst, ◌∙◌, Ok, Err, Result, OnOk}
use Rattle.std.proofs.Common.{OnErr, lit≤, lit<, refl, arith}
use Rattle.std.proofs.lemmas.Bool.{cases_lt}
use Rattle.std.proofs.lemmas.List.{get_or-map, length-map}
use Rattle.std.proofs.lemmas.List.Elements.{All-cons, All-nil, All-push, Contains-append_left}
use Rattle.std.specs.List.{All, Contains}
use Rattle.plane.proofs.Points.{same_sym, whole_is_point}
use Rattle.plane.proofs.Segments.{on_first_end, on_last_end}
use Rattle.plane.specs.Point.{IsPoint, IsSame, Point, Triple, whole}
use Rattle.rings.specs.Ring.{vertex}
use Rattle.inside_test.specs.Apart.{MissesEdges}
use Rattle.inside_test.specs.Breakpoints.{EnclosesAll, ExtendsOnSegment, IsListed, IsPointOn, Lists, ListsMeetings, breakpoint_points}
use Rattle.inside_test.specs.declared.breakpoint.Breakpoint.{Breakpoint}

-- what holds on success, or what holds on failure
pub one_of : {A E : Type 0} (r : Result A E) (P Q : Type 0) → OnOk r P → OnErr r Q → P ⊎ Q
one_of (Ok v) P Q h k = inl h
one_of (Err e) P Q h k = inr k

module _ (a b : Triple) where
  -- a list that stays
  pub extends_same : (old new : List Triple) → new ≡ old → ExtendsOnSegment a b old new
  extends_same old new e = record {
    longer = let same = ap length e in omega arith;
    kept = λ p h. subst (λ l. Contains l p) (sym e) h;
    placed = λ h. subst (All (IsPointOn a b)) (sym e) h;
  }

  -- one more point
  pub extends_push : (old new : List Triple) (p : Triple) → IsPointOn a b p → new ≡ old ++ p ∷ [] → ExtendsOnSegment a b old new
  extends_push old new p on e = record {
    longer = let more = ap length e ∙ length-append old (p ∷ []) in omega arith;
    kept = λ q h. subst (λ l. Contains l q) (sym e) (Contains-append_left old (p ∷ []) q h);
    placed = λ h. subst (All (IsPointOn a b)) (sym e) (All-push (IsPointOn a b) old p h on);
  }

  -- one list after another
  pub extends_trans : (old between new : List Triple) → ExtendsOnSegment a b old between → ExtendsOnSegment a b between new → ExtendsOnSegment a b old new
  extends_trans old between new h k = record {
    longer = let first = h.longer in let second = k.longer in omega arith;
    kept = λ p on. k.kept p (h.kept p on);
    placed = λ all. k.placed (h.placed all);
  }

  -- a list to which a point was pushed, or that stayed
  pub extends_pushed : {A E : Type 0} (r : Result A E) (old new : List Triple) (p : Triple) → IsPointOn a b p
      → OnOk r (new ≡ old ++ p ∷ []) → OnErr r (new ≡ old) → ExtendsOnSegment a b old new
  extends_pushed r old new p on ok err = elim (one_of r (new ≡ old ++ p ∷ []) (new ≡ old) ok err) [
    | inl e ↦ extends_push old new p on e
    | inr e ↦ extends_same old new e
  ]

  -- or to which it was pushed unless it was there
  pub extends_listed : {A E : Type 0} (r : Result A E) (old new : List Triple) (p : Triple) → IsPointOn a b p
      → OnOk r (Lists p old new) → OnErr r (new ≡ old) → ExtendsOnSegment a b old new
  extends_listed r old new p on ok err = elim (one_of r (Lists p old new) (new ≡ old) ok err) [
    | inl l ↦ elim l [ inl e ↦ extends_push old new p on e | inr k ↦ extends_same old new k.0 ]
    | inr e ↦ extends_same old new e
  ]

-- a point of the list is listed, and so is each triple of it
pub listed_at : (xs : List Breakpoint) (i : ℕ) (x : Breakpoint) (p : Triple) → i < length xs → x ≡ get_or xs i x → IsSame x.point p
    → IsListed (breakpoint_points xs) p
listed_at xs i x p below is same =
    let there : get_or (breakpoint_points xs) i x.point ≡ x.point =
    get_or-map (λ k. k.point) xs i x x.point below ∙ ap (λ (k : Breakpoint). k.point) (sym is) in
    let as_many : length (breakpoint_points xs) ≡ length xs = length-map xs (λ k. k.point) in
    record { point = x.point; rational = x.sized.rational; listed = (i, omega arith, there); same = same_sym same }

-- ---- the list that a loop over the edges makes

-- the points that are enclosed stay so
encloses_more : (a b c d : Triple) (old new : List Triple) → ExtendsOnSegment a b old new → EnclosesAll old a b c d → EnclosesAll new a b c d
encloses_more a b c d old new more h z at_z first second =
    let e = h z at_z first second in
    record {
      u = e.u;
      v = e.v;
      u_listed = more.kept e.u e.u_listed;
      v_listed = more.kept e.v e.v_listed;
      u_on = e.u_on;
      v_on = e.v_on;
      between = e.between;
    }

module _ (ring : List Point) (a b : Triple) where
  -- it begins with the ends
  lists_start : IsPoint a → IsPoint b → (first points : List Triple) → first ≡ [] ++ a ∷ [] → points ≡ first ++ b ∷ []
      → ListsMeetings ring 0 a b points
  lists_start at_a at_b first points e f =
      let all : points ≡ a ∷ b ∷ [] = f ∙ ap (λ l. l ++ b ∷ []) e in
      subst (ListsMeetings ring 0 a b) (sym all) (record {
        several = lit≤ tt;
        placed = All-cons (IsPointOn a b) a (b ∷ []) (at_a, on_first_end a b)
            (All-cons (IsPointOn a b) b [] (at_b, on_last_end a b) (All-nil (IsPointOn a b)));
        has_first = (0, lit< tt, refl);
        has_last = (1, lit< tt, refl);
        enclosed = λ i within. absurd (omega arith);
      })

  -- and goes on with what is common with each edge
  pub lists_more : (i : ℕ) (old new : List Triple) → ListsMeetings ring i a b old → ExtendsOnSegment a b old new
      → EnclosesAll new a b (whole (vertex ring i)) (whole (vertex ring (i + 1))) → ListsMeetings ring (i + 1) a b new
  lists_more i old new h more here = record {
    several = let least = h.several in let longer = more.longer in omega arith;
    placed = more.placed h.placed;
    has_first = more.kept a h.has_first;
    has_last = more.kept b h.has_last;
    enclosed = λ j within. elim (cases_lt j i) [
      | inl below ↦ encloses_more a b (whole (vertex ring j)) (whole (vertex ring (j + 1))) old new more (h.enclosed j below)
      | inr above ↦
          let same : i ≡ j = omega arith in
          subst (λ k. EnclosesAll new a b (whole (vertex ring k)) (whole (vertex ring (k + 1)))) same here
    ];
  }

-- edges that the segment does not meet add nothing
pub lists_past : (ring : List Point) (a b : Point) (first end : ℕ) (points : List Triple) → ListsMeetings ring first (whole a) (whole b) points
    → MissesEdges ring first end a b → ListsMeetings ring end (whole a) (whole b) points
lists_past ring a b first end points before apart = record {
  several = before.several;
  placed = before.placed;
  has_first = before.has_first;
  has_last = before.has_last;
  enclosed = λ i below. elim (cases_lt i first) [
    | inl earlier ↦ before.enclosed i earlier
    | inr not ↦ λ z rational on_first on_second.
        absurd (apart i (omega arith) below (record { point = z; rational = rational; on_first = on_first; on_second = on_second }))
  ];
}

-- a list of two vertices, each in a triple of its own
pub lists_ends : (ring : List Point) (a b : Point) (x y : Triple) (none first points : List Triple) → none ≡ [] → x ≡ whole a → y ≡ whole b
    → first ≡ none ++ x ∷ [] → points ≡ first ++ y ∷ [] → ListsMeetings ring 0 (whole a) (whole b) points
lists_ends ring a b x y none first points empty is_a is_b e f =
    lists_start ring (whole a) (whole b) (whole_is_point a) (whole_is_point b) first points (rw (empty, is_a) at e) (rw is_b at f)
