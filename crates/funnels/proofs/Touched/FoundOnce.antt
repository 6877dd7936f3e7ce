-- Whether a point is ahead on the way to the next point of a chain; parts of a segment between whole points.
-- A chain with bends in a simple ring comes to no point twice, so a search finds no vertex twice.
use Rattle.std.proofs.Common.{◌≡◌, ◌⊎◌, inl, inr, ℕ, ◌+◌, List, length, arith, refl, sym, subst, ap, ◌∙◌, ◌-◌, ◌<◌, ◌≤◌, [], ◌∷◌, ◌++◌}
use Rattle.std.proofs.Common.{take}
use Rattle.std.proofs.lemmas.Bool.{cases_lt}
use Rattle.std.proofs.lemmas.List.{get_or_append_left, length-append}
use Rattle.plane.proofs.Order.{point_or_other}
use Rattle.plane.proofs.Points.{whole_is_point}
use Rattle.plane.proofs.Segments.{later_between, nearer_each, on_first_end, on_last_end, on_nested, on_or_not, on_reversed, nearer_on}
use Rattle.plane.specs.Prelude.{On, Point, whole}
use Rattle.rings.proofs.Full.{no_more}
use Rattle.rings.proofs.Vertices.{AreDistinct, has_cases}
use Rattle.rings.specs.Prelude.{Has, IsBentChain, IsSimple, origin, point_at}
use Rattle.funnels.proofs.OneChain.{before_last, front, front_at, front_bent, front_length, last_of, one_bent_chain, shorter_step}
use Rattle.funnels.specs.Touched.{IsAhead, IsLookedAt}

-- ---- points on one segment

-- a point is ahead or not
pub ahead_cases : (chain : List Point) (k : ℕ) (last v : Point) → IsAhead chain k last v ⊎ (¬ IsAhead chain k last v)
ahead_cases chain k last v = elim (cases_lt (k + 1) (length chain)) [
  | inr short ↦ inr (λ a. omega (arith, a.more))
  | inl more ↦ elim (point_or_other v last) [
    | inl same ↦ inr (λ a. a.differ same)
    | inr differ ↦ elim (on_or_not (whole v) (whole last) (whole (point_at chain (k + 1))) (whole_is_point v) (whole_is_point last) (whole_is_point (point_at chain (k + 1)))) [
      | inl on ↦ inl (record { more = more; on = on; differ = differ })
      | inr off ↦ inr (λ a. off a.on)
    ]
  ]
]

-- points of a segment of whole points
module _ (a b p q : Point) where
  -- within its last part,
  pub on_last_part : On (whole q) (whole a) (whole b) → On (whole p) (whole q) (whole b) → On (whole p) (whole a) (whole b)
  on_last_part on_q on_p =
      on_nested (whole p) (whole q) (whole b) (whole a) (whole b) (whole_is_point p) (whole_is_point q) (whole_is_point b) (whole_is_point a) (whole_is_point b)
      on_q (on_last_end (whole a) (whole b)) on_p

  -- beyond a point of it,
  pub beyond : On (whole p) (whole a) (whole q) → On (whole q) (whole a) (whole b) → On (whole q) (whole p) (whole b)
  beyond on_p on_q = later_between (whole p) (whole a) (whole q) (whole b) (whole_is_point p) (whole_is_point a) (whole_is_point q) (whole_is_point b) on_p on_q

  -- before one of its last part,
  pub before_last_part : On (whole p) (whole a) (whole b) → On (whole q) (whole p) (whole b) → On (whole p) (whole a) (whole q)
  before_last_part on_p on_q =
      on_reversed (whole p) (whole q) (whole a)
      (later_between (whole q) (whole b) (whole p) (whole a) (whole_is_point q) (whole_is_point b) (whole_is_point p) (whole_is_point a)
      (on_reversed (whole q) (whole p) (whole b) on_q) (on_reversed (whole p) (whole a) (whole b) on_p))

-- only a point is between it and itself
pub only_point : (a p : Point) → On (whole p) (whole a) (whole a) → p ≡ a
only_point a p on = nearer_each a p a on (on_first_end (whole a) (whole p))

-- u is on the step of the chain from place m on, and not where it begins
pub record IsOnStep (chain : List Point) (m : ℕ) (u : Point) : Type 0 where
  pub more : m + 1 < length chain
  pub on : On (whole u) (whole (point_at chain m)) (whole (point_at chain (m + 1)))
  pub differ : ¬ (u ≡ point_at chain m)

-- u is a vertex on a step of the chain to place k or the next, and there not beyond the last point
pub record IsFoundAt (corners chain : List Point) (k : ℕ) (last u : Point) : Type 0 where
  pub vertex : Has corners u
  pub step : ℕ
  pub not_later : step ≤ k
  pub on_step : IsOnStep chain step u
  pub before : step ≡ k → On (whole u) (whole (point_at chain k)) (whole last)

-- what was found is the first point of the chain, and different vertices
pub record IsFoundOnce (corners chain : List Point) (k : ℕ) (last : Point) (found : List Point) : Type 0 where
  pub rest : List Point
  pub parts : found ≡ point_at chain 0 ∷ rest
  pub distinct : AreDistinct rest
  pub each : (u : Point) → Has rest u → IsFoundAt corners chain k last u

-- the last item of a list with one more
last_item : (ps : List Point) (u : Point) → point_at (ps ++ u ∷ []) (length ps) ≡ u
last_item [] u = refl
last_item (p ∷ ps) u = last_item ps u

-- a new point comes after different ones
distinct_more : (ps : List Point) (v : Point) → AreDistinct ps → ¬ Has ps v → AreDistinct (ps ++ v ∷ [])
distinct_more [] v distinct new = ((λ has. has), tt)
distinct_more (p ∷ ps) v distinct new = (
  (λ has. elim (has_cases p ps (v ∷ []) has) [
    | inl old ↦ distinct.0 old
    | inr (inl e) ↦ new (inl (sym e))
    | inr (inr none) ↦ none
  ]),
  distinct_more ps v distinct.1 (λ has. new (inr has)),
)

-- what was found is no more than the vertices and one
pub found_few : (corners chain : List Point) (k : ℕ) (last : Point) (found : List Point) → IsFoundOnce corners chain k last found
    → length found ≤ length corners + 1
found_few corners chain k last found once =
    let few = no_more once.rest corners once.distinct (λ u has. (once.each u has).vertex) in omega (arith, few, ap length once.parts)

-- at first that one
pub once_begins : (corners chain : List Point) → IsFoundOnce corners chain 0 (point_at chain 0) (point_at chain 0 ∷ [])
once_begins corners chain = record { rest = []; parts = refl; distinct = tt; each = λ u has. absurd has }

module _ (ring : List Point) (some : 3 ≤ length ring) (simple : IsSimple ring) (chain : List Point) (bent : IsBentChain ring chain) where
  -- ---- the chain to a point on a step

  module _ (m : ℕ) (u : Point) (at : IsOnStep chain m u) where
    abbrev longer : List Point
    longer = take (m + 1 + 1) chain

    longer_length : length longer ≡ m + 1 + 1
    longer_length = front_length chain (m + 1 + 1) (omega (arith, at.more))

    longer_at : (k : ℕ) → k < m + 1 + 1 → point_at longer k ≡ point_at chain k
    longer_at = front_at chain (m + 1 + 1) (omega (arith, at.more))

    last_is : last_of longer ≡ point_at chain (m + 1)
    last_is = ap (point_at longer) (omega (arith, longer_length)) ∙ longer_at (m + 1) (omega arith)

    before_is : before_last longer ≡ point_at chain m
    before_is = ap (point_at longer) (omega (arith, longer_length)) ∙ longer_at m (omega arith)

    front_long : length (front longer) ≡ m + 1
    front_long = front_length longer (length longer - 1) (omega arith) ∙ omega (arith, longer_length)

    abbrev chain_to : List Point
    chain_to = front longer ++ u ∷ []

    to_length : length chain_to ≡ m + 1 + 1
    to_length = omega (arith, length-append (front longer) (u ∷ []), front_long)

    to_first : point_at chain_to 0 ≡ point_at chain 0
    to_first =
        get_or_append_left (front longer) (u ∷ []) origin 0 (omega (arith, front_long))
        ∙ front_at longer (length longer - 1) (omega arith) 0 (omega (arith, longer_length)) ∙ longer_at 0 (omega arith)

    to_last : point_at chain_to (length chain_to - 1) ≡ u
    to_last =
        ap (point_at chain_to) (omega (arith, to_length, front_long))
        ∙ last_item (front longer) u

    to_bent : IsBentChain ring chain_to
    to_bent =
        shorter_step ring longer (front_bent chain (m + 1 + 1) (omega (arith, at.more)) ring (omega arith) bent) (omega (arith, longer_length)) u
        (rw (last_is, before_is) (on_reversed (whole u) (whole (point_at chain m)) (whole (point_at chain (m + 1))) at.on))
        (λ e. at.differ (sym e ∙ before_is)) (omega (arith, front_long)) (bent.chain.sees m at.more (whole u) (whole_is_point u) at.on)

  -- a point is on one step
  pub one_step : (m n : ℕ) (u : Point) → IsOnStep chain m u → IsOnStep chain n u → m ≡ n
  one_step m n u first second =
      let same = one_bent_chain ring some simple (chain_to m u first) (chain_to n u second) (to_bent m u first) (to_bent n u second)
      (to_first m u first ∙ sym (to_first n u second)) (to_last m u first ∙ sym (to_last n u second)) in
      omega (arith, to_length m u first, to_length n u second, ap length same)

  -- ---- a look

  module _ (k : ℕ) (last : Point) (found : List Point) (once : IsFoundOnce ring chain k last found) (v : Point) (vertex : Has ring v)
      (last_on : k + 1 < length chain → On (whole last) (whole (point_at chain k)) (whole (point_at chain (k + 1)))) where
    module _ (ahead : IsAhead chain k last v) where
      abbrev a : Point
      a = point_at chain k

      abbrev b : Point
      b = point_at chain (k + 1)

      last_before : On (whole last) (whole a) (whole v)
      last_before = before_last_part a b last v (last_on ahead.more) ahead.on

      on_step : IsOnStep chain k v
      on_step = record {
        more = ahead.more;
        on = on_last_part a b v last (last_on ahead.more) ahead.on;
        differ = λ e. ahead.differ (e ∙ sym (only_point a last (subst (λ p. On (whole last) (whole a) (whole p)) e last_before)));
      }

      -- it is new
      is_new : ¬ Has once.rest v
      is_new has =
          let f = once.each v has in
          let same : f.step ≡ k = one_step f.step k v f.on_step on_step in
          ahead.differ (nearer_each a v last (f.before same) last_before)

      abbrev rest : List Point
      rest = once.rest ++ v ∷ []

      parts_more : found ++ v ∷ [] ≡ point_at chain 0 ∷ rest
      parts_more = ap (λ ps. ps ++ v ∷ []) once.parts

      new_each : (k' : ℕ) → ((u : Point) → Has once.rest u → IsFoundAt ring chain k' v u) → (u : Point) → Has rest u
          → (IsFoundAt ring chain k' v v) → IsFoundAt ring chain k' v u
      new_each k' old u has new = elim (has_cases u once.rest (v ∷ []) has) [
        | inl there ↦ old u there
        | inr (inl e) ↦ subst (IsFoundAt ring chain k' v) e new
        | inr (inr none) ↦ absurd none
      ]

      -- on the way to the next point of the chain
      once_nearer : IsFoundOnce ring chain k v (found ++ v ∷ [])
      once_nearer = record {
        rest = rest;
        parts = parts_more;
        distinct = distinct_more once.rest v once.distinct is_new;
        each = λ u has. new_each k
            (λ u there. let f = once.each u there in record {
              vertex = f.vertex;
              step = f.step;
              not_later = f.not_later;
              on_step = f.on_step;
              before = λ e. nearer_on a u last v (f.before e) last_before;
            }) u has (record { vertex = vertex; step = k; not_later = omega arith; on_step = on_step; before = λ e. on_last_end (whole a) (whole v) });
      }

      -- and there
      once_there : IsFoundOnce ring chain (k + 1) v (found ++ v ∷ [])
      once_there = record {
        rest = rest;
        parts = parts_more;
        distinct = distinct_more once.rest v once.distinct is_new;
        each = λ u has. new_each (k + 1)
            (λ u there. let f = once.each u there in record {
              vertex = f.vertex;
              step = f.step;
              not_later = omega (arith, f.not_later);
              on_step = f.on_step;
              before = λ e. absurd (omega (arith, e, f.not_later));
            }) u has (record { vertex = vertex; step = k; not_later = omega arith; on_step = on_step; before = λ e. absurd (omega (arith, e)) });
      }

    -- so after a look in each case
    pub once_looked : (k' : ℕ) (last' : Point) (found' : List Point) → IsLookedAt chain v k last found k' last' found' → IsFoundOnce ring chain k' last' found'
    once_looked k' last' found' look = elim (ahead_cases chain k last v) [
      | inr behind ↦ let (ek, el, ef) = look.stays behind in rw (ek, el, ef) once
      | inl ahead ↦ let (el, ef) = look.found_more ahead in elim (point_or_other v (point_at chain (k + 1))) [
        | inl there ↦ rw (look.arrives ahead there, el, ef) (once_there ahead)
        | inr short ↦ rw (look.passes ahead short, el, ef) (once_nearer ahead)
      ]
    ]
