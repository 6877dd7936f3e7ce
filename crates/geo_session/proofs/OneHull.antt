-- The sides of a hull are one list.
use Rattle.std.proofs.Common.{◌≡◌, ◌∙◌, inl, inr, sym, ap, subst, ℕ, ◌<◌, List, [], length, arith}
use Rattle.std.proofs.lemmas.Bool.{cases_lt}
use Rattle.std.proofs.lemmas.List.{ext_get_or, get_or_default}
use Rattle.std.specs.List.{Contains}
use Rattle.std.specs.Prelude.{map, slice_index}
use Rattle.plane.proofs.Lists.{before_through, not_before_itself, one_ordered}
use Rattle.plane.specs.Pairs.{IsPairBefore, pair_at}
use Rattle.plane.specs.Point.{Point}
use Rattle.rings.specs.Chain.{point_at}
use Rattle.geo_text.specs.declared.version.Version.{Version}
use Rattle.rel_hull.specs.Hull.{IsSide}
use Rattle.rel_hull.specs.Table.{AreSides}
use Rattle.geo_session.proofs.OneShown.{one_shown}
use Rattle.geo_reply.specs.declared.reply.Side.{Side}
use Rattle.geo_session.specs.Hull.{AreFirsts, AreSidesOf, IsSideFrom, hull_side_at}
use Rattle.geo_session.specs.Told.{IsFirstOutside}

-- the numbers of the first points are one list,
pub one_firsts : (points : List Point) (numbers others : List ℕ) → AreFirsts points numbers → AreFirsts points others → numbers ≡ others
one_firsts points numbers others h g =
    one_ordered ◌<◌ (λ x less. omega (arith, less)) (λ x y z less more. omega (arith, less, more)) 0 numbers others h.rising g.rising
    (λ i inside. (g.first i).1 ((h.first i).0 inside)) (λ i inside. (h.first i).1 ((g.first i).0 inside))

-- one point is the first that is outside,
pub one_outside : (ring points : List Point) (k l : ℕ) → IsFirstOutside ring points k → IsFirstOutside ring points l → k ≡ l
one_outside ring points k l h g = elim (cases_lt k l) [
  | inl less ↦ absurd (h.outside (g.before k less))
  | inr not_less ↦ elim (cases_lt l k) [ inl less ↦ absurd (g.outside (h.before l less)) | inr same ↦ omega arith ]
]

-- and the sides are one list
module _ (ring points : List Point) where
  listed_sides : (sides others : List (ℕ × ℕ)) → AreSides ring points sides → AreSides ring points others → (p : ℕ × ℕ) → Contains sides p
      → Contains others p
  listed_sides sides others are are_too p inside =
      let at : pair_at sides inside.0 ≡ p = get_or_default sides inside.0 (0, 0) p inside.1 ∙ inside.2 in
      are_too.all p.0 p.1 (subst (λ (side : ℕ × ℕ). IsSide ring points side.0 side.1) at (are.sides inside.0 inside.1))

  one_sides : (sides others : List (ℕ × ℕ)) → AreSides ring points sides → AreSides ring points others → sides ≡ others
  one_sides sides others are are_too =
      one_ordered IsPairBefore not_before_itself before_through (0, 0) sides others are.sorted are_too.sorted
      (listed_sides sides others are are_too) (listed_sides others sides are_too are)

module _ (version : Version) (ring points : List Point) where
  -- the path of a side is one, so the side is
  one_side : (i j : ℕ) (side other : Side) → IsSideFrom version ring points i j side → IsSideFrom version ring points i j other → side ≡ other
  one_side i j side other h g =
      let path = one_shown version ring (point_at points i) (point_at points j) side.path other.path h.shown g.shown in
      ap (λ (k : ℕ). record { start = k; end = side.end; path = side.path }) (h.start ∙ sym g.start)
      ∙ ap (λ (k : ℕ). record { start = other.start; end = k; path = side.path }) (h.end ∙ sym g.end)
      ∙ ap (λ (points : List Point). record { start = other.start; end = other.end; path = points }) path

  -- these are told of some sides
  record AreToldOf (numbers : List ℕ) (sides : List (ℕ × ℕ)) (told : List Side) : Type 0 where
    pub one_each : length told ≡ length sides
    pub each : (k : ℕ) → k < length sides
        → IsSideFrom version ring points (slice_index numbers (pair_at sides k).0) (slice_index numbers (pair_at sides k).1) (hull_side_at told k)

  one_told : (numbers : List ℕ) (sides : List (ℕ × ℕ)) (told others : List Side) → AreToldOf numbers sides told → AreToldOf numbers sides others
      → told ≡ others
  one_told numbers sides told others h g =
      ext_get_or (record { start = 0; end = 0; path = [] }) told others (h.one_each ∙ sym g.one_each)
      (λ k below. let within : k < length sides = omega (arith, h.one_each, below) in one_side _ _ _ _ (h.each k within) (g.each k within))

  pub one_hull : (told others : List Side) → AreSidesOf version ring points told → AreSidesOf version ring points others → told ≡ others
  one_hull told others h g =
      let numbers : h.numbers ≡ g.numbers = one_firsts points h.numbers g.numbers h.firsts g.firsts in
      let are : AreSides ring (map (point_at points) g.numbers) h.sides =
      subst (λ (ns : List ℕ). AreSides ring (map (point_at points) ns) h.sides) numbers h.are_sides in
      let sides : h.sides ≡ g.sides = one_sides ring (map (point_at points) g.numbers) h.sides g.sides are g.are_sides in
      let of : AreToldOf g.numbers g.sides told =
      subst (λ (ps : List (ℕ × ℕ)). AreToldOf g.numbers ps told) sides
      (subst (λ (ns : List ℕ). AreToldOf ns h.sides told) numbers (record { one_each = h.one_each; each = h.each })) in
      one_told g.numbers g.sides told others of (record { one_each = g.one_each; each = g.each })
