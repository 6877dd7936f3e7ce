-- A region and a gap seen from one of their sides, so that what holds at the one is shown at the other too.
use Rattle.std.specs.List.{All}
use Rattle.std.proofs.Common.{◌≡◌, sym, ℕ, ◌<◌, ◌≤◌, Option, List, length, get_or}
use Rattle.std.specs.Prelude.{slice_index}
use Rattle.plane.specs.Point.{Point, whole}
use Rattle.plane.specs.Turn.{IsLeft, IsRight}
use Rattle.rings.specs.Below.{IsBelow}
use Rattle.rings.specs.Edge.{Edge, edge}
use Rattle.rings.specs.Ring.{vertex}
use Rattle.mono_fill.specs.Sides.{other_chain_side}
use Rattle.mono_fill.specs.declared.side.Side.{Side}
use Rattle.mono_fill.specs.declared.side.Side.TheVariants.{Lower, Upper}
use Rattle.sweep_tri.specs.Gaps.{Front, front_of, highest, last}
use Rattle.sweep_tri.specs.Open.{ComeBefore, EndsFrom, IsOneRegion}
use Rattle.sweep_tri.specs.Region.{Chains, IsClosedRegion, IsRegion, IsStep, RisesBy, ShareEnds, seen_from}
use Rattle.sweep_tri.specs.declared.gap.Gap.{Gap}

-- the chain on the side from which one looks is the near one, and the other the far one: of a region
abbrev pub chains : Side → List ℕ → List ℕ → Chains
chains side near far = seen_from side (record { lower = near; upper = far })

-- and of a gap, at its edges
abbrev pub outer : Side → Chains → Option Chains → Chains
outer Lower low high = low
outer Upper low high = highest low high

abbrev pub near_chain : Side → Chains → Option Chains → List ℕ
near_chain side low high = (seen_from side (outer side low high)).lower

abbrev pub far_chain : Side → Chains → Option Chains → List ℕ
far_chain side low high = (seen_from side (outer (other_chain_side side) low high)).upper

abbrev pub near_front : Side → Gap → Front
near_front side g = front_of (near_chain side g.low g.high)

abbrev pub far_front : Side → Gap → Front
far_front side g = front_of (far_chain side g.low g.high)

-- edge e is on the near side of edge f
abbrev pub IsNearer : Side → Edge → Edge → Type 0
IsNearer Lower e f = IsBelow e f
IsNearer Upper e f = IsBelow f e

-- the point is short of edge f
abbrev pub IsShort : Side → Edge → Point → Type 0
IsShort Lower f p = IsRight (whole f.from) (whole f.to) (whole p)
IsShort Upper f p = IsLeft (whole f.from) (whole f.to) (whole p)

-- where the edges of the chains are over one another, the one is on the near side of the other
abbrev pub AreNearer : List Point → List ℕ → Side → List ℕ → List ℕ → Type 0
AreNearer corners ranks side near far =
    (a b c d : ℕ) → IsStep near a b → IsStep far c d → slice_index ranks a < slice_index ranks d → slice_index ranks c < slice_index ranks b
    → IsNearer side (edge (vertex corners a) (vertex corners b)) (edge (vertex corners c) (vertex corners d))

-- a region
pub record ArePair (corners : List Point) (ranks : List ℕ) (side : Side) (near far : List ℕ) : Type 0 where
  pub near_some : 2 ≤ length near
  pub far_some : 2 ≤ length far
  pub near_numbers : All (λ v. v < length corners) near
  pub far_numbers : All (λ v. v < length corners) far
  pub first : get_or near 0 0 ≡ get_or far 0 0
  pub near_rises : RisesBy ranks near
  pub far_rises : RisesBy ranks far
  pub nearer : AreNearer corners ranks side near far
  pub apart : ShareEnds near far

-- whose chains end in vertices to come
pub record AreOpen (corners : List Point) (ranks : List ℕ) (k : ℕ) (side : Side) (near far : List ℕ) : Type 0 where
  pub pair : ArePair corners ranks side near far
  pub near_before : ComeBefore ranks k near
  pub far_before : ComeBefore ranks k far
  pub near_to_come : EndsFrom ranks k near
  pub far_to_come : EndsFrom ranks k far

-- ---- from the other side

nearer_across : (side : Side) (e f : Edge) → IsNearer side e f → IsNearer (other_chain_side side) f e
nearer_across Lower e f h = h
nearer_across Upper e f h = h

module _ {corners : List Point} {ranks : List ℕ} (side : Side) {near far : List ℕ} where
  across : ArePair corners ranks side near far → ArePair corners ranks (other_chain_side side) far near
  across p = record {
    near_some = p.far_some;
    far_some = p.near_some;
    near_numbers = p.far_numbers;
    far_numbers = p.near_numbers;
    first = sym p.first;
    near_rises = p.far_rises;
    far_rises = p.near_rises;
    nearer = λ a b c d s t h k.
        nearer_across side (edge (vertex corners c) (vertex corners d)) (edge (vertex corners a) (vertex corners b)) (p.nearer c d a b t s k h);
    apart = λ i j i_some i_within j_some j_within e. let h = p.apart j i j_some j_within i_some i_within (sym e) in (h.1, h.0);
  }

  open_across : {k : ℕ} → AreOpen corners ranks k side near far → AreOpen corners ranks k (other_chain_side side) far near
  open_across o = record {
    pair = across o.pair;
    near_before = o.far_before;
    far_before = o.near_before;
    near_to_come = o.far_to_come;
    far_to_come = o.near_to_come;
  }

-- ---- from regions and back

module _ (corners : List Point) (ranks : List ℕ) where
  region_upward : (near far : List ℕ) → ArePair corners ranks Lower near far → IsRegion corners ranks (chains Lower near far)
  region_upward near far p = record {
    lower_some = p.near_some;
    upper_some = p.far_some;
    lower_numbers = p.near_numbers;
    upper_numbers = p.far_numbers;
    first = p.first;
    lower_rises = p.near_rises;
    upper_rises = p.far_rises;
    below = p.nearer;
    apart = p.apart;
  }

  pub region_of : (side : Side) (near far : List ℕ) → ArePair corners ranks side near far → IsRegion corners ranks (chains side near far)
  region_of Lower near far p = region_upward near far p
  region_of Upper near far p = region_upward far near (across Upper p)

  pair_upward : (c : Chains) → IsRegion corners ranks c → ArePair corners ranks Lower c.lower c.upper
  pair_upward c r = record {
    near_some = r.lower_some;
    far_some = r.upper_some;
    near_numbers = r.lower_numbers;
    far_numbers = r.upper_numbers;
    first = r.first;
    near_rises = r.lower_rises;
    far_rises = r.upper_rises;
    nearer = r.below;
    apart = r.apart;
  }

  pub pair_of : (side : Side) (c : Chains) → IsRegion corners ranks c → (let s = seen_from side c in ArePair corners ranks side s.lower s.upper)
  pair_of Lower c r = pair_upward c r
  pair_of Upper c r = across Lower (pair_upward c r)

  pub closed_of : (side : Side) (near far : List ℕ) → ArePair corners ranks side near far → last near ≡ last far
      → IsClosedRegion corners ranks (chains side near far)
  closed_of Lower near far p e = record { is_region = region_of Lower near far p; last = e }
  closed_of Upper near far p e = record { is_region = region_of Upper near far p; last = sym e }

  module _ (k : ℕ) where
    one_upward : (near far : List ℕ) → AreOpen corners ranks k Lower near far → IsOneRegion corners ranks k (chains Lower near far)
    one_upward near far o = record {
      is_region = region_of Lower near far o.pair;
      lower_before = o.near_before;
      upper_before = o.far_before;
      lower_to_come = o.near_to_come;
      upper_to_come = o.far_to_come;
    }

    pub one_of : (side : Side) (near far : List ℕ) → AreOpen corners ranks k side near far → IsOneRegion corners ranks k (chains side near far)
    one_of Lower near far o = one_upward near far o
    one_of Upper near far o = one_upward far near (open_across Upper o)

    open_upward : (c : Chains) → IsOneRegion corners ranks k c → AreOpen corners ranks k Lower c.lower c.upper
    open_upward c o = record {
      pair = pair_of Lower c o.is_region;
      near_before = o.lower_before;
      far_before = o.upper_before;
      near_to_come = o.lower_to_come;
      far_to_come = o.upper_to_come;
    }

    pub open_of : (side : Side) (c : Chains) → IsOneRegion corners ranks k c → (let s = seen_from side c in AreOpen corners ranks k side s.lower s.upper)
    open_of Lower c o = open_upward c o
    open_of Upper c o = open_across Lower (open_upward c o)
