-- A simple ring runs one way or the other; turned round it is simple, runs the other way, and has the same chains with bends.
use Rattle.std.proofs.Common.{◌≡◌, ◌⊎◌, ◌↔◌, inl, inr, refl, sym, subst, ◌≤◌, List, length, arith}
use Rattle.std.proofs.lemmas.Int.{ints}
use Rattle.plane.specs.Point.{Point, whole}
use Rattle.rings.proofs.Inside.{neighbours_turned_iff, reflex_turned_iff, sees_turned_iff, in_turned_iff}
use Rattle.rings.proofs.Simple.{apart_of_simple}
use Rattle.rings.proofs.Turned.{length-turned_round, turned_round-turned_round, doubled_area-turned_round, simple_turned}
use Rattle.rings.specs.Prelude.{IsBend, IsBentChain, IsChain, IsClockwise, IsCounterclockwise, IsSimple, IsTaut, turned_round}
use Rattle.ring_laws.proofs.Simple.SimpleRings.{runs_round}

-- ---- the way round

-- a simple ring of three vertices or more is counterclockwise or clockwise
pub two_ways : (ring : List Point) → 3 ≤ length ring → IsSimple ring → IsCounterclockwise ring ⊎ IsClockwise ring
two_ways ring some simple = elim (runs_round ring some (apart_of_simple ring simple)) [ inl h ↦ inl h.area | inr h ↦ inr h.area ]

-- a clockwise ring turned round is counterclockwise
pub counterclockwise_turned : (ring : List Point) → IsClockwise ring → IsCounterclockwise (turned_round ring)
counterclockwise_turned ring way = omega (arith, ints, way, doubled_area-turned_round ring)

-- a simple ring of three vertices or more, or that ring turned round, that runs counterclockwise
pub record IsKept (ring kept : List Point) : Type 0 where
  pub some : 3 ≤ length kept
  pub simple : IsSimple kept
  pub counterclockwise : IsCounterclockwise kept
  pub one_of : (kept ≡ ring) ⊎ (kept ≡ turned_round ring)

-- each simple ring has one
pub kept_ring : (ring : List Point) → 3 ≤ length ring → IsSimple ring → (kept : List Point) × IsKept ring kept
kept_ring ring some simple = elim (two_ways ring some simple) [
  | inl way ↦ (ring, record { some = some; simple = simple; counterclockwise = way; one_of = inl refl })
  | inr way ↦ (
    turned_round ring,
    record {
      some = omega (arith, some, length-turned_round ring);
      simple = simple_turned ring simple;
      counterclockwise = counterclockwise_turned ring way;
      one_of = inr refl;
    },
  )
]

-- ---- chains with bends

module _ (ring : List Point) where
  -- a bend is one in the ring turned round,
  bend_turned : (p v q : Point) → IsBend ring p v q → IsBend (turned_round ring) p v q
  bend_turned p v q h = record {
    reflex = (reflex_turned_iff ring v).1 h.reflex;
    turns = h.turns;
    in_cone = λ u beside. h.in_cone u ((neighbours_turned_iff ring v u).0 beside);
  }

  -- and a chain is a chain in it,
  chain_turned : (c : List Point) → IsChain ring c → IsChain (turned_round ring) c
  chain_turned c h = record {
    some = h.some;
    inside = λ k within. (in_turned_iff (whole _) ring).1 (h.inside k within);
    distinct = h.distinct;
    sees = λ k within. (sees_turned_iff ring _ _).1 (h.sees k within);
  }

  -- so it has the chains with bends of the ring
  pub bent_chain_turned : (c : List Point) → IsBentChain ring c → IsBentChain (turned_round ring) c
  bent_chain_turned c h = record { chain = chain_turned c h.chain; bends = λ k inner. bend_turned _ _ _ (h.bends k inner) }

-- and no others
bent_turned_iff : (ring c : List Point) → IsBentChain (turned_round ring) c ↔ IsBentChain ring c
bent_turned_iff ring c = (
  λ h. subst (λ (vs : List Point). IsBentChain vs c) (turned_round-turned_round ring) (bent_chain_turned (turned_round ring) c h),
  bent_chain_turned ring c,
)

-- a chain with bends in a ring is one in the ring that is kept
pub bent_kept : (ring kept : List Point) → IsKept ring kept → (c : List Point) → IsBentChain ring c → IsBentChain kept c
bent_kept ring kept is c h = elim is.one_of [
  | inl e ↦ subst (λ (vs : List Point). IsBentChain vs c) (sym e) h
  | inr e ↦ subst (λ (vs : List Point). IsBentChain vs c) (sym e) (bent_chain_turned ring c h)
]

-- the same chains are taut in a ring that is read the other way round,
pub taut_turned_iff : (ring : List Point) (s t : Point) (points : List Point) → IsTaut (turned_round ring) s t points ↔ IsTaut ring s t points
taut_turned_iff ring s t points = (
  λ h. record { bent = (bent_turned_iff ring points).0 h.bent; first = h.first; last = h.last; single = h.single },
  λ h. record { bent = (bent_turned_iff ring points).1 h.bent; first = h.first; last = h.last; single = h.single },
)
