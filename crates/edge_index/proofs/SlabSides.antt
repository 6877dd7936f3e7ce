-- Slabs: a segment beyond a line of one meets none in it.
use Rattle.std.proofs.Common.{◌≡◌, refl, subst, [], ◌∷◌, inl, inr, ℤ, pos, ◌+ℤ◌, ◌-ℤ◌, ◌*ℤ◌, arith}
use Rattle.std.proofs.lemmas.Int.{ints}
use Rattle.integer_algebra.proofs.Polynomial.{var, lit, ◌⊕◌, ◌⊖◌, ◌⊗◌, same_value}
use Rattle.plane.proofs.Nearness.{no_meet_across}
use Rattle.plane.proofs.Points.{whole_is_point}
use Rattle.plane.proofs.Turns.{linear}
use Rattle.plane.specs.Point.{Point, whole}
use Rattle.plane.specs.Segment.{Meet}
use Rattle.edge_index.specs.Probes.{offset}
use Rattle.edge_index.specs.Slabs.{AreBeyond, IsInSlab, slab_offset}
use Rattle.edge_index.specs.declared.slab.Slab.{Slab}

-- an offset over a number as a functional, and a number over an offset
over_is : (across up m x y : ℤ) → up *ℤ x +ℤ (pos 0 -ℤ across) *ℤ y +ℤ (pos 0 -ℤ m) *ℤ pos 1 ≡ offset across up x y -ℤ m
over_is across up m x y =
    same_value (var 1 ⊗ var 3 ⊕ (lit (pos 0) ⊖ var 0) ⊗ var 4 ⊕ (lit (pos 0) ⊖ var 2) ⊗ lit (pos 1)) (var 1 ⊗ var 3 ⊖ var 0 ⊗ var 4 ⊖ var 2)
    (across ∷ up ∷ m ∷ x ∷ y ∷ []) refl

under_is : (across up m x y : ℤ) → (pos 0 -ℤ up) *ℤ x +ℤ across *ℤ y +ℤ m *ℤ pos 1 ≡ m -ℤ offset across up x y
under_is across up m x y =
    same_value ((lit (pos 0) ⊖ var 1) ⊗ var 3 ⊕ var 0 ⊗ var 4 ⊕ var 2 ⊗ lit (pos 1)) (var 2 ⊖ (var 1 ⊗ var 3 ⊖ var 0 ⊗ var 4))
    (across ∷ up ∷ m ∷ x ∷ y ∷ []) refl

module _ (slab : Slab) where
  over : (m : ℤ) (p : Point) → linear slab.up (pos 0 -ℤ slab.across) (pos 0 -ℤ m) (whole p) ≡ slab_offset slab p -ℤ m
  over m p = over_is slab.across slab.up m p.x p.y

  under : (m : ℤ) (p : Point) → linear (pos 0 -ℤ slab.up) slab.across m (whole p) ≡ m -ℤ slab_offset slab p
  under m p = under_is slab.across slab.up m p.x p.y

  -- a segment whose ends are beyond a line of the slab meets none in it
  pub no_meet_beyond : (p q a b : Point) → AreBeyond slab p q → IsInSlab slab a → IsInSlab slab b → Meet (whole p) (whole q) (whole a) (whole b) → ⊥
  no_meet_beyond p q a b (inl low) in_a in_b =
      no_meet_across (whole p) (whole q) (whole a) (whole b) (whole_is_point p) (whole_is_point q) (whole_is_point a) (whole_is_point b)
      (pos 0 -ℤ slab.up) slab.across slab.least
      (rw (under slab.least p) (omega (arith, ints, low.0))) (rw (under slab.least q) (omega (arith, ints, low.1)))
      (rw (under slab.least a) (omega (arith, ints, in_a.from))) (rw (under slab.least b) (omega (arith, ints, in_b.from)))
  no_meet_beyond p q a b (inr high) in_a in_b =
      no_meet_across (whole p) (whole q) (whole a) (whole b) (whole_is_point p) (whole_is_point q) (whole_is_point a) (whole_is_point b)
      slab.up (pos 0 -ℤ slab.across) (pos 0 -ℤ slab.greatest)
      (rw (over slab.greatest p) (omega (arith, ints, high.0))) (rw (over slab.greatest q) (omega (arith, ints, high.1)))
      (rw (over slab.greatest a) (omega (arith, ints, in_a.to))) (rw (over slab.greatest b) (omega (arith, ints, in_b.to)))

-- equal points are beyond a line together
pub ends_beyond : (slab : Slab) (a b p q : Point) → a ≡ p → b ≡ q → AreBeyond slab a b → AreBeyond slab p q
ends_beyond slab a b p q first last beyond = subst (AreBeyond slab p) last (subst (λ x. AreBeyond slab x b) first beyond)
