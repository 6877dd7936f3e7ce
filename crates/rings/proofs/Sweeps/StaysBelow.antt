-- One edge below another: where both run, what is on the lower edge or below it is below the upper one, but for a common end.
use Rattle.std.proofs.Common.{◌≡◌, ◌⊎◌, inl, inr, refl, sym, subst, pos, ◌<ℤ◌, ◌≤ℤ◌, ℤ}
use Rattle.integer_algebra.proofs.SignSteps.{negative_not_zero, positive_not_zero, weak, weak_order, zero_not_negative, zero_not_positive}
use Rattle.integer_algebra.proofs.Signs.{is_negative, is_positive, is_zero, lt_or_le, sign}
use Rattle.plane.proofs.Order.{NotAfter, not_after_facts, not_after_of_precedes, not_after_of_same, not_after_trans, precedes_differs}
use Rattle.plane.proofs.Points.{same_sym, same_trans, whole_is_point}
use Rattle.plane.proofs.Turns.{determinant_same_ends, determinant_same_last}
use Rattle.plane.specs.Prelude.{determinant, IsPoint, IsSame, Point, Precedes, Triple, whole}
use Rattle.rings.proofs.Sweeps.Chords.{IsBalanced, chord_above, chord_below}
use Rattle.rings.specs.Apart.{IsCommonEnd}
use Rattle.rings.specs.Below.{IsBelow, IsBelowAt}
use Rattle.rings.specs.Edge.{Edge}

-- the side of the edge's line on which a point is
abbrev pub side : Edge → Triple → ℤ
side e x = determinant (whole e.from) (whole e.to) x

-- the edge runs from y or before to z or after
pub record Spans (y z : Triple) (e : Edge) : Type 0 where
  pub proper : Precedes (whole e.from) (whole e.to)
  pub from_before : NotAfter (whole e.from) y
  pub to_after : NotAfter z (whole e.to)

-- ---- vertices at which edge e is below edge f

-- v is p or q; it is not below the line of e nor above that of f, and on both only where it is p and q
record Witness (e f : Edge) (p q : Point) : Type 0 where
  v : Point
  is_one : (v ≡ p) ⊎ (v ≡ q)
  not_below : pos 0 ≤ℤ side e (whole v)
  not_above : side f (whole v) ≤ℤ pos 0
  common : side e (whole v) ≡ pos 0 → side f (whole v) ≡ pos 0 → (p ≡ q) × (v ≡ p)

-- ends p of e and q of f that show it, or a common end
module _ (e f : Edge) (p q : Point) (on_e : side e (whole p) ≡ pos 0) (on_f : side f (whole q) ≡ pos 0) where
  witness : IsBelowAt e f p q ⊎ (p ≡ q) → Witness e f p q
  witness (inl (inl left)) = record {
    v = q;
    is_one = inr refl;
    not_below = weak left;
    not_above = zero_not_positive on_f;
    common = λ h k. absurd (positive_not_zero left h);
  }
  witness (inl (inr right)) = record {
    v = p;
    is_one = inl refl;
    not_below = zero_not_negative on_e;
    not_above = weak_order right;
    common = λ h k. absurd (negative_not_zero right k);
  }
  witness (inr same) = record {
    v = p;
    is_one = inl refl;
    not_below = zero_not_negative on_e;
    not_above = zero_not_positive (subst (λ (v : Point). side f (whole v) ≡ pos 0) (sym same) on_f);
    common = λ h k. (same, refl);
  }

-- ---- what is not above the lower edge

-- x comes between y and z, and both edges run from y or before to z or after
module _ (e f : Edge) (x y z : Triple) (at_x : IsPoint x) (at_y : IsPoint y) (at_z : IsPoint z)
    (yz : Precedes y z) (yx : NotAfter y x) (xz : NotAfter x z) (over_e : Spans y z e) (over_f : Spans y z f) (order : IsBelow e f) where
  s : Witness e f e.from f.from
  s =
      witness e f e.from f.from (determinant_same_ends (whole e.from) (whole e.to)) (determinant_same_ends (whole f.from) (whole f.to)) order.start

  t : Witness e f e.to f.to
  t = witness e f e.to f.to (determinant_same_last (whole e.from) (whole e.to)) (determinant_same_last (whole f.from) (whole f.to)) order.finish

  at : (v : Point) → IsPoint (whole v)
  at v = whole_is_point v

  -- x comes between the two vertices
  sy : NotAfter (whole s.v) y
  sy = elim s.is_one [ inl h ↦ rw h over_e.from_before | inr h ↦ rw h over_f.from_before ]

  zt : NotAfter z (whole t.v)
  zt = elim t.is_one [ inl h ↦ rw h over_e.to_after | inr h ↦ rw h over_f.to_after ]

  sx : NotAfter (whole s.v) x
  sx = not_after_trans (whole s.v) y x (at s.v) at_y at_x sy yx

  xt : NotAfter x (whole t.v)
  xt = not_after_trans x z (whole t.v) at_x at_z (at t.v) xz zt

  st : NotAfter (whole s.v) (whole t.v)
  st = not_after_trans (whole s.v) x (whole t.v) (at s.v) at_x (at t.v) sx xt

  -- and is not both of them
  apart : ¬ (IsSame (whole s.v) x × IsSame x (whole t.v))
  apart h =
      let ts = not_after_of_same (whole t.v) (whole s.v) (same_sym (same_trans at_x h.0 h.1)) in
      let zs = not_after_trans z (whole t.v) (whole s.v) at_z (at t.v) (at s.v) zt ts in
      not_after_facts z y (not_after_trans z (whole s.v) y at_z (at s.v) at_y zs sy) yz

  module _ (low : side e x ≤ℤ pos 0) (high : pos 0 ≤ℤ side f x) where
    -- x is not below the chord from s to t unless it is on it, as the lower edge tells,
    from_lower : pos 0 ≤ℤ determinant (whole s.v) (whole t.v) x → IsBalanced (whole e.from) (whole e.to) (whole s.v) (whole t.v) x
    from_lower =
        chord_above (whole e.from) (whole e.to) (whole s.v) (whole t.v) x (not_after_of_precedes (whole e.from) (whole e.to) over_e.proper)
        sx xt st low s.not_below t.not_below

    -- nor above it, as the upper one tells
    from_upper : determinant (whole s.v) (whole t.v) x ≤ℤ pos 0 → IsBalanced (whole f.from) (whole f.to) (whole s.v) (whole t.v) x
    from_upper =
        chord_below (whole f.from) (whole f.to) (whole s.v) (whole t.v) x (not_after_of_precedes (whole f.from) (whole f.to) over_f.proper)
        sx xt st high s.not_above t.not_above

    -- so it is on the chord
    on_chord : determinant (whole s.v) (whole t.v) x ≡ pos 0
    on_chord = elim (sign (determinant (whole s.v) (whole t.v) x)) [
      | is_negative h ↦
          elim (from_upper (weak_order h)).2 [ inl k ↦ k | inr k ↦ absurd (precedes_differs (whole f.from) (whole f.to) over_f.proper k) ]
      | is_zero k ↦ k
      | is_positive h ↦ elim (from_lower (weak h)).2 [ inl k ↦ k | inr k ↦ absurd (precedes_differs (whole e.from) (whole e.to) over_e.proper k) ]
    ]

    -- and both edges begin at s, or x is t
    begins : (e.from ≡ f.from) × (s.v ≡ e.from) ⊎ IsSame x (whole t.v)
    begins = elim (from_lower (zero_not_negative on_chord)).0 [
      | inr h ↦ inr h
      | inl h ↦ elim (from_upper (zero_not_positive on_chord)).0 [ inr k ↦ inr k | inl k ↦ inl (s.common h k) ]
    ]

    -- both end at t, or x is s
    ends : (e.to ≡ f.to) × (t.v ≡ e.to) ⊎ IsSame (whole s.v) x
    ends = elim (from_lower (zero_not_negative on_chord)).1 [
      | inr h ↦ inr h
      | inl h ↦ elim (from_upper (zero_not_positive on_chord)).1 [ inr k ↦ inr k | inl k ↦ inl (t.common h k) ]
    ]

    -- so it is a common end
    common_end : IsCommonEnd e f x
    common_end = elim begins [
      | inl h ↦ elim ends [
        | inl k ↦ absurd (order.differ h.0 k.0)
        | inr k ↦ record { end = e.from; of_first = inl refl; of_second = inl (sym h.0); same = same_sym (rw h.1 at k) }
      ]
      | inr h ↦ elim ends [
        | inl k ↦ record { end = e.to; of_first = inr refl; of_second = inr (sym k.0); same = rw k.1 at h }
        | inr k ↦ absurd (apart (k, h))
      ]
    ]

  -- what is not above the lower edge is below the upper one, or a common end
  pub stays_below : side e x ≤ℤ pos 0 → (side f x <ℤ pos 0) ⊎ IsCommonEnd e f x
  stays_below low = elim (lt_or_le (side f x) (pos 0)) [ inl h ↦ inl h | inr high ↦ inr (common_end low high) ]
