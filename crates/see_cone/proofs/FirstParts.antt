-- The parts of the first edges of a ring: none, one more edge of which nothing or a part is seen, and in the end all.
use Rattle.std.proofs.Common.{◌≡◌, refl, sym, ap, subst, ◌∙◌, ℕ, ◌+◌, ◌<◌, ◌≤◌, ◌⊎◌, inl, inr, List, [], ◌∷◌, ◌++◌, length, length-append, arith}
use Rattle.std.proofs.lemmas.Bool.{cases_eq, cases_lt}
use Rattle.std.proofs.lemmas.List.{get_or_append_left, get_or_push}
use Rattle.plane.specs.Point.{Point, Triple, whole}
use Rattle.rings.specs.Ring.{origin}
use Rattle.rings.specs.Visible.{AreParts, IsPart, IsUnseen, Part, part_at}
use Rattle.see_cone.specs.Told.{AreFirstParts}

-- no part
abbrev none : Part
none = record { edge = 0; first = whole origin; last = whole origin }

-- the earlier parts where one more is appended,
at_earlier : (parts : List Part) (part : Part) (k : ℕ) → k < length parts → part_at (parts ++ part ∷ []) k ≡ part_at parts k
at_earlier parts part k below = get_or_append_left parts (part ∷ []) none k below

-- and the last one
at_last : (parts : List Part) (part : Part) (k : ℕ) → k ≡ length parts → part_at (parts ++ part ∷ []) k ≡ part
at_last parts part k last = get_or_push parts part none k (sym last)

-- what holds of the parts holds of all with one more
pushed : (P : Part → Type 0) (parts : List Part) (part : Part) → ((k : ℕ) → k < length parts → P (part_at parts k)) → P part
    → (k : ℕ) → k < length (parts ++ part ∷ []) → P (part_at (parts ++ part ∷ []) k)
pushed P parts part before here k below = elim (cases_eq k (length parts)) [
  | inl last ↦ subst P (sym (at_last parts part k last)) here
  | inr other ↦
      let earlier : k < length parts = omega (arith, length-append parts (part ∷ [])) in
      subst P (sym (at_earlier parts part k earlier)) (before k earlier)
]

-- q sees a part of the edge with the part's number
abbrev IsSeenPart : List Point → Triple → Part → Type 0
IsSeenPart ring q part = IsPart ring q part.edge part.first part.last

module _ (ring : List Point) (q : Triple) where
  -- of no edges
  pub first_none : AreFirstParts ring q 0 []
  first_none = record {
    in_front = λ k h. absurd (omega arith);
    parts_seen = λ k h. absurd (omega arith);
    rising = λ k h. absurd (omega arith);
    complete = λ i h. absurd (omega arith);
  }

  -- of all
  pub parts_of_all : (parts : List Part) → AreFirstParts ring q (length ring) parts → AreParts ring q parts
  parts_of_all parts are = record { in_ring = are.in_front; parts_seen = are.parts_seen; rising = are.rising; complete = are.complete }

  module _ (count : ℕ) (parts : List Part) (are : AreFirstParts ring q count parts) where
    -- of some more edges nothing is seen,
    pub first_gap : (above : ℕ) → count ≤ above → ((i : ℕ) → count ≤ i → i < above → IsUnseen ring q i) → AreFirstParts ring q above parts
    first_gap above more unseen = record {
      in_front = λ k h. omega (arith, are.in_front k h);
      parts_seen = are.parts_seen;
      rising = are.rising;
      complete = λ i h. elim (cases_lt i count) [
        | inl before ↦ are.complete i before
        | inr after ↦ inr (unseen i after h)
      ];
    }

    -- as of the next one
    pub first_unseen : IsUnseen ring q count → AreFirstParts ring q (count + 1) parts
    first_unseen unseen =
        first_gap (count + 1) (omega arith) (λ i after below. let same : count ≡ i = omega arith in subst (IsUnseen ring q) same unseen)

    module _ (part : Part) (here : part.edge ≡ count) (seen : IsPart ring q count part.first part.last) where
      abbrev more : List Part
      more = parts ++ part ∷ []

      rising_more : (k : ℕ) → k + 1 < length more → (part_at more k).edge < (part_at more (k + 1)).edge
      rising_more k below =
          let long = length-append parts (part ∷ []) in
          let earlier : k < length parts = omega (arith, long) in
          rw (at_earlier parts part k earlier) (elim (cases_eq (k + 1) (length parts)) [
            | inl last ↦ rw (at_last parts part (k + 1) last) (omega (arith, here, are.in_front k earlier))
            | inr other ↦
                let next : k + 1 < length parts = omega (arith, long) in
                rw (at_earlier parts part (k + 1) next) (are.rising k next)
          ])

      complete_more : (i : ℕ) → i < count + 1 → ((k : ℕ) × (k < length more) × ((part_at more k).edge ≡ i)) ⊎ IsUnseen ring q i
      complete_more i below =
          let long = length-append parts (part ∷ []) in
          elim (cases_eq i count) [
            | inl last ↦
                let edge = ap (λ (p : Part). p.edge) (at_last parts part (length parts) refl) in
                inl (length parts, omega (arith, long), edge ∙ here ∙ sym last)
            | inr other ↦ elim (are.complete i (omega arith)) [
              | inl at ↦ inl (at.0, omega (arith, long, at.1), ap (λ (p : Part). p.edge) (at_earlier parts part at.0 at.1) ∙ at.2)
              | inr unseen ↦ inr unseen
            ]
          ]

      -- or of it a part is seen
      pub first_part : AreFirstParts ring q (count + 1) more
      first_part = record {
        in_front = pushed (λ p. p.edge < count + 1) parts part (λ k h. omega (arith, are.in_front k h)) (omega (arith, here));
        parts_seen = pushed (IsSeenPart ring q) parts part are.parts_seen
            (subst (λ e. IsPart ring q e part.first part.last) (sym here) seen);
        rising = rising_more;
        complete = complete_more;
      }
