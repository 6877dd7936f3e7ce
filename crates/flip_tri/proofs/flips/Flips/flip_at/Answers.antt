use Rattle.std.proofs.Common.{◌≡◌, inl, inr, refl, sym, ap, subst, ◌∙◌, length, arith}
use Rattle.std.proofs.lemmas.Bool.{cases_lt}
use Rattle.meshes.proofs.Sides.{fitting_sides}
use Rattle.meshes.specs.Fits.{Fits}
use Rattle.meshes.specs.Side.{HasSidesOnce}
use Rattle.flip_tri.proofs.OneFlip.{corners_below, flip_fits, flip_flips}
use Rattle.flip_tri.proofs.SettledSides.{settled_alone, settled_at, settled_shared}
use Rattle.flip_tri.specs.Flips.{IsQuadBelow, IsFlipped, IsQuadToFlip}
use Rattle.flip_tri.specs.Shared.{HasNoFlipOver, flipped, quad_of}
use Rattle.flip_tri.proofs.flips.Flips.flip_at.Given.{Over}
use Rattle.flip_tri.proofs.flips.Flips.flip_at.Goals as goal
use Rattle.flip_tri.proofs.flips.Flips.flip_at.Goals.{Then-is_to_flip, in-Some+else-is_to_flip, in_default}

pub shared-requires-clause-once : goal.shared-requires-clause-once
shared-requires-clause-once c = λ d. fitting_sides d.args.ring.now.corners d.loop-side.self.tris.items d.loop-side.invariant.flips.fits

pub is_to_flip-requires : goal.is_to_flip-requires
is_to_flip-requires c = λ d.
    let tris = d.loop-side.self.tris.items in
    let corners = d.args.ring.now.corners in
    let shared = d.in-Some.shared in
    let fits = d.loop-side.invariant.flips.fits in
    subst (IsQuadBelow (length corners)) (sym d.quad-quad.ensures) (corners_below corners tris fits shared d.in-Some.ensures.some)

pub flip-requires-clause-before : goal.flip-requires-clause-before
flip-requires-clause-before c = λ d. fitting_sides d.args.ring.now.corners d.loop-side.self.tris.items d.loop-side.invariant.flips.fits

-- a shared side is to be flipped
module _ (c : Over) (d : Then-is_to_flip c) where
  to_flip : IsQuadToFlip d.args.ring.now.corners (quad_of d.loop-side.self.tris.items d.in-Some.shared)
  to_flip = subst (IsQuadToFlip d.args.ring.now.corners) d.quad-quad.ensures (d.if-is_to_flip.ensures.flip.0 refl)

  fits_then : let tris = d.loop-side.self.tris.items in let shared = d.in-Some.shared in
      Fits d.args.ring.now.corners (flipped tris shared.near shared.far (quad_of tris shared))
  fits_then =
      let ring = d.len-length.ensures in
      flip_fits _ _ d.loop-side.invariant.flips.fits _ d.in-Some.ensures.some to_flip ring.size.0 ring.simple ring.counterclockwise

pub flip-requires-clause-once : goal.flip-requires-clause-once
flip-requires-clause-once c = λ d.
    let shared = d.in-Some.shared in
    subst (λ quad. HasSidesOnce (flipped d.loop-side.self.tris.items shared.near shared.far quad)) (sym d.quad-quad.ensures)
    (fitting_sides _ _ (fits_then c (goal.at.flip-requires-clause-once c d).Then-is_to_flip))

pub returns-then-is_to_flip-clause-flips : goal.returns-then-is_to_flip-clause-flips
returns-then-is_to_flip-clause-flips c = λ d.
    let shared = d.in-Some.shared in
    let now = d.flip.ensures.tris ∙ ap (flipped d.loop-side.self.tris.items shared.near shared.far) d.quad-quad.ensures in
    let fits_now = fits_then c (goal.at.returns-then-is_to_flip-clause-flips c d).Then-is_to_flip in
    record { fits = subst (Fits d.args.ring.now.corners) (sym now) fits_now; knows = d.flip.ensures.knows }

pub returns-then-is_to_flip-clause-some : goal.returns-then-is_to_flip-clause-some
returns-then-is_to_flip-clause-some c = λ d.
    let tris = d.loop-side.self.tris.items in
    let corners = d.args.ring.now.corners in
    let shared = d.in-Some.shared in
    let now = d.flip.ensures.tris ∙ ap (flipped tris shared.near shared.far) d.quad-quad.ensures in
    let flips = flip_flips corners tris d.loop-side.invariant.flips.fits shared d.in-Some.ensures.some
    (to_flip c (goal.at.returns-then-is_to_flip-clause-some c d).Then-is_to_flip) in
    subst (λ k. IsFlipped corners d.args.self.now.tris.items d.flip.new.self.tris.items k shared.far) d.in-Some.ensures.near.0
    (subst (λ ts. IsFlipped corners ts d.flip.new.self.tris.items shared.near shared.far) d.loop-side.invariant.tris
    (subst (λ ts. IsFlipped corners tris ts shared.near shared.far) (sym now) flips))

pub loop-side-preserved : goal.loop-side-preserved
loop-side-preserved c = λ d.
    let tris = d.loop-side.self.tris.items in
    let corners = d.args.ring.now.corners in
    let fits = d.loop-side.invariant.flips.fits in
    let here : HasNoFlipOver corners tris d.args.near d.loop-side.side = elim d.match-shared.branch [
      | in-Some+else-is_to_flip w ↦
          let found = w.in-Some.ensures in
          let settled = settled_shared corners tris fits w.in-Some.shared found.some
          (λ h. let yes = w.if-is_to_flip.ensures.flip.1 (subst (IsQuadToFlip corners) (sym w.quad-quad.ensures) h) in cc) in
          subst (λ k. HasNoFlipOver corners tris k d.loop-side.side) found.near.0
          (subst (HasNoFlipOver corners tris w.in-Some.shared.near) found.near.1 settled)
      | in_default w ↦ settled_alone corners tris d.args.near d.loop-side.side w.in_default.ensures.none
    ] in
    let before = d.loop-side.invariant.steps in
    record {
      tris = d.loop-side.invariant.tris;
      flips = d.loop-side.invariant.flips;
      settled = λ side less. elim (cases_lt side d.loop-side.side) [
        | inl before ↦ d.loop-side.invariant.settled side before
        | inr not_before ↦
            let last : d.loop-side.side ≡ side = omega (arith, less, not_before) in
            subst (HasNoFlipOver corners tris d.args.near) last here
      ];
      steps = elim d.match-shared.branch [
        | in-Some+else-is_to_flip w ↦ let is = w.steps-is in let few = w.is_to_flip.ensures.steps in omega (arith, before, is, few)
        | in_default w ↦ let is = w.steps-is in omega (arith, before, is)
      ];
    }

pub returns-clause-none : goal.returns-clause-none
returns-clause-none c = λ d.
    let done = d.loop-side-test.false in (
      d.loop-side.invariant.tris,
      settled_at d.args.ring.now.corners d.loop-side.self.tris.items d.args.near
          (λ side in_row. d.loop-side.invariant.settled side (omega (arith, done, in_row))),
    )
