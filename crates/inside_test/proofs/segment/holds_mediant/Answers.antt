use Rattle.std.proofs.Common.{inl, inr, refl}
use Rattle.rings.specs.Inside.{IsIn}
use Rattle.inside_test.proofs.segment.holds_mediant.Goals as goal

pub returns-in-Inside-clause-holds : goal.returns-in-Inside-clause-holds
returns-in-Inside-clause-holds g c =
    let inside : IsIn c.args.ring.now.corners c.between-between.result =
    elim c.in-Inside.is [ inl e ↦ (c.place_hom.ensures.inside.0 e).0 | inr e ↦ inl (c.place_hom.ensures.edge.0 e) ] in
    (λ _. rw c.between-between.ensures.mediant at inside, λ _. refl)

pub returns-in-Outside-clause-holds : goal.returns-in-Outside-clause-holds
returns-in-Outside-clause-holds g c = (
  λ h. absurd (cc h),
  λ inside. absurd (c.place_hom.ensures.outside.0 c.in-Outside.is (rw c.between-between.ensures.mediant inside)),
)
