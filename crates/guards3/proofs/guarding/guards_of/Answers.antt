use Rattle.std.proofs.Common.{sym, subst, ◌≤◌, ◌/◌, length}
use Rattle.std.proofs.lemmas.Result.{IfOk-weaker}
use Rattle.ring_check.specs.Oriented.{given_of}
use Rattle.guards3.proofs.OneGuards.{fewest_guard, fewest_third}
use Rattle.guards3.proofs.Watched.{see_all}
use Rattle.guards3.proofs.guarding.guards_of.Goals as goal
use Rattle.guards3.specs.Guards.{AreGuards, SeeAll}
use Rattle.guards3.specs.Tally.{IsFewest}

pub returns-clause-guards : goal.returns-clause-guards
returns-clause-guards c =
    let ring = c.args.ring.now in
    let tris = c.args.tris.now in
    let classes = c.in_ok-classes.classes.items in
    let chosen = c.fewest-fewest.result in
    let fewest : IsFewest ring classes chosen = rw c.deref.ensures.value at c.fewest-fewest.ensures in
    let guard = fewest_guard ring tris c.requires classes c.in_ok-classes.ensures chosen.class fewest.of_three fewest.fewest in
    IfOk-weaker c.members.result _ _ (λ found is. subst (AreGuards ring tris) (sym is) guard) (rw c.deref-2.ensures.value at c.members.ensures)

pub returns-clause-few : goal.returns-clause-few
returns-clause-few c =
    let ring = c.args.ring.now in
    let classes = c.in_ok-classes.classes.items in
    let chosen = c.fewest-fewest.result in
    let fewest : IsFewest ring classes chosen = rw c.deref.ensures.value at c.fewest-fewest.ensures in
    let third = fewest_third ring c.args.tris.now c.requires classes c.in_ok-classes.ensures chosen.class fewest.of_three fewest.fewest in
    IfOk-weaker c.members.result _ _ (λ found is. subst (λ gs. length gs ≤ length ring.corners / 3) (sym is) third)
    (rw c.deref-2.ensures.value at c.members.ensures)

pub returns-clause-seen : goal.returns-clause-seen
returns-clause-seen c =
    let ring = c.args.ring.now in
    let classes = c.in_ok-classes.classes.items in
    let chosen = c.fewest-fewest.result in
    let fewest : IsFewest ring classes chosen = rw c.deref.ensures.value at c.fewest-fewest.ensures in
    let seen = see_all ring c.args.tris.now c.requires classes c.in_ok-classes.ensures chosen.class fewest.of_three in
    IfOk-weaker c.members.result _ _ (λ found is. subst (SeeAll (given_of ring)) (sym is) seen) (rw c.deref-2.ensures.value at c.members.ensures)
