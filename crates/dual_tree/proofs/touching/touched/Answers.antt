use Rattle.std.proofs.Common.{◌≡◌, inl, inr, sym, subst, ap, ◌∙◌, ◌-◌, ◌<◌, ◌++◌, [], ◌∷◌, length, arith}
use Rattle.std.proofs.lemmas.List.{length-append}
use Rattle.plane.proofs.Order.{point_or_other}
use Rattle.plane.specs.Point.{Point}
use Rattle.rings.specs.Chain.{point_at}
use Rattle.dual_tree.proofs.Searched.{IsSearched, half_few, half_within, index_is, left_below, right_below, searched_all, searched_few, searched_first}
use Rattle.dual_tree.proofs.Searched.{searched_next, searched_rest}
use Rattle.dual_tree.proofs.SleeveRoom.{sleeve_few}
use Rattle.dual_tree.specs.Touched.{AppendsFull}
use Rattle.dual_tree.proofs.touching.touched.Goals as goal

pub corner-left-requires : goal.corner-left-requires
corner-left-requires g c =
    let within : c.loop-i.i < length c.args.sleeve.now.diagonals = omega (arith, c.loop-i-test.true, c.len-i-end.ensures.number) in
    rw c.left.ensures (left_below c.requires.fits c.requires.of_mesh c.loop-i.i within)

pub corner-right-requires : goal.corner-right-requires
corner-right-requires g c =
    let within : c.loop-i.i < length c.args.sleeve.now.diagonals = omega (arith, c.loop-i-test.true, c.len-i-end.ensures.number) in
    rw c.right.ensures (right_below c.requires.fits c.requires.of_mesh c.loop-i.i within)

pub loop-i-init : goal.loop-i-init
loop-i-init g c =
    let chain = c.args.chain.now in
    let given = c.args.out.now.items in
    let first : c.index-chain-0.result ≡ point_at chain 0 = index_is chain 0 c.index-chain-0.result c.requires.some c.index-chain-0.is in
    let search = searched_first c.requires.fits c.requires.of_mesh chain c.requires.path
    given c.requires.start c.requires.goal in
    record {
      searched = subst (λ xs. IsSearched c.args.ring.now.corners c.args.mesh.now c.args.sleeve.now chain given 0 0 c.index-chain-0.result xs)
          (sym c.push_reserved.ensures.items)
          (subst (λ p. IsSearched c.args.ring.now.corners c.args.mesh.now c.args.sleeve.now chain given 0 0 p (given ++ p ∷ [])) (sym first) search);
      same_out = c.push_reserved.ensures.capacity;
      few_steps = omega arith;
    }

pub look-nearer-requires-clause-room : goal.look-nearer-requires-clause-room
look-nearer-requires-clause-room g c =
    let inv = c.loop-i.invariant in
    let few = searched_few c.requires.fits c.requires.of_mesh c.args.chain.now c.requires.path inv.searched in
    omega (arith, few, c.requires.room, inv.same_out)

pub look-reached-requires-clause-place : goal.look-reached-requires-clause-place
look-reached-requires-clause-place g c =
    let inv = c.loop-i.invariant in
    let within : c.loop-i.i < length c.args.sleeve.now.diagonals = omega (arith, c.loop-i-test.true, c.len-i-end.ensures.number) in
    let first = rw (c.corner-left.ensures, c.left.ensures) at c.look-nearer.ensures.looked in
    half_within c.requires.fits c.requires.of_mesh c.args.chain.now c.requires.path inv.searched within first

pub look-reached-requires-clause-room : goal.look-reached-requires-clause-room
look-reached-requires-clause-room g c =
    let inv = c.loop-i.invariant in
    let within : c.loop-i.i < length c.args.sleeve.now.diagonals = omega (arith, c.loop-i-test.true, c.len-i-end.ensures.number) in
    let first = rw (c.corner-left.ensures, c.left.ensures) at c.look-nearer.ensures.looked in
    let few = half_few c.requires.fits c.requires.of_mesh c.args.chain.now c.requires.path inv.searched within first in
    omega (arith, few, c.requires.room, inv.same_out, c.look-nearer.ensures.same_out)

pub loop-i-preserved : goal.loop-i-preserved
loop-i-preserved g c =
    let inv = c.loop-i.invariant in
    let within : c.loop-i.i < length c.args.sleeve.now.diagonals = omega (arith, c.loop-i-test.true, c.len-i-end.ensures.number) in
    let first = rw (c.corner-left.ensures, c.left.ensures) at c.look-nearer.ensures.looked in
    let second = rw (c.corner-right.ensures, c.right.ensures) at c.look-reached.ensures.looked in
    record {
      searched = searched_next c.requires.fits c.requires.of_mesh c.args.chain.now c.requires.path inv.searched within first second;
      same_out = c.look-reached.ensures.same_out ∙ c.look-nearer.ensures.same_out ∙ inv.same_out;
      few_steps = omega (arith, c.look-reached.ensures.steps, c.look-nearer.ensures.steps, inv.few_steps);
    }

pub finish-requires-clause-room : goal.finish-requires-clause-room
finish-requires-clause-room g c =
    let inv = c.loop-i.invariant in
    let few = searched_few c.requires.fits c.requires.of_mesh c.args.chain.now c.requires.path inv.searched in
    omega (arith, few, c.requires.room, inv.same_out)

pub returns-clause-full : goal.returns-clause-full
returns-clause-full g c =
    let inv = c.loop-i.invariant in
    let chain = c.args.chain.now in
    let all : c.loop-i.i ≡ length c.args.sleeve.now.diagonals = omega (arith, c.loop-i.auto.i-end, c.loop-i-test.false, c.len-i-end.ensures.number) in
    elim (point_or_other c.loop-i.reached.last (point_at chain (length chain - 1))) [
      | inl there ↦
          subst (AppendsFull c.args.ring.now.corners chain c.args.out.now.items) (sym (c.finish.ensures.there there))
          (searched_all c.requires.fits c.requires.of_mesh chain c.requires.path inv.searched all c.requires.goal there)
      | inr short ↦
          subst (AppendsFull c.args.ring.now.corners chain c.args.out.now.items) (sym (c.finish.ensures.short short))
          (searched_rest c.requires.fits c.requires.of_mesh chain c.requires.path inv.searched all c.requires.goal short)
    ]

pub returns-clause-few : goal.returns-clause-few
returns-clause-few g c =
    let inv = c.loop-i.invariant in
    let few = searched_few c.requires.fits c.requires.of_mesh c.args.chain.now c.requires.path inv.searched in
    elim (point_or_other c.loop-i.reached.last (point_at c.args.chain.now (length c.args.chain.now - 1))) [
      | inl there ↦ omega (arith, few, ap length (c.finish.ensures.there there))
      | inr short ↦ omega (arith, few, ap length (c.finish.ensures.short short), length-append {A = Point})
    ]

pub returns-clause-steps : goal.returns-clause-steps
returns-clause-steps g c =
    let all : c.loop-i.i ≡ length c.args.sleeve.now.diagonals = omega (arith, c.loop-i.auto.i-end, c.loop-i-test.false, c.len-i-end.ensures.number) in
    let few = sleeve_few c.args.ring.now.corners c.args.mesh.now c.args.sleeve.now c.requires.fits c.requires.of_mesh in
    omega (arith, c.finish.ensures.steps, c.loop-i.invariant.few_steps, all, few)
