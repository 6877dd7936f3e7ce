use Rattle.std.proofs.Common.{◌≡◌, ap, ◌∙◌, ◌+◌, inl, inr, length, arith}
use Rattle.std.proofs.lemmas.Bool.{cases_eq}
use Rattle.std.proofs.lemmas.List.{with_items_is}
use Rattle.tri_mesh.proofs.RowsFilled.{are_paired, rows_right}
use Rattle.tri_mesh.proofs.SideLists.{are_listed, length-sides}
use Rattle.tri_mesh.proofs.sides.neighbours.Goals as goal
use Rattle.tri_mesh.specs.Neighbours.{ArePaired, AreListedSides, HaveOwners, side_at, sides_of}

pub link_at-requires-clause-paired : goal.link_at-requires-clause-paired
link_at-requires-clause-paired c =
    let tris = c.args.tris.now in
    let sides = sides_of tris c.in_ok-befores.befores.items in
    let are : AreListedSides tris (length tris + 2) sides = are_listed tris (length tris + 2) c.requires.corners c.in_ok-befores.befores.items c.in_ok-befores.ensures.number in
    let paired : ArePaired (length tris) (length tris + 2) sides = are_paired tris c.requires.once (length tris + 2) sides are in
    let marks : length c.deref_mut-in-loop-v.result.now ≡ length tris + 2 =
    ap length c.deref_mut-in-loop-v.ensures.value ∙ c.loop-v.invariant.count in
    rw (c.deref.ensures.value, marks, c.loop-v.invariant.linked.count) paired

pub loop-v-preserved : goal.loop-v-preserved
loop-v-preserved c =
    let sides = sides_of c.args.tris.now c.in_ok-befores.befores.items in
    let marks = c.loop-v.marks.items in
    let after = c.link_at.new.marks in
    let v = c.loop-v.v in
    let linked = rw (c.deref.ensures.value, c.loop-v.invariant.linked.count) at c.link_at.ensures.linked in
    let owners = rw c.deref.ensures.value at c.link_at.ensures.owners in
    let in_list = rw c.deref.ensures.value at c.link_at.ensures.marks in
    let kept = rw c.deref_mut-in-loop-v.ensures.value at c.link_at.ensures.kept in
    let count : length after ≡ length marks = c.link_at.ensures.count ∙ ap length c.deref_mut-in-loop-v.ensures.value in
    rw (with_items_is c.loop-v.marks after (omega (arith, count))) (record {
      linked = linked;
      owners = λ p q p_below q_below shared below. elim (cases_eq (side_at sides p).high v) [
        | inl at ↦ owners p q p_below q_below shared at
        | inr other ↦ c.link_at.ensures.more (side_at sides p)
            (c.loop-v.invariant.owners p q p_below q_below shared (omega (arith, below)))
      ];
      count = count ∙ c.loop-v.invariant.count;
      in_list = in_list;
      lasts = λ i from below. rw (kept i (omega (arith, from))) (c.loop-v.invariant.lasts i (omega (arith, from)) (omega (arith, count, below)));
    })

pub returns-clause-rows : goal.returns-clause-rows
returns-clause-rows c =
    let tris = c.args.tris.now in
    let sides = sides_of tris c.in_ok-befores.befores.items in
    let are : AreListedSides tris (length tris + 2) sides = are_listed tris (length tris + 2) c.requires.corners c.in_ok-befores.befores.items c.in_ok-befores.ensures.number in
    let last : c.loop-v.v ≡ length tris + 2 =
    omega (arith, c.loop-v-test.false, c.loop-v.auto.v-end, c.len-v-end.ensures, c.in_ok-marks.ensures.len) in
    let owners : HaveOwners sides (length tris + 2) c.loop-v.rows.items = rw (← last) c.loop-v.invariant.owners in
    rows_right tris c.requires.once (length tris + 2) sides are (length-sides tris c.in_ok-befores.befores.items ∙ c.in_ok-befores.ensures.number) c.loop-v.rows.items c.loop-v.invariant.linked owners
