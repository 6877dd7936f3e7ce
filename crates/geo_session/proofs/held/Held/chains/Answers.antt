use Rattle.std.proofs.Common.{◌≡◌, ◌+◌, ◌*◌, ◌-◌, ◌<◌, ◌≤◌, ap, arith, drop, length, map, refl, subst, sym, take, ℕ, slice_index}
use Rattle.std.proofs.lemmas.List.{get_or_read, map-append}
use Rattle.plane.specs.Point.{whole}
use Rattle.plane.specs.declared.limits.TheConstants.{MAX_CORNERS}
use Rattle.rings.specs.Chain.{point_at}
use Rattle.rings.specs.Ring.{origin}
use Rattle.rings.specs.Simple.{IsSimple}
use Rattle.meshes.specs.Fits.{IsInTri}
use Rattle.meshes.specs.Side.{tri_at}
use Rattle.rel_hull.proofs.Costs.{one_more, within_rounds}
use Rattle.shared_walks.specs.Several.{ArePathsFrom}
use Rattle.geo_session.proofs.HullRows.{end_held, ends_held, rest_of, row_cost, row_more}
use Rattle.geo_session.proofs.HullTable.{number_in_list, table_of_ring}
use Rattle.geo_session.proofs.held.Held.chains.Goals as goal

pub at_places-requires : goal.at_places-requires
at_places-requires g c = λ k below. let number = number_in_list c.args.points.now c.args.numbers.now c.requires.firsts k below in omega (arith, number, c.requires.held.one_each)

pub at_places-requires-2 : goal.at_places-requires-2
at_places-requires-2 g c = number_in_list c.args.points.now c.args.numbers.now c.requires.firsts

pub paths_from-requires-clause-home : goal.paths_from-requires-clause-home
paths_from-requires-clause-home g c =
    let homes = c.in_ok-homes.homes.items in
    let count = c.in_ok-homes.ensures.count in
    let home = get_or_read homes c.loop-r.r c.index.result.now (omega (arith, count, c.loop-r-test.true)) c.index.ensures 0 in
    let held = rw (← c.self.view_is) at c.requires.held in
    subst (λ k. k < length c.self.inside.mesh) (sym home)
    (end_held _ _ _ _ _ _ _ c.requires.firsts held (c.in_ok-homes.ensures.items 0) (c.in_ok-ends.ensures.items origin) c.loop-r.r c.loop-r-test.true).in_list

pub paths_from-requires-clause-start : goal.paths_from-requires-clause-start
paths_from-requires-clause-start g c =
    let homes = c.in_ok-homes.homes.items in
    let ends = c.in_ok-ends.ends.items in
    let count = c.in_ok-homes.ensures.count in
    let home = get_or_read homes c.loop-r.r c.index.result.now (omega (arith, count, c.loop-r-test.true)) c.index.ensures 0 in
    let count_ends = c.in_ok-ends.ensures.count in
    let end = get_or_read ends c.loop-r.r c.index-in-loop-r.result.now (omega (arith, count_ends, c.loop-r-test.true)) c.index-in-loop-r.ensures origin in
    let held = rw (← c.self.view_is) at c.requires.held in
    subst (λ k. IsInTri c.self.inside.ring.corners (tri_at c.self.inside.mesh k) (whole c.index-in-loop-r.result.now)) (sym home)
    (subst (λ p. IsInTri c.self.inside.ring.corners (tri_at c.self.inside.mesh (slice_index homes c.loop-r.r)) (whole p)) (sym end)
    (end_held _ _ _ _ _ _ _ c.requires.firsts held (c.in_ok-homes.ensures.items 0) (c.in_ok-ends.ensures.items origin) c.loop-r.r c.loop-r-test.true).holds)

pub paths_from-requires-clause-held : goal.paths_from-requires-clause-held
paths_from-requires-clause-held g c =
    let held = rw (← c.self.view_is) at c.requires.held in
    rw (c.deref.ensures.value, c.deref-in-loop-r.ensures.value, rest_of c.in_ok-homes.homes.items c.loop-r.r, rest_of c.in_ok-ends.ends.items c.loop-r.r)
    (ends_held _ _ _ _ _ _ _ c.requires.firsts held (c.in_ok-homes.ensures.items 0) (c.in_ok-ends.ensures.items origin) c.loop-r.r)

pub loop-r-preserved : goal.loop-r-preserved
loop-r-preserved g c =
    let inv = c.loop-r.invariant in
    let ring = c.args.self.now.ring.corners in
    let numbers = c.args.numbers.now in
    let r = c.loop-r.r in
    let ends = c.in_ok-ends.ends.items in
    let paths = map (λ chain. chain.items) c.in_ok-paths.paths.items in
    let count_ends = c.in_ok-ends.ensures.count in
    let end = get_or_read ends r c.index-in-loop-r.result.now (omega (arith, count_ends, c.loop-r-test.true)) c.index-in-loop-r.ensures origin in
    let some : 3 ≤ length ring = rw (← c.self.view_is) c.len-ring_is_simple.ensures.size.0 in
    let short : length ring ≤ MAX_CORNERS = rw (← c.self.view_is) c.len-ring_is_simple.ensures.size.1 in
    let simple : IsSimple ring = rw (← c.self.view_is) c.len-ring_is_simple.ensures.simple in
    let found : ArePathsFrom ring c.index-in-loop-r.result.now (take (length c.deref-in-loop-r.result.now - r) (drop r c.deref-in-loop-r.result.now)) paths =
    rw (← c.self.view_is) c.in_ok-paths.ensures.paths in
    let here = rw (c.deref-in-loop-r.ensures.value) at found in
    let from_end : ArePathsFrom ring (point_at ends r) (drop r ends) paths =
    subst (λ l. ArePathsFrom ring (point_at ends r) l paths) (rest_of ends r)
    (subst (λ p. ArePathsFrom ring p (take (length ends - r) (drop r ends)) paths) end here) in
    let paid = row_cost ends r (length numbers) (4 * length ring) c.loop-r.steps c.paths_from.new.steps count_ends
    (rw (← c.self.view_is, ← c.deref-in-loop-r.ensures.value) c.paths_from.ensures.steps) in
    record {
      are = rw (c.in_ok-append.ensures.items, map-append (λ chain. chain.items) c.put_back.new.chains.items c.in_ok-paths.paths.items)
          (row_more ring c.args.points.now numbers some simple short r c.loop-r-test.true _ _ paths inv.are c.in_ok-put_back.ensures.turned ends
          (c.in_ok-ends.ensures.items origin) from_end);
      room = omega (arith, inv.room, c.put_back.ensures.same_room, c.append.ensures.capacity);
      steps = one_more _ _ _ r _ inv.steps paid;
    }

pub of-requires : goal.of-requires
of-requires g c =
    let numbers = c.args.numbers.now in
    let end : c.loop-r.r * length numbers ≡ length numbers * length numbers =
    let last : c.loop-r.r ≡ length numbers = omega (arith, c.loop-r.auto.r-end, c.loop-r-test.false) in ap (λ (r : ℕ). r * length numbers) last in
    table_of_ring c.args.points.now numbers c.requires.firsts c.self.inside.ring.corners _
    (record { count = refl; are = rw (end, ← c.self.view_is) at c.loop-r.invariant.are }) c.requires.some c.requires.few

pub returns-in_err-paths-clause-steps : goal.returns-in_err-paths-clause-steps
returns-in_err-paths-clause-steps g c =
    let ends = c.in_ok-ends.ends.items in
    let m = length c.args.numbers.now in
    let n = length c.args.self.now.ring.corners in
    let count_ends = c.in_ok-ends.ensures.count in
    let paid = row_cost ends c.loop-r.r m (4 * n) c.loop-r.steps c.paths_from.new.steps count_ends
    (rw (← c.self.view_is, ← c.deref-in-loop-r.ensures.value) c.paths_from.ensures.steps) in
    let all = within_rounds _ _ (c.loop-r.r + 1) m (m * (4 * n)) (one_more _ _ _ c.loop-r.r _ c.loop-r.invariant.steps paid) (omega (arith, c.loop-r-test.true)) in
    omega (arith, all)
