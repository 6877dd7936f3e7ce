use Rattle.std.proofs.Common.{◌≡◌, refl, arith}
use Rattle.std.proofs.lemmas.List.{get_or_read}
use Rattle.tri_mesh.proofs.SearchSteps.{done_of_sides, grown_twice, read_owner, stays_reached}
use Rattle.tri_mesh.proofs.search.Search.expand.Goals as goal
use Rattle.tri_mesh.specs.Outward.{outward_at}

pub reach-requires-clause-owner : goal.reach-requires-clause-owner
reach-requires-clause-owner c =
    read_owner c.args.tris.now c.args.rows.now c.args.self.now.order.items c.args.self.now.places.items c.requires.keeps c.requires.search
    c.args.place c.requires.place c.index.result.now c.index.ensures 0 (omega arith)

pub reach-requires-2-clause-owner : goal.reach-requires-2-clause-owner
reach-requires-2-clause-owner c =
    read_owner c.args.tris.now c.args.rows.now c.args.self.now.order.items c.args.self.now.places.items c.requires.keeps c.requires.search
    c.args.place c.requires.place c.index.result.now c.index.ensures 1 (omega arith)

pub reach-requires-3-clause-owner : goal.reach-requires-3-clause-owner
reach-requires-3-clause-owner c =
    read_owner c.args.tris.now c.args.rows.now c.args.self.now.order.items c.args.self.now.places.items c.requires.keeps c.requires.search
    c.args.place c.requires.place c.index.result.now c.index.ensures 2 (omega arith)

pub returns-clause-done : goal.returns-clause-done
returns-clause-done c =
    let tris = c.args.tris.now in
    let order = c.args.self.now.order.items in
    let order_1 = c.reach.new.self.order.items in
    let order_2 = c.reach-2.new.self.order.items in
    let order_3 = c.reach-3.new.self.order.items in
    let is : c.index.result.now ≡ outward_at order c.args.place =
    get_or_read order c.args.place c.index.result.now c.requires.place c.index.ensures (record { tri = 0; toward = 0; side = 0 }) in
    let k = (outward_at order c.args.place).tri in
    let first = c.reach.ensures in
    let second = c.reach-2.ensures in
    let third = c.reach-3.ensures in
    let grown = grown_twice order_1 order_2 order_3 second.grown third.grown in
    done_of_sides tris order_3 k c.requires.keeps.sides (c.requires.search.in_list c.args.place c.requires.place)
    (stays_reached order order_3 (grown_twice order order_1 order_3 first.grown grown) k (c.args.place, c.requires.place, refl))
    (λ l below has. stays_reached order_1 order_3 grown l ((rw is at first.done) l below has))
    (λ l below has. stays_reached order_2 order_3 third.grown l ((rw is at second.done) l below has))
    (rw is at third.done)
