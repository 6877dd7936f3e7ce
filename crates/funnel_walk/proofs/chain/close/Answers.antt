use Rattle.std.proofs.Common.{◌≡◌, sym, ap, ◌∙◌, ◌+◌, ◌-◌, ◌≤◌, ◌++◌, [], ◌∷◌, length, vec_capacity, arith}
use Rattle.std.proofs.lemmas.List.{append_assoc, length-append}
use Rattle.exact_plane.specs.Names.{name_at}
use Rattle.funnel_walk.proofs.PathNames.{right_more, room_for_two}
use Rattle.funnel_walk.proofs.chain.close.Goals as goal
use Rattle.funnel_walk.proofs.chain.close.Goals.{else-not-same, then-not-same}
use Rattle.funnel_walk.specs.Names.{right_names}

pub push_reserved-requires : goal.push_reserved-requires
push_reserved-requires g c =
    let inv = c.loop-i.invariant in
    let within : c.loop-i.i ≤ c.args.last = omega (arith, c.loop-i-test.true) in
    let room = room_for_two _ _ c.args.names.now.items c.args.apex c.loop-i.i c.args.last _ inv.given c.loop-i.auto.i within c.requires.room in
    omega (arith, room, inv.same_out, c.loop-i.out.ok.0)

pub loop-i-preserved : goal.loop-i-preserved
loop-i-preserved g c =
    let inv = c.loop-i.invariant in
    let names = c.args.names.now.items in
    let given = c.args.out.now.items in
    let apex = c.args.apex in
    let count = c.loop-i.i - apex in
    let place : c.loop-i.i ≡ apex + count = omega (arith, c.loop-i.auto.i) in
    let more : count + 1 ≡ c.loop-i.i + 1 - apex = omega (arith, c.loop-i.auto.i) in
    record {
      given = c.push_reserved.ensures.items
          ∙ ap (λ ns. ns ++ c.name_at.result ∷ []) inv.given
          ∙ append_assoc given (right_names names apex count) (c.name_at.result ∷ [])
          ∙ ap (λ n. given ++ (right_names names apex count ++ n ∷ [])) (c.name_at.ensures ∙ ap (name_at names) place)
          ∙ ap (λ ns. given ++ ns) (sym (right_more names apex count))
          ∙ ap (λ k. given ++ right_names names apex k) more;
      same_out = c.push_reserved.ensures.capacity ∙ inv.same_out;
    }

pub push_reserved-requires-then-not-same : goal.push_reserved-requires-then-not-same
push_reserved-requires-then-not-same g c =
    let inv = c.loop-i.invariant in
    let within : c.loop-i.i ≤ c.args.last = omega (arith, c.loop-i.auto.i-end, c.requires.apex) in
    let room = room_for_two _ _ c.args.names.now.items c.args.apex c.loop-i.i c.args.last _ inv.given c.loop-i.auto.i within c.requires.room in
    omega (arith, room, inv.same_out, c.loop-i.out.ok.0)

pub push_reserved-requires-2 : goal.push_reserved-requires-2
push_reserved-requires-2 g c =
    let inv = c.loop-i.invariant in
    let within : c.loop-i.i ≤ c.args.last = omega (arith, c.loop-i.auto.i-end, c.requires.apex) in
    let room = room_for_two _ _ c.args.names.now.items c.args.apex c.loop-i.i c.args.last _ inv.given c.loop-i.auto.i within c.requires.room in
    elim c.if-not-same.branch [
      | then-not-same w ↦
          let one_more = ap length w.push_reserved-then-not-same.ensures.items ∙ length-append c.loop-i.out.items _ in
          let same_room = ap (λ v. vec_capacity v) w.out-is ∙ w.push_reserved-then-not-same.ensures.capacity in
          let items = ap (λ v. length v.items) w.out-is in
          omega (arith, room, one_more, same_room, items, inv.same_out, c.if-not-same.out.ok.0)
      | else-not-same w ↦
          let same_room = ap (λ v. vec_capacity v) w.out-is in
          let items = ap (λ v. length v.items) w.out-is in
          omega (arith, room, same_room, items, inv.same_out, c.if-not-same.out.ok.0)
    ]
