use Rattle.std.proofs.Common.{◌≡◌, ◌∙◌, ◌+◌, ◌*◌, ◌<◌, ℕ, [], Vec, Global, ap, sym, subst, get_or, length, map, reverse}
use Rattle.plane.specs.Point.{Point}
use Rattle.std.proofs.lemmas.List.{get_or-map, length-map, map_push}
use Rattle.geo_session.proofs.HullRows.{turned_more, turned_place}
use Rattle.geo_session.proofs.span.put_back.Goals as goal

pub loop-c-preserved : goal.loop-c-preserved
loop-c-preserved c =
    let inv = c.loop-c.invariant in
    let old = map (λ chain. chain.items) c.args.chains.now.items in
    let after = map (λ chain. chain.items) c.loop-c.chains.items in
    let below = λ (h : c.loop-c.c * c.args.m + c.args.r < length after). subst (λ (n : ℕ). c.loop-c.c * c.args.m + c.args.r < n) (length-map c.loop-c.chains.items (λ chain. chain.items)) h in
    let is : c.in_ok-back.back.items ≡ reverse (get_or after (c.loop-c.c * c.args.m + c.args.r) []) =
    c.in_ok-back.ensures ∙ ap reverse (c.deref.ensures.value
    ∙ ap (λ (v : Vec Point Global). v.items) c.index.ensures ∙ sym (get_or-map (λ chain. chain.items) c.loop-c.chains.items (c.loop-c.c * c.args.m + c.args.r) c.index.result.now [] (below (turned_place c.args.m c.args.r c.loop-c.c old after
    inv.turned (length-map c.args.chains.now.items (λ chain. chain.items) ∙ c.requires.rows) c.requires.row c.loop-c-test.true)))) in
    record {
      turned = rw (c.push_reserved.ensures.items, map_push (λ chain. chain.items) c.loop-c.chains.items c.in_ok-back.back)
          (turned_more c.args.m c.args.r c.loop-c.c old after inv.turned (length-map c.args.chains.now.items (λ chain. chain.items) ∙ c.requires.rows) c.requires.row
          c.loop-c-test.true _ is);
      same_room = c.push_reserved.ensures.capacity ∙ inv.same_room;
    }
