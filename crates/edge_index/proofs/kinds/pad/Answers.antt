use Rattle.std.proofs.Common.{◌≡◌, ◌-◌, ◌<◌, ◌∙◌, [], ◌∷◌, subst, sym, arith, length}
use Rattle.std.proofs.lemmas.List.Elements.{All-push, Contains-append_left}
use Rattle.edge_index.proofs.kinds.pad.Goals as goal

pub loop-preserved : goal.loop-preserved
loop-preserved c =
    let last = c.index-last.result.now in
    let count : c.len-count.result ≡ length c.args.edges.now.items = c.len-count.ensures ∙ c.args.edges.now.ok.0 in
    let within : c.len-count.result - 1 < length c.args.edges.now.items = omega (arith, count, c.if-count-eq0.false) in
    let before = c.loop.edges.items in
    rw c.in_ok-push.ensures.items (record {
      range = λ n all. All-push (λ e. e < n) before last (c.loop.invariant.range n all) (subst (λ e. e < n) (sym c.index-last.ensures) (all _ last within));
      old = λ e had. Contains-append_left before (last ∷ []) e (c.loop.invariant.old e had);
    })
