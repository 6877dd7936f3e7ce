use Rattle.std.proofs.Common.{◌∙◌, ◌-◌, ◌≤◌, arith, length, subst}
use Rattle.std.proofs.lemmas.Bool.{leb-true}
use Rattle.std.proofs.lemmas.List.{get_or_read}
use Rattle.rings.specs.Ring.{origin}
use Rattle.rel_hull.proofs.OnSteps.{on_step_iff}
use Rattle.rel_hull.proofs.table.ChainTable.passes.Goals as goal
use Rattle.rel_hull.specs.Told.{KeepsChains}

pub overflow_sub-to : goal.overflow_sub-to
overflow_sub-to g c =
    let keeps = subst KeepsChains c.self.view_is c.self.invariant in
    rw c.chain-to.ensures.chain (keeps.long c.args.a c.args.s c.requires.first c.requires.third c.requires.apart)

pub returns-then-to-chain-clause-passes : goal.returns-then-to-chain-clause-passes
returns-then-to-chain-clause-passes g c =
    let table = c.args.self.now in
    let chain = c.chain-chain.result.now in
    let to = length c.chain-to.result.now in
    let keeps = subst KeepsChains c.self.view_is c.self.invariant in
    let steps = on_step_iff table keeps c.args.a c.args.b c.args.s c.requires.first c.requires.second c.requires.third c.requires.apart in
    let long : 2 ≤ to = rw c.chain-to.ensures.chain (keeps.long c.args.a c.args.s c.requires.first c.requires.third c.requires.apart) in
    let x = get_or_read c.chain.result.now 0 c.index-chain-0.result c.chain.ensures.some c.index-chain-0.is origin ∙ c.chain.ensures.begins in
    let p = get_or_read chain (to - 2) c.index-chain-to.result (omega (arith, long, c.if-to-chain.true)) c.index-chain-to.is origin in
    let q = get_or_read chain (to - 1) c.index-chain-to-then-to-chain.result (omega (arith, long, c.if-to-chain.true)) c.index-chain-to-then-to-chain.is origin in
    let told = rw (x, p, q) at c.on_segment.ensures.on in (
      λ e.
          steps.0
          (record {
            within = rw (← c.chain-to.ensures.chain, ← c.chain-chain.ensures.chain) (omega (arith, c.if-to-chain.true));
            on = rw (← c.chain-to.ensures.chain, ← c.chain-chain.ensures.chain) (told.0 e);
          }),
      λ on. told.1 (rw (← c.chain-to.ensures.chain, ← c.chain-chain.ensures.chain) at (steps.1 on).on),
    )

pub returns-else-to-chain-clause-passes : goal.returns-else-to-chain-clause-passes
returns-else-to-chain-clause-passes g c =
    let keeps = subst KeepsChains c.self.view_is c.self.invariant in
    let steps = on_step_iff c.args.self.now keeps c.args.a c.args.b c.args.s c.requires.first c.requires.second c.requires.third c.requires.apart in (
      λ e. let fits = leb-true _ _ e in absurd (omega (arith, fits, c.if-to-chain.false)),
      λ on.
          let within = rw (← c.chain-to.ensures.chain, ← c.chain-chain.ensures.chain) at (steps.1 on).within in
          absurd (omega (arith, within, c.if-to-chain.false)),
    )
