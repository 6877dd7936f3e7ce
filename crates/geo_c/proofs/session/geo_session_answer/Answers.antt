use Rattle.std.proofs.Common.{◌≡◌, ◌∙◌, ap, arith, refl, sym}
use Rattle.geo_c.specs.Held.{talk_of}
use Rattle.geo_c.specs.declared.status.TheConstants.{MEMORY, OK}
use Rattle.geo_c.proofs.Together.{Together, same_talks}
use Rattle.geo_c.proofs.session.geo_session_answer.Goals as goal
use Rattle.geo_c.proofs.session.geo_session_answer.Goals.{in-Ok, in-Err-Memory}

pub returns-clause-together : goal.returns-clause-together
returns-clause-together c ended =
    elim c.match-answer.branch [
      | in-Ok w ↦
          let told : Together (talk_of c.args.session.now.held) c.args.piece.now (talk_of c.answer.new.self.held) = rw w.in-Ok.is at c.answer.ensures.together in
          same_talks _ _ c.args.piece.now _ _ refl (ap talk_of c.text_length.ensures.same) told
      | in-Err-Memory w ↦
          let same : OK ≡ MEMORY = sym ended ∙ w.status-is in
          absurd (omega (arith, same))
    ]
