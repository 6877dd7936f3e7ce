use Rattle.std.proofs.Common.{◌≡◌, not, false, rules}
use Rattle.std.proofs.lemmas.Bool.{or_parts}
use Rattle.geo_session.specs.State.{first_state}
use Rattle.geo_script.proofs.Pieces.{all_answered, begins, first_output, goes_on, has_byte, still_sound}
use Rattle.geo_script.proofs.Together.{talk_together}
use Rattle.geo_script.proofs.dialog.Dialog.answer.Goals as goal

pub records-init : goal.records-init
records-init g c =
    begins c.args.self.now c.args.piece.now _ _ _ _ _ (search rules) (search rules) (search rules) (search rules) (search rules)

pub records-preserved : goal.records-preserved
records-preserved g c =
    goes_on c.args.self.now c.args.piece.now _ _ _ _ _ c.records.invariant _ _ _ (c.in_ok-answer_next.ensures.answered cc)

pub invariant_of-self : goal.invariant_of-self
invariant_of-self g c =
    let sound : (c.args.self.now.begun ≡ false → c.args.self.now.known ≡ false) × (c.args.self.now.known ≡ false → c.args.self.now.state ≡ first_state) = rw (← c.self.view_is) c.self.invariant in
    still_sound c.args.self.now c.args.piece.now _ _ _ _ _ c.records.invariant sound c.answer_next.new.session.state c.records.self-inside.begun (search rules) (λ e. e)

pub invariant_of-self-2 : goal.invariant_of-self-2
invariant_of-self-2 g c =
    let sound : (c.args.self.now.begun ≡ false → c.args.self.now.known ≡ false) × (c.args.self.now.known ≡ false → c.args.self.now.state ≡ first_state) = rw (← c.self.view_is) c.self.invariant in
    still_sound c.args.self.now c.args.piece.now _ _ _ _ _ c.records.invariant sound c.answer_next.new.session.state _ (search rules) (λ e. (or_parts c.records.self-inside.begun (not c.is_empty.result) e).0)

pub returns-clause-ok : goal.returns-clause-ok
returns-clause-ok g c =
    all_answered c.args.self.now c.args.piece.now _ _ _ _ _ c.records.invariant (search rules) c.answer_next.new.session.state c.answer_next.new.out.items _ (search rules) (search rules)
    (has_byte c.args.piece.now c.records.self-inside.begun c.is_empty.result c.is_empty.ensures)

pub returns-clause-together : goal.returns-clause-together
returns-clause-together g c =
    let answered =
    all_answered c.args.self.now c.args.piece.now _ _ _ _ _ c.records.invariant (search rules) c.answer_next.new.session.state c.answer_next.new.out.items _ (search rules) (search rules)
    (has_byte c.args.piece.now c.records.self-inside.begun c.is_empty.result c.is_empty.ensures)
    in
    λ earlier text talk whole. talk_together earlier text c.args.piece.now c.args.self.now _ talk whole answered

pub returns-clause-whole : goal.returns-clause-whole
returns-clause-whole g c =
    let sound : (c.args.self.now.begun ≡ false → c.args.self.now.known ≡ false) × (c.args.self.now.known ≡ false → c.args.self.now.state ≡ first_state) = rw (← c.self.view_is) c.self.invariant in
    let answered =
    all_answered c.args.self.now c.args.piece.now _ _ _ _ _ c.records.invariant (search rules) c.answer_next.new.session.state c.answer_next.new.out.items _ (search rules) (search rules)
    (has_byte c.args.piece.now c.records.self-inside.begun c.is_empty.result c.is_empty.ensures)
    in
    first_output c.args.self.now _ c.args.piece.now sound answered
