use Rattle.std.proofs.Common.{◌≡◌, ◌++◌, ◌-◌, ◌<◌, ◌≤◌, ◌∷◌, [], IsTrue, false, length, take, refl, sym, ◌∙◌, ap, subst, arith}
use Rattle.std.proofs.lemmas.Bool.{false≢true}
use Rattle.std.proofs.lemmas.Iterator.Consumers.{YieldsList-from_first, YieldsList-turn, YieldsList-end}
use Rattle.std.proofs.lemmas.List.{length-take, length_push}
use Rattle.ts_front.specs.declared.piece.Piece.{Piece}
use Rattle.ts_front.specs.Pieces.{pieces_of}
use Rattle.ts_front.specs.Shared.{text_at}
use Rattle.ts_front.proofs.IterLemmas.{length-pieces_of}
use Rattle.ts_model.specs.Limits.{term_limit}
use Rattle.ts_part.proofs.TermLemmas.{IsTermOf, all_terms, err_since, made_text, not_all, one_term, piece_turn, too_long}
use Rattle.ts_part.proofs.terms.are_terms.Goals as goal

pub returns-then-piece-len-clause-terms : goal.returns-then-piece-len-clause-terms
returns-then-piece-len-clause-terms c =
    let kind = c.args.kind in
    let texts = c.args.texts.now in
    let old = c.loop-piece.text.items in
    let piece = c.in-Some.piece in
    let road = YieldsList-from_first (λ (p : Piece). (p.shared, p.suffix.now)) (λ pieces. pieces) (pieces_of c.args.texts.now) cc in
    let turn = YieldsList-turn road c.loop-piece.yielded _ c.loop-piece.yielded_by _ _ c.in-Some.piece c.in-Some.is c.next.ensures.steps in
    let is = piece_turn texts (length c.loop-piece.yielded) piece.shared piece.suffix.now _ turn in
    let made = made_text kind texts (length c.loop-piece.yielded) piece.shared piece.suffix.now old c.loop-piece.invariant is in
    let low : length (take piece.shared old) ≤ term_limit = omega (arith, length-take piece.shared old, c.loop-piece.invariant.short) in
    let high : term_limit - length (take piece.shared old) < length piece.suffix.now =
    omega (arith, c.if-piece-len.true, c.len.ensures, c.truncate.new.self.ok.0, ap length c.truncate.ensures.items) in
    let none = too_long kind (take piece.shared old) piece.suffix.now (take piece.shared old ++ piece.suffix.now) refl low high in (
      λ e. absurd (false≢true e),
      λ all. absurd (not_all kind texts (length c.loop-piece.yielded) (take piece.shared old ++ piece.suffix.now) is.low made none all),
    )

pub returns-then-not-is_canonical-clause-terms : goal.returns-then-not-is_canonical-clause-terms
returns-then-not-is_canonical-clause-terms c =
    let kind = c.args.kind in
    let texts = c.args.texts.now in
    let old = c.loop-piece.text.items in
    let piece = c.in-Some.piece in
    let road = YieldsList-from_first (λ (p : Piece). (p.shared, p.suffix.now)) (λ pieces. pieces) (pieces_of c.args.texts.now) cc in
    let turn = YieldsList-turn road c.loop-piece.yielded _ c.loop-piece.yielded_by _ _ c.in-Some.piece c.in-Some.is c.next.ensures.steps in
    let is = piece_turn texts (length c.loop-piece.yielded) piece.shared piece.suffix.now _ turn in
    let made = made_text kind texts (length c.loop-piece.yielded) piece.shared piece.suffix.now old c.loop-piece.invariant is in
    let text_is : c.extend_from_slice.new.self.items ≡ text_at texts (length c.loop-piece.yielded) =
    c.in_ok-extend_from_slice.ensures.items ∙ ap (λ start. start ++ piece.suffix.now) c.truncate.ensures.items ∙ made in
    let none = λ (term : IsTermOf c.args.kind c.extend_from_slice.new.self.items).
    (let found : IsTrue c.is_canonical.result = c.is_canonical.ensures.1 (subst (IsTermOf c.args.kind) (sym c.deref.ensures.value) term) in
    let wrong : IsTrue false = cc in false≢true wrong) in (
      λ e. absurd (false≢true e),
      λ all. absurd (not_all kind texts (length c.loop-piece.yielded) c.extend_from_slice.new.self.items is.low text_is none all),
    )

pub loop-piece-preserved : goal.loop-piece-preserved
loop-piece-preserved c =
    let kind = c.args.kind in
    let texts = c.args.texts.now in
    let old = c.loop-piece.text.items in
    let piece = c.in-Some.piece in
    let road = YieldsList-from_first (λ (p : Piece). (p.shared, p.suffix.now)) (λ pieces. pieces) (pieces_of c.args.texts.now) cc in
    let turn = YieldsList-turn road c.loop-piece.yielded _ c.loop-piece.yielded_by _ _ c.in-Some.piece c.in-Some.is c.next.ensures.steps in
    let is = piece_turn texts (length c.loop-piece.yielded) piece.shared piece.suffix.now _ turn in
    let made = made_text kind texts (length c.loop-piece.yielded) piece.shared piece.suffix.now old c.loop-piece.invariant is in
    let text_is : c.extend_from_slice.new.self.items ≡ text_at texts (length c.loop-piece.yielded) =
    c.in_ok-extend_from_slice.ensures.items ∙ ap (λ start. start ++ piece.suffix.now) c.truncate.ensures.items ∙ made in
    let term : IsTermOf c.args.kind c.extend_from_slice.new.self.items =
    subst (IsTermOf c.args.kind) c.deref.ensures.value (c.is_canonical.ensures.0 c.if-not-is_canonical.false) in
    one_term kind texts (length c.loop-piece.yielded) (length (c.loop-piece.yielded ++ c.in-Some.piece ∷ [])) old c.extend_from_slice.new.self.items
    c.loop-piece.invariant text_is term (length_push c.loop-piece.yielded c.in-Some.piece)

pub returns-clause-terms : goal.returns-clause-terms
returns-clause-terms c =
    let road = YieldsList-from_first (λ (p : Piece). (p.shared, p.suffix.now)) (λ pieces. pieces) (pieces_of c.args.texts.now) cc in
    let end = YieldsList-end road c.loop-piece.yielded _ c.loop-piece.yielded_by _ _ c.in-None.is c.next.ensures.steps in (
      λ _. all_terms c.args.kind c.args.texts.now (length c.loop-piece.yielded) c.loop-piece.text.items c.loop-piece.invariant
          (omega (arith, end.1, length-pieces_of c.args.texts.now)),
      λ _. refl,
    )

pub returns-in_err-extend_from_slice-clause-memory : goal.returns-in_err-extend_from_slice-clause-memory
returns-in_err-extend_from_slice-clause-memory c =
    let road = YieldsList-from_first (λ (p : Piece). (p.shared, p.suffix.now)) (λ pieces. pieces) (pieces_of c.args.texts.now) cc in
    let turn = YieldsList-turn road c.loop-piece.yielded _ c.loop-piece.yielded_by _ _ c.in-Some.piece c.in-Some.is c.next.ensures.steps in
    let is = piece_turn c.args.texts.now (length c.loop-piece.yielded) c.in-Some.piece.shared c.in-Some.piece.suffix.now _ turn in
    err_since c.from_residual.result (omega (arith, is.low))
