use Rattle.std.proofs.Common.{◌≡◌, ◌*◌, ◌/◌, ◌^◌, inl, inr, arith, sym, ◌∙◌}
use Rattle.ts_log.proofs.ElementLemmas.{Below_bytes}
use Rattle.ts_log.proofs.ControlLemmas.{ControlWords, control_words, control_from_words}
use Rattle.ts_log.proofs.control.read_control.Goals as goal

pub returns-then-bytes-lt-CONTROL-clause-none : goal.returns-then-bytes-lt-CONTROL-clause-none
returns-then-bytes-lt-CONTROL-clause-none c = λ w n p q h e. omega (arith, (control_words w n c.args.bytes.now h e).long)

pub returns-then-rest-ne0-clause-none : goal.returns-then-rest-ne0-clause-none
returns-then-rest-ne0-clause-none c = λ w n p q h e.
    let rest : c.word_at-rest.result ≡ w * 2 ^ 56 = c.word_at-rest.ensures ∙ (control_words w n c.args.bytes.now h e).second in
    elim c.then-rest-ne0.either [
      | inl some ↦ some (omega arith)
      | inr other ↦ elim other [ inl none ↦ omega arith | inr wide ↦ omega arith ]
    ]

pub returns-clause-some : goal.returns-clause-some
returns-clause-some c =
    let n = c.word_at-count.result in
    let w = c.word_at-rest.result / 2 ^ 56 in
    let whole : c.word_at-rest.result ≡ w * 2 ^ 56 = omega arith in
    let words : ControlWords w n c.args.bytes.now = record {
      long = omega arith;
      first = sym c.word_at-count.ensures;
      second = sym c.word_at-rest.ensures ∙ whole;
    } in (
      words.long,
      omega arith,
      omega arith,
      omega arith,
      control_from_words w n c.args.bytes.now (Below_bytes c.args.bytes.now c.type_inv.bytes) (omega arith) (omega arith) words,
    )
