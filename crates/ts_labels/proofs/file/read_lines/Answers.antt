use Rattle.std.proofs.Common.{◌≡◌, Some, Ok, sym, ◌∙◌}
use Rattle.std.proofs.lemmas.Fmt.{parse-decimal}
use Rattle.ts_labels.specs.LabelFile.{layer_or_none}
use Rattle.ts_labels.proofs.FileLaws.{is_text, cut_none, cut_some, word_none, word_some, one_word, version_is}
use Rattle.ts_labels.proofs.file.read_lines.Goals as goal

pub returns-in_default-clause-read : goal.returns-in_default-clause-read
returns-in_default-clause-read c = λ label is e. absurd (c.in_default.ensures.cases.0 (is_text label c.args.bytes.now is e))

pub returns-in_err-digits-clause-read : goal.returns-in_err-digits-clause-read
returns-in_err-digits-clause-read c = λ label is e.
    absurd (cut_none label c.in-Ok.text.now c.split_once.result is (e ∙ sym c.in-Ok.ensures.cases.0) c.split_once.ensures.cases c.in_err-digits.was)

pub returns-in_err-word-clause-read : goal.returns-in_err-word-clause-read
returns-in_err-word-clause-read c = λ label is e.
    let cut = cut_some label c.in-Ok.text.now c.split_once.result c.in_ok-digits.digits c.in_ok-digits.rest is (e ∙ sym c.in-Ok.ensures.cases.0) c.split_once.ensures.cases c.in_ok-digits.was in
    absurd (word_none label c.in_ok-digits.rest.now c.strip_suffix.result cut.1 c.strip_suffix.ensures.cases c.in_err-word.was)

pub returns-in_default-parse-clause-read : goal.returns-in_default-parse-clause-read
returns-in_default-parse-clause-read c = λ label is e.
    let cut = cut_some label c.in-Ok.text.now c.split_once.result c.in_ok-digits.digits c.in_ok-digits.rest is (e ∙ sym c.in-Ok.ensures.cases.0) c.split_once.ensures.cases c.in_ok-digits.was in
    let parsed : c.parse.result ≡ Ok label.version = parse-decimal 64 label.version c.in_ok-digits.digits.now c.parse.result is.0 is.0 cut.0 c.parse.ensures.value.0 in
    absurd (c.in_default-parse.not-Ok label.version parsed)

pub returns-in_err-layer-clause-read : goal.returns-in_err-layer-clause-read
returns-in_err-layer-clause-read c = λ label is e.
    let cut = cut_some label c.in-Ok.text.now c.split_once.result c.in_ok-digits.digits c.in_ok-digits.rest is (e ∙ sym c.in-Ok.ensures.cases.0) c.split_once.ensures.cases c.in_ok-digits.was in
    let word : c.in_ok-word.word.now ≡ layer_or_none label.layer = word_some label c.in_ok-digits.rest.now c.strip_suffix.result c.in_ok-word.word cut.1 c.strip_suffix.ensures.cases c.in_ok-word.was in
    absurd (c.in_err-layer.ensures label.layer is.1 (sym word ∙ sym c.as_bytes.ensures.value))

pub returns-clause-read : goal.returns-clause-read
returns-clause-read c = λ label is e.
    let cut = cut_some label c.in-Ok.text.now c.split_once.result c.in_ok-digits.digits c.in_ok-digits.rest is (e ∙ sym c.in-Ok.ensures.cases.0) c.split_once.ensures.cases c.in_ok-digits.was in
    let word : c.in_ok-word.word.now ≡ layer_or_none label.layer = word_some label c.in_ok-digits.rest.now c.strip_suffix.result c.in_ok-word.word cut.1 c.strip_suffix.ensures.cases c.in_ok-word.was in
    let parsed : c.parse.result ≡ Ok label.version = parse-decimal 64 label.version c.in_ok-digits.digits.now c.parse.result is.0 is.0 cut.0 c.parse.ensures.value.0 in
    let version : c.in-Ok-parse.version ≡ label.version = version_is c.in-Ok-parse.version label.version c.parse.result c.in-Ok-parse.is parsed in
    let layer : c.in_ok-layer.layer ≡ label.layer = one_word c.in_ok-layer.layer label.layer c.in_ok-layer.ensures.0 is.1 (c.in_ok-layer.ensures.1 ∙ c.as_bytes.ensures.value ∙ word) in
    λ i. Some (record { version = version i; layer = layer i })
