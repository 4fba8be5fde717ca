use Rattle.std.proofs.Common.{ℕ, ◌≡◌, ◌≤◌, List, map, string_bytes, length, sym, subst, arith}
use Rattle.std.proofs.lemmas.List.{length-map}
use Rattle.std.specs.Prelude.{IfOk, IfErr, IfSome, IfNone}
use Rattle.ts_script.specs.Heads.{AreNoHead, HaveTerms, IsHead}
use Rattle.ts_script.proofs.HeadLemmas.{texts-front}
use Rattle.ts_script.proofs.first.head_of_words.Goals as goal

pub returns-clause-some : goal.returns-clause-some
returns-clause-some c =
    let words = map string_bytes c.args.words.now in
    let all : length c.args.words.now ≡ length words = sym (length-map c.args.words.now string_bytes) in
    let short : length words ≤ 6 = omega (arith, all, c.if-words-gt-MOST_WORDS.false) in
    let are = texts-front (length c.args.words.now) words c.text_at.result c.text_at-2.result c.text_at-3.result c.text_at-4.result c.text_at-5.result c.text_at-6.result all short
    c.text_at.ensures c.text_at-2.ensures c.text_at-3.ensures c.text_at-4.ensures c.text_at-5.ensures c.text_at-6.ensures in
    subst (λ (ws : List (List ℕ)). IfOk c.head_of.result (λ head. IfSome head (IsHead ws))) are c.head_of.ensures.some

pub returns-clause-none : goal.returns-clause-none
returns-clause-none c =
    let words = map string_bytes c.args.words.now in
    let all : length c.args.words.now ≡ length words = sym (length-map c.args.words.now string_bytes) in
    let short : length words ≤ 6 = omega (arith, all, c.if-words-gt-MOST_WORDS.false) in
    let are = texts-front (length c.args.words.now) words c.text_at.result c.text_at-2.result c.text_at-3.result c.text_at-4.result c.text_at-5.result c.text_at-6.result all short
    c.text_at.ensures c.text_at-2.ensures c.text_at-3.ensures c.text_at-4.ensures c.text_at-5.ensures c.text_at-6.ensures in
    subst (λ (ws : List (List ℕ)). IfOk c.head_of.result (λ head. IfNone head (AreNoHead ws))) are c.head_of.ensures.none

pub returns-clause-memory : goal.returns-clause-memory
returns-clause-memory c =
    let words = map string_bytes c.args.words.now in
    let all : length c.args.words.now ≡ length words = sym (length-map c.args.words.now string_bytes) in
    let short : length words ≤ 6 = omega (arith, all, c.if-words-gt-MOST_WORDS.false) in
    let are = texts-front (length c.args.words.now) words c.text_at.result c.text_at-2.result c.text_at-3.result c.text_at-4.result c.text_at-5.result c.text_at-6.result all short
    c.text_at.ensures c.text_at-2.ensures c.text_at-3.ensures c.text_at-4.ensures c.text_at-5.ensures c.text_at-6.ensures in
    subst (λ (ws : List (List ℕ)). IfErr c.head_of.result (λ _. HaveTerms ws)) are c.head_of.ensures.memory
