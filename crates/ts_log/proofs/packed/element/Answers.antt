use Rattle.std.proofs.Common.{◌+◌, ◌*◌, ◌/◌, ◌%◌, arith, length, rules, ◌∙◌}
use Rattle.std.proofs.lemmas.Nat.{mod_below}
use Rattle.ts_log.proofs.ElementLemmas.{place_of, first_word, second_word, element_within_word, element_across_words, Below_bytes}
use Rattle.ts_log.proofs.packed.element.Goals as goal

pub overflow_mul-at-2 : goal.overflow_mul-at-2
overflow_mul-at-2 c =
    let w = c.args.width in
    let i = c.args.i in
    let within = first_word w i (i / 64 * w + i % 64 * w / 64) (i % 64 * w % 64) (length c.args.words.now) (place_of w i) c.requires.positive c.requires.whole c.requires.inside in
    search (rules, within)

pub word_at-high-requires : goal.word_at-high-requires
word_at-high-requires c =
    let w = c.args.width in
    let i = c.args.i in
    first_word w i (i / 64 * w + i % 64 * w / 64) (i % 64 * w % 64) (length c.args.words.now) (place_of w i) c.requires.positive c.requires.whole c.requires.inside

pub overflow_add-at-else-end-le64 : goal.overflow_add-at-else-end-le64
overflow_add-at-else-end-le64 c =
    let w = c.args.width in
    let i = c.args.i in
    let within = second_word w i (i / 64 * w + i % 64 * w / 64) (i % 64 * w % 64) (length c.args.words.now) (place_of w i) (omega arith) c.requires.whole c.requires.inside in
    search (rules, within)

pub word_at-requires : goal.word_at-requires
word_at-requires c =
    let w = c.args.width in
    let i = c.args.i in
    second_word w i (i / 64 * w + i % 64 * w / 64) (i % 64 * w % 64) (length c.args.words.now) (place_of w i) (omega arith) c.requires.whole c.requires.inside

pub returns-then-end-le64 : goal.returns-then-end-le64
returns-then-end-le64 c =
    let w = c.args.width in
    let i = c.args.i in
    let j = i / 64 * w + i % 64 * w / 64 in
    let off = i % 64 * w % 64 in
    let within = first_word w i j off (length c.args.words.now) (place_of w i) c.requires.positive c.requires.whole c.requires.inside in
    c.low_bits.ensures ∙ element_within_word w i j off c.word_at-high.result c.args.words.now (Below_bytes c.args.words.now c.type_inv.words) (place_of w i) c.requires.inside within c.if-end-le64.true c.word_at-high.ensures

pub returns-else-end-le64 : goal.returns-else-end-le64
returns-else-end-le64 c =
    let w = c.args.width in
    let i = c.args.i in
    let j = i / 64 * w + i % 64 * w / 64 in
    let off = i % 64 * w % 64 in
    let within = second_word w i j off (length c.args.words.now) (place_of w i) (omega arith) c.requires.whole c.requires.inside in
    c.across.ensures ∙ element_across_words w i j off c.word_at-high.result c.word_at.result c.args.words.now (Below_bytes c.args.words.now c.type_inv.words) (place_of w i) c.requires.inside within (omega arith) c.requires.narrow (omega (arith, mod_below (i % 64 * w) 64)) c.word_at-high.ensures c.word_at.ensures
