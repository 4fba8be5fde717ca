use Rattle.std.proofs.Common.{rules, ◌<◌, length, arith}
use Rattle.std.proofs.lemmas.List.{take_rest}
use Rattle.ts_log.specs.LogArray.{width_of}
use Rattle.ts_log.proofs.WidthLemmas.{width_pos, Below_width}
use Rattle.ts_log.proofs.ArrayLemmas.{elements_in-packed}
use Rattle.ts_log.proofs.SaysLemmas.{whole_of_says, one_list_said, width_fits, IsPacked-packed}
use Rattle.ts_log.proofs.view.LogView.of_checked.Goals as goal

pub word_at-count-requires : goal.word_at-count-requires
word_at-count-requires c =
    let long = (whole_of_says c.args.bytes.now c.requires.0 c.requires.1).long in
    omega arith

pub bounds-bytes-8 : goal.bounds-bytes-8
bounds-bytes-8 c =
    let long = (whole_of_says c.args.bytes.now c.requires.0 c.requires.1).long in
    let within : 8 < length c.args.bytes.now = omega arith in
    search (rules, within)

pub slice_bounds-words-count : goal.slice_bounds-words-count
slice_bounds-words-count c = (whole_of_says c.args.bytes.now c.requires.0 c.requires.1).long

pub slice_bounds-words-start : goal.slice_bounds-words-start
slice_bounds-words-start c =
    let long = (whole_of_says c.args.bytes.now c.requires.0 c.requires.1).long in
    search (rules, long)

pub invariant_of-result : goal.invariant_of-result
invariant_of-result c =
    let bytes = c.args.bytes.now in
    let xs = c.requires.0 in
    let whole = whole_of_says bytes xs c.requires.1 in
    rw (take_rest bytes 16, whole.words, whole.width, c.word_at-count.ensures, whole.count)
    (IsPacked-packed (width_of xs) xs (width_pos xs) (width_fits xs c.requires.1.fits))

pub returns-clause-says : goal.returns-clause-says
returns-clause-says c =
    let bytes = c.args.bytes.now in
    let xs = c.requires.0 in
    let whole = whole_of_says bytes xs c.requires.1 in
    rw (take_rest bytes 16, whole.words, whole.width, c.word_at-count.ensures, whole.count, elements_in-packed (width_of xs) xs (Below_width xs)) c.requires.1

pub returns-clause-only : goal.returns-clause-only
returns-clause-only c = λ others says.
    let bytes = c.args.bytes.now in
    let xs = c.requires.0 in
    let whole = whole_of_says bytes xs c.requires.1 in
    rw (take_rest bytes 16, whole.words, whole.width, c.word_at-count.ensures, whole.count, elements_in-packed (width_of xs) xs (Below_width xs))
    (one_list_said bytes others xs says c.requires.1)
