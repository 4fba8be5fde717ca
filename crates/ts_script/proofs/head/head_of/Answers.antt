use Rattle.std.proofs.Common.{inl, inr, [], ◌∷◌, codes, refl, rules}
use Rattle.std.proofs.lemmas.Result.{IfOk-weaker, IfErr-weaker}
use Rattle.ts_script.specs.Heads.{base, commit, list, has, added, removed, layers, squash, labels, label_new, label_get, label_set, count, open_cursor, fetch, close}
use Rattle.ts_script.proofs.HeadLemmas.{is_head, none-behind, some-behind, one_word, two_words, three_words, three_words_of, five_words, five_words_of, six_words, no_form, list-some, list-none, fitting-some, fitting-none, open-some, open-none}
use Rattle.ts_script.proofs.head.head_of.Goals as goal

pub returns-in-commit-clause-none : goal.returns-in-commit-clause-none
returns-in-commit-clause-none c =
    none-behind _ commit _ c.commit.result (two_words c.args.words.now (record { ref_ptr = (0, 0); now = [] }) (codes "commit") c.in-commit.len_at_least c.in-commit.len_below c.in-commit.is-commit) c.commit.ensures.none

pub returns-in-commit-clause-some : goal.returns-in-commit-clause-some
returns-in-commit-clause-some c =
    some-behind _ commit _ c.commit.result (two_words c.args.words.now (record { ref_ptr = (0, 0); now = [] }) (codes "commit") c.in-commit.len_at_least c.in-commit.len_below c.in-commit.is-commit) c.commit.ensures.some

pub returns-in-list-clause-none : goal.returns-in-list-clause-none
returns-in-list-clause-none c =
    none-behind _ list _ c.listing.result (two_words c.args.words.now (record { ref_ptr = (0, 0); now = [] }) (codes "list") c.in-list.len_at_least c.in-list.len_below c.in-list.is-list) (list-none _ c.listing.result c.listing.ensures.none)

pub returns-in-list-clause-some : goal.returns-in-list-clause-some
returns-in-list-clause-some c =
    some-behind _ list _ c.listing.result (two_words c.args.words.now (record { ref_ptr = (0, 0); now = [] }) (codes "list") c.in-list.len_at_least c.in-list.len_below c.in-list.is-list) (list-some _ c.listing.result c.listing.ensures.some)

pub returns-in-added-clause-none : goal.returns-in-added-clause-none
returns-in-added-clause-none c =
    none-behind _ added _ c.added.result (two_words c.args.words.now (record { ref_ptr = (0, 0); now = [] }) (codes "added") c.in-added.len_at_least c.in-added.len_below c.in-added.is-added) c.added.ensures.none

pub returns-in-added-clause-some : goal.returns-in-added-clause-some
returns-in-added-clause-some c =
    some-behind _ added _ c.added.result (two_words c.args.words.now (record { ref_ptr = (0, 0); now = [] }) (codes "added") c.in-added.len_at_least c.in-added.len_below c.in-added.is-added) c.added.ensures.some

pub returns-in-removed-clause-none : goal.returns-in-removed-clause-none
returns-in-removed-clause-none c =
    none-behind _ removed _ c.removed.result (two_words c.args.words.now (record { ref_ptr = (0, 0); now = [] }) (codes "removed") c.in-removed.len_at_least c.in-removed.len_below c.in-removed.is-removed) c.removed.ensures.none

pub returns-in-removed-clause-some : goal.returns-in-removed-clause-some
returns-in-removed-clause-some c =
    some-behind _ removed _ c.removed.result (two_words c.args.words.now (record { ref_ptr = (0, 0); now = [] }) (codes "removed") c.in-removed.len_at_least c.in-removed.len_below c.in-removed.is-removed) c.removed.ensures.some

pub returns-in-squash-clause-none : goal.returns-in-squash-clause-none
returns-in-squash-clause-none c =
    none-behind _ squash _ c.squash.result (two_words c.args.words.now (record { ref_ptr = (0, 0); now = [] }) (codes "squash") c.in-squash.len_at_least c.in-squash.len_below c.in-squash.is-squash) c.squash.ensures.none

pub returns-in-squash-clause-some : goal.returns-in-squash-clause-some
returns-in-squash-clause-some c =
    some-behind _ squash _ c.squash.result (two_words c.args.words.now (record { ref_ptr = (0, 0); now = [] }) (codes "squash") c.in-squash.len_at_least c.in-squash.len_below c.in-squash.is-squash) c.squash.ensures.some

pub returns-in-has-clause-none : goal.returns-in-has-clause-none
returns-in-has-clause-none c =
    let are = five_words c.args.words.now (record { ref_ptr = (0, 0); now = [] }) (codes "has") c.in-has.len_at_least c.in-has.len_below c.in-has.is-has in
    IfOk-weaker c.has.result _ _ (λ head none. none-behind _ has _ head are none) c.has.ensures.none

pub returns-in-has-clause-memory : goal.returns-in-has-clause-memory
returns-in-has-clause-memory c =
    let are = five_words c.args.words.now (record { ref_ptr = (0, 0); now = [] }) (codes "has") c.in-has.len_at_least c.in-has.len_below c.in-has.is-has in
    IfErr-weaker c.has.result _ _ (λ error named. (codes "has" ∷ [], _, _, _, _, named.0, are, inl refl, named.1)) c.has.ensures.memory

pub returns-in-has-clause-some : goal.returns-in-has-clause-some
returns-in-has-clause-some c =
    let are = five_words c.args.words.now (record { ref_ptr = (0, 0); now = [] }) (codes "has") c.in-has.len_at_least c.in-has.len_below c.in-has.is-has in
    IfOk-weaker c.has.result _ _ (λ head some. some-behind _ has _ head are some) c.has.ensures.some

pub returns-in-base-clause-some : goal.returns-in-base-clause-some
returns-in-base-clause-some c =
    is_head _ base [] _ (one_word c.args.words.now (record { ref_ptr = (0, 0); now = [] }) (codes "base") c.in-base.len_at_least c.in-base.len_below c.in-base.is-base) (refl, refl)

pub returns-in-layers-clause-some : goal.returns-in-layers-clause-some
returns-in-layers-clause-some c =
    is_head _ layers [] _ (one_word c.args.words.now (record { ref_ptr = (0, 0); now = [] }) (codes "layers") c.in-layers.len_at_least c.in-layers.len_below c.in-layers.is-layers) (refl, refl)

pub returns-in-labels-clause-some : goal.returns-in-labels-clause-some
returns-in-labels-clause-some c =
    is_head _ labels [] _ (one_word c.args.words.now (record { ref_ptr = (0, 0); now = [] }) (codes "labels") c.in-labels.len_at_least c.in-labels.len_below c.in-labels.is-labels) (refl, refl)

pub returns-in-label-clause-some : goal.returns-in-label-clause-some
returns-in-label-clause-some c =
    some-behind _ label_new _ c.label_new.result (three_words c.args.words.now (record { ref_ptr = (0, 0); now = [] }) (codes "label") (codes "new") c.in-label.len_at_least c.in-label.len_below c.in-label.is-label c.in-label.is-new) c.label_new.ensures.some

pub returns-in-label-clause-none : goal.returns-in-label-clause-none
returns-in-label-clause-none c =
    none-behind _ label_new _ c.label_new.result (three_words c.args.words.now (record { ref_ptr = (0, 0); now = [] }) (codes "label") (codes "new") c.in-label.len_at_least c.in-label.len_below c.in-label.is-label c.in-label.is-new) c.label_new.ensures.none

pub returns-in-label-2-clause-some : goal.returns-in-label-2-clause-some
returns-in-label-2-clause-some c =
    some-behind _ label_get _ c.label_get.result (three_words c.args.words.now (record { ref_ptr = (0, 0); now = [] }) (codes "label") (codes "get") c.in-label-2.len_at_least c.in-label-2.len_below c.in-label-2.is-label c.in-label-2.is-get) c.label_get.ensures.some

pub returns-in-label-2-clause-none : goal.returns-in-label-2-clause-none
returns-in-label-2-clause-none c =
    none-behind _ label_get _ c.label_get.result (three_words c.args.words.now (record { ref_ptr = (0, 0); now = [] }) (codes "label") (codes "get") c.in-label-2.len_at_least c.in-label-2.len_below c.in-label-2.is-label c.in-label-2.is-get) c.label_get.ensures.none

pub returns-in-label-3-clause-some : goal.returns-in-label-3-clause-some
returns-in-label-3-clause-some c =
    some-behind _ label_set _ c.label_set.result (five_words_of c.args.words.now (record { ref_ptr = (0, 0); now = [] }) (codes "label") (codes "set") c.in-label-3.len_at_least c.in-label-3.len_below c.in-label-3.is-label c.in-label-3.is-set) c.label_set.ensures.some

pub returns-in-label-3-clause-none : goal.returns-in-label-3-clause-none
returns-in-label-3-clause-none c =
    none-behind _ label_set _ c.label_set.result (five_words_of c.args.words.now (record { ref_ptr = (0, 0); now = [] }) (codes "label") (codes "set") c.in-label-3.len_at_least c.in-label-3.len_below c.in-label-3.is-label c.in-label-3.is-set) c.label_set.ensures.none

pub returns-in-list-2-clause-none : goal.returns-in-list-2-clause-none
returns-in-list-2-clause-none c =
    let are = five_words c.args.words.now (record { ref_ptr = (0, 0); now = [] }) (codes "list") c.in-list-2.len_at_least c.in-list-2.len_below c.in-list-2.is-list in
    IfOk-weaker c.fitting.result _ _ (λ head none. none-behind _ list _ head are (fitting-none _ _ _ _ head none)) c.fitting.ensures.none

pub returns-in-list-2-clause-some : goal.returns-in-list-2-clause-some
returns-in-list-2-clause-some c =
    let are = five_words c.args.words.now (record { ref_ptr = (0, 0); now = [] }) (codes "list") c.in-list-2.len_at_least c.in-list-2.len_below c.in-list-2.is-list in
    IfOk-weaker c.fitting.result _ _ (λ head some. some-behind _ list _ head are (fitting-some _ _ _ _ head some)) c.fitting.ensures.some

pub returns-in-list-2-clause-memory : goal.returns-in-list-2-clause-memory
returns-in-list-2-clause-memory c =
    let are = five_words c.args.words.now (record { ref_ptr = (0, 0); now = [] }) (codes "list") c.in-list-2.len_at_least c.in-list-2.len_below c.in-list-2.is-list in
    IfErr-weaker c.fitting.result _ _ (λ error named. (codes "list" ∷ [], _, _, _, _, named.0, are, inr (inl refl), named.1)) c.fitting.ensures.memory

pub returns-in-count-clause-none : goal.returns-in-count-clause-none
returns-in-count-clause-none c =
    let are = five_words c.args.words.now (record { ref_ptr = (0, 0); now = [] }) (codes "count") c.in-count.len_at_least c.in-count.len_below c.in-count.is-count in
    IfOk-weaker c.count.result _ _ (λ head none. none-behind _ count _ head are (none)) c.count.ensures.none

pub returns-in-count-clause-some : goal.returns-in-count-clause-some
returns-in-count-clause-some c =
    let are = five_words c.args.words.now (record { ref_ptr = (0, 0); now = [] }) (codes "count") c.in-count.len_at_least c.in-count.len_below c.in-count.is-count in
    IfOk-weaker c.count.result _ _ (λ head some. some-behind _ count _ head are (some)) c.count.ensures.some

pub returns-in-count-clause-memory : goal.returns-in-count-clause-memory
returns-in-count-clause-memory c =
    let are = five_words c.args.words.now (record { ref_ptr = (0, 0); now = [] }) (codes "count") c.in-count.len_at_least c.in-count.len_below c.in-count.is-count in
    IfErr-weaker c.count.result _ _ (λ error named. (codes "count" ∷ [], _, _, _, _, named.0, are, inr (inr (inl refl)), named.1)) c.count.ensures.memory

pub returns-in-open-clause-none : goal.returns-in-open-clause-none
returns-in-open-clause-none c =
    let are = six_words c.args.words.now (record { ref_ptr = (0, 0); now = [] }) (codes "open") c.in-open.len_at_least c.in-open.len_below c.in-open.is-open in
    IfOk-weaker c.open_cursor.result _ _ (λ head none. none-behind _ open_cursor _ head are (open-none _ _ head none)) c.open_cursor.ensures.none

pub returns-in-open-clause-some : goal.returns-in-open-clause-some
returns-in-open-clause-some c =
    let are = six_words c.args.words.now (record { ref_ptr = (0, 0); now = [] }) (codes "open") c.in-open.len_at_least c.in-open.len_below c.in-open.is-open in
    IfOk-weaker c.open_cursor.result _ _ (λ head some. some-behind _ open_cursor _ head are (open-some _ _ head some)) c.open_cursor.ensures.some

pub returns-in-open-clause-memory : goal.returns-in-open-clause-memory
returns-in-open-clause-memory c =
    let are = six_words c.args.words.now (record { ref_ptr = (0, 0); now = [] }) (codes "open") c.in-open.len_at_least c.in-open.len_below c.in-open.is-open in
    IfErr-weaker c.open_cursor.result _ _ (λ error named. (codes "open" ∷ _ ∷ [], _, _, _, _, named.1.0, are, inr (inr (inr (_, refl, named.0))), named.1.1)) c.open_cursor.ensures.memory

pub returns-in-fetch-clause-some : goal.returns-in-fetch-clause-some
returns-in-fetch-clause-some c =
    some-behind _ fetch _ c.fetch.result (three_words_of c.args.words.now (record { ref_ptr = (0, 0); now = [] }) (codes "fetch") c.in-fetch.len_at_least c.in-fetch.len_below c.in-fetch.is-fetch) c.fetch.ensures.some

pub returns-in-fetch-clause-none : goal.returns-in-fetch-clause-none
returns-in-fetch-clause-none c =
    none-behind _ fetch _ c.fetch.result (three_words_of c.args.words.now (record { ref_ptr = (0, 0); now = [] }) (codes "fetch") c.in-fetch.len_at_least c.in-fetch.len_below c.in-fetch.is-fetch) c.fetch.ensures.none

pub returns-in-close-clause-some : goal.returns-in-close-clause-some
returns-in-close-clause-some c =
    some-behind _ close _ c.close.result (two_words c.args.words.now (record { ref_ptr = (0, 0); now = [] }) (codes "close") c.in-close.len_at_least c.in-close.len_below c.in-close.is-close) c.close.ensures.some

pub returns-in-close-clause-none : goal.returns-in-close-clause-none
returns-in-close-clause-none c =
    none-behind _ close _ c.close.result (two_words c.args.words.now (record { ref_ptr = (0, 0); now = [] }) (codes "close") c.in-close.len_at_least c.in-close.len_below c.in-close.is-close) c.close.ensures.none

pub returns-in_default-clause-none : goal.returns-in_default-clause-none
returns-in_default-clause-none c =
    no_form c.args.words.now (search rules) (search rules) (search rules) (search rules) (search rules) (search rules) (search rules) (search rules) (search rules) (search rules) (search rules) (search rules) (search rules) (search rules) (search rules) (search rules) (search rules)
