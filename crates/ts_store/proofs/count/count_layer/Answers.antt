use Rattle.std.proofs.Common.{◌≡◌, ◌∙◌, ℕ, List, false, filter, length, ap, subst}
use denote.Ref.{Bor}
use Rattle.ts_model.specs.Fits.{fits}
use Rattle.ts_model.specs.Listing.{select}
use Rattle.ts_model.specs.TextTriple.{TextTriple}
use Rattle.ts_plain.specs.History.{history_of}
use Rattle.ts_script.specs.Replies.{reply_text}
use Rattle.ts_script.specs.declared.reply.Reply.TheVariants.{Count}
use Rattle.ts_store.specs.Does.{Answers}
use Rattle.ts_store.proofs.CountLaws.{count_select}
use Rattle.ts_store.proofs.PrefixLaws.{triples_lent}
use Rattle.ts_store.proofs.count.count_layer.Goals as goal

pub returns-in-Ok-clause-answers : goal.returns-in-Ok-clause-answers
returns-in-Ok-clause-answers g c =
    let history = history_of c.args.layers.now in
    let pattern = c.args.pattern.now in
    let counted : c.count_fitting.result ≡ length (select history c.args.number pattern) =
    c.count_fitting.ensures ∙ ap (λ (lent : List (Bor TextTriple)). length (filter (fits pattern) (triples_lent lent))) c.as_slice.ensures.value
    ∙ ap (λ (triples : List TextTriple). length (filter (fits pattern) triples)) c.in-Ok.ensures
    ∙ count_select history c.args.number pattern in
    subst (λ (n : ℕ). Answers (reply_text (Count n)) false c.reply.result (g.W.Disk.outside c.args.site.now) (g.W.Disk.outside c.reply.new.site)) counted c.reply.ensures.answers
