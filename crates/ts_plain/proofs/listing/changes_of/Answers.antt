use Rattle.std.proofs.Common.{◌≡◌, ◌∙◌, ℕ, List, Vec, Global, map, ap, sym, subst}
use Rattle.std.specs.List.Sorted.{IsStrictlySortedBy}
use Rattle.std.proofs.lemmas.Result.{IfOk-weaker}
use denote.Ref.{Bor}
use Rattle.ts_model.specs.TextTriple.{TextTriple}
use Rattle.ts_model.specs.History.{History}
use Rattle.ts_model.specs.Listing.{in_birth_order}
use Rattle.ts_model.specs.Order.{triple_cmp}
use Rattle.ts_model.specs.Sets.{from_list}
use Rattle.ts_plain.specs.Chain.{IsChain}
use Rattle.ts_plain.specs.History.{history_of}
use Rattle.ts_plain.proofs.LayerLaws.{seen}
use Rattle.ts_plain.proofs.listing.changes_of.Goals as goal

abbrev values : List (Bor TextTriple) → List TextTriple
values lent = map (λ triple. triple.now) lent

pub in_birth_order-requires : goal.in_birth_order-requires
in_birth_order-requires c = subst (IsStrictlySortedBy triple_cmp) (sym (ap values c.as_slice-2.ensures.value ∙ c.in_ok-own.ensures)) c.requires.rise

pub returns : goal.returns
returns c =
    let history = history_of c.args.layers.now in
    let chain : IsChain history c.args.number (seen c.as_slice.result.now) = subst (λ layers. IsChain history c.args.number (seen layers)) (sym c.as_slice.ensures.value) c.in_ok-chain.ensures in
    IfOk-weaker c.in_birth_order.result
    (λ (v : Vec (Bor TextTriple) Global). (history : History) (number : ℕ) → IsChain history number (seen c.as_slice.result.now) → values v.items ≡ in_birth_order history number (from_list {R = triple_cmp} (values c.as_slice-2.result.now)))
    (λ (v : Vec (Bor TextTriple) Global). values v.items ≡ in_birth_order history c.args.number (from_list {R = triple_cmp} c.args.own.now))
    (λ v sorted. sorted history c.args.number chain ∙ ap (λ own. in_birth_order history c.args.number (from_list {R = triple_cmp} own)) (ap values c.as_slice-2.ensures.value ∙ c.in_ok-own.ensures))
    c.in_birth_order.ensures
