use Rattle.std.proofs.Common.{◌≡◌, ◌∙◌, ℕ, List, Vec, Global, map, ap, sym, subst}
use Rattle.std.specs.List.Sorted.{IsStrictlySortedBy}
use Rattle.std.proofs.lemmas.Result.{IfOk-weaker}
use denote.Ref.{Bor}
use Rattle.ts_model.specs.TextTriple.{TextTriple}
use Rattle.ts_model.specs.History.{History, content_at}
use Rattle.ts_model.specs.Listing.{in_birth_order, listing}
use Rattle.ts_model.specs.Order.{triple_cmp}
use Rattle.ts_model.specs.Sets.{from_list}
use Rattle.ts_model.proofs.SetLaws.{IsStrictlySortedBy-members}
use Rattle.ts_model.proofs.TripleSets.{from_list-members}
use Rattle.ts_plain.specs.Chain.{IsChain}
use Rattle.ts_plain.specs.History.{history_of}
use Rattle.ts_plain.proofs.ChainLaws.{members-chain}
use Rattle.ts_plain.proofs.LayerLaws.{seen}
use Rattle.ts_plain.proofs.listing.listing_of.Goals as goal

abbrev values : List (Bor TextTriple) → List TextTriple
values lent = map (λ triple. triple.now) lent

pub in_birth_order-requires : goal.in_birth_order-requires
in_birth_order-requires c =
    let history = history_of c.args.layers.now in
    let content = members-chain history c.args.number c.in_ok-chain.chain.items c.as_slice.result.now c.in_ok-content.content.items c.in_ok-chain.ensures c.as_slice.ensures.value c.in_ok-content.ensures in
    subst (IsStrictlySortedBy triple_cmp) (sym (ap values c.as_slice-3.ensures.value ∙ content)) (IsStrictlySortedBy-members triple_cmp (content_at history c.args.number))

pub returns : goal.returns
returns c =
    let history = history_of c.args.layers.now in
    let number = c.args.number in
    let chain : IsChain history number (seen c.as_slice-2.result.now) = subst (λ layers. IsChain history number (seen layers)) (sym c.as_slice-2.ensures.value) c.in_ok-chain.ensures in
    let content = members-chain history number c.in_ok-chain.chain.items c.as_slice.result.now c.in_ok-content.content.items c.in_ok-chain.ensures c.as_slice.ensures.value c.in_ok-content.ensures in
    IfOk-weaker c.in_birth_order.result
    (λ (v : Vec (Bor TextTriple) Global). (history : History) (number : ℕ) → IsChain history number (seen c.as_slice-2.result.now) → values v.items ≡ in_birth_order history number (from_list {R = triple_cmp} (values c.as_slice-3.result.now)))
    (λ (v : Vec (Bor TextTriple) Global). values v.items ≡ listing history number)
    (λ v sorted.
    sorted history number chain
    ∙ ap (λ triples. in_birth_order history number (from_list {R = triple_cmp} triples)) (ap values c.as_slice-3.ensures.value ∙ content)
    ∙ ap (in_birth_order history number) (from_list-members (content_at history number)))
    c.in_birth_order.ensures
