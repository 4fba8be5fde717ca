use Rattle.std.proofs.Common.{◌≡◌, ◌∙◌, ℕ, List, Vec, Global, map, unwrap_or, All, ap, subst}
use Rattle.std.proofs.lemmas.Result.{IfOk-weaker}
use denote.Ref.{Bor}
use Rattle.ts_model.specs.TextTriple.{TextTriple}
use Rattle.ts_model.specs.TextTerm.{TextTerm}
use Rattle.ts_model.specs.History.{History}
use Rattle.ts_model.specs.Listing.{in_birth_order}
use Rattle.ts_model.specs.Order.{triple_cmp}
use Rattle.ts_model.specs.Sets.{from_list}
use Rattle.ts_plain.specs.Chain.{IsChain}
use Rattle.ts_plain.specs.Held.{birth_in}
use Rattle.ts_plain.specs.Keys.{IsKeyed}
use Rattle.ts_plain.proofs.ChainLaws.{birth_over-chain}
use Rattle.ts_plain.proofs.LayerLaws.{seen}
use Rattle.ts_plain.proofs.ListingLaws.{birth, triple_of, sorted_is}
use Rattle.ts_plain.proofs.listing.in_birth_order.Goals as goal

pub returns : goal.returns
returns c =
    let keyed = c.in_ok-keyed.keyed.items in
    let sorted = c.sort.new.triples.items in
    let triples : List TextTriple = map (λ (triple : Bor TextTriple). triple.now) c.args.triples.now in
    let listed : (history : History) (number : ℕ) → IsChain history number (seen c.args.chain.now) → map triple_of sorted ≡ in_birth_order history number (from_list {R = triple_cmp} triples) = λ history number chain.
    let births_are : (term : TextTerm) → unwrap_or (birth_in c.in_ok-births.births term) 0 ≡ birth history number term = λ term.
    ap (λ o. unwrap_or o 0) (c.in_ok-births.ensures term ∙ birth_over-chain history number (seen c.args.chain.now) chain term) in
    let keys : All (IsKeyed (birth history number)) keyed = subst (λ (f : TextTerm → ℕ). All (IsKeyed f) keyed) (λ i term. births_are term i) c.in_ok-keyed.ensures.keys in
    sorted_is history number keyed sorted triples c.in_ok-keyed.ensures.triples c.requires keys c.sort.ensures.moved c.sort.ensures.sorted in
    IfOk-weaker c.triples_of.result
    (λ (v : Vec (Bor TextTriple) Global). map (λ triple. triple.now) v.items ≡ map triple_of c.as_slice.result.now)
    (λ (v : Vec (Bor TextTriple) Global). (history : History) (number : ℕ) → IsChain history number (seen c.args.chain.now) → map (λ triple. triple.now) v.items ≡ in_birth_order history number (from_list {R = triple_cmp} triples))
    (λ v same history number chain. same ∙ ap (map triple_of) c.as_slice.ensures.value ∙ listed history number chain)
    c.triples_of.ensures
