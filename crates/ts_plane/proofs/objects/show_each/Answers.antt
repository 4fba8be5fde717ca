use Rattle.std.proofs.Common.{◌≡◌, true≢false, sym, ◌∙◌, ap₂, subst, arith}
use Rattle.ts_adjacency.specs.Adjacency.{Adjacency}
use Rattle.ts_plane.specs.Objects.{EachShown}
use Rattle.ts_plane.proofs.objects.show_each.Goals as goal

pub returns-clause-stand : goal.returns-clause-stand
returns-clause-stand c = λ shown j low.
    let at = c.each_shown.ensures.0 shown j low in
    (at.3.place, omega (arith, at.3.within, c.requires.whole.paired), at.3.right)

pub returns-clause-hidden : goal.returns-clause-hidden
returns-clause-hidden c = λ unshown numbers says paired each.
    let by : Adjacency = record { ends = c.args.ends.now; rights = numbers } in
    let same : by ≡ c.in-Some.found = ap₂ (λ a b. record { ends = a; rights = b }) (sym c.in-Some.ensures.ends) (c.in-Some.ensures.only numbers says) in
    true≢false (sym (c.each_shown.ensures.1 (subst (λ (rows : Adjacency). EachShown c.args.objects.now rows c.args.triples.now) same each)) ∙ unshown)
