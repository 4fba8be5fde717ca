use Rattle.std.proofs.Common.{ℕ, List, [], ◌∷◌, refl}
use Rattle.std.specs.Prelude.{IfSome}
use Rattle.ts_front.proofs.PushLemmas.{EndsWith, ends_none, may_push, after_push}
use Rattle.ts_front.proofs.tests.writes_three_entries.Goals as goal

abbrev first : List ℕ
first = 0x3c ∷ 0x61 ∷ 0x3e ∷ []

abbrev second : List ℕ
second = 0x3c ∷ 0x61 ∷ 0x62 ∷ 0x3e ∷ []

abbrev third : List ℕ
third = 0x3c ∷ 0x62 ∷ 0x3e ∷ []

pub push-requires : goal.push-requires
push-requires g c =
    let none : IfSome c.new-builder.result (EndsWith []) = rw c.new-builder.ensures (ends_none []) in
    may_push c.new-builder.result [] first none refl

pub push-requires-2 : goal.push-requires-2
push-requires-2 g c =
    let none : IfSome c.new-builder.result (EndsWith []) = rw c.new-builder.ensures (ends_none []) in
    let one : IfSome c.push.new.self (EndsWith first) = after_push c.new-builder.result c.push.new.self [] first none refl c.in_ok-push.ensures.pushed in
    may_push c.push.new.self first second one refl

pub push-requires-3 : goal.push-requires-3
push-requires-3 g c =
    let none : IfSome c.new-builder.result (EndsWith []) = rw c.new-builder.ensures (ends_none []) in
    let one : IfSome c.push.new.self (EndsWith first) = after_push c.new-builder.result c.push.new.self [] first none refl c.in_ok-push.ensures.pushed in
    let two : IfSome c.push-2.new.self (EndsWith second) = after_push c.push.new.self c.push-2.new.self first second one refl c.in_ok-push-2.ensures.pushed in
    may_push c.push-2.new.self second third two refl
