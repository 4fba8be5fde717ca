use Rattle.std.proofs.Common.{◌≡◌, ℕ, ◌+◌, List, [], ◌∷◌, ◌++◌, cond, Bool, false, length, sym, ◌∙◌, ap, subst, arith}
use Rattle.std.specs.Prelude.{Option, Some, None, IfSome, IsSomeAnd}
use Rattle.std.proofs.lemmas.Bool.{cond-false}
use Rattle.ts_front.specs.Dictionary.{Rising, IsAfterLast}
use Rattle.ts_front.specs.Reading.{texts_in}
use Rattle.ts_front.specs.Building.{Holds}
use Rattle.ts_front.proofs.EntriesLemmas.{count_le}
use Rattle.ts_front.proofs.RisingLemmas.{rising_push}
use Rattle.ts_front.proofs.BuilderLemmas.{push_holds, holds_read}
use Rattle.ts_front.proofs.builder.FrontBuilder.push.Goals as goal

seen : (failed : Bool) (texts : List (List ℕ)) (value : Option (List (List ℕ))) → cond failed None (Some texts) ≡ value → failed ≡ false → Some texts ≡ value
seen failed texts value e f = sym (cond-false failed None (Some texts) f) ∙ e

next : (c : goal.In-Ok) → Holds c.append_entry-appended.new.starts c.append_entry-appended.new.body.items c.append_entry-appended.new.last.items (c.self.inside.count + 1) (texts_in c.self.inside.count c.self.inside.body.items ++ c.args.entry.now ∷ [])
next c =
    let b = c.self.inside in
    let texts : List (List ℕ) = texts_in b.count b.body.items in
    let h : Holds b.starts b.body.items b.last.items b.count texts = c.self.invariant c.if-self.false in
    let same : Some texts ≡ c.args.self.now = seen b.failed texts c.args.self.now c.self.view_is c.if-self.false in
    let after : IsAfterLast texts c.args.entry.now = subst (λ o. IfSome o (λ ts. IsAfterLast ts c.args.entry.now)) (sym same) c.requires in
    let rising : Rising (texts ++ c.args.entry.now ∷ []) = rising_push texts c.args.entry.now h.rising after in
    push_holds b.starts c.append_entry-appended.new.starts b.body.items c.append_entry-appended.new.body.items b.last.items c.append_entry-appended.new.last.items
    b.count texts c.args.entry.now h rising c.in-Ok.ensures.starts c.in-Ok.ensures.body c.in-Ok.ensures.last

later : (c : goal.After-self-1) → Holds c.append_entry-appended.new.starts c.append_entry-appended.new.body.items c.append_entry-appended.new.last.items (c.self.inside.count + 1) (texts_in c.self.inside.count c.self.inside.body.items ++ c.args.entry.now ∷ [])
later c =
    let b = c.self.inside in
    let texts : List (List ℕ) = texts_in b.count b.body.items in
    let h : Holds b.starts b.body.items b.last.items b.count texts = c.self.invariant c.if-self.false in
    let same : Some texts ≡ c.args.self.now = seen b.failed texts c.args.self.now c.self.view_is c.if-self.false in
    let after : IsAfterLast texts c.args.entry.now = subst (λ o. IfSome o (λ ts. IsAfterLast ts c.args.entry.now)) (sym same) c.requires in
    let rising : Rising (texts ++ c.args.entry.now ∷ []) = rising_push texts c.args.entry.now h.rising after in
    push_holds b.starts c.append_entry-appended.new.starts b.body.items c.append_entry-appended.new.body.items b.last.items c.append_entry-appended.new.last.items
    b.count texts c.args.entry.now h rising c.in-Ok.ensures.starts c.in-Ok.ensures.body c.in-Ok.ensures.last

pub overflow_add-self : goal.overflow_add-self
overflow_add-self c =
    let after = c.append_entry-appended.new.body in
    let more = next c in
    record { fits = omega (arith, ap length more.spelled, more.counted, count_le (texts_in c.self.inside.count c.self.inside.body.items ++ c.args.entry.now ∷ []) (length (texts_in c.self.inside.count c.self.inside.body.items ++ c.args.entry.now ∷ [])), after.ok, after.small) }

pub invariant_of-self : goal.invariant_of-self
invariant_of-self c = λ _.
    (holds_read c.append_entry-appended.new.starts c.append_entry-appended.new.body.items c.append_entry-appended.new.last.items (c.self.inside.count + 1)
    (texts_in c.self.inside.count c.self.inside.body.items ++ c.args.entry.now ∷ []) (later c)).1

pub returns-in-Ok-clause-pushed : goal.returns-in-Ok-clause-pushed
returns-in-Ok-clause-pushed c =
    let b = c.self.inside in
    let texts : List (List ℕ) = texts_in b.count b.body.items in
    let now = c.append_entry-appended.new.body.items in
    let entry = c.args.entry.now in
    let same : Some texts ≡ c.args.self.now = seen b.failed texts c.args.self.now c.self.view_is c.if-self.false in
    let read = holds_read c.append_entry-appended.new.starts now c.append_entry-appended.new.last.items (b.count + 1) (texts ++ entry ∷ []) (later c) in
    subst (λ o. IsSomeAnd o (λ ts. cond b.failed None (Some (texts_in (b.count + 1) now)) ≡ Some (ts ++ entry ∷ []))) same
    (cond-false b.failed None (Some (texts_in (b.count + 1) now)) c.if-self.false ∙ ap Some read.0)
