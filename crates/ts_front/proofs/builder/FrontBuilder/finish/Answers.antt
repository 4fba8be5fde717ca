use Rattle.std.proofs.Common.{◌≡◌, ℕ, ◌^◌, ◌<◌, List, ◌++◌, cond, Bool, false, length, refl, sym, ◌∙◌, ap, subst, arith, append_assoc, length-append, w64}
use Rattle.std.specs.Prelude.{Option, Some, None, IfSome, IsSomeAnd, OnOk}
use Rattle.std.specs.Int.{to_be_bytes}
use Rattle.std.proofs.lemmas.Bool.{cond-false}
use Rattle.ts_log.specs.LogArray.{log_array_of}
use Rattle.ts_front.specs.Dictionary.{Rising, block_starts, dictionary_starts, dictionary_bytes, DictionarySays, entries_bytes}
use Rattle.ts_front.specs.Reading.{texts_in}
use Rattle.ts_front.specs.Building.{Holds}
use Rattle.ts_front.proofs.EntriesLemmas.{count_le}
use Rattle.ts_front.proofs.SaysLemmas.{bytes_long}
use Rattle.ts_front.proofs.BuilderLemmas.{on_ok_from, kept_from}
use Rattle.ts_front.proofs.builder.FrontBuilder.finish.Goals as goal

seen : (failed : Bool) (texts : List (List ℕ)) (value : Option (List (List ℕ))) → cond failed None (Some texts) ≡ value → failed ≡ false → Some texts ≡ value
seen failed texts value e f = sym (cond-false failed None (Some texts) f) ∙ e

starts_written : (starts : Option (List ℕ)) (texts : List (List ℕ)) (old new : List ℕ) → starts ≡ Some (block_starts texts)
    → IsSomeAnd starts (λ numbers. new ≡ old ++ log_array_of numbers) → new ≡ old ++ dictionary_starts texts
unfolding dictionary_starts
starts_written starts texts old new e w = subst (λ o. IsSomeAnd o (λ numbers. new ≡ old ++ log_array_of numbers)) e w

bytes_written : (texts : List (List ℕ)) (count : ℕ) (old mid new body : List ℕ) → length texts ≡ count → body ≡ entries_bytes texts (length texts)
    → mid ≡ old ++ to_be_bytes w64 count → new ≡ mid ++ body → new ≡ old ++ dictionary_bytes texts
unfolding dictionary_bytes
bytes_written texts count old mid new body n b e f =
    f ∙ ap (λ m. m ++ body) e ∙ append_assoc old (to_be_bytes w64 count) body
    ∙ ap (λ k. old ++ (to_be_bytes w64 k ++ body)) (sym n) ∙ ap (λ t. old ++ (to_be_bytes w64 (length texts) ++ t)) b

says_written : (texts : List (List ℕ)) → Rising texts → length texts < 2 ^ 64 → length (dictionary_bytes texts) < 2 ^ 64
    → DictionarySays (dictionary_starts texts) (dictionary_bytes texts) texts
says_written texts rising few fits = record { rising = rising; starts_spelled = refl; bytes_spelled = refl; counted = few; fits = fits }

pub returns-clause-written : goal.returns-clause-written
returns-clause-written c =
    let b = c.self.inside in
    let texts : List (List ℕ) = texts_in b.count b.body.items in
    let h : Holds b.starts b.body.items b.last.items b.count texts = c.self.invariant c.if-self.false in
    let same : Some texts ≡ c.args.self = seen b.failed texts c.args.self c.self.view_is c.if-self.false in
    let old = c.args.bytes.now.items in
    let new = c.extend_from_slice-2.new.self.items in
    let starts = starts_written b.starts texts c.args.starts.now.items c.finish.new.into.items h.starts_are c.in_ok-finish.ensures.written in
    let mid : c.extend_from_slice.new.self.items ≡ old ++ to_be_bytes w64 b.count = c.in_ok-extend_from_slice.ensures.items ∙ ap (λ t. old ++ t) c.to_be_bytes.ensures in
    let body : c.deref.result.now ≡ entries_bytes texts (length texts) = c.deref.ensures.value ∙ h.spelled in
    subst (λ o. OnOk c.extend_from_slice-2.result (IsSomeAnd o (λ ts.
    (c.finish.new.into.items ≡ c.args.starts.now.items ++ dictionary_starts ts) × (new ≡ old ++ dictionary_bytes ts)))) same
    (on_ok_from new _ _ c.extend_from_slice-2.result c.extend_from_slice-2.ensures.items (λ e.
    (starts, bytes_written texts b.count old c.extend_from_slice.new.self.items new c.deref.result.now h.counted body mid e)))

pub returns-clause-says : goal.returns-clause-says
returns-clause-says c =
    let b = c.self.inside in
    let texts : List (List ℕ) = texts_in b.count b.body.items in
    let h : Holds b.starts b.body.items b.last.items b.count texts = c.self.invariant c.if-self.false in
    let same : Some texts ≡ c.args.self = seen b.failed texts c.args.self c.self.view_is c.if-self.false in
    let old = c.args.bytes.now.items in
    let new = c.extend_from_slice-2.new.self.items in
    let mid : c.extend_from_slice.new.self.items ≡ old ++ to_be_bytes w64 b.count = c.in_ok-extend_from_slice.ensures.items ∙ ap (λ t. old ++ t) c.to_be_bytes.ensures in
    let body : c.deref.result.now ≡ entries_bytes texts (length texts) = c.deref.ensures.value ∙ h.spelled in
    let after = c.extend_from_slice-2.new.self in
    subst (λ o. OnOk c.extend_from_slice-2.result (IfSome o (λ ts. DictionarySays (dictionary_starts ts) (dictionary_bytes ts) ts))) same
    (on_ok_from new _ _ c.extend_from_slice-2.result c.extend_from_slice-2.ensures.items (λ e.
    let all : new ≡ old ++ dictionary_bytes texts = bytes_written texts b.count old c.extend_from_slice.new.self.items new c.deref.result.now h.counted body mid e in
    let fits : length (dictionary_bytes texts) < 2 ^ 64 = omega (arith, ap length all, length-append old (dictionary_bytes texts), after.ok, after.small) in
    let few : length texts < 2 ^ 64 = omega (arith, fits, bytes_long texts, count_le texts (length texts)) in
    says_written texts h.rising few fits))

pub returns-clause-bytes_kept : goal.returns-clause-bytes_kept
returns-clause-bytes_kept c =
    let old = c.args.bytes.now.items in
    kept_from old c.extend_from_slice-2.new.self.items _ _ c.extend_from_slice-2.result c.extend_from_slice-2.ensures.items
    (to_be_bytes w64 c.self.inside.count ++ c.deref.result.now, ap (λ m. m ++ c.deref.result.now) (c.in_ok-extend_from_slice.ensures.items ∙ ap (λ t. old ++ t) c.to_be_bytes.ensures) ∙ append_assoc old (to_be_bytes w64 c.self.inside.count) c.deref.result.now)
    (to_be_bytes w64 c.self.inside.count, c.in_ok-extend_from_slice.ensures.items ∙ ap (λ t. old ++ t) c.to_be_bytes.ensures)
