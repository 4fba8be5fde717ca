-- What a line of a script is, as it is lent.
use Rattle.std.proofs.Common.{◌≡◌, ◌↔◌, ℕ, ◌≤◌, Bool, true, false, List, [], length, refl, sym, ◌∙◌, ap, subst, true≢false}
use Rattle.std.specs.Prelude.{nat_le, if◌then◌else◌, IsTrue}
use Rattle.std.proofs.lemmas.Bool.{leb-true}
use Rattle.ts_nt.specs.Limits.{line_limit}
use Rattle.ts_script.specs.Heads.{AreNoHead}
use Rattle.ts_script.specs.LineWords.{words_in}
use Rattle.ts_script.specs.Lines.{LineView, line_view}
use Rattle.ts_script.specs.Script.{IsPassedOver, LineIs}
use Rattle.ts_script.specs.declared.script_line.ScriptLine.TheVariants.{NoCommand}
use Rattle.ts_script.proofs.BodyLemmas.{seen_as, view-whole}

-- a line that is shown whole is within its limit
view-within : (bytes seen : List ℕ) (long : Bool) → line_view bytes ≡ seen_as seen long → long ≡ false → length bytes ≤ line_limit
view-within bytes seen long e is = by_test (nat_le (length bytes) line_limit) refl e
  where
    by_test : (b : Bool) → nat_le (length bytes) line_limit ≡ b → (if b then seen_as bytes false else seen_as [] true) ≡ seen_as seen long → length bytes ≤ line_limit
    by_test true t e = leb-true _ _ t
    by_test false t e = absurd (let f : true ≡ false = ap (λ (line : LineView). line.too_long) e ∙ is in cc)

pub no_command : (bytes seen : List ℕ) (long passed : Bool) → line_view bytes ≡ seen_as seen long → long ≡ false → passed ≡ false → (IsTrue passed ↔ IsPassedOver seen)
    → AreNoHead (words_in seen) → LineIs bytes NoCommand
no_command bytes seen long passed e short isnt decides none =
    let whole : bytes ≡ seen = view-whole bytes seen long e short in (
      view-within bytes seen long e short,
      λ over. true≢false (sym (decides.1 (subst IsPassedOver whole over)) ∙ isnt),
      subst (λ (b : List ℕ). AreNoHead (words_in b)) (sym whole) none,
    )
