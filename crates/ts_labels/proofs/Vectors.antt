-- The definitions, tried on worked labels.
use Rattle.std.proofs.Common.{◌≡◌, ◌++◌, ℕ, List, Some, None, Ok, Err, refl, ap, arith}
use Rattle.std.specs.Prelude.{codes}
use Rattle.std.proofs.lemmas.Fmt.{decimal_digit}
use Rattle.hex.specs.Hex.{encode_with}
use Rattle.ts_labels.specs.declared.label.Label.{Label}
use Rattle.ts_labels.specs.declared.label_error.LabelError.TheVariants.{NoLabel, Stale, VersionEnd, LabelExists}
use Rattle.ts_labels.specs.LabelFile.{label_text}
use Rattle.ts_labels.specs.Moves.{made_label, moved_label}

abbrev at : ℕ → ℕ → Label
at version number = record { version = version; layer = Some number }

abbrev unset : ℕ → Label
unset version = record { version = version; layer = None }

-- version 7 at layer 26
text-of_7 : label_text (at 7 26) ≡ codes "7\n0000001a\n"
unfolding encode_with
text-of_7 = ap (λ (digits : List ℕ). digits ++ codes "\n0000001a\n") (decimal_digit 7 (omega arith))

-- a label is made once, and moves once from each version
made : made_label None ≡ Ok (unset 0)
made = refl

made-again : made_label (Some (unset 0)) ≡ Err LabelExists
made-again = refl

moved : moved_label (Some (unset 0)) 0 (Some 1) ≡ Ok (at 1 1)
moved = refl

moved-again : moved_label (Some (at 1 1)) 0 (Some 1) ≡ Err (Stale 1)
moved-again = refl

moved-nothing : moved_label None 0 (Some 1) ≡ Err NoLabel
moved-nothing = refl

-- to the last version, and no further
moved-last : moved_label (Some (unset 18446744073709551614)) 18446744073709551614 None ≡ Ok (unset 18446744073709551615)
moved-last = refl

moved-past : moved_label (Some (unset 18446744073709551615)) 18446744073709551615 None ≡ Err VersionEnd
moved-past = refl

stale-at_end : moved_label (Some (unset 18446744073709551615)) 18446744073709551614 None ≡ Err (Stale 18446744073709551615)
stale-at_end = refl
