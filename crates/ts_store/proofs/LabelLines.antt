-- The lines of the labels.
use Rattle.std.proofs.Common.{◌≡◌, ℕ, ◌<◌, Bool, true, codes, decimal, List, [], ◌∷◌, ◌++◌, filter, flat_map, length, get_or, Some, refl, sym, ap, ◌∙◌, inr}
use Rattle.std.specs.FinMap.{entries, len, len-entries}
use Rattle.std.specs.List.{slice_get}
use Rattle.std.proofs.lemmas.Option.{slice_get-get_or}
use Rattle.ts_labels.specs.Labels.{Labels}
use Rattle.ts_labels.specs.declared.label.Label.{Label}
use Rattle.ts_script.specs.Replies.{layer_or_none, reply_text}
use Rattle.ts_script.specs.declared.reply.Reply.TheVariants as reply
use Rattle.ts_store.specs.Leaves.{AreLines}
use Rattle.ts_store.specs.Puts.{label_line, labels_text}

abbrev pub line_of : (List ℕ × Label) → List ℕ
line_of entry = label_line entry.0 entry.1

-- each label is listed
abbrev pub every : (List ℕ × Label) → Bool
every entry = true

every_one : (entries : List (List ℕ × Label)) → filter every entries ≡ entries
every_one [] = refl
every_one (entry ∷ entries) = ap (λ l. entry ∷ l) (every_one entries)

pub is_line : (entry : List ℕ × Label) → AreLines (line_of entry)
is_line (name, label) = inr (codes "label " ++ name ++ 32 ∷ decimal label.version ++ 32 ∷ layer_or_none label.layer, refl)

pub labels_said : (labels : Labels) → labels_text labels ≡ flat_map line_of (filter every (entries labels)) ++ reply_text (reply.Total (len labels))
labels_said labels = ap (λ es. flat_map line_of es ++ reply_text (reply.Total (len labels))) (sym (every_one (entries labels)))

-- the entry that a list has at a place
pub entry_is : (es : List (List ℕ × Label)) (i : ℕ) (entry : List ℕ × Label) → i < length es → Some entry ≡ slice_get es i → entry ≡ get_or es i entry
entry_is es i entry below is =
    let both : Some entry ≡ Some (get_or es i entry) = is ∙ slice_get-get_or es i entry below in
    cc

pub entries_len : (labels : Labels) → length (entries labels) ≡ len labels
entries_len labels = sym (len-entries labels)
