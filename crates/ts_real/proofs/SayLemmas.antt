-- What the real site tells once a piece was noted.
use Rattle.std.proofs.Common.{◌≡◌, Bool, ℕ, List, [], ◌∷◌, refl, sym, append-nil}
use Rattle.std.proofs.lemmas.List.Elements.{All-cons, All-nil}
use Rattle.ts_site.specs.Crash.{settled}
use Rattle.ts_site.specs.Folder.{Extends, no_files}
use Rattle.ts_site.specs.Moments.{Moment}
use Rattle.ts_site.specs.Outside.{SaysOn}
use Rattle.ts_real.specs.Real.{outside_by, said_by}

pub noted : (disk before_faults after_faults : ℕ) (before_failed after_failed : Bool) (front : List ℕ) (pieces : List (List ℕ))
    → SaysOn (outside_by disk before_faults before_failed pieces) (outside_by disk after_faults after_failed (front ∷ pieces))
noted disk before_faults after_faults before_failed after_failed front pieces =
    let moment : Moment = record { crash = settled no_files; told = said_by (front ∷ pieces) } in
    let grown : Extends (said_by pieces) (said_by (front ∷ pieces)) = (front, refl) in
    let whole : Extends (said_by (front ∷ pieces)) (said_by (front ∷ pieces)) = ([], sym (append-nil _)) in
    record {
      telling = λ honest. honest;
      now = λ _. refl;
      grows = grown;
      said = (
        moment ∷ [],
        refl,
        All-cons (λ m. Extends (said_by pieces) m.told × Extends m.told (said_by (front ∷ pieces))) moment [] (grown, whole)
            (All-nil (λ m. Extends (said_by pieces) m.told × Extends m.told (said_by (front ∷ pieces)))),
      );
      moments = λ _. (
        moment ∷ [],
        refl,
        All-cons (λ m. (m.crash ≡ settled no_files) × Extends (said_by pieces) m.told × Extends m.told (said_by (front ∷ pieces))) moment [] (refl, grown, whole)
            (All-nil (λ m. (m.crash ≡ settled no_files) × Extends (said_by pieces) m.told × Extends m.told (said_by (front ∷ pieces)))),
      );
    }
