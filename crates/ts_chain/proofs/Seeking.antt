-- The newest part that has a term tells its number; one that lacks the term is passed by.
use Rattle.std.proofs.Common.{◌≡◌, ℕ, false, List, [], ◌∷◌, Contains, inl, inr, Option, None, Some, IfSome, IfNone, sym, subst}
use Rattle.std.specs.Option.{is_some}
use Rattle.std.proofs.lemmas.Bool.{false≢true}
use Rattle.std.proofs.lemmas.List.Elements.{All-cons, All-head, All-tail}
use Rattle.ts_model.specs.TextTerm.{TextTerm}
use Rattle.ts_model.specs.History.{History}
use Rattle.ts_part.specs.Facts.{Facts}
use Rattle.ts_chain.specs.declared.numbered.Numbered.{Numbered}
use Rattle.ts_chain.specs.Patterns.{IsAskedIn}
use Rattle.ts_chain.specs.Ids.{HasId, HasNew, IsIdAt, Lacks, LacksNew}
use Rattle.ts_chain.specs.Stands.{StandsFor}
use Rattle.ts_chain.proofs.IdsAtLayers.{id_at, lacks_at}
use Rattle.ts_chain.proofs.Elements.{contains_head, contains_rest}

-- what is known where nothing is found
pub none_found : (found : Option ℕ) (P : Type 0) → is_some found ≡ false → IfNone found P → P
none_found None P e h = h
none_found (Some id) P e h = absurd (false≢true (sym e))

module _ (part : Facts) (rest left parts : List Facts) (term : TextTerm) (is : left ≡ part ∷ rest) where
  pub found_here : (found : Option ℕ) → IfSome found (HasNew part term) → ((id : ℕ) → HasId left term id → HasId parts term id) → IfSome found (HasId parts term)
  found_here None has so_far = tt
  found_here (Some id) has so_far = so_far id (subst (λ l. HasId l term id) (sym is) (inl has))

  pub found_later : LacksNew part term → ((id : ℕ) → HasId left term id → HasId parts term id) → (id : ℕ) → HasId rest term id → HasId parts term id
  found_later lacks so_far id has = so_far id (subst (λ l. HasId l term id) (sym is) (inr (lacks, has)))

  pub lacks_later : LacksNew part term → (Lacks left term → Lacks parts term) → Lacks rest term → Lacks parts term
  lacks_later lacks so_far none = so_far (subst (λ l. Lacks l term) (sym is) (All-cons (λ part. LacksNew part term) part rest lacks none))

-- a number that is told is that of a part, which has the term
pub id_part : (parts : List Facts) (term : TextTerm) (id : ℕ) → HasId parts term id → (part : Facts) × Contains parts part × HasNew part term id
id_part [] term id has = absurd has
id_part (part ∷ parts) term id (inl new) = (part, contains_head part parts, new)
id_part (part ∷ parts) term id (inr later) = let found = id_part parts term id later.1 in (found.0, contains_rest part parts found.0 found.1, found.2)

-- where no part has the term, no number is told
pub lacks_id : (parts : List Facts) (term : TextTerm) (id : ℕ) → Lacks parts term → HasId parts term id → ⊥
lacks_id [] term id lacks has = has
lacks_id (part ∷ parts) term id lacks (inl new) = All-head (λ part. LacksNew part term) part parts lacks id new
lacks_id (part ∷ parts) term id lacks (inr later) = lacks_id parts term id (All-tail (λ part. LacksNew part term) part parts lacks) later.1

module _ (parts : List Facts) (term : TextTerm) where
  -- what the numbers of a part are, all numbers that are told are
  pub each_told : (found : Option ℕ) (Is : ℕ → Type 0) → ((part : Facts) (id : ℕ) → Contains parts part → HasNew part term id → Is id)
      → IfSome found (HasId parts term) → IfSome found Is
  each_told None Is each has = tt
  each_told (Some id) Is each has = let found = id_part parts term id has in each found.0 id found.1 found.2

  pub told_at : (history : History) (k : ℕ) (found : Option ℕ) → StandsFor parts history k → IfSome found (HasId parts term) → IfNone found (Lacks parts term)
      → IsIdAt history k term found
  told_at history k None stands has lacks = lacks_at history k parts term stands lacks
  told_at history k (Some id) stands has lacks = id_at history k parts term id stands has

pub if_none : {X : Type 0} (found : Option X) (P : Type 0) → P → IfNone found P
if_none None P h = h
if_none (Some x) P h = tt

-- a term that the chain lacks has no number in its place
pub unasked : (numbered : Numbered) (parts : List Facts) (given : Option TextTerm) (term : TextTerm) → given ≡ Some term → Lacks parts term → (id : Option ℕ) → ¬ IsAskedIn numbered parts given id
unasked numbered parts given term is lacks id asked = by id (subst (λ (given : Option TextTerm). IsAskedIn numbered parts given id) is asked)
  where
    by : (id : Option ℕ) → IsAskedIn numbered parts (Some term) id → ⊥
    by None none = none
    by (Some id) has = lacks_id parts term id lacks has.1
