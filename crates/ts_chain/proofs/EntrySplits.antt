-- Entries of rising numbers, apart by their kinds, while they are gathered.
use Rattle.std.proofs.Common.{◌≡◌, ℕ, zero, suc, ◌+◌, ◌<◌, ◌⊎◌, inl, inr, List, [], ◌∷◌, ◌++◌, length, get_or, take, Contains, refl, sym, ap, ◌∙◌, subst, arith, length-append}
use Rattle.std.specs.List.{AllByRecursion}
use Rattle.std.specs.List.Sorted.{IsStrictlySortedBy}
use Rattle.std.specs.Ordering.{nat_cmp}
use Rattle.std.specs.declared.cmp.Ordering.TheVariants.{Less}
use Rattle.std.proofs.lemmas.List.{map-append}
use Rattle.std.proofs.Math.Seq.{take-suc}
use Rattle.std.proofs.lemmas.List.Elements.{All-nil, All-push, Contains-append_left, Contains-push, Contains-push_cases}
use Rattle.std.proofs.lemmas.Map.Keys.{below_from_sorted}
use Rattle.ts_model.specs.declared.term.TermKind.{TermKind}
use Rattle.ts_model.specs.declared.term.TermKind.TheVariants.{Node, Value}
use Rattle.ts_model.specs.TextTerm.{TextTerm, IsTerm}
use Rattle.ts_part.proofs.RisingLists.{rises-append}
use Rattle.ts_chain.specs.declared.spelled.Entry.{Entry}
use Rattle.ts_chain.specs.Entries.{AreEntries, AreSplit, IsEntryOf, ids_of}

each_contained : (P : ℕ → Type 0) (xs : List ℕ) → ((x : ℕ) → Contains xs x → P x) → AllByRecursion P xs
each_contained P [] each = tt
each_contained P (x ∷ xs) each = (each x (0, omega arith, refl), each_contained P xs (λ y h. each y (suc h.0, omega (arith, h.1), h.2)))

less : (a b : ℕ) → a < b → nat_cmp a b ≡ Less
less a b h = grind (arith)

-- a rising list with a greater number behind it
pub rises_one : (xs : List ℕ) (id : ℕ) → IsStrictlySortedBy nat_cmp xs → ((x : ℕ) → Contains xs x → x < id) → IsStrictlySortedBy nat_cmp (xs ++ id ∷ [])
unfolding IsStrictlySortedBy
rises_one xs id rise below =
    rises-append nat_cmp (λ x. x < id) (λ y. y ≡ id) (λ x y low is. less x y (omega arith)) xs (id ∷ []) (each_contained (λ x. x < id) xs below) (refl, tt) rise (tt, tt)

pub ids_more : (entries : List Entry) (entry : Entry) → ids_of (entries ++ entry ∷ []) ≡ ids_of entries ++ entry.id ∷ []
ids_more entries entry = map-append (λ (e : Entry). e.id) entries (entry ∷ [])

-- the numbers before one in a rising list are less
below_at : (ids : List ℕ) (i d x j : ℕ) → IsStrictlySortedBy nat_cmp ids → i < length ids → j < length (take i ids) → get_or (take i ids) j x ≡ x → x < get_or ids i d
unfolding IsStrictlySortedBy
below_at [] i d x j rise within inside is = absurd (omega arith)
below_at (y ∷ ys) zero d x j rise within inside is = absurd (omega arith)
below_at (y ∷ ys) (suc i) d x zero rise within inside is =
    let first : y < get_or ys i d = below_from_sorted (y ∷ ys) 0 (suc i) d rise (omega arith) within in omega arith
below_at (y ∷ ys) (suc i) d x (suc j) rise within inside is = below_at ys i d x j rise.1 (omega arith) (omega arith) is

pub take_below : (ids : List ℕ) (i d : ℕ) → IsStrictlySortedBy nat_cmp ids → i < length ids → (x : ℕ) → Contains (take i ids) x → x < get_or ids i d
take_below ids i d rise within x h = below_at ids i d x h.0 rise within h.1 h.2

take_next : (ids : List ℕ) (i d : ℕ) → i < length ids → take i ids ++ get_or ids i d ∷ [] ≡ take (i + 1) ids
take_next ids i d within = let plus : suc i ≡ i + 1 = omega arith in sym (take-suc ids i d within) ∙ ap (λ n. take n ids) plus

module _ (Names : ℕ → TextTerm → Type 0) (gone : List ℕ) (nodes values : List Entry) (so_far : AreSplit Names gone nodes values)
    (id : ℕ) (entry : Entry) (is : IsEntryOf Names id entry) (below : (x : ℕ) → Contains gone x → x < id) where
  abbrev more : List Entry → List Entry
  more entries = entries ++ entry ∷ []

  named_more : (kind : TermKind) (entries : List Entry) → AreEntries Names kind entries → entry.term.kind ≡ kind → AreEntries Names kind (more entries)
  named_more kind entries each here =
      All-push (λ e. Names e.id e.term × (e.term.kind ≡ kind) × IsTerm e.term) entries entry each
      (subst (λ n. Names n entry.term) (sym is.id_is) is.names, here, is.is_term)

  rise_more : (entries : List Entry) → IsStrictlySortedBy nat_cmp (ids_of entries) → ((x : ℕ) → Contains (ids_of entries) x → Contains gone x) → IsStrictlySortedBy nat_cmp (ids_of (more entries))
  rise_more entries rise within =
      subst (IsStrictlySortedBy nat_cmp) (sym (ids_more entries entry ∙ ap (λ n. ids_of entries ++ n ∷ []) is.id_is))
      (rises_one (ids_of entries) id rise (λ x h. below x (within x h)))

  in_more : (entries : List Entry) (x : ℕ) → Contains (ids_of (more entries)) x → Contains (ids_of entries) x ⊎ (id ≡ x)
  in_more entries x h = Contains-push_cases (ids_of entries) id x (subst (λ l. Contains l x) (ids_more entries entry ∙ ap (λ n. ids_of entries ++ n ∷ []) is.id_is) h)

  to_more : (entries : List Entry) (x : ℕ) → Contains (ids_of entries) x → Contains (ids_of (more entries)) x
  to_more entries x h = subst (λ l. Contains l x) (sym (ids_more entries entry)) (Contains-append_left (ids_of entries) (entry.id ∷ []) x h)

  last_more : (entries : List Entry) (x : ℕ) → id ≡ x → Contains (ids_of (more entries)) x
  last_more entries x e =
      subst (λ l. Contains l x) (sym (ids_more entries entry)) (subst (λ n. Contains (ids_of entries ++ entry.id ∷ []) n) (is.id_is ∙ e) (Contains-push (ids_of entries) entry.id))

  gone_more : (x : ℕ) → Contains gone x ⊎ (id ≡ x) → Contains (gone ++ id ∷ []) x
  gone_more x (inl h) = Contains-append_left gone (id ∷ []) x h
  gone_more x (inr e) = subst (λ n. Contains (gone ++ id ∷ []) n) e (Contains-push gone id)

  counted_more : (a b : ℕ) → a + b ≡ suc (length nodes + length values) → a + b ≡ length (gone ++ id ∷ [])
  counted_more a b e = let long = length-append gone (id ∷ []) in let counted = so_far.counted in omega arith

  long_more : (entries : List Entry) → length (more entries) ≡ suc (length entries)
  long_more entries = omega (arith, length-append entries (entry ∷ []))

  pub with_node : entry.term.kind ≡ Node → AreSplit Names (gone ++ id ∷ []) (more nodes) values
  with_node here = record {
    nodes_named = named_more Node nodes so_far.nodes_named here;
    values_named = so_far.values_named;
    nodes_rise = rise_more nodes so_far.nodes_rise (λ x h. so_far.within x (inl h));
    values_rise = so_far.values_rise;
    within = λ x h. gone_more x (from x h);
    all = λ x h. to x (Contains-push_cases gone id x h);
    counted = counted_more (length (more nodes)) (length values) (omega (arith, long_more nodes));
  }
    where
      from : (x : ℕ) → Contains (ids_of (more nodes)) x ⊎ Contains (ids_of values) x → Contains gone x ⊎ (id ≡ x)
      from x (inl h) = elim (in_more nodes x h) as (λ _. Contains gone x ⊎ (id ≡ x)) [ inl old ↦ inl (so_far.within x (inl old)) | inr new ↦ inr new ]
      from x (inr h) = inl (so_far.within x (inr h))

      to : (x : ℕ) → Contains gone x ⊎ (id ≡ x) → Contains (ids_of (more nodes)) x ⊎ Contains (ids_of values) x
      to x (inl h) = elim (so_far.all x h) as (λ _. Contains (ids_of (more nodes)) x ⊎ Contains (ids_of values) x) [ inl node ↦ inl (to_more nodes x node) | inr value ↦ inr value ]
      to x (inr e) = inl (last_more nodes x e)

  pub with_value : entry.term.kind ≡ Value → AreSplit Names (gone ++ id ∷ []) nodes (more values)
  with_value here = record {
    nodes_named = so_far.nodes_named;
    values_named = named_more Value values so_far.values_named here;
    nodes_rise = so_far.nodes_rise;
    values_rise = rise_more values so_far.values_rise (λ x h. so_far.within x (inr h));
    within = λ x h. gone_more x (from x h);
    all = λ x h. to x (Contains-push_cases gone id x h);
    counted = counted_more (length nodes) (length (more values)) (omega (arith, long_more values));
  }
    where
      from : (x : ℕ) → Contains (ids_of nodes) x ⊎ Contains (ids_of (more values)) x → Contains gone x ⊎ (id ≡ x)
      from x (inl h) = inl (so_far.within x (inl h))
      from x (inr h) = elim (in_more values x h) as (λ _. Contains gone x ⊎ (id ≡ x)) [ inl old ↦ inl (so_far.within x (inr old)) | inr new ↦ inr new ]

      to : (x : ℕ) → Contains gone x ⊎ (id ≡ x) → Contains (ids_of nodes) x ⊎ Contains (ids_of (more values)) x
      to x (inl h) = elim (so_far.all x h) as (λ _. Contains (ids_of nodes) x ⊎ Contains (ids_of (more values)) x) [ inl node ↦ inl node | inr value ↦ inr (to_more values x value) ]
      to x (inr e) = inr (last_more values x e)

-- a turn of the loop over the numbers
module _ (Names : ℕ → TextTerm → Type 0) (ids : List ℕ) (i d : ℕ) (rise : IsStrictlySortedBy nat_cmp ids) (within : i < length ids) (nodes values : List Entry)
    (so_far : AreSplit Names (take i ids) nodes values) (entry : Entry) (is : IsEntryOf Names (get_or ids i d) entry) where
  pub turn_node : entry.term.kind ≡ Node → AreSplit Names (take (i + 1) ids) (nodes ++ entry ∷ []) values
  turn_node here =
      subst (λ gone. AreSplit Names gone (nodes ++ entry ∷ []) values) (take_next ids i d within)
      (with_node Names (take i ids) nodes values so_far (get_or ids i d) entry is (take_below ids i d rise within) here)

  pub turn_value : entry.term.kind ≡ Value → AreSplit Names (take (i + 1) ids) nodes (values ++ entry ∷ [])
  turn_value here =
      subst (λ gone. AreSplit Names gone nodes (values ++ entry ∷ [])) (take_next ids i d within)
      (with_value Names (take i ids) nodes values so_far (get_or ids i d) entry is (take_below ids i d rise within) here)

pub none_split : (Names : ℕ → TextTerm → Type 0) → AreSplit Names [] [] []
unfolding IsStrictlySortedBy
none_split Names = record {
  nodes_named = All-nil (λ e. Names e.id e.term × (e.term.kind ≡ Node) × IsTerm e.term);
  values_named = All-nil (λ e. Names e.id e.term × (e.term.kind ≡ Value) × IsTerm e.term);
  nodes_rise = tt;
  values_rise = tt;
  within = λ x h. elim h as (λ _. Contains [] x) [ inl a ↦ a | inr b ↦ b ];
  all = λ x h. inl h;
  counted = refl;
}
