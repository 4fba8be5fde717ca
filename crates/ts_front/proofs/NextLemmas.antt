use Rattle.std.proofs.Common.{◌≡◌, ◌≢◌, ℕ, ◌+◌, ◌-◌, ◌*◌, ◌/◌, ◌%◌, ◌<◌, ◌≤◌, ◌==◌, List, [], ◌∷◌, ◌++◌, length, take, drop, sym, ◌∙◌, ap, subst, arith, length-append, length-take-le, get_or, set}
use Rattle.std.specs.Cmp.Lexicographic.{slice_cmp}
use Rattle.std.specs.Ordering.{nat_cmp}
use Rattle.std.specs.declared.cmp.Ordering.TheVariants.{Less}
use Rattle.std.proofs.lemmas.Bool.{ne_eqb, eq-eqb}
use Rattle.std.proofs.lemmas.List.{drop_at}
use Rattle.ts_vbyte.specs.Spelling.{spelling}
use Rattle.ts_front.specs.Shared.{shared_length, text_at}
use Rattle.ts_front.specs.Dictionary.{whole, added, entry_bytes, place_of}
use Rattle.ts_front.specs.declared.piece.Piece.{Piece}
use Rattle.ts_front.specs.Made.{made_by, Fit}
use Rattle.ts_front.specs.Pieces.{before_at, shared_at, piece_bytes, IsBody, Reads, FirstBelow}
use Rattle.ts_front.proofs.SharedLemmas.{made_greater}
use Rattle.ts_front.proofs.EntriesLemmas.{Found, found_piece, suffix_first, piece_first, entry_first, entry_other, piece_other, before_other, shared_fits, text_before, text_last}
use Rattle.ts_front.proofs.ReadsLemmas.{Candidate, candidate, body_stands, start_of, adds_greater, reads_more, pieces_before, pieces_whole}
use Rattle.ts_front.proofs.RisingLemmas.{rising_at}
use Rattle.ts_front.proofs.MadeByLemmas.{fit_none}

-- a text that is made of the last one and of what begins greater than it leaves has these bytes
pub entry_of_piece : (texts : List (List ℕ)) (i shared : ℕ) (suffix : List ℕ) → length texts ≡ i → i % 8 ≢ 0
    → shared ≤ length (text_at texts (i - 1)) → FirstBelow (drop shared (text_at texts (i - 1))) suffix
    → entry_bytes (texts ++ (take shared (text_at texts (i - 1)) ++ suffix) ∷ []) i ≡ piece_bytes (i % 8 == 0) shared suffix
unfolding added
entry_of_piece texts i shared suffix many other fits below =
    let last : List ℕ = text_at texts (i - 1) in
    let text : List ℕ = take shared last ++ suffix in
    let all : List (List ℕ) = texts ++ text ∷ [] in
    let made : (shared_length last text ≡ shared) × (slice_cmp nat_cmp last text ≡ Less) = made_greater shared last suffix fits below in
    let rest : drop shared text ≡ suffix = drop_at (take shared last) suffix shared (length-take-le shared last fits) in
    entry_other all i other
    ∙ ap (λ b. added b (text_at all i)) (text_before texts text (i - 1) (omega arith))
    ∙ ap (added last) (text_last texts text i many)
    ∙ ap (λ s. spelling s ++ whole (drop s text)) made.0
    ∙ ap (λ r. spelling shared ++ whole r) rest
    ∙ sym (piece_other shared suffix)
    ∙ ap (λ h. piece_bytes h shared suffix) (sym (ne_eqb (i % 8) 0 other))

-- what a reader finds of a candidate's entry that begins no block
pub record Other (texts us : List (List ℕ)) (i shared : ℕ) (suffix : List ℕ) : Type 0 where
  pub before : text_at texts (i - 1) ≡ text_at us (i - 1)
  pub shares : shared ≡ shared_at us i
  pub fits : shared ≤ length (text_at texts (i - 1))
  pub below : FirstBelow (drop shared (text_at texts (i - 1))) suffix

pub other_found : (starts body : List ℕ) (pieces : List Piece) (texts us : List (List ℕ)) (place last i next shared : ℕ) (suffix : List ℕ)
    → Reads starts body pieces texts place last → length texts ≡ i → IsBody starts body us → i < length us → i % 8 ≢ 0
    → (place ≤ next) × (next ≤ length body) × (take (next - place) (drop place body) ≡ piece_bytes (i % 8 == 0) shared suffix) × (i % 8 ≡ 0 → shared ≡ 0)
    → Other texts us i shared suffix
other_found starts body pieces texts us place last i next shared suffix r many is h other read =
    let known : Candidate body texts us i place = candidate starts body pieces texts us place last i r many is (omega arith) in
    let found : Found us i place next shared suffix =
    found_piece us body i place next shared suffix (body_stands starts body us i is h) known.placed read.0 read.1 read.2 read.3 in
    let before : text_at texts (i - 1) ≡ text_at us (i - 1) = known.same (i - 1) (omega arith) in
    let spelled : before_at us i ≡ text_at us (i - 1) = before_other us i other in
    record {
      before = before;
      shares = found.shares;
      fits = omega (arith, found.shares, shared_fits us i, ap length spelled, ap length before);
      below =
          subst (λ t. FirstBelow (drop shared t) suffix) (sym before)
          (subst (λ s. FirstBelow (drop s (text_at us (i - 1))) suffix) (sym found.shares)
          (subst (λ r. FirstBelow (drop (shared_at us i) (text_at us (i - 1))) r) (sym found.adds) (adds_greater us i is.rising other h)));
    }

-- what a reader finds of a candidate's entry that begins a block
pub record First (starts : List ℕ) (pieces : List Piece) (i place : ℕ) (text : List ℕ) : Type 0 where
  pub starts_here : get_or starts (i / 8) 0 ≡ place
  pub greater : 0 < i → slice_cmp nat_cmp (made_by pieces) text ≡ Less

pub first_found : (starts body : List ℕ) (pieces : List Piece) (texts us : List (List ℕ)) (place last i next shared : ℕ) (text : List ℕ)
    → Reads starts body pieces texts place last → length texts ≡ i → IsBody starts body us → i < length us → i % 8 ≡ 0 → length pieces ≤ 8
    → (place ≤ next) × (next ≤ length body) × (take (next - place) (drop place body) ≡ piece_bytes (i % 8 == 0) shared text) × (i % 8 ≡ 0 → shared ≡ 0)
    → First starts pieces i place text
first_found starts body pieces texts us place last i next shared text r many is h first few read =
    let known : Candidate body texts us i place = candidate starts body pieces texts us place last i r many is (omega arith) in
    let found : Found us i place next shared text =
    found_piece us body i place next shared text (body_stands starts body us i is h) known.placed read.0 read.1 read.2 read.3 in
    let here : text ≡ text_at us i = found.adds ∙ suffix_first us i first in
    record {
      starts_here =
          start_of starts body us (i / 8) is (omega arith) ∙ ap (place_of us) (let e : 8 * (i / 8) ≡ i = omega arith in e) ∙ sym known.placed;
      greater = (λ some.
          ap (λ t. slice_cmp nat_cmp t text) ((pieces_whole starts body pieces texts place last i r many first some few).1 ∙ known.same (i - 1) (omega arith))
          ∙ ap (slice_cmp nat_cmp (text_at us (i - 1))) here ∙ rising_at us (i - 1) i is.rising (omega arith) h);
    }

-- a first entry more
pub first_more : (starts body : List ℕ) (pieces : List Piece) (texts : List (List ℕ)) (place last i next : ℕ) (piece : Piece)
    → Reads starts body pieces texts place last → length texts ≡ i → i % 8 ≡ 0 → length pieces ≡ 8
    → (place ≤ next) × (next ≤ length body) × (take (next - place) (drop place body) ≡ piece_bytes (i % 8 == 0) piece.shared piece.suffix.now) × (i % 8 ≡ 0 → piece.shared ≡ 0)
    → (get_or starts (i / 8) 0 ≡ place) × (0 < i → slice_cmp nat_cmp (made_by pieces) piece.suffix.now ≡ Less)
    → (all : List (List ℕ)) × ((length all ≡ i + 1) × Reads starts body (set pieces (i % 8) piece) all next (piece.shared + length piece.suffix.now))
first_more starts body pieces texts place last i next piece r many first eight read fits =
    let text : List ℕ = piece.suffix.now in
    let head : piece_bytes (i % 8 == 0) piece.shared text ≡ whole text =
    ap (λ b. piece_bytes b piece.shared text) (eq-eqb (i % 8) 0 first) ∙ piece_first piece.shared text in
    let entry : entry_bytes (texts ++ text ∷ []) i ≡ whole text = entry_first (texts ++ text ∷ []) i first ∙ ap whole (text_last texts text i many) in
    let none : take (i % 8) pieces ≡ [] = ap (λ n. take n pieces) first in
    let long : length text ≡ piece.shared + length text = omega (arith, read.3 first) in
    subst (λ n. (all : List (List ℕ)) × ((length all ≡ i + 1) × Reads starts body (set pieces (i % 8) piece) all next n)) long
    (reads_more starts body pieces texts place last i next piece text r many (omega arith) read.0 read.1 (read.2 ∙ head ∙ sym entry)
    (λ some. ap (λ t. slice_cmp nat_cmp t text) (sym (pieces_whole starts body pieces texts place last i r many first some (omega arith)).1) ∙ fits.1 some)
    (λ _. fits.0)
    (subst Fit (sym none) fit_none)
    (omega (arith, read.3 first))
    (ap (λ n. take n (made_by (take (i % 8) pieces)) ++ text) (sym (read.3 first))))

-- another entry more
pub other_more : (starts body : List ℕ) (pieces : List Piece) (texts : List (List ℕ)) (place last i next : ℕ) (piece : Piece)
    → Reads starts body pieces texts place last → length texts ≡ i → i % 8 ≢ 0 → length pieces ≡ 8
    → (place ≤ next) × (next ≤ length body) × (take (next - place) (drop place body) ≡ piece_bytes (i % 8 == 0) piece.shared piece.suffix.now) × (i % 8 ≡ 0 → piece.shared ≡ 0)
    → (piece.shared ≤ last) × FirstBelow (drop piece.shared (made_by (take (i % 8) pieces))) piece.suffix.now
    → (all : List (List ℕ)) × ((length all ≡ i + 1) × Reads starts body (set pieces (i % 8) piece) all next (piece.shared + length piece.suffix.now))
other_more starts body pieces texts place last i next piece r many other eight read fits =
    let before = pieces_before starts body pieces texts place last i r many other in
    let old : List ℕ = text_at texts (i - 1) in
    let suffix : List ℕ = piece.suffix.now in
    let text : List ℕ = take piece.shared old ++ suffix in
    let within : piece.shared ≤ length old = omega (arith, fits.0, r.last_length, ap (λ n. length (text_at texts (n - 1))) many) in
    let below : FirstBelow (drop piece.shared old) suffix = subst (λ t. FirstBelow (drop piece.shared t) suffix) before.1 fits.1 in
    let made : (shared_length old text ≡ piece.shared) × (slice_cmp nat_cmp old text ≡ Less) = made_greater piece.shared old suffix within below in
    let long : length text ≡ piece.shared + length suffix =
    length-append (take piece.shared old) suffix ∙ ap (λ n. n + length suffix) (length-take-le piece.shared old within) in
    subst (λ n. (all : List (List ℕ)) × ((length all ≡ i + 1) × Reads starts body (set pieces (i % 8) piece) all next n)) long
    (reads_more starts body pieces texts place last i next piece text r many (omega arith) read.0 read.1
    (read.2 ∙ sym (entry_of_piece texts i piece.shared suffix many other within below))
    (λ some. made.1)
    (λ first. absurd (other first))
    before.0
    (omega (arith, ap length before.1, within))
    (ap (λ t. take piece.shared t ++ suffix) (sym before.1)))
