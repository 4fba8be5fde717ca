use Rattle.std.proofs.Common.{◌≡◌, ◌≢◌, ℕ, zero, suc, ◌+◌, ◌-◌, ◌*◌, ◌/◌, ◌%◌, ◌^◌, ◌<◌, ◌≤◌, List, [], ◌∷◌, length, get_or, take, drop, ◌⊎◌, inl, inr, refl, sym, ◌∙◌, ap, subst, arith, pow-suc}
use Rattle.std.proofs.lemmas.Nat.{mul-add-lt, pow-add}
use Rattle.std.proofs.Math.Nat.{pow-le-pow_right, mod-eq_of_lt}
use Rattle.std.proofs.lemmas.Bool.{cases_eq}
use Rattle.std.proofs.lemmas.List.{drop_more, length-take, length-drop}
use Rattle.ts_vbyte.specs.Spelling.{spelling, NumberSays}
use Rattle.ts_vbyte.proofs.SpellingLemmas.{spelling_last, spelling_more, begins_last, begins_more, some_bytes}

-- what the first `read` bytes, none of which ends a number, leave to read of a spelling that begins there
pub record Rest (bytes : List ℕ) (read value size x : ℕ) : Type 0 where
  pub more : ℕ
  pub above : ℕ
  pub sized : size ≡ read + more
  pub goes_on : take more (drop read bytes) ≡ spelling above
  pub made : x ≡ value + above * 128 ^ read
  pub some : (read ≡ 0) ⊎ (0 < above)

-- the first `read` bytes are the lowest groups of a number, `value`, and the spellings that begin with them are those of the numbers above
pub record IsRead (bytes : List ℕ) (read value : ℕ) : Type 0 where
  pub low : value < 128 ^ read
  pub up : (more above : ℕ) → (read ≡ 0) ⊎ (0 < above) → take more (drop read bytes) ≡ spelling above
      → take (read + more) bytes ≡ spelling (value + above * 128 ^ read)
  pub down : (size x : ℕ) → take size bytes ≡ spelling x → Rest bytes read value size x

pub read_start : (bytes : List ℕ) → IsRead bytes 0 0
read_start bytes = record {
  low = omega arith;
  up = (λ more above s e. ap (λ n. take n bytes) (let g : 0 + more ≡ more = omega arith in g) ∙ e ∙ ap spelling (let g : above ≡ 0 + above * 128 ^ 0 = omega arith in g));
  down = (λ size x e. record { more = size; above = x; sized = omega arith; goes_on = e; made = omega arith; some = inl refl });
}

-- a byte that is read next
taken : (bytes : List ℕ) (read more : ℕ) → read < length bytes
    → take (suc more) (drop read bytes) ≡ get_or bytes read 0 ∷ take more (drop (read + 1) bytes)
taken bytes read more h = ap (take (suc more)) (drop_more bytes read 0 h)

-- what is left to read begins with a byte
rest_begins : (bytes : List ℕ) (read value size x : ℕ) → read < length bytes → (d : Rest bytes read value size x)
    → (m : ℕ) × ((d.more ≡ suc m) × (spelling d.above ≡ get_or bytes read 0 ∷ take m (drop (read + 1) bytes)))
rest_begins bytes read value size x h d =
    elim (cases_eq d.more 0) [
      | inl none ↦
          let nothing : take d.more (drop read bytes) ≡ [] = ap (λ n. take n (drop read bytes)) none in
          absurd (omega (arith, some_bytes d.above, ap length (sym nothing ∙ d.goes_on)))
      | inr some ↦
          let next : d.more ≡ suc (d.more - 1) = omega arith in
          (d.more - 1, (next, sym d.goes_on ∙ ap (λ n. take n (drop read bytes)) next ∙ taken bytes read (d.more - 1) h))
    ]

-- a byte that ends no number
pub read_more : (bytes : List ℕ) (read value : ℕ) → IsRead bytes read value → read < length bytes → get_or bytes read 0 < 128
    → IsRead bytes (read + 1) (value + get_or bytes read 0 * 128 ^ read)
read_more bytes read value r h k =
    let byte : ℕ = get_or bytes read 0 in
    let row : 128 ^ (read + 1) ≡ 128 ^ read * 128 = ap (λ n. 128 ^ n) (let g : read + 1 ≡ suc read = omega arith in g) ∙ pow-suc 128 read in
    record {
      low = omega (arith, mul-add-lt byte (128 ^ read) value 128 k r.low);
      up = (λ more above s e.
          let some : 0 < above = elim s [ inl none ↦ absurd (omega arith) | inr some ↦ some ] in
          let whole : ℕ = byte + above * 128 in
          let low : whole % 128 ≡ byte = omega arith in
          let high : whole / 128 ≡ above = omega arith in
          let spelled : spelling whole ≡ byte ∷ spelling above =
          spelling_more whole (omega arith) ∙ ap (λ b. b ∷ spelling (whole / 128)) low ∙ ap (λ y. byte ∷ spelling y) high in
          let before : take (read + suc more) bytes ≡ spelling (value + whole * 128 ^ read) =
          r.up (suc more) whole (inr (omega arith)) (taken bytes read more h ∙ ap (λ t. byte ∷ t) e ∙ sym spelled) in
          let scaled : above * 128 ^ (read + 1) ≡ above * (128 ^ read * 128) = ap (λ p. above * p) row in
          ap (λ n. take n bytes) (let g : read + 1 + more ≡ read + suc more = omega arith in g)
          ∙ before ∙ ap spelling (let g : value + whole * 128 ^ read ≡ value + byte * 128 ^ read + above * 128 ^ (read + 1) = omega arith in g));
      down = (λ size x e.
          let d : Rest bytes read value size x = r.down size x e in
          let next : (m : ℕ) × ((d.more ≡ suc m) × (spelling d.above ≡ byte ∷ take m (drop (read + 1) bytes))) =
          rest_begins bytes read value size x h d in
          let parts : (128 ≤ d.above) × (byte ≡ d.above % 128) × (spelling (d.above / 128) ≡ take next.0 (drop (read + 1) bytes)) =
          begins_more d.above byte (take next.0 (drop (read + 1) bytes)) next.1.1 k in
          let whole : d.above ≡ byte + d.above / 128 * 128 = omega arith in
          let scaled : d.above * 128 ^ read ≡ (byte + d.above / 128 * 128) * 128 ^ read = ap (λ n. n * 128 ^ read) whole in
          let rows : d.above / 128 * 128 ^ (read + 1) ≡ d.above / 128 * (128 ^ read * 128) = ap (λ p. d.above / 128 * p) row in
          record {
            more = next.0;
            above = d.above / 128;
            sized = omega (arith, d.sized, next.1.0);
            goes_on = sym parts.2;
            made = omega (arith, d.made);
            some = inr (omega arith);
          });
    }

-- a byte that ends one
pub read_last : (bytes : List ℕ) (read value : ℕ) → IsRead bytes read value → read < length bytes → 128 ≤ get_or bytes read 0
    → (read ≡ 0) ⊎ (0 < get_or bytes read 0 - 128)
    → get_or bytes read 0 < 256 → take (read + 1) bytes ≡ spelling (value + (get_or bytes read 0 - 128) * 128 ^ read)
read_last bytes read value r h k some fits =
    let byte : ℕ = get_or bytes read 0 in
    let group : ℕ = byte - 128 in
    let mark : byte ≡ 128 + group = omega arith in
    r.up 1 group some (taken bytes read 0 h ∙ ap (λ b. b ∷ []) mark ∙ sym (spelling_last group (omega arith)))

-- no number ends with an empty group, but for 0
pub read_empty : (bytes : List ℕ) (read value : ℕ) → IsRead bytes read value → read < length bytes → 0 < read → get_or bytes read 0 ≡ 128
    → (size x : ℕ) → take size bytes ≡ spelling x → ⊥
read_empty bytes read value r h p k size x e =
    let d : Rest bytes read value size x = r.down size x e in
    let byte : ℕ = get_or bytes read 0 in
    let next : (m : ℕ) × ((d.more ≡ suc m) × (spelling d.above ≡ byte ∷ take m (drop (read + 1) bytes))) = rest_begins bytes read value size x h d in
    let last : (byte ≡ 128 + d.above) × (take next.0 (drop (read + 1) bytes) ≡ []) =
    begins_last d.above byte (take next.0 (drop (read + 1) bytes)) next.1.1 (omega arith) in
    elim d.some [ inl start ↦ omega arith | inr some ↦ omega (arith, last.0) ]

-- no number is cut
pub read_cut : (bytes : List ℕ) (read value : ℕ) → IsRead bytes read value → length bytes ≤ read → (size x : ℕ) → take size bytes ≡ spelling x → ⊥
read_cut bytes read value r h size x e =
    let d : Rest bytes read value size x = r.down size x e in
    let nothing : length (take d.more (drop read bytes)) ≡ 0 = omega (arith, length-take d.more (drop read bytes), length-drop read bytes) in
    omega (arith, some_bytes d.above, ap length d.goes_on)

-- the tenth byte of a number of 64 bits
pub read_tenth : (bytes : List ℕ) (value : ℕ) → IsRead bytes 9 value → 9 < length bytes → get_or bytes 9 0 ≢ 129
    → (size x : ℕ) → NumberSays (take size bytes) x → ⊥
read_tenth bytes value r h k size x says =
    let d : Rest bytes 9 value size x = r.down size x says.spelled in
    let byte : ℕ = get_or bytes 9 0 in
    let next : (m : ℕ) × ((d.more ≡ suc m) × (spelling d.above ≡ byte ∷ take m (drop (9 + 1) bytes))) = rest_begins bytes 9 value size x h d in
    let some : 0 < d.above = elim d.some [ inl start ↦ absurd (omega arith) | inr some ↦ some ] in
    let one : d.above ≡ 1 = omega (arith, d.made, says.fits) in
    let both : byte ∷ take next.0 (drop (9 + 1) bytes) ≡ 129 ∷ [] = sym next.1.1 ∙ ap spelling one ∙ spelling_last 1 (omega arith) in
    k cc

-- a group, shifted to its place
pow128 : (k : ℕ) → 2 ^ (7 * k) ≡ 128 ^ k
pow128 zero = refl
pow128 (suc k) =
    ap (λ n. 2 ^ n) (let g : 7 * suc k ≡ 7 * k + 7 = omega arith in g) ∙ pow-add 2 (7 * k) 7
    ∙ ap (λ n. n * 2 ^ 7) (pow128 k) ∙ sym (pow-suc 128 k)

group_small : (group read value : ℕ) → group < 128 → value < 128 ^ read → read < 9 → group * 128 ^ read + value < 2 ^ 63
group_small group read value h k l =
    let row : 128 ^ suc read ≡ 128 ^ read * 128 = pow-suc 128 read in
    let most : 128 ^ suc read ≤ 128 ^ 9 = let le : suc read ≤ 9 = omega arith in pow-le-pow_right {n = 128} (omega arith) le in
    omega (arith, mul-add-lt group (128 ^ read) value 128 h k)

pub shifted : (group read : ℕ) → group < 128 → read < 9 → group * 2 ^ (7 * read) % 2 ^ 64 ≡ group * 128 ^ read
shifted group read h l =
    let none : 0 < 128 ^ read = let le : 0 ≤ read = omega arith in omega (arith, pow-le-pow_right {n = 128} (omega arith) le) in
    ap (λ p. group * p % 2 ^ 64) (pow128 read) ∙ mod-eq_of_lt (omega (arith, group_small group read 0 h none l))

pub value_fits : (bytes : List ℕ) (group read value : ℕ) → IsRead bytes read value → group < 128 → read < 9 → value + group * 128 ^ read < 2 ^ 64
value_fits bytes group read value r h l = omega (arith, group_small group read value h r.low l)

-- the tenth byte of the numbers from 2 ^ 63 on
pub tenth_says : (bytes : List ℕ) (read value : ℕ) → IsRead bytes read value → read ≡ 9 → read < length bytes → get_or bytes read 0 ≡ 129
    → (10 ≤ length bytes) × NumberSays (take 10 bytes) (value + 2 ^ 63)
tenth_says bytes read value r e h b =
    let some : (read ≡ 0) ⊎ (0 < get_or bytes read 0 - 128) = inr (omega arith) in
    let last : take (read + 1) bytes ≡ spelling (value + (get_or bytes read 0 - 128) * 128 ^ read) =
    read_last bytes read value r h (omega arith) some (omega arith) in
    let ten : read + 1 ≡ 10 = omega arith in
    let one : get_or bytes read 0 - 128 ≡ 1 = omega arith in
    let whole : value + (get_or bytes read 0 - 128) * 128 ^ read ≡ value + 2 ^ 63 =
    ap (λ n. value + n * 128 ^ read) one ∙ ap (λ k. value + 1 * 128 ^ k) e in
    let low : value < 128 ^ 9 = subst (λ k. value < 128 ^ k) e r.low in (
      omega arith,
      record {
        spelled = ap (λ n. take n bytes) (sym ten) ∙ last ∙ ap spelling whole;
        fits = omega arith;
      },
    )

pub tenth_refused : (bytes : List ℕ) (read value : ℕ) → IsRead bytes read value → read ≡ 9 → read < length bytes → get_or bytes read 0 ≢ 129
    → (size x : ℕ) → NumberSays (take size bytes) x → ⊥
tenth_refused bytes read value r e h b =
    read_tenth bytes value (subst (λ k. IsRead bytes k value) e r) (omega arith) (λ same. b (ap (λ k. get_or bytes k 0) e ∙ same))

-- the last byte of a number below 2 ^ 63
pub last_says : (bytes : List ℕ) (read value : ℕ) → IsRead bytes read value → read < length bytes → read < 9
    → 128 ≤ get_or bytes read 0 → get_or bytes read 0 < 256 → (read ≡ 0) ⊎ (0 < get_or bytes read 0 % 128)
    → NumberSays (take (read + 1) bytes) (value + get_or bytes read 0 % 128 * 128 ^ read)
last_says bytes read value r h l k fits some =
    let group : get_or bytes read 0 - 128 ≡ get_or bytes read 0 % 128 = omega arith in
    record {
      spelled = rw (← group) (read_last bytes read value r h k (rw group some) fits);
      fits = value_fits bytes (get_or bytes read 0 % 128) read value r (omega arith) l;
    }

-- a byte before the last
pub more_read : (bytes : List ℕ) (read value : ℕ) → IsRead bytes read value → read < length bytes → get_or bytes read 0 < 128
    → IsRead bytes (read + 1) (value + get_or bytes read 0 % 128 * 128 ^ read)
more_read bytes read value r h k =
    let group : get_or bytes read 0 % 128 ≡ get_or bytes read 0 = omega arith in
    rw group (read_more bytes read value r h k)
