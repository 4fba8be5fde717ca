-- Lines of bytes, as texts.
use Rattle.std.proofs.Common.{◌≡◌, ℕ, List, [], ◌∷◌, length, All, IsUtf8, chars, encode_utf8_all, sym, ap, subst, ◌∙◌, arith}
use Rattle.std.specs.Char.{IsScalar}
use Rattle.std.proofs.lemmas.Str.{encodes-chars, chars-nil}
use Rattle.ts_model.specs.declared.term.TermKind.{TermKind}
use Rattle.ts_model.specs.declared.signed.Sign.{Sign}
use Rattle.ts_model.specs.Canonical.{IsCanonical}
use Rattle.ts_model.specs.TextTriple.{TextTriple}
use Rattle.ts_nt.specs.Terms.{TermAt}
use Rattle.ts_nt.specs.TripleText.{IsTripleText}
use Rattle.ts_nt.specs.LineRead.{SpellsTerm}
use Rattle.ts_nt.proofs.ScalarLaws.{All-chars}
use Rattle.ts_nt.proofs.TermLaws.{term_once, term_canonical}
use Rattle.ts_nt.proofs.TripleLaws.{AreCanonical, text_canonical}

pub line_canonical : (line text : List ℕ) (sign : Sign) (triple : TextTriple) → text ≡ line → IsUtf8 line → IsTripleText (chars text) sign triple → AreCanonical triple
line_canonical line text sign triple same utf8 reads =
    text_canonical (chars text) sign triple (subst (λ bytes. All IsScalar (chars bytes)) (sym same) (All-chars line utf8)) reads

module _ (bytes text : List ℕ) (same : text ≡ bytes) (utf8 : IsUtf8 bytes) (kind : TermKind) (spelling rest : List ℕ) (reads : TermAt kind (chars text) spelling rest) where
  pub spelling_canonical : IsCanonical kind spelling
  spelling_canonical = (term_canonical kind (chars text) spelling rest (subst (λ b. All IsScalar (chars b)) (sym same) (All-chars bytes utf8)) reads).0

  pub whole_spelling : rest ≡ [] → SpellsTerm bytes kind spelling
  whole_spelling none = (utf8, subst (λ r. TermAt kind (chars bytes) spelling r) none (subst (λ b. TermAt kind (chars b) spelling rest) same reads))

  -- the bytes spell this alone
  pub spelled_once : (other : List ℕ) → SpellsTerm bytes kind other → (other ≡ spelling) × ([] ≡ rest)
  spelled_once other spells = term_once kind (chars text) other spelling [] rest (subst (λ b. TermAt kind (chars b) other []) (sym same) spells.1) reads

-- a text with no character has no byte
pub nothing_left : (rest : List ℕ) → IsUtf8 rest → [] ≡ chars rest → length rest ≡ 0
nothing_left rest utf8 none = ap length (sym (encodes-chars rest utf8)) ∙ ap (λ cs. length (encode_utf8_all cs)) (sym none)

pub no_characters : (rest : List ℕ) → length rest ≡ 0 → chars rest ≡ []
no_characters [] none = chars-nil
no_characters (b ∷ rest) none = absurd (omega arith)
