-- Tokens by suffix are the tokens at their places.
use Rattle.std.proofs.Common.{◌≡◌, ℕ, zero, suc, ◌+◌, ◌-◌, ◌≤◌, ◌<◌, Bool, true, false, List, [], ◌∷◌, length}
use Rattle.std.proofs.Common.{get_or, drop, arith, refl, sym, ap, subst, ◌∙◌, length-drop, get_or-drop}
use Rattle.std.specs.Prelude.{All, ◌==◌, ◌||◌, slice_range}
use Rattle.std.proofs.lemmas.List.Elements.{All-nil, All-cons, All-head, All-tail}
use Rattle.std.proofs.lemmas.List.{drop-drop, drop_all, nil_from_length}
use Rattle.x_lex.specs.declared.kind.Kind.{Kind}
use Rattle.x_lex.specs.Word.{IsWord, IsToken}
use Rattle.x_lex.specs.Scan.{scan}
use Rattle.x_lex.specs.Tiling.{Tiles, AreTokens, starts_after}
use Rattle.x_lex.specs.Places.{Lexeme, lexeme_at, lexemes, lexemes_from, is_line_start, IsTokenAt, IsLexeme}
use Rattle.x_lex.specs.Places.{Follow, TilesByPlace}
use Rattle.x_lex.proofs.ScanLemmas.{scan_token}
use Rattle.x_lex.proofs.TilingLemmas.{token_spans}

-- a token by suffix is the token at its place
pub token_place : (text : List ℕ) (kind : Kind) (at end : ℕ) (start : Bool) → start ≡ is_line_start text at
    → at < end → IsToken kind start (drop at text) (end - at) → IsTokenAt text kind at end
token_place text kind at end start e lt t = record {
  word = subst (λ s. IsWord kind s (drop at text) (end - at)) e t.word;
  longest = λ other place w.
      let l = t.longest other (place - at)
      (subst (λ s. IsWord other s (drop at text) (place - at)) (sym e) w) in omega (arith, l);
}

-- the token at a place is one by suffix
pub place_token : (text : List ℕ) (kind : Kind) (at end : ℕ) → IsTokenAt text kind at end
    → IsToken kind (is_line_start text at) (drop at text) (end - at)
place_token text kind at end t = record {
  word = t.word;
  longest = λ other m w.
      let e : m ≡ at + m - at = omega arith in
      let l = t.longest other (at + m)
      (subst (λ n. IsWord other (is_line_start text at) (drop at text) n) e w) in
      omega (arith, l);
}

-- the line start behind a token
pub starts_place : (text : List ℕ) (at len : ℕ) → 0 < len
    → starts_after (drop at text) len ≡ is_line_start text (at + len)
starts_place text at zero pos = absurd (omega arith)
starts_place text at (suc n) pos =
    let e : at + (suc n - 1) ≡ at + suc n - 1 = omega arith in
    let f : (at + suc n == 0) ≡ false = grind arith in
    ap (λ b. b == 10) (get_or-drop at text (suc n - 1) 0 ∙ ap (λ i. get_or text i 0) e)
    ∙ ap (λ b. b || get_or text (at + suc n - 1) 0 == 10) (sym f)

module _ (text : List ℕ) where
  follow_of : (start : Bool) (at : ℕ) (ts : List (Kind × ℕ)) → at ≤ length text
      → Tiles start (drop at text) ts → Follow at (lexemes_from text at ts) (length text)
  follow_of start at [] le h = let e = ap length h in let l = length-drop at text in omega (arith, e, l)
  follow_of start at (t ∷ ts) le h =
      let s = token_spans t.0 start (drop at text) t.1 h.0 in
      let some : 0 < t.1 = s.some in
      let l = length-drop at text in
      let fit : at + t.1 ≤ length text = let w = s.within in omega (arith, w, l) in (
        refl,
        omega arith,
        follow_of (starts_after (drop at text) t.1) (at + t.1) ts fit
            (subst (λ r. Tiles (starts_after (drop at text) t.1) r ts) (drop-drop t.1 at text) h.1),
      )

  each_of : (start : Bool) (at : ℕ) (ts : List (Kind × ℕ)) → start ≡ is_line_start text at
      → Tiles start (drop at text) ts → All (IsLexeme text) (lexemes_from text at ts)
  each_of start at [] e h = All-nil (IsLexeme text)
  each_of start at (t ∷ ts) e h =
      let s = token_spans t.0 start (drop at text) t.1 h.0 in
      let some : 0 < t.1 = s.some in
      let len : t.1 ≡ at + t.1 - at = omega arith in
      let here : IsTokenAt text t.0 at (at + t.1) = token_place text t.0 at (at + t.1) start e (omega arith)
      (subst (λ n. IsToken t.0 start (drop at text) n) len h.0) in
      All-cons (IsLexeme text) (lexeme_at text (t.0, at, at + t.1)) (lexemes_from text (at + t.1) ts)
      (record { token = here; bytes = refl })
      (each_of (starts_after (drop at text) t.1) (at + t.1) ts (starts_place text at t.1 some)
      (subst (λ r. Tiles (starts_after (drop at text) t.1) r ts) (drop-drop t.1 at text) h.1))

  -- the tokens that the lexemes are, from a place on
  record Spelled (at : ℕ) (ls : List Lexeme) : Type 0 where
    tokens : List (Kind × ℕ)
    tiles : Tiles (is_line_start text at) (drop at text) tokens
    same : ls ≡ lexemes_from text at tokens

  spelled_more : (l : Lexeme) (ls : List Lexeme) (at len : ℕ) → l.start ≡ at → l.end ≡ at + len → 0 < len
      → IsLexeme text l → Spelled (at + len) ls → Spelled at (l ∷ ls)
  spelled_more l ls at len from to pos h s = record {
    tokens = (l.kind, len) ∷ s.tokens;
    tiles = (
      here,
      subst (λ b. Tiles b (drop len (drop at text)) s.tokens) (sym (starts_place text at len pos))
          (subst (λ r. Tiles (is_line_start text (at + len)) r s.tokens)
          (sym (drop-drop len at text)) s.tiles),
    );
    same = λ i. record {
      kind = l.kind;
      start = from i;
      end = to i;
      text = (h.bytes ∙ λ j. slice_range text (from j) (to j)) i;
    } ∷ s.same i;
  }
    where
      here : IsToken l.kind (is_line_start text at) (drop at text) len
      here =
          let place : IsTokenAt text l.kind at (at + len) = subst (λ e. IsTokenAt text l.kind at e) to
          (subst (λ b. IsTokenAt text l.kind b l.end) from h.token) in
          let e : at + len - at ≡ len = omega arith in
          subst (λ n. IsToken l.kind (is_line_start text at) (drop at text) n) e
          (place_token text l.kind at (at + len) place)

  spelled : (at : ℕ) (ls : List Lexeme) → Follow at ls (length text) → All (IsLexeme text) ls → Spelled at ls
  spelled at [] f h =
      record {
        tokens = [];
        tiles = drop_all at text (let e : at ≡ length text = f in omega arith);
        same = refl;
      }
  spelled at (l ∷ ls) f h =
      let from : l.start ≡ at = f.0 in
      let lt : l.start < l.end = f.1 in
      let to : l.end ≡ at + (l.end - at) = omega arith in
      spelled_more l ls at (l.end - at) from to (omega arith) (All-head (IsLexeme text) l ls h)
      (subst (λ n. Spelled n ls) to (spelled l.end ls f.2 (All-tail (IsLexeme text) l ls h)))

  lexemes_same : (at : ℕ) (ts us : List (Kind × ℕ))
      → lexemes_from text at ts ≡ lexemes_from text at us → ts ≡ us
  lexemes_same at [] [] e = refl
  lexemes_same at [] (u ∷ us) e = (cc)
  lexemes_same at (t ∷ ts) [] e = (cc)
  lexemes_same at (t ∷ ts) (u ∷ us) e =
      let head : lexeme_at text (t.0, at, at + t.1) ≡ lexeme_at text (u.0, at, at + u.1) = (cc) in
      let tail : lexemes_from text (at + t.1) ts ≡ lexemes_from text (at + u.1) us = (cc) in
      let kind : t.0 ≡ u.0 = ap (λ l. l.kind) head in
      let end : at + t.1 ≡ at + u.1 = ap (λ l. l.end) head in
      let len : t.1 ≡ u.1 = omega arith in
      let others : ts ≡ us =
      lexemes_same (at + t.1) ts us (tail ∙ ap (λ n. lexemes_from text (at + n) us) (sym len)) in
      λ i. (kind i, len i) ∷ others i

  pub by_place : (ts : List (Kind × ℕ)) → AreTokens text ts → TilesByPlace text (lexemes text ts)
  by_place ts h = record { follow = follow_of true 0 ts (omega arith) h; each = each_of true 0 ts refl h }

  -- lexemes that tile the text by place are those of its tokens
  pub record Found (ls : List Lexeme) : Type 0 where
    pub tokens : List (Kind × ℕ)
    pub are : AreTokens text tokens
    pub same : ls ≡ lexemes text tokens

  pub from_places : (ls : List Lexeme) → TilesByPlace text ls → Found ls
  from_places ls h =
      let s = spelled 0 ls h.follow h.each in record { tokens = s.tokens; are = s.tiles; same = s.same }

  pub from_own_places : (ts : List (Kind × ℕ)) → TilesByPlace text (lexemes text ts) → AreTokens text ts
  from_own_places ts h =
      let f = from_places (lexemes text ts) h in
      subst (λ us. AreTokens text us) (sym (lexemes_same 0 ts f.tokens f.same)) f.are

-- the tokens of what is left of a text
tokens_of : (fuel : ℕ) (start : Bool) (rest : List ℕ) → length rest ≤ fuel
    → (ts : List (Kind × ℕ)) × Tiles start rest ts
tokens_of zero start rest le = ([], nil_from_length rest (omega arith))
tokens_of (suc fuel) start [] le = ([], refl)
tokens_of (suc fuel) start (b ∷ bs) le =
    let t : Kind × ℕ = scan start (b ∷ bs) in
    let token : IsToken (scan start (b ∷ bs)).0 start (b ∷ bs) (scan start (b ∷ bs)).1 =
    scan_token start (b ∷ bs) (omega arith) in
    let some = (token_spans (scan start (b ∷ bs)).0 start (b ∷ bs) (scan start (b ∷ bs)).1 token).some in
    let l = length-drop (scan start (b ∷ bs)).1 (b ∷ bs) in
    let others = tokens_of fuel (starts_after (b ∷ bs) (scan start (b ∷ bs)).1)
    (drop (scan start (b ∷ bs)).1 (b ∷ bs)) (omega (arith, some, l)) in
    (t ∷ others.0, (token, others.1))

-- a text has tokens
pub text_tokens : (text : List ℕ) → (ts : List (Kind × ℕ)) × AreTokens text ts
text_tokens text = tokens_of (length text) true text (omega arith)
