-- The line that declares a name of C: its tokens, its one item, and what that declares.
use Rattle.std.proofs.Common.{map, ◌≡◌, ℕ, ◌^◌, ◌<◌, Bool, true, false, cond, List, [], ◌∷◌, ◌++◌, get_or}
use Rattle.std.proofs.Common.{Some, None, is_some, refl, sym, ap, ◌∙◌}
use Rattle.std.specs.Prelude.{◌==◌, ◌&&◌, not, codes, decimal, option_map, slice_get}
use Rattle.std.specs.List.{find, list_all}
use Rattle.std.specs.Str.{bytes_eq}
use Rattle.std.proofs.lemmas.List.{append_assoc}
use Rattle.std.proofs.lemmas.List.Folds.{list_all-append}
use Rattle.std.proofs.lemmas.Slice.Eq.{bytes_eq-Decides}
use Rattle.x_lex.specs.declared.kind.Kind.{Kind}
use Rattle.x_lex.specs.declared.kind.Kind.TheVariants as kinds
use Rattle.x_lex.specs.Bytes.{is_digit, is_keyword, is_space, is_letter, is_number, is_punct, is_word_byte}
use Rattle.x_lex.specs.Marks.{spellings, mark_of}
use Rattle.x_cutting.specs.Cutting.{role_by}
use Rattle.x_trees.specs.Tree as tree
use Rattle.x_trees.specs.Names.{Declared, declared}
use Rattle.x_trees.specs.Spell.{KeepsLimits, spell}
use Rattle.x_trees.specs.Words.{word_by}
use Rattle.x_trees.specs.declared.names.declared_name.NameKind.TheVariants as names
use Rattle.x_trees.specs.declared.trees.declaration.Basic.TheVariants as basics
use Rattle.x_prelude_laws.proofs.Fine.{AllFine, IsFine, IsWordy, are_apart, decimal_fine}
use Rattle.x_prelude_laws.proofs.Items.{items}
use Rattle.x_prelude_laws.proofs.Shapes.{const_of, enum_of, netobj_of, struct_of, typedef_of, union_of}
use Rattle.x_prelude_laws.proofs.Pieces.{EndsLine, Piece, bytes_of}

-- a name of a text: a word that is no keyword
pub record IsName (w : List ℕ) : Type 0 where
  pub wordy : IsWordy w
  pub no_keyword : is_keyword w ≡ false

-- a line whose one item declares the name first
pub record Line (text name : List ℕ) : Type 0 where
  pub pieces : List Piece
  pub bytes : bytes_of pieces ≡ text
  pub fine : AllFine pieces
  pub apart : are_apart pieces ≡ true
  pub ends : EndsLine true pieces
  pub letter : is_letter (get_or text 0 0) ≡ true
  pub definition : tree.Definition
  pub limits : KeepsLimits definition
  pub item : items 0 pieces ≡ spell definition ∷ [] ∷ []
  pub own : Declared
  pub first : slice_get (declared definition) 0 ≡ Some own
  pub named : own.name ≡ name

-- one that defines this
pub record LineOf (text name : List ℕ) (d : tree.Definition) : Type 0 where
  pub line : Line text name
  pub is : line.definition ≡ d

-- ---- pieces

-- a piece that is a word by itself
record FinePiece : Type 0 where
  kind : Kind
  text : List ℕ
  fine : IsFine kind text

abbrev pieces : List FinePiece → List Piece
pieces fs = map (λ f. (f.kind, f.text)) fs

all_fine : (fs : List FinePiece) → AllFine (pieces fs)
all_fine [] = tt
all_fine (f ∷ fs) = (f.fine, all_fine fs)

abbrev keyword : (w : List ℕ) → is_letter (get_or w 0 0) ≡ true → list_all is_word_byte w ≡ true
    → is_keyword w ≡ true → FinePiece
keyword w first all is =
    record { kind = kinds.Keyword; text = w; fine = (record { first = first; all = all }, is) }

abbrev own_word : (w : List ℕ) → is_letter (get_or w 0 0) ≡ true → list_all is_word_byte w ≡ true
    → is_keyword w ≡ false → FinePiece
own_word w first all is =
    record { kind = kinds.Name; text = w; fine = (record { first = first; all = all }, is) }

abbrev word : (w : List ℕ) → IsName w → FinePiece
word w h = record { kind = kinds.Name; text = w; fine = (h.wordy, h.no_keyword) }

abbrev number : (w : List ℕ) → is_digit (get_or w 0 0) ≡ true → list_all is_word_byte w ≡ true
    → is_number w ≡ true
    → FinePiece
number w first all form =
    record { kind = kinds.Number; text = w; fine = record { first = first; all = all; form = form } }

abbrev decimal_piece : (n : ℕ) → 0 < n → n < 2 ^ 64 → FinePiece
decimal_piece n some small =
    record { kind = kinds.Number; text = decimal n; fine = decimal_fine n some small }

abbrev punct : (b : ℕ) → is_punct b ≡ true → FinePiece
punct b is =
    record { kind = kinds.Punct; text = b ∷ []; fine = record { byte = b; is = refl; passes = is } }

abbrev white : (b : ℕ) → is_space b ≡ true → FinePiece
white b is =
    record { kind = kinds.Space; text = b ∷ []; fine = record { byte = b; is = refl; passes = is } }

abbrev space : FinePiece
space = white 32 refl

abbrev line_end : FinePiece
line_end = white 10 refl

line_from : (text name : List ℕ) (fs : List FinePiece) (d : tree.Definition) (own : Declared)
    → bytes_of (pieces fs) ≡ text → are_apart (pieces fs) ≡ true → EndsLine true (pieces fs)
    → is_letter (get_or text 0 0) ≡ true → KeepsLimits d → items 0 (pieces fs) ≡ spell d ∷ [] ∷ []
    → slice_get (declared d) 0 ≡ Some own → own.name ≡ name → LineOf text name d
line_from text name fs d own bytes apart ends letter limits item first named = record {
  line = record {
    pieces = pieces fs;
    bytes = bytes;
    fine = all_fine fs;
    apart = apart;
    ends = ends;
    letter = letter;
    definition = d;
    limits = limits;
    item = item;
    own = own;
    first = first;
    named = named;
  };
  is = refl;
}

-- ---- types that are numbers

pub int_line : (name : List ℕ) → IsName name → LineOf (codes "typedef int " ++ name ++ codes ";\n") name
    (typedef_of basics.Int name)
unfolding mark_of role_by word_by
int_line name h =
    line_from _ name (
    keyword (codes "typedef") refl refl refl ∷ space ∷ keyword (codes "int") refl refl refl ∷ space
    ∷ word name h ∷ punct 59 refl ∷ line_end ∷ [])
    (typedef_of basics.Int name)
    (record { name = name; word = 2; kind = names.Typedef; lifted = false })
    refl refl (refl, refl) refl tt refl refl refl

pub unsigned_line : (name : List ℕ) → IsName name
    → LineOf (codes "typedef unsigned int " ++ name ++ codes ";\n") name (typedef_of basics.UnsignedInt name)
unfolding mark_of role_by word_by
unsigned_line name h =
    line_from _ name (
    keyword (codes "typedef") refl refl refl ∷ space ∷ keyword (codes "unsigned") refl refl refl ∷ space
    ∷ keyword (codes "int") refl refl refl ∷ space ∷ word name h ∷ punct 59 refl ∷ line_end ∷ [])
    (typedef_of basics.UnsignedInt name)
    (record { name = name; word = 3; kind = names.Typedef; lifted = false })
    refl refl (refl, refl) refl tt refl refl refl

pub unsigned_long_line : (name : List ℕ) → IsName name → LineOf
    (codes "typedef unsigned long " ++ name ++ codes ";\n") name (typedef_of basics.UnsignedLong name)
unfolding mark_of role_by word_by
unsigned_long_line name h =
    line_from _ name (
    keyword (codes "typedef") refl refl refl ∷ space ∷ keyword (codes "unsigned") refl refl refl ∷ space
    ∷ keyword (codes "long") refl refl refl ∷ space ∷ word name h ∷ punct 59 refl ∷ line_end ∷ [])
    (typedef_of basics.UnsignedLong name)
    (record { name = name; word = 3; kind = names.Typedef; lifted = false })
    refl refl (refl, refl) refl tt refl refl refl

pub hyper_line : (name : List ℕ) → IsName name → LineOf (codes "typedef hyper " ++ name ++ codes ";\n") name
    (typedef_of basics.Hyper name)
unfolding mark_of role_by word_by
hyper_line name h =
    line_from _ name (
    keyword (codes "typedef") refl refl refl ∷ space ∷ keyword (codes "hyper") refl refl refl ∷ space
    ∷ word name h ∷ punct 59 refl ∷ line_end ∷ [])
    (typedef_of basics.Hyper name)
    (record { name = name; word = 2; kind = names.Typedef; lifted = false })
    refl refl (refl, refl) refl tt refl refl refl

pub unsigned_hyper_line : (name : List ℕ) → IsName name → LineOf
    (codes "typedef unsigned hyper " ++ name ++ codes ";\n") name (typedef_of basics.UnsignedHyper name)
unfolding mark_of role_by word_by
unsigned_hyper_line name h =
    line_from _ name (
    keyword (codes "typedef") refl refl refl ∷ space ∷ keyword (codes "unsigned") refl refl refl ∷ space
    ∷ keyword (codes "hyper") refl refl refl ∷ space ∷ word name h ∷ punct 59 refl ∷ line_end ∷ [])
    (typedef_of basics.UnsignedHyper name)
    (record { name = name; word = 3; kind = names.Typedef; lifted = false })
    refl refl (refl, refl) refl tt refl refl refl

pub netobj_line : LineOf (codes "typedef opaque netobj<1024>;\n") (codes "netobj") netobj_of
unfolding is_number mark_of role_by word_by
netobj_line =
    line_from _ (codes "netobj") (
    keyword (codes "typedef") refl refl refl ∷ space ∷ keyword (codes "opaque") refl refl refl ∷ space
    ∷ own_word (codes "netobj") refl refl refl ∷ punct 60 refl ∷ number (codes "1024") refl refl refl
    ∷ punct 62 refl ∷ punct 59 refl ∷ line_end ∷ [])
    netobj_of
    (record { name = codes "netobj"; word = 2; kind = names.Typedef; lifted = false })
    refl refl (refl, refl) refl tt refl refl refl

-- ---- types of unknown layout

pub struct_line : (name : List ℕ) → IsName name
    → LineOf (codes "struct " ++ name ++ codes " { opaque unknown<>; };\n") name (struct_of name)
unfolding mark_of role_by word_by
struct_line name h =
    line_from _ name (
    keyword (codes "struct") refl refl refl ∷ space ∷ word name h ∷ space ∷ punct 123 refl ∷ space
    ∷ keyword (codes "opaque") refl refl refl ∷ space ∷ own_word (codes "unknown") refl refl refl
    ∷ punct 60 refl ∷ punct 62 refl ∷ punct 59 refl ∷ space ∷ punct 125 refl ∷ punct 59 refl ∷ line_end
    ∷ [])
    (struct_of name)
    (record { name = name; word = 1; kind = names.Struct; lifted = false })
    refl refl (refl, refl) refl (tt, (tt, tt)) refl refl refl

pub union_line : (name : List ℕ) → IsName name
    → LineOf (codes "union " ++ name ++ codes " switch (int known) { case 0: void; default: void; };\n") name
    (union_of name)
unfolding is_number mark_of role_by word_by
union_line name h =
    line_from _ name (
    keyword (codes "union") refl refl refl ∷ space ∷ word name h ∷ space
    ∷ keyword (codes "switch") refl refl refl ∷ space ∷ punct 40 refl
    ∷ keyword (codes "int") refl refl refl ∷ space ∷ own_word (codes "known") refl refl refl
    ∷ punct 41 refl ∷ space ∷ punct 123 refl ∷ space ∷ keyword (codes "case") refl refl refl ∷ space
    ∷ number (codes "0") refl refl refl ∷ punct 58 refl ∷ space ∷ keyword (codes "void") refl refl refl
    ∷ punct 59 refl ∷ space ∷ keyword (codes "default") refl refl refl ∷ punct 58 refl ∷ space
    ∷ keyword (codes "void") refl refl refl ∷ punct 59 refl ∷ space ∷ punct 125 refl ∷ punct 59 refl
    ∷ line_end ∷ [])
    (union_of name)
    (record { name = name; word = 1; kind = names.Union; lifted = false })
    refl refl (refl, refl) refl (tt, (tt, ((tt, (tt, tt)), tt))) refl refl refl

-- ---- constants

-- the last byte is `_`
abbrev pub is_longer : List ℕ → Bool
is_longer [] = false
is_longer (b ∷ []) = b == 95
is_longer (b ∷ c ∷ w) = is_longer (c ∷ w)

pub longer_is : (w : List ℕ) → is_longer (w ++ codes "__") ≡ true
longer_is [] = refl
longer_is (b ∷ []) = refl
longer_is (b ∷ c ∷ w) = longer_is (c ∷ w)

-- a word that ends so is none of words that do not
not_found : {E : Type 0} (text : E → List ℕ) (w : List ℕ) (es : List E) → is_longer w ≡ true
    → list_all (λ e. not (is_longer (text e))) es ≡ true → find (λ e. bytes_eq (text e) w) es ≡ None
not_found text w [] is all = refl
not_found text w (e ∷ es) is all =
    by (is_longer (text e)) refl (bytes_eq (text e) w) refl all (λ rest. not_found text w es is rest)
  where
    by : (x : Bool) → is_longer (text e) ≡ x → (b : Bool) → bytes_eq (text e) w ≡ b
        → (not x && list_all (λ e. not (is_longer (text e))) es) ≡ true
        → (list_all (λ e. not (is_longer (text e))) es ≡ true → find (λ e. bytes_eq (text e) w) es ≡ None)
        → cond b (Some e) (find (λ e. bytes_eq (text e) w) es) ≡ None
    by true f b same h next = absurd (cc)
    by false f true same h next =
        let alike : text e ≡ w = (bytes_eq-Decides (text e) w).0 same in
        let both : is_longer (text e) ≡ true = ap is_longer alike ∙ is in
        absurd (cc)
    by false f false same h next = next h

longer_no_keyword : (w : List ℕ) → is_keyword (w ++ codes "__") ≡ false
unfolding mark_of
longer_no_keyword w =
    ap (λ o. is_some (option_map (λ entry. entry.1) o))
    (not_found (λ entry. entry.0) (w ++ codes "__") spellings (longer_is w) refl)

regroup : (a b c d e f : List ℕ) → ((((a ++ b) ++ c) ++ d) ++ e) ++ f ≡ a ++ (b ++ (c ++ (d ++ (e ++ f))))
regroup a b c d e f = simp append_assoc

first_of_both : (w u : List ℕ) → is_letter (get_or w 0 0) ≡ true → is_letter (get_or (w ++ u) 0 0) ≡ true
first_of_both [] u h = absurd (cc)
first_of_both (b ∷ w) u h = h

fine_longer : (w : List ℕ) → IsName w → IsFine kinds.Name (w ++ codes "__")
fine_longer w h = (
  record {
    first = first_of_both w (codes "__") h.wordy.first;
    all = list_all-append is_word_byte w (codes "__") ∙ ap (λ b. b && true) h.wordy.all;
  },
  longer_no_keyword w,
)

abbrev longer : (w : List ℕ) → IsName w → FinePiece
longer w h = record { kind = kinds.Name; text = w ++ codes "__"; fine = fine_longer w h }

pub const_line : (name : List ℕ) (n : ℕ) → IsName name → 0 < n → n < 2 ^ 64
    → LineOf (codes "const " ++ name ++ codes " = " ++ decimal n ++ codes ";\n") name (const_of name n)
unfolding mark_of role_by word_by
const_line name n h some small =
    line_from _ name (
    keyword (codes "const") refl refl refl ∷ space ∷ word name h ∷ space ∷ punct 61 refl ∷ space
    ∷ decimal_piece n some small ∷ punct 59 refl ∷ line_end ∷ [])
    (const_of name n)
    (record { name = name; word = 1; kind = names.Constant; lifted = false })
    (ap (λ l. codes "const " ++ l)
    (sym (append_assoc (name ++ codes " = ") (decimal n) (codes ";\n")
    ∙ append_assoc name (codes " = ") (decimal n ++ codes ";\n")))) refl (refl, refl) refl tt refl refl refl

pub enum_line : (name : List ℕ) (n : ℕ) → IsName name → 0 < n → n < 2 ^ 64
    → LineOf (codes "enum " ++ name ++ codes " { " ++ name ++ codes "__ = " ++ decimal n
    ++ codes " };\n") name (enum_of name n)
unfolding mark_of role_by word_by
enum_line name n h some small =
    line_from _ name (
    keyword (codes "enum") refl refl refl ∷ space ∷ word name h ∷ space ∷ punct 123 refl ∷ space
    ∷ longer name h ∷ space ∷ punct 61 refl ∷ space ∷ decimal_piece n some small ∷ space ∷ punct 125 refl
    ∷ punct 59 refl ∷ line_end ∷ [])
    (enum_of name n)
    (record { name = name; word = 1; kind = names.Enum; lifted = false })
    (ap (λ l. codes "enum " ++ (name ++ (codes " { " ++ l)))
    (append_assoc name (codes "__") (codes " = " ++ (decimal n ++ codes " };\n")))
    ∙ ap (λ l. codes "enum " ++ l)
    (sym (regroup name (codes " { ") name (codes "__ = ") (decimal n) (codes " };\n")))) refl
    (refl, refl) refl tt refl refl refl
