-- What the check of several files comes to, file by file.
use Rattle.std.proofs.Common.{◌≡◌, ◌∙◌, ◌<◌, ◌≤◌, ℕ, ◌+◌, Bool, Bor, List, [], ◌∷◌, ◌++◌, length, get_or}
use Rattle.std.proofs.Common.{take, map, inr, codes, refl, ap, sym, subst}
use Rattle.std.proofs.lemmas.List.{map-append, take_all, take_more}
use Rattle.x_streams.specs.Streams.{Stream}
use Rattle.x_args.specs.Status.{worse}
use Rattle.x_args.specs.declared.status.Status.{Status}
use Rattle.x_args.specs.declared.status.Status.TheVariants.{Done, Faulty, Failed}
use Rattle.x_opening.specs.declared.opening.Opening.{Opening}
use Rattle.x_opening.specs.Opening.{CompilesBy}
use Rattle.x_generating.specs.Checking.{AreChecked, IsChecked}
use Rattle.x_opening.specs.Opened.{IsFaultless, NotOpened}
use Rattle.x_generating.specs.Warnings.{IsFaulty, IsGood}

worse_done : (s : Status) → worse s Done ≡ s
worse_done Done = refl
worse_done Faulty = refl
worse_done Failed = refl

worse_of_three : (a b c : Status) → worse (worse a b) c ≡ worse a (worse b c)
worse_of_three Done b c = refl
worse_of_three Faulty Done c = refl
worse_of_three Faulty Faulty Done = refl
worse_of_three Faulty Faulty Faulty = refl
worse_of_three Faulty Faulty Failed = refl
worse_of_three Faulty Failed c = refl
worse_of_three Failed b c = refl

-- what the check of a text that was read comes to, by its status
pub checked : (strict : Bool) (how : Opening) (file text : List ℕ) (before after : Stream) (status : Status)
    → (status ≡ Faulty → CompilesBy how text (λ items. IsFaulty strict how file text items before after))
    → (status ≡ Done → IsFaultless how text)
    → (status ≡ Failed → NotOpened how (codes "rpcgen") file text before after)
    → (status ≡ Done → CompilesBy how text (λ items. IsGood strict how.style file text items before after))
    → IsChecked strict how file before after status
checked strict how file text before after Done faulty clean failed quiet = (text, clean refl, quiet refl)
checked strict how file text before after Faulty faulty clean failed quiet = (text, faulty refl)
checked strict how file text before after Failed faulty clean failed quiet = inr (text, failed refl)

-- nothing is checked
pub checks_none : (strict : Bool) (how : Opening) (before : Stream)
    → AreChecked strict how [] before before Done
unfolding AreChecked
checks_none strict how before = (refl, refl)

-- one file more is checked
pub checks_more : (strict : Bool) (how : Opening) (files : List (List ℕ)) (file : List ℕ)
    (before between after : Stream) (so_far last : Status)
    → AreChecked strict how files before between so_far → IsChecked strict how file between after last
    → AreChecked strict how (files ++ file ∷ []) before after (worse so_far last)
unfolding AreChecked
checks_more strict how [] file before between after so_far last h checked = (
  after,
  last,
  Done,
  subst (λ s. IsChecked strict how file s after last) h.0 checked,
  (refl, refl),
  ap (λ s. worse s last) h.1 ∙ sym (worse_done last),
)
checks_more strict how (f ∷ files) file before between after so_far last h checked = (
  h.0,
  h.1,
  worse h.2 last,
  h.3,
  checks_more strict how files file h.0 between after h.2 last h.4 checked,
  ap (λ s. worse s last) h.5 ∙ worse_of_three h.1 h.2 last,
)

-- the names of the first files
abbrev pub firsts : ℕ → List (Bor (List ℕ)) → List (List ℕ)
firsts i files = map (λ f. f.now) (take i files)

-- the next of the files is checked
pub checks_next : (strict : Bool) (how : Opening) (files : List (Bor (List ℕ))) (i : ℕ) (d : Bor (List ℕ))
    (before between begun after : Stream) (so_far last both : Status)
    → i < length files → AreChecked strict how (firsts i files) before between so_far → begun ≡ between
    → IsChecked strict how (get_or files i d).now begun after last → both ≡ worse so_far last
    → AreChecked strict how (firsts (i + 1) files) before after both
checks_next strict how files i d before between begun after so_far last both there h same checked is =
    let all : firsts (i + 1) files ≡ firsts i files ++ (get_or files i d).now ∷ [] =
    ap (map (λ f. f.now)) (take_more files i d there)
    ∙ map-append (λ f. f.now) (take i files) (get_or files i d ∷ []) in
    let more = checks_more strict how (firsts i files) (get_or files i d).now before between after
    so_far last h
    (subst (λ now. IsChecked strict how (get_or files i d).now now after last) same checked) in
    subst (λ names. AreChecked strict how names before after both) (sym all)
    (subst (AreChecked strict how (firsts i files ++ (get_or files i d).now ∷ []) before after) (sym is) more)

-- all of them are checked
pub checks_all : (strict : Bool) (how : Opening) (files : List (Bor (List ℕ))) (i : ℕ) (before after : Stream)
    (status : Status)
    → length files ≤ i → AreChecked strict how (firsts i files) before after status
    → AreChecked strict how (map (λ f. f.now) files) before after status
checks_all strict how files i before after status past h =
    subst (λ fs. AreChecked strict how (map (λ f. f.now) fs) before after status) (take_all i files past) h
