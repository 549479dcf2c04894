-- The stories of files, as the files are loaded and read one after the other.
use Rattle.std.proofs.Common.{◌≡◌, ℕ, suc, ◌+◌, ◌<◌, inl, inr, List, [], ◌∷◌, ◌++◌, length, map}
use Rattle.std.proofs.Common.{take, drop, drop-cons, add-one, get_or, refl, sym, ap, ◌∙◌, arith}
use Rattle.std.proofs.Common.{append_assoc, length-append, Result, Ok, Err, IsErr, IsOk, IfErr}
use Rattle.std.proofs.Common.{is_err, is_ok, subst, true, false}
use Rattle.std.proofs.lemmas.List.{append-nil, length-map, map-append, get_or-map}
use Rattle.story_run.specs.declared.story.Story.{Story}
use Rattle.host_top.specs.Files.{IsLoadOf, Told, Untold, Missing, There}
use Rattle.host_top.specs.StoryFile.{story_in_file}
use Rattle.host_top.specs.declared.story_file.StoryFault.{StoryFault}
use Rattle.host_top.specs.Stories.{followed_by, stories_from, stories_of, AreFiles, IsLoadSettled}
use Rattle.host_top.specs.declared.stories.Refusal.{Refusal}

abbrev Found : Type 0
Found = Result (List Story) Refusal

-- one more file is loaded
pub are_more : (file : List ℕ → Told (List ℕ)) (names loaded : List (List ℕ)) (bytes : List ℕ)
    → AreFiles file names loaded
    → length loaded < length names → IsLoadOf (file (get_or names (length loaded) [])) bytes
    → AreFiles file names (loaded ++ bytes ∷ [])
are_more file [] loaded bytes are room is = absurd (omega arith)
are_more file (name ∷ names) [] bytes are room is = (is, tt)
are_more file (name ∷ names) (first ∷ loaded) bytes are room is =
    (are.0, are_more file names loaded bytes are.1 (omega (arith, room)) is)

-- a file that is refused settles it
err_first : (position : ℕ) (story : Result Story StoryFault) (more : Found) → is_err story ≡ true
    → IsErr (followed_by position story more)
err_first position (Ok story) more e = cc
err_first position (Err fault) more e = refl

err_behind : (position : ℕ) (story : Result Story StoryFault) (more : Found) → IsErr more
    → IsErr (followed_by position story more)
err_behind position (Ok story) (Ok stories) e = cc
err_behind position (Ok story) (Err refusal) e = refl
err_behind position (Err fault) more e = refl

pub err_last : (position : ℕ) (loaded : List (List ℕ)) (bytes : List ℕ)
    → is_err (story_in_file bytes) ≡ true → IsErr (stories_from position (loaded ++ bytes ∷ []))
err_last position [] bytes e = err_first position (story_in_file bytes) (Ok []) e
err_last position (file ∷ loaded) bytes e =
    err_behind position (story_in_file file) (stories_from (suc position) (loaded ++ bytes ∷ []))
    (err_last (suc position) loaded bytes e)

-- what is refused stays refused where more is loaded
stays : (position : ℕ) (story : Result Story StoryFault) (x y : Found) → (IsErr x → y ≡ x)
    → IsErr (followed_by position story x)
    → followed_by position story y ≡ followed_by position story x
stays position (Err fault) x y f e = refl
stays position (Ok story) (Ok stories) y f e = cc
stays position (Ok story) (Err refusal) y f e = ap (followed_by position (Ok story)) (f refl)

pub err_stays : (position : ℕ) (loaded rest : List (List ℕ)) → IsErr (stories_from position loaded)
    → stories_from position (loaded ++ rest) ≡ stories_from position loaded
err_stays position [] rest e = cc
err_stays position (file ∷ loaded) rest e =
    stays position (story_in_file file) (stories_from (suc position) loaded)
    (stories_from (suc position) (loaded ++ rest)) (err_stays (suc position) loaded rest) e

first_told : (told : Told (List ℕ)) (file bytes : List ℕ) → IsLoadOf told bytes → told ≡ There file
    → bytes ≡ take 67108865 file
first_told Untold file bytes is e = cc
first_told Missing file bytes is e = absurd is
first_told (There told) file bytes is e = cc

-- the files of names that are told, where these were loaded
pub files_told : (file : List ℕ → Told (List ℕ)) (names loaded files : List (List ℕ))
    → AreFiles file names loaded → map file names ≡ map There files
    → (rest : List (List ℕ)) × (map (take 67108865) files ≡ loaded ++ rest)
files_told file names [] files are told = (map (take 67108865) files, refl)
files_told file [] (bytes ∷ loaded) files are told = absurd are
files_told file (name ∷ names) (bytes ∷ loaded) [] are told = cc
files_told file (name ∷ names) (bytes ∷ loaded) (first ∷ files) are told =
    let here : bytes ≡ take 67108865 first = first_told (file name) first bytes are.0 cc in
    let more = files_told file names loaded files are.1 cc in
    (more.0, ap (λ b. b ∷ map (take 67108865) files) (sym here) ∙ ap (λ l. bytes ∷ l) more.1)

no_more : (names loaded rest files : List (List ℕ)) (file : List ℕ → Told (List ℕ))
    → map file names ≡ map There files → map (take 67108865) files ≡ loaded ++ rest
    → length loaded ≡ length names → rest ≡ []
no_more names loaded [] files file told split same = refl
no_more names loaded (r ∷ rest) files file told split same =
    absurd (omega (
      arith,
      ap length told,
      ap length split,
      length-map names file,
      length-map files
          There,
      length-map files (take 67108865),
      length-append loaded (r ∷ rest),
      same,
    ))

-- so what was loaded tells the stories of all
pub settled_told : (file : List ℕ → Told (List ℕ)) (names loaded files : List (List ℕ))
    → AreFiles file names loaded → IsLoadSettled names loaded → map file names ≡ map There files
    → stories_of (map (take 67108865) files) ≡ stories_of loaded
settled_told file names loaded files are (inl same) told =
    let f = files_told file names loaded files are told in
    ap stories_of (f.1 ∙ ap (λ r. loaded ++ r) (no_more names loaded f.0 files file told f.1 same)
    ∙ append-nil loaded)
settled_told file names loaded files are (inr refused) told =
    let f = files_told file names loaded files are told in
    ap stories_of f.1 ∙ err_stays 0 loaded f.0 refused

-- stories that were read, and then what the rest gives
abbrev pub behind : List Story → Found → Found
behind stories (Ok more) = Ok (stories ++ more)
behind stories (Err refusal) = Err refusal

pub behind_more : (stories : List Story) (position : ℕ) (story : Story) (more : Found)
    → behind stories (followed_by position (Ok story) more) ≡ behind (stories ++ story ∷ []) more
behind_more stories position story (Ok more) =
    ap (λ l. Ok l) (sym (append_assoc stories (story ∷ []) more))
behind_more stories position story (Err refusal) = refl

pub behind_none : (found : Found) → found ≡ behind [] found
behind_none (Ok stories) = refl
behind_none (Err refusal) = refl

-- the same over the code's lists
pub loaded_more : {A N : Type 0} (contents : A → List ℕ) (text : N → List ℕ)
    (file now : List ℕ → Told (List ℕ)) (names : List N) (loaded new : List A) (one : A) (none : N)
    (i : ℕ)
    → AreFiles file (map text names) (map contents loaded) → length loaded ≡ i → i < length names
    → new ≡ loaded ++ one ∷ [] → now ≡ file
    → IsLoadOf (now (text (get_or names i none))) (contents one)
    → AreFiles file (map text names) (map contents new)
loaded_more {A} {N} contents text file now names loaded new one none i are count room pushed same
    given =
    let longer : map contents new ≡ map contents loaded ++ contents one ∷ [] =
    ap (map contents) pushed ∙ map-append contents loaded (one ∷ []) in
    let at : length (map contents loaded) ≡ i = length-map loaded contents ∙ count in
    let word : List ℕ = text (get_or names i none) in
    let here : get_or (map text names) i [] ≡ word = get_or-map text names i none [] room in
    let file_here : IsLoadOf (file (get_or (map text names) (length (map contents loaded)) []))
    (contents one)
    =
    subst (λ (o : Told (List ℕ)). IsLoadOf o (contents one))
    (ap (λ f. f word) same ∙ ap file
    (sym here ∙ ap (λ k. get_or (map text names) k []) (sym at))) given in
    subst (λ (l : List (List ℕ)). AreFiles file (map text names) l) (sym longer)
    (are_more file (map text names) (map contents loaded) (contents one) are
    (omega (arith, at, length-map names text, room)) file_here)

no_story : (story : Result Story StoryFault) → is_ok story ≡ false → is_err story ≡ true
no_story (Ok story) e = cc
no_story (Err fault) e = refl

pub loaded_last : {A : Type 0} (contents : A → List ℕ) (loaded new : List A) (one : A)
    → new ≡ loaded ++ one ∷ [] → is_ok (story_in_file (contents one)) ≡ false
    → IsErr (stories_of (map contents new))
loaded_last contents loaded new one pushed refused =
    let longer : map contents new ≡ map contents loaded ++ contents one ∷ [] =
    ap (map contents) pushed ∙ map-append contents loaded (one ∷ []) in
    subst (λ (l : List (List ℕ)). IsErr (stories_of l)) (sym longer)
    (err_last 0 (map contents loaded) (contents one)
    (no_story (story_in_file (contents one)) refused))

ok_more : (position : ℕ) (story : Result Story StoryFault) (x y : Found) → (IsOk x → IsOk y)
    → IsOk (followed_by position story x) → IsOk (followed_by position story y)
ok_more position (Err fault) x y f e = cc
ok_more position (Ok story) (Err refusal) y f e = cc
ok_more position (Ok story) (Ok stories) (Ok more) f e = refl
ok_more position (Ok story) (Ok stories) (Err refusal) f e = f refl

ok_one : (position : ℕ) (story : Result Story StoryFault) → is_ok story ≡ true
    → IsOk (followed_by position story (Ok []))
ok_one position (Ok story) e = refl
ok_one position (Err fault) e = cc

ok_last : (position : ℕ) (loaded : List (List ℕ)) (bytes : List ℕ)
    → IsOk (stories_from position loaded) → is_ok (story_in_file bytes) ≡ true
    → IsOk (stories_from position (loaded ++ bytes ∷ []))
ok_last position [] bytes e good = ok_one position (story_in_file bytes) good
ok_last position (file ∷ loaded) bytes e good =
    ok_more position (story_in_file file) (stories_from (suc position) loaded)
    (stories_from (suc position) (loaded ++ bytes ∷ []))
    (λ ok. ok_last (suc position) loaded bytes ok good) e

-- whatever the error is
pub any_error : {A E : Type 0} (r : Result A E) (P : E → Type 0) → ((e : E) → P e) → IfErr r P
any_error (Ok x) P all = tt
any_error (Err e) P all = all e

-- each file that was loaded is a story, with one more
pub loaded_story : {A : Type 0} (contents : A → List ℕ) (loaded new : List A) (one : A)
    → new ≡ loaded ++ one ∷ [] → IsOk (stories_of (map contents loaded))
    → is_ok (story_in_file (contents one)) ≡ true → IsOk (stories_of (map contents new))
loaded_story contents loaded new one pushed all good =
    let longer : map contents new ≡ map contents loaded ++ contents one ∷ [] =
    ap (map contents) pushed ∙ map-append contents loaded (one ∷ []) in
    subst (λ (l : List (List ℕ)). IsOk (stories_of l)) (sym longer)
    (ok_last 0 (map contents loaded) (contents one) all good)

next_of : {A : Type 0} (xs : List A) (i : ℕ) (x : A) → i < length xs → x ≡ get_or xs i x
    → drop i xs ≡ x ∷ drop (i + 1) xs
next_of xs i x lt is = rw (add-one, drop-cons xs i x) (ap (λ y. y ∷ drop (suc i) xs) (sym is))

-- one more story is read
pub read_more : {A : Type 0} (contents : A → List ℕ) (files : List A) (all : Found)
    (stories new : List Story) (one : A) (story : Story) (i : ℕ)
    → i < length files → one ≡ get_or files i one → story_in_file (contents one) ≡ Ok story
    → new ≡ stories ++ story ∷ []
    → all ≡ behind stories (stories_from i (map contents (drop i files)))
    → all ≡ behind new (stories_from (i + 1) (map contents (drop (i + 1) files)))
read_more {A} contents files all stories new one story i room item good pushed before =
    let rest : List (List ℕ) = map contents (drop (i + 1) files) in
    before ∙ ap (λ l. behind stories (stories_from i (map contents l)))
    (next_of files i one room item)
    ∙ ap (λ s. behind stories (followed_by i s (stories_from (suc i) rest))) good
    ∙ behind_more stories i story (stories_from (suc i) rest)
    ∙ ap (λ l. behind l (stories_from (suc i) rest)) (sym pushed)
    ∙ ap (λ k. behind new (stories_from k rest)) (sym (add-one i))
