-- Fields of a valid Glk state fit the types of its parts.
use Rattle.std.proofs.Common.{◌≡◌, ◌∙◌, ◌≤◌, ◌&&◌, nat_le, Bool, true, false, List, [], ◌∷◌, map}
use Rattle.std.proofs.Common.{refl, sym, ap, arith, length, Err}
use Rattle.std.specs.List.{list_all}
use Rattle.std.proofs.lemmas.Bool.{and_from, and_parts, le-leb, leb-true}
use Rattle.glk_numbers.specs.Numbered.{ascends}
use Rattle.glk_input.specs.Request.{input_window_number}
use Rattle.glk_input.specs.Valid as inputs
use Rattle.glk_streams.specs.Files.{sum_of_bytes}
use Rattle.glk_streams.specs.Streams.{StreamTable}
use Rattle.glk_streams.specs.Valid as streams
use Rattle.glk_streams.specs.declared.file.TheConstants.{MAX_FILE_BYTES}
use Rattle.snap_fields.specs.declared.glk.SnapFile.{SnapFile}
use Rattle.snap_fields.specs.declared.glk.SnapRequest.{SnapRequest}
use Rattle.snap_fields.specs.declared.glk.SnapRequest.TheVariants.{Nothing, Line, Char}
use Rattle.snap_fields.specs.declared.glk.SnapWindow.{SnapWindow}
use Rattle.snap_glk.specs.Made.{file_made, input_made, request_made}
use Rattle.snap_glk.specs.Making.{MakesIfFit, MakesSound, has_few, has_few_keys, is_valid_file}
use Rattle.snap_glk.specs.Texts.{is_text_of_file}
use Rattle.snap_glk.specs.declared.unfit.Unfit.{Unfit}
use Rattle.snap_glk.specs.declared.unfit.Unfit.TheVariants.{Invalid, NoMemory}

-- ---- terminators

request-few : (r : SnapRequest) → inputs.is_request (request_made r) ≡ true → has_few r ≡ true
request-few Nothing e = refl
request-few (Line unicode buffer maximum initial echo terminators) e =
    (and_parts (nat_le initial maximum && nat_le initial 1024) _ e).1
request-few (Char unicode) e = refl

windows-few : (ws : List SnapWindow) → inputs.are_windows (map input_made ws) ≡ true
    → list_all has_few_keys ws ≡ true
windows-few [] e = refl
windows-few (w ∷ ws) e =
    let p = and_parts (inputs.is_window_input (input_made w)) _ e in
    let q = and_parts (inputs.are_few w.terminators) _ p.0 in
    and_from _ _ (and_from _ _ q.0 (request-few w.request q.1)) (windows-few ws p.1)

pub are-few : (ws : List SnapWindow) → inputs.are_valid_inputs (map input_made ws) ≡ true
    → list_all has_few_keys ws ≡ true
are-few ws e =
    windows-few ws (and_parts (ascends input_window_number 0 4294967295 (map input_made ws)) _ e).1

-- ---- files

file-bytes : (fs : List SnapFile) → sum_of_bytes (map file_made fs) ≤ MAX_FILE_BYTES
    → list_all is_text_of_file fs ≡ true → list_all is_valid_file fs ≡ true
unfolding sum_of_bytes
file-bytes [] l t = refl
file-bytes (f ∷ fs) l t =
    let p = and_parts (is_text_of_file f) _ t in
    and_from _ _ (and_from _ _ p.0 (le-leb (length f.bytes) MAX_FILE_BYTES (omega (arith, l))))
    (file-bytes fs (omega (arith, l)) p.1)

pub are-files : (t : StreamTable) (fs : List SnapFile) → t.files ≡ map file_made fs
    → streams.are_valid_streams t ≡ true
    → list_all is_text_of_file fs ≡ true
    → list_all is_valid_file fs ≡ true
are-files t fs e v x =
    let files = (and_parts _ (streams.are_files t.files) v).1 in
    let bytes = (and_parts _ (nat_le (sum_of_bytes t.files) MAX_FILE_BYTES) files).1 in
    let few = leb-true (sum_of_bytes t.files) MAX_FILE_BYTES bytes in
    file-bytes fs (omega (arith, few, ap sum_of_bytes e)) x

-- ---- what wasn't made

-- fields that don't fit are no sound value's
pub unsound : {A B C : Type 0} (make : A → B) (fits : A → Bool) (x : A) (Given : Type 0)
    (Is : C → Type 0) (it : C) (e : Unfit) → MakesIfFit make fits x (Err e)
    → (Given → Is it → fits x ≡ true) → MakesSound Given Is it (Err e)
unsound make fits x Given Is it NoMemory m h = tt
unsound make fits x Given Is it Invalid m h =
    λ g i. let c : true ≡ false = sym (h g i) ∙ m in cc

pub all-fit : {A : Type 0} (xs : List A) → list_all (λ _. true) xs ≡ true
all-fit [] = refl
all-fit (x ∷ xs) = all-fit xs
