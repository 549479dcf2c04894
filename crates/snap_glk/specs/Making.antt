-- Which fields the types of a Glk state take, and what making a part of it returns (own).
use Rattle.std.specs.Prelude.{◌≡◌, ◌&&◌, nat_le, Bool, true, false, List, length, Result, Ok, Err}
use Rattle.glk_input.specs.Valid.{are_few, are_valid_inputs}
use Rattle.glk_input.specs.declared.request.WindowInput.{WindowInput}
use Rattle.glk_streams.specs.declared.file.TheConstants.{MAX_FILE_BYTES}
use Rattle.snap_fields.specs.declared.glk.SnapFile.{SnapFile}
use Rattle.snap_fields.specs.declared.glk.SnapRequest.{SnapRequest}
use Rattle.snap_fields.specs.declared.glk.SnapRequest.TheVariants.{Nothing, Line, Char}
use Rattle.snap_fields.specs.declared.glk.SnapWindow.{SnapWindow}
use Rattle.snap_glk.specs.Texts.{is_text_of_file}
use Rattle.snap_glk.specs.declared.unfit.Unfit.{Unfit}
use Rattle.snap_glk.specs.declared.unfit.Unfit.TheVariants.{Invalid, NoMemory}

-- a request's terminators are few, and so are a window's
abbrev pub has_few : SnapRequest → Bool
has_few Nothing = true
has_few (Line unicode buffer maximum initial echo terminators) = are_few terminators
has_few (Char unicode) = true

abbrev pub has_few_keys : SnapWindow → Bool
has_few_keys w = are_few w.terminators && has_few w.request

-- a file with a text for its name, and no more bytes than all files may have
abbrev pub is_valid_file : SnapFile → Bool
is_valid_file f = is_text_of_file f && nat_le (length f.bytes) MAX_FILE_BYTES

-- What a function returned that makes a value of fields: this one, or, where memory didn't run
-- out, none for fields that don't fit.
abbrev pub MakesIfFit : {A B : Type 0} → (A → B) → (A → Bool) → A → Result B Unfit → Type 0
MakesIfFit make fits x (Ok y) = y ≡ make x
MakesIfFit make fits x (Err Invalid) = fits x ≡ false
MakesIfFit make fits x (Err NoMemory) = Unit {0}

-- the requests of a session
abbrev pub AreRequests : List WindowInput → Type 0
AreRequests ws = are_valid_inputs ws ≡ true

-- What a function returned that makes a value which is to be sound: this one, or, where memory
-- didn't run out and this was given, none for one that isn't.
abbrev pub MakesSound : {B : Type 0} → Type 0 → (B → Type 0) → B → Result B Unfit → Type 0
MakesSound Given Is it (Ok y) = (y ≡ it) × Is y
MakesSound Given Is it (Err Invalid) = Given → ¬ Is it
MakesSound Given Is it (Err NoMemory) = Unit {0}
