-- Names whose codes are characters (own: docs/FORMATS.md, "Snapshot bytes").
use Rattle.std.specs.Prelude.{◌≡◌, Bool, true}
use Rattle.std.specs.List.{list_all}
use Rattle.std.specs.Str.{all_scalars}
use Rattle.snap_fields.specs.declared.glk.SnapFile.{SnapFile}
use Rattle.snap_fields.specs.declared.glk.SnapFileRef.{SnapFileRef}
use Rattle.snap_fields.specs.declared.glk.SnapStream.{SnapStream}
use Rattle.snap_fields.specs.declared.glk.SnapTarget.{SnapTarget}
use Rattle.snap_fields.specs.declared.glk.SnapTarget.TheVariants as told
use Rattle.snap_glk.specs.declared.fields.GlkFields.{GlkFields}

-- the name of a stream's file is a list of Unicode scalar values
abbrev pub is_text_in : SnapTarget → Bool
is_text_in told.Window = true
is_text_in (told.Memory buffer length) = true
is_text_in (told.File usage name) = all_scalars name

abbrev pub is_text_of_stream : SnapStream → Bool
is_text_of_stream s = is_text_in s.target

abbrev pub is_text_of_ref : SnapFileRef → Bool
is_text_of_ref r = all_scalars r.name

abbrev pub is_text_of_file : SnapFile → Bool
is_text_of_file f = all_scalars f.name

-- so is each name: of streams, file references and files
pub record AreTexts (f : GlkFields) : Type 0 where
  pub streams : list_all is_text_of_stream f.streams ≡ true
  pub filerefs : list_all is_text_of_ref f.filerefs ≡ true
  pub files : list_all is_text_of_file f.files ≡ true
