-- The calls of file references (Glk 0.7.5, "File References").
use Rattle.std.specs.Prelude.{ℕ, zero, suc, ◌+◌, ◌%◌, ◌^◌, ◌==◌, ◌&&◌, not, Bool, false}
use Rattle.std.specs.Prelude.{if◌then◌else◌, List, [], ◌∷◌, ◌++◌, length, Result, Ok, Err}
use Rattle.vm_memory.specs.Chaining.{◌>>=◌}
use Rattle.vm_memory.specs.MemoryMap.{MemoryMap}
use Rattle.vm_memory.specs.Access.{read}
use Rattle.vm_memory.specs.Fault.{coded}
use Rattle.glk_numbers.specs.Numbered.{number_above}
use Rattle.glk_streams.specs.Streams as table
use Rattle.glk_streams.specs.FileRefs as refs
use Rattle.glk_streams.specs.Files.{has_file}
use Rattle.glk_streams.specs.Names.{cleaned, temporary}
use Rattle.glk_dispatch.specs.Answer.{GlkCall, Reached, CallRule, within}
use Rattle.glk_dispatch.specs.Fault.{streams_coded}
use Rattle.glk_dispatch.specs.Glk.{character_charged, fref, fref_or_none, ref_rock, wait_set_back}
use Rattle.glk_dispatch.specs.Output.{text_start}
use Rattle.glk_dispatch.specs.Reference.{gives, refers}
use Rattle.glk_dispatch.specs.Streams.{leaves_streams, streams_left, streams_changed, makes}
use Rattle.glk_dispatch.specs.declared.called.Called.{Called}
use Rattle.glk_dispatch.specs.declared.called.Called.TheVariants.{Prompt}
use Rattle.glk_dispatch.specs.declared.glk.Glk.{Glk}
use Rattle.glk_dispatch.specs.declared.glk.Prompt as p
use Rattle.glk_dispatch.specs.declared.filerefs.FileRefCall.{FileRefCall}
use Rattle.glk_dispatch.specs.declared.filerefs.FileRefCall.TheVariants.{CreateTemp, CreateByName}
use Rattle.glk_dispatch.specs.declared.filerefs.FileRefCall.TheVariants.{CreateByPrompt}
use Rattle.glk_dispatch.specs.declared.filerefs.FileRefCall.TheVariants.{CreateFromFileref, Destroy}
use Rattle.glk_dispatch.specs.declared.filerefs.FileRefCall.TheVariants.{Iterate, GetRock}
use Rattle.glk_dispatch.specs.declared.filerefs.FileRefCall.TheVariants.{DeleteFile, DoesFileExist}

-- the characters of a string up to its 0, each counted as read, behind those before
unfoldable pub name_read : ℕ → Glk → MemoryMap → ℕ → List ℕ
    → Reached (Glk × List ℕ)
name_read zero g m at name = Err (g, 1)
name_read (suc left) g m at name =
    within g (coded (read 1 m at)) >>= (λ code.
    if code == 0 then Ok (g, name)
    else name_read left (character_charged g) m ((at + 1) % 2 ^ 32) (name ++ code ∷ []))

-- the name of a string argument; none has more characters than memory has bytes
abbrev pub name_at : Glk → MemoryMap → ℕ → Reached (Glk × List ℕ)
name_at g m at =
    within g (text_start false m at) >>= (λ from. name_read (length m.bytes + 1) g m from [])

-- the new reference, or 0
abbrev pub with_reference : Glk → table.StreamTable × ℕ → Glk × ℕ
with_reference g made = (record g { streams = made.0 }, made.1)

abbrev pub answers : GlkCall → Glk × ℕ → CallRule Called
answers s made = gives made.1 (record s { glk = made.0 })

-- a reference to the file with this name, as it is cleaned
abbrev pub reference_named : Glk → ℕ → List ℕ → ℕ → Glk × ℕ
reference_named g usage name rock =
    with_reference g (refs.made_ref g.streams usage (cleaned name) rock)

-- glk_fileref_create_temp usage, rock
abbrev pub temp_made : Glk → ℕ → ℕ → Glk × ℕ
temp_made g usage rock =
    with_reference g (refs.made_ref g.streams usage (temporary g.streams.next_ref) rock)

-- glk_fileref_create_by_name usage, name, rock
abbrev pub named_made : Glk → MemoryMap → ℕ → ℕ → ℕ → Reached (Glk × ℕ)
named_made g m usage name rock = name_at g m name >>= (λ p. Ok (reference_named p.0 usage p.1 rock))

-- glk_fileref_create_by_prompt usage, mode, rock: the turn ends, and the name is the next input
abbrev pub prompts : GlkCall → ℕ → ℕ → ℕ → CallRule Called
prompts s usage mode rock =
    Ok (
      record s {
        glk = record s.glk { prompt = record { usage = usage; mode = mode; rock = rock } };
      },
      Prompt,
    )

-- the mode is that of reading
abbrev pub is_reading_mode : ℕ → Bool
is_reading_mode mode = mode == 2

-- the name that this prompt asked for: none cancels, and a file that is to be read must be there
abbrev pub prompted_for : Glk → p.Prompt → List ℕ → Glk × ℕ
prompted_for g asked name =
    if length name == 0 then (g, 0)
    else (if is_reading_mode asked.mode && not (has_file g.streams.files asked.usage (cleaned name))
    then (g, 0)
    else reference_named g asked.usage name asked.rock)

-- the name of a file comes: what was waited with is set back first
abbrev pub prompted : Glk → List ℕ → Glk × ℕ
prompted g name = prompted_for (wait_set_back g) g.prompt name

-- glk_fileref_iterate fref or 0, &rock
abbrev pub iterates_filerefs : GlkCall → ℕ → ℕ → CallRule Called
iterates_filerefs s n rock =
    let next = number_above table.ref_number_of s.glk.streams.refs n in
    fref_or_none s.glk n (refers s rock (ref_rock s.glk next) >>= gives next)

-- glk_fileref_does_file_exist fref
abbrev pub one_if_there : Bool → ℕ
one_if_there there = if there then 1 else 0

abbrev pub told_of_file : Glk → ℕ → Result ℕ ℕ
told_of_file g n = streams_coded (refs.is_there g.streams n) >>= (λ there. Ok (one_if_there there))

abbrev pub reference_copied : Glk → ℕ → ℕ → ℕ → Reached (Glk × ℕ)
reference_copied g usage n rock = streams_changed g (refs.copied_ref g.streams usage n rock)

abbrev pub reference_dropped : Glk → ℕ → Reached Glk
reference_dropped g n = streams_left g (refs.dropped_ref g.streams n)

abbrev pub file_deleted : Glk → ℕ → Reached Glk
file_deleted g n = streams_left g (refs.deleted g.streams n)

unfoldable pub fileref_work : FileRefCall → GlkCall → (ℕ → ℕ) → CallRule Called
fileref_work CreateTemp s l = answers s (temp_made s.glk (l 0) (l 1))
fileref_work CreateByName s l = makes s (named_made s.glk s.memory (l 0) (l 1) (l 2))
fileref_work CreateByPrompt s l = prompts s (l 0) (l 1) (l 2)
fileref_work CreateFromFileref s l = makes s (reference_copied s.glk (l 0) (l 1) (l 2))
fileref_work Destroy s l = leaves_streams s (reference_dropped s.glk (l 0))
fileref_work Iterate s l = iterates_filerefs s (l 0) (l 1)
fileref_work GetRock s l = fref s.glk (l 0) (gives (ref_rock s.glk (l 0)) s)
fileref_work DeleteFile s l = leaves_streams s (file_deleted s.glk (l 0))
fileref_work DoesFileExist s l = within s.glk (told_of_file s.glk (l 0)) >>= (λ x. gives x s)
