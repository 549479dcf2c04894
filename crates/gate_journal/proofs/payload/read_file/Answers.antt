use Rattle.std.proofs.Common.{◌≡◌, ℕ, List, refl, ◌∙◌, ap}
use Rattle.std.specs.Prelude.{Some, None}
use Rattle.story_text.specs.Reading.{text_of_bytes}
use Rattle.gate_journal.specs.declared.command.Command.TheVariants.{File}
use Rattle.gate_journal.specs.Rows.{payload_of}
use Rattle.gate_journal.proofs.PayloadLemmas.{spells_file, text_found, text_missing, file_text}
use Rattle.gate_journal.proofs.payload.read_file.Goals as goal

pub returns-in_default : goal.returns-in_default
returns-in_default c d is =
    let p = c.args.payload.now in
    let none : text_of_bytes p ≡ None = rw c.in_default.is at c.in_ok-name.ensures in
    let text = file_text p d is in
    text_missing p text.0 none text.1 text.2

pub returns : goal.returns
returns c =
    let p = c.args.payload.now in
    let found : text_of_bytes p ≡ Some c.in-Some.name = rw c.in-Some.is at c.in_ok-name.ensures in
    let text = text_found p c.in-Some.name found in
    record {
      ranges = text.1;
      number = refl;
      bytes = ap (λ (t : List ℕ). payload_of (File t)) text.2 ∙ spells_file p text.0;
    }
