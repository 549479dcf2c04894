use Rattle.std.proofs.Common.{Some, None, sym, ap, ◌∙◌, ℕ, List, refl}
use Rattle.std.specs.BTreeMap.{get_by_text}
use Rattle.std.specs.Map.{update}
use Rattle.std.specs.Str.{bytes_eq}
use Rattle.host_top.specs.Files.{Missing}
use Rattle.host_top.specs.declared.loan.Loan.{Loan}
use Rattle.host_top.proofs.OutsideLemmas.{own_label, untold_at}
use Rattle.storyhost.proofs.edge.files.SystemFilesOutside.disk.Goals as goal

pub returns-in-Ok-note-clause-ok : goal.returns-in-Ok-note-clause-ok
returns-in-Ok-note-clause-ok g c =
    let name : List ℕ = c.args.name.now in
    let loan : ℕ → ℕ → Loan = λ label from. record { label = label; from = from; to = None } in
    record {
      disks = untold_at Missing name;
      loans = λ other. c.in-Ok-note.ensures.ok other
          ∙ ap (λ (n : ℕ). update bytes_eq (get_by_text c.args.self.now.loans) name
          (Some (loan c.args.self.now.calls n)) other) c.faults.ensures.value
          ∙ ap (λ (n : ℕ). update bytes_eq (get_by_text c.args.self.now.loans) name
          (Some (loan n c.set_label.new.self.faults)) other) (sym c.set_label.ensures.value);
      count = refl;
      own =
          λ other one apart is. own_label (get_by_text c.args.self.now.loans) c.args.self.now.calls
          c.set_label.new.self.label c.args.self.now.below c.set_label.ensures.value other one is;
    }
