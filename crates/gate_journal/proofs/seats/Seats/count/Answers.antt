use Rattle.std.proofs.Common.{◌++◌, ◌∷◌, [], ◌≡◌, min, ◌∙◌, length, arith, rules}
use Rattle.std.specs.Prelude.{slice_index, if◌then◌else◌}
use Rattle.std.proofs.lemmas.List.{length_push}
use Rattle.gate_journal.specs.Seats.{use_of}
use Rattle.gate_journal.specs.Rows.{commands_of, is_close}
use Rattle.gate_journal.proofs.SeatLemmas.{counted, is_free-push}
use Rattle.gate_journal.proofs.seats.Seats.count.Goals as goal

pub returns : goal.returns
returns c rows r sessions commands counts =
    let at = c.from-at.result in
    let session : r.session ≡ at = search rules in
    let was : slice_index c.args.self.now.counts at ≡ min (length (commands_of rows at)) 8192 =
    counts.count at (omega (arith, c.from-at.ensures, c.requires)) in
    let one : c.min.result ≡ min (length (commands_of rows at ++ r.command ∷ [])) 8192 =
    omega (
      arith,
      was,
      c.saturating_add.ensures,
      c.min.ensures,
      length_push (commands_of rows at) r.command,
    ) in
    let closes : c.if-is_close.self ≡ (if is_close c.args.command.now then 0 else 1) =
    search rules in
    record {
      count =
          counted (λ l. min (length l) 8192) rows r c.args.self.now.counts at c.min.result
          counts.count session (search rules) one;
      used =
          counted use_of rows r c.args.self.now.uses at c.if-is_close.self counts.used session
          (search rules)
          (closes ∙ cc (commands, is_free-push (commands_of rows at) r.command));
    }
