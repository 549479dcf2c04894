-- Commands and marks as one list.
use Rattle.std.proofs.Common.{◌≡◌, ℕ, zero, suc, List, [], ◌∷◌, ◌++◌, length, map, replicate, refl}
use Rattle.std.proofs.Common.{sym, ap, ◌∙◌, arith, Some, Result, Ok, Err}
use Rattle.std.proofs.lemmas.List.{append-nil, length-append}
use Rattle.std.specs.Prelude.{OnErr, OnOk}
use Rattle.gate_journal.specs.declared.command.Command.{Command}
use Rattle.session_core.specs.declared.entry.Entry.{Entry}
use Rattle.session_core.specs.declared.entry.Entry.TheVariants as entries
use Rattle.session_core.specs.Turning.{commands_in}
use Rattle.session_desk.specs.declared.refused.Refused.{Refused}
use Rattle.session_desk.specs.declared.refused.Refused.TheVariants.{DiskFault, NoMemory}
use Rattle.session_desk.specs.declared.desk.mark.Mark.{Mark}
use Rattle.session_desk.specs.declared.desk.mark.Mark.TheVariants.{Accepted, Faulted}
use Rattle.session_desk.specs.Desk.{committed, DeskState}
use Rattle.session_desk.specs.Marks.{count_commands, marks_by, commands_woven}
use Rattle.session_desk.specs.Shared.{history_met, met_by}

count-command : (l : List Mark) (by : ℕ)
    → count_commands (l ++ Accepted by ∷ []) ≡ suc (count_commands l)
count-command [] by = refl
count-command (Accepted b ∷ l) by = ap suc (count-command l by)
count-command (Faulted b f t ∷ l) by = count-command l by

count-fault : (l : List Mark) (by from to : ℕ)
    → count_commands (l ++ Faulted by from to ∷ []) ≡ count_commands l
count-fault [] by from to = refl
count-fault (Accepted b ∷ l) by from to = ap suc (count-fault l by from to)
count-fault (Faulted b f t ∷ l) by from to = count-fault l by from to

woven-command : (l : List Mark) (commands : List Command) (by : ℕ) (c : Command)
    → count_commands l ≡ length commands
    → commands_woven (l ++ Accepted by ∷ []) (commands ++ c ∷ [])
    ≡ commands_woven l commands ++ entries.Accepted by c ∷ []
woven-command [] [] by c is = refl
woven-command [] (d ∷ commands) by c is = absurd (omega (arith, is))
woven-command (Accepted b ∷ l) [] by c is = absurd (omega (arith, is))
woven-command (Accepted b ∷ l) (d ∷ commands) by c is =
    ap (λ (m : List Entry). entries.Accepted b d ∷ m)
    (woven-command l commands by c (omega (arith, is)))
woven-command (Faulted b f t ∷ l) commands by c is =
    ap (λ (m : List Entry). entries.Faulted b f t ∷ m) (woven-command l commands by c is)

woven-fault : (l : List Mark) (commands : List Command) (by from to : ℕ)
    → count_commands l ≡ length commands
    → commands_woven (l ++ Faulted by from to ∷ []) commands
    ≡ commands_woven l commands ++ entries.Faulted by from to ∷ []
woven-fault [] commands by from to is = refl
woven-fault (Accepted b ∷ l) [] by from to is = absurd (omega (arith, is))
woven-fault (Accepted b ∷ l) (d ∷ commands) by from to is =
    ap (λ (m : List Entry). entries.Accepted b d ∷ m)
    (woven-fault l commands by from to (omega (arith, is)))
woven-fault (Faulted b f t ∷ l) commands by from to is =
    ap (λ (m : List Entry). entries.Faulted b f t ∷ m) (woven-fault l commands by from to is)

pub commands_in-woven : (l : List Mark) (commands : List Command)
    → count_commands l ≡ length commands
    → commands_in (commands_woven l commands) ≡ commands
commands_in-woven [] [] is = refl
commands_in-woven [] (d ∷ commands) is = absurd (omega (arith, is))
commands_in-woven (Accepted b ∷ l) [] is = absurd (omega (arith, is))
commands_in-woven (Accepted b ∷ l) (d ∷ commands) is =
    ap (λ (m : List Command). d ∷ m) (commands_in-woven l commands (omega (arith, is)))
commands_in-woven (Faulted b f t ∷ l) commands is = commands_in-woven l commands is

pub length-woven : (l : List Mark) (commands : List Command)
    → count_commands l ≡ length commands
    → length (commands_woven l commands) ≡ length l
length-woven [] commands is = refl
length-woven (Accepted b ∷ l) [] is = absurd (omega (arith, is))
length-woven (Accepted b ∷ l) (d ∷ commands) is =
    ap suc (length-woven l commands (omega (arith, is)))
length-woven (Faulted b f t ∷ l) commands is = ap suc (length-woven l commands is)

pub count-all : (n by : ℕ) → count_commands (replicate n (Accepted by)) ≡ n
count-all zero by = refl
count-all (suc n) by = ap suc (count-all n by)

pub woven-all : (commands : List Command) (by : ℕ)
    → commands_woven (replicate (length commands) (Accepted by)) commands
    ≡ map (entries.Accepted by) commands
woven-all [] by = refl
woven-all (c ∷ commands) by =
    ap (λ (m : List Entry). entries.Accepted by c ∷ m) (woven-all commands by)

-- ---- behind a commit

pub count-by : {T : Type 0} (l : List Mark) (done : Result T Refused) (by : ℕ)
    (old new : DeskState) (c : Command)
    → count_commands l ≡ length old.commands
    → OnOk done (new ≡ committed old c) → OnErr done (new ≡ old)
    → count_commands (l ++ marks_by by done) ≡ length new.commands
count-by l (Ok x) by old new c is ok err =
    count-command l by
    ∙ (omega (arith, is, length-append old.commands (c ∷ [])))
    ∙ sym (ap (λ (d : DeskState). length d.commands) ok)
count-by l (Err (DiskFault f)) by old new c is ok err =
    count-fault l by f.from f.to ∙ is ∙ sym (ap (λ (d : DeskState). length d.commands) err)
count-by l (Err NoMemory) by old new c is ok err =
    ap count_commands (append-nil l) ∙ is ∙ sym (ap (λ (d : DeskState). length d.commands) err)

pub woven-by : {T : Type 0} (l : List Mark) (done : Result T Refused) (by : ℕ)
    (old new : DeskState) (c : Command)
    → count_commands l ≡ length old.commands
    → OnOk done (new ≡ committed old c) → OnErr done (new ≡ old)
    → commands_woven (l ++ marks_by by done) new.commands
    ≡ history_met (commands_woven l old.commands) by (Some c) (met_by done)
woven-by l (Ok x) by old new c is ok err =
    ap (λ (d : DeskState). commands_woven (l ++ Accepted by ∷ []) d.commands) ok
    ∙ woven-command l old.commands by c is
woven-by l (Err (DiskFault f)) by old new c is ok err =
    ap (λ (d : DeskState). commands_woven (l ++ Faulted by f.from f.to ∷ []) d.commands) err
    ∙ woven-fault l old.commands by f.from f.to is
woven-by l (Err NoMemory) by old new c is ok err =
    ap (λ (d : DeskState). commands_woven (l ++ []) d.commands) err
    ∙ ap (λ (m : List Mark). commands_woven m old.commands) (append-nil l)
