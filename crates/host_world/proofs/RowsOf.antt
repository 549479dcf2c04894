-- The commands of a session in rows, one row more.
use Rattle.std.proofs.Common.{Bool, List, [], ap, false, refl, sym, true, ℕ, ◌++◌, ◌==◌, ◌∙◌, ◌∷◌}
use Rattle.std.proofs.Common.{◌≡◌, ◌≢◌}
use Rattle.std.specs.Prelude.{if◌then◌else◌}
use Rattle.gate_journal.specs.Rows.{commands_of}
use Rattle.gate_journal.specs.declared.command.Command.{Command}
use Rattle.gate_journal.specs.declared.row.Row.{Row}
use Rattle.session_core.specs.Turning.{commands_in}
use Rattle.host_world.specs.Sessions.{history_found}
use Rattle.host_world.proofs.Folds.{eq_other, eq_self}

cons_if : (b : Bool) (c d : Command) (l m : List Command) → m ≡ l ++ d ∷ []
    → (if b then c ∷ m else m) ≡ (if b then c ∷ l else l) ++ d ∷ []
cons_if true c d l m is = ap (λ (k : List Command). c ∷ k) is
cons_if false c d l m is = is

same_if : (b : Bool) (c : Command) (l m : List Command) → m ≡ l
    → (if b then c ∷ m else m) ≡ (if b then c ∷ l else l)
same_if b c l m is = ap (λ (k : List Command). if b then c ∷ k else k) is

pub rows-here : (s : ℕ) (rows : List Row) (r : Row) → r.session ≡ s
    → commands_of (rows ++ r ∷ []) s ≡ commands_of rows s ++ r.command ∷ []
rows-here s [] r is =
    ap (λ (b : Bool). if b then r.command ∷ [] else []) (ap (λ (n : ℕ). n == s) is ∙ eq_self s)
rows-here s (x ∷ rows) r is =
    cons_if (x.session == s) (x.command) (r.command) (commands_of rows s)
    (commands_of (rows ++ r ∷ []) s) (rows-here s rows r is)

pub rows-other : (s : ℕ) (rows : List Row) (r : Row) → r.session ≢ s
    → commands_of (rows ++ r ∷ []) s ≡ commands_of rows s
rows-other s [] r apart =
    ap (λ (b : Bool). if b then r.command ∷ [] else [])
    (eq_other r.session s (λ is. apart (sym is)))
rows-other s (x ∷ rows) r apart =
    same_if (x.session == s) (x.command) (commands_of rows s) (commands_of (rows ++ r ∷ []) s)
    (rows-other s rows r apart)

pub commands-found : (cs : List Command) → commands_in (history_found cs) ≡ cs
commands-found [] = refl
commands-found (c ∷ cs) = ap (λ (l : List Command). c ∷ l) (commands-found cs)
