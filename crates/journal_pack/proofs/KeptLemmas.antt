-- The live rows, as they are taken from the last one on.
use Rattle.std.proofs.Common.{◌≡◌, Bool, true, false, List, [], ◌∷◌, ◌++◌, refl, sym, ◌∙◌, ap}
use Rattle.std.proofs.Common.{append_assoc, reverse}
use Rattle.std.specs.Prelude.{if◌then◌else◌}
use Rattle.std.proofs.lemmas.List.{append-nil, reverse-append}
use Rattle.gate_journal.specs.declared.row.Row.{Row}
use Rattle.journal_pack.specs.Later.{SaysLater}
use Rattle.journal_pack.specs.Live.{is_live, live_rows}

-- those of the rows that aren't left, the last one first, and what these say of those that are
pub record IsKept (all left kept : List Row) (met live : List Bool) : Type 0 where
  pub behind : List Row
  pub split : all ≡ left ++ behind
  pub rows : reverse kept ≡ live_rows behind
  pub later : SaysLater behind met live

-- before any is taken
pub kept_first : (all : List Row) (met live : List Bool) → SaysLater [] met live
    → IsKept all all [] met live
kept_first all met live later = record {
  behind = [];
  split = sym (append-nil all);
  rows = refl;
  later = later;
}

-- what is said of a row that is met
abbrev Meets : Row → Bool → List Bool → List Bool → List Bool → List Bool → Type 0
Meets r is met live met_then live_then =
    (rows : List Row) (s : Row) → s.session ≡ r.session → s.command ≡ r.command
    → SaysLater rows met live → (is ≡ is_live s rows) × SaysLater (s ∷ rows) met_then live_then

split_on : (all left next behind : List Row) (r : Row) → all ≡ left ++ behind
    → left ≡ next ++ r ∷ [] → all ≡ next ++ r ∷ behind
split_on all left next behind r split took =
    split ∙ ap (λ (l : List Row). l ++ behind) took ∙ append_assoc next (r ∷ []) behind

-- one that is live is kept
pub kept_live : (all left next kept more : List Row) (r : Row)
    (met live met_then live_then : List Bool)
    → IsKept all left kept met live → left ≡ next ++ r ∷ [] → more ≡ kept ++ r ∷ []
    → Meets r true met live met_then live_then → IsKept all next more met_then live_then
kept_live all left next kept more r met live met_then live_then before took put meets =
    let said = meets before.behind r refl refl before.later in
    record {
      behind = r ∷ before.behind;
      split = split_on all left next before.behind r before.split took;
      rows =
          ap (λ (l : List Row). reverse l) put ∙ reverse-append kept (r ∷ [])
          ∙ ap (λ (l : List Row). r ∷ l) before.rows
          ∙ ap (λ (b : Bool). if b then r ∷ live_rows before.behind else live_rows before.behind)
          said.0;
      later = said.1;
    }

-- another one isn't
pub kept_other : (all left next kept : List Row) (r : Row)
    (met live met_then live_then : List Bool)
    → IsKept all left kept met live → left ≡ next ++ r ∷ []
    → Meets r false met live met_then live_then → IsKept all next kept met_then live_then
kept_other all left next kept r met live met_then live_then before took meets =
    let said = meets before.behind r refl refl before.later in
    record {
      behind = r ∷ before.behind;
      split = split_on all left next before.behind r before.split took;
      rows =
          before.rows
          ∙ ap (λ (b : Bool). if b then r ∷ live_rows before.behind else live_rows before.behind)
          said.0;
      later = said.1;
    }

-- none is left
pub kept_all : (all left kept : List Row) (met live : List Bool) → IsKept all left kept met live
    → left ≡ [] → reverse kept ≡ live_rows all
kept_all all left kept met live before none =
    before.rows
    ∙ ap live_rows (sym (before.split ∙ ap (λ (l : List Row). l ++ before.behind) none))
