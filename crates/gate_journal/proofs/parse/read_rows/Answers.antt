use Rattle.std.proofs.Common.{◌≡◌, ◌≢◌, ◌++◌, ◌∷◌, [], ◌+◌, ◌-◌, ℕ, List, length, get_or}
use Rattle.std.proofs.Common.{take, drop, refl, ◌∙◌, ap, subst, arith, rules}
use Rattle.std.proofs.lemmas.List.{take_rest, nil_from_length}
use Rattle.gate_journal.specs.Parsing.{BeginsWithRow, IsNoNext}
use Rattle.gate_journal.specs.Rows.{journal_front, payload_of}
use Rattle.gate_journal.proofs.RowLemmas.{spells_split, parse_step}
use Rattle.gate_journal.proofs.CorruptLemmas.{corrupt_end, corrupt_row}
use Rattle.gate_journal.proofs.parse.read_rows.Goals as goal

pub returns-then-gate-ne1-clause-ok : goal.returns-then-gate-ne1-clause-ok
returns-then-gate-ne1-clause-ok c =
    let rest = c.loop-rest.rest.now in
    let I = c.loop-rest.invariant in
    let shut : get_or rest 0 0 ≢ 1 = search rules in
    spells_split c.in-Some.version c.loop-rest.rows.items c.args.bytes.now rest I.journal
    I.versions I.split
    c.in-len1-up.len_at_least shut

pub returns-in_default-2-clause-exact : goal.returns-in_default-2-clause-exact
returns-in_default-2-clause-exact c =
    let rest = c.loop-rest.rest.now in
    let rows = c.loop-rest.rows.items in
    let I = c.loop-rest.invariant in
    let is_open : get_or rest 0 0 ≡ 1 = search rules in
    let found = c.in_ok-row.ensures rows I.counted I.place in
    let v = c.in-Some.version in
    let none : IsNoNext v rows (take (length rest - 1) (drop 1 rest)) =
    rw c.in_default-2.is at found in
    corrupt_row v rows c.args.bytes.now rest c.loop-rest.place I.journal I.versions I.split I.place
    is_open (subst (λ (l : List ℕ). IsNoNext v rows l) (take_rest rest 1) none)

pub returns-clause-exact : goal.returns-clause-exact
returns-clause-exact c =
    let I = c.loop-rest.invariant in
    let none : c.loop-rest.rest.now ≡ [] =
    nil_from_length c.loop-rest.rest.now (omega (arith, c.in_default-rest.len_below)) in
    let v = c.in-Some.version in
    corrupt_end v c.loop-rest.rows.items c.args.bytes.now c.loop-rest.place I.journal I.versions
    (I.split ∙ ap (λ (l : List ℕ). journal_front v c.loop-rest.rows.items ++ l) none) I.place

pub loop-rest-preserved : goal.loop-rest-preserved
loop-rest-preserved c =
    let rest = c.loop-rest.rest.now in
    let rows = c.loop-rest.rows.items in
    let r = c.in-Some-2.row in
    let I = c.loop-rest.invariant in
    let n = c.payload_len-size.result in
    let is_open : get_or rest 0 0 ≡ 1 = search rules in
    let said = c.in_ok-row.ensures rows I.counted I.place in
    let v = c.in-Some.version in
    let found : BeginsWithRow v rows (take (length rest - 1) (drop 1 rest)) r =
    rw c.in-Some-2.is at said in
    let first : BeginsWithRow v rows (drop 1 rest) r = rw (take_rest rest 1) at found in
    let later : c.push.new.self.items ≡ rows ++ r ∷ [] = c.in_ok-push.ensures.items in
    let size : n ≡ length (payload_of r.command) = c.payload_len-size.ensures.value in
    let step =
    parse_step v c.args.bytes.now rest (take (length rest - (5 + n)) (drop (5 + n) rest))
    rows c.push.new.self.items r c.loop-rest.place (c.loop-rest.place + (5 + n))
    I.split I.journal I.versions I.place is_open c.in-len1-up.len_at_least first later
    (ap (λ (k : ℕ). c.loop-rest.place + (5 + k)) size)
    (take_rest rest (5 + n) ∙ ap (λ (k : ℕ). drop (5 + k) rest) size) in
    let counted = c.count.ensures rows r refl refl I.counted in
    record {
      split = step.0;
      journal = step.1;
      versions = step.2;
      place = step.3;
      counted = rw later counted;
    }
