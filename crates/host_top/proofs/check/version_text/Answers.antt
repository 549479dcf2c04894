use Rattle.std.proofs.Common.{◌≡◌, ◌∙◌, ◌++◌, ◌-◌, ◌^◌, ap, append_assoc, arith, false, length}
use Rattle.std.proofs.Common.{List, [], ℕ, replicate, rules, true}
use Rattle.std.proofs.lemmas.List.{append-nil}
use Rattle.std.specs.Fmt.{char_count, digits, format_spec, padded_integral}
use Rattle.host_top.specs.CheckText.{hexadecimal}
use Rattle.host_top.proofs.check.version_text.Goals as goal

-- what `{:08X}` writes
in_eight : (n : ℕ) → padded_integral (format_spec 32 0 4 8 (2 ^ 64 - 1)) false []
    (digits 16 true n) ≡ hexadecimal n
unfolding padded_integral char_count
in_eight n =
    let ds : List ℕ = digits 16 true n in
    let same : 8 - length ds - 0 - 0 ≡ 8 - length ds = omega arith in
    ap (λ (k : ℕ). replicate k 48 ++ (ds ++ [])) same
    ∙ ap (λ (l : List ℕ). replicate (8 - length ds) 48 ++ l) (append-nil ds)

pub returns : goal.returns
returns c = let h = c.format.ensures.ok in search (rules, append_assoc, in_eight)
