-- Where the last game of a session begins among its commands.
use Rattle.std.proofs.Common.{◌≡◌, ◌∙◌, ℕ, suc, ◌+◌, ◌-◌, ◌≤◌, ◌<◌, Bool, true, false, cond, List}
use Rattle.std.proofs.Common.{[], ◌∷◌, ◌++◌, length, drop, refl, sym, ap, subst, arith}
use Rattle.std.proofs.Common.{length-append}
use Rattle.std.proofs.Math.Seq.{drop-append_seam, drop-length}
use Rattle.std.proofs.lemmas.List.{drop-append-le, length-drop}
use Rattle.gate_journal.specs.Rows.{is_open}
use Rattle.gate_journal.specs.declared.command.Command.{Command}
use Rattle.gate_journal.specs.declared.command.Command.TheVariants.{Open, Line, Char, File, Close}
use Rattle.gate_journal.specs.declared.command.Command.TheVariants.{Size}
use Rattle.gate_journal.specs.Rows as journals
use Rattle.session_core.specs.History.{game_of, later}
use Rattle.session_core.proofs.RepeatLemmas.{game_of-append, game_of-append-open, joined}
use Rattle.session_desk.specs.Desk.{BeginsAt}

-- an OPEN of a journal is one of a session
opens : (c : Command) → journals.is_open c ≡ is_open c
opens (Open key story digest seed cols rows budget) = refl
opens (Line win term text) = refl
opens (Char win code) = refl
opens (File name) = refl
opens (Size cols rows) = refl
opens Close = refl

-- a game is the end of its session's commands
abbrev IsEnd : List Command → List Command → Type 0
IsEnd game xs = (length game ≤ length xs) × (drop (length xs - length game) xs ≡ game)

end_more : (opened : Bool) (c : Command) (cs game : List Command)
    → IsEnd game cs
    → IsEnd (later (cond opened (c ∷ cs) []) game) (c ∷ cs)
end_more true c cs [] e =
    let none : suc (length cs) - suc (length cs) ≡ 0 = omega arith in
    (omega arith, ap (λ (k : ℕ). drop k (c ∷ cs)) none)
end_more false c cs [] e =
    let all : suc (length cs) - 0 ≡ length (c ∷ cs) = omega arith in
    (omega arith, ap (λ (k : ℕ). drop k (c ∷ cs)) all ∙ drop-length (c ∷ cs))
end_more opened c cs (g ∷ gs) e =
    let past : suc (length cs) - length (g ∷ gs) ≡ suc (length cs - length (g ∷ gs)) =
    omega (arith, e.0) in
    (omega (arith, e.0), ap (λ (k : ℕ). drop k (c ∷ cs)) past ∙ e.1)

end_of : (xs : List Command) → IsEnd (game_of xs) xs
end_of [] = (omega arith, refl)
end_of (c ∷ cs) = end_more (is_open c) c cs (game_of cs) (end_of cs)

pub begins_there : (xs : List Command) → BeginsAt (length xs - length (game_of xs)) xs
begins_there xs = (omega arith, (end_of xs).1)

-- ---- with one command more

pub begins-open : (xs : List Command) (c : Command)
    → journals.is_open c ≡ true
    → BeginsAt (length xs) (xs ++ c ∷ [])
begins-open xs c e = (
  omega (arith, length-append xs (c ∷ [])),
  drop-append_seam xs (c ∷ []) ∙ sym (game_of-append-open xs c (sym (opens c) ∙ e)),
)

joined_on : (game : List Command) (c : Command) → 0 < length game → joined game c ≡ game ++ c ∷ []
joined_on [] c some = absurd (omega (arith, some))
joined_on (g ∷ gs) c some = refl

-- no game is there yet
pub begins-none : (xs : List Command) (c : Command)
    → journals.is_open c ≡ false → BeginsAt (length xs) xs
    → BeginsAt (length xs + 1) (xs ++ c ∷ [])
begins-none xs c e b =
    let none : game_of xs ≡ [] = sym b.1 ∙ drop-length xs in
    let len : length (xs ++ c ∷ []) ≡ length xs + 1 = length-append xs (c ∷ []) in (
      omega (arith, len),
      ap (λ (k : ℕ). drop k (xs ++ c ∷ [])) (sym len) ∙ drop-length (xs ++ c ∷ [])
          ∙ sym
          (game_of-append xs c (sym (opens c) ∙ e) ∙ ap (λ (g : List Command). joined g c) none),
    )

-- the game goes on
pub begins-on : (xs : List Command) (n : ℕ) (c : Command)
    → journals.is_open c ≡ false → n < length xs → BeginsAt n xs
    → BeginsAt n (xs ++ c ∷ [])
begins-on xs n c e some b =
    let more : 0 < length (game_of xs) =
    subst (λ (g : List Command). 0 < length g) b.1 (omega (arith, some, length-drop n xs)) in (
      omega (arith, some, length-append xs (c ∷ [])),
      drop-append-le n xs (c ∷ []) (omega (arith, some))
          ∙ ap (λ (g : List Command). g ++ c ∷ []) b.1
          ∙ sym (game_of-append xs c (sym (opens c) ∙ e) ∙ joined_on (game_of xs) c more),
    )
