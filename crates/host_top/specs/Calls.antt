-- Calls of an outside of which none is to fail (own).
use Rattle.std.specs.Prelude.{◌≡◌, ℕ, List, [], map, Option, IsSomeAnd, Some, false}
use Rattle.line_talk.specs.Causes.{Rose}
use Rattle.line_talk.specs.Failing.{Failing}
use Rattle.host_top.specs.Files.{OutsideState, Told, There, is_out}
use Rattle.host_top.specs.declared.loan.Loan.{Loan}

-- it is told that no call is to fail
abbrev pub NoneIsListed : Option Failing → Type 0
NoneIsListed failing = IsSomeAnd failing (λ calls. calls.listed ≡ [])

-- the files of these names are told to be there
abbrev pub AreThere : (List ℕ → Told (List ℕ)) → List (List ℕ) → Type 0
AreThere file names = (files : List (List ℕ)) × (map file names ≡ map There files)

-- no disk is out
abbrev pub NoneIsOut : (List ℕ → Option Loan) → Type 0
NoneIsOut loans = (name : List ℕ) → is_out (loans name) ≡ false

-- no disk that came back has failed since it was lent
abbrev pub NoneFailed : (List ℕ → Option Loan) → Type 0
NoneFailed loans =
    (name : List ℕ) (loan : Loan) (to : ℕ) → loans name ≡ Some loan → loan.to ≡ Some to
    → Rose loan.from to → ⊥

-- no call for a disk is to fail, no disk is out, and no disk that came back has failed since
pub record DisksStand {D : Type 0} (failing : Option Failing) (outside beyond : OutsideState D)
    : Type 0 where
  pub unlisted : NoneIsListed failing
  pub none_out : NoneIsOut outside.loan
  pub none_failed : NoneFailed beyond.loan
