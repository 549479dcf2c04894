-- Files with 0 at both gates.
use Rattle.std.proofs.Common.{◌≡◌, ℕ, ◌==◌, Bool, true, false, ◌&&◌, cond, List, [], None, Some, refl}
use Rattle.std.proofs.Common.{Option, arith}
use Rattle.std.specs.Prelude.{not}
use Rattle.std.proofs.lemmas.Bool.Decides.{nat_tests}
use Rattle.snap_store.specs.declared.side.Side.{Side}
use Rattle.snap_store.specs.declared.side.Side.TheVariants.{A, B}
use Rattle.snap_store.specs.File.{KeepsAreasOfBeforeClosed, Stored, area_on_side, gate_byte}
use Rattle.snap_store.specs.File.{has_header, is_whole, open_area, openable_area}

none_open : (a c : Bool) (area : Stored)
    → ◌≡◌ {A = Option Stored} (cond (a && false && c) (Some area) None) None
none_open true c area = refl
none_open false c area = refl

shut : (side : Side) (file : List ℕ) → gate_byte side file ≡ 0 → open_area side file ≡ None
shut side file e =
    let f : (gate_byte side file == 1) ≡ false = grind (arith, nat_tests, e) in
    rw f (none_open (has_header file) (is_whole side file) (area_on_side side file))

not_openable : (side : Side) (file : List ℕ) → gate_byte side file ≡ 0
    → openable_area side file ≡ None
not_openable side file e =
    let t : (gate_byte side file == 0) ≡ true = grind (arith, nat_tests, e) in
    rw t (none_open (has_header file) (is_whole side file) (area_on_side side file))

pub closed_before : KeepsAreasOfBeforeClosed
unfolding gate_byte
closed_before file a b = record {
  opened = rw (shut A file a, shut B file b) refl;
  openable = openable;
} where
  openable : (side : Side) → openable_area side file ≡ None
  openable A = not_openable A file a
  openable B = not_openable B file b
