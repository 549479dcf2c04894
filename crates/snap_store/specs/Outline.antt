-- What is read of a file to know its areas (own).
use Rattle.std.specs.Prelude.{ℕ, List, length}
use Rattle.snap_store.specs.declared.side.Side.TheVariants.{A, B}
use Rattle.snap_store.specs.declared.outline.Outline.{Outline}
use Rattle.snap_store.specs.File.{has_header, gate_byte, area_head}

abbrev pub outline_of : List ℕ → Outline
outline_of file = record {
  made = has_header file;
  size = length file;
  gate_a = gate_byte A file;
  gate_b = gate_byte B file;
  a = area_head A file;
  b = area_head B file;
}
