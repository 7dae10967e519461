use Rattle.std.proofs.Common.{◌≡◌, ◌++◌, drop}
use Rattle.std.specs.Prelude.{string_bytes}
use Rattle.std.specs.List.{flat_map}
use Rattle.smart_chart.specs.Pictures.{shape_text}
use Rattle.smart_chart.proofs.picture.push_shapes.Given as goal

abbrev pub invariant-loop-shape : goal.invariant-loop-shape
invariant-loop-shape l = string_bytes l.out ++ flat_map shape_text (drop l.shape-index l.shapes) ≡ string_bytes l.fn.out ++ flat_map shape_text l.shapes
