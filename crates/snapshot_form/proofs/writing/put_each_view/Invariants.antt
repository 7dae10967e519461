use Rattle.std.proofs.Common.{◌≡◌, ◌++◌, drop}
use Rattle.std.specs.List.{flat_map}
use Rattle.smart_base.specs.ViewBytes.{view_text}
use Rattle.snapshot_form.proofs.writing.put_each_view.Given as goal

-- what is written and what is left are all of the text
abbrev pub invariant-loop-view : goal.invariant-loop-view
invariant-loop-view l = l.out.items ++ flat_map view_text (drop l.view-index l.views) ≡ l.fn.out.items ++ flat_map view_text l.fn.views
