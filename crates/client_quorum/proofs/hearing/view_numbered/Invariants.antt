use Rattle.std.proofs.Common.{◌≡◌, drop}
use Rattle.certificates.specs.Collects.{view_numbered}
use Rattle.client_quorum.proofs.hearing.view_numbered.Given as goal

-- the view is among those left, if it is there
abbrev pub invariant-loop-view : goal.invariant-loop-view
invariant-loop-view l = view_numbered (drop l.view-index l.views) l.number ≡ view_numbered l.views l.number
