-- Patches that words give one by one.
use Rattle.std.proofs.Common.{◌≡◌, List, [], ◌∷◌, Result, Ok, Err, refl, ap, append_assoc}
use Rattle.world_rules.specs.declared.crash.Patch.{Patch}
use Rattle.world_rules.specs.Scripts.{before, with_patch}
use Rattle.world_rules.specs.declared.line.Kind.{Kind}
use Rattle.world_rules.specs.declared.line.Kind.TheVariants as kinds
use Rattle.world_script.specs.Patches.{patches_then}

-- the first of three kinds
before_next : (a b c : Kind) → before (before a b) c ≡ before a (before b c)
before_next kinds.Number b c = refl
before_next kinds.Form b c = refl
before_next kinds.Empty b c = refl
before_next kinds.Byte b c = refl
before_next kinds.Long b c = refl
before_next kinds.Header b c = refl
before_next kinds.Word b c = refl
before_next kinds.Count b c = refl
before_next kinds.Refer b c = refl

-- the next word's patch behind the first ones, and then those of the words left
pub next_patch : (ps : Result (List Patch) Kind) (p : Result Patch Kind) (qs : Result (List Patch) Kind)
    → patches_then (patches_then ps (with_patch p (Ok []))) qs ≡ patches_then ps (with_patch p qs)
next_patch (Ok ps) (Ok p) (Ok qs) = ap Ok (append_assoc ps (p ∷ []) qs)
next_patch (Ok ps) (Ok p) (Err c) = refl
next_patch (Ok ps) (Err b) (Ok qs) = refl
next_patch (Ok ps) (Err b) (Err c) = refl
next_patch (Err a) (Ok p) (Ok qs) = refl
next_patch (Err a) (Ok p) (Err c) = refl
next_patch (Err a) (Err b) (Ok qs) = refl
next_patch (Err a) (Err b) (Err c) = ap Err (before_next a b c)
