use Rattle.std.proofs.Common.{◌≡◌, ◌++◌, ℕ, map, drop}
use Rattle.smart_base.specs.declared.party.Party.TheVariants as parties
use Rattle.world_state.proofs.state.parties_of.Given as goal

-- the parties so far and those left are all
abbrev pub invariant-loop-id : goal.invariant-loop-id
invariant-loop-id l = l.parties ++ map (λ (id : ℕ). parties.Client id) (drop l.id-index l.clients) ≡ map (λ (id : ℕ). parties.Client id) l.clients
