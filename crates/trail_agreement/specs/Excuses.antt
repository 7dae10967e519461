-- Coherent runs of a group in which some members are excused: they may have sent anything.
use Rattle.std.specs.Prelude.{◌≡◌, ℕ, Bool, true, false, List}
use Rattle.smart_base.specs.Lists.{Each}
use Rattle.smart_base.specs.declared.party.Party.{Party}
use Rattle.smart_base.specs.declared.party.Party.TheVariants.{Member, Client}
use Rattle.smart_keys.specs.Keys.{is_tag}
use Rattle.smart_messages.specs.Messages.{decoded}
use Rattle.smart_messages.specs.declared.message.Sealed.{Sealed}
use Rattle.trail_rules.specs.Replays.{arrivals}
use Rattle.audit_rules.specs.declared.recorded.Recorded.{Recorded}
use Rattle.audit_rules.specs.Audits.{has_sent, is_member, sealed_in}
use Rattle.audit_rules.specs.Coherence.{IsReplayed}

-- a member that is excused
abbrev pub is_excused : (ℕ → Bool) → Party → Bool
is_excused faulty (Member id) = faulty id
is_excused faulty (Client id) = false

-- a statement of a member that is not excused was sent, if its tag is the one that the member makes
abbrev pub IsSentBut : (ℕ → Bool) → List Recorded → List ℕ → Sealed → Type 0
IsSentBut faulty trails secret s = is_member s.who ≡ true → is_excused faulty s.who ≡ false → is_tag secret s.who s.text s.tag ≡ true → has_sent trails s ≡ true

-- all that came in a trail was sent
abbrev pub AreSentBut : (ℕ → Bool) → List Recorded → Recorded → Type 0
AreSentBut faulty trails t = Each (λ bytes. Each (IsSentBut faulty trails t.opening.secret) (sealed_in (decoded bytes))) (arrivals t.events)

-- Coherent recorded runs but for what came from members that are excused. Each Send of a member is the next message that leaves its replay
-- there. Each statement that came from a member that is not excused, with its tag, is the member's own in a message that it sent by its trail.
pub record CoherentBut (faulty : ℕ → Bool) (trails : List Recorded) : Type 0 where
  pub replayed : Each IsReplayed trails
  pub sent : Each (AreSentBut faulty trails) trails

-- nobody is excused
abbrev pub nobody : ℕ → Bool
nobody member = false
