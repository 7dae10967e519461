-- What holds of the parties of a group when its run has ended: of their trails, of what came to them, and of their stores.
use Rattle.std.specs.Prelude.{◌≡◌, ◌≤◌, ◌+◌, ℕ, zero, suc, Bool, true, List, [], ◌∷◌, length, get_or, Some, None, IfSome}
use Rattle.std.specs.Io.KnownBytes.{Appends}
use Rattle.std.specs.List.{flat_map}
use Rattle.disk_model.specs.Rooms.{address}
use Rattle.durable_store.specs.Disks.{cells_of}
use Rattle.durable_store.specs.declared.store.Store.{Store}
use Rattle.group_client.specs.Amounts.{AsksUpTo}
use Rattle.group_client.specs.Lines.{accepted}
use Rattle.group_ends.specs.Carried.{carried, times, DropsLate}
use Rattle.group_ends.specs.Journals.{has_end, HasFront, IsEndLast}
use Rattle.group_wires.specs.Wires.{place_of, receivers}
use Rattle.client_quorum.specs.Clients.{fresh}
use Rattle.client_quorum.specs.declared.client.Acceptance.{Acceptance}
use Rattle.client_seat.specs.Asks.{Asks}
use Rattle.member_opening.specs.Devices.{devices_at}
use Rattle.member_opening.specs.Headings.{head_by}
use Rattle.member_opening.specs.Restorings.{node_by, parts_in, store_fault}
use Rattle.node_played.specs.Lives.{made_texts}
use Rattle.node_rooms.specs.Texts.{IsEmpty}
use Rattle.node_rules.specs.declared.node.Target.{Target}
use Rattle.node_rules.specs.declared.node.Target.TheVariants.{Node, Client}
use Rattle.member_opening.specs.Opened.{OpensWith}
use Rattle.group_parties.specs.Manned.{RoundsOf}
use Rattle.queue_ends.specs.Rule.{IsFront}
use Rattle.smart_base.specs.Lists.{Each}
use Rattle.store_laws.specs.Restored.{restores}
use Rattle.store_laws.specs.Stops.{is_installed}
use Rattle.store_laws.specs.declared.job.Kept.{Kept}
use Rattle.trail.specs.Trails.{trail_text}
use Rattle.trail_rules.specs.Replays.{core_steps, replay, arrivals, needed, Released}
use Rattle.audit_rules.specs.declared.recorded.Recorded.{Recorded}
use Rattle.group_opening.specs.Runs.{GroupRun, member_settings, client_head}

-- the end of links at which a party polls, by its number
abbrev pub end_of : ℕ → Target
end_of zero = Client 1
end_of (suc before) = Node (suc before)

-- whom a party of this number sends to, of so many members
abbrev pub receivers_of : ℕ → ℕ → List Target
receivers_of count number = get_or (receivers count) (place_of count number) []

-- What came to a party by its trail is among what these trails send to it and do not tell as lost. No message came more often than that. It is counted over all
-- senders together: a trail does not tell from which link a message came.
abbrev pub CameFrom : List Recorded → Recorded → Type 0
CameFrom trails t = (bytes : List ℕ) → times bytes (arrivals t.events) ≤ times bytes (flat_map (λ (s : Recorded). carried (end_of t.opening.member) s.events) trails)

module _ {S : Type 0} where
  -- What is kept of a trail. Its sink was empty as it was had. What the sink tells at the end is a front of the trail's text, and the room of trails keeps that.
  -- A trail that is whole has its end, and its sink tells the whole text.
  pub record IsKept (r : GroupRun S) (whole : Bool) (t : Recorded) : Type 0 where
    pub begun : r.sink
    pub empty : IsEmpty (r.text_of begun)
    pub told : r.sink
    pub text : HasFront (r.text_of begun) (r.text_of told) (trail_text t.opening t.entries t.events)
    pub kept : IfSome (r.text_of told) (λ text. r.trails.after (address r.settings.dir t.opening.member 0) ≡ Some text)
    pub all_text : whole ≡ true → Appends (r.text_of begun) (r.text_of told) (trail_text t.opening t.entries t.events)
    pub ended : whole ≡ true → has_end t.events ≡ true

  -- A member has lived over what its store restored. Each message that its trail sends is the next release of the replay there, and needed no more entries than
  -- are firm in its store. Behind an End nothing stands. A Lost is of the message sent last, and of a link that carried 1,024. The devices of the store are in their
  -- room again, and hold the same, if disks tell what they hold.
  pub record MemberOver (r : GroupRun S) (trail_whole : Bool) (member : ℕ) (t : Recorded) : Type 0 where
    pub kept : Kept
    pub restored : r.told → kept ≡ restores (r.images member)
    pub whole : store_fault r.meaning (member_settings r.settings member) (parts_in kept) ≡ None
    pub opening : (t.opening ≡ head_by r.meaning (member_settings r.settings member) (parts_in kept)) × (t.entries ≡ kept.entries)
    pub released : Released (core_steps r.meaning) (node_by r.meaning (member_settings r.settings member) (parts_in kept)) t.events
    pub end_last : IsEndLast t.events
    pub late : DropsLate (receivers_of r.settings.members member) [] t.events
    -- its store: rounds were made over the one that was opened, and took a front of the entries that the replay made
    pub opened : Store r.disk
    pub opens : OpensWith r.told r.cells (r.images member) kept opened
    pub store : Store r.disk
    pub taken : List (List ℕ)
    pub faulty : Bool
    pub front : IsFront taken (made_texts (length kept.entries) (replay (core_steps r.meaning) (node_by r.meaning (member_settings r.settings member) (parts_in kept)) t.events).entries)
    pub rounds : RoundsOf r.told r.remembers r.cells r.moment r.left_since is_installed r.meaning (node_by r.meaning (member_settings r.settings member) (parts_in kept)) (length kept.entries) faulty [] taken opened store
    pub needs : needed (core_steps r.meaning) (node_by r.meaning (member_settings r.settings member) (parts_in kept)) t.events ≤ store.plan.firm
    pub told_firm : (replay (core_steps r.meaning) (node_by r.meaning (member_settings r.settings member) (parts_in kept)) t.events).firm ≤ store.plan.firm
    -- its devices are in their room again
    pub devices : r.told → devices_at r.room.after r.settings.dir member ≡ cells_of r.cells store.disks
    pub text : IsKept r trail_whole t

  -- The store of a member was opened over what it restored, and rounds were made over it. Its devices are in their room again, and hold the same, if disks tell what
  -- they hold.
  pub record StoreOver (r : GroupRun S) (member : ℕ) : Type 0 where
    pub kept : Kept
    pub restored : r.told → kept ≡ restores (r.images member)
    pub whole : store_fault r.meaning (member_settings r.settings member) (parts_in kept) ≡ None
    pub opened : Store r.disk
    pub opens : OpensWith r.told r.cells (r.images member) kept opened
    pub store : Store r.disk
    pub taken : List (List ℕ)
    pub faulty : Bool
    pub rounds : RoundsOf r.told r.remembers r.cells r.moment r.left_since is_installed r.meaning (node_by r.meaning (member_settings r.settings member) (parts_in kept)) (length kept.entries) faulty [] taken opened store
    pub devices : r.told → devices_at r.room.after r.settings.dir member ≡ cells_of r.cells store.disks

  -- The client sent by its trail the requests that it had to ask next, of the amounts from 1 on, and no other message.
  pub record ClientOver (r : GroupRun S) (whole : Bool) (t : Recorded) : Type 0 where
    pub opening : (t.opening ≡ client_head r.settings) × (t.entries ≡ [])
    pub asks : Asks r.settings.secret (fresh r.settings.view 1) t.events
    pub amounts : AsksUpTo r.settings.asks t.events
    pub end_last : IsEndLast t.events
    pub late : DropsLate (receivers_of r.settings.members 0) [] t.events
    pub text : IsKept r whole t

  -- members that have lived, with the numbers from this one on
  abbrev pub AreOver : GroupRun S → Bool → ℕ → List Recorded → Type 0
  AreOver r whole first [] = Unit {0}
  AreOver r whole first (t ∷ members) = MemberOver r whole first t × AreOver r whole (suc first) members

  -- A run in which a group has lived: the trails of its client and of its members, ascending. No message came to a party more often than these trails send it there
  -- and tell no Lost of it.
  pub record GroupOver (r : GroupRun S) : Type 0 where
    pub client : Recorded
    pub members : List Recorded
    pub many : length members ≡ r.settings.members
    -- whether all trails are whole: each has ended, and no call has failed
    pub whole : Bool
    pub asked : ClientOver r whole client
    pub each : AreOver r whole 1 members
    pub came : Each (CameFrom (client ∷ members)) (client ∷ members)

  -- the trails, that of the client first
  abbrev pub trails_of : {r : GroupRun S} → GroupOver r → List Recorded
  trails_of over = over.client ∷ over.members

  -- what its client accepted
  abbrev pub accepted_by : {r : GroupRun S} → GroupOver r → List Acceptance
  accepted_by over = accepted over.client.opening over.client.events
