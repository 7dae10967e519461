-- What a run of `group` has written and kept, by its status, and what its trails agree on.
use Rattle.std.specs.Prelude.{◌≡◌, ◌⊎◌, ◌≤◌, ◌+◌, ℕ, List, [], Option, None, Some, IsSome, codes}
use Rattle.std.specs.Io.KnownBytes.{Appends}
use Rattle.smart_base.specs.Lists.{Each}
use Rattle.app_count.specs.Counts.{counting}
use Rattle.app_count.specs.declared.Count.{Count}
use Rattle.disk_model.specs.Rooms.{address}
use Rattle.store_laws.specs.Restored.{Images, restores}
use Rattle.trail.specs.declared.opening.App.TheVariants as apps
use Rattle.member_opening.specs.Restorings.{parts_in, store_fault}
use Rattle.member_opening.specs.declared.settings.Settings.{Settings}
use Rattle.client_quorum.specs.declared.client.Acceptance.{Acceptance}
use Rattle.audit_rules.specs.Coherence.{Fresh}
use Rattle.audit_rules.specs.Readings.{AreRead}
use Rattle.audit_rules.specs.declared.recorded.Recorded.{Recorded}
use Rattle.audit_rules.specs.declared.recorded.TheConstants.{PARTS}
use Rattle.audit_laws.specs.Written.{IsShort, parts_of, text_of, texts_of}
use Rattle.smart_base.specs.Cuts.{IsBytes}
use Rattle.smart_messages.specs.Messages.{Fits}
use Rattle.trail.specs.Events.{FitsEvent, event_text}
use Rattle.trail.specs.Openings.{FitsOpening, opening_text}
use Rattle.trail.specs.declared.event.Addressed.{Addressed}
use Rattle.trail.specs.declared.event.TrailEvent.{TrailEvent}
use Rattle.trail_rules.specs.Replays.{arrivals, sends}
use Rattle.trail_agreement.specs.Deliveries.{NoCollision, OneList}
use Rattle.trail_replies.specs.Answers.{IsAnswer}
use Rattle.script_play.specs.declared.status.Status.{Status}
use Rattle.script_play.specs.declared.status.Status.TheVariants as ends
use Rattle.command_words.specs.declared.node_words.GroupWords.{GroupWords}
use Rattle.member_opening.specs.Rooms.{IsStill}
use Rattle.group_run.specs.Ends.{GroupEnd, IsAccepted}
use Rattle.group_run.specs.Lines.{all_lines}
use Rattle.group_run.specs.Parties.{GroupOver, accepted_by, trails_of}
use Rattle.group_opening.specs.Rooms.{KeepsRest}
use Rattle.group_opening.specs.Runs.{GroupRun}
use Rattle.group_opening.specs.declared.settings.GroupSettings.{GroupSettings}
use Rattle.group_run.specs.declared.status.GroupStatus.{GroupStatus}
use Rattle.group_run.specs.declared.status.GroupStatus.TheVariants as groups
use Rattle.smart_top.specs.Audits.{AuditEnd, kind_of}
use Rattle.smart_top.specs.Nodes.{first_view}

-- The group that words name. Its secret is that of the groups of scripts.
pub record IsNamed (w : GroupWords) (s : GroupSettings) : Type 0 where
  pub members : s.members ≡ w.group.members
  pub faulty : s.faulty ≡ w.group.faulty
  pub dir : s.dir ≡ w.dir
  pub secret : s.secret ≡ codes "world"
  pub view : s.view ≡ first_view w.group
  pub period : s.period ≡ w.period
  pub asks : s.asks ≡ w.asks
  pub turns : s.turns ≡ w.turns

-- The status of the program, by that of a group. Its client has number 1.
abbrev pub status_by : GroupStatus → Status
status_by groups.Ok = ends.Ok
status_by (groups.Store entry) = ends.Store entry
status_by groups.WriteFault = ends.WriteFault
status_by groups.TrailFault = ends.TrailFault
status_by groups.DiskFault = ends.DiskFault
status_by (groups.Differs d) = ends.Differs (kind_of d.found) d.member d.event
status_by (groups.GaveUp polls) = ends.GaveUp 1 polls
status_by groups.NoMemory = ends.NoMemory

-- How a run of `group` ended: of a group that the words name. In the rooms of disks and of trails all that is of others is as it was. Of what belongs to members 1 to
-- N, and to the client, as much is taken as before.
pub record GroupRan (w : GroupWords) (run : GroupSettings → GroupRun Count) (status : Status) : Type 0 where
  pub settings : GroupSettings
  pub named : IsNamed w settings
  pub disks : KeepsRest w.dir 1 (w.group.members + 1) 4 (run settings).room
  pub sinks : KeepsRest w.dir 0 (w.group.members + 1) 1 (run settings).trails
  pub group : GroupStatus
  pub is : status ≡ status_by group
  pub ended : GroupEnd (run settings) group

-- A run of `group` without memory for what its words name. Nothing was written, and both rooms are as they were.
pub record GroupUnnamed (run : GroupSettings → GroupRun Count) (written written' : Option (List ℕ)) (status : Status) : Type 0 where
  pub want : status ≡ ends.NoMemory
  pub none : Appends written written' []
  pub still : (s : GroupSettings) → IsStill (run s).room × IsStill (run s).trails

-- how a run of `group` ended
abbrev pub GroupEnded : GroupWords → (GroupSettings → GroupRun Count) → Option (List ℕ) → Option (List ℕ) → Status → Type 0
GroupEnded w run written written' status = GroupRan w run status ⊎ GroupUnnamed run written written' status

-- ---- completeness

-- the settings of a member of the group that words name
abbrev pub member_named : GroupWords → ℕ → Settings
member_named w member = record { member = member; dir = w.dir; secret = codes "world"; view = first_view w.group; period = w.period; app = apps.Count }

-- devices, by directory and member, that hold nothing without meaning to the members of the group that words name
abbrev pub AllHaveMeaning : GroupWords → (List ℕ → ℕ → Images) → Type 0
AllHaveMeaning w images = (member : ℕ) → 1 ≤ member → member ≤ w.group.members → store_fault counting (member_named w member) (parts_in (restores (images w.dir member))) ≡ None

-- the end of a run that was audited, or that had no memory
abbrev pub IsPlayed : Status → Type 0
IsPlayed ends.Ok = Unit {0}
IsPlayed ends.Words = ⊥
IsPlayed (ends.Script line kind) = ⊥
IsPlayed (ends.Store entry) = ⊥
IsPlayed ends.ReadFault = ⊥
IsPlayed ends.WriteFault = ⊥
IsPlayed ends.TrailFault = ⊥
IsPlayed ends.DiskFault = ⊥
IsPlayed (ends.Premise line which) = ⊥
IsPlayed (ends.Limit line) = ⊥
IsPlayed (ends.Differs kind member event) = Unit {0}
IsPlayed (ends.GaveUp client polls) = Unit {0}
IsPlayed ends.NoMemory = Unit {0}

-- ---- one list

-- a trail whose messages have bytes
pub record HasBytes (t : Recorded) : Type 0 where
  pub came : Each IsBytes (arrivals t.events)
  pub sent : Each (λ (a : Addressed). Fits a.message) (sends t.events)

-- Trails whose messages have bytes. They begin with the empty replica, and no two digests of theirs are one.
pub record MayAgree {S : Type 0} {r : GroupRun S} (over : GroupOver r) : Type 0 where
  pub bytes : Each HasBytes (trails_of over)
  pub fresh : Fresh (trails_of over)
  pub apart : NoCollision r.meaning (trails_of over)

-- The trails deliver one list, on which each accepted reply is the answer to a request of the group's client.
pub record Agree {S : Type 0} {r : GroupRun S} (over : GroupOver r) : Type 0 where
  pub one : OneList r.meaning (trails_of over)
  pub answers : Each (IsAnswer r.meaning r.settings.secret r.settings.view one.list) (accepted_by over)
  pub own : Each (λ (a : Acceptance). a.request.client ≡ 1) (accepted_by over)

-- ---- what is kept

-- a trail whose parts have bytes, and are no longer than can be told
pub record HasParts (t : Recorded) : Type 0 where
  pub opening : FitsOpening t.opening
  pub short : IsShort (opening_text t.opening)
  pub entries : Each IsShort t.entries
  pub events : Each (λ (e : TrailEvent). FitsEvent e × IsShort (event_text e)) t.events

-- Trails that a room keeps and an audit can take: sinks tell their texts, and the trails have 2^24 parts at most.
pub record MayBeRead {S : Type 0} {r : GroupRun S} (over : GroupOver r) : Type 0 where
  pub tell : (sink : r.sink) → IsSome (r.text_of sink)
  pub parts : Each HasParts (trails_of over)
  pub few : parts_of (trails_of over) ≤ PARTS

-- the end of an audit that finds trails coherent, or that fails or wants memory
abbrev pub IsFoundCoherent : Status → Type 0
IsFoundCoherent ends.Ok = Unit {0}
IsFoundCoherent ends.Words = ⊥
IsFoundCoherent (ends.Script line kind) = ⊥
IsFoundCoherent (ends.Store entry) = ⊥
IsFoundCoherent ends.ReadFault = Unit {0}
IsFoundCoherent ends.WriteFault = Unit {0}
IsFoundCoherent ends.TrailFault = ⊥
IsFoundCoherent ends.DiskFault = ⊥
IsFoundCoherent (ends.Premise line which) = ⊥
IsFoundCoherent (ends.Limit line) = ⊥
IsFoundCoherent (ends.Differs kind member event) = ⊥
IsFoundCoherent (ends.GaveUp client polls) = ⊥
IsFoundCoherent ends.NoMemory = Unit {0}

-- The room of trails keeps the whole text of each trail. These texts, one after the other, are read as the trails. An audit of them finds no difference.
pub record AreReadAgain {S : Type 0} {r : GroupRun S} (over : GroupOver r) : Type 0 where
  pub kept : Each (λ (t : Recorded). r.trails.after (address r.settings.dir t.opening.member 0) ≡ Some (text_of t)) (trails_of over)
  pub read : AreRead (texts_of (trails_of over)) (trails_of over)
  pub audited : (left left' written written' : Option (List ℕ)) (wants wants' : ℕ) (status : Status) → left ≡ Some (texts_of (trails_of over)) → AuditEnd left left' written written' wants wants' status →
      IsFoundCoherent status

-- A run of a group that words name, in which all replies were accepted, and which has told them. If its trails may agree, they do. What is kept of them
-- can be read again.
pub record GroupAgreed (w : GroupWords) (run : GroupSettings → GroupRun Count) : Type 0 where
  pub settings : GroupSettings
  pub named : IsNamed w settings
  pub over : GroupOver (run settings)
  pub accepted : IsAccepted over
  pub wrote : Appends (run settings).written_before (run settings).written_after (all_lines (run settings).settings.members (run settings).settings.faulty (accepted_by over))
  pub agree : MayAgree over → Agree over
  pub again : MayBeRead over → AreReadAgain over
