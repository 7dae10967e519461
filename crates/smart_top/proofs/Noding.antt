-- How a run of `node` ends.
use Rattle.std.proofs.Common.{◌≡◌, ◌∙◌, ◌⊎◌, ap, inl, inr, refl, subst, sym, ℕ, List, Option, Some, None}
use Rattle.std.specs.List.{flat_map}
use Rattle.frame_stream.specs.Frames.{framed}
use Rattle.store_laws.specs.Restored.{restores}
use Rattle.store_laws.specs.States.{Devices}
use Rattle.store_laws.specs.declared.job.Kept.{Kept}
use Rattle.member_opening.specs.Devices.{AreWithin, devices_at}
use Rattle.member_opening.specs.Restorings.{parts_in, store_fault}
use Rattle.member_opening.specs.declared.settings.Settings.{Settings}
use Rattle.app_kv.specs.declared.store.Entry.{Entry}
use Rattle.disk_model.specs.Cells.{Cells}
use Rattle.disk_model.specs.Rooms.{Address, address}
use Rattle.command_words.specs.declared.command.Command.{Command}
use Rattle.command_words.specs.declared.command.Command.TheVariants as commands
use Rattle.command_words.specs.declared.node_words.NodeWords.{NodeWords}
use Rattle.script_play.specs.declared.status.Status.{Status}
use Rattle.script_play.specs.declared.status.Status.TheVariants as ends
use Rattle.member_opening.specs.Rooms.{Room}
use Rattle.node_run.specs.Members.{HasKept, HasLeft, KeepsRoom, Run}
use Rattle.node_run.specs.declared.status.NodeStatus.{NodeStatus}
use Rattle.node_run.specs.declared.status.NodeStatus.TheVariants as nodes
use Rattle.smart_top.specs.Nodes.{IsFrames, NodeEnd, status_by}
use Rattle.smart_top.proofs.WholeFrames.{consumes_read, never_cut}

-- a room that is as it was
still-room : (s : Settings) (room : Room Cells) → room.after ≡ room.before → room.taken_after ≡ room.taken_before → KeepsRoom s room
still-room s room same same-taken = record {
  beside = λ other a b c d. ap (λ (f : Address → Cells). f other) same;
  beside_taken = λ other a b c d. ap (λ (f : Address → Option ℕ). f other) same-taken;
  back = (
    (ap (λ (f : Address → Option ℕ). f (address s.dir s.member 0)) same-taken, ap (λ (f : Address → Option ℕ). f (address s.dir s.member 1)) same-taken),
    (ap (λ (f : Address → Option ℕ). f (address s.dir s.member 2)) same-taken, ap (λ (f : Address → Option ℕ). f (address s.dir s.member 3)) same-taken),
  );
}

within-still : (d : Devices) → AreWithin d d
within-still d = record { even_log = λ image is. is; odd_log = λ image is. is; even_slot = λ image is. is; odd_slot = λ image is. is }

still-within : (s : Settings) (room : Room Cells) → room.after ≡ room.before → AreWithin (devices_at room.after s.dir s.member) (devices_at room.before s.dir s.member)
still-within s room same =
    subst (λ (f : Address → Cells). AreWithin (devices_at f s.dir s.member) (devices_at room.before s.dir s.member)) (sym same) (within-still (devices_at room.before s.dir s.member))

-- it had no memory before it read anything
pub unread_node : (r : Run (List Entry)) (room : Room Cells) → r.left_after ≡ r.left_before → r.written_after ≡ r.written_before → room.after ≡ room.before → room.taken_after ≡ room.taken_before
    → r.trails.after ≡ r.trails.before → r.trails.taken_after ≡ r.trails.taken_before → NodeEnd r room ends.NoMemory
unread_node r room unread unwritten same same-taken same-trails same-trails-taken = record {
  node = nodes.NoMemory;
  is = refl;
  ended = record {
    keeps = still-room r.settings room same same-taken;
    ended = inl
        (record {
          none = record { why = tt; unread = unread; unwritten = unwritten; trails = record { kept = same-trails; taken = same-trails-taken } };
          same = λ told. inr tt;
          within = λ told. still-within r.settings room same;
        });
  };
}

-- words name one node
pub same_node : (command : Option Command) (words other : NodeWords) → command ≡ Some (commands.Node words) → command ≡ Some (commands.Node other) → other ≡ words
same_node command words other is also = cc

-- ---- the status of a node, by that of the program

abbrev node_of : Status → NodeStatus
node_of (ends.Script line kind) = nodes.Form line
node_of (ends.Store entry) = nodes.Store entry
node_of ends.ReadFault = nodes.ReadFault
node_of ends.WriteFault = nodes.WriteFault
node_of ends.TrailFault = nodes.TrailFault
node_of ends.DiskFault = nodes.DiskFault
node_of ends.NoMemory = nodes.NoMemory
node_of _ = nodes.Ok

node-again : (node : NodeStatus) → node_of (status_by node) ≡ node
node-again nodes.Ok = refl
node-again (nodes.Form frame) = refl
node-again (nodes.Store entry) = refl
node-again nodes.ReadFault = refl
node-again nodes.WriteFault = refl
node-again nodes.TrailFault = refl
node-again nodes.DiskFault = refl
node-again nodes.NoMemory = refl

-- a status of the program is that of one end of a node
pub node_ended : (node : NodeStatus) (status : Status) → status_by node ≡ status → node ≡ node_of status
node_ended node status is = sym (node-again node) ∙ ap node_of is

-- a node never finds that words are no command
pub never_words : (node : NodeStatus) → status_by node ≡ ends.Words → ⊥
never_words node is = let ok : status_by node ≡ ends.Ok = ap status_by (node_ended node ends.Words is) in absurd (ok_words (sym ok ∙ is))
  where
    ok_words : ends.Ok ≡ ends.Words → ⊥
    ok_words same = absurd (cc)

pub read_failed : (node : NodeStatus) → status_by node ≡ ends.ReadFault → node ≡ nodes.ReadFault
read_failed node is = node_ended node ends.ReadFault is

pub write_failed : (node : NodeStatus) → status_by node ≡ ends.WriteFault → node ≡ nodes.WriteFault
write_failed node is = node_ended node ends.WriteFault is

pub trail_failed : (node : NodeStatus) → status_by node ≡ ends.TrailFault → node ≡ nodes.TrailFault
trail_failed node is = node_ended node ends.TrailFault is

pub disk_failed : (node : NodeStatus) → status_by node ≡ ends.DiskFault → node ≡ nodes.DiskFault
disk_failed node is = node_ended node ends.DiskFault is

-- ---- completeness

none-some : (fault : Option ℕ) (entry : ℕ) → fault ≡ None → fault ≡ Some entry → ⊥
none-some fault entry none is = absurd (cc)

module _ (r : Run (List Entry)) (room : Room Cells) (input : IsFrames r.left_before) (told : r.told) (sound : store_fault r.meaning r.settings (parts_in (restores r.images)) ≡ None)
    (status : Status) (read : status ≡ ends.ReadFault → ⊥) (write : status ≡ ends.WriteFault → ⊥) (trail : status ≡ ends.TrailFault → ⊥) (disk : status ≡ ends.DiskFault → ⊥) where
  complete-by : (node : NodeStatus) → status ≡ status_by node → HasLeft r room node ⊎ HasKept r room node → (status ≡ ends.Ok) ⊎ (status ≡ ends.NoMemory)
  complete-by nodes.Ok is e = inl is
  complete-by (nodes.Form frame) is (inl e) = absurd e.none.why
  complete-by (nodes.Form frame) is (inr e) =
      let l = e.lived.over.life.lived in
      let off = e.lived.over.life.ends in
      absurd (never_cut input.frames r.left_after l.read l.frames l.rest input.short
      (consumes_read r.left_before r.left_after (flat_map framed input.frames) l.read l.lost input.is off.none_lost l.consumed) l.cut off.cut_off)
  complete-by (nodes.Store entry) is (inl e) =
      absurd (none-some (store_fault r.meaning r.settings (parts_in (restores r.images))) entry sound
      (subst (λ (kept : Kept). store_fault r.meaning r.settings (parts_in kept) ≡ Some entry) (e.none.why.restored told) e.none.why.fault))
  complete-by (nodes.Store entry) is (inr e) = absurd e.lived.over.life.ends
  complete-by nodes.ReadFault is e = absurd (read is)
  complete-by nodes.WriteFault is e = absurd (write is)
  complete-by nodes.TrailFault is e = absurd (trail is)
  complete-by nodes.DiskFault is e = absurd (disk is)
  complete-by nodes.NoMemory is e = inr is

  -- a node whose input is whole frames, over devices that hold nothing without meaning, ends well if nothing fails, or for want of memory
  pub node_is_complete : NodeEnd r room status → (status ≡ ends.Ok) ⊎ (status ≡ ends.NoMemory)
  node_is_complete e = complete-by e.node e.is e.ended.ended
