-- A run in which no member has lived, and what a group begins with.
use Rattle.std.proofs.Common.{◌≡◌, ◌∙◌, ℕ, zero, suc, ◌+◌, ◌<◌, ◌≤◌, ◌⊎◌, inl, inr, List, [], ◌∷◌, ◌++◌, length, take, get_or, Option, Err, IsErrOf, append-nil, refl, sym, ap, subst, arith}
use Rattle.std.specs.Io.KnownBytes.{Appends}
use Rattle.faults.specs.Counts.{Rose}
use Rattle.faults.specs.declared.Fault.{Fault}
use Rattle.faults.specs.declared.Fault.TheVariants as faults
use Rattle.disk_model.specs.Rooms.{Address, address}
use Rattle.member_opening.specs.Devices.{IsHeld, images_at}
use Rattle.trail.specs.declared.opening.TrailOpening.{TrailOpening}
use Rattle.group_client.specs.declared.reply_line.LineFault.{LineFault}
use Rattle.group_client.specs.declared.reply_line.LineFault.TheVariants as lines
use Rattle.group_client.proofs.Told.{keeps-none}
use Rattle.member_opening.specs.Rooms.{IsStill}
use Rattle.group_opening.specs.Berths.{IsHeaded}
use Rattle.group_parties.specs.Crews.{HasHead, HasHeads, HaveHeads}
use Rattle.group_run.specs.Ends.{GroupEnd, HasNotLived, IsRefused, WroteLine}
use Rattle.group_run.specs.Lines.{group_line}
use Rattle.group_opening.specs.Runs.{GroupRun}
use Rattle.group_run.specs.Statuses.{line_status, opening_status, trail_status}
use Rattle.group_opening.specs.declared.berth.Berth.{Berth}
use Rattle.group_opening.specs.declared.berth.OpeningEnd.{OpeningEnd}
use Rattle.group_opening.specs.declared.berth.OpeningEnd.TheVariants as openings
use Rattle.group_opening.specs.declared.settings.GroupSettings.{GroupSettings}
use Rattle.group_run.specs.declared.status.GroupStatus.{GroupStatus}
use Rattle.group_run.specs.declared.status.GroupStatus.TheVariants as ends
use Rattle.group_parties.proofs.Stationed.{some-of}

module _ {S : Type 0} (r : GroupRun S) where
  -- ---- nothing was written, or some of the first line

  line-of : (count : ℕ) × Appends r.written_before r.written_after (take count (group_line r.settings.members r.settings.faulty)) → WroteLine r
  line-of first = record {
    count = first.0;
    wrote = subst (λ (bytes : List ℕ). Appends r.written_before r.written_after (take first.0 bytes)) (sym (append-nil (group_line r.settings.members r.settings.faulty))) first.1;
  }

  -- none of them is the end of a refused store
  none-refused : {A : Type 0} (status : GroupStatus) → ((entry : ℕ) → status ≡ ends.Store entry → ⊥) → (entry : ℕ) → status ≡ ends.Store entry → A
  none-refused status beside entry is = absurd (beside entry is)

  pub line-failed : (fault : LineFault) → (count : ℕ) × Appends r.written_before r.written_after (take count (group_line r.settings.members r.settings.faulty)) → (fault ≡ lines.NoMemory → r.written_after ≡ r.written_before)
      → (fault ≡ lines.SinkMemory → Rose r.wants_before r.wants_after) → GroupEnd r (line_status fault)
  line-failed lines.Failed first none want = inl (record { why = tt; wrote = line-of first; still = λ unopened. absurd unopened; same = none-refused ends.WriteFault (λ entry is. cc) })
  line-failed lines.SinkMemory first none want = inl (record { why = tt; wrote = inr (want refl, line-of first); still = λ unopened. absurd unopened; same = none-refused ends.NoMemory (λ entry is. cc) })
  line-failed lines.NoMemory first none want = inl (record { why = tt; wrote = inl (keeps-none r.written_before r.written_after (none refl)); still = λ unopened. absurd unopened; same = none-refused ends.NoMemory (λ entry is. cc) })

  pub not-begun : (fault : Fault) → r.written_after ≡ r.written_before → GroupEnd r (trail_status fault)
  not-begun faults.Failed same = inl (record { why = tt; wrote = keeps-none r.written_before r.written_after same; still = λ unopened. absurd unopened; same = none-refused ends.TrailFault (λ entry is. cc) })
  not-begun faults.NoMemory same = inl (record { why = tt; wrote = inl (keeps-none r.written_before r.written_after same); still = λ unopened. absurd unopened; same = none-refused ends.NoMemory (λ entry is. cc) })

  pub no-room : r.written_after ≡ r.written_before → GroupEnd r ends.NoMemory
  no-room same = inl (record { why = tt; wrote = inl (keeps-none r.written_before r.written_after same); still = λ unopened. absurd unopened; same = none-refused ends.NoMemory (λ entry is. cc) })

  pub not-opened : (end : OpeningEnd) → r.written_after ≡ r.written_before → IsStill r.trails → ((entry : ℕ) → end ≡ openings.Store entry → IsRefused r entry)
      → ((entry : ℕ) → end ≡ openings.Store entry → r.told → (member : ℕ) → 1 ≤ member → member ≤ r.settings.members → images_at r.room.after r.settings.dir member ≡ r.images member) → GroupEnd r (opening_status end)
  not-opened (openings.Store entry) same still refused hold = inl (record { why = refused entry refl; wrote = keeps-none r.written_before r.written_after same; still = λ unopened. still; same = λ other is. hold entry refl })
  not-opened openings.Disk same still refused hold = inl (record { why = tt; wrote = keeps-none r.written_before r.written_after same; still = λ unopened. still; same = none-refused ends.DiskFault (λ entry is. cc) })
  not-opened openings.NoMemory same still refused hold = inl (record { why = tt; wrote = inl (keeps-none r.written_before r.written_after same); still = λ unopened. still; same = none-refused ends.NoMemory (λ entry is. cc) })

-- ---- the causes

-- an error of a call, as its clauses have it
pub err-of : {T E : Type 0} (e other : E) → e ≡ other → IsErrOf {T = T} (Err e) other
err-of {T = T} e other is = ap (λ x. Err x) is

-- the first of two causes comes of another one
pub left-so : {A B C : Type 0} → (A → B) → A ⊎ C → B ⊎ C
left-so so (inl a) = inl (so a)
left-so so (inr c) = inr c

pub trail-of : (fault : Fault) → trail_status fault ≡ ends.TrailFault → fault ≡ faults.Failed
trail-of faults.Failed is = refl
trail-of faults.NoMemory is = cc

pub write-of : (fault : LineFault) → line_status fault ≡ ends.WriteFault → fault ≡ lines.Failed
write-of lines.Failed is = refl
write-of lines.SinkMemory is = cc
write-of lines.NoMemory is = cc

-- a line or a trail that failed is no entry of a store, and a trail is no output and no device
pub line-not-store : (fault : LineFault) (entry : ℕ) → line_status fault ≡ ends.Store entry → ⊥
line-not-store lines.Failed entry is = cc
line-not-store lines.SinkMemory entry is = cc
line-not-store lines.NoMemory entry is = cc

pub trail-not-store : (fault : Fault) (entry : ℕ) → trail_status fault ≡ ends.Store entry → ⊥
trail-not-store faults.Failed entry is = cc
trail-not-store faults.NoMemory entry is = cc

pub trail-not-write : (fault : Fault) → trail_status fault ≡ ends.WriteFault → ⊥
trail-not-write faults.Failed is = cc
trail-not-write faults.NoMemory is = cc

pub trail-not-disk : (fault : Fault) → trail_status fault ≡ ends.DiskFault → ⊥
trail-not-disk faults.Failed is = cc
trail-not-disk faults.NoMemory is = cc

pub disk-of : (end : OpeningEnd) → opening_status end ≡ ends.DiskFault → end ≡ openings.Disk
disk-of (openings.Store entry) is = cc
disk-of openings.Disk is = refl
disk-of openings.NoMemory is = cc

-- the output failed while the group ran, or as it ended
pub write-by : {A : Type 0} (before begun out after : ℕ) → before ≤ begun → begun ≤ out → out ≤ after → (A → Rose begun out) → A ⊎ Rose out after → Rose before after
write-by before begun out after first more last run (inl failed) =
    let rose = run failed in
    omega (arith, first, rose, last)
write-by before begun out after first more last run (inr rose) = omega (arith, first, more, rose)

-- ---- sinks with the heads of trails

module _ {O : Type 0} (written : O → Option (List ℕ)) (failures : O → ℕ) (taken : Address → Option ℕ) (dir : List ℕ) where
  has-head : (member : ℕ) (head : TrailOpening) (entries : List (List ℕ)) (sink : O) → IsHeaded written failures taken dir member head entries sink → HasHead written head entries sink
  has-head member head entries sink is = record { begun = is.begun; empty = is.empty; text = is.text }

  module _ {S D : Type 0} where
    have-heads : (first : ℕ) (berths : List (Berth S D)) (sinks : List O) → length sinks ≡ length berths
        → ((i : ℕ) (d : O) (b : Berth S D) → i < length berths → IsHeaded written failures taken dir (first + i) (get_or berths i b).head (get_or berths i b).entries (get_or sinks i d)) → HaveHeads written berths sinks
    have-heads first [] [] many each = tt
    have-heads first [] (sink ∷ sinks) many each = absurd (omega (arith, many))
    have-heads first (b ∷ berths) [] many each = absurd (omega (arith, many))
    have-heads first (b ∷ berths) (sink ∷ sinks) many each =
        let within : 0 < length (b ∷ berths) = omega arith in
        let fewer : length sinks ≡ length berths = omega (arith, many) in (
          has-head (first + 0) b.head b.entries sink (each 0 sink b within),
          have-heads (suc first) berths sinks fewer (λ i d c few.
              let next : first + suc i ≡ suc first + i = omega arith in
              let below : suc i < length (b ∷ berths) = omega (arith, few) in
              subst (λ (n : ℕ). IsHeaded written failures taken dir n (get_or berths i c).head (get_or berths i c).entries (get_or sinks i d)) next (each (suc i) d c below)),
        )

    pub has-heads : (s : GroupSettings) (client : TrailOpening) (berths : List (Berth S D)) (sinks : List O) → length sinks ≡ length berths + 1
        → ((d : O) → IsHeaded written failures taken dir 0 client [] (get_or sinks 0 d))
        → ((i : ℕ) (d : O) (b : Berth S D) → i < length berths → IsHeaded written failures taken dir (i + 1) (get_or berths i b).head (get_or berths i b).entries (get_or sinks (i + 1) d)) → HasHeads written s client berths sinks
    has-heads s client berths [] many own each = absurd (omega (arith, many))
    has-heads s client berths (sink ∷ sinks) many own each =
        let fewer : length sinks ≡ length berths = omega (arith, many) in (
          has-head 0 client [] sink (own sink),
          have-heads 1 berths sinks fewer (λ i d c few.
              let next : i + 1 ≡ suc i = omega arith in
              let order : i + 1 ≡ 1 + i = omega arith in
              subst (λ (n : ℕ). IsHeaded written failures taken dir n (get_or berths i c).head (get_or berths i c).entries (get_or sinks i d)) order
              (subst (λ (n : ℕ). IsHeaded written failures taken dir (i + 1) (get_or berths i c).head (get_or berths i c).entries (get_or (sink ∷ sinks) n d)) next (each i d c few))),
        )

    -- all of them are taken
    pub all-held : (client : TrailOpening) (berths : List (Berth S D)) (sinks : List O) → length sinks ≡ length berths + 1
        → ((d : O) → IsHeaded written failures taken dir 0 client [] (get_or sinks 0 d))
        → ((i : ℕ) (d : O) (b : Berth S D) → i < length berths → IsHeaded written failures taken dir (i + 1) (get_or berths i b).head (get_or berths i b).entries (get_or sinks (i + 1) d))
        → (i : ℕ) (d : O) → i < length sinks → IsHeld (taken (address dir i 0)) (failures (get_or sinks i d))
    all-held client berths sinks many own each zero d within = (own d).held
    all-held client berths sinks many own each (suc i) d within =
        let few : i < length berths = omega (arith, within, many) in
        let next : i + 1 ≡ suc i = omega arith in
        subst (λ (n : ℕ). IsHeld (taken (address dir n 0)) (failures (get_or sinks n d))) next (each i d (some-of berths i few) few).held
