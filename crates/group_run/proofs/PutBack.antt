-- How what a group took from its rooms goes back to them, from its last member to its first.
use Rattle.std.proofs.Common.{◌≡◌, ◌∙◌, inl, inr, ℕ, suc, ◌+◌, ◌-◌, ◌<◌, ◌≤◌, List, [], ◌∷◌, ◌++◌, length, length-append, get_or, Option, Some, None, IsSome, IfSome, append_assoc, append-nil, refl, sym, ap, subst, arith}
use Rattle.std.proofs.lemmas.Bool.{cases_eq, cases_lt}
use Rattle.std.proofs.lemmas.List.{get_or_at}
use Rattle.std.proofs.lemmas.Option.{IfSome_then}
use Rattle.faults.specs.Counts.{Rose}
use Rattle.disk_model.specs.Cells.{Cells}
use Rattle.disk_model.specs.Rooms.{Address, address, KeepsOthers}
use Rattle.durable_store.specs.Disks.{DiskRose, cells_of}
use Rattle.durable_store.specs.declared.disks.Disks.{Disks}
use Rattle.member_opening.specs.Devices.{AreFree, AreHeld, IsHeld, KeepsBeside, devices_at}
use Rattle.member_opening.specs.Rooms.{Room}
use Rattle.group_parties.specs.Gathered.{AreTaken}
use Rattle.group_opening.specs.Rooms.{IsReturned}
use Rattle.group_parties.specs.declared.ending.MemberEnd.{MemberEnd}
use Rattle.group_opening.proofs.Ranges.{change, returned-ahead, returned-devices, returned-none, returned-sink}

-- ---- counts of failures

pub rose-before : (a b c : ℕ) → a ≤ b → Rose b c → Rose a c
rose-before a b c later rose = omega (arith, later, rose)

pub rose-after : (a b c : ℕ) → Rose a b → b ≤ c → Rose a c
rose-after a b c rose later = omega (arith, rose, later)

-- ---- addresses

apart : (dir : List ℕ) (i j k m : ℕ) → (i ≡ j → ⊥) → address dir i k ≡ address dir j m → ⊥
apart dir i j k m differ same = differ (ap (λ (a : Address). a.member) same)

pub others-kept : {A : Type 0} (dir : List ℕ) (i j k m : ℕ) (old new : Address → A) → KeepsOthers (address dir j m) old new → (i ≡ j → ⊥) → new (address dir i k) ≡ old (address dir i k)
others-kept dir i j k m old new keeps differ = keeps (address dir i k) (apart dir i j k m differ)

pub beside-kept : {A : Type 0} (dir : List ℕ) (i j k : ℕ) (old new : Address → A) → KeepsBeside dir j old new → (i ≡ j → ⊥) → new (address dir i k) ≡ old (address dir i k)
beside-kept dir i j k old new keeps differ = keeps (address dir i k) (apart dir i j k 0 differ) (apart dir i j k 1 differ) (apart dir i j k 2 differ) (apart dir i j k 3 differ)

-- what a party's devices hold, if the room is as it was there
devices-kept : (dir : List ℕ) (number : ℕ) (old new : Address → Cells) → ((k : ℕ) → new (address dir number k) ≡ old (address dir number k)) → devices_at new dir number ≡ devices_at old dir number
devices-kept dir number old new same = rw (same 0, same 1, same 2, same 3) refl

-- ---- what is taken

held-kept : (old new : Option ℕ) (faults : ℕ) → new ≡ old → IsHeld old faults → IsHeld new faults
held-kept old new faults same held = record { before = held.before; is = same ∙ held.is; later = held.later }

some-kept : {A : Type 0} (old new : Option A) → new ≡ old → IsSome old → IsSome new
some-kept {A} old new same is = subst (λ (o : Option A). IsSome o) (sym same) is

pub are-held-kept : {D : Type 0} (old new : Address → Option ℕ) (counts : D → ℕ) (dir : List ℕ) (number : ℕ) (d : Disks D) → ((k : ℕ) → new (address dir number k) ≡ old (address dir number k)) → AreHeld old counts dir number d → AreHeld new counts dir number d
are-held-kept old new counts dir number d same held = record {
  even_log = held-kept (old (address dir number 0)) (new (address dir number 0)) (counts d.even_log) (same 0) held.even_log;
  odd_log = held-kept (old (address dir number 1)) (new (address dir number 1)) (counts d.odd_log) (same 1) held.odd_log;
  even_slot = held-kept (old (address dir number 2)) (new (address dir number 2)) (counts d.even_slot) (same 2) held.even_slot;
  odd_slot = held-kept (old (address dir number 3)) (new (address dir number 3)) (counts d.odd_slot) (same 3) held.odd_slot;
}

-- the last of some members, and those before it
pub record IsLast {D O : Type 0} (disks : Address → Option ℕ) (counts : D → ℕ) (trails : Address → Option ℕ) (dir : List ℕ) (first : ℕ) (ms : List (MemberEnd D O)) (e : MemberEnd D O) : Type 0 where
  pub number : e.member ≡ first + length ms
  pub held : AreHeld disks counts dir (first + length ms) e.store.disks
  pub taken : IsSome (trails (address dir (first + length ms) 0))
  pub before : AreTaken disks counts trails dir first ms

module _ {D O : Type 0} (counts : D → ℕ) (dir : List ℕ) where
  pub taken-last : (disks trails : Address → Option ℕ) (first : ℕ) (ms : List (MemberEnd D O)) (e : MemberEnd D O) → AreTaken disks counts trails dir first (ms ++ e ∷ []) → IsLast disks counts trails dir first ms e
  taken-last disks trails first [] e all =
      let here : first ≡ first + 0 = omega arith in record {
        number = all.0 ∙ here;
        held = subst (λ (n : ℕ). AreHeld disks counts dir n e.store.disks) here all.1.0;
        taken = subst (λ (n : ℕ). IsSome (trails (address dir n 0))) here all.1.1.0;
        before = tt;
      }
  taken-last disks trails first (m ∷ ms) e all =
      let rest = taken-last disks trails (suc first) ms e all.1.1.1 in
      let here : suc first + length ms ≡ first + suc (length ms) = omega arith in record {
        number = rest.number ∙ here;
        held = subst (λ (n : ℕ). AreHeld disks counts dir n e.store.disks) here rest.held;
        taken = subst (λ (n : ℕ). IsSome (trails (address dir n 0))) here rest.taken;
        before = (all.0, (all.1.0, (all.1.1.0, rest.before)));
      }

  pub taken-kept : (disks new_disks trails new_trails : Address → Option ℕ) (first : ℕ) (ms : List (MemberEnd D O)) → ((n k : ℕ) → first ≤ n → n < first + length ms → new_disks (address dir n k) ≡ disks (address dir n k))
      → ((n : ℕ) → first ≤ n → n < first + length ms → new_trails (address dir n 0) ≡ trails (address dir n 0)) → AreTaken disks counts trails dir first ms → AreTaken new_disks counts new_trails dir first ms
  taken-kept disks new_disks trails new_trails first [] same_disks same_trails all = tt
  taken-kept disks new_disks trails new_trails first (m ∷ ms) same_disks same_trails all = (
    all.0,
    (
      are-held-kept disks new_disks counts dir first m.store.disks (λ k. same_disks first k (omega arith) (omega arith)) all.1.0,
      (
        some-kept (trails (address dir first 0)) (new_trails (address dir first 0)) (same_trails first (omega arith) (omega arith)) all.1.1.0,
        taken-kept disks new_disks trails new_trails (suc first) ms (λ n k low high. same_disks n k (omega (arith, low)) (omega (arith, high))) (λ n low high. same_trails n (omega (arith, low)) (omega (arith, high))) all.1.1.1,
      ),
    ),
  )

-- ---- one member after the other

-- A room of disks, or one of trails: what it keeps, what is taken from it, and how often it has failed.
pub record RoomNow (Content : Type 0) : Type 0 where
  pub kept : Address → Content
  pub taken : Address → Option ℕ
  pub faults : ℕ

-- a change of such a room
abbrev pub changed : {Content : Type 0} → RoomNow Content → RoomNow Content → Room Content
changed before after = change before.kept after.kept before.taken after.taken

abbrev pub DisksNow : Type 0
DisksNow = RoomNow Cells

abbrev pub TrailsNow : Type 0
TrailsNow = RoomNow (Option (List ℕ))

module _ {D O : Type 0} (told : Type 0) (cells : D → Cells) (counts : D → ℕ) (written : O → Option (List ℕ)) (sink_faults : O → ℕ) (dir : List ℕ) where
  -- Of the members of a group these are still to be put back. Their devices and sinks are taken as they were. The rooms have counted the failures of the others, and keep their devices and
  -- their texts. Of what belongs to those nothing is taken.
  pub record AreBack (disks_before : DisksNow) (trails_before : TrailsNow) (disks : DisksNow) (trails : TrailsNow) (all left : List (MemberEnd D O)) : Type 0 where
    pub rest : List (MemberEnd D O)
    pub split : all ≡ left ++ rest
    pub same_disks : (i k : ℕ) → i < length left → disks.taken (address dir (i + 1) k) ≡ disks_before.taken (address dir (i + 1) k)
    pub same_trails : (i : ℕ) → i < length left → trails.taken (address dir (i + 1) 0) ≡ trails_before.taken (address dir (i + 1) 0)
    pub client : trails.taken (address dir 0 0) ≡ trails_before.taken (address dir 0 0)
    pub later : (disks_before.faults ≤ disks.faults) × (trails_before.faults ≤ trails.faults)
    pub held : AreTaken disks.taken counts trails.taken dir 1 left
    pub disk : (i : ℕ) (e : MemberEnd D O) (begun : Disks D) → length left ≤ i → i < length all → AreHeld disks_before.taken counts dir (i + 1) begun → DiskRose counts begun (get_or all i e).store.disks → Rose disks_before.faults disks.faults
    pub trail : (i : ℕ) (e : MemberEnd D O) (before : ℕ) → length left ≤ i → i < length all → trails_before.taken (address dir (i + 1) 0) ≡ Some before → Rose before (sink_faults (get_or all i e).sink) → Rose trails_before.faults trails.faults
    pub texts : (i : ℕ) (e : MemberEnd D O) → length left ≤ i → i < length all → IfSome (written (get_or all i e).sink) (λ text. trails.kept (address dir (i + 1) 0) ≡ Some text)
    pub devices : (i : ℕ) (e : MemberEnd D O) → length left ≤ i → i < length all → told → devices_at disks.kept dir (i + 1) ≡ cells_of cells (get_or all i e).store.disks
    pub disks_back : IsReturned dir (length left + 1) (length all + 1) 4 (changed disks_before disks)
    pub sinks_back : IsReturned dir (length left + 1) (length all + 1) 1 (changed trails_before trails)

  -- The devices of a member were put back, and its sink was kept.
  pub record IsPutBack (number : ℕ) (e : MemberEnd D O) (disks : DisksNow) (trails : TrailsNow) (new_disks : DisksNow) (new_trails : TrailsNow) : Type 0 where
    pub beside : KeepsBeside dir number disks.taken new_disks.taken
    pub beside_kept : KeepsBeside dir number disks.kept new_disks.kept
    pub free : AreFree new_disks.taken dir number
    pub others : KeepsOthers (address dir number 0) trails.taken new_trails.taken
    pub others_kept : KeepsOthers (address dir number 0) trails.kept new_trails.kept
    pub back : new_trails.taken (address dir number 0) ≡ None
    pub later : (disks.faults ≤ new_disks.faults) × (trails.faults ≤ new_trails.faults)
    pub disk : (begun : Disks D) → AreHeld disks.taken counts dir number begun → DiskRose counts begun e.store.disks → Rose disks.faults new_disks.faults
    pub trail : (before : ℕ) → trails.taken (address dir number 0) ≡ Some before → Rose before (sink_faults e.sink) → Rose trails.faults new_trails.faults
    pub text : IfSome (written e.sink) (λ text. new_trails.kept (address dir number 0) ≡ Some text)
    pub devices : told → devices_at new_disks.kept dir number ≡ cells_of cells e.store.disks

  module _ (disks_before : DisksNow) (trails_before : TrailsNow) (all : List (MemberEnd D O)) where
    pub back-first : AreTaken disks_before.taken counts trails_before.taken dir 1 all → AreBack disks_before trails_before disks_before trails_before all all
    back-first held = record {
      rest = [];
      split = sym (append-nil all);
      same_disks = λ i k within. refl;
      same_trails = λ i within. refl;
      client = refl;
      later = (omega arith, omega arith);
      held = held;
      disk = λ i e begun high low. absurd (omega (arith, high, low));
      trail = λ i e before high low. absurd (omega (arith, high, low));
      texts = λ i e high low. absurd (omega (arith, high, low));
      devices = λ i e high low. absurd (omega (arith, high, low));
      disks_back = returned-none dir 4 (length all + 1) disks_before.kept disks_before.taken;
      sinks_back = returned-none dir 1 (length all + 1) trails_before.kept trails_before.taken;
    }

    module _ (disks : DisksNow) (trails : TrailsNow) (new_disks : DisksNow) (new_trails : TrailsNow) (ms : List (MemberEnd D O)) (e : MemberEnd D O)
        (was : AreBack disks_before trails_before disks trails all (ms ++ e ∷ [])) (put : IsPutBack (length ms + 1) e disks trails new_disks new_trails) where
      -- the member that is put back, by its place
      this-one : (i : ℕ) (d : MemberEnd D O) → i ≡ length ms → get_or all i d ≡ e
      this-one i d here = ap (λ (xs : List (MemberEnd D O)). get_or xs i d) (was.split ∙ append_assoc ms (e ∷ []) was.rest) ∙ get_or_at ms e was.rest d i (sym here)

      within-more : (i : ℕ) → i < length ms → i < length (ms ++ e ∷ [])
      within-more i within = omega (arith, within, length-append ms (e ∷ []))

      here-more : (i : ℕ) → i ≡ length ms → i < length (ms ++ e ∷ [])
      here-more i here = omega (arith, here, length-append ms (e ∷ []))

      behind-more : (i : ℕ) → length ms ≤ i → (i ≡ length ms → ⊥) → length (ms ++ e ∷ []) ≤ i
      behind-more i high differ = elim (cases_lt (length ms) i) [
        | inl less ↦ omega (arith, less, length-append ms (e ∷ []))
        | inr few ↦ absurd (differ (omega (arith, high, few)))
      ]

      disk-more : (i : ℕ) (d : MemberEnd D O) (begun : Disks D) → length ms ≤ i → i < length all → AreHeld disks_before.taken counts dir (i + 1) begun → DiskRose counts begun (get_or all i d).store.disks → Rose disks_before.faults new_disks.faults
      disk-more i d begun high low held rose = elim (cases_eq i (length ms)) [
        | inl here ↦ rose-before disks_before.faults disks.faults new_disks.faults was.later.0
            (put.disk begun
            (subst (λ (n : ℕ). AreHeld disks.taken counts dir (n + 1) begun) here (are-held-kept disks_before.taken disks.taken counts dir (i + 1) begun (λ k. was.same_disks i k (here-more i here)) held))
            (subst (λ (x : MemberEnd D O). DiskRose counts begun x.store.disks) (this-one i d here) rose))
        | inr differ ↦ rose-after disks_before.faults disks.faults new_disks.faults (was.disk i d begun (behind-more i high differ) low held rose) put.later.0
      ]

      trail-more : (i : ℕ) (d : MemberEnd D O) (before : ℕ) → length ms ≤ i → i < length all → trails_before.taken (address dir (i + 1) 0) ≡ Some before → Rose before (sink_faults (get_or all i d).sink) → Rose trails_before.faults new_trails.faults
      trail-more i d before high low is rose = elim (cases_eq i (length ms)) [
        | inl here ↦ rose-before trails_before.faults trails.faults new_trails.faults was.later.1
            (put.trail before
            (subst (λ (n : ℕ). trails.taken (address dir (n + 1) 0) ≡ Some before) here (was.same_trails i (here-more i here) ∙ is))
            (subst (λ (x : MemberEnd D O). Rose before (sink_faults x.sink)) (this-one i d here) rose))
        | inr differ ↦ rose-after trails_before.faults trails.faults new_trails.faults (was.trail i d before (behind-more i high differ) low is rose) put.later.1
      ]

      texts-more : (i : ℕ) (d : MemberEnd D O) → length ms ≤ i → i < length all → IfSome (written (get_or all i d).sink) (λ text. new_trails.kept (address dir (i + 1) 0) ≡ Some text)
      texts-more i d high low = elim (cases_eq i (length ms)) [
        | inl here ↦ subst (λ (x : MemberEnd D O). IfSome (written x.sink) (λ text. new_trails.kept (address dir (i + 1) 0) ≡ Some text)) (sym (this-one i d here))
            (subst (λ (n : ℕ). IfSome (written e.sink) (λ text. new_trails.kept (address dir (n + 1) 0) ≡ Some text)) (sym here) put.text)
        | inr differ ↦ IfSome_then (written (get_or all i d).sink) (was.texts i d (behind-more i high differ) low)
            (λ text is. others-kept dir (i + 1) (length ms + 1) 0 0 trails.kept new_trails.kept put.others_kept (λ (same : i + 1 ≡ length ms + 1). differ (omega (arith, same))) ∙ is)
      ]

      devices-more : (i : ℕ) (d : MemberEnd D O) → length ms ≤ i → i < length all → told → devices_at new_disks.kept dir (i + 1) ≡ cells_of cells (get_or all i d).store.disks
      devices-more i d high low tells = elim (cases_eq i (length ms)) [
        | inl here ↦ subst (λ (x : MemberEnd D O). devices_at new_disks.kept dir (i + 1) ≡ cells_of cells x.store.disks) (sym (this-one i d here))
            (subst (λ (n : ℕ). devices_at new_disks.kept dir (n + 1) ≡ cells_of cells e.store.disks) (sym here) (put.devices tells))
        | inr differ ↦
            devices-kept dir (i + 1) disks.kept new_disks.kept (λ k. beside-kept dir (i + 1) (length ms + 1) k disks.kept new_disks.kept put.beside_kept (λ (same : i + 1 ≡ length ms + 1). differ (omega (arith, same))))
            ∙ was.devices i d (behind-more i high differ) low tells
      ]

      -- the range of those that are back begins one earlier
      one-less : length ms + 1 + 1 ≡ length (ms ++ e ∷ []) + 1
      one-less = omega (arith, length-append ms (e ∷ []))

      not-more : length (ms ++ e ∷ []) + 1 ≤ length all + 1
      not-more = omega (arith, ap length was.split, length-append (ms ++ e ∷ []) was.rest)

      disks-more : IsReturned dir (length ms + 1) (length all + 1) 4 (changed disks_before new_disks)
      disks-more =
          returned-ahead dir 4 disks_before.kept disks.kept new_disks.kept disks_before.taken disks.taken new_disks.taken (length ms + 1) (length (ms ++ e ∷ []) + 1) (length all + 1) (omega (arith, one-less)) not-more was.disks_back
          (subst (λ (n : ℕ). IsReturned dir (length ms + 1) n 4 (changed disks new_disks)) one-less (returned-devices dir (length ms + 1) disks.kept new_disks.kept disks.taken new_disks.taken put.beside_kept put.beside put.free))

      sinks-more : IsReturned dir (length ms + 1) (length all + 1) 1 (changed trails_before new_trails)
      sinks-more =
          returned-ahead dir 1 trails_before.kept trails.kept new_trails.kept trails_before.taken trails.taken new_trails.taken (length ms + 1) (length (ms ++ e ∷ []) + 1) (length all + 1) (omega (arith, one-less)) not-more was.sinks_back
          (subst (λ (n : ℕ). IsReturned dir (length ms + 1) n 1 (changed trails new_trails)) one-less (returned-sink dir (length ms + 1) trails.kept new_trails.kept trails.taken new_trails.taken put.others_kept put.others put.back))

      back-more : AreBack disks_before trails_before new_disks new_trails all ms
      back-more = record {
        rest = e ∷ was.rest;
        split = was.split ∙ append_assoc ms (e ∷ []) was.rest;
        same_disks = λ i k within.
            beside-kept dir (i + 1) (length ms + 1) k disks.taken new_disks.taken put.beside (λ (same : i + 1 ≡ length ms + 1). omega (arith, same, within)) ∙ was.same_disks i k (within-more i within);
        same_trails = λ i within.
            others-kept dir (i + 1) (length ms + 1) 0 0 trails.taken new_trails.taken put.others (λ (same : i + 1 ≡ length ms + 1). omega (arith, same, within)) ∙ was.same_trails i (within-more i within);
        client = others-kept dir 0 (length ms + 1) 0 0 trails.taken new_trails.taken put.others (λ (same : 0 ≡ length ms + 1). omega (arith, same)) ∙ was.client;
        later = (omega (arith, was.later.0, put.later.0), omega (arith, was.later.1, put.later.1));
        held = taken-kept counts dir disks.taken new_disks.taken trails.taken new_trails.taken 1 ms
            (λ n k low high. beside-kept dir n (length ms + 1) k disks.taken new_disks.taken put.beside (λ (same : n ≡ length ms + 1). omega (arith, same, high)))
            (λ n low high. others-kept dir n (length ms + 1) 0 0 trails.taken new_trails.taken put.others (λ (same : n ≡ length ms + 1). omega (arith, same, high)))
            (taken-last counts dir disks.taken trails.taken 1 ms e was.held).before;
        disk = disk-more;
        trail = trail-more;
        texts = texts-more;
        devices = devices-more;
        disks_back = disks-more;
        sinks_back = sinks-more;
      }

-- the next member to be put back
pub next-held : {D O : Type 0} {told : Type 0} {cells : D → Cells} {counts : D → ℕ} {written : O → Option (List ℕ)} {sink_faults : O → ℕ} {dir : List ℕ} {disks_before : DisksNow} {trails_before : TrailsNow} {disks : DisksNow} {trails : TrailsNow} {all now : List (MemberEnd D O)}
    (ms : List (MemberEnd D O)) (e : MemberEnd D O) → AreBack told cells counts written sink_faults dir disks_before trails_before disks trails all now → now ≡ ms ++ e ∷ []
    → AreHeld disks.taken counts dir e.member e.store.disks × IsSome (trails.taken (address dir e.member 0))
next-held {D} {O} {told} {cells} {counts} {written} {sink_faults} {dir} {disks_before} {trails_before} {disks} {trails} {all} {now} ms e was is =
    let last = taken-last counts dir disks.taken trails.taken 1 ms e (subst (λ (xs : List (MemberEnd D O)). AreTaken disks.taken counts trails.taken dir 1 xs) is was.held) in (
      subst (λ (n : ℕ). AreHeld disks.taken counts dir n e.store.disks) (sym last.number) last.held,
      subst (λ (n : ℕ). IsSome (trails.taken (address dir n 0))) (sym last.number) last.taken,
    )

pub back-put : {D O : Type 0} {told : Type 0} {cells : D → Cells} {counts : D → ℕ} {written : O → Option (List ℕ)} {sink_faults : O → ℕ} {dir : List ℕ} {disks_before : DisksNow} {trails_before : TrailsNow} {disks : DisksNow} {trails : TrailsNow} {all now : List (MemberEnd D O)}
    (ms : List (MemberEnd D O)) (e : MemberEnd D O) (new_disks : DisksNow) (new_trails : TrailsNow) → AreBack told cells counts written sink_faults dir disks_before trails_before disks trails all now → now ≡ ms ++ e ∷ []
    → IsPutBack told cells counts written sink_faults dir e.member e disks trails new_disks new_trails → AreBack told cells counts written sink_faults dir disks_before trails_before new_disks new_trails all ms
back-put {D} {O} {told} {cells} {counts} {written} {sink_faults} {dir} {disks_before} {trails_before} {disks} {trails} {all} {now} ms e new_disks new_trails was is put =
    let last = taken-last counts dir disks.taken trails.taken 1 ms e (subst (λ (xs : List (MemberEnd D O)). AreTaken disks.taken counts trails.taken dir 1 xs) is was.held) in
    let here : e.member ≡ length ms + 1 = omega (arith, last.number) in
    back-more told cells counts written sink_faults dir disks_before trails_before all disks trails new_disks new_trails ms e
    (subst (λ (xs : List (MemberEnd D O)). AreBack told cells counts written sink_faults dir disks_before trails_before disks trails all xs) is was)
    (subst (λ (n : ℕ). IsPutBack told cells counts written sink_faults dir n e disks trails new_disks new_trails) here put)

-- ---- the client

pub some-at : {A : Type 0} (dir : List ℕ) (n : ℕ) (old new : Address → Option A) → n ≡ 0 → new (address dir 0 0) ≡ old (address dir 0 0) → IsSome (old (address dir 0 0)) → IsSome (new (address dir n 0))
some-at {A} dir n old new zeroth same is = subst (λ (k : ℕ). IsSome (new (address dir k 0))) (sym zeroth) (some-kept (old (address dir 0 0)) (new (address dir 0 0)) same is)

pub text-kept : (dir : List ℕ) (i n : ℕ) (text : Option (List ℕ)) (old new : Address → Option (List ℕ)) → n ≡ 0 → KeepsOthers (address dir n 0) old new → IfSome text (λ t. old (address dir (i + 1) 0) ≡ Some t) → IfSome text (λ t. new (address dir (i + 1) 0) ≡ Some t)
text-kept dir i n text old new zeroth keeps is = IfSome_then text is (λ t same. others-kept dir (i + 1) n 0 0 old new keeps (λ (equal : i + 1 ≡ n). omega (arith, equal, zeroth)) ∙ same)

-- ---- all of a group

-- nothing is left of its members
pub all-back : {Content : Type 0} (dir : List ℕ) (devices left count many : ℕ) (room : Room Content) → left ≡ 0 → count ≡ many → IsReturned dir (left + 1) (count + 1) devices room → IsReturned dir 1 (many + 1) devices room
all-back dir devices left count many room none same back =
    subst (λ (n : ℕ). IsReturned dir 1 (n + 1) devices room) same (subst (λ (n : ℕ). IsReturned dir (n + 1) (count + 1) devices room) none back)

-- and then the client's sink is kept
pub client-back : {Content : Type 0} (dir : List ℕ) (n many : ℕ) (k0 k1 k2 : Address → Content) (t0 t1 t2 : Address → Option ℕ) → n ≡ 0 → IsReturned dir 1 (many + 1) 1 (change k0 k1 t0 t1)
    → KeepsOthers (address dir n 0) k1 k2 → KeepsOthers (address dir n 0) t1 t2 → t2 (address dir n 0) ≡ None → IsReturned dir 0 (many + 1) 1 (change k0 k2 t0 t2)
client-back dir n many k0 k1 k2 t0 t1 t2 zeroth members kept taken free =
    let one : IsReturned dir 0 (0 + 1) 1 (change k1 k2 t1 t2) = subst (λ (number : ℕ). IsReturned dir number (number + 1) 1 (change k1 k2 t1 t2)) zeroth (returned-sink dir n k1 k2 t1 t2 kept taken free) in
    returned-ahead dir 1 k0 k1 k2 t0 t1 t2 0 1 (many + 1) (omega arith) (omega arith) members one
