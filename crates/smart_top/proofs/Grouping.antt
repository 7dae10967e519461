-- How a run of `group` ends.
use Rattle.std.specs.Prelude.{map}
use Rattle.std.specs.List.{list_any}
use Rattle.std.proofs.lemmas.Bool.{ne_eqb}
use Rattle.std.proofs.Common.{◌≡◌, ◌∙◌, ◌+◌, ◌≤◌, ◌<◌, ◌==◌, ◌||◌, Bool, true, false, length, ◌++◌, ap, arith, inl, inr, refl, subst, sym, ℕ, zero, suc, List, [], ◌∷◌, Option, Some, None, codes}
use Rattle.smart_base.specs.Lists.{Distinct, Each}
use Rattle.smart_base.specs.Views.{View, is_view}
use Rattle.smart_base.proofs.ViewFacts.{each-weaken}
use Rattle.app_count.specs.Counts.{counting}
use Rattle.app_count.specs.declared.Count.{Count}
use Rattle.store_laws.specs.Restored.{Images, restores}
use Rattle.store_laws.specs.declared.job.Kept.{Kept}
use Rattle.world_rules.specs.Scripts.{members_from}
use Rattle.world_script.proofs.Members.{first_view as view-of}
use Rattle.command_words.specs.Ranges.{FitsGroupRun}
use Rattle.client_quorum.specs.Clients.{fresh}
use Rattle.client_quorum.specs.declared.client.Acceptance.{Acceptance}
use Rattle.smart_statements.specs.declared.statement.Request.{Request}
use Rattle.client_seat.specs.Asks.{acceptances}
use Rattle.trail.specs.declared.opening.App.{App}
use Rattle.trail.specs.declared.opening.App.TheVariants as apps
use Rattle.trail.specs.declared.opening.TrailOpening.{TrailOpening}
use Rattle.member_opening.specs.Restorings.{parts_in, store_fault}
use Rattle.member_opening.specs.declared.settings.Settings.{Settings}
use Rattle.audit_play.proofs.Consumed.{appends-nothing}
use Rattle.audit_rules.specs.Coherence.{Coherent}
use Rattle.audit_rules.specs.declared.recorded.Recorded.{Recorded}
use Rattle.trail_agreement.specs.Deliveries.{AreSpelled, IsSpelled, NoCollision, NoCollisionBy, number_of}
use Rattle.trail_replies.specs.Answers.{Answered, AnsweredBy, IsAnswer}
use Rattle.trail_replies.proofs.Answers.{answered_by}
use Rattle.trail_replies.proofs.Own.{all_own}
use Rattle.command_words.specs.declared.node_words.GroupWords.{GroupWords}
use Rattle.script_play.specs.declared.status.Status.TheVariants as ends
use Rattle.group_opening.specs.Berths.{IsRefusedBy}
use Rattle.group_run.specs.Ends.{GroupEnd}
use Rattle.group_opening.specs.Numbers.{numbers_to}
use Rattle.member_opening.specs.Rooms.{IsStill, Room}
use Rattle.group_run.specs.Parties.{AreOver, GroupOver, MemberOver, accepted_by, trails_of}
use Rattle.group_opening.specs.Rooms.{KeepsRest}
use Rattle.group_opening.specs.Runs.{GroupRun, client_head, member_settings}
use Rattle.group_opening.specs.declared.settings.GroupSettings.{GroupSettings}
use Rattle.group_run.specs.declared.status.GroupStatus.{GroupStatus}
use Rattle.group_run.specs.declared.status.GroupStatus.TheVariants as groups
use Rattle.snapshot_form.specs.Replicas.{is_first_view}
use Rattle.smart_top.specs.Nodes.{first_view}
use Rattle.smart_top.proofs.Begun.{begin_all}
use Rattle.smart_top.proofs.Keeping.{read_again}
use Rattle.smart_top.specs.Groups.{Agree, AllHaveMeaning, GroupAgreed, GroupEnded, HasBytes, IsNamed, IsPlayed, MayAgree, member_named, status_by}

-- ---- the numbers of its members

members-end : (first n : ℕ) → members_from first (suc n) ≡ members_from first n ++ (first + n) ∷ []
unfolding members_from
members-end first zero = let e : first + 0 ≡ first = omega arith in ap (λ (k : ℕ). k ∷ []) (sym e)
members-end first (suc n) =
    let e : first + 1 + n ≡ first + suc n = omega arith in
    ap (λ (ks : List ℕ). first ∷ ks) (members-end (first + 1) n ∙ ap (λ (k : ℕ). members_from (first + 1) n ++ k ∷ []) e)

none_numbered : members_from 1 0 ≡ []
unfolding members_from
none_numbered = refl

-- members that are counted up have the numbers from one on
pub numbered : (n : ℕ) → members_from 1 n ≡ numbers_to n
numbered zero = none_numbered
numbered (suc n) =
    let e : 1 + n ≡ suc n = omega arith in
    members-end 1 n ∙ (ap (λ (ks : List ℕ). ks ++ (1 + n) ∷ []) (numbered n) ∙ ap (λ (k : ℕ). numbers_to n ++ k ∷ []) e)

-- ---- its words

-- it had no memory for what the words name
pub unread_group : (w : GroupWords) (run : GroupSettings → GroupRun Count) (written : Option (List ℕ)) → ((s : GroupSettings) → IsStill (run s).room × IsStill (run s).trails)
    → GroupEnded w run written written ends.NoMemory
unread_group w run written still = inr (record { want = refl; none = appends-nothing written; still = still })

-- ---- what it leaves in its rooms

-- of the group that the words name
pub rest_by : {Content : Type 0} (w : GroupWords) (s : GroupSettings) (first devices : ℕ) (room : Room Content) → IsNamed w s → KeepsRest s.dir first (s.members + 1) devices room
    → KeepsRest w.dir first (w.group.members + 1) devices room
rest_by w s first devices room named rest =
    subst (λ (dir : List ℕ). KeepsRest dir first (w.group.members + 1) devices room) named.dir
    (subst (λ (n : ℕ). KeepsRest s.dir first (n + 1) devices room) named.members rest)

-- ---- the status of a group, by that of the program

-- a group never finds that words are no command
pub never_words : (group : GroupStatus) → status_by group ≡ ends.Words → ⊥
never_words groups.Ok is = absurd (cc)
never_words (groups.Store entry) is = absurd (cc)
never_words groups.WriteFault is = absurd (cc)
never_words groups.TrailFault is = absurd (cc)
never_words groups.DiskFault is = absurd (cc)
never_words (groups.Differs d) is = absurd (cc)
never_words (groups.GaveUp polls) is = absurd (cc)
never_words groups.NoMemory is = absurd (cc)

-- it reads nothing
pub never_read : (group : GroupStatus) → status_by group ≡ ends.ReadFault → ⊥
never_read groups.Ok is = absurd (cc)
never_read (groups.Store entry) is = absurd (cc)
never_read groups.WriteFault is = absurd (cc)
never_read groups.TrailFault is = absurd (cc)
never_read groups.DiskFault is = absurd (cc)
never_read (groups.Differs d) is = absurd (cc)
never_read (groups.GaveUp polls) is = absurd (cc)
never_read groups.NoMemory is = absurd (cc)

-- the status of a fault, and that of a good end, is that of one end alone

pub ended_well : (group : GroupStatus) → status_by group ≡ ends.Ok → group ≡ groups.Ok
ended_well groups.Ok is = refl
ended_well (groups.Store entry) is = absurd (cc)
ended_well groups.WriteFault is = absurd (cc)
ended_well groups.TrailFault is = absurd (cc)
ended_well groups.DiskFault is = absurd (cc)
ended_well (groups.Differs d) is = absurd (cc)
ended_well (groups.GaveUp polls) is = absurd (cc)
ended_well groups.NoMemory is = absurd (cc)

pub write_failed : (group : GroupStatus) → status_by group ≡ ends.WriteFault → group ≡ groups.WriteFault
write_failed groups.Ok is = absurd (cc)
write_failed (groups.Store entry) is = absurd (cc)
write_failed groups.WriteFault is = refl
write_failed groups.TrailFault is = absurd (cc)
write_failed groups.DiskFault is = absurd (cc)
write_failed (groups.Differs d) is = absurd (cc)
write_failed (groups.GaveUp polls) is = absurd (cc)
write_failed groups.NoMemory is = absurd (cc)

pub trail_failed : (group : GroupStatus) → status_by group ≡ ends.TrailFault → group ≡ groups.TrailFault
trail_failed groups.Ok is = absurd (cc)
trail_failed (groups.Store entry) is = absurd (cc)
trail_failed groups.WriteFault is = absurd (cc)
trail_failed groups.TrailFault is = refl
trail_failed groups.DiskFault is = absurd (cc)
trail_failed (groups.Differs d) is = absurd (cc)
trail_failed (groups.GaveUp polls) is = absurd (cc)
trail_failed groups.NoMemory is = absurd (cc)

pub disk_failed : (group : GroupStatus) → status_by group ≡ ends.DiskFault → group ≡ groups.DiskFault
disk_failed groups.Ok is = absurd (cc)
disk_failed (groups.Store entry) is = absurd (cc)
disk_failed groups.WriteFault is = absurd (cc)
disk_failed groups.TrailFault is = absurd (cc)
disk_failed groups.DiskFault is = refl
disk_failed (groups.Differs d) is = absurd (cc)
disk_failed (groups.GaveUp polls) is = absurd (cc)
disk_failed groups.NoMemory is = absurd (cc)

-- ---- completeness

-- the settings of a member are those that the words name
named_settings : (w : GroupWords) (s : GroupSettings) (member : ℕ) → IsNamed w s → member_settings s member ≡ member_named w member
named_settings w s member is =
    ap (λ (d : List ℕ). record { member = member; dir = d; secret = s.secret; view = s.view; period = s.period; app = apps.Count }) is.dir
    ∙ (ap (λ (k : List ℕ). record { member = member; dir = w.dir; secret = k; view = s.view; period = s.period; app = apps.Count }) is.secret
    ∙ (ap (λ (v : View). record { member = member; dir = w.dir; secret = codes "world"; view = v; period = s.period; app = apps.Count }) is.view
    ∙ ap (λ (p : ℕ). record { member = member; dir = w.dir; secret = codes "world"; view = first_view w.group; period = p; app = apps.Count }) is.period))

none-some : (fault : Option ℕ) (entry : ℕ) → fault ≡ None → fault ≡ Some entry → ⊥
none-some fault entry none is = absurd (cc)

-- a store with a meaning is not refused
not_refused : (told : Type 0) (images : Images) (s named : Settings) (entry : ℕ) → s ≡ named → told → store_fault counting named (parts_in (restores images)) ≡ None → IsRefusedBy counting told images s entry → ⊥
not_refused told images s named entry same tells sound refused =
    none-some (store_fault counting named (parts_in (restores images))) entry sound
    (ap (λ (x : Settings). store_fault counting x (parts_in (restores images))) (sym same) ∙ (ap (λ (kept : Kept). store_fault counting s (parts_in kept)) (sym (refused.restored tells)) ∙ refused.fault))

module _
    (w : GroupWords)
    (r : GroupRun Count)
    (meaning_is : r.meaning ≡ counting)
    (named : IsNamed w r.settings)
    (told : r.told)
    (images : List ℕ → ℕ → Images)
    (images_are : (member : ℕ) → r.images member ≡ images r.settings.dir member)
    (sound : AllHaveMeaning w images)
  where
    has_meaning : (member : ℕ) → 1 ≤ member → member ≤ w.group.members → store_fault counting (member_named w member) (parts_in (restores (r.images member))) ≡ None
    has_meaning member some few =
        let same : r.images member ≡ images w.dir member = images_are member ∙ ap (λ (dir : List ℕ). images dir member) named.dir in
        subst (λ (i : Images). store_fault counting (member_named w member) (parts_in (restores i)) ≡ None) (sym same) (sound member some few)

    never_refused : (entry : ℕ) → GroupEnd r (groups.Store entry) → ⊥
    never_refused entry (inl e) =
        let lowest = e.why in
        let few : lowest.member ≤ w.group.members = subst (λ (n : ℕ). lowest.member ≤ n) named.members lowest.within.1 in
        not_refused r.told (r.images lowest.member) (member_settings r.settings lowest.member) (member_named w lowest.member) entry (named_settings w r.settings lowest.member named) told
        (has_meaning lowest.member lowest.within.0 few)
        (subst (λ m. IsRefusedBy m r.told (r.images lowest.member) (member_settings r.settings lowest.member) entry) meaning_is lowest.refused)
    never_refused entry (inr (inl e)) = e.ends
    never_refused entry (inr (inr e)) = e.wrote

    -- a run over such devices in which nothing fails is played and audited, or memory runs out
    pub group_is_played : (group : GroupStatus) → GroupEnd r group → (group ≡ groups.WriteFault → ⊥) → (group ≡ groups.TrailFault → ⊥) → (group ≡ groups.DiskFault → ⊥) → IsPlayed (status_by group)
    group_is_played groups.Ok e write trail disk = tt
    group_is_played (groups.Store entry) e write trail disk = absurd (never_refused entry e)
    group_is_played groups.WriteFault e write trail disk = absurd (write refl)
    group_is_played groups.TrailFault e write trail disk = absurd (trail refl)
    group_is_played groups.DiskFault e write trail disk = absurd (disk refl)
    group_is_played (groups.Differs d) e write trail disk = tt
    group_is_played (groups.GaveUp polls) e write trail disk = tt
    group_is_played groups.NoMemory e write trail disk = tt

-- ---- trails that have bytes

off : (k n : ℕ) → k < n → (n == k) ≡ false
off k n low = ne_eqb n k (λ same. omega (arith, same, low))

neither : (a b : Bool) → a ≡ false → b ≡ false → (a || b) ≡ false
neither true b none other = absurd (cc)
neither false b none other = other

module _ {S : Type 0} (r : GroupRun S) where
  number_is : (ended : Bool) (member : ℕ) (t : Recorded) → MemberOver r ended member t → t.opening.member ≡ member
  number_is ended member t over = ap (λ (o : TrailOpening). o.member) over.opening.0

  -- no member from one on has a lower number
  none_lower : (ended : Bool) (k first : ℕ) (members : List Recorded) → k < first → AreOver r ended first members → list_any (λ y. y == k) (map number_of members) ≡ false
  none_lower ended k first [] low over = refl
  none_lower ended k first (t ∷ members) low over =
      neither (t.opening.member == k) (list_any (λ y. y == k) (map number_of members)) (ap (λ (n : ℕ). n == k) (number_is ended first t over.0) ∙ off k first low)
      (none_lower ended k (suc first) members (omega (arith, low)) over.1)

  numbers_apart : (ended : Bool) (first : ℕ) (members : List Recorded) → AreOver r ended first members → Distinct (map number_of members)
  numbers_apart ended first [] over = tt
  numbers_apart ended first (t ∷ members) over = (
    none_lower ended t.opening.member (suc first) members (let same = number_is ended first t over.0 in omega (arith, same)) over.1,
    numbers_apart ended (suc first) members over.1,
  )

  -- what is known of a member's trail, and that its messages have bytes
  spelled_from : (ended : Bool) (first : ℕ) (members : List Recorded) → first + length members ≤ 65536 → is_view r.settings.view ≡ true → AreOver r ended first members → Each HasBytes members → Each IsSpelled members
  spelled_from ended first [] few viewed over bytes = tt
  spelled_from ended first (t ∷ members) few viewed over bytes = (
    record {
      member = let same = number_is ended first t over.0 in omega (arith, same, few);
      view = ap (λ (o : TrailOpening). is_view o.view) over.0.opening.0 ∙ viewed;
      came = bytes.0.came;
      sent = bytes.0.sent;
    },
    spelled_from ended (suc first) members (omega (arith, few)) viewed over.1 bytes.1,
  )

-- ---- one list

none-waits : (view : View) (q : Request) → (fresh view 1).waiting ≡ Some q → q.client ≡ 1
none-waits view q is = absurd (cc)

module _ (r : GroupRun Count) (meaning_is : r.meaning ≡ counting) (few : r.settings.members < 65536) (viewed : is_view r.settings.view ≡ true) (begins : is_first_view r.settings.view ≡ true) (over : GroupOver r) (coherent : Coherent (trails_of over)) where
  -- the head of the client's trail names its service, secret and first view
  head_is : over.client.opening ≡ client_head r.settings
  head_is = over.asked.opening.0

  -- what is accepted is a reply to a request of the client
  own : Each (λ (a : Acceptance). a.request.client ≡ 1) (accepted_by over)
  own =
      subst (λ (o : TrailOpening). Each (λ (a : Acceptance). a.request.client ≡ 1) (acceptances o.secret (fresh o.view 1) over.client.events)) (sym head_is)
      (all_own r.settings.secret (fresh r.settings.view 1) over.client.events over.asked.asks (none-waits r.settings.view))

  module _ (may : MayAgree over) where
    counts : may.fresh.app ≡ apps.Count
    counts = sym may.fresh.each.0.app_is ∙ ap (λ (o : TrailOpening). o.app) head_is

    apart : NoCollisionBy may.fresh.app (trails_of over)
    apart = subst (λ (app : App). NoCollisionBy app (trails_of over)) (sym counts) (subst (λ m. NoCollision m (trails_of over)) meaning_is may.apart)

    spelled : AreSpelled (trails_of over)
    spelled = record {
      once = (
        ap (λ (n : ℕ). list_any (λ y. y == n) (map number_of over.members)) (ap (λ (o : TrailOpening). o.member) head_is) ∙ none_lower r over.whole 0 1 over.members (omega arith) over.each,
        numbers_apart r over.whole 1 over.members over.each,
      );
      each = (
        record {
          member = let same = ap (λ (o : TrailOpening). o.member) head_is in omega (arith, same);
          view = ap (λ (o : TrailOpening). is_view o.view) head_is ∙ viewed;
          came = may.bytes.0.came;
          sent = may.bytes.0.sent;
        },
        spelled_from r over.whole 1 over.members (let many = over.many in omega (arith, many, few)) viewed over.each may.bytes.1,
      );
      begin = begin_all r meaning_is viewed begins over.whole over.client over.members over.asked over.each;
    }

    answered : Answered r.meaning (trails_of over)
    answered =
        subst (λ m. Answered m (trails_of over)) (sym meaning_is)
        (subst (λ (app : App). AnsweredBy app (trails_of over)) counts (answered_by (trails_of over) spelled coherent may.fresh apart))

    answer-as : (a : Acceptance) → IsAnswer r.meaning over.client.opening.secret over.client.opening.view (answered).one.list a → IsAnswer r.meaning r.settings.secret r.settings.view (answered).one.list a
    answer-as a is =
        subst (λ (k : List ℕ). IsAnswer r.meaning k r.settings.view (answered).one.list a) (ap (λ (o : TrailOpening). o.secret) head_is)
        (subst (λ (v : View). IsAnswer r.meaning over.client.opening.secret v (answered).one.list a) (ap (λ (o : TrailOpening). o.view) head_is) is)

    pub agrees : Agree over
    agrees = record {
      one = (answered).one;
      answers = each-weaken (IsAnswer r.meaning over.client.opening.secret over.client.opening.view (answered).one.list) (IsAnswer r.meaning r.settings.secret r.settings.view (answered).one.list) answer-as (accepted_by over)
          ((answered).each over.client (inl refl) (fresh over.client.opening.view 1));
      own = own;
    }

-- the view that words name is one
named_view : (w : GroupWords) (s : GroupSettings) → FitsGroupRun w → IsNamed w s → is_view s.view ≡ true
named_view w s fits is =
    let more = fits.group.more in
    ap (λ (v : View). is_view v) is.view ∙ view-of w.group.members w.group.faulty (omega (arith, more)) fits.group.few fits.group.few_faulty fits.group.more

module _ (w : GroupWords) (fits : FitsGroupRun w) (run : GroupSettings → GroupRun Count) (settings : GroupSettings) (named : IsNamed w settings) (meaning_is : (run settings).meaning ≡ counting) (settings_are : (run settings).settings ≡ settings) where
  -- a run that ended well is coherent, and what it told are answers on one list
  ended_agreed : GroupEnd (run settings) groups.Ok → GroupAgreed w run
  ended_agreed (inl e) = absurd e.why
  ended_agreed (inr (inl e)) = record {
    settings = settings;
    named = named;
    over = e.over;
    accepted = e.ends;
    wrote = e.wrote;
    agree = λ may.
        let members : (run settings).settings.members ≡ w.group.members = ap (λ (s : GroupSettings). s.members) settings_are ∙ named.members in
        let few = fits.group.few in
        agrees (run settings) meaning_is (omega (arith, members, few)) (ap (λ (s : GroupSettings). is_view s.view) settings_are ∙ named_view w settings fits named)
        (ap (λ (s : GroupSettings). is_first_view s.view) settings_are ∙ ap (λ (v : View). is_first_view v) named.view) e.over e.ends.coherent may;
    again = λ may.
        let viewed = ap (λ (s : GroupSettings). is_view s.view) settings_are ∙ named_view w settings fits named in
        let begins = ap (λ (s : GroupSettings). is_first_view s.view) settings_are ∙ ap (λ (v : View). is_first_view v) named.view in
        read_again (run settings) e.over e.ends (begin_all (run settings) meaning_is viewed begins e.over.whole e.over.client e.over.members e.over.asked e.over.each) may;
  }
  ended_agreed (inr (inr e)) = absurd e.wrote

  pub group_agreed : (group : GroupStatus) → group ≡ groups.Ok → GroupEnd (run settings) group → GroupAgreed w run
  group_agreed group ok e = ended_agreed (subst (GroupEnd (run settings)) ok e)
