-- Whatever a crash leaves of a member's devices, it goes on from a front of the list, and the places of accepted replies are kept.
use Rattle.world_laws.proofs.InForce.{viewed_now}
use Rattle.world_rules.specs.InForce.{IsInForce}
use Rattle.agreement_laws.proofs.Groups.{all_listed, is_one}
use Rattle.world_laws.proofs.Given.{filter_more}
use Rattle.world_laws.proofs.Stands.{get_within}
use Rattle.std.specs.List.{list_any}
use Rattle.std.specs.Option.{option_and_then}
use Rattle.std.proofs.lemmas.Bool.{or_left, or_right, or_parts, and_from}
use Rattle.smart_statements.specs.declared.statement.Request.{Request}
use Rattle.world_rules.specs.declared.message.Origin.{Origin}
use Rattle.world_rules.specs.declared.message.Origin.TheVariants as origins
use Rattle.world_laws.proofs.ListViews.{IsTame, book_own}
use Rattle.std.proofs.Common.{◌≡◌, inl, inr, ℕ, max, ◌+◌, ◌≤◌, ◌++◌, ◌==◌, ◌&&◌, ◌||◌, ◌∙◌, Bool, true, false, not, cond, List, [], ◌∷◌, length, take, drop, filter, subst, Option, IfSome, refl, ap, sym, arith, eqb-true, add-one, None, Some, ◌<◌, ◌⊎◌, eq-eqb, zero, suc}
use Rattle.std.proofs.lemmas.Bool.{le-leb}
use Rattle.std.proofs.lemmas.List.{length-take-le, take-take, take-append-le, take-append-drop}
use Rattle.std.proofs.Math.Seq.{take-append_seam}
use Rattle.std.specs.Prelude.{map, option_map, slice_get}
use Rattle.smart_base.specs.Lists.{Distinct, Each}
use Rattle.smart_base.specs.Views.{View, is_member, is_view, quorum, weight_of}
use Rattle.smart_base.proofs.ViewFacts.{quorum-honest, view-distinct}
use Rattle.smart_base.specs.declared.party.Party.TheVariants.{Member}
use Rattle.smart_statements.specs.Forms.{SignedBy}
use Rattle.smart_statements.specs.Kinds.{answers}
use Rattle.smart_statements.specs.Batches.{Batch}
use Rattle.smart_statements.specs.declared.statement.Answer.{Answer}
use Rattle.smart_messages.specs.declared.message.Message.TheVariants.{Reply}
use Rattle.smart_service.specs.Services.{Meaning}
use Rattle.smart_service.specs.declared.replica.Replica.{Replica}
use Rattle.vote_book.specs.Books.{Among, HasMade, last_made}
use Rattle.vote_book.specs.Entries.{FitsEntry, entry_text}
use Rattle.book_laws.specs.BookCuts.{cut_at}
use Rattle.book_laws.proofs.Places.{last_append}
use Rattle.vote_book.specs.declared.entry.LogEntry.{LogEntry}
use Rattle.replica_rules.specs.Replicas.{state, Managed, managed, request_at, view_at, views_after}
use Rattle.replica_rules.specs.Seals.{is_verified}
use Rattle.store_laws.specs.Restored.{Images, restores}
use Rattle.store_laws.specs.States.{StoreState, MayLeave}
use Rattle.store_laws.specs.Asked.{IsOneOf}
use Rattle.store_form.specs.declared.checkpoint.Checkpoint.{Checkpoint}
use Rattle.member_store.specs.Cuts.{IsFrontOf, LeavesFront}
use Rattle.member_store.proofs.Fronts.{front_count, front_more}
use Rattle.member_store.proofs.BookFits.{nothing_is_wrong}
use Rattle.world_rules.specs.Crashes.{bytes_held, images_left, is_unclosed, written_book, wrong_images}
use Rattle.world_rules.specs.Fronts.{stated_place, checkpoint_place}
use Rattle.world_rules.specs.declared.crash.Image.{Image}
use Rattle.member_store.proofs.BookCrashed.{crash_leaves_front}
use Rattle.member_store.proofs.Told.{may_leave}
use Rattle.agreement_laws.specs.Statements.{Statement, Replied}
use Rattle.agreement_laws.specs.Diaries.{HasReached}
use Rattle.node_rules.specs.Reopening.{damaged, damaged_behind, damage_of, entries_in, reopened, reopened_from}
use Rattle.node_rules.specs.Steps.{Outset}
use Rattle.node_laws.specs.Restoring.{outset_behind}
use Rattle.node_laws.proofs.CutRested.{undamaged_cut}
use Rattle.node_laws.proofs.Cuts.{read_cut}
use Rattle.world_rules.specs.Secrets.{group_secret}
use Rattle.world_rules.specs.Premises.{is_among}
use Rattle.world_rules.specs.Worlds.{Host, World, is_gone, with_front, written, life_crashed, parts_of}
use Rattle.world_laws.specs.Promises.{restored_replica, has_place, MayBeLeft, IsKept, Recovers}
use Rattle.world_rules.specs.declared.message.Content.{Content}
use Rattle.world_rules.specs.declared.message.Content.TheVariants as contents
use Rattle.world_rules.specs.declared.message.Sent.{Sent}
use Rattle.client_quorum.specs.declared.client.Acceptance.{Acceptance}
use Rattle.world_rules.specs.Stated.{stated}
use Rattle.world_laws.specs.Sending.{has_replied, is_reply_of, is_of, is_for, is_reply, IsBorne, IsBorneAt, QuorumReplied, SentFirm}
use Rattle.world_laws.proofs.Lists.{each_get}
use Rattle.world_laws.proofs.Keeps.{HasMessage}
use Rattle.world_laws.proofs.NoClash.{IsMet}
use Rattle.world_laws.proofs.Lives.{EachLife, book_left, take_whole, each_drop, Running, Stopped, Lasts, Crashed, crashed, begins_both, front_whole, stopped_long, left_made, left_texts, left_upto}
use Rattle.world_laws.proofs.Ahead.{one_of, written_fits}
use Rattle.world_laws.proofs.Snapshots.{IsSnapshotAt, AreRestorable, snapshot_place, snapshot_replica}
use Rattle.world_laws.proofs.ChosenLives.{left_right, outset_left, own_left}
use Rattle.world_laws.proofs.Reopens.{GoesBehind, behind_replica}
use Rattle.world_laws.proofs.Fitting.{spelled-life}
use Rattle.world_laws.proofs.Grounded.{EntryMet, HostMet}
use Rattle.world_laws.proofs.Chosen.{BookRight, HostRight, ChosenRight, book-along, front_right, numbered_at, right_tame}
use Rattle.world_laws.proofs.ChosenKept.{host-right, host-fit, diary-few}
use Rattle.world_laws.proofs.Witnessing.{ShowsOwn, few_faulty}
use Rattle.world_laws.proofs.Replied.{reply_there}
use Rattle.agreement_laws.proofs.Lists.{among_filtered, among_number, each_append, each_from, each_take, either, number_among, or_true}
use Rattle.smart_base.proofs.SameLists.{and_true}
use Rattle.replica_rules.proofs.Managed.{managed_state}
use Rattle.replica_rules.proofs.Places.{state_place}
use Rattle.world_laws.proofs.Names.{names}

-- ---- what a crash leaves

-- A front of one book that bytes which a crash leaves restore: it begins with the member's diary, and the member may go on from it.
record LeftBook {S : Type 0} (m : Meaning S) (w : World S) (h : Host S) (left : Images) : Type 0 where
  count : ℕ
  front : IsFrontOf (restores left) (book_left h) count
  begins : take (length h.life.diary) (book_left h) ≡ h.life.diary
  least : length h.life.diary ≤ count
  asked : IfSome (restores left).present (λ (x : Checkpoint). IsSnapshotAt m w.view w.chosen x.snapshot)
  right : BookRight w.sent w.view w.chosen (take count (book_left h))
  met : Each (EntryMet (IsMet w.sent)) (take count (book_left h))
  fits : Each FitsEntry (take count (book_left h))

-- a checkpoint of a snapshot that was asked for
is_asked : {S : Type 0} (m : Meaning S) (view : View) (chosen : List Batch) (all : List (List ℕ)) (present : Option Checkpoint) → Each (IsSnapshotAt m view chosen) all
    → IfSome present (λ (x : Checkpoint). IsOneOf all x.snapshot) → IfSome present (λ (x : Checkpoint). IsSnapshotAt m view chosen x.snapshot)
is_asked m view chosen all None each is = tt
is_asked m view chosen all (Some x) each is = one_of (IsSnapshotAt m view chosen) all x.snapshot each is

-- the first entries of a book, or of one that a diary begins
front_part : (P : List LogEntry → Type 0) (count : ℕ) (unclosed : Bool) (aside d rest : List LogEntry) → ((es : List LogEntry) → P es → P (take count es)) → (unclosed ≡ false → count ≤ length d) → P aside → P d
    → P (take count (cond unclosed aside (d ++ rest)))
front_part P count true aside d rest fronts low other own = fronts aside other
front_part P count false aside d rest fronts low other own = subst P (sym (take-append-le count d rest (low refl))) (fronts d own)

module _ {S : Type 0} (m : Meaning S) (w : World S) (i : ℕ) (h : Host S) (left : Images) (at : slice_get w.hosts i ≡ Some h) (may : MayLeave h.store.devices left) (r : ChosenRight m w) where
  abbrev right_host : HostRight w.sent m w.view w.chosen h
  right_host = host-right m w i h at r

  abbrev life_fits : EachLife FitsEntry h.life
  life_fits = spelled-life h.life (host-fit m w i h at r).life

  abbrev host_met : HostMet (IsMet w.sent) h
  host_met = each_get (HostMet (IsMet w.sent)) w.hosts i h r.0.0.hosts at

  -- where its node runs
  left_running : h.up ≡ true → LeftBook m w h left
  left_running up =
      let is : Lasts right_host.all right_host.past h = right_host.lasts in
      let run : Running right_host.all right_host.past h = is.up up in
      let c : Crashed right_host.all right_host.past h left = crashed right_host.all right_host.past h left may run in
      let long = run.long in
      let heard = run.heard in
      let firm = c.leaves.firm in
      let book : BookRight w.sent w.view w.chosen (book_left h) = left_right w.sent m w.view w.chosen h up right_host in
      record {
        count = c.leaves.count;
        front = c.leaves.front;
        begins = begins_both h.life.diary (drop h.node.firm h.node.entries) (book_left h) (h.store.firm + right_host.past) (omega (arith, long, heard)) c.leaves.same;
        least = omega (arith, long, heard, firm);
        asked = is_asked m w.view w.chosen right_host.all (restores left).present right_host.snapshots c.leaves.checkpoint;
        right = front_right w.sent w.view w.chosen c.leaves.count (book_left h) book;
        met = each_take (EntryMet (IsMet w.sent)) c.leaves.count (book_left h)
            (either (λ (es : List LogEntry). Each (EntryMet (IsMet w.sent)) es) (is_unclosed h.store) h.life.aside (written h) host_met.life.aside
            (each_append (EntryMet (IsMet w.sent)) h.life.diary (drop h.node.firm h.node.entries) host_met.life.diary (each_drop (EntryMet (IsMet w.sent)) h.node.firm h.node.entries host_met.node.entries)));
        fits = each_take FitsEntry c.leaves.count (book_left h)
            (either (λ (es : List LogEntry). Each FitsEntry es) (is_unclosed h.store) h.life.aside (written h) life_fits.aside (written_fits h life_fits.diary (host-fit m w i h at r).node.book));
      }

  -- where its member has crashed already
  left_stopped : h.up ≡ false → LeftBook m w h left
  left_stopped down =
      let is : Lasts right_host.all right_host.past h = right_host.lasts in
      let s : Stopped right_host.all right_host.past h = is.down down in
      let d : List LogEntry = h.life.diary in
      let rest : List LogEntry = drop h.node.firm h.node.entries in
      let l : LeavesFront right_host.all h.store right_host.past d h.life.aside left = crash_leaves_front right_host.all h.store right_host.past (checkpoint_place (restores s.left).present) 0 d h.life.aside (s.holds 0) left may in
      let few = diary-few m w i h at r in
      let long : h.store.firm + right_host.past ≡ length d = stopped_long right_host.all right_host.past h s (omega (arith, few)) in
      let firm = l.firm in
      let low : is_unclosed h.store ≡ false → l.count ≤ length d = λ calm. subst (λ (b : Bool). l.count ≤ length (cond b h.life.aside d)) calm l.front.few in
      record {
        count = l.count;
        front = of_longer (is_unclosed h.store) l.count l.front;
        begins = begins_longer (is_unclosed h.store) (ap (λ (k : ℕ). take k (written_book h.store d h.life.aside)) (sym long) ∙ (l.same ∙ (ap (λ (k : ℕ). take k d) long ∙ take_whole d)));
        least = omega (arith, long, firm);
        asked = is_asked m w.view w.chosen right_host.all (restores left).present right_host.snapshots l.checkpoint;
        right = front_part (λ (es : List LogEntry). BookRight w.sent w.view w.chosen es) l.count (is_unclosed h.store) h.life.aside d rest (λ es b. front_right w.sent w.view w.chosen l.count es b) low
            right_host.aside right_host.diary;
        met = front_part (λ (es : List LogEntry). Each (EntryMet (IsMet w.sent)) es) l.count (is_unclosed h.store) h.life.aside d rest (λ es each. each_take (EntryMet (IsMet w.sent)) l.count es each) low
            host_met.life.aside host_met.life.diary;
        fits = front_part (λ (es : List LogEntry). Each FitsEntry es) l.count (is_unclosed h.store) h.life.aside d rest (λ es each. each_take FitsEntry l.count es each) low life_fits.aside life_fits.diary;
      }
    where
      of_longer : (b : Bool) (count : ℕ) → IsFrontOf (restores left) (cond b h.life.aside h.life.diary) count → IsFrontOf (restores left) (cond b h.life.aside (written h)) count
      of_longer true count f = f
      of_longer false count f = front_more (restores left) h.life.diary (drop h.node.firm h.node.entries) count f

      begins_longer : (b : Bool) → take (length h.life.diary) (cond b h.life.aside h.life.diary) ≡ h.life.diary → take (length h.life.diary) (cond b h.life.aside (written h)) ≡ h.life.diary
      begins_longer true is = is
      begins_longer false is = take-append_seam h.life.diary (drop h.node.firm h.node.entries)

  left_book : LeftBook m w h left
  left_book = by h.up refl
    where
      by : (up : Bool) → h.up ≡ up → LeftBook m w h left
      by true up = left_running up
      by false down = left_stopped down

-- the diary that the crash makes is this front
left_made_diary : {S : Type 0} (m : Meaning S) (w : World S) (h : Host S) (left : Images) → (b : LeftBook m w h left) → (life_crashed h left).diary ≡ take b.count (book_left h)
left_made_diary m w h left b =
    ap (λ (k : ℕ). with_front h.life.diary k (book_left h)) (front_count (restores left) (book_left h) b.count b.front) ∙ front_whole h.life.diary (book_left h) b.count b.least b.begins

-- ---- what is restored is not damaged

parts_undamaged : {S : Type 0} (m : Meaning S) (secret : List ℕ) (stated : List Statement) (view : View) (chosen : List Batch) → AreRestorable m view chosen → (present : Option Checkpoint) (entries : List (List ℕ)) (book : List LogEntry)
    → IsTame view chosen → GoesBehind secret stated view (checkpoint_place present) chosen book → Each FitsEntry book → IfSome present (λ (x : Checkpoint). IsSnapshotAt m view chosen x.snapshot)
    → entries ≡ map entry_text (cut_at (checkpoint_place present) book) → damage_of m secret view (record { snapshot = option_map (λ x. x.snapshot) present; entries = entries }) ≡ None
unfolding damage_of
parts_undamaged m secret stated view chosen a None entries book tame goes fits asked is =
    let own = book_own secret stated view chosen book tame goes.along.reached goes.sound in
    ap (λ (es : List (List ℕ)). damaged secret 0 (record { seq = 0; views = view ∷ [] }) es) is ∙ undamaged_cut secret stated view 0 chosen book own.are own.sound goes.made goes.upto goes.along fits
parts_undamaged {S = S} m secret stated view chosen a (Some x) entries book tame goes fits asked is =
    let own = book_own secret stated view chosen book tame goes.along.reached goes.sound in
    let chosen_front : List Batch = take asked.place chosen in
    let at : stated_place x.snapshot ≡ asked.place = snapshot_place m view chosen x.snapshot a.low asked in
    let place : (state m view chosen_front).place ≡ stated_place x.snapshot = state_place m view chosen_front ∙ (length-take-le asked.place chosen asked.within ∙ sym at) in
    ap (λ (o : Option (Replica S)). damaged_behind secret entries o) (snapshot_replica m a.service view chosen x.snapshot a.viewed a.begins a.low a.of asked)
    ∙ (ap (λ (g : Managed). damaged secret (state m view chosen_front).place g entries) (managed_state m view chosen_front)
    ∙ (ap (λ (k : ℕ). damaged secret (state m view chosen_front).place (managed view (take k chosen)) entries) (sym at)
    ∙ (ap (λ (k : ℕ). damaged secret k (managed view (take (stated_place x.snapshot) chosen)) entries) place
    ∙ (ap (λ (es : List (List ℕ)). damaged secret (stated_place x.snapshot) (managed view (take (stated_place x.snapshot) chosen)) es) is
    ∙ undamaged_cut secret stated view (stated_place x.snapshot) chosen book own.are own.sound goes.made goes.upto goes.along fits))))

-- ---- the replica that goes on

-- the member goes on from that front
left_goes : {S : Type 0} (m : Meaning S) (w : World S) (h : Host S) (left : Images) → ChosenRight m w → (b : LeftBook m w h left)
    → GoesBehind group_secret (stated w.sent) w.view (checkpoint_place (restores left).present) w.chosen (take b.count (book_left h))
left_goes m w h left r b = record { sound = b.right.sound; made = b.front.made; upto = b.front.upto; along = book-along m w (take b.count (book_left h)) r b.met b.right }

left_replica : {S : Type 0} (m : Meaning S) (w : World S) (h : Host S) (left : Images) → AreRestorable m w.view w.chosen → ChosenRight m w → (b : LeftBook m w h left)
    → restored_replica m w.view w.period h left ≡ state m w.view (take (last_made (take b.count (book_left h))) w.chosen)
unfolding reopened_from
left_replica {S = S} m w h left a r b =
    let book : List LogEntry = take b.count (book_left h) in
    let present : Option Checkpoint = (restores left).present in
    let place : ℕ = checkpoint_place present in
    ap (λ (o : Outset S). (reopened m o (entries_in (restores left).entries)).replica)
    (outset_left m a.service w.view w.period w.chosen h.node.id a.viewed a.begins a.low a.of present b.asked)
    ∙ (ap (λ (es : List LogEntry). (reopened m (outset_behind m group_secret h.node.id w.view w.period place w.chosen (own_left present)) es).replica) (ap entries_in b.front.entries ∙ read_cut place book b.fits)
    ∙ behind_replica m group_secret h.node.id (stated w.sent) w.view w.period place w.chosen (own_left present) book (left_goes m w h left r b))

left_place : {S : Type 0} (m : Meaning S) (w : World S) (h : Host S) (left : Images) → AreRestorable m w.view w.chosen → ChosenRight m w → (b : LeftBook m w h left)
    → (restored_replica m w.view w.period h left).place ≡ last_made (take b.count (book_left h))
left_place {S = S} m w h left a r b =
    let last : ℕ = last_made (take b.count (book_left h)) in
    ap (λ (x : Replica S). x.place) (left_replica m w h left a r b) ∙ (state_place m w.view (take last w.chosen) ∙ length-take-le last w.chosen b.right.within)

-- it is the state of a front of the list
left_front : {S : Type 0} (m : Meaning S) (w : World S) (h : Host S) (left : Images) → AreRestorable m w.view w.chosen → ChosenRight m w → (b : LeftBook m w h left)
    → restored_replica m w.view w.period h left ≡ state m w.view (take (restored_replica m w.view w.period h left).place w.chosen)
left_front {S = S} m w h left a r b = left_replica m w h left a r b ∙ ap (λ (k : ℕ). state m w.view (take k w.chosen)) (sym (left_place m w h left a r b))

-- no crash line without patches ends a play
none_wrong : {S : Type 0} (all : List (List ℕ)) (past : ℕ) (h : Host S) → Lasts all past h → (image : Image) → wrong_images h.store (images_left image [] h.store) ≡ None
none_wrong all past h is image = by h.up refl
  where
    by : (up : Bool) → h.up ≡ up → wrong_images h.store (images_left image [] h.store) ≡ None
    by true up = nothing_is_wrong all h.store past (max h.node.opening h.switching) h.switching (written h) h.life.aside (is.up up).holds image
    by false down = nothing_is_wrong all h.store past (checkpoint_place (restores (is.down down).left).present) 0 h.life.diary h.life.aside ((is.down down).holds 0) image

recovers : {S : Type 0} (m : Meaning S) (w : World S) (i : ℕ) (h : Host S) → slice_get w.hosts i ≡ Some h → AreRestorable m w.view w.chosen → ChosenRight m w → Recovers m w h
recovers {S = S} m w i h at a r =
    let right : HostRight w.sent m w.view w.chosen h = host-right m w i h at r in
    let b : (left : Images) → MayLeave h.store.devices left → LeftBook m w h left = λ left may. left_book m w i h left at may r in
    record {
      possible = none_wrong right.all right.past h right.lasts;
      leaves = λ image. may_leave h.store (images_left image [] h.store) (none_wrong right.all right.past h right.lasts image);
      diary = λ left may. (b left may).front.entries
          ∙ ap (λ (es : List LogEntry). map entry_text (cut_at (checkpoint_place (restores left).present) es)) (sym (left_made_diary m w h left (b left may)));
      made = λ left may past.
          subst (λ (es : List LogEntry). HasMade es (checkpoint_place (restores left).present)) (sym (left_made_diary m w h left (b left may))) ((b left may).front.made past);
      undamaged = λ left may.
          parts_undamaged m group_secret (stated w.sent) w.view w.chosen a (restores left).present (restores left).entries (take (b left may).count (book_left h)) (right_tame m w r.1) (left_goes m w h left r (b left may)) (b left may).fits
          (b left may).asked
          (b left may).front.entries;
      restarts = λ down.
          let s : Stopped right.all right.past h = right.lasts.down down in
          ap (λ (t : StoreState). damage_of m group_secret w.view (parts_of (restores (bytes_held t)))) s.opened
          ∙ parts_undamaged m group_secret (stated w.sent) w.view w.chosen a (restores s.left).present (restores s.left).entries h.life.diary (right_tame m w r.1)
          (record {
            sound = right.diary.sound;
            made = left_made right.all right.past h s;
            upto = left_upto right.all right.past h s;
            along = book-along m w h.life.diary r (each_get (HostMet (IsMet w.sent)) w.hosts i h r.0.0.hosts at).life.diary right.diary;
          })
          (spelled-life h.life (host-fit m w i h at r).life).diary
          (is_asked m w.view w.chosen right.all (restores s.left).present right.snapshots s.asked) (left_texts right.all right.past h s);
      within = λ left may. let place = left_place m w h left a r (b left may) in let most = (b left may).right.within in omega (arith, place, most);
      reaches = λ left may. left_place m w h left a r (b left may) ∙ ap (λ (es : List LogEntry). last_made es) (sym (left_made_diary m w h left (b left may)));
      right = λ left may. left_front m w h left a r (b left may);
    }

-- so is each host
each_at : {A : Type 0} (P : A → Type 0) (xs : List A) → ((i : ℕ) (x : A) → slice_get xs i ≡ Some x → P x) → Each P xs
each_at P [] all = tt
each_at P (x ∷ xs) all = (all 0 x refl, each_at P xs (λ i y at. all (i + 1) y (later i y at)))
  where
    later : (i : ℕ) (y : _) → slice_get xs i ≡ Some y → slice_get (x ∷ xs) (i + 1) ≡ Some y
    later i y at = rw add-one at

pub all_recover : {S : Type 0} (m : Meaning S) (w : World S) → AreRestorable m w.view w.chosen → ChosenRight m w → Each (Recovers m w) w.hosts
all_recover {S = S} m w a r = each_at (Recovers m w) w.hosts (λ i h at. recovers m w i h at a r)

-- ---- places that are kept

-- a member whose diary has reached a place restores it or a later one
reached_kept : {S : Type 0} (m : Meaning S) (w : World S) (i : ℕ) (h : Host S) (left : Images) (place : ℕ) → slice_get w.hosts i ≡ Some h → MayLeave h.store.devices left → AreRestorable m w.view w.chosen → ChosenRight m w
    → HasReached h.life.diary place → place ≤ (restored_replica m w.view w.period h left).place
reached_kept {S = S} m w i h left place at may a r reached =
    let b : LeftBook m w h left = left_book m w i h left at may r in
    let right : HostRight w.sent m w.view w.chosen h = host-right m w i h at r in
    let d : List LogEntry = h.life.diary in
    let book : List LogEntry = take b.count (book_left h) in
    let front : take (length d) book ≡ d = take-take (length d) b.count (book_left h) b.least ∙ b.begins in
    let more : last_made book ≡ max (last_made (take (length d) book)) (last_made (drop (length d) book)) =
    ap (λ (es : List LogEntry). last_made es) (sym (take-append-drop (length d) book)) ∙ last_append (take (length d) book) (drop (length d) book) in
    let own : last_made (take (length d) book) ≡ last_made d = ap (λ (es : List LogEntry). last_made es) front in
    let at_place = left_place m w h left a r b in
    omega (arith, reached, more, own, at_place)

-- a member has given the reply that was accepted
record Given (sent : List Sent) (a : Acceptance) (member : ℕ) : Type 0 where
  reply : SignedBy Answer
  there : HasMessage sent (Reply reply)
  tagged : is_verified answers group_secret reply ≡ true
  signer : reply.signer ≡ member
  place : reply.statement.place ≡ a.place

given_in : (a : Acceptance) (member : ℕ) (x : Content) → is_reply_of member a x ≡ true
    → (r : SignedBy Answer) × ((x ≡ contents.Message (Reply r)) × ((is_verified answers group_secret r ≡ true) × ((r.signer ≡ member) × (r.statement.place ≡ a.place))))
given_in a member (contents.Raw bytes) is = absurd (cc)
given_in a member (contents.Message (Reply r)) is =
    let one = and_true ((r.signer == member) && is_verified answers group_secret r) (is_reply a r) is in
    let two = and_true (r.signer == member) (is_verified answers group_secret r) one.0 in
    let six = and_true _ _ one.1 in
    let five = and_true _ _ six.0 in
    let four = and_true _ (r.statement.place == a.place) five.0 in
    (r, (refl, (two.1, (eqb-true r.signer member two.0, eqb-true r.statement.place a.place four.1))))
given_in a member (contents.Message _) is = absurd (cc)

given_by : (faulty : List ℕ) (sent : List Sent) (a : Acceptance) (member : ℕ) → has_replied faulty sent a member ≡ true → Given sent a member
given_by faulty [] a member is = absurd (cc)
given_by faulty (s ∷ sent) a member is =
    by (is_reply_of member a s.content && (is_among faulty member || (is_of member s.origin && is_for a.request.client s.to))) refl is (λ rest. given_by faulty sent a member rest)
  where
    by : (here : Bool) → (is_reply_of member a s.content && (is_among faulty member || (is_of member s.origin && is_for a.request.client s.to))) ≡ here → (here || has_replied faulty sent a member) ≡ true
        → (has_replied faulty sent a member ≡ true → Given sent a member) → Given (s ∷ sent) a member
    by true here is later =
        let g = given_in a member s.content (and_true (is_reply_of member a s.content) _ here).0 in
        record { reply = g.0; there = inl g.1.0; tagged = g.1.1.0; signer = g.1.1.1.0; place = g.1.1.1.1 }
    by false here is later = let g = later is in record { reply = g.reply; there = inr g.there; tagged = g.tagged; signer = g.signer; place = g.place }

-- a member that has, and is not faulty
abbrev honest_replied : {S : Type 0} → World S → Acceptance → ℕ → Bool
honest_replied w a member = has_replied w.faulty w.sent a member && not (is_among w.faulty member)

-- restores the place, whatever is left of its devices
honest_kept : {S : Type 0} (m : Meaning S) (w : World S) (v : View) (a : Acceptance) (left : ℕ → Images) (i : ℕ) (h : Host S) → slice_get w.hosts i ≡ Some h → MayBeLeft w left → AreRestorable m w.view w.chosen
    → ChosenRight m w → (is_member v h.node.id && honest_replied w a h.node.id) ≡ true → has_place m w v left a.place h ≡ true
honest_kept {S = S} m w v a left i h at may service r is =
    let parts = and_true (is_member v h.node.id) (honest_replied w a h.node.id) is in
    let both = and_true (has_replied w.faulty w.sent a h.node.id) (not (is_among w.faulty h.node.id)) parts.1 in
    let correct : is_among w.faulty h.node.id ≡ false = not_true (is_among w.faulty h.node.id) both.1 in
    let g : Given w.sent a h.node.id = given_by w.faulty w.sent a h.node.id both.0 in
    let shows : ShowsOwn w.faulty (Replied g.reply) h =
    each_get (ShowsOwn w.faulty (Replied g.reply)) w.hosts i h (r.1.shown (Replied g.reply) (reply_there w.sent g.reply g.there g.tagged)).0 at in
    let reached : HasReached h.life.diary g.reply.statement.place = shows (ap (λ (k : ℕ). Member k) g.signer) correct in
    let here : MayLeave h.store.devices (left h.node.id) = each_get (λ (x : Host S). is_gone w x.node.id ≡ false → MayLeave x.store.devices (left x.node.id)) w.hosts i h may at correct in
    let least = reached_kept m w i h (left h.node.id) g.reply.statement.place at here service r reached in
    let place = g.place in
    rw (parts.0, both.1, le-leb a.place (restored_replica m w.view w.period h (left h.node.id)).place (omega (arith, least, place))) refl
  where
    not_true : (b : Bool) → not b ≡ true → b ≡ false
    not_true true is = absurd (cc)
    not_true false is = refl

-- ---- counting

-- of those that pass one test, as many pass it and not another, but for those that pass that
pass_but : (p q : ℕ → Bool) (ms : List ℕ) → length (filter p ms) ≤ length (filter (λ x. p x && not (q x)) ms) + length (filter q ms)
pass_but p q [] = omega arith
pass_but p q (x ∷ xs) = by (p x) (q x) (filter p xs) (filter (λ y. p y && not (q y)) xs) (filter q xs) (pass_but p q xs)
  where
    by : (a b : Bool) (ps rs qs : List ℕ) → length ps ≤ length rs + length qs → length (cond a (x ∷ ps) ps) ≤ length (cond (a && not b) (x ∷ rs) rs) + length (cond b (x ∷ qs) qs)
    by true true ps rs qs le = omega (arith, le)
    by true false ps rs qs le = omega (arith, le)
    by false true ps rs qs le = omega (arith, le)
    by false false ps rs qs le = le

-- where a test of names implies one of hosts, as many hosts pass
hosts_pass : {S : Type 0} (p : ℕ → Bool) (q : Host S → Bool) (hs : List (Host S)) → Each (λ h. p h.node.id ≡ true → q h ≡ true) hs → length (filter p (map (λ h. h.node.id) hs)) ≤ length (filter q hs)
hosts_pass p q [] each = omega arith
hosts_pass {S = S} p q (h ∷ hs) each = by (p h.node.id) (q h) each.0 (filter p (map (λ g. g.node.id) hs)) (filter q hs) (hosts_pass p q hs each.1)
  where
    by : (a b : Bool) → (a ≡ true → b ≡ true) → (ps : List ℕ) (qs : List (Host S)) → length ps ≤ length qs → length (cond a (h.node.id ∷ ps) ps) ≤ length (cond b (h ∷ qs) qs)
    by true true more ps qs le = omega (arith, le)
    by true false more ps qs le = absurd (apart (more refl))
      where
        apart : false ≡ true → ⊥
        apart same = cc
    by false true more ps qs le = omega (arith, le)
    by false false more ps qs le = le

-- ---- members that have replied have hosts

no_way : true ≡ false → ⊥
no_way is = cc

-- whose entries bear a content has a host
borne_named : {S : Type 0} (hosts : List (Host S)) (id : ℕ) (x : Content) → IsBorneAt hosts id x → list_any (λ k. k == id) (names hosts) ≡ true
borne_named [] id x there = absurd there
borne_named (h ∷ hs) id x there =
    elim there [
      | inl here ↦ or_left (h.node.id == id) (list_any (λ k. k == id) (names hs)) (eq-eqb h.node.id id here.member)
      | inr later ↦ or_right (h.node.id == id) (list_any (λ k. k == id) (names hs)) (borne_named hs id x later)
    ]

origin_named : {S : Type 0} (hosts : List (Host S)) (member : ℕ) (o : Origin) (x : Content) → IsBorne hosts o x → is_of member o ≡ true → list_any (λ k. k == member) (names hosts) ≡ true
origin_named hosts member (origins.Node id) x borne is = subst (λ (n : ℕ). list_any (λ k. k == n) (names hosts) ≡ true) (eqb-true id member is) (borne_named hosts id x borne)
origin_named hosts member (origins.Client id) x borne is = absurd (cc)
origin_named hosts member origins.Script x borne is = absurd (cc)

-- so a member has that has replied and is not faulty
replier_named : {S : Type 0} (hosts : List (Host S)) (faulty : List ℕ) (sent : List Sent) (a : Acceptance) (member : ℕ) → Each (λ s. IsBorne hosts s.origin s.content) sent → is_among faulty member ≡ false
    → has_replied faulty sent a member ≡ true → list_any (λ k. k == member) (names hosts) ≡ true
replier_named hosts faulty [] a member borne correct is = absurd (cc)
replier_named hosts faulty (s ∷ sent) a member borne correct is =
    elim (or_true (is_reply_of member a s.content && (is_among faulty member || (is_of member s.origin && is_for a.request.client s.to))) (has_replied faulty sent a member) is) [
      | inl here ↦ own_named (or_true (is_among faulty member) (is_of member s.origin && is_for a.request.client s.to) (and_true (is_reply_of member a s.content) _ here).1)
      | inr later ↦ replier_named hosts faulty sent a member borne.1 correct later
    ]
  where
    own_named : (is_among faulty member ≡ true) ⊎ ((is_of member s.origin && is_for a.request.client s.to) ≡ true) → list_any (λ k. k == member) (names hosts) ≡ true
    own_named (inl breaks) = absurd (no_way (sym breaks ∙ correct))
    own_named (inr own) = origin_named hosts member s.origin s.content borne.0 (and_true (is_of member s.origin) (is_for a.request.client s.to) own).0

none_left : (p q : ℕ → Bool) (xs : List ℕ) → list_any p xs ≡ false → list_any p (filter q xs) ≡ false
none_left p q [] none = refl
none_left p q (x ∷ xs) none = let parts = or_parts (p x) (list_any p xs) none in by (q x) parts.0 (none_left p q xs parts.1)
  where
    by : (t : Bool) → p x ≡ false → list_any p (filter q xs) ≡ false → list_any p (cond t (x ∷ filter q xs) (filter q xs)) ≡ false
    by true here rest = ap (λ (b : Bool). b || list_any p (filter q xs)) here ∙ rest
    by false here rest = rest

-- numbers of which none stands twice, if only some are left
distinct_left : (q : ℕ → Bool) (xs : List ℕ) → Distinct xs → Distinct (filter q xs)
distinct_left q [] once = tt
distinct_left q (x ∷ xs) once = by (q x) (none_left (λ y. y == x) q xs once.0) (distinct_left q xs once.1)
  where
    by : (t : Bool) → list_any (λ y. y == x) (filter q xs) ≡ false → Distinct (filter q xs) → Distinct (cond t (x ∷ filter q xs) (filter q xs))
    by true none rest = (none, rest)
    by false none rest = rest

-- what passes a test is left and passes it
left_passes : (p : ℕ → Bool) (xs : List ℕ) (n : ℕ) → Among n (filter p xs) → p n ≡ true
left_passes p [] n there = absurd there
left_passes p (x ∷ xs) n there = by (p x) refl there (left_passes p xs n)
  where
    by : (t : Bool) → p x ≡ t → Among n (cond t (x ∷ filter p xs) (filter p xs)) → (Among n (filter p xs) → p n ≡ true) → p n ≡ true
    by true is among later = elim among [ inl same ↦ subst (λ (y : ℕ). p y ≡ true) (sym same) is | inr rest ↦ later rest ]
    by false is among later = later among

-- Members of a view that pass a test and stand among some numbers: as many of these numbers are such members.
members_there : (v : View) (p : ℕ → Bool) (ids : List ℕ) → Distinct v.members → ((id : ℕ) → p id ≡ true → list_any (λ k. k == id) ids ≡ true)
    → length (filter p v.members) ≤ length (filter (λ id. is_member v id && p id) ids)
members_there v p ids once there =
    let group : List ℕ = filter p v.members in
    let among : View = record { number = 0; start = 0; f = 0; members = ids } in
    let all = all_listed among group (each_from (λ (id : ℕ). is_member among id ≡ true) group (λ id left. there id (left_passes p v.members id left))) (distinct_left p v.members once) in
    let fewer = filter_more (is_one group) (λ id. is_member v id && p id) (λ id is. in_group id (number_among group id is)) ids in
    omega (arith, all, fewer)
  where
    in_group : (id : ℕ) → Among id (filter p v.members) → (is_member v id && p id) ≡ true
    in_group id left = and_from (is_member v id) (p id) (among_number v.members id (among_filtered p v.members id left)) (left_passes p v.members id left)

-- where a quorum of a view in force has replied, enough members of it restore the place
enough_kept : {S : Type 0} (m : Meaning S) (w : World S) (v : View) (a : Acceptance) → AreRestorable m w.view w.chosen → ChosenRight m w → SentFirm w → IsInForce w v
    → quorum v ≤ weight_of v (filter (has_replied w.faulty w.sent a) v.members) → (left : ℕ → Images) → MayBeLeft w left → v.f < length (filter (has_place m w v left a.place) w.hosts)
enough_kept {S = S} m w v a service r firm force replied left may =
    let p : ℕ → Bool = has_replied w.faulty w.sent a in
    let q : ℕ → Bool = is_among w.faulty in
    let viewed : is_view v ≡ true = viewed_now w v force r.1.viewed r.1.of r.1.low in
    let few = (few_faulty v w.faulty viewed (r.1.few.each v force)).few in
    let more = quorum-honest v viewed in
    let but = pass_but p q v.members in
    let pass = hosts_pass (λ id. is_member v id && honest_replied w a id) (has_place m w v left a.place) w.hosts
    (each_at (λ (h : Host S). (is_member v h.node.id && honest_replied w a h.node.id) ≡ true → has_place m w v left a.place h ≡ true) w.hosts (λ i h at. honest_kept m w v a left i h at may service r)) in
    let own = members_there v (honest_replied w a) (names w.hosts) (view-distinct v viewed) (λ id is. honest_named id is) in
    omega (arith, pass, own, but, few, more, replied)
  where
    correct_of : (b : Bool) → not b ≡ true → b ≡ false
    correct_of true is = absurd (cc)
    correct_of false is = refl

    honest_named : (id : ℕ) → honest_replied w a id ≡ true → list_any (λ k. k == id) (names w.hosts) ≡ true
    honest_named id is =
        let both = and_true (has_replied w.faulty w.sent a id) (not (is_among w.faulty id)) is in
        replier_named w.hosts w.faulty w.sent a id firm.borne (correct_of (is_among w.faulty id) both.1) both.0

-- a place at which the list has a request is one of its places
pub request_within : (list : List Batch) (place index : ℕ) (q : Request) → request_at list place index ≡ Some q → place ≤ length list
request_within list zero index q is = omega arith
request_within list (suc k) index q is = by (slice_get list k) refl is
  where
    by : (found : Option Batch) → slice_get list k ≡ found → option_and_then (λ batch. option_map (λ (x : SignedBy Request). x.statement) (slice_get batch index)) found ≡ Some q → suc k ≤ length list
    by None at is = absurd (cc)
    by (Some batch) at is = let within = get_within list k batch at in omega (arith, within)

-- a place of the list at which a quorum has replied in its view is kept
pub replied_kept : {S : Type 0} (m : Meaning S) (w : World S) (a : Acceptance) → AreRestorable m w.view w.chosen → ChosenRight m w → SentFirm w → QuorumReplied (views_after w.view w.chosen) w.faulty w.sent a
    → (view_at w.view w.chosen a.place).number ≡ a.view → IsInForce w (view_at w.view w.chosen a.place) → IsKept m w a.place
replied_kept {S = S} m w a service r firm replied same force =
    let there : view_at w.view w.chosen a.place ≡ replied.view = numbered_at m w r.1 a.place replied.view replied.known (same ∙ replied.stated) in
    let enough : quorum (view_at w.view w.chosen a.place) ≤ weight_of (view_at w.view w.chosen a.place) (filter (has_replied w.faulty w.sent a) (view_at w.view w.chosen a.place).members) =
    subst (λ (v : View). quorum v ≤ weight_of v (filter (has_replied w.faulty w.sent a) v.members)) (sym there) replied.enough in
    record { enough = λ left may. enough_kept m w (view_at w.view w.chosen a.place) a service r firm force enough left may }
