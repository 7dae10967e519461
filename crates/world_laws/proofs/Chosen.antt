-- The list of chosen batches: each is certified, and every host stands along it.
use Rattle.node_laws.proofs.ListedViews.{after_are, present_there}
use Rattle.node_laws.proofs.Views.{number_once}
use Rattle.world_laws.proofs.ListViews.{IsTame, book_more_batches, front_there, longer_there}
use Rattle.world_laws.proofs.InForce.{AreFew, backed_now, viewed_now, known_now}
use Rattle.world_laws.proofs.Keeps.{few_of}
use Rattle.world_laws.proofs.Listed.{held_at, all_alone}
use Rattle.node_laws.proofs.CertifiedBooks.{certified_book}
use Rattle.world_rules.specs.InForce.{IsInForce}
use Rattle.std.proofs.Common.{◌≡◌, ℕ, zero, suc, ◌+◌, ◌-◌, ◌^◌, ◌<◌, ◌≤◌, ◌++◌, ◌==◌, Bool, cond, true, false, List, [], ◌∷◌, length, ◌∙◌, sym, refl, inl, inr, arith, Option, Some, None, subst, take, length-append, eqb-true, eq-eqb, ap}
use Rattle.std.proofs.lemmas.List.{length-take-le}
use Rattle.std.specs.Prelude.{IfSome, slice_get}
use Rattle.smart_base.specs.Lists.{Each}
use Rattle.smart_base.specs.Views.{View, is_view, present}
use Rattle.smart_statements.specs.Batches.{Batch}
use Rattle.smart_service.specs.Services.{Meaning}
use Rattle.vote_book.specs.declared.entry.LogEntry.{LogEntry}
use Rattle.vote_book.specs.declared.entry.LogEntry.TheVariants.{Decided}
use Rattle.replica_rules.specs.Replicas.{state, executed_lines, batch_at, view_at, views_after}
use Rattle.book_laws.specs.BookCuts.{cut_at}
use Rattle.vote_book.specs.Books.{Among, HasMade, last_made}
use Rattle.smart_service.specs.declared.replica.Replica.{Replica}
use Rattle.replica_rules.specs.Seals.{digest_of}
use Rattle.node_rules.specs.declared.node.Delivery.{Delivery}
use Rattle.node_rules.specs.Nodes.{Node, decided_place, next_place}
use Rattle.agreement_laws.specs.Statements.{Statement}
use Rattle.agreement_laws.specs.Law.{Witnessed}
use Rattle.agreement_laws.specs.Lists.{Certified}
use Rattle.agreement_laws.proofs.Lists.{each_among, each_end, either, either_by, some_equal}
use Rattle.agreement_laws.proofs.OneList.{certified_more, certified_end, certified_get}
use Rattle.agreement_laws.proofs.Regencies.{decided_once}
use Rattle.node_laws.proofs.Reopened.{in_turn}
use Rattle.node_laws.specs.Restoring.{AreAlong}
use Rattle.book_laws.proofs.Lists.{split_at}
use Rattle.vote_book.proofs.Locks.{made_most}
use Rattle.vote_book.specs.declared.entry.Decision.{Decision}
use Rattle.node_laws.specs.Sound.{IsSound, IsWithin, view_for}
use Rattle.node_laws.proofs.More.{sound_more}
use Rattle.node_laws.specs.Restored.{IsSoundBook}
use Rattle.node_laws.proofs.Restored.{front_sound, book_more}
use Rattle.world_rules.specs.Secrets.{group_secret}
use Rattle.world_rules.specs.Premises.{is_among}
use Rattle.world_rules.specs.Worlds.{Host, World, chosen_with, host_of, written}
use Rattle.world_laws.specs.Promises.{IsChosenAt, IsWitness}
use Rattle.node_rules.specs.Deliveries.{AtPlaces}
use Rattle.world_rules.specs.declared.message.Sent.{Sent}
use Rattle.replica_laws.proofs.Follows.{WasDue}
use Rattle.world_rules.specs.Stated.{stated_in, stated, diary, AreDecided, view_behind}
use Rattle.world_laws.proofs.Lives.{Lasts}
use Rattle.world_laws.proofs.Snapshots.{AreRestorable, IsRestorable, IsSnapshotAt, snapshot_longer}
use Rattle.snapshot_form.specs.Replicas.{IsOfClients, is_first_view}
use Rattle.world_laws.proofs.Taken.{AreMarksRight}
use Rattle.world_laws.proofs.MarksRight.{HostMarks, marks-right}
use Rattle.world_laws.proofs.Fetching.{IsFetchMet}
use Rattle.world_laws.proofs.Wholes.{IsAt, at_longer, decided_at, waiting_decided}
use Rattle.world_laws.proofs.Few.{FewHost, few-sent}
use Rattle.world_laws.proofs.Fronts.{front-same, front-append, front-length, front-take, front-batch_at}
use Rattle.world_laws.proofs.NoClash.{IsMet, met-grows}
use Rattle.world_laws.proofs.Grounded.{EntryMet, entry-weaker, Grounded, grounded-exact}
use Rattle.world_laws.proofs.Witnessing.{HostStands, witness-of, witnessing, AllShown, stated-end, stated-grows, among-all}
use Rattle.world_laws.proofs.Unforged.{Unforged}
use Rattle.world_laws.proofs.Names.{AreNames, names}
use Rattle.smart_base.proofs.ViewFacts.{each-weaken}

-- a book from which a member may go on, which makes no place past the end of the list
pub record BookRight (sent : List Sent) (view : View) (chosen : List Batch) (es : List LogEntry) : Type 0 where
  pub sound : IsSoundBook group_secret (stated sent) (views_after view chosen) es
  pub within : last_made es ≤ length chosen

-- All that a node and the lives before it had written. While the node runs, that is what is written. The node's book is the cut of it at the place of the
-- checkpoint with which this life began, 0 without one. Its replica is the state at its place of the list.
pub record HasWritten {S : Type 0} (sent : List Sent) (m : Meaning S) (view : View) (chosen : List Batch) (h : Host S) (whole : List LogEntry) : Type 0 where
  pub is : h.up ≡ true → whole ≡ written h
  pub cut : h.node.entries ≡ cut_at h.node.opening whole
  pub made : 0 < h.node.opening → HasMade whole h.node.opening
  pub right : BookRight sent view chosen whole
  pub met : Each (EntryMet (IsMet sent)) whole
  pub past : h.node.opening ≤ h.node.replica.place
  pub at : IsAt m view chosen h.node
  -- it is sound by the views that the node knows, and names no place past the node's next one
  pub knows : IsSoundBook group_secret (stated sent) h.node.replica.views whole
  pub bounded : Each (IsWithin h.node.replica.views (next_place h.node) whole) whole

-- A host of the group whose node is sound and delivers in order, which decided no more than the list has, and delivered a batch for each place, the list's.
-- Its store was asked for snapshots of the list alone. Its diary and the book that it put aside are such from which it may go on.
pub record HostRight {S : Type 0} (sent : List Sent) (m : Meaning S) (view : View) (chosen : List Batch) (h : Host S) : Type 0 where
  pub sound : IsSound (stated sent) view h.node
  pub shared : h.node.secret ≡ group_secret
  -- the snapshots that its store was asked for, and how many entries cuts have left out
  pub all : List (List ℕ)
  pub past : ℕ
  pub lasts : Lasts all past h
  pub snapshots : Each (IsSnapshotAt m view chosen) all
  pub whole : List LogEntry
  pub wrote : HasWritten sent m view chosen h whole
  pub count : h.resumed + length h.delivered ≡ h.node.replica.place
  pub places : AtPlaces (h.resumed + 1) h.delivered
  pub agrees : Each (IsChosenAt m view chosen) h.delivered
  pub earlier : Each (IsChosenAt m view chosen) h.earlier
  pub diary : BookRight sent view chosen h.life.diary
  pub aside : BookRight sent view chosen h.life.aside
  pub few : FewHost sent whole h

-- a world in which all hosts are right, each member has one host, each chosen batch is certified, few of each view in force are faulty, and what has been
-- stated is shown
pub record WorldRight {S : Type 0} (m : Meaning S) (w : World S) : Type 0 where
  pub right : Each (HostRight w.sent m w.view w.chosen) w.hosts
  pub ids : AreNames w.view (names w.hosts)
  pub viewed : is_view w.view ≡ true
  pub period_fits : w.period < 2 ^ 32
  pub certified : AreDecided (stated w.sent) w.view w.chosen
  pub few : AreFew w
  pub shown : AllShown w.faulty (stated w.sent) w.hosts
  -- restarts over snapshots of the list rest on these
  pub begins : is_first_view w.view ≡ true
  pub low : length w.chosen < 2 ^ 63
  pub of : Each IsOfClients w.chosen
  pub short : length w.sent ≤ 2 ^ 24
  -- while nothing has ended the play, each mark of a host is of a state of the list, whose snapshot was met, and the joined text of a plan whose parts
  -- are all there was met
  pub marks : w.ending ≡ None → Each (HostMarks m w.view w.chosen w.sent w.marked) w.hosts
  pub fetched : w.ending ≡ None → Each (λ (h : Host S). IsFetchMet w.sent w.marked h.node.fetch) w.hosts

-- all batches were met, and are one where their digests are; what was sent is read, and is not forged
abbrev pub Based : {S : Type 0} → Meaning S → World S → Type 0
Based m w = Grounded m w × Unforged w

abbrev pub ChosenRight : {S : Type 0} → Meaning S → World S → Type 0
ChosenRight m w = Based m w × WorldRight m w

-- what restarts over snapshots of its list rest on
pub are_restorable : {S : Type 0} (m : Meaning S) (w : World S) → IsRestorable m → WorldRight m w → AreRestorable m w.view w.chosen
are_restorable m w service r = record { service = service; viewed = r.viewed; begins = r.begins; low = r.low; of = r.of }

-- the list with the batch that waits at a node

-- the list with that batch begins with the list
pub chosen-front : (chosen : List Batch) (place : ℕ) (waiting : Option Batch) → take (length chosen) (chosen_with chosen place waiting) ≡ chosen
chosen-front chosen place None = front-same chosen
chosen-front chosen place (Some batch) =
    either (λ (c : List Batch). take (length chosen) c ≡ chosen) (place == length chosen + 1) (chosen ++ batch ∷ []) chosen
    (front-append chosen chosen (batch ∷ []) (front-same chosen)) (front-same chosen)

-- so the views behind the list are among those behind it then
pub chosen_there : (view : View) (chosen : List Batch) (place : ℕ) (waiting : Option Batch) (u : View) → Among u (views_after view chosen) → Among u (views_after view (chosen_with chosen place waiting))
chosen_there view chosen place waiting u there = longer_there view chosen (chosen_with chosen place waiting) u (chosen-front chosen place waiting) there

-- a node that is at a place of the list has decided no more than the list that it extends has
pub within-step : {S : Type 0} (chosen : List Batch) (n' : Node S) (waiting : Option Batch) → n'.waiting ≡ waiting → n'.replica.place ≤ length chosen
    → decided_place n' ≤ length (chosen_with chosen (next_place n') waiting)
within-step chosen n' None at reached = let same : decided_place n' ≡ n'.replica.place = rw at refl in omega (arith, same, reached)
within-step chosen n' (Some batch) at reached =
    let same : decided_place n' ≡ n'.replica.place + 1 = rw at refl in
    either_by (λ (c : List Batch). decided_place n' ≤ length c) (next_place n' == length chosen + 1) (chosen ++ batch ∷ []) chosen
    (λ is. let next = eqb-true (next_place n') (length chosen + 1) is in let long = length-append chosen (batch ∷ []) in omega (arith, same, next, long))
    (λ isnt. less n'.replica.place (length chosen) (decided_place n') same reached (λ e. differ (next_place n') (length chosen + 1) isnt e))
  where
    differ : (a b : ℕ) → (a == b) ≡ false → a ≡ b → ⊥
    differ a b isnt e = let is = eq-eqb a b e in absurd (cc)

    less : (a b d : ℕ) → d ≡ a + 1 → a ≤ b → (a + 1 ≡ b + 1 → ⊥) → d ≤ b
    less a b d is most not_next = omega (arith, is, most, not_next)

-- the list with the batch that waits is decided, if that batch is certified for its place
pub certified-step : {S : Type 0} (T : List Statement) (view : View) (chosen : List Batch) (n : Node S) (waiting : Option Batch)
    → IfSome waiting (λ (batch : Batch). next_place n ≡ length chosen + 1 → Certified group_secret T (view_behind view chosen) (next_place n) (digest_of batch)) → AreDecided T view chosen → AreDecided T view (chosen_with chosen (next_place n) waiting)
certified-step T view chosen n None own all = all
certified-step T view chosen n (Some batch) own all =
    either_by (λ (bs : List Batch). AreDecided T view bs) (next_place n == length chosen + 1) (chosen ++ batch ∷ []) chosen
    (λ is. let next = eqb-true (next_place n) (length chosen + 1) is in
    certified_end group_secret digest_of (view_behind view) T [] chosen batch all
    (subst (λ (k : ℕ). Certified group_secret T (view_behind view chosen) k (digest_of batch)) next (own next)))
    (λ isnt. all)

-- the list gains one batch at most
pub longer-step : {S : Type 0} (chosen : List Batch) (n : Node S) (waiting : Option Batch) → length (chosen_with chosen (next_place n) waiting) ≤ length chosen + 1
longer-step chosen n None = omega arith
longer-step chosen n (Some batch) =
    either (λ (bs : List Batch). length bs ≤ length chosen + 1) (next_place n == length chosen + 1) (chosen ++ batch ∷ []) chosen
    (let longer = length-append chosen (batch ∷ []) in omega (arith, longer)) (omega arith)

-- it stays short, if the next place is low
pub low-step : {S : Type 0} (chosen : List Batch) (n : Node S) (waiting : Option Batch) → IfSome waiting (λ (batch : Batch). next_place n < 2 ^ 63) → length chosen < 2 ^ 63
    → length (chosen_with chosen (next_place n) waiting) < 2 ^ 63
low-step chosen n None few low = low
low-step chosen n (Some batch) few low =
    either_by (λ (bs : List Batch). length bs < 2 ^ 63) (next_place n == length chosen + 1) (chosen ++ batch ∷ []) chosen
    (λ is. let same = eqb-true (next_place n) (length chosen + 1) is in let longer = length-append chosen (batch ∷ []) in omega (arith, same, longer, few)) (λ isnt. low)

-- what holds of a batch that waits and of each of the list, holds of each of that
pub each-step : {S : Type 0} (P : Batch → Type 0) (chosen : List Batch) (n : Node S) (waiting : Option Batch) → IfSome waiting P → Each P chosen → Each P (chosen_with chosen (next_place n) waiting)
each-step P chosen n None own all = all
each-step P chosen n (Some batch) own all = either (λ (bs : List Batch). Each P bs) (next_place n == length chosen + 1) (chosen ++ batch ∷ []) chosen (each_end P chosen batch all own) all

-- what has been stated in a right world

-- in each batch of the list a request of the view manager stands alone
pub right_tame : {S : Type 0} (m : Meaning S) (w : World S) → WorldRight m w → IsTame w.view w.chosen
right_tame m w r = record { viewed = r.viewed; alone = all_alone w.chosen r.of; low = r.low }

-- a view of a place that has the number of one of the list's views is that one
pub numbered_at : {S : Type 0} (m : Meaning S) (w : World S) → WorldRight m w → (place : ℕ) (u : View) → Among u (views_after w.view w.chosen) → (view_at w.view w.chosen place).number ≡ u.number
    → view_at w.view w.chosen place ≡ u
numbered_at m w r place u there same =
    let tame = right_tame m w r in
    number_once w.view (length w.chosen) (views_after w.view w.chosen) (after_are w.view w.chosen (length w.chosen) tame.viewed tame.alone tame.low (omega arith)) (view_at w.view w.chosen place) u
    (front_there w.view (place - 1) w.chosen (view_at w.view w.chosen place) (present_there w.view (take (place - 1) w.chosen))) there same

-- each member's diary is a witness
pub right-witness : {S : Type 0} (m : Meaning S) (w : World S) → WorldRight m w → (member : ℕ) → IsWitness w member
right-witness {S = S} m w r =
    witness-of w
    (each-weaken (HostRight w.sent m w.view w.chosen) (HostStands w)
    (λ h right. record { lawful = right.diary.sound.lawful; ranged = right.diary.sound.ranged; backed = λ v force. backed_now w v force group_secret (stated w.sent) h.life.diary right.diary.sound }) w.hosts r.right)
    r.shown

-- what members have stated is witnessed in each view in force
pub right-witnessed : {S : Type 0} (m : Meaning S) (w : World S) → WorldRight m w → (v : View) → IsInForce w v → Witnessed group_secret digest_of v (is_among w.faulty) (diary w) (stated w.sent)
right-witnessed m w r v force = witnessing w v force (viewed_now w v force r.viewed r.of r.low) (r.few.each v force) (right-witness m w r)

-- each view that a node knows has witnesses
pub known-witnessed : {S : Type 0} (m : Meaning S) (w : World S) → WorldRight m w → w.ending ≡ None → (u : View) (k : ℕ) → Among u (views_after w.view (take k w.chosen))
    → Witnessed group_secret digest_of u (is_among w.faulty) (diary w) (stated w.sent)
known-witnessed m w r on u k there = right-witnessed m w r u (known_now w u k (few_of w.faulty (views_after w.view w.chosen) u (r.few.calm on) (front_there w.view k w.chosen u there)) r.of there)

-- so all marks of diaries are
each_found : {S : Type 0} (P : Host S → Type 0) (hosts : List (Host S)) (member : ℕ) (h : Host S) → Each P hosts → host_of hosts member ≡ Some h → P h
each_found P [] member h each at = absurd (cc)
each_found {S = S} P (x ∷ xs) member h each at = by (x.node.id == member) at (λ later. each_found P xs member h each.1 later)
  where
    by : (t : Bool) → cond t (Some x) (host_of xs member) ≡ Some h → (host_of xs member ≡ Some h → P h) → P h
    by true is rest = subst P (some_equal x h is) each.0
    by false is rest = rest is

pub right-marks : {S : Type 0} (m : Meaning S) (w : World S) → WorldRight m w → w.ending ≡ None → AreMarksRight m w.view w.chosen w.sent w.marked (is_among w.faulty) (diary w)
right-marks m w r on = marks-right m w (is_among w.faulty) (λ member h at. each_found (HostMarks m w.view w.chosen w.sent w.marked) w.hosts member h (r.marks on) at)

-- a list has a batch at each index below its length
get_some : (list : List Batch) (i : ℕ) → i < length list → (b : Batch) × (slice_get list i ≡ Some b)
get_some [] i low = absurd (omega (arith, low))
get_some (b ∷ bs) zero low = (b, refl)
get_some (b ∷ bs) (suc i) low = get_some bs i (omega (arith, low))

get_among : (list : List Batch) (i : ℕ) (b : Batch) → slice_get list i ≡ Some b → Among b list
get_among [] i b at = absurd (cc)
get_among (x ∷ xs) zero b at = inl (some_equal b x (sym at))
get_among (x ∷ xs) (suc i) b at = inr (get_among xs i b at)

-- what a book decides at a place of the list is the list's batch there
pub decides-chosen : {S : Type 0} (m : Meaning S) (w : World S) (es : List LogEntry) (d : Decision) → ChosenRight m w → EntryMet (IsMet w.sent) (Decided d) → IsSoundBook group_secret (stated w.sent) (views_after w.view w.chosen) es
    → Among (Decided d) es → (k : ℕ) → d.slot.place ≡ suc k → k < length w.chosen → batch_at w.chosen d.slot.place ≡ Some d.batch
decides-chosen {S = S} m w es d r met sound there k at low =
    let found = get_some w.chosen k low in
    let long : length (take k w.chosen) ≡ k = length-take-le k w.chosen (omega (arith, low)) in
    let v : View = view_behind w.view (take k w.chosen) in
    let before : d.slot.place - 1 ≡ k = omega (arith, at) in
    let here_is : view_at w.view w.chosen d.slot.place ≡ v = ap (λ (i : ℕ). present (views_after w.view (take i w.chosen))) before in
    let force : IsInForce w v = record { place = d.slot.place; low = omega (arith, at); within = inl (omega (arith, at, low)); is = here_is } in
    let holds : view_for (views_after w.view w.chosen) d.slot.place ≡ Some v =
    held_at w.view w.chosen d.slot.place r.1.viewed r.1.of r.1.low (omega (arith, at)) (omega (arith, at, low)) ∙ ap (λ (u : View). Some u) here_is in
    let own : Certified group_secret (stated w.sent) v d.slot.place (digest_of d.batch) = certified_book group_secret (stated w.sent) (views_after w.view w.chosen) es d sound there v holds in
    let listed : Certified group_secret (stated w.sent) v (length (take k w.chosen) + 1) (digest_of found.0) =
    certified_get group_secret digest_of (view_behind w.view) (stated w.sent) [] w.chosen k found.0 r.1.certified found.1 in
    let same : length (take k w.chosen) + 1 ≡ d.slot.place = omega (arith, long, at) in
    let here : Certified group_secret (stated w.sent) v d.slot.place (digest_of found.0) = subst (λ (p : ℕ). Certified group_secret (stated w.sent) v p (digest_of found.0)) same listed in
    let one : digest_of d.batch ≡ digest_of found.0 =
    decided_once group_secret digest_of v (is_among w.faulty) (diary w) (stated w.sent) (right-witnessed m w r.1 v force) d.slot.place own.regency here.regency (digest_of d.batch) (digest_of found.0) own.accepts here.accepts
    own.decision here.decision in
    let batch : d.batch ≡ found.0 = (grounded-exact w (d.batch ∷ []) r.0.0 (met, tt)).one d.batch found.0 (inl refl) (get_among w.chosen k found.0 found.1) one in
    ap (λ (p : ℕ). batch_at w.chosen p) at ∙ (found.1 ∙ ap (λ (b : Batch). Some b) (sym batch))

-- so a book that makes no place past the end of the list decides along it
pub book-along : {S : Type 0} (m : Meaning S) (w : World S) (es : List LogEntry) → ChosenRight m w → Each (EntryMet (IsMet w.sent)) es → BookRight w.sent w.view w.chosen es → AreAlong w.chosen es
book-along {S = S} m w es r met right = record {
  decided = λ d there.
      let s = split_at es (Decided d) there in
      let vs : List View = views_after w.view w.chosen in
      let turn = in_turn group_secret (stated w.sent) vs s.before d s.after (subst (λ (xs : List LogEntry). IsSoundBook group_secret (stated w.sent) vs xs) s.is right.sound) in
      let most = made_most es d.slot.place (record { entry = Decided d; there = there; made = refl }) in
      let within = right.within in
      decides-chosen m w es d r (each_among (EntryMet (IsMet w.sent)) es (Decided d) met there) right.sound there (last_made s.before) (omega (arith, turn)) (omega (arith, turn, most, within));
  reached = right.within;
}

-- a batch that a node delivers is the list's at its place, with the number of its requests that are executed there
pub due-agrees : {S : Type 0} (m : Meaning S) (stated : List Statement) (view : View) (chosen : List Batch) (whole : List LogEntry) (n : Node S) (d : Delivery) → IsSound stated view n → n.entries ≡ cut_at n.opening whole
    → AreAlong chosen whole → IsAt m view chosen n → WasDue m n d → IsChosenAt m view chosen d
due-agrees {S = S} m stated view chosen whole n d sound cut along at was =
    let before : n.replica.place ≡ d.place - 1 = omega (arith, was.place) in
    let same : n.replica ≡ state m view (take (d.place - 1) chosen) = at.replica ∙ ap (λ (k : ℕ). state m view (take k chosen)) before in
    record {
      batch = subst (λ (k : ℕ). batch_at chosen k ≡ Some d.batch) (sym was.place) (decided_at chosen whole (next_place n) d.batch along (waiting_decided stated view whole n d.batch sound cut was.batch));
      executed = was.executed ∙ ap (λ (r : Replica S). length (executed_lines m r d.batch)) same;
    }

-- what stands at an index stands within the list
get_low : (list : List Batch) (k : ℕ) (batch : Batch) → slice_get list k ≡ Some batch → k ≤ length list
get_low [] k batch at = absurd (cc)
get_low (b ∷ bs) zero batch at = omega arith
get_low (b ∷ bs) (suc k) batch at = omega (arith, get_low bs k batch at)

-- what stands at a place stands within the list
place_low : (list : List Batch) (place : ℕ) (batch : Batch) → batch_at list place ≡ Some batch → place - 1 ≤ length list
place_low list zero batch at = absurd (cc)
place_low list (suc k) batch at = omega (arith, get_low list k batch at)

-- the list grows

-- what was delivered along it, was delivered along the longer one
pub chosen_longer : {S : Type 0} (m : Meaning S) (view : View) (chosen more : List Batch) → take (length chosen) more ≡ chosen → (d : Delivery) → IsChosenAt m view chosen d → IsChosenAt m view more d
chosen_longer m view chosen more front d is =
    record {
      batch = front-batch_at chosen more d.place d.batch front is.batch;
      executed = is.executed
          ∙ ap (λ (bs : List Batch). length (executed_lines m (state m view bs) d.batch)) (front-take chosen more (d.place - 1) front (place_low chosen d.place d.batch is.batch));
    }

pub book_longer : (sent : List Sent) (view : View) (chosen more : List Batch) → IsTame view more → take (length chosen) more ≡ chosen → (es : List LogEntry) → BookRight sent view chosen es → BookRight sent view more es
book_longer sent view chosen more tame front es b = record { sound = book_more_batches group_secret (stated sent) view chosen more es tame front b.within b.sound; within = omega (arith, b.within, front-length chosen more front) }

wrote_longer : {S : Type 0} (sent : List Sent) (m : Meaning S) (view : View) (chosen more : List Batch) → IsTame view more → take (length chosen) more ≡ chosen → (h : Host S) (whole : List LogEntry) → HasWritten sent m view chosen h whole
    → HasWritten sent m view more h whole
wrote_longer sent m view chosen more tame front h whole w = record {
  is = w.is;
  cut = w.cut;
  made = w.made;
  right = book_longer sent view chosen more tame front whole w.right;
  met = w.met;
  past = w.past;
  at = at_longer m view chosen more h.node front w.at;
  knows = w.knows;
  bounded = w.bounded;
}

pub host_longer : {S : Type 0} (sent : List Sent) (m : Meaning S) (view : View) (chosen more : List Batch) → IsTame view more → take (length chosen) more ≡ chosen → (h : Host S) → HostRight sent m view chosen h
    → HostRight sent m view more h
host_longer sent m view chosen more tame front h r =
    record {
      sound = r.sound;
      shared = r.shared;
      all = r.all;
      past = r.past;
      lasts = r.lasts;
      snapshots = each-weaken (IsSnapshotAt m view chosen) (IsSnapshotAt m view more) (snapshot_longer m view chosen more front) r.all r.snapshots;
      whole = r.whole;
      wrote = wrote_longer sent m view chosen more tame front h r.whole r.wrote;
      count = r.count;
      places = r.places;
      agrees = each-weaken (IsChosenAt m view chosen) (IsChosenAt m view more) (chosen_longer m view chosen more front) h.delivered r.agrees;
      earlier = each-weaken (IsChosenAt m view chosen) (IsChosenAt m view more) (chosen_longer m view chosen more front) h.earlier r.earlier;
      diary = book_longer sent view chosen more tame front h.life.diary r.diary;
      aside = book_longer sent view chosen more tame front h.life.aside r.aside;
      few = r.few;
    }

-- more is sent

-- what is certified stays so
pub certified_sent : (sent : List Sent) (s : Sent) (view : View) (batches : List Batch) → AreDecided (stated sent) view batches → AreDecided (stated (sent ++ s ∷ [])) view batches
certified_sent sent s view batches all =
    subst (λ (xs : List Statement). AreDecided xs view batches) (sym (stated-end sent s))
    (certified_more group_secret digest_of (view_behind view) (stated sent) (stated_in s.content) [] batches all)

book_sent : (sent : List Sent) (s : Sent) (view : View) (chosen : List Batch) (es : List LogEntry) → BookRight sent view chosen es → BookRight (sent ++ s ∷ []) view chosen es
book_sent sent s view chosen es b = record {
  sound = book_more (stated sent) (stated (sent ++ s ∷ [])) (among-all (stated sent) (stated (sent ++ s ∷ [])) (stated-grows sent s)) group_secret (views_after view chosen) es b.sound;
  within = b.within;
}

met_sent : (sent : List Sent) (s : Sent) (es : List LogEntry) → Each (EntryMet (IsMet sent)) es → Each (EntryMet (IsMet (sent ++ s ∷ []))) es
met_sent sent s es met = each-weaken (EntryMet (IsMet sent)) (EntryMet (IsMet (sent ++ s ∷ []))) (entry-weaker (IsMet sent) (IsMet (sent ++ s ∷ [])) (met-grows sent s)) es met

wrote_sent : {S : Type 0} (sent : List Sent) (s : Sent) (m : Meaning S) (view : View) (chosen : List Batch) (h : Host S) (whole : List LogEntry) → HasWritten sent m view chosen h whole → HasWritten (sent ++ s ∷ []) m view chosen h whole
wrote_sent sent s m view chosen h whole w = record {
  is = w.is;
  cut = w.cut;
  made = w.made;
  right = book_sent sent s view chosen whole w.right;
  met = met_sent sent s whole w.met;
  past = w.past;
  at = w.at;
  knows = book_more (stated sent) (stated (sent ++ s ∷ [])) (among-all (stated sent) (stated (sent ++ s ∷ [])) (stated-grows sent s)) group_secret h.node.replica.views whole w.knows;
  bounded = w.bounded;
}

-- and who is right
pub host_sent : {S : Type 0} (sent : List Sent) (s : Sent) (m : Meaning S) (view : View) (chosen : List Batch) (h : Host S) → HostRight sent m view chosen h → HostRight (sent ++ s ∷ []) m view chosen h
host_sent sent s m view chosen h r =
    record {
      sound = sound_more (stated sent) (stated (sent ++ s ∷ [])) (among-all (stated sent) (stated (sent ++ s ∷ [])) (stated-grows sent s)) view h.node r.sound;
      shared = r.shared;
      all = r.all;
      past = r.past;
      lasts = r.lasts;
      snapshots = r.snapshots;
      whole = r.whole;
      wrote = wrote_sent sent s m view chosen h r.whole r.wrote;
      count = r.count;
      places = r.places;
      agrees = r.agrees;
      earlier = r.earlier;
      diary = book_sent sent s view chosen h.life.diary r.diary;
      aside = book_sent sent s view chosen h.life.aside r.aside;
      few = few-sent sent s r.whole h r.few;
    }

-- ---- fronts of books

last_front : (count : ℕ) (es : List LogEntry) → last_made (take count es) ≤ last_made es
last_front zero es = omega arith
last_front (suc k) [] = omega arith
last_front (suc k) (e ∷ es) = let rest = last_front k es in omega (arith, rest)

pub front_right : (sent : List Sent) (view : View) (chosen : List Batch) (count : ℕ) (es : List LogEntry) → BookRight sent view chosen es → BookRight sent view chosen (take count es)
front_right sent view chosen count es b =
    let within = b.within in
    let front = last_front count es in
    record { sound = front_sound group_secret (stated sent) (views_after view chosen) es count b.sound; within = omega (arith, within, front) }

-- nothing is one
pub none_right : (sent : List Sent) (view : View) (chosen : List Batch) (es : List LogEntry) → BookRight sent view chosen es → BookRight sent view chosen []
none_right sent view chosen es b = front_right sent view chosen 0 es b
