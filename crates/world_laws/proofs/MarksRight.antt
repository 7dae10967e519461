-- Each mark that a member has written down is of a state of the list, whose snapshot was met.
use Rattle.std.proofs.Common.{◌≡◌, ℕ, ◌<◌, ◌++◌, ◌∙◌, Bool, List, [], ◌∷◌, length, take, Option, Some, None, ap, sym, subst, arith}
use Rattle.std.specs.List.{flat_map}
use Rattle.smart_base.specs.Lists.{Each}
use Rattle.smart_base.specs.Views.{View}
use Rattle.smart_base.proofs.ViewFacts.{each-weaken}
use Rattle.smart_statements.specs.Batches.{Batch}
use Rattle.smart_statements.specs.declared.entry.NodeEvent.{NodeEvent}
use Rattle.smart_statements.specs.declared.report.Mark.{Mark}
use Rattle.smart_service.specs.Services.{Meaning}
use Rattle.smart_service.specs.declared.replica.Replica.{Replica}
use Rattle.snapshot_form.specs.Snapshots.{snapshot_text}
use Rattle.store_laws.specs.Restored.{Images}
use Rattle.vote_book.specs.Books.{Among}
use Rattle.vote_book.specs.declared.entry.LogEntry.{LogEntry}
use Rattle.vote_book.specs.declared.entry.LogEntry.TheVariants.{Opened, Wrote, Accepted, Promised, Synced, Decided, Installed, Marked}
use Rattle.agreement_laws.proofs.Lists.{each_among, each_append}
use Rattle.node_rules.specs.Nodes.{Node}
use Rattle.book_laws.specs.BookCuts.{cut_at}
use Rattle.node_laws.proofs.Cuts.{cut_each}
use Rattle.node_rules.specs.Steps.{Outcome, opened, step_of}
use Rattle.node_rules.specs.declared.node.Fired.{Fired}
use Rattle.world_rules.specs.Stated.{diary, diary_of}
use Rattle.world_rules.specs.Worlds.{Host, World, course_of, host_after, host_crashed, host_of, host_of_node, host_resumed, outset_of, snapshot_in, store_after}
use Rattle.world_rules.specs.declared.message.Sent.{Sent}
use Rattle.world_laws.proofs.Additions.{IsMarkPast}
use Rattle.world_laws.proofs.Keeps.{after_call}
use Rattle.world_laws.proofs.Lives.{EachLife, life-called, life-crashed, life-firm, life-weaker}
use Rattle.world_laws.proofs.MarksTold.{IsToldMark, writes-step}
use Rattle.world_laws.proofs.NoClash.{IsTextMet}
use Rattle.world_laws.proofs.Snapshots.{longer_place, snapshot_longer}
use Rattle.world_laws.proofs.Stands.{IsStateAt}
use Rattle.world_laws.proofs.Taken.{AreMarksRight, IsRightMark}

-- an entry that is right, if it is a mark
abbrev pub EntryMarked : {S : Type 0} → Meaning S → View → List Batch → List Sent → List (List ℕ) → LogEntry → Type 0
EntryMarked m view chosen sent marked (Opened o) = Unit {0}
EntryMarked m view chosen sent marked (Wrote w) = Unit {0}
EntryMarked m view chosen sent marked (Accepted a) = Unit {0}
EntryMarked m view chosen sent marked (Promised p) = Unit {0}
EntryMarked m view chosen sent marked (Synced s) = Unit {0}
EntryMarked m view chosen sent marked (Decided d) = Unit {0}
EntryMarked m view chosen sent marked (Installed i) = Unit {0}
EntryMarked m view chosen sent marked (Marked k) = IsRightMark m view chosen sent marked k

-- a host whose marks are right, in its node's book and in what is written down of its member's lives
pub record HostMarks {S : Type 0} (m : Meaning S) (view : View) (chosen : List Batch) (sent : List Sent) (marked : List (List ℕ)) (h : Host S) : Type 0 where
  pub book : Each (EntryMarked m view chosen sent marked) h.node.entries
  pub life : EachLife (EntryMarked m view chosen sent marked) h.life

-- ---- more is met, and the list grows

module _ {S : Type 0} (m : Meaning S) (view : View) (chosen more : List Batch) (sent sent' : List Sent) (marked marked' : List (List ℕ)) (front : take (length chosen) more ≡ chosen)
    (met : (text : List ℕ) → IsTextMet sent marked text → IsTextMet sent' marked' text) where
  right_longer : (k : Mark) → IsRightMark m view chosen sent marked k → IsRightMark m view more sent' marked' k
  right_longer k is = record {
    snapshot = is.snapshot;
    at = snapshot_longer m view chosen more front is.snapshot is.at;
    place_is = longer_place m view chosen more front is.snapshot is.at ∙ is.place_is;
    digest_is = is.digest_is;
    was_met = met is.snapshot is.was_met;
  }

  pub entry_longer : (e : LogEntry) → EntryMarked m view chosen sent marked e → EntryMarked m view more sent' marked' e
  entry_longer (Marked k) is = right_longer k is
  entry_longer (Opened o) is = tt
  entry_longer (Wrote w) is = tt
  entry_longer (Accepted a) is = tt
  entry_longer (Promised p) is = tt
  entry_longer (Synced s) is = tt
  entry_longer (Decided d) is = tt
  entry_longer (Installed i) is = tt

  pub marks_longer : (h : Host S) → HostMarks m view chosen sent marked h → HostMarks m view more sent' marked' h
  marks_longer h is = record {
    book = each-weaken (EntryMarked m view chosen sent marked) (EntryMarked m view more sent' marked') entry_longer h.node.entries is.book;
    life = life-weaker (EntryMarked m view chosen sent marked) (EntryMarked m view more sent' marked') entry_longer h.life is.life;
  }

-- ---- a step

-- a mark that a step writes down and tells is right, if the replica behind the step is the list's
told-right : {S : Type 0} (m : Meaning S) (view : View) (chosen : List Batch) (sent : List Sent) (marked : List (List ℕ)) (r : Replica S) (told : List Fired) → IsStateAt m view chosen r
    → ((text : List ℕ) → Among text (flat_map snapshot_in told) → IsTextMet sent marked text) → (e : LogEntry) → IsToldMark m r told e → EntryMarked m view chosen sent marked e
told-right m view chosen sent marked r told stands met (Marked k) is = record {
  snapshot = snapshot_text m r;
  at = record { place = r.place; some = is.0.1; within = stands.reached; bytes_is = ap (λ x. snapshot_text m x) stands.replica };
  place_is = sym (ap (λ (x : Mark). x.place) is.0.0);
  digest_is = sym (ap (λ (x : Mark). x.digest) is.0.0);
  was_met = met (snapshot_text m r) is.1;
}
told-right m view chosen sent marked r told stands met (Opened o) is = tt
told-right m view chosen sent marked r told stands met (Wrote w) is = tt
told-right m view chosen sent marked r told stands met (Accepted a) is = tt
told-right m view chosen sent marked r told stands met (Promised p) is = tt
told-right m view chosen sent marked r told stands met (Synced s) is = tt
told-right m view chosen sent marked r told stands met (Decided d) is = tt
told-right m view chosen sent marked r told stands met (Installed i) is = tt

-- so a host's marks stay right where its node takes an event
pub marks-stepped : {S : Type 0} (m : Meaning S) (view : View) (chosen : List Batch) (sent : List Sent) (marked : List (List ℕ)) (h : Host S) (event : NodeEvent) → IsStateAt m view chosen (step_of m h.node event).node.replica
    → ((text : List ℕ) → Among text (flat_map snapshot_in (step_of m h.node event).fired) → IsTextMet sent marked text) → HostMarks m view chosen sent marked h
    → HostMarks m view chosen sent marked (host_after (course_of m) h (step_of m h.node event))
marks-stepped {S = S} m view chosen sent marked h event stands met is =
    let o : Outcome S = step_of m h.node event in
    let w = writes-step m h.node event in
    let P : LogEntry → Type 0 = EntryMarked m view chosen sent marked in
    let all : Each P o.node.entries =
    subst (λ (es : List LogEntry). Each P es) (sym w.book_is)
    (each_append P h.node.entries w.rest is.book
    (each-weaken (IsToldMark m o.node.replica o.fired) P (told-right m view chosen sent marked o.node.replica o.fired stands met) w.rest w.marks)) in
    record { book = all; life = life-firm P h.life h.node o.node all is.life }

-- and where its member crashes
pub marks-crashed : {S : Type 0} (m : Meaning S) (view : View) (chosen : List Batch) (sent : List Sent) (marked : List (List ℕ)) (h : Host S) (left : Images) → HostMarks m view chosen sent marked h
    → HostMarks m view chosen sent marked (host_crashed (course_of m) h left)
marks-crashed m view chosen sent marked h left is = record { book = is.book; life = life-crashed (EntryMarked m view chosen sent marked) h left is.book is.life }

-- where its store makes a call
pub marks-called : {S : Type 0} (m : Meaning S) (view : View) (chosen : List Batch) (sent : List Sent) (marked : List (List ℕ)) (h : Host S) → HostMarks m view chosen sent marked h
    → HostMarks m view chosen sent marked (after_call (course_of m) h)
marks-called m view chosen sent marked h is = record { book = is.book; life = life-called (EntryMarked m view chosen sent marked) h.life (store_after h) is.life }

-- an entry that is no mark is right
unmarked-right : {S : Type 0} (m : Meaning S) (view : View) (chosen : List Batch) (sent : List Sent) (marked : List (List ℕ)) (e : LogEntry) → ((place : ℕ) → IsMarkPast place e) → EntryMarked m view chosen sent marked e
unmarked-right m view chosen sent marked (Marked k) none = let less : k.place < k.place = none k.place in absurd (omega (arith, less))
unmarked-right m view chosen sent marked (Opened o) none = tt
unmarked-right m view chosen sent marked (Wrote w) none = tt
unmarked-right m view chosen sent marked (Accepted a) none = tt
unmarked-right m view chosen sent marked (Promised p) none = tt
unmarked-right m view chosen sent marked (Synced s) none = tt
unmarked-right m view chosen sent marked (Decided d) none = tt
unmarked-right m view chosen sent marked (Installed i) none = tt

all-unmarked : {S : Type 0} (m : Meaning S) (view : View) (chosen : List Batch) (sent : List Sent) (marked : List (List ℕ)) (es : List LogEntry) → ((place : ℕ) → Each (IsMarkPast place) es)
    → Each (EntryMarked m view chosen sent marked) es
all-unmarked m view chosen sent marked [] none = tt
all-unmarked m view chosen sent marked (e ∷ es) none =
    (unmarked-right m view chosen sent marked e (λ place. (none place).0), all-unmarked m view chosen sent marked es (λ place. (none place).1))

-- and where its node goes on from a cut of its diary
pub marks-resumed : {S : Type 0} (m : Meaning S) (view : View) (chosen : List Batch) (sent : List Sent) (marked : List (List ℕ)) (h : Host S) (n : Node S) (place : ℕ) (more : List LogEntry)
    → n.entries ≡ cut_at place h.life.diary ++ more → ((place : ℕ) → Each (IsMarkPast place) more) → HostMarks m view chosen sent marked h → HostMarks m view chosen sent marked (host_resumed h n)
marks-resumed m view chosen sent marked h n place more book none is = record {
  book = subst (λ (es : List LogEntry). Each (EntryMarked m view chosen sent marked) es) (sym book)
      (each_append (EntryMarked m view chosen sent marked) (cut_at place h.life.diary) more (cut_each (EntryMarked m view chosen sent marked) place h.life.diary is.life.diary)
      (all-unmarked m view chosen sent marked more none));
  life = is.life;
}

-- a node that opens its book has marked nothing
pub marks-opened : {S : Type 0} (m : Meaning S) (view : View) (chosen : List Batch) (sent : List Sent) (marked : List (List ℕ)) (id : ℕ) (first : View) (period : ℕ)
    → HostMarks m view chosen sent marked (host_of_node (opened (outset_of m first period id)))
marks-opened m view chosen sent marked id first period = record { book = (tt, tt); life = record { diary = tt; aside = tt } }

-- ---- all diaries

-- what holds of each host holds of one that is found, and of no diary where none is
found_diary : {S : Type 0} (P : LogEntry → Type 0) (found : Option (Host S)) → ((h : Host S) → found ≡ Some h → Each P h.life.diary) → Each P (diary_of found)
found_diary P None holds = tt
found_diary P (Some h) holds = holds h cc

pub marks-right : {S : Type 0} (m : Meaning S) (w : World S) (faulty : ℕ → Bool) → ((member : ℕ) (h : Host S) → host_of w.hosts member ≡ Some h → HostMarks m w.view w.chosen w.sent w.marked h)
    → AreMarksRight m w.view w.chosen w.sent w.marked faulty (diary w)
marks-right {S = S} m w faulty holds member correct k there =
    each_among (EntryMarked m w.view w.chosen w.sent w.marked) (diary w member) (Marked k)
    (found_diary (EntryMarked m w.view w.chosen w.sent w.marked) (host_of w.hosts member) (λ h is. (holds member h is).life.diary)) there
