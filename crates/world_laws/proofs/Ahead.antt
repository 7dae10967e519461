-- What the next device call of a right host's store needs: its tail is right and has a spelling, and so has what begins.
use Rattle.std.proofs.Common.{◌≡◌, inl, inr, ℕ, max, ◌^◌, ◌<◌, ◌≤◌, Bool, true, cond, List, [], ◌∷◌, length, drop, Option, Some, None, IfSome, ap, sym, subst, arith}
use Rattle.smart_base.specs.Lists.{Each}
use Rattle.vote_book.specs.Entries.{FitsEntry}
use Rattle.vote_book.specs.declared.entry.LogEntry.{LogEntry}
use Rattle.book_laws.specs.BookCuts.{cut_at, until_installed}
use Rattle.store_form.specs.Spelling.{IsEntry}
use Rattle.store_laws.specs.States.{writes_tail, wants_tail}
use Rattle.store_laws.specs.Stands.{Aim}
use Rattle.store_laws.specs.Logs.{Makes}
use Rattle.store_laws.specs.Asked.{IsOneOf, NextIn}
use Rattle.store_laws.specs.Runs.{CallFits}
use Rattle.store_laws.specs.Stops.{is_installed}
use Rattle.store_laws.specs.Unswitched.{no_tail}
use Rattle.store_laws.specs.declared.job.Tail.{Tail}
use Rattle.store_laws.specs.declared.job.Ending.{Ending}
use Rattle.store_laws.specs.declared.job.Ending.TheVariants.{Closes, Repairs, Adds, Switches}
use Rattle.store_laws.specs.declared.job.StoreCall.{StoreCall}
use Rattle.store_laws.specs.declared.job.StoreCall.TheVariants.{On, WriteTail}
use Rattle.member_store.specs.Cuts.{StatesPlace, HoldsWritten}
use Rattle.member_store.proofs.BookFits.{call_spells}
use Rattle.member_store.proofs.CutLengths.{cut_fits}
use Rattle.member_store.proofs.Fronts.{until_front, until_length}
use Rattle.node_rules.specs.Tails.{tail_of}
use Rattle.node_laws.proofs.Cuts.{cut_each}
use Rattle.world_rules.specs.Fronts.{stated_place}
use Rattle.world_rules.specs.Worlds.{Host, written, log_tail, tail_due}
use Rattle.world_laws.proofs.Lives.{Running, each_drop, written_long}
use Rattle.agreement_laws.proofs.Lists.{each_append, each_take}

-- what holds of each of some snapshots, holds of one of them
pub one_of : (P : List ℕ → Type 0) (all : List (List ℕ)) (x : List ℕ) → Each P all → IsOneOf all x → P x
one_of P [] x each is = absurd is
one_of P (one ∷ more) x each (inl same) = subst P (sym same) each.0
one_of P (one ∷ more) x each (inr later) = one_of P more x each.1 later

-- a job that still writes a tail switches to a checkpoint of its place
switches_to : (P Q : List ℕ → Type 0) (calls : List StoreCall) (ending : Ending) (written : Option Tail) (adding : List (List ℕ)) (a : Aim) → Makes calls ending written adding a → NextIn P calls ending a.next
    → NextIn Q calls ending a.next → writes_tail calls ≡ true → P a.next.snapshot × Q a.next.snapshot
switches_to P Q [] ending written adding a m p q wants = absurd cc
switches_to P Q (On device call ∷ left) ending written adding a m p q wants = absurd cc
switches_to P Q (WriteTail ∷ left) (Closes odd) written adding a m p q wants = absurd m.plain
switches_to P Q (WriteTail ∷ left) Repairs written adding a m p q wants = absurd m.plain
switches_to P Q (WriteTail ∷ left) (Adds end) written adding a m p q wants = absurd m.plain
switches_to P Q (WriteTail ∷ left) (Switches end last) written adding a m p q wants = (p, q)

-- that place is not 0, if each snapshot states one that is not
pub tail_ahead : {S : Type 0} (all : List (List ℕ)) (past : ℕ) (h : Host S) → Running all past h → Each (λ x. 0 < stated_place x) all → wants_tail h.store ≡ true → 0 < h.switching
tail_ahead all past h r some wants =
    let k : HoldsWritten all h.store past (max h.node.opening h.switching) h.switching (written h) h.life.aside = r.holds in
    let both = switches_to (StatesPlace h.switching) (IsOneOf all) h.store.running h.store.ending k.written h.store.adding k.aim k.logs k.next k.snapshots.next wants in
    subst (λ (place : ℕ). 0 < place) both.0 (one_of (λ x. 0 < stated_place x) all k.aim.next.snapshot some both.1)

-- ---- spellings

short_asked : (all : List (List ℕ)) (o : Option (List ℕ)) → Each IsEntry all → IfSome o (IsOneOf all) → IfSome o IsEntry
short_asked all None short is = tt
short_asked all (Some x) short is = one_of IsEntry all x short is

-- all that was written has a spelling
pub written_fits : {S : Type 0} (h : Host S) → Each FitsEntry h.life.diary → Each FitsEntry h.node.entries → Each FitsEntry (written h)
written_fits h diary own = each_append FitsEntry h.life.diary (drop h.node.firm h.node.entries) diary (each_drop FitsEntry h.node.firm h.node.entries own)

-- so has what the next call writes
pub call_fits : {S : Type 0} (all : List (List ℕ)) (past : ℕ) (h : Host S) → h.node.firm ≤ length h.node.entries → Running all past h → Each FitsEntry h.life.diary → Each FitsEntry h.node.entries
    → length (written h) < 2 ^ 28 → Each IsEntry all → CallFits is_installed (tail_due h) h.store
unfolding tail_of
call_fits all past h low r diary own few short =
    let k : HoldsWritten all h.store past (max h.node.opening h.switching) h.switching (written h) h.life.aside = r.holds in
    let long = written_long all past h low r in
    let book : List LogEntry = until_installed h.switching h.node.entries in
    let less = cut_fits h.switching book in
    let shorter = until_length h.switching h.node.entries in
    let fit : Each FitsEntry book = subst (λ (es : List LogEntry). Each FitsEntry es) (until_front h.switching h.node.entries) (each_take FitsEntry (length book) h.node.entries own) in
    call_spells all h.store past (max h.node.opening h.switching) h.switching (written h) h.life.aside (cut_at h.switching book) (tail_due h) k (written_fits h diary own) few (short_asked all h.store.asked short k.snapshots.asked)
    (λ wants. ap (λ (b : Bool). (cond b (log_tail h.node h.switching) no_tail).entries) wants)
    (cut_each FitsEntry h.switching book fit) (omega (arith, long, less, shorter, few))
